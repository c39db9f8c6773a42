-- Bytes that were written, in pieces.
use Rattle.std.proofs.Common.{◌≡◌, ◌∙◌, sym, ap, ℕ, ◌+◌, List, ◌++◌, take, drop, Option, Some, None, append_assoc, subst}
use Rattle.std.proofs.Math.Seq.{take-add}
use Rattle.std.specs.Io.KnownBytes.{Appends, Keeps}

-- bytes, then more of them
pub appends_on : (a b c : Option (List ℕ)) (xs ys : List ℕ) → Appends a b xs → Appends b c ys → Appends a c (xs ++ ys)
appends_on None b c xs ys first rest = tt
appends_on (Some a) None c xs ys first rest = elim first [ ]
appends_on (Some a) (Some b) None xs ys first rest = elim rest [ ]
appends_on (Some a) (Some b) (Some c) xs ys first rest = rest ∙ (ap (λ (w : List ℕ). w ++ ys) first ∙ append_assoc a xs ys)

pub appends_more : (a b c : Option (List ℕ)) (d n : ℕ) (xs ys : List ℕ) → ys ≡ drop d xs → Appends a b (take d xs) → Appends b c (take n ys) → Appends a c (take (d + n) xs)
appends_more a b c d n xs ys is first rest =
    let more : take d xs ++ take n ys ≡ take (d + n) xs = ap (λ (w : List ℕ). take d xs ++ take n w) is ∙ sym (take-add d n xs) in
    subst (λ (w : List ℕ). Appends a c w) more (appends_on a b c (take d xs) (take n ys) first rest)

pub appends_kept : (a b c : Option (List ℕ)) (xs : List ℕ) → Appends a b xs → Keeps b c → Appends a c xs
appends_kept None b c xs first kept = tt
appends_kept (Some a) None c xs first kept = elim first [ ]
appends_kept (Some a) (Some b) None xs first kept = elim kept [ ]
appends_kept (Some a) (Some b) (Some c) xs first kept = kept ∙ first
