-- What reads and writes, one after another, do to the bytes of a reader and a writer.
use Rattle.std.proofs.Common.{◌≡◌, ℕ, List, [], ◌∷◌, ◌++◌, refl, sym, ap, ◌∙◌, append_assoc, append-nil, Option, Some, None, IfSome}
use Rattle.std.specs.Fmt.{option_append, with_newline}
use Rattle.std.specs.Io.KnownBytes.{Consumes, Keeps, Appends}
use Rattle.amqr_files.specs.Print.{printed}

-- two reads
pub consumes_both : (a b c : Option (List ℕ)) (xs ys : List ℕ) → Consumes a b xs → Consumes b c ys → Consumes a c (xs ++ ys)
consumes_both None b c xs ys h k = tt
consumes_both (Some p) None c xs ys h k = absurd h
consumes_both (Some p) (Some q) None xs ys h k = absurd k
consumes_both (Some p) (Some q) (Some r) xs ys h k = h ∙ ap (λ (l : List ℕ). xs ++ l) k ∙ sym (append_assoc xs ys r)

-- a read that gave nothing
pub consumes_kept : (a b c : Option (List ℕ)) (xs : List ℕ) → Consumes a b xs → Keeps b c → Consumes a c xs
consumes_kept None b c xs h k = tt
consumes_kept (Some p) None c xs h k = absurd h
consumes_kept (Some p) (Some q) None xs h k = absurd k
consumes_kept (Some p) (Some q) (Some r) xs h k = h ∙ ap (λ (l : List ℕ). xs ++ l) (sym k)

-- a read of no bytes
pub consumes_none : (a b c : Option (List ℕ)) (xs : List ℕ) → Consumes a b xs → Consumes b c [] → Consumes a c xs
consumes_none None b c xs h k = tt
consumes_none (Some p) None c xs h k = absurd h
consumes_none (Some p) (Some q) None xs h k = absurd k
consumes_none (Some p) (Some q) (Some r) xs h k = h ∙ ap (λ (l : List ℕ). xs ++ l) k

-- nothing was read
pub consumes_nothing : (a : Option (List ℕ)) → Consumes a a []
consumes_nothing None = tt
consumes_nothing (Some p) = refl

-- two writes
pub appends_both : (a b c : Option (List ℕ)) (xs ys : List ℕ) → Appends a b xs → Appends b c ys → Appends a c (xs ++ ys)
appends_both None b c xs ys h k = tt
appends_both (Some p) None c xs ys h k = absurd h
appends_both (Some p) (Some q) None xs ys h k = absurd k
appends_both (Some p) (Some q) (Some r) xs ys h k = k ∙ ap (λ (l : List ℕ). l ++ ys) h ∙ append_assoc p xs ys

-- nothing was written
pub appends_nothing : (a : Option (List ℕ)) → Appends a a []
appends_nothing None = tt
appends_nothing (Some p) = sym (append-nil p)

printed_push : {L : Type 0} (text : L → Option (List ℕ)) (xs : List L) (x : L) → printed text (xs ++ x ∷ []) ≡ option_append (printed text xs) (with_newline (text x))
unfolding printed
printed_push text [] x = one (text x)
  where
    one : (o : Option (List ℕ)) → option_append (with_newline o) (Some []) ≡ option_append (Some []) (with_newline o)
    one None = refl
    one (Some bytes) = ap Some (append-nil (bytes ++ 10 ∷ []))
printed_push text (y ∷ ys) x = ap (option_append (with_newline (text y))) (printed_push text ys x) ∙ together (with_newline (text y)) (printed text ys) (with_newline (text x))
  where
    together : (p q r : Option (List ℕ)) → option_append p (option_append q r) ≡ option_append (option_append p q) r
    together None q r = refl
    together (Some a) None r = refl
    together (Some a) (Some b) None = refl
    together (Some a) (Some b) (Some c) = ap Some (sym (append_assoc a b c))

known_both : (a b c p q : Option (List ℕ)) → IfSome p (Appends a b) → IfSome q (Appends b c) → IfSome (option_append p q) (Appends a c)
known_both a b c None q h k = tt
known_both a b c (Some xs) None h k = tt
known_both a b c (Some xs) (Some ys) h k = appends_both a b c xs ys h k

-- nothing was printed yet
pub printed_nothing : {L : Type 0} (text : L → Option (List ℕ)) (a : Option (List ℕ)) → IfSome (printed text []) (Appends a a)
unfolding printed
printed_nothing text a = appends_nothing a

-- one more line
pub printed_more : {L : Type 0} (text : L → Option (List ℕ)) (lines more : List L) (x : L) (a b c : Option (List ℕ)) → IfSome (printed text lines) (Appends a b) → IfSome (with_newline (text x)) (Appends b c) → more ≡ lines ++ x ∷ [] → IfSome (printed text more) (Appends a c)
printed_more text lines more x a b c h k is = rw (is, printed_push text lines x) (known_both a b c (printed text lines) (with_newline (text x)) h k)
