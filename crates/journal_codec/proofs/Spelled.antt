-- Acts encoded one after another.
use Rattle.std.proofs.Common.{◌≡◌, ℕ, ◌+◌, ◌-◌, ◌<◌, List, [], ◌∷◌, ◌++◌, length, take, drop, get_or, refl, sym, ap, ◌∙◌, subst, length-append, arith}
use Rattle.std.proofs.lemmas.List.{take_more, flat_map_more, take_at, drop_at}
use Rattle.book_model.specs.declared.act.Act.{Act}
use Rattle.journal_codec.specs.Format.{in_2, in_4, in_8, act_bytes, acts_bytes, batch}
use Rattle.journal_codec.specs.Batches.{HasOutcome, HasTerminus, HaveOutcomes, HaveTermini, IsWritable, AreWritable}

pub length-in_2 : (n : ℕ) → length (in_2 n) ≡ 2
unfolding in_2
length-in_2 n = refl

pub length-in_4 : (n : ℕ) → length (in_4 n) ≡ 4
unfolding in_4
length-in_4 n = refl

pub length-in_8 : (n : ℕ) → length (in_8 n) ≡ 8
unfolding in_8
length-in_8 n = refl

-- one more act of a list
pub one_more : (acts : List Act) (i : ℕ) (item : Act) → i < length acts → item ≡ get_or acts i item → take (i + 1) acts ≡ take i acts ++ item ∷ []
one_more acts i item l e = take_more acts i item l ∙ ap (λ a. take i acts ++ a ∷ []) (sym e)

pub acts_more : (o out new : List ℕ) (acts : List Act) (i : ℕ) (item : Act) → i < length acts → item ≡ get_or acts i item
    → out ≡ o ++ acts_bytes (take i acts) → new ≡ out ++ act_bytes item → new ≡ o ++ acts_bytes (take (i + 1) acts)
acts_more o out new acts i item l e so_far put =
    put
    ∙ ap (λ (b : List ℕ). b ++ act_bytes item) so_far
    ∙ flat_map_more act_bytes o (take i acts) item
    ∙ ap (λ (b : List Act). o ++ acts_bytes b) (sym (one_more acts i item l e))

outcomes_before : (xs : List Act) (x : Act) → HaveOutcomes (xs ++ x ∷ []) → HaveOutcomes xs × HasOutcome x
outcomes_before [] x h = (tt, h.0)
outcomes_before (y ∷ ys) x h = let rest = outcomes_before ys x h.1 in ((h.0, rest.0), rest.1)

termini_before : (xs : List Act) (x : Act) → HaveTermini (xs ++ x ∷ []) → HaveTermini xs × HasTerminus x
termini_before [] x h = (tt, h.0)
termini_before (y ∷ ys) x h = let rest = termini_before ys x h.1 in ((h.0, rest.0), rest.1)

writable_behind : (xs : List Act) (x : Act) → AreWritable xs → IsWritable x → AreWritable (xs ++ x ∷ [])
writable_behind [] x h i = (i, tt)
writable_behind (y ∷ ys) x h i = (h.0, writable_behind ys x h.1 i)

pub writable_more : (acts : List Act) (i : ℕ) (item : Act) → i < length acts → item ≡ get_or acts i item
    → (HaveOutcomes (take i acts) → HaveTermini (take i acts) → AreWritable (take i acts)) → (HasOutcome item → HasTerminus item → IsWritable item)
    → HaveOutcomes (take (i + 1) acts) → HaveTermini (take (i + 1) acts) → AreWritable (take (i + 1) acts)
writable_more acts i item l e so_far here =
    let P : List Act → Type 0 = λ b. HaveOutcomes b → HaveTermini b → AreWritable b in
    subst P (sym (one_more acts i item l e))
    (λ outcomes termini.
    let o = outcomes_before (take i acts) item outcomes in
    let t = termini_before (take i acts) item termini in
    writable_behind (take i acts) item (so_far o.0 t.0) (here o.1 t.1))

-- a batch whose length is written last
pub sealed : (items front new list : List ℕ) (len size : ℕ) → items ≡ in_4 0 ++ list → length items ≡ size → front ≡ items → len ≡ size - 4 → new ≡ in_4 len ++ drop 4 front
    → take size (new ++ drop (length new) items) ≡ in_4 (length list) ++ list
sealed items front new list len size is is_size same is_len put =
    let long : size ≡ 4 + length list = sym is_size ∙ ap length is ∙ length-append (in_4 0) list ∙ ap (λ (n : ℕ). n + length list) (length-in_4 0) in
    let behind : drop 4 front ≡ list = ap (drop 4) (same ∙ is) ∙ drop_at (in_4 0) list 4 (length-in_4 0) in
    let whole : new ≡ in_4 (length list) ++ list = put ∙ ap (λ (l : List ℕ). in_4 len ++ l) behind ∙ ap (λ (n : ℕ). in_4 n ++ list) (let same_len : len ≡ length list = omega arith in same_len) in
    let new_long : length new ≡ size = ap length whole ∙ length-append (in_4 (length list)) list ∙ ap (λ (n : ℕ). n + length list) (length-in_4 (length list)) ∙ sym long in
    take_at new (drop (length new) items) size new_long ∙ whole

pub sealed_batch : (acts : List Act) → in_4 (length (acts_bytes acts)) ++ acts_bytes acts ≡ batch acts
unfolding batch
sealed_batch acts = refl

pub length-batch : (acts : List Act) → length (batch acts) ≡ 4 + length (acts_bytes acts)
unfolding batch
length-batch acts = length-append (in_4 (length (acts_bytes acts))) (acts_bytes acts) ∙ ap (λ (n : ℕ). n + length (acts_bytes acts)) (length-in_4 (length (acts_bytes acts)))
