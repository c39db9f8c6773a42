-- What an index of a peer's map gives.
use Rattle.std.proofs.Common.{◌≡◌, ℕ, ◌<◌, ◌≤◌, Bool, true, false, List, length, get_or, refl, sym, ap, ◌∙◌, arith, cond, Bor}
use Rattle.std.specs.Prelude.{Option, Some, None, find, slice_get, nat_lt, IfSome, MatchOption}
use Rattle.std.specs.Option.{option_copied}
use Rattle.std.specs.List.{position_from, position_or_len, HoldsAt}
use Rattle.std.proofs.lemmas.List.Folds.{find_at}
use Rattle.std.proofs.lemmas.Iterator.Adapters.{position_from-zero}
use Rattle.std.proofs.lemmas.Option.{slice_get_past, slice_get_read}
use Rattle.std.proofs.lemmas.Bool.Decides.{nat_tests}

one_place : {X : Type 0} (test : X → Bool) (xs : List X) (k : ℕ) (within : Bool)
    → cond within (Some (position_or_len test xs)) None ≡ Some k → slice_get xs k ≡ find test xs
one_place test xs k true e = let same : position_or_len test xs ≡ k = cc in ap (slice_get xs) (sym same) ∙ sym (find_at test xs)
one_place test xs k false e = cc

-- the first element of a list that passes stands at its place
pub at_place : {X : Type 0} (test : X → Bool) (xs : List X) (k : ℕ) → position_from test 0 xs ≡ Some k → slice_get xs k ≡ find test xs
at_place test xs k e = one_place test xs k (nat_lt (position_or_len test xs) (length xs)) (position_from-zero test xs ∙ e)

no_place : {X : Type 0} (test : X → Bool) (xs : List X) (within : Bool) → nat_lt (position_or_len test xs) (length xs) ≡ within
    → cond within (Some (position_or_len test xs)) None ≡ None → find test xs ≡ None
no_place test xs true is e = cc
no_place test xs false is e =
    let past : length xs ≤ position_or_len test xs = grind (arith, nat_tests) in
    find_at test xs ∙ slice_get_past xs (position_or_len test xs) past

pub at_no_place : {X : Type 0} (test : X → Bool) (xs : List X) → position_from test 0 xs ≡ None → find test xs ≡ None
at_no_place test xs e = no_place test xs (nat_lt (position_or_len test xs) (length xs)) refl (position_from-zero test xs ∙ e)

-- what a slice has at a place
pub read_at : {X : Type 0} (xs : List X) (k : ℕ) (r : Option (Bor X)) → IfSome r (λ x. x.now ≡ get_or xs k x.now)
    → MatchOption r (length xs ≤ k) (λ x. (k < length xs) × HoldsAt (λ y. x.now ≡ y) xs k) → option_copied r ≡ slice_get xs k
read_at xs k None reads within = sym (slice_get_past xs k within)
read_at xs k (Some x) reads within = sym (slice_get_read xs (length xs) k x.now refl within.0 reads)
