-- The lists of a plan, row by row.
use Rattle.std.proofs.Common.{◌≡◌, Bool, List, [], ◌∷◌, ◌++◌, sym, ap, ◌∙◌, append_assoc}
use Rattle.std.specs.Prelude.{Option, map, filter, filter_map}
use Rattle.std.proofs.lemmas.List.{map-append}
use Rattle.std.proofs.lemmas.List.Elements.{filter-append, filter_map-append}

-- A list of a plan is what it gives of the first row, and then of the others.
pub one_kept : {X Y : Type 0} (give : X → Y) (test : X → Bool) (x : X) (xs : List X)
    → map give (filter test (x ∷ xs)) ≡ map give (filter test (x ∷ [])) ++ map give (filter test xs)
one_kept give test x xs = ap (map give) (filter-append test (x ∷ []) xs) ∙ map-append give (filter test (x ∷ [])) (filter test xs)

pub one_kept_of : {X Y : Type 0} (give : X → Y) (test wanted : X → Bool) (x : X) (xs : List X)
    → map give (filter test (filter wanted (x ∷ xs))) ≡ map give (filter test (filter wanted (x ∷ []))) ++ map give (filter test (filter wanted xs))
one_kept_of give test wanted x xs =
    ap (λ ys. map give (filter test ys)) (filter-append wanted (x ∷ []) xs)
    ∙ ap (map give) (filter-append test (filter wanted (x ∷ [])) (filter wanted xs))
    ∙ map-append give (filter test (filter wanted (x ∷ []))) (filter test (filter wanted xs))

pub one_given : {X Y : Type 0} (give : X → Option Y) (x : X) (xs : List X)
    → filter_map give (x ∷ xs) ≡ filter_map give (x ∷ []) ++ filter_map give xs
one_given give x xs = filter_map-append give (x ∷ []) xs

pub one_tested : {X Y : Type 0} (give : X → Option Y) (test : X → Bool) (x : X) (xs : List X)
    → filter_map give (filter test (x ∷ xs)) ≡ filter_map give (filter test (x ∷ [])) ++ filter_map give (filter test xs)
one_tested give test x xs = ap (filter_map give) (filter-append test (x ∷ []) xs) ∙ filter_map-append give (filter test (x ∷ [])) (filter test xs)

-- what was gathered and what the rest gives, after one more row
pub one_more : {X Y : Type 0} (lists : List X → List Y) → ((x : X) (xs : List X) → lists (x ∷ xs) ≡ lists (x ∷ []) ++ lists xs)
    → (old new : List Y) (x : X) (xs rest all : List X)
    → new ≡ old ++ lists (x ∷ []) → rest ≡ x ∷ xs → old ++ lists rest ≡ lists all → new ++ lists xs ≡ lists all
one_more lists split old new x xs rest all added first whole =
    ap (λ ys. ys ++ lists xs) added
    ∙ append_assoc old (lists (x ∷ [])) (lists xs)
    ∙ ap (λ ys. old ++ ys) (sym (split x xs) ∙ ap lists (sym first))
    ∙ whole
