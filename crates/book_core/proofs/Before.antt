-- What stood before one more change.
use Rattle.std.proofs.Common.{◌≡◌, ℕ, List, [], ◌∷◌, ◌++◌, length, set, get_or, refl, ap, ◌∙◌}
use Rattle.std.proofs.lemmas.List.{take_at, set-set, set-get_or}
use Rattle.book_core.specs.declared.table.Change.{Change}
use Rattle.book_core.specs.declared.table.Change.TheVariants.{Replaced, Added}
use Rattle.book_core.specs.Table.{before, undone}

pub before_more : {S : Type 0} (cs : List (Change S)) (c : Change S) (xs : List S) → before (cs ++ c ∷ []) xs ≡ before cs (undone c xs)
unfolding before
before_more [] c xs = refl
before_more (d ∷ cs) c xs = ap (undone d) (before_more cs c xs)

pub before_added : {S : Type 0} (cs : List (Change S)) (xs : List S) (s : S) → before (cs ++ Added (length xs) ∷ []) (xs ++ s ∷ []) ≡ before cs xs
before_added cs xs s = before_more cs (Added (length xs)) (xs ++ s ∷ []) ∙ ap (before cs) (take_at xs (s ∷ []) (length xs) refl)

pub before_replaced : {S : Type 0} (cs : List (Change S)) (xs : List S) (at : ℕ) (old new : S) → old ≡ get_or xs at old → before (cs ++ Replaced at old ∷ []) (set xs at new) ≡ before cs xs
before_replaced cs xs at old new e =
    before_more cs (Replaced at old) (set xs at new) ∙ ap (before cs) (set-set xs at new old ∙ ap (set xs at) e ∙ set-get_or xs at old)

pub before_none : {S : Type 0} (xs : List S) → before [] xs ≡ xs
unfolding before
before_none xs = refl
