use Rattle.std.proofs.Common.{Result, Ok, Err, ℕ, rules}
use Rattle.std.specs.Prelude.{IfSome, IfNone, List, length}
use Rattle.std.specs.Ordering.{nat_cmp}
use Rattle.std.specs.Result.{result_ok}
use Rattle.std.specs.List.Sorted.{IsBinarySearchResult, IsSearchInRange}
use Rattle.std.proofs.lemmas.List.Sorted.{answers_always}
use Rattle.book_core.specs.declared.slot.RowSlot.{RowSlot}
use Rattle.book_core.specs.Rising.{Rises, Lacks, IsAt}
use Rattle.book_core.proofs.Places.{found_at, missing_at}
use Rattle.book_core.proofs.place.row_place.Goals as goal

found : (n : ℕ) (xs : List RowSlot) (r : Result ℕ ℕ) → IsSearchInRange r (length xs) → IsBinarySearchResult (λ (s : RowSlot). nat_cmp s.number n) xs r → IfSome (result_ok r) (λ at. IsAt (λ (s : RowSlot). s.number) n xs at)
found n xs (Ok i) bound h = found_at (λ (s : RowSlot). s.number) n xs i bound h
found n xs (Err i) bound h = tt

missing : (n : ℕ) (xs : List RowSlot) (r : Result ℕ ℕ) → IsBinarySearchResult (λ (s : RowSlot). nat_cmp s.number n) xs r → IfNone (result_ok r) (Rises (λ (s : RowSlot). s.number) xs → Lacks (λ (s : RowSlot). s.number) n xs)
missing n xs (Ok i) h = tt
missing n xs (Err i) h = missing_at (λ (s : RowSlot). s.number) n xs i h

pub returns-clause-found : goal.returns-clause-found
returns-clause-found c =
    let facts = c.binary_search_by_key.ensures in
    rw c.ok.ensures.value (found _ _ _ facts.bound (facts.position (λ s. s.number) (answers_always _ _ _ (λ f a r g called. search rules))))

pub returns-clause-missing : goal.returns-clause-missing
returns-clause-missing c =
    let facts = c.binary_search_by_key.ensures in
    rw c.ok.ensures.value (missing _ _ _ (facts.position (λ s. s.number) (answers_always _ _ _ (λ f a r g called. search rules))))
