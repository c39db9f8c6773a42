-- What batches that apply leave, and what the next one needs.
use Rattle.std.proofs.Common.{◌≡◌, ℕ, ◌+◌, ◌-◌, List, [], ◌∷◌, ◌++◌, None, sym, ap, ◌∙◌, arith}
use Rattle.std.specs.Prelude.{sum_by}
use Rattle.book_model.specs.declared.act.Act.{Act}
use Rattle.book_model.specs.Book.{BookView, empty_book, first_fault, effects}
use Rattle.journal_codec.specs.Batches.{IsBatch, IsNextFrom, AllApply, book_after, HaveOutcomes, HaveTermini, AreWritable}
use Rattle.gate_journal.specs.Reserve.{reserve, growth, release}
use Rattle.gate_journal.proofs.Fronts.{book_more}
use Rattle.gate_journal.specs.Ordered.{IsOrdered}
use Rattle.gate_journal.proofs.Ordered.{empty_ordered}
use Rattle.gate_journal.proofs.Reserves.{acts_follow}

all_ordered : (b : BookView) (bs : List (List Act)) → IsOrdered b → AllApply b bs → IsOrdered (book_after b bs)
unfolding AllApply book_after
all_ordered b [] h all = h
all_ordered b (acts ∷ bs) h all = all_ordered (effects b acts) bs (acts_follow b acts h all.1).ordered all.2

pub after_ordered : (bs : List (List Act)) → AllApply empty_book bs → IsOrdered (book_after empty_book bs)
after_ordered bs all = all_ordered empty_book bs empty_ordered all

-- what is kept free behind acts, of any book whose numbers rise
pub reserve_behind : (b : BookView) (acts : List Act) (old new : ℕ) → IsOrdered b → first_fault b acts ≡ None → old ≡ reserve b
    → new ≡ old + sum_by growth acts - sum_by release acts → new ≡ reserve (effects b acts)
reserve_behind b acts old new ordered applies was is = omega (arith, was, is, (acts_follow b acts ordered applies).sums)

-- Above a book whose numbers rise.
module _ (start : BookView) (ordered : IsOrdered start) (bs : List (List Act)) (acts : List Act) (all : AllApply start bs) (next : IsNextFrom start bs acts) where
  pub next_is_batch : (HaveOutcomes acts → HaveTermini acts → AreWritable acts) → IsBatch acts
  next_is_batch writable = record {
    some = next.some;
    small = next.small;
    writable = writable next.outcomes (acts_follow (book_after start bs) acts (all_ordered start bs ordered all) next.applies).termini;
  }

  pub next_reserve : (old new : ℕ) → old ≡ reserve (book_after start bs) → new ≡ old + sum_by growth acts - sum_by release acts → new ≡ reserve (book_after start (bs ++ acts ∷ []))
  next_reserve old new was is = reserve_behind (book_after start bs) acts old new (all_ordered start bs ordered all) next.applies was is ∙ ap reserve (sym (book_more start bs acts))

pub made_ordered : (acts : List Act) → first_fault empty_book acts ≡ None → IsOrdered (effects empty_book acts)
made_ordered acts applies = (acts_follow empty_book acts empty_ordered applies).ordered
