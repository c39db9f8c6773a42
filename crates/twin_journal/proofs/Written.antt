-- A book that batches leave above a checkpoint can be written: each outcome in it is one, and each consumer has a
-- number above 0.
use Rattle.std.proofs.Common.{◌≡◌, ℕ, Bool, true, false, cond, List, [], ◌∷◌, ◌++◌, Option, Some, None, refl, sym, subst}
use Rattle.std.specs.Prelude.{is_some, map, ◌==◌, if◌then◌else◌}
use Rattle.std.specs.List.{cons_option, flat_map}
use Rattle.amqp_model.specs.declared.state.DeliveryState.{DeliveryState}
use Rattle.book_model.specs.declared.act.Act.{Act}
use Rattle.book_model.specs.declared.act.Act.TheVariants.{Make, Admit, Decide, Forget, Drop}
use Rattle.book_model.specs.declared.row.Row.{Row}
use Rattle.book_model.specs.declared.row.RowNumber.{RowNumber}
use Rattle.book_model.specs.declared.terminus.Terminus.{Terminus}
use Rattle.book_model.specs.Book.{BookView, empty_book, effect, effects, admitted, decided, forgotten, with_row}
use Rattle.book_model.specs.Restoring.{row_acts, decide_acts, forget_acts, restore_effect, raised, book_read}
use Rattle.journal_codec.specs.Batches.{IsOutcome, IsAboveZero, IsWritable, AreWritable, HaveOutcomes, HaveTermini, AllApply, book_after}
use Rattle.twin_journal.specs.Checkpoints.{IsCheckpoint}
use Rattle.twin_journal.specs.Reading.{IsWritten}

-- an outcome, if there is one, is one
abbrev IsKept : Option DeliveryState → Type 0
IsKept None = Unit {0}
IsKept (Some outcome) = IsOutcome outcome

record IsFine (r : Row) : Type 0 where
  consumer : IsAboveZero r.consumer
  outcome : IsKept r.outcome

abbrev AreFine : List Row → Type 0
AreFine [] = Unit {0}
AreFine (r ∷ rs) = IsFine r × AreFine rs

-- What acts do to such rows.
fine_more : (rs : List Row) (r : Row) → AreFine rs → IsFine r → AreFine (rs ++ r ∷ [])
fine_more [] r all fine = (fine, tt)
fine_more (s ∷ rs) r all fine = (all.0, fine_more rs r all.1 fine)

fine_option : (o : Option Row) (rs : List Row) → ((s : Row) → o ≡ Some s → IsFine s) → AreFine rs → AreFine (cons_option o rs)
fine_option None rs fine all = all
fine_option (Some s) rs fine all = (fine s refl, all)

module _ (n : ℕ) (change : Row → Option Row) (keeps : (r s : Row) → IsFine r → change r ≡ Some s → IsFine s) where
  fine_row : (r s : Row) (b : Bool) → IsFine r → cond b (change r) (Some r) ≡ Some s → IsFine s
  fine_row r s true fine e = keeps r s fine e
  fine_row r s false fine e = subst IsFine (let same : r ≡ s = cc in same) fine

  fine_rows : (rs : List Row) → AreFine rs → AreFine (with_row n change rs)
  fine_rows [] all = tt
  fine_rows (r ∷ rs) all = fine_option (cond (r.number.0 == n) (change r) (Some r)) (with_row n change rs) (λ s e. fine_row r s (r.number.0 == n) all.0 e) (fine_rows rs all.1)

fine_decided : (outcome : DeliveryState) → IsOutcome outcome → (r s : Row) → IsFine r → decided outcome r ≡ Some s → IsFine s
fine_decided outcome is r s fine e = by_forgotten r.forgotten e
  where
    by_forgotten : (b : Bool) → (if b then None else Some (record r { outcome = Some outcome })) ≡ Some s → IsFine s
    by_forgotten true f = absurd cc
    by_forgotten false f = subst IsFine (let same : record r { outcome = Some outcome } ≡ s = cc in same) (record { consumer = fine.consumer; outcome = is })

fine_forgotten : (r s : Row) → IsFine r → forgotten r ≡ Some s → IsFine s
fine_forgotten r s fine e = by_outcome (is_some r.outcome) e
  where
    by_outcome : (b : Bool) → (if b then None else Some (record r { forgotten = true })) ≡ Some s → IsFine s
    by_outcome true f = absurd cc
    by_outcome false f = subst IsFine (let same : record r { forgotten = true } ≡ s = cc in same) (record { consumer = fine.consumer; outcome = fine.outcome })

act_keeps : (b : BookView) (act : Act) → IsWritable act → AreFine b.rows → AreFine (effect b act).rows
act_keeps b (Make t) is all = all
act_keeps b (Admit a) is all = fine_more b.rows (admitted a) all (record { consumer = is.above_zero; outcome = tt })
act_keeps b (Decide d) is all = fine_rows d.row.0 (decided d.outcome) (fine_decided d.outcome is.2) b.rows all
act_keeps b (Forget n) is all = fine_rows n.0 forgotten fine_forgotten b.rows all
act_keeps b (Drop n) is all = all

acts_keep : (b : BookView) (acts : List Act) → AreWritable acts → AreFine b.rows → AreFine (effects b acts).rows
unfolding effects
acts_keep b [] is all = all
acts_keep b (act ∷ acts) is all = acts_keep (effect b act) acts is.1 (act_keeps b act is.0 all)

batches_keep : (b : BookView) (bs : List (List Act)) → AllApply b bs → AreFine b.rows → AreFine (book_after b bs).rows
unfolding AllApply book_after
batches_keep b [] valid all = all
batches_keep b (acts ∷ bs) valid all = batches_keep (effects b acts) bs valid.2 (acts_keep b acts valid.0.writable all)

read_keeps : (b : BookView) (act : Act) → IsWritable act → AreFine b.rows → AreFine (restore_effect b act).rows
read_keeps b (Make t) is all = act_keeps (raised b (Make t)) (Make t) is all
read_keeps b (Admit a) is all = act_keeps (raised b (Admit a)) (Admit a) is all
read_keeps b (Decide d) is all = act_keeps b (Decide d) is all
read_keeps b (Forget n) is all = act_keeps b (Forget n) is all
read_keeps b (Drop n) is all = act_keeps b (Drop n) is all

reads_keep : (b : BookView) (acts : List Act) → AreWritable acts → AreFine b.rows → AreFine (book_read b acts).rows
unfolding book_read
reads_keep b [] is all = all
reads_keep b (act ∷ acts) is all = reads_keep (restore_effect b act) acts is.1 (read_keeps b act is.0 all)

checkpoint_fine : (bytes : List ℕ) (book : BookView) → IsCheckpoint bytes book → AreFine book.rows
checkpoint_fine bytes book is = subst (λ (b : BookView). AreFine b.rows) (sym is.book_is) (reads_keep empty_book is.acts is.writable tt)

-- The acts of such a book.
outcomes_more : (xs ys : List Act) → HaveOutcomes xs → HaveOutcomes ys → HaveOutcomes (xs ++ ys)
outcomes_more [] ys h i = i
outcomes_more (x ∷ xs) ys h i = (h.0, outcomes_more xs ys h.1 i)

termini_more : (xs ys : List Act) → HaveTermini xs → HaveTermini ys → HaveTermini (xs ++ ys)
termini_more [] ys h i = i
termini_more (x ∷ xs) ys h i = (h.0, termini_more xs ys h.1 i)

record AreDone (acts : List Act) : Type 0 where
  outcomes : HaveOutcomes acts
  termini : HaveTermini acts

done_more : (xs ys : List Act) → AreDone xs → AreDone ys → AreDone (xs ++ ys)
done_more xs ys d e = record { outcomes = outcomes_more xs ys d.outcomes e.outcomes; termini = termini_more xs ys d.termini e.termini }

done_makes : (ts : List Terminus) → AreDone (map Make ts)
done_makes [] = record { outcomes = tt; termini = tt }
done_makes (t ∷ ts) = let rest = done_makes ts in record { outcomes = (tt, rest.outcomes); termini = (tt, rest.termini) }

done_decide : (n : RowNumber) (o : Option DeliveryState) → IsKept o → AreDone (decide_acts n o)
done_decide n None is = record { outcomes = tt; termini = tt }
done_decide n (Some outcome) is = record { outcomes = (is, tt); termini = (tt, tt) }

done_forget : (n : RowNumber) (b : Bool) → AreDone (forget_acts n b)
done_forget n true = record { outcomes = (tt, tt); termini = (tt, tt) }
done_forget n false = record { outcomes = tt; termini = tt }

done_row : (r : Row) → IsFine r → AreDone (row_acts r)
done_row r fine =
    let rest = done_more (decide_acts r.number r.outcome) (forget_acts r.number r.forgotten) (done_decide r.number r.outcome fine.outcome) (done_forget r.number r.forgotten) in
    record { outcomes = (tt, rest.outcomes); termini = (fine.consumer, rest.termini) }

done_rows : (rs : List Row) → AreFine rs → AreDone (flat_map row_acts rs)
done_rows [] all = record { outcomes = tt; termini = tt }
done_rows (r ∷ rs) all = done_more (row_acts r) (flat_map row_acts rs) (done_row r all.0) (done_rows rs all.1)

done_book : (b : BookView) → AreFine b.rows → IsWritten b
done_book b all =
    let d = done_more (map Make b.termini) (flat_map row_acts b.rows) (done_makes b.termini) (done_rows b.rows all) in
    record { outcomes = d.outcomes; termini = d.termini }

pub after_written : (bytes : List ℕ) (start : BookView) (bs : List (List Act)) → IsCheckpoint bytes start → AllApply start bs → IsWritten (book_after start bs)
after_written bytes start bs is valid = done_book (book_after start bs) (batches_keep start bs valid (checkpoint_fine bytes start is))
