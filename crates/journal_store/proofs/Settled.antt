-- What an event's decisions and what it forgets leave of a book: they apply, and the rows that they leave.
use Rattle.std.proofs.Common.{◌≡◌, ◌∙◌, sym, ap, refl, subst, ℕ, ◌≤◌, ◌&&◌, Bool, true, false, not, List, [], ◌∷◌, length, Option, Some, None, arith}
use Rattle.std.specs.Prelude.{filter_map, is_some, nat_le, if◌then◌else◌}
use Rattle.std.specs.List.{cons_option}
use Rattle.std.specs.Option.{unwrap_or}
use Rattle.std.proofs.lemmas.Bool.Decides.{nat_tests}
use Rattle.amqp_model.specs.declared.state.DeliveryState.{DeliveryState}
use Rattle.amqp_model.specs.PerfSpelling.{state_spelling}
use Rattle.book_model.specs.declared.act.Act.{Act}
use Rattle.book_model.specs.declared.act.Act.TheVariants.{Forget}
use Rattle.book_model.specs.declared.act.Decision.{Decision}
use Rattle.book_model.specs.declared.row.Row.{Row}
use Rattle.book_model.specs.declared.row.RowNumber.{RowNumber}
use Rattle.book_model.specs.Book.{BookView, effects, first_fault, is_undecided, decided, forgotten}
use Rattle.book_core.specs.Rising.{Rises}
use Rattle.book_core.proofs.Shown as shown
use Rattle.journal_codec.specs.Batches.{IsOutcome}
use Rattle.journal_codec.specs.Outcome.{kept_outcome}
use Rattle.journal_codec.proofs.Kept.{is_kept}
use Rattle.journal_store.specs.Lost.{failed}
use Rattle.journal_store.specs.Acting.{journal_outcome, outcome_for, is_among, decision, decide_row, forget_row, decides, forgets, settles, decided_to, decided_by, forgotten_by, rows_after}
use Rattle.journal_store.proofs.Makes.{effects_more, applies_more}
use Rattle.journal_store.proofs.Merging.{number_of_row}
use Rattle.journal_store.proofs.Rowwise.{Does, KeepsNumber, Leaves, each_row}
use Rattle.journal_store.proofs.Started.{short_outcome, failed_is_outcome}

-- The outcome that is written.
pub written_is_outcome : (s : DeliveryState) → IsOutcome (journal_outcome s)
written_is_outcome s = by_kept (kept_outcome s) refl
  where
    by_kept : (o : Option DeliveryState) → kept_outcome s ≡ o → IsOutcome (unwrap_or o failed)
    by_kept None is = failed_is_outcome
    by_kept (Some kept) is = (is_kept s kept is).outcome

pub written_is_short : (s : DeliveryState) → length (state_spelling (journal_outcome s)) ≤ 400
written_is_short s = by_kept (kept_outcome s) refl
  where
    by_kept : (o : Option DeliveryState) → kept_outcome s ≡ o → length (state_spelling (unwrap_or o failed)) ≤ 400
    by_kept None is = short_outcome
    by_kept (Some kept) is = (is_kept s kept is).short

tested_short : (n : ℕ) → n ≤ 400 → nat_le n 400 ≡ true
tested_short n l = grind (arith, nat_tests)

-- Decisions.
does_decide : (ds : List Decision) (r : Row) → Does r (decide_row ds r) (decided_by ds r)
does_decide ds r = by_both (is_undecided r) refl (outcome_for (number_of_row r) ds)
  where
    by_both : (u : Bool) → is_undecided r ≡ u → (o : Option DeliveryState) → Does r (if u then decision r o else None) (if u then decided_to o r else Some r)
    by_both false undecided o = refl
    by_both true undecided None = refl
    by_both true undecided (Some outcome) = record {
      applies = λ b at. (let few = tested_short (length (state_spelling (journal_outcome outcome))) (written_is_short outcome) in rw (at, undecided, few) refl);
      change = decided (journal_outcome outcome);
      leaves = refl;
      does = λ b. refl;
    }

decided_number : (outcome : DeliveryState) (r : Row) → KeepsNumber r (decided outcome r)
decided_number outcome r = by_forgotten r.forgotten
  where
    by_forgotten : (f : Bool) → KeepsNumber r (if f then None else Some (record r { outcome = Some outcome }))
    by_forgotten true s e = absurd cc
    by_forgotten false s e = (let same : record r { outcome = Some outcome } ≡ s = cc in ap number_of_row (sym same))

itself_number : (r : Row) → KeepsNumber r (Some r)
itself_number r s e = (let same : r ≡ s = cc in ap number_of_row (sym same))

decides_number : (ds : List Decision) (r : Row) → KeepsNumber r (decided_by ds r)
decides_number ds r = by_both (is_undecided r) (outcome_for (number_of_row r) ds)
  where
    by_both : (u : Bool) (o : Option DeliveryState) → KeepsNumber r (if u then decided_to o r else Some r)
    by_both false o = itself_number r
    by_both true None = itself_number r
    by_both true (Some outcome) = decided_number (journal_outcome outcome) r

decides_leave : (b : BookView) (ds : List Decision) → Rises number_of_row b.rows → Leaves b (decides b ds) (filter_map (decided_by ds) b.rows)
decides_leave b ds up = each_row (decide_row ds) (decided_by ds) (does_decide ds) (decides_number ds) b up

-- What is forgotten.
does_forget : (numbers : List RowNumber) (r : Row) → Does r (forget_row numbers r) (forgotten_by numbers r)
does_forget numbers r = by_both r.forgotten refl (is_among (number_of_row r) numbers)
  where
    by_both : (f : Bool) → r.forgotten ≡ f → (m : Bool) → Does r (if not f && m then Some (Forget r.number) else None) (if not f && m then forgotten r else Some r)
    by_both true is m = refl
    by_both false is false = refl
    by_both false is true = record {
      applies = λ b at. rw (at, is) refl;
      change = forgotten;
      leaves = refl;
      does = λ b. refl;
    }

forgets_number : (numbers : List RowNumber) (r : Row) → KeepsNumber r (forgotten_by numbers r)
forgets_number numbers r = by_test (not r.forgotten && is_among (number_of_row r) numbers) (is_some r.outcome)
  where
    by_test : (t d : Bool) → KeepsNumber r (if t then (if d then None else Some (record r { forgotten = true })) else Some r)
    by_test false d = itself_number r
    by_test true true = λ s e. absurd cc
    by_test true false = λ s e. (let same : record r { forgotten = true } ≡ s = cc in ap number_of_row (sym same))

-- Decisions make no difference to what is forgotten.
abbrev forget_left : List RowNumber → Option Row → Option Act
forget_left numbers None = None
forget_left numbers (Some r) = forget_row numbers r

forget_decided : (numbers : List RowNumber) (ds : List Decision) (r : Row) → forget_left numbers (decided_by ds r) ≡ forget_row numbers r
forget_decided numbers ds r = by_both (is_undecided r) (outcome_for (number_of_row r) ds) r.forgotten refl
  where
    by_both : (u : Bool) (o : Option DeliveryState) (f : Bool) → r.forgotten ≡ f → forget_left numbers (if u then decided_to o r else Some r) ≡ forget_row numbers r
    by_both false o f is = refl
    by_both true None f is = refl
    by_both true (Some outcome) true is = rw is refl
    by_both true (Some outcome) false is = rw is refl

forgets_same : (numbers : List RowNumber) (ds : List Decision) (rs : List Row) → filter_map (forget_row numbers) rs ≡ filter_map (forget_row numbers) (filter_map (decided_by ds) rs)
forgets_same numbers ds [] = refl
forgets_same numbers ds (r ∷ rs) =
    ap (λ (o : Option Act). cons_option o (filter_map (forget_row numbers) rs)) (sym (forget_decided numbers ds r)) ∙ by_left (decided_by ds r) (forgets_same numbers ds rs)
  where
    by_left : (o : Option Row) → filter_map (forget_row numbers) rs ≡ filter_map (forget_row numbers) (filter_map (decided_by ds) rs)
        → cons_option (forget_left numbers o) (filter_map (forget_row numbers) rs) ≡ filter_map (forget_row numbers) (cons_option o (filter_map (decided_by ds) rs))
    by_left None rest = rest
    by_left (Some s) rest = ap (cons_option (forget_row numbers s)) rest

still_rise : (ds : List Decision) (rs : List Row) → Rises number_of_row rs → Rises number_of_row (filter_map (decided_by ds) rs)
still_rise ds rs up = shown.rises_shown number_of_row (decided_by ds) number_of_row (decides_number ds) rs up

pub settles_leave : (b : BookView) (ds : List Decision) (numbers : List RowNumber) → Rises number_of_row b.rows → Leaves b (settles b ds numbers) (rows_after ds numbers b.rows)
settles_leave b ds numbers up =
    let first = decides_leave b ds up in
    let between : BookView = record b { rows = filter_map (decided_by ds) b.rows } in
    let second = each_row (forget_row numbers) (forgotten_by numbers) (does_forget numbers) (forgets_number numbers) between (still_rise ds b.rows up) in
    let P : List Act → Type 0 = λ acts. Leaves between acts (rows_after ds numbers b.rows) in
    let after : Leaves between (forgets b numbers) (rows_after ds numbers b.rows) = subst P (sym (forgets_same numbers ds b.rows)) second in
    record {
      applies = applies_more b (decides b ds) (forgets b numbers) first.applies (subst (λ (x : BookView). first_fault x (forgets b numbers) ≡ None) (sym first.is) after.applies);
      is = effects_more b (decides b ds) (forgets b numbers) ∙ ap (λ (x : BookView). effects x (forgets b numbers)) first.is ∙ after.is;
    }
