-- What the book has of an outcome is a form that both the router and the journal keep as it is.
use Rattle.std.proofs.Common.{◌≡◌, ◌∙◌, sym, ap, refl, subst, ◌⊎◌, inl, inr, ℕ, Bool, true, false, List, [], ◌∷◌, ◌++◌}
use Rattle.std.specs.Prelude.{◌==◌, Option, Some, None, is_some, map, filter, option_map, if◌then◌else◌}
use Rattle.std.specs.Option.{unwrap_or}
use Rattle.amqp_model.specs.declared.perf.Attach.{Attach as AnAttach}
use Rattle.amqp_model.specs.declared.state.DeliveryState.{DeliveryState}
use Rattle.book_model.specs.declared.act.Act.{Act}
use Rattle.book_model.specs.declared.act.Act.TheVariants.{Make, Admit, Decide, Forget, Drop}
use Rattle.book_model.specs.declared.act.Decision.{Decision}
use Rattle.book_model.specs.declared.row.Row.{Row as ARow}
use Rattle.book_model.specs.declared.row.RowNumber.{RowNumber}
use Rattle.book_model.specs.declared.terminus.LinkKey.{LinkKey}
use Rattle.book_model.specs.Book.{BookView, with_row, decided as decided_row, forgotten as forgotten_row, admitted, effect, effects}
use Rattle.journal_codec.specs.Batches.{IsTerminal}
use Rattle.journal_codec.proofs.Kept.{keeps_itself}
use Rattle.journal_store.specs.Acting.{journal_outcome}
use Rattle.journal_store.specs.Lost.{failed, is_lost, failure_of, start_acts}
use Rattle.journal_store.proofs.Started.{short_outcome, failed_is_outcome}
use Rattle.router_trace.specs.declared.event.Event.{Event}
use Rattle.router_trace.specs.declared.event.Event.TheVariants as event
use Rattle.router_trace.specs.Deliveries.{Delivery, outcome_or, outcome_by, outcome_among, is_undecided}
use Rattle.router_trace.specs.DeliveryFrames.{kept_outcome}
use Rattle.router_trace.specs.Trace.{Trace}
use Rattle.state_deliveries.specs.declared.change.Change.{Change}
use Rattle.state_deliveries.specs.Deciding.{changed_by, decided_rows}
use Rattle.resume_core.specs.Resuming.{entries_of, decided_by as map_gives, decision_of as map_decision}
use Rattle.reply_rows.specs.declared.answer.Answer.{Answer}
use Rattle.reply_rows.specs.Acts.{event_answer, answer_acts, planned_acts, admitted_acts, or_admits, finds_full, journaled, book_in, acts_of}
use Rattle.reply_rows.specs.Asking.{attach_in, resumed_key, decided_for, map_decides, rows_with}
use Rattle.reply_rows.specs.Deciding.{event_changes, as_kept, decided, forgotten, terminus_of_event}
use Rattle.theorems.specs.AsTold.{IsKeptAsTold}
use Rattle.theorems.proofs.Accepting.{Asked, asked_act, OfDelivery, of_delivery, no_admitted}
use Rattle.theorems.proofs.DecidedFirst.{with_one}
use Rattle.theorems.proofs.Among.{Stands, stands_in_both, stands_in_filter_map, stands_in_map}
use Rattle.theorems.proofs.Changing.{undecided_is}
use Rattle.theorems.proofs.Ended.{IsEnded, ended_by_all, event_gives}
use Rattle.theorems.proofs.Giving.{IsKept, decided_kept}
use Rattle.theorems.proofs.KeptForm.{kept_form, form_kept, form_itself, long_kept}
use Rattle.theorems.proofs.Tests.{some_same, none_not_some}

pub record IsForm (s : DeliveryState) : Type 0 where
  pub kept : kept_outcome s ≡ s
  pub journaled : journal_outcome s ≡ s

pub form_told : (s : DeliveryState) → IsForm s → IsKeptAsTold s
form_told s form = ap journal_outcome form.kept ∙ form.journaled ∙ sym form.kept

form_of : (s : DeliveryState) → IsTerminal s → IsForm (kept_form s)
form_of s ends = record { kept = form_kept s ends; journaled = form_itself (kept_outcome s) }

pub failed_form : IsForm failed
failed_form = record {
  kept = long_kept failed short_outcome;
  journaled = ap (λ (o : Option DeliveryState). unwrap_or o failed) (keeps_itself failed failed_is_outcome short_outcome);
}

-- Each act that decides a row decides it so.

map_kept : (b : BookView) (a : Option AnAttach) (k : Option LinkKey) (d : Decision) → Stands Decision d (decided_for b a k) → IsKept d.outcome
map_kept b a None d is = absurd is
map_kept b None (Some k) d is = absurd is
map_kept b (Some a) (Some k) d is = (let one = stands_in_filter_map ARow Decision (map_decision (entries_of a.unsettled)) d (rows_with b k) is in by one.0 (map_gives (entries_of a.unsettled) one.0) refl one.2)
  where
    by : (row : ARow) (v : Option DeliveryState) → map_gives (entries_of a.unsettled) row ≡ v
        → option_map (λ (outcome : DeliveryState). record { row = row.number; outcome = outcome }) v ≡ Some d → IsKept d.outcome
    by row None gives is = absurd (none_not_some is)
    by row (Some s) gives is =
        let same : record { row = row.number; outcome = s } ≡ d = some_same is in
        subst IsKept (ap (λ (y : Decision). y.outcome) same) (decided_kept (entries_of a.unsettled) row s gives)

answer_form : (full : Bool) (t : Trace) (e : Event) (d : Decision) → Stands Act (Decide d) (answer_acts (book_in t) t e (event_answer full (book_in t) t e)) → IsForm d.outcome
answer_form full t e d stands = subst IsForm (sym asked.writes) (by (stands_in_both Decision asked.of (map as_kept (decided_rows t xs)) (map_decides b t e answer) asked.asked))
  where
    b : BookView
    b = book_in t

    answer : Answer
    answer = event_answer full b t e

    xs : List Change
    xs = event_changes t e answer

    asked : Asked (decided b t e answer) d
    asked = asked_act b (decided b t e answer) (forgotten b t e answer) (terminus_of_event b t e answer) d stands

    ended : (x : Delivery) → is_undecided x ≡ true → IsEnded (changed_by xs x).outcome
    ended x open_now = ended_by_all xs x (event_gives t e answer) (subst IsEnded (sym (undecided_is x open_now).0) tt)

    delivered : (x : Decision) → OfDelivery t xs x → IsForm (kept_form x.outcome)
    delivered x of = form_of x.outcome (subst IsEnded of.made (ended of.of of.undecided))

    by : Stands Decision asked.of (map as_kept (decided_rows t xs)) ⊎ Stands Decision asked.of (map_decides b t e answer) → IsForm (journal_outcome asked.of.outcome)
    by (inl is) =
        let one = stands_in_map Decision Decision as_kept asked.of (decided_rows t xs) is in
        subst (λ (y : Decision). IsForm (journal_outcome y.outcome)) one.2 (delivered one.0 (of_delivery t xs one.0 one.1))
    by (inr is) =
        let kept = map_kept b (attach_in e) (resumed_key t e answer) asked.of is in
        subst (λ (s : DeliveryState). IsForm (journal_outcome s)) (sym kept.is) (form_of kept.of kept.ended)

start_form : (b : BookView) (d : Decision) → Stands Act (Decide d) (start_acts b) → IsForm d.outcome
start_form b d is = (let one = stands_in_map ARow Act failure_of (Decide d) (filter is_lost b.rows) is in by one.0 one.2)
  where
    outcome_same : {x y : Decision} → Decide x ≡ Decide y → x.outcome ≡ y.outcome
    outcome_same e = cc

    by : (r : ARow) → failure_of r ≡ Decide d → IsForm d.outcome
    by r e = subst IsForm (outcome_same e) failed_form

planned_form : (full : Bool) (t : Trace) (e : Event) (d : Decision) → Stands Act (Decide d) (planned_acts full (book_in t) t e) → IsForm d.outcome
planned_form full t event.Start d is = start_form (book_in t) d is
planned_form full t (event.Item c i) d is = answer_form full t (event.Item c i) d is
planned_form full t (event.Up c p) d is = answer_form full t (event.Up c p) d is
planned_form full t (event.Down c) d is = answer_form full t (event.Down c) d is
planned_form full t (event.Tick ms) d is = answer_form full t (event.Tick ms) d is

abbrev pub DecideForms : List Act → Type 0
DecideForms acts = (d : Decision) → Stands Act (Decide d) acts → IsForm d.outcome

pub acts_form : (t : Trace) (e : Event) → DecideForms (acts_of t e)
acts_form t e d stands = by (planned_acts full (book_in t) t e) (planned_form full t e d) stands
  where
    full : Bool
    full = finds_full (journaled t) t e

    by : (planned : List Act) → (Stands Act (Decide d) planned → IsForm d.outcome) → Stands Act (Decide d) (or_admits planned (admitted_acts full (book_in t) t e)) → IsForm d.outcome
    by [] all is = absurd (no_admitted full (book_in t) t e d is)
    by (act ∷ acts) all is = all is

-- and so is what acts give a row

pub given_form : (acts : List Act) (r : RowNumber) (s : DeliveryState) → DecideForms acts → outcome_among acts r ≡ Some s → IsForm s
given_form [] r s all is = absurd (none_not_some is)
given_form (act ∷ acts) r s all is = by act (λ d same. all d (inl same)) (given_form acts r s (λ d there. all d (inr there))) is
  where
    rest : Option DeliveryState
    rest = outcome_among acts r

    named : (d : Decision) (q : Bool) → IsForm d.outcome → (rest ≡ Some s → IsForm s) → outcome_or (if q then Some d.outcome else None) rest ≡ Some s → IsForm s
    named d true form later is = subst IsForm (some_same is) form
    named d false form later is = later is

    by : (x : Act) → ((d : Decision) → x ≡ Decide d → IsForm d.outcome) → (rest ≡ Some s → IsForm s) → outcome_or (outcome_by r x) rest ≡ Some s → IsForm s
    by (Decide d) form later is = named d (d.row.0 == r.0) (form d refl) later is
    by (Make x) form later is = later is
    by (Admit x) form later is = later is
    by (Forget n) form later is = later is
    by (Drop n) form later is = later is

-- The rows of a book, after acts.

abbrev pub AreForms : List ARow → Type 0
AreForms rows = (r : ARow) → Stands ARow r rows → (s : DeliveryState) → r.outcome ≡ Some s → IsForm s

decision_forms : (d : Decision) (rows : List ARow) → IsForm d.outcome → AreForms rows → AreForms (with_row d.row.0 (decided_row d.outcome) rows)
decision_forms d rows form was r is s has = (let one = with_one d.row.0 (decided_row d.outcome) rows r is in by one.0 one.1 one.2)
  where
    made : (old : ARow) (b : Bool) → (if b then None else Some (record old { outcome = Some d.outcome })) ≡ Some r → IsForm s
    made old true e = absurd (none_not_some e)
    made old false e = subst IsForm (some_same (ap (λ (x : ARow). x.outcome) (some_same e) ∙ has)) form

    by : (old : ARow) → Stands ARow old rows → (old ≡ r) ⊎ ((old.number.0 ≡ d.row.0) × (decided_row d.outcome old ≡ Some r)) → IsForm s
    by old there (inl same) = was old there s (ap (λ (x : ARow). x.outcome) same ∙ has)
    by old there (inr changed) = made old old.forgotten changed.1

forgetting_forms : (n : ℕ) (rows : List ARow) → AreForms rows → AreForms (with_row n forgotten_row rows)
forgetting_forms n rows was r is s has = (let one = with_one n forgotten_row rows r is in by one.0 one.1 one.2)
  where
    left : (old : ARow) (b : Bool) → Stands ARow old rows → (if b then None else Some (record old { forgotten = true })) ≡ Some r → IsForm s
    left old true there e = absurd (none_not_some e)
    left old false there e = was old there s (ap (λ (x : ARow). x.outcome) (some_same e) ∙ has)

    by : (old : ARow) → Stands ARow old rows → (old ≡ r) ⊎ ((old.number.0 ≡ n) × (forgotten_row old ≡ Some r)) → IsForm s
    by old there (inl same) = was old there s (ap (λ (x : ARow). x.outcome) same ∙ has)
    by old there (inr changed) = left old (is_some old.outcome) there changed.1

admission_forms : (rows : List ARow) (x : ARow) → x.outcome ≡ None → AreForms rows → AreForms (rows ++ x ∷ [])
admission_forms rows x new was r is s has = by (stands_in_both ARow r rows (x ∷ []) is)
  where
    one : Stands ARow r (x ∷ []) → IsForm s
    one (inl same) = absurd (none_not_some (sym new ∙ ap (λ (y : ARow). y.outcome) same ∙ has))
    one (inr is) = absurd is

    by : Stands ARow r rows ⊎ Stands ARow r (x ∷ []) → IsForm s
    by (inl is) = was r is s has
    by (inr is) = one is

act_forms : (b : BookView) (act : Act) → ((d : Decision) → act ≡ Decide d → IsForm d.outcome) → AreForms b.rows → AreForms (effect b act).rows
act_forms b (Make x) form was = was
act_forms b (Admit x) form was = admission_forms b.rows (admitted x) refl was
act_forms b (Decide d) form was = decision_forms d b.rows (form d refl) was
act_forms b (Forget n) form was = forgetting_forms n.0 b.rows was
act_forms b (Drop n) form was = was

pub book_forms : (acts : List Act) (b : BookView) → DecideForms acts → AreForms b.rows → AreForms (effects b acts).rows
unfolding effects
book_forms [] b forms was = was
book_forms (act ∷ acts) b forms was = book_forms acts (effect b act) (λ d there. forms d (inr there)) (act_forms b act (λ d same. forms d (inl same)) was)
