-- What the acts of an event do with the rows that its attach takes up: each undecided one gets the outcome that the attach's map gives it, and no other.
use Rattle.std.proofs.Common.{◌≡◌, ◌∙◌, sym, ap, refl, ℕ, Bool, true, false, not, ◌&&◌, List, [], ◌∷◌, ◌++◌}
use Rattle.std.specs.Prelude.{Option, Some, None, map, is_some, is_none, option_map, if◌then◌else◌}
use Rattle.amqp_model.specs.declared.perf.Attach.{Attach as AnAttach}
use Rattle.amqp_model.specs.declared.perf.Perf.TheVariants as perf
use Rattle.amqp_model.specs.declared.item.Item.TheVariants as item
use Rattle.amqp_model.specs.declared.state.DeliveryState.{DeliveryState}
use Rattle.amqp_conn.specs.declared.conn.Conn.{Conn}
use Rattle.book_model.specs.declared.act.Decision.{Decision}
use Rattle.book_model.specs.declared.row.Row.{Row as ARow}
use Rattle.book_model.specs.declared.terminus.LinkKey.{LinkKey}
use Rattle.book_model.specs.declared.terminus.Terminus.{Terminus}
use Rattle.book_model.specs.declared.terminus.TerminusNumber.{TerminusNumber}
use Rattle.book_model.specs.Book.{BookView, row_at, terminus_of, is_for, is_for_by, is_undecided as is_open_row}
use Rattle.gate_journal.specs.Ordered.{IsOrdered}
use Rattle.journal_store.specs.Acting.{journal_outcome, outcome_for}
use Rattle.router_trace.specs.declared.event.ConnectionId.{ConnectionId}
use Rattle.router_trace.specs.declared.event.Event.{Event}
use Rattle.router_trace.specs.declared.event.Event.TheVariants as event
use Rattle.router_trace.specs.declared.handle.Attachment.{Attachment}
use Rattle.router_trace.specs.Trace.{Trace}
use Rattle.router_trace.specs.Connection.{standing, found, due}
use Rattle.router_trace.specs.Links.{holder}
use Rattle.router_trace.specs.Deliveries.{Delivery, outcome_among, sender, is_gone_with, forsaken, ended, decided_at_end, suspended_at_end}
use Rattle.state_deliveries.specs.declared.change.Change.{Change}
use Rattle.state_deliveries.specs.declared.change.Change.TheVariants as change
use Rattle.state_deliveries.specs.Deciding.{changed_by, decided_rows}
use Rattle.state_deliveries.specs.Stepping.{is_gone, changed}
use Rattle.resume_core.specs.Resuming.{entries_of, told_of, outcome_given, decided_by}
use Rattle.reply_rows.specs.declared.answer.Answer.{Answer}
use Rattle.reply_rows.specs.declared.answer.Answer.TheVariants.{Attach}
use Rattle.reply_rows.specs.Booking.{wanted_key}
use Rattle.reply_rows.specs.Acts.{live_answer, finds_full, journaled, book_in, acts_of, booked, answer_by, answer_to_event}
use Rattle.reply_rows.specs.Asking.{attach_in, receives, if_receives, resumed_key, key_taken, decided_for, map_decides}
use Rattle.reply_rows.specs.Deciding.{as_kept, lost, stolen_from, event_changes, forgotten as forgotten_in, terminus_of_event}
use Rattle.theorems.proofs.Admitted.{answer_after}
use Rattle.theorems.proofs.Booked.{answer_for}
use Rattle.theorems.proofs.Changing.{undecided_is}
use Rattle.theorems.proofs.Decisions.{undecided_of, first_for}
use Rattle.theorems.proofs.Giving.{row_given, acts_give, map_decides_row}
use Rattle.theorems.proofs.Lasting.{Lasting}
use Rattle.theorems.proofs.Tests.{none_not_some}

-- the answer to an event, and the link that it takes, after its acts as before them

pub same_answer : (t : Trace) (e : Event) → answer_to_event (booked t e) e ≡ answer_for t e
same_answer t (event.Item from i) = by (standing (found t (event.Item from i) from.0))
  where
    e : Event
    e = event.Item from i

    by : (v : Option Conn) → answer_by (booked t e) from.0 i v ≡ live_answer (finds_full (journaled t) t e) (book_in t) t from.0 i v
    by None = refl
    by (Some p) = answer_after (acts_of t e) (due t e) t (finds_full (journaled t) t e) (book_in t) from.0 p i
same_answer t _ = refl

same_taken : (t : Trace) (e : Event) (c : ℕ) (a : AnAttach) (y : Answer) → key_taken (booked t e) c a y ≡ key_taken t c a y
same_taken t e c a (Attach own) = refl
same_taken t e c a _ = refl

same_key : (t : Trace) (e x : Event) (y : Answer) → resumed_key (booked t e) x y ≡ resumed_key t x y
same_key t e (event.Item from (item.Frame sasl channel (perf.Attach a) payload)) y = ap (if_receives (Some a)) (same_taken t e from.0 a y)
same_key t e (event.Item from (item.Frame sasl channel _ payload)) y = refl
same_key t e (event.Item from _) y = refl
same_key t e _ y = refl

pub key_before : (t : Trace) (e : Event) (k : LinkKey) → resumed_key (booked t e) e (answer_to_event (booked t e) e) ≡ Some k → resumed_key t e (answer_for t e) ≡ Some k
key_before t e k is = sym (same_key t e e (answer_for t e)) ∙ ap (resumed_key (booked t e) e) (sym (same_answer t e)) ∙ is

-- what ends links but doesn't close them decides no delivery that lasts

abbrev Suspends : Change → Type 0
Suspends (change.Ends g closed) = closed ≡ false
Suspends _ = ⊥

abbrev AllSuspend : List Change → Type 0
AllSuspend [] = Unit {0}
AllSuspend (x ∷ xs) = Suspends x × AllSuspend xs

both_suspend : (xs ys : List Change) → AllSuspend xs → AllSuspend ys → AllSuspend (xs ++ ys)
both_suspend [] ys first rest = rest
both_suspend (x ∷ xs) ys first rest = (first.0, both_suspend xs ys first.1 rest)

all_lost : (cs : List ℕ) → AllSuspend (map lost cs)
all_lost [] = tt
all_lost (c ∷ cs) = (refl, all_lost cs)

all_stolen : (v : Option Attachment) → AllSuspend (stolen_from v)
all_stolen None = tt
all_stolen (Some a) = (refl, tt)

abbrev StillOpen : Delivery → Type 0
StillOpen d = (d.lasting ≡ true) × (d.outcome ≡ None)

open_if : (b : Bool) (d e : Delivery) → StillOpen d → StillOpen e → StillOpen (if b then d else e)
open_if true d e one other = one
open_if false d e one other = other

end_open : (closed : Bool) (d : Delivery) → closed ≡ false → StillOpen d → StillOpen (ended closed d)
end_open closed d is was = open_if d.suspended d (if d.lasting && not closed then suspended_at_end d else decided_at_end d) was (by d.lasting closed was.0 is)
  where
    by : (l c : Bool) → l ≡ true → c ≡ false → StillOpen (if l && not c then suspended_at_end d else decided_at_end d)
    by true false lasting open_one = was
    by true true lasting open_one = absurd cc
    by false c lasting open_one = absurd cc

change_open : (x : Change) (d : Delivery) → Suspends x → StillOpen d → StillOpen (changed x d)
change_open (change.Ends g closed) d is was =
    let e : Delivery = if is_gone g d.link then ended closed d else d in
    let here : StillOpen e = open_if (is_gone g d.link) (ended closed d) d (end_open closed d is was) was in
    open_if (is_gone_with (is_gone g) (sender e)) (forsaken e) e here here
change_open (change.Untold c o first last) d is was = absurd is
change_open (change.Told c o first last) d is was = absurd is
change_open (change.Decided c o first last made) d is was = absurd is

all_open : (xs : List Change) (d : Delivery) → AllSuspend xs → StillOpen d → StillOpen (changed_by xs d)
all_open [] d all was = was
all_open (x ∷ xs) d all was = all_open xs (changed x d) all.1 (change_open x d all.0 was)

-- the changes of an event whose attach takes a durable link
attach_suspends : (t : Trace) (from : ConnectionId) (sasl : Bool) (channel : ℕ) (a : AnAttach) (payload : List ℕ) (k : LinkKey) (y : Answer) → if_receives (Some a) (key_taken t from.0 a y) ≡ Some k
    → AllSuspend (event_changes t (event.Item from (item.Frame sasl channel (perf.Attach a) payload)) y)
attach_suspends t from true channel a payload k (Attach own) keyed =
    both_suspend (map lost (due t (event.Item from (item.Frame true channel (perf.Attach a) payload)))) (stolen_from (holder t (wanted_key t from.0 a)))
    (all_lost (due t (event.Item from (item.Frame true channel (perf.Attach a) payload)))) (all_stolen (holder t (wanted_key t from.0 a)))
attach_suspends t from false channel a payload k (Attach own) keyed =
    both_suspend (map lost (due t (event.Item from (item.Frame false channel (perf.Attach a) payload)))) (stolen_from (holder t (wanted_key t from.0 a)))
    (all_lost (due t (event.Item from (item.Frame false channel (perf.Attach a) payload)))) (all_stolen (holder t (wanted_key t from.0 a)))
attach_suspends t from sasl channel a payload k _ keyed = absurd (by (receives a.role) keyed)
  where
    by : (q : Bool) → (if q then None else None) ≡ Some k → ⊥
    by true keyed = none_not_some keyed
    by false keyed = none_not_some keyed

is_bound : (n : ℕ) (c : Option TerminusNumber) → is_for_by n c ≡ true → is_some c ≡ true
is_bound n None is = is
is_bound n (Some c) is = refl

-- what the acts give a row that the link takes up

pub row_gets : (t : Trace) (e : Event) (k : LinkKey) (a : AnAttach) (x : Terminus) (row : ARow) → IsOrdered (book_in t) → Lasting t
    → resumed_key (booked t e) e (answer_to_event (booked t e) e) ≡ Some k → attach_in e ≡ Some a → terminus_of k (book_in t).termini ≡ Some x
    → row_at row.number.0 (book_in t).rows ≡ Some row → is_for x.number.0 row ≡ true
    → outcome_among (acts_of t e) row.number ≡ option_map journal_outcome (decided_by (entries_of a.unsettled) row)
row_gets t (event.Item from (item.Frame sasl channel (perf.Attach a) payload)) k other x row ordered lasting key came at there waits =
    acts_give full b t e (rows ++ told) (forgotten_in b t e answer) (terminus_of_event b t e answer) row.number refl ordered ∙ ap (row_given (rows ++ told)) there ∙ by row.outcome refl
    ∙ ap (λ (v : Option AnAttach). option_map journal_outcome (decided_of v row)) came
  where
    e : Event
    e = event.Item from (item.Frame sasl channel (perf.Attach a) payload)

    b : BookView
    b = book_in t

    full : Bool
    full = finds_full (journaled t) t e

    answer : Answer
    answer = answer_for t e

    keyed : resumed_key t e answer ≡ Some k
    keyed = key_before t e k key

    rows : List Decision
    rows = map as_kept (decided_rows t (event_changes t e answer))

    told : List Decision
    told = map_decides b t e answer

    decided_of : Option AnAttach → ARow → Option DeliveryState
    decided_of None row = None
    decided_of (Some p) row = decided_by (entries_of p.unsettled) row

    unchanged : outcome_for row.number.0 rows ≡ None
    unchanged =
        undecided_of t row.number (event_changes t e answer)
        (λ n d here name undecided.
        (all_open (event_changes t e answer) d (attach_suspends t from sasl channel a payload k answer keyed)
        ((lasting n d row.number here name).lasting row there (is_bound x.number.0 row.consumer waits), (undecided_is d undecided).0)).1)

    mapped : outcome_for row.number.0 (rows ++ told) ≡ decided_by (entries_of a.unsettled) row
    mapped =
        first_for row.number.0 rows told unchanged
        ∙ ap (λ (v : Option LinkKey). outcome_for row.number.0 (decided_for b (Some a) v)) keyed
        ∙ map_decides_row b a k x row ordered.rows_rise at there waits

    by : (o : Option DeliveryState) → row.outcome ≡ o
        → (if is_open_row row then option_map journal_outcome (outcome_for row.number.0 (rows ++ told)) else None) ≡ option_map journal_outcome (decided_by (entries_of a.unsettled) row)
    by None none =
        ap (λ (q : Bool). if q then option_map journal_outcome (outcome_for row.number.0 (rows ++ told)) else None) (ap is_none none) ∙ ap (option_map journal_outcome) mapped
    by (Some s) had =
        ap (λ (q : Bool). if q then option_map journal_outcome (outcome_for row.number.0 (rows ++ told)) else None) (ap is_none had)
        ∙ ap (λ (o : Option DeliveryState). option_map journal_outcome (outcome_given (told_of (entries_of a.unsettled) row) o)) (sym had)
row_gets t (event.Item from (item.Frame sasl channel _ payload)) k other x row ordered lasting key came at there waits = absurd (none_not_some came)
row_gets t (event.Item from _) k other x row ordered lasting key came at there waits = absurd (none_not_some came)
row_gets t _ k other x row ordered lasting key came at there waits = absurd (none_not_some came)
