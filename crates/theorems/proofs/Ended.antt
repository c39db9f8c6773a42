-- What an event decides of deliveries are terminal states.
use Rattle.std.proofs.Common.{ℕ, Bool, true, false, not, ◌&&◌, List, [], ◌∷◌, ◌++◌}
use Rattle.std.specs.Prelude.{Option, Some, None, is_none, map, if◌then◌else◌}
use Rattle.amqp_model.specs.declared.perf.Disposition.{Disposition}
use Rattle.amqp_model.specs.declared.perf.Perf.{Perf}
use Rattle.amqp_model.specs.declared.perf.Perf.TheVariants as perf
use Rattle.amqp_model.specs.declared.perf.Role.{Role}
use Rattle.amqp_model.specs.declared.perf.Role.TheVariants.{Sender, Receiver}
use Rattle.amqp_model.specs.declared.state.DeliveryState.{DeliveryState}
use Rattle.amqp_model.specs.declared.state.DeliveryState.TheVariants as state
use Rattle.amqp_model.specs.declared.item.Item.{Item}
use Rattle.amqp_model.specs.declared.item.Item.TheVariants as item
use Rattle.journal_codec.specs.Batches.{IsTerminal}
use Rattle.router_trace.specs.declared.event.Event.{Event}
use Rattle.router_trace.specs.declared.event.Event.TheVariants as event
use Rattle.router_trace.specs.declared.handle.Attachment.{Attachment}
use Rattle.router_trace.specs.Trace.{Trace}
use Rattle.router_trace.specs.Connection.{due}
use Rattle.router_trace.specs.Deliveries.{Delivery, failed, source, untold, unsettled, is_gone_with, after_ends, ended, decided_at_end, suspended_at_end, forsaken, sender, decision, terminal, last_of}
use Rattle.router_trace.specs.Links.{holder}
use Rattle.state_deliveries.specs.declared.change.Change.{Change}
use Rattle.state_deliveries.specs.declared.change.Change.TheVariants as change
use Rattle.state_deliveries.specs.Deciding.{changed_by}
use Rattle.state_deliveries.specs.Hearing.{decided_by, disposed_change, heard_in_change, heard_change}
use Rattle.state_deliveries.specs.Stepping.{is_gone, comes_with_id, is_decided_by, changed}
use Rattle.reply_rows.specs.declared.answer.Answer.{Answer}
use Rattle.reply_rows.specs.declared.answer.Answer.TheVariants.{Close, CloseWith, End, Attach, Detach}
use Rattle.reply_rows.specs.Booking.{wanted_key}
use Rattle.reply_rows.specs.Deciding.{lost, listed, ended_by, stolen_from, stolen_in, stolen_for, session_found, event_changes}

-- an outcome, if there is one, is a terminal state
abbrev pub IsEnded : Option DeliveryState → Type 0
IsEnded None = Unit {0}
IsEnded (Some s) = IsTerminal s

-- ... which a change gives
abbrev Gives : Change → Type 0
Gives (change.Decided c o first last made) = IsTerminal made
Gives _ = Unit {0}

abbrev pub AllGive : List Change → Type 0
AllGive [] = Unit {0}
AllGive (x ∷ xs) = Gives x × AllGive xs

if_ended : (b : Bool) (d e : Delivery) → IsEnded d.outcome → IsEnded e.outcome → IsEnded (if b then d else e).outcome
if_ended true d e one other = one
if_ended false d e one other = other

lost_ended : (o : Option DeliveryState) → IsEnded o → IsEnded (if is_none o then Some failed else o)
lost_ended None is = tt
lost_ended (Some s) is = is

end_ended : (closed : Bool) (d : Delivery) → IsEnded d.outcome → IsEnded (ended closed d).outcome
end_ended closed d is =
    if_ended d.suspended d (if d.lasting && not closed then suspended_at_end d else decided_at_end d) is
    (if_ended (d.lasting && not closed) (suspended_at_end d) (decided_at_end d) is (lost_ended d.outcome is))

ends_ended : (closed : Bool) (gone : Attachment → Bool) (d : Delivery) → IsEnded d.outcome → IsEnded (after_ends closed gone d).outcome
ends_ended closed gone d is =
    let e : Delivery = if gone d.link then ended closed d else d in
    let here : IsEnded e.outcome = if_ended (gone d.link) (ended closed d) d (end_ended closed d is) is in
    if_ended (is_gone_with gone (sender e)) (forsaken e) e here here

changed_ended : (x : Change) (d : Delivery) → Gives x → IsEnded d.outcome → IsEnded (changed x d).outcome
changed_ended (change.Ends g closed) d gives is = ends_ended closed (is_gone g) d is
changed_ended (change.Untold c o first last) d gives is = if_ended (comes_with_id (source d) c o first last) (untold d) d is is
changed_ended (change.Told c o first last) d gives is = if_ended (comes_with_id (source d) c o first last) (unsettled d) d is is
changed_ended (change.Decided c o first last made) d gives is = if_ended (is_decided_by d c o first last) (record d { outcome = Some made }) d gives is

pub ended_by_all : (xs : List Change) (d : Delivery) → AllGive xs → IsEnded d.outcome → IsEnded (changed_by xs d).outcome
ended_by_all [] d all is = is
ended_by_all (x ∷ xs) d all is = ended_by_all xs (changed x d) all.1 (changed_ended x d all.0 is)

-- the changes of an event

both_give : (xs ys : List Change) → AllGive xs → AllGive ys → AllGive (xs ++ ys)
both_give [] ys first rest = rest
both_give (x ∷ xs) ys first rest = (first.0, both_give xs ys first.1 rest)

lost_give : (cs : List ℕ) → AllGive (map lost cs)
lost_give [] = tt
lost_give (c ∷ cs) = (tt, lost_give cs)

stolen_give : (v : Option Attachment) → AllGive (stolen_from v)
stolen_give None = tt
stolen_give (Some a) = (tt, tt)

stolen_perf : (t : Trace) (c : ℕ) (body : Perf) → AllGive (stolen_in t c body)
stolen_perf t c (perf.Attach a) = stolen_give (holder t (wanted_key t c a))
stolen_perf t c _ = tt

stolen_item : (t : Trace) (c : ℕ) (i : Item) → AllGive (stolen_for t c i)
stolen_item t c (item.Frame sasl channel body payload) = stolen_perf t c body
stolen_item t c _ = tt

answer_gives : (t : Trace) (c : ℕ) (i : Item) (y : Answer) → AllGive (ended_by t c i y)
answer_gives t c i (Detach own handle closed x) = (tt, tt)
answer_gives t c i (End own x) = (tt, tt)
answer_gives t c i Close = (tt, tt)
answer_gives t c i (CloseWith x) = (tt, tt)
answer_gives t c i (Attach own) = stolen_item t c i
answer_gives t c i _ = tt

decision_ended : (settled : Bool) (o : Option DeliveryState) → IsEnded (decision settled (terminal o))
decision_ended settled (Some (state.Received r)) = none_ended settled
  where
    none_ended : (b : Bool) → IsEnded (decision b None)
    none_ended true = tt
    none_ended false = tt
decision_ended settled (Some (state.Other v)) = none_ended settled
  where
    none_ended : (b : Bool) → IsEnded (decision b None)
    none_ended true = tt
    none_ended false = tt
decision_ended settled (Some state.Accepted) = tt
decision_ended settled (Some (state.Rejected r)) = tt
decision_ended settled (Some state.Released) = tt
decision_ended settled (Some (state.Modified m)) = tt
decision_ended true None = tt
decision_ended false None = tt

decided_give : (c own : ℕ) (x : Disposition) (v : Option DeliveryState) → IsEnded v → AllGive (listed (decided_by c own x v))
decided_give c own x None is = tt
decided_give c own x (Some made) is = (is, tt)

disposed_give : (r : Role) (c : ℕ) (own : Option ℕ) (x : Disposition) → AllGive (listed (disposed_change r c own x))
disposed_give r c None x = tt
disposed_give Sender c (Some own) x = by x.settled
  where
    by : (b : Bool) → AllGive (listed (if b then Some (change.Untold c own x.first (last_of x)) else None))
    by true = (tt, tt)
    by false = tt
disposed_give Receiver c (Some own) x = decided_give c own x (decision x.settled (terminal x.state)) (decision_ended x.settled x.state)

heard_perf : (c : ℕ) (own : Option ℕ) (body : Perf) → AllGive (listed (heard_in_change c own body))
heard_perf c own (perf.Disposition x) = disposed_give x.role c own x
heard_perf c own _ = tt

heard_gives : (c : ℕ) (own : Option ℕ) (i : Item) → AllGive (listed (heard_change c own i))
heard_gives c own (item.Frame true channel body payload) = tt
heard_gives c own (item.Frame false channel body payload) = heard_perf c own body
heard_gives c own _ = tt

pub event_gives : (t : Trace) (e : Event) (y : Answer) → AllGive (event_changes t e y)
event_gives t (event.Item c i) y =
    both_give (listed (heard_change c.0 (session_found t c i) i) ++ map lost (due t (event.Item c i))) (ended_by t c.0 i y)
    (both_give (listed (heard_change c.0 (session_found t c i) i)) (map lost (due t (event.Item c i))) (heard_gives c.0 (session_found t c i) i) (lost_give (due t (event.Item c i))))
    (answer_gives t c.0 i y)
event_gives t (event.Down c) y = (tt, lost_give (due t (event.Down c)))
event_gives t (event.Up c p) y = lost_give (due t (event.Up c p))
event_gives t event.Start y = lost_give (due t event.Start)
event_gives t (event.Tick ms) y = lost_give (due t (event.Tick ms))
