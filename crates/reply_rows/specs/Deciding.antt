-- What an event decides and forgets of durable deliveries, and which terminus it makes or drops: by the event and by the answer to its item.
use Rattle.std.specs.Prelude.{ℕ, true, false, if◌then◌else◌, List, [], ◌∷◌, ◌++◌, map, filter, Option, Some, None, option_map, option_and_then}
use Rattle.amqp_model.specs.declared.perf.Attach.{Attach as AnAttach}
use Rattle.amqp_model.specs.declared.perf.Disposition.{Disposition as ADisposition}
use Rattle.amqp_model.specs.declared.perf.Perf.{Perf}
use Rattle.amqp_model.specs.declared.perf.Perf.TheVariants as perf
use Rattle.amqp_model.specs.declared.perf.Role.{Role}
use Rattle.amqp_model.specs.declared.perf.Role.TheVariants.{Sender}
use Rattle.amqp_model.specs.declared.item.Item.{Item}
use Rattle.amqp_model.specs.declared.item.Item.TheVariants as item
use Rattle.book_model.specs.declared.act.Decision.{Decision}
use Rattle.book_model.specs.declared.row.RowNumber.{RowNumber}
use Rattle.book_model.specs.declared.terminus.LinkKey.{LinkKey}
use Rattle.book_model.specs.declared.terminus.LinkRole.{LinkRole}
use Rattle.book_model.specs.declared.terminus.LinkRole.TheVariants.{Producer, Consumer}
use Rattle.book_model.specs.declared.terminus.Terminus.{Terminus}
use Rattle.book_model.specs.Book.{BookView, is_from, terminus_of}
use Rattle.journal_store.specs.declared.acting.TerminusAct.{TerminusAct}
use Rattle.journal_store.specs.declared.acting.TerminusAct.TheVariants as terminus
use Rattle.router_trace.specs.declared.event.Event.{Event}
use Rattle.router_trace.specs.declared.event.Event.TheVariants as event
use Rattle.router_trace.specs.declared.handle.Attachment.{Attachment}
use Rattle.router_trace.specs.Trace.{Trace}
use Rattle.router_trace.specs.Connection.{due}
use Rattle.router_trace.specs.declared.event.ConnectionId.{ConnectionId}
use Rattle.router_trace.specs.Deliveries.{last_of, none_if_ended}
use Rattle.router_trace.specs.DeliveryFrames.{kept_outcome}
use Rattle.router_trace.specs.Links.{link, holder, durable_key}
use Rattle.router_trace.specs.Sessions.{session_on}
use Rattle.state_links.specs.Fits.{channel_of}
use Rattle.state_deliveries.specs.declared.change.Change.{Change}
use Rattle.state_deliveries.specs.declared.change.Change.TheVariants as change
use Rattle.state_deliveries.specs.declared.change.Gone.TheVariants as gone
use Rattle.state_deliveries.specs.Deciding.{decided_rows}
use Rattle.state_deliveries.specs.Hearing.{heard_change}
use Rattle.reply_rows.specs.Booking.{wanted_key, wanted_address, wants_durable, new_terminus}
use Rattle.reply_rows.specs.declared.answer.Answer.{Answer}
use Rattle.reply_rows.specs.declared.answer.Answer.TheVariants.{Close, CloseWith, End, Attach, Detach}
use Rattle.reply_rows.specs.Asking.{map_decides, map_forgets}
use Rattle.reply_rows.specs.Joining.{settled_by_transfer, rows_claimed}

-- The changes of the deliveries that an event brings: those by its item, by the ends for full outboxes, and by the links that the answer ends.
abbrev pub lost : ℕ → Change
lost c = change.Ends (gone.Connection c) false

abbrev pub stolen_from : Option Attachment → List Change
stolen_from None = []
stolen_from (Some a) = change.Ends (gone.Link a.conn.0 a.channel a.handle) false ∷ []

abbrev pub stolen_in : Trace → ℕ → Perf → List Change
stolen_in t c (perf.Attach a) = stolen_from (holder t (wanted_key t c a))
stolen_in t c _ = []

abbrev pub stolen_for : Trace → ℕ → Item → List Change
stolen_for t c (item.Frame sasl channel body payload) = stolen_in t c body
stolen_for t c _ = []

abbrev pub ended_by : Trace → ℕ → Item → Answer → List Change
ended_by t c i (Detach own handle closed x) = change.Ends (gone.Link c own handle) closed ∷ []
ended_by t c i (End own x) = change.Ends (gone.Session c own) false ∷ []
ended_by t c i Close = lost c ∷ []
ended_by t c i (CloseWith x) = lost c ∷ []
ended_by t c i (Attach own) = stolen_for t c i
ended_by t c i _ = []

abbrev pub listed : Option Change → List Change
listed None = []
listed (Some x) = x ∷ []

-- the session of an item as the event finds it: none if the event ends the item's connection for its full outbox
abbrev pub session_found : Trace → ConnectionId → Item → Option ℕ
session_found t c i = none_if_ended (due t (event.Item c i)) c.0 (session_on t c.0 (channel_of i))

abbrev pub event_changes : Trace → Event → Answer → List Change
event_changes t (event.Item c i) answer =
    listed (heard_change c.0 (session_found t c i) i) ++ map lost (due t (event.Item c i)) ++ ended_by t c.0 i answer
event_changes t (event.Down c) answer = lost c.0 ∷ map lost (due t (event.Down c))
event_changes t e answer = map lost (due t e)

-- The rows that it decides, each with its outcome as the router keeps it: by those changes, and by the map of an attach.
abbrev pub as_kept : Decision → Decision
as_kept d = record d { outcome = kept_outcome d.outcome }

abbrev pub decided : BookView → Trace → Event → Answer → List Decision
decided b t e answer = map as_kept (decided_rows t (event_changes t e answer)) ++ map_decides b t e answer

-- The rows that it forgets: those that their producer settles, by a disposition or by a transfer that resumes one; those of a producer that closes its link
-- for good; and those that the map of a producer's attach lacks.
abbrev pub settled_on : BookView → Trace → ℕ → Option ℕ → Role → ADisposition → List RowNumber
settled_on b t c (Some own) Sender x = if x.settled then rows_claimed b t c own x.first (last_of x) else []
settled_on b t c _ _ x = []

abbrev pub sent_by : BookView → LinkRole → ℕ → List RowNumber
sent_by b Producer n = map (λ r. r.number) (filter (is_from n) b.rows)
sent_by b Consumer n = []

abbrev pub sent_from : BookView → Option Terminus → List RowNumber
sent_from b None = []
sent_from b (Some x) = sent_by b x.key.role x.number.0

-- the terminus of a durable link that its peer closes
abbrev pub closed_terminus : BookView → Trace → ℕ → Answer → Option Terminus
closed_terminus b t c (Detach own handle true None) = option_and_then (λ key. terminus_of key b.termini) (durable_key (link t c own handle))
closed_terminus b t c _ = None

abbrev pub forgotten_by : BookView → Trace → ℕ → Option ℕ → Perf → Answer → List RowNumber
forgotten_by b t c own (perf.Transfer x) answer = settled_by_transfer b t c x answer
forgotten_by b t c own (perf.Disposition x) answer = settled_on b t c own x.role x
forgotten_by b t c own (perf.Detach x) answer = sent_from b (closed_terminus b t c answer)
forgotten_by b t c own _ answer = []

abbrev pub forgotten_in : BookView → Trace → ℕ → Option ℕ → Item → Answer → List RowNumber
forgotten_in b t c own (item.Frame true channel body payload) answer = []
forgotten_in b t c own (item.Frame false channel body payload) answer = forgotten_by b t c own body answer
forgotten_in b t c own _ answer = []

abbrev pub item_forgets : BookView → Trace → Event → Answer → List RowNumber
item_forgets b t (event.Item c i) answer = forgotten_in b t c.0 (session_found t c i) i answer
item_forgets b t _ answer = []

abbrev pub forgotten : BookView → Trace → Event → Answer → List RowNumber
forgotten b t e answer = item_forgets b t e answer ++ map_forgets b t e answer

-- The terminus that it makes, for a durable link that is taken, or drops, of one that its peer closes.
abbrev pub made_for : BookView → LinkKey → AnAttach → Option TerminusAct
made_for b key a = if wants_durable a then Some (terminus.Make (new_terminus b key (wanted_address a))) else None

abbrev pub made_by : BookView → Trace → ℕ → AnAttach → Answer → Option TerminusAct
made_by b t c a (Attach own) = made_for b (wanted_key t c a) a
made_by b t c a _ = None

abbrev pub terminus_by : BookView → Trace → ℕ → Perf → Answer → Option TerminusAct
terminus_by b t c (perf.Attach a) answer = made_by b t c a answer
terminus_by b t c (perf.Detach x) answer = option_map (λ x. terminus.Drop x.number) (closed_terminus b t c answer)
terminus_by b t c _ answer = None

abbrev pub terminus_in : BookView → Trace → ℕ → Item → Answer → Option TerminusAct
terminus_in b t c (item.Frame sasl channel body payload) answer = terminus_by b t c body answer
terminus_in b t c _ answer = None

abbrev pub terminus_of_event : BookView → Trace → Event → Answer → Option TerminusAct
terminus_of_event b t (event.Item c i) answer = terminus_in b t c.0 i answer
terminus_of_event b t _ answer = None
