-- The durable link for which an attach asks (AMQP 1.0 part 2, section 2.6.13), and what the map of the attach decides and forgets: of a consumer's link
-- rows that wait for it, of a producer's link rows of its terminus.
use Rattle.std.specs.Prelude.{ℕ, Bool, true, false, not, if◌then◌else◌, List, [], Option, Some, None}
use Rattle.amqp_model.specs.declared.perf.Attach.{Attach as AnAttach}
use Rattle.amqp_model.specs.declared.perf.Perf.{Perf}
use Rattle.amqp_model.specs.declared.perf.Perf.TheVariants as perf
use Rattle.amqp_model.specs.declared.perf.Role.{Role}
use Rattle.amqp_model.specs.declared.perf.Role.TheVariants.{Sender, Receiver}
use Rattle.amqp_model.specs.declared.item.Item.{Item}
use Rattle.amqp_model.specs.declared.item.Item.TheVariants as item
use Rattle.amqp_model.specs.declared.state.UnsettledDelivery.{UnsettledDelivery}
use Rattle.amqp_model.specs.Parts.{attach_of}
use Rattle.book_model.specs.Book.{BookView, terminus_of}
use Rattle.book_model.specs.declared.act.Decision.{Decision}
use Rattle.book_model.specs.declared.row.Row.{Row}
use Rattle.book_model.specs.declared.row.RowNumber.{RowNumber}
use Rattle.book_model.specs.declared.terminus.LinkKey.{LinkKey}
use Rattle.book_model.specs.declared.terminus.Terminus.{Terminus}
use Rattle.router_trace.specs.declared.event.Event.{Event}
use Rattle.router_trace.specs.declared.event.Event.TheVariants as event
use Rattle.router_trace.specs.Trace.{Trace}
use Rattle.resume_core.specs.Resuming.{entries_of, decisions, forgotten_rows}
use Rattle.reply_rows.specs.Booking.{wanted_key, wants_durable, sent_rows, bound_rows}
use Rattle.reply_rows.specs.declared.answer.Answer.{Answer}
use Rattle.reply_rows.specs.declared.answer.Answer.TheVariants.{Attach}

-- The key of the durable link that an attach asks for; none if it asks for another.
abbrev pub asked_key : Trace → ℕ → AnAttach → Option LinkKey
asked_key t c a = if wants_durable a then Some (wanted_key t c a) else None

-- that of an event's attach, if its answer takes the link
abbrev pub key_taken : Trace → ℕ → AnAttach → Answer → Option LinkKey
key_taken t c a (Attach own) = asked_key t c a
key_taken t c a _ = None

abbrev pub key_by : Trace → ℕ → Perf → Answer → Option LinkKey
key_by t c (perf.Attach a) answer = key_taken t c a answer
key_by t c _ answer = None

abbrev pub key_in : Trace → ℕ → Item → Answer → Option LinkKey
key_in t c (item.Frame sasl channel body payload) answer = key_by t c body answer
key_in t c _ answer = None

abbrev pub taken_key : Trace → Event → Answer → Option LinkKey
taken_key t (event.Item c i) answer = key_in t c.0 i answer
taken_key t _ answer = None

-- the attach that an event brings, if it brings one
abbrev pub attach_within : Item → Option AnAttach
attach_within (item.Frame sasl channel body payload) = attach_of body
attach_within _ = None

abbrev pub attach_in : Event → Option AnAttach
attach_in (event.Item c i) = attach_within i
attach_in _ = None

-- the key of a link, if its peer receives
abbrev pub receives : Role → Bool
receives Sender = false
receives Receiver = true

abbrev pub if_receives : Option AnAttach → Option LinkKey → Option LinkKey
if_receives None key = None
if_receives (Some a) key = if receives a.role then key else None

-- that of the consumer's durable link which an event's attach asks for, if its answer takes it
abbrev pub resumed_key : Trace → Event → Answer → Option LinkKey
resumed_key t e answer = if_receives (attach_in e) (taken_key t e answer)

-- and that of the producer's
abbrev pub if_sends : Option AnAttach → Option LinkKey → Option LinkKey
if_sends None key = None
if_sends (Some a) key = if receives a.role then None else key

abbrev pub held_key : Trace → Event → Answer → Option LinkKey
held_key t e answer = if_sends (attach_in e) (taken_key t e answer)

-- the rows that are bound to a terminus, and to that with a key
abbrev pub rows_at : BookView → Option Terminus → List Row
rows_at b None = []
rows_at b (Some x) = bound_rows b x

abbrev pub rows_with : BookView → LinkKey → List Row
rows_with b k = rows_at b (terminus_of k b.termini)

-- What the map of an attach decides of these rows: those that are undecided, and for which it has a terminal state.
abbrev pub decided_by : Option AnAttach → List Row → List Decision
decided_by None rows = []
decided_by (Some a) rows = decisions (entries_of a.unsettled) rows

-- the same of the link with a key, if there is one
abbrev pub decided_for : BookView → Option AnAttach → Option LinkKey → List Decision
decided_for b a None = []
decided_for b a (Some k) = decided_by a (rows_with b k)

-- what the map of an event's attach decides
abbrev pub map_decides : BookView → Trace → Event → Answer → List Decision
map_decides b t e answer = decided_for b (attach_in e) (resumed_key t e answer)

-- What a producer's attach forgets of the rows of its link's terminus: those that a complete map lacks. That of a consumer forgets none.
abbrev pub forgotten_of : Role → Bool → List UnsettledDelivery → List Row → List RowNumber
forgotten_of Sender complete theirs rows = forgotten_rows complete theirs rows
forgotten_of Receiver complete theirs rows = []

abbrev pub all_rows : BookView → Option Terminus → List Row
all_rows b None = []
all_rows b (Some x) = sent_rows b x

abbrev pub forgotten_with : Option AnAttach → List Row → List RowNumber
forgotten_with None rows = []
forgotten_with (Some a) rows = forgotten_of a.role (not a.incomplete_unsettled) (entries_of a.unsettled) rows

-- the same of the link with a key, if there is one
abbrev pub forgotten_for : BookView → Option AnAttach → Option LinkKey → List RowNumber
forgotten_for b a None = []
forgotten_for b a (Some k) = forgotten_with a (all_rows b (terminus_of k b.termini))

-- what the map of an event's attach forgets
abbrev pub map_forgets : BookView → Trace → Event → Answer → List RowNumber
map_forgets b t e answer = forgotten_for b (attach_in e) (taken_key t e answer)
