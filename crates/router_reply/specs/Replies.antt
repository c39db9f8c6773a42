-- The trace after an event.
use Rattle.std.specs.Prelude.{ℕ, true, false, not, if◌then◌else◌, List, [], ◌∷◌, ◌++◌, Option, Some, None}
use Rattle.amqp_model.specs.declared.perf.Attach.{Attach as AnAttach}
use Rattle.amqp_model.specs.declared.perf.Perf.{Perf}
use Rattle.amqp_model.specs.declared.perf.Perf.TheVariants as perf
use Rattle.amqp_model.specs.Parts.{attach_of}
use Rattle.amqp_model.specs.declared.perf.Disposition.{Disposition as ADisposition}
use Rattle.amqp_model.specs.declared.state.UnsettledDelivery.{UnsettledDelivery}
use Rattle.amqp_model.specs.declared.item.Item.{Item}
use Rattle.amqp_model.specs.declared.item.Item.TheVariants as item
use Rattle.amqp_conn.specs.declared.conn.Conn.{Conn}
use Rattle.book_model.specs.declared.row.RowNumber.{RowNumber}
use Rattle.router_trace.specs.declared.condition.Condition.{Condition}
use Rattle.router_trace.specs.declared.condition.Condition.TheVariants.{ResourceLimitExceeded, Stolen, FrameSizeTooSmall}
use Rattle.router_trace.specs.declared.event.Event.{Event}
use Rattle.router_trace.specs.declared.event.Event.TheVariants as event
use Rattle.router_trace.specs.Trace.{Trace, Step, Put, Did, puts, each_to, goes}
use Rattle.router_trace.specs.Connection.{Connection, conn, standing, found, due}
use Rattle.router_trace.specs.Frames.{closing}
use Rattle.router_trace.specs.declared.binding.Binding.{Binding}
use Rattle.router_trace.specs.declared.handle.Attachment.{Attachment}
use Rattle.router_trace.specs.Deliveries.{terminal, last_of}
use Rattle.router_trace.specs.Settling.{open_ids, part_of}
use Rattle.router_trace.specs.Durable.{is_durable}
use Rattle.router_trace.specs.LinkFrames.{attach_item, detach_item, answer_to, refusal_of, fits}
use Rattle.router_trace.specs.Links.{link_place, free_handle, holder, key_at}
use Rattle.router_trace.specs.Peers.{largest_frame}
use Rattle.router_state.specs.Tables.{beats}
use Rattle.state_messages.specs.Messages.{with_bound}
use Rattle.reply_rows.specs.declared.answer.Answer.{Answer}
use Rattle.reply_rows.specs.declared.answer.Answer.TheVariants.{Attach, Refuse, Taken, Settle}
use Rattle.reply_rows.specs.Rows.{said, down_reply}
use Rattle.reply_transfers.specs.Transfers.{settled_answers, part_put, part_bound, part_copied}
use Rattle.reply_rows.specs.Acts.{answer_of, book_found, book_in, found_acts}
use Rattle.reply_rows.specs.Admitting.{row_in}
use Rattle.reply_rows.specs.Asking.{key_taken}
use Rattle.reply_rows.specs.Resuming.{map_for}

-- a connection is closed with an error: its open comes before the close if it isn't written yet
abbrev pub closing_of : List ℕ → Option Connection → Condition → List Item
closing_of id None x = []
closing_of id (Some v) x = closing id v.phase x

-- these connections are closed because their outboxes are full, one after another
abbrev pub ends : List ℕ → List ℕ → Trace → Trace
ends id [] t = t
ends id (c ∷ cs) t = ends id cs (puts c (closing_of id (conn t c) ResourceLimitExceeded) t)

-- the event's entry, and after it the closes because of full outboxes
abbrev pub heard : List ℕ → Trace → Step → Trace
heard id t s = ends id (due t s.event) (Did s ∷ t)

-- An attach that is taken: the older link with its key, if one is attached, is detached as stolen; then the answer is
-- put, on the lowest handle that is free by then, with the router's map if that has entries. If the answer is longer than
-- the peer's frames, a detach that says so is put instead; it closes the link unless the link is durable.
abbrev pub stolen_by : Option Attachment → List Put
stolen_by None = []
stolen_by (Some x) = record { conn = x.conn.0; item = detach_item x.channel x.handle false (Some Stolen) } ∷ []

abbrev pub unless_too_large : ℕ → ℕ → ℕ → AnAttach → List Item
unless_too_large largest own handle a =
    if fits largest (attach_item own a) then attach_item own a ∷ [] else detach_item own handle (not (is_durable a.role a)) (Some FrameSizeTooSmall) ∷ []

abbrev pub with_map : List UnsettledDelivery → AnAttach → AnAttach
with_map [] a = a
with_map (d ∷ ds) a = record a { unsettled = Some (d ∷ ds) }

abbrev pub attach_answer : ℕ → ℕ → Option ℕ → List UnsettledDelivery → AnAttach → List Item
attach_answer largest own None ours a = []
attach_answer largest own (Some handle) ours a = unless_too_large largest own handle (with_map ours (answer_to a handle))

abbrev pub taken_after : Trace → ℕ → ℕ → List UnsettledDelivery → AnAttach → List Put → List Put
taken_after t c own ours a stolen = stolen ++ each_to c (attach_answer (largest_frame t c) own (free_handle (goes stolen t) c own) ours a)

abbrev pub taken : Trace → ℕ → ℕ → List UnsettledDelivery → AnAttach → List Put
taken t c own ours a = taken_after t c own ours a (stolen_by (holder t (key_at t c (answer_to a 0))))

-- An attach that is refused: an answer without a terminus at the router's side, and a detach; the detach alone if the answer doesn't fit.
abbrev pub refused : ℕ → ℕ → ℕ → Condition → AnAttach → List Item
refused largest own handle x a =
    if fits largest (attach_item own (refusal_of a handle)) then attach_item own (refusal_of a handle) ∷ detach_item own handle true (Some x) ∷ []
    else detach_item own handle true (Some x) ∷ []

abbrev pub put_for_disposition : Trace → ℕ → ADisposition → Answer → List Put
put_for_disposition t c x (Settle own) = each_to c (settled_answers own (terminal x.state) (open_ids t c own x.first (last_of x)))
put_for_disposition t c x _ = []

abbrev pub settled_put : Trace → ℕ → ℕ → Option ADisposition → List Put
settled_put t c own None = []
settled_put t c own (Some x) = put_for_disposition t c x (Settle own)

-- A transfer that is taken is answered by the book after the event's acts; the row is the one that they admit.
abbrev pub row_found : Trace → Option RowNumber
row_found t = row_in (found_acts t)

abbrev pub put_for_transfer : Trace → Trace → ℕ → Item → Answer → List Put
put_for_transfer t after c i (Taken own handle) = each_to c (part_put (book_in t) after c own handle (row_found t) (part_of i (link_place t c own)))
put_for_transfer t after c i _ = []

abbrev pub bound_for : Trace → Trace → ℕ → Item → Answer → Option Binding
bound_for t after c i (Taken own handle) = part_bound (book_in t) after c own handle (row_found t) (part_of i (link_place t c own))
bound_for t after c i _ = None

-- the trace u, with the copies of a message for the consumers of its multicast address; which ones is said by the trace after the event's entry
abbrev pub copied_for : Trace → Trace → ℕ → Item → Answer → Trace → Trace
copied_for t after c i (Taken own handle) u = part_copied after c own handle (part_of i (link_place t c own)) u
copied_for t after c i _ u = u

-- What an answer to an item puts into outboxes, after the closes because of full outboxes.
abbrev pub put_for_attach : Trace → ℕ → List UnsettledDelivery → AnAttach → Answer → List Put
put_for_attach t c ours a (Attach own) = taken t c own ours a
put_for_attach t c ours a (Refuse own handle x) = each_to c (refused (largest_frame t c) own handle x a)
put_for_attach t c ours a _ = []

abbrev pub put_if_attach : Trace → ℕ → List UnsettledDelivery → Option AnAttach → Answer → List Put
put_if_attach t c ours None answer = []
put_if_attach t c ours (Some a) answer = put_for_attach t c ours a answer

abbrev pub attach_put_in : Trace → ℕ → List UnsettledDelivery → Perf → Answer → List Put
attach_put_in t c ours body answer = put_if_attach t c ours (attach_of body) answer

abbrev pub attach_put : Trace → ℕ → List UnsettledDelivery → Item → Answer → List Put
attach_put t c ours (item.Frame sasl channel body payload) answer = attach_put_in t c ours body answer
attach_put t c ours _ answer = []

-- the router's map in the answer to an attach
abbrev pub map_told : Trace → ℕ → AnAttach → Answer → List UnsettledDelivery
map_told t c a answer = map_for (book_found t) (Some a) (key_taken t c a answer)

abbrev pub put_for : Trace → Trace → ℕ → Perf → Item → Answer → List Put
put_for t after c (perf.Attach a) i answer = put_for_attach after c (map_told t c a answer) a answer
put_for t after c (perf.Transfer x) i answer = put_for_transfer t after c i answer
put_for t after c (perf.Disposition x) i answer = put_for_disposition t c x answer
put_for t after c _ i answer = []

abbrev pub links_put : Trace → Trace → ℕ → Item → Answer → List Put
links_put t after c (item.Frame sasl channel body payload) answer = put_for t after c body (item.Frame sasl channel body payload) answer
links_put t after c _ answer = []

abbrev pub item_put : List ℕ → Trace → Trace → ℕ → Conn → Item → Answer → List Put
item_put id t after c p i answer = each_to c (said id p answer) ++ links_put t (puts c (said id p answer) after) c i answer

abbrev pub after_answer : List ℕ → Trace → Trace → ℕ → Conn → Item → Answer → Trace
after_answer id t after c p i answer = copied_for t after c i answer (goes (item_put id t after c p i answer) (with_bound (bound_for t after c i answer) after))

-- nothing if the connection isn't live
abbrev pub item_row : List ℕ → Trace → Trace → ℕ → Item → Option Conn → List Put
item_row id t after c i None = []
item_row id t after c i (Some p) = item_put id t after c p i (answer_of t c p i)

abbrev pub item_bound : Trace → Trace → ℕ → Item → Option Conn → Option Binding
item_bound t after c i None = None
item_bound t after c i (Some p) = bound_for t after c i (answer_of t c p i)

abbrev pub item_copied : Trace → Trace → ℕ → Item → Option Conn → Trace → Trace
item_copied t after c i None u = u
item_copied t after c i (Some p) u = copied_for t after c i (answer_of t c p i) u

-- what an event binds: a message that it completes, if a consumer is chosen for it, or the row that a resumed delivery joins
abbrev pub bound_by : Trace → Trace → Event → Option Binding
bound_by t after (event.Item c i) = item_bound t after c.0 i (standing (found t (event.Item c i) c.0))
bound_by t after _ = None

-- the trace u with what it copies: a message that its producer has settled, of a multicast address
abbrev pub copied_by : Trace → Trace → Event → Trace → Trace
copied_by t after (event.Item c i) u = item_copied t after c.0 i (standing (found t (event.Item c i) c.0)) u
copied_by t after _ u = u

-- what an event's own row puts into outboxes, by what the event finds, after the closes because of full outboxes
abbrev pub own_row : List ℕ → Trace → Trace → Event → List Put
own_row id t after (event.Item c i) = item_row id t after c.0 i (standing (found t (event.Item c i) c.0))
own_row id t after (event.Down c) = each_to c.0 down_reply
own_row id t after (event.Tick ms) = beats t (event.Tick ms) ms
own_row id t after _ = []

-- the event with the effect of its rows: the closes, then the message that it binds, then what its own row puts, then copies
abbrev pub replied_after : List ℕ → Trace → Trace → Event → Trace
replied_after id t after e = copied_by t after e (goes (own_row id t after e) (with_bound (bound_by t after e) after))

abbrev pub replied : List ℕ → Trace → Step → Trace
replied id t s = replied_after id t (heard id t s) s.event
