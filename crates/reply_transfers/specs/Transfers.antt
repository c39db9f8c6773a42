-- What a transfer that is taken makes of its delivery, and the answers to the deliveries that a disposition decides.
use Rattle.std.specs.Prelude.{ℕ, Bool, true, false, not, ◌||◌, is_some, nat_lt, if◌then◌else◌, List, [], ◌∷◌, map, Option, Some, None, option_map, unwrap_or}
use Rattle.amqp_model.specs.declared.perf.Perf.{Perf}
use Rattle.amqp_model.specs.declared.perf.Perf.TheVariants as perf
use Rattle.amqp_model.specs.declared.perf.Disposition.{Disposition as ADisposition}
use Rattle.amqp_model.specs.declared.perf.Role.TheVariants.{Sender, Receiver}
use Rattle.amqp_model.specs.declared.state.DeliveryState.{DeliveryState}
use Rattle.amqp_model.specs.declared.state.DeliveryState.TheVariants as state
use Rattle.amqp_link.specs.declared.part.Delivery.{Delivery as Told}
use Rattle.amqp_link.specs.declared.part.Part.{Part}
use Rattle.amqp_link.specs.declared.part.Part.TheVariants as part
use Rattle.amqp_model.specs.declared.item.Item.{Item}
use Rattle.amqp_model.specs.declared.item.Item.TheVariants as item
use Rattle.book_model.specs.Book.{BookView}
use Rattle.book_model.specs.declared.row.Row.{Row}
use Rattle.book_model.specs.declared.row.RowNumber.{RowNumber}
use Rattle.router_trace.specs.declared.condition.Condition.{Condition}
use Rattle.router_trace.specs.declared.condition.Condition.TheVariants.{NotImplemented, ResourceLimitExceeded, MessageSizeExceeded}
use Rattle.router_trace.specs.Trace.{Trace, puts}
use Rattle.router_trace.specs.declared.binding.Binding.{Binding}
use Rattle.router_trace.specs.declared.binding.Holding.TheVariants as holding
use Rattle.router_trace.specs.declared.binding.Origin.{Origin}
use Rattle.router_trace.specs.declared.handle.Attachment.{Attachment}
use Rattle.router_trace.specs.Deliveries.{joined_by}
use Rattle.router_trace.specs.DeliveryFrames.{outcome_item}
use Rattle.router_trace.specs.Settling.{unbound, is_claimed_on}
use Rattle.router_trace.specs.Frames.{error_of}
use Rattle.router_trace.specs.LinkFrames.{detach_item}
use Rattle.router_trace.specs.Links.{Link, link, durable_key}
use Rattle.state_messages.specs.Messages.{binding_for, consumer_of, copies_for, with_bound}
use Rattle.router_state.specs.Copying.{copied_to, goes_to_all}
use Rattle.reply_transfers.specs.Joining.{row_under}

-- The deliveries that a disposition decides without settling are answered, each settled, with the outcome as the router keeps it.
abbrev pub settled_answers : ℕ → Option DeliveryState → List ℕ → List Item
settled_answers own None ids = []
settled_answers own (Some s) ids = map (λ id. outcome_item own Sender id true s) ids

-- the disposition in an item, allowed or not, and the answers to the deliveries that it decides
abbrev pub disposition_of : Perf → Option ADisposition
disposition_of (perf.Disposition x) = Some x
disposition_of _ = None

abbrev pub disposition_in : Item → Option ADisposition
disposition_in (item.Frame sasl channel body payload) = disposition_of body
disposition_in _ = None

-- the id of a delivery, if its producer hasn't settled it: the link still claims it
abbrev pub claimed_id : Trace → ℕ → ℕ → ℕ → Option ℕ → Option ℕ
claimed_id after c own handle None = None
claimed_id after c own handle (Some id) = if is_claimed_on after c own handle id then Some id else None

-- A whole delivery, after the event and by the book after the event's acts. A resumed one that its producer hasn't settled joins its row, if it has one;
-- any other resumed one is ignored. One that isn't resumed is bound to a consumer of its address; if none is chosen, it is let down: released, or dropped if
-- its producer has settled it. On a durable link one that its producer hasn't settled is bound only if it has a row in the book; else it is let down, and its
-- producer settles it. A multicast address chooses nobody: what its producer has settled has a copy for each consumer with free credit, and all else is
-- rejected, since no outcome could be told of many copies. A link has at most 1,024 deliveries that were ignored, or let down in this way, and that their
-- producer has yet to settle.
abbrev pub from_link : ℕ → ℕ → ℕ → Link → Attachment
from_link c own handle l = record { number = l.number; conn = record { 0 = c }; channel = own; handle = handle }

abbrev pub origin_of : Attachment → ℕ → Origin
origin_of from id = record { link = from; id = id }

abbrev pub lasts_on : Option Link → Bool
lasts_on l = is_some (durable_key l)

abbrev pub may_pass : Bool → Option ℕ → Option RowNumber → Bool
may_pass durable None row = true
may_pass durable (Some id) row = not durable || is_some row

abbrev pub consumer_for : Trace → ℕ → ℕ → ℕ → Told → Option RowNumber → Option Attachment
consumer_for after c own handle d row =
    if may_pass (lasts_on (link after c own handle)) (claimed_id after c own handle d.id) row then consumer_of after (link after c own handle) else None

abbrev pub fresh_bound : Trace → ℕ → ℕ → ℕ → Told → Option RowNumber → List ℕ → Option Link → Option Binding
fresh_bound after c own handle d row payload None = None
fresh_bound after c own handle d row payload (Some l) =
    if may_pass (lasts_on (link after c own handle)) (claimed_id after c own handle d.id) row
    then binding_for after (from_link c own handle l) (option_map (origin_of (from_link c own handle l)) (claimed_id after c own handle d.id)) row (unwrap_or d.format 0) payload
    else None

-- the row that a resumed delivery joins, by its id, if its producer hasn't settled it; from now on the row's outcome is reported to it
abbrev pub row_resumed : BookView → Trace → ℕ → ℕ → Option ℕ → Option Row
row_resumed b after c own None = None
row_resumed b after c own (Some id) = row_under b after c own id

abbrev pub join_from : Trace → Attachment → ℕ → Row → Binding
join_from after from id r = joined_by after (holding.Resumed (origin_of from id)) r.number r.outcome

abbrev pub joined_on : Trace → ℕ → ℕ → ℕ → ℕ → Row → Option Link → Option Binding
joined_on after c own handle id r None = None
joined_on after c own handle id r (Some l) = Some (join_from after (from_link c own handle l) id r)

abbrev pub joined_if : Trace → ℕ → ℕ → ℕ → ℕ → Option Row → Option Link → Option Binding
joined_if after c own handle id None l = None
joined_if after c own handle id (Some r) l = joined_on after c own handle id r l

abbrev pub resumed_bound : BookView → Trace → ℕ → ℕ → ℕ → Option ℕ → Option Link → Option Binding
resumed_bound b after c own handle None l = None
resumed_bound b after c own handle (Some id) l = joined_if after c own handle id (row_under b after c own id) l

abbrev pub whole_bound : BookView → Trace → ℕ → ℕ → ℕ → Told → Option RowNumber → List ℕ → Option Binding
whole_bound b after c own handle d row payload =
    if d.resume then resumed_bound b after c own handle (claimed_id after c own handle d.id) (link after c own handle)
    else fresh_bound after c own handle d row payload (link after c own handle)

-- a detach for too many deliveries, or for one that is too large: it closes the link unless the link is durable
abbrev pub let_go : Trace → ℕ → ℕ → ℕ → Condition → List Item
let_go after c own handle x = detach_item own handle (not (lasts_on (link after c own handle))) (Some x) ∷ []

abbrev pub unless_many : Trace → ℕ → ℕ → ℕ → List Item → List Item
unless_many after c own handle items = if nat_lt 1024 (unbound after c own handle) then let_go after c own handle ResourceLimitExceeded else items

abbrev pub ignored_put : Trace → ℕ → ℕ → ℕ → Option ℕ → List Item
ignored_put after c own handle None = []
ignored_put after c own handle (Some id) = unless_many after c own handle []

-- nothing is put for one that joins a row
abbrev pub unless_joined : Option Row → List Item → List Item
unless_joined None items = items
unless_joined (Some r) items = []

abbrev pub resumed_put : BookView → Trace → ℕ → ℕ → ℕ → Option ℕ → List Item
resumed_put b after c own handle claimed = unless_joined (row_resumed b after c own claimed) (ignored_put after c own handle claimed)

abbrev pub let_down_as : Bool → DeliveryState
let_down_as false = state.Released
let_down_as true = state.Rejected (record { error = Some (error_of NotImplemented) })

abbrev pub let_down_by : Trace → ℕ → ℕ → ℕ → Bool → DeliveryState → ℕ → List Item
let_down_by after c own handle false outcome id = outcome_item own Receiver id true outcome ∷ []
let_down_by after c own handle true outcome id = unless_many after c own handle (outcome_item own Receiver id false outcome ∷ [])

abbrev pub let_down : Trace → ℕ → ℕ → ℕ → Option ℕ → List Item
let_down after c own handle None = []
let_down after c own handle (Some id) =
    let_down_by after c own handle (lasts_on (link after c own handle)) (let_down_as (goes_to_all after (link after c own handle))) id

abbrev pub unbound_put : Trace → ℕ → ℕ → ℕ → Option ℕ → Option Attachment → List Item
unbound_put after c own handle id None = let_down after c own handle id
unbound_put after c own handle id (Some consumer) = []

abbrev pub whole_put : BookView → Trace → ℕ → ℕ → ℕ → Told → Option RowNumber → List Item
whole_put b after c own handle d row =
    if d.resume then resumed_put b after c own handle (claimed_id after c own handle d.id)
    else unbound_put after c own handle (claimed_id after c own handle d.id) (consumer_for after c own handle d row)

-- what is put for a transfer that is taken: for a whole delivery, one that is too large, or nothing yet
abbrev pub part_put : BookView → Trace → ℕ → ℕ → ℕ → Option RowNumber → Option Part → List Item
part_put b after c own handle row (Some (part.Whole d payload)) = whole_put b after c own handle d row
part_put b after c own handle row (Some part.TooLarge) = let_go after c own handle MessageSizeExceeded
part_put b after c own handle row _ = []

abbrev pub part_bound : BookView → Trace → ℕ → ℕ → ℕ → Option RowNumber → Option Part → Option Binding
part_bound b after c own handle row (Some (part.Whole d payload)) = whole_bound b after c own handle d row payload
part_bound b after c own handle row _ = None

-- the trace u, with a copy of a whole delivery for each consumer of its address, if it is multicast: of one that its producer has settled and doesn't resume
abbrev pub fresh_copied : Trace → ℕ → ℕ → ℕ → ℕ → List ℕ → Option ℕ → Trace → Trace
fresh_copied after c own handle format payload None u = copied_to format payload (copies_for after (link after c own handle)) u
fresh_copied after c own handle format payload (Some id) u = u

abbrev pub whole_copied : Trace → ℕ → ℕ → ℕ → Told → List ℕ → Trace → Trace
whole_copied after c own handle d payload u =
    if d.resume then u else fresh_copied after c own handle (unwrap_or d.format 0) payload (claimed_id after c own handle d.id) u

abbrev pub part_copied : Trace → ℕ → ℕ → ℕ → Option Part → Trace → Trace
part_copied after c own handle (Some (part.Whole d payload)) u = whole_copied after c own handle d payload u
part_copied after c own handle _ u = u

-- the trace after a transfer that is taken is handled, bound and answered, with its copies; and all that an answer to an item does
abbrev pub given_after : BookView → Trace → ℕ → ℕ → ℕ → Option RowNumber → Option Part → Trace
given_after b after c own handle row part =
    part_copied after c own handle part (puts c (part_put b after c own handle row part) (with_bound (part_bound b after c own handle row part) after))
