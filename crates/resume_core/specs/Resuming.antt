-- What happens to the rows of a durable link that is attached again (AMQP 1.0 part 2, sections 2.6.13 and 2.7.3): by the rows of its terminus, and
-- by `theirs`, the entries of the unsettled map of the peer's attach. It is complete unless the attach sets incomplete-unsettled.
use Rattle.std.specs.Prelude.{ℕ, Bool, true, false, not, ◌&&◌, Option, Some, None, is_some, option_map, List, [], map, filter, filter_map, find}
use Rattle.amqp_model.specs.declared.state.DeliveryState.{DeliveryState}
use Rattle.amqp_model.specs.declared.state.DeliveryState.TheVariants as state
use Rattle.amqp_model.specs.declared.state.UnsettledDelivery.{UnsettledDelivery}
use Rattle.arrayvec.specs.ArrayVec.{ArrayVec}
use Rattle.book_model.specs.declared.act.Decision.{Decision}
use Rattle.book_model.specs.declared.row.Row.{Row}
use Rattle.book_model.specs.declared.row.RowNumber.{RowNumber}
use Rattle.book_model.specs.Book.{same_bytes}
use Rattle.router_trace.specs.declared.binding.DeliveryName.TheVariants as name
use Rattle.router_trace.specs.Deliveries.{tag_of, terminal}
use Rattle.router_trace.specs.DeliveryFrames.{kept_outcome}
use Rattle.router_trace.specs.declared.binding.Resumed.{Resumed}
use Rattle.router_trace.specs.declared.binding.Resumed.TheVariants.{Settled, Again, Anew, Kept}
use Rattle.resume_core.specs.declared.consumer.Sending.{Sending}

-- The peer's map.

-- its entries; a null map has none
abbrev pub entries_of : Option (List UnsettledDelivery) → List UnsettledDelivery
entries_of None = []
entries_of (Some entries) = entries

-- the entry of a tag: the first, if there are several
abbrev pub told_in : List UnsettledDelivery → List ℕ → Option UnsettledDelivery
told_in theirs tag = find (λ d. same_bytes d.tag.items tag) theirs

-- The router's map.

-- An outcome as the router's map has it: with its flags, but no error and no annotations.
abbrev pub brief_outcome : DeliveryState → DeliveryState
brief_outcome (state.Rejected r) = state.Rejected (record { error = None })
brief_outcome (state.Modified m) = state.Modified (record m { message_annotations = None })
brief_outcome s = s

-- the entry of a delivery; its state is null as long as it is undecided
abbrev pub map_entry : List ℕ → Option DeliveryState → UnsettledDelivery
map_entry tag outcome = record { tag = record { items = tag }; state = option_map brief_outcome outcome }

-- The rows of a producer's link. Their tags are the producer's.

-- its producer hasn't settled it
abbrev pub is_unforgotten : Row → Bool
is_unforgotten r = not r.forgotten

-- The attach forgets an unforgotten row if a complete map lacks its tag: the producer has settled it.
abbrev pub is_forgotten_by : Bool → List UnsettledDelivery → Row → Bool
is_forgotten_by complete theirs r = complete && (is_unforgotten r && not (is_some (told_in theirs r.tag.items)))

-- it is unsettled after the attach
abbrev pub is_unsettled_after : Bool → List UnsettledDelivery → Row → Bool
is_unsettled_after complete theirs r = is_unforgotten r && not (is_forgotten_by complete theirs r)

-- the producer may resume it: it is unsettled after the attach, and stands in the producer's map
abbrev pub is_due : Bool → List UnsettledDelivery → Row → Bool
is_due complete theirs r = is_unsettled_after complete theirs r && is_some (told_in theirs r.tag.items)

-- its entry in the router's map
abbrev pub producer_entry : Row → UnsettledDelivery
producer_entry r = map_entry r.tag.items r.outcome

-- the rows that the attach forgets
abbrev pub forgotten_rows : Bool → List UnsettledDelivery → List Row → List RowNumber
forgotten_rows complete theirs rows = map (λ r. r.number) (filter (is_forgotten_by complete theirs) rows)

-- the router's map
abbrev pub producer_map : Bool → List UnsettledDelivery → List Row → List UnsettledDelivery
producer_map complete theirs rows = map producer_entry (filter (is_unsettled_after complete theirs) rows)

-- the tags that the producer may resume
abbrev pub due_tags : Bool → List UnsettledDelivery → List Row → List (ArrayVec ℕ)
due_tags complete theirs rows = map (λ r. r.tag) (filter (is_due complete theirs) rows)

-- The rows of a consumer's link. Their tags are the router's, made from their numbers.

-- the tag of a row
abbrev pub row_tag : Row → List ℕ
row_tag r = tag_of (name.Row r.number)

-- the entry of the consumer's map for a row
abbrev pub told_of : List UnsettledDelivery → Row → Option UnsettledDelivery
told_of theirs r = told_in theirs (row_tag r)

-- whether the consumer's map has it
abbrev pub is_told_of : List UnsettledDelivery → Row → Bool
is_told_of theirs r = is_some (told_of theirs r)

-- the outcome that an entry gives: its state, if that is terminal
abbrev pub outcome_told : Option UnsettledDelivery → Option DeliveryState
outcome_told None = None
outcome_told (Some d) = terminal d.state

-- The outcome that an entry gives a row, as the router keeps it; a decided row gets none.
abbrev pub outcome_given : Option UnsettledDelivery → Option DeliveryState → Option DeliveryState
outcome_given told (Some outcome) = None
outcome_given told None = option_map kept_outcome (outcome_told told)

-- the outcome that the attach gives a row
abbrev pub decided_by : List UnsettledDelivery → Row → Option DeliveryState
decided_by theirs r = outcome_given (told_of theirs r) r.outcome

-- whether it gives one
abbrev pub is_decided_by : List UnsettledDelivery → Row → Bool
is_decided_by theirs r = is_some (decided_by theirs r)

-- its own outcome, or else the one that is given
abbrev pub either_outcome : Option DeliveryState → Option DeliveryState → Option DeliveryState
either_outcome (Some outcome) given = Some outcome
either_outcome None given = given

-- the outcome of a row after the attach
abbrev pub outcome_after : List UnsettledDelivery → Row → Option DeliveryState
outcome_after theirs r = either_outcome r.outcome (decided_by theirs r)

-- the decision of a row, if the attach decides it
abbrev pub decision_of : List UnsettledDelivery → Row → Option Decision
decision_of theirs r = option_map (λ outcome. record { row = r.number; outcome = outcome }) (decided_by theirs r)

-- The entry of a row in the router's map, by whether the consumer's map has the row: one that is decided and not in that map has none.
abbrev pub listed_entry : List ℕ → Bool → Option DeliveryState → Option UnsettledDelivery
listed_entry tag false (Some outcome) = None
listed_entry tag told outcome = Some (map_entry tag outcome)

-- its entry: if it is undecided after the attach, or the consumer's map has it
abbrev pub consumer_entry : List UnsettledDelivery → Row → Option UnsettledDelivery
consumer_entry theirs r = listed_entry (row_tag r) (is_told_of theirs r) (outcome_after theirs r)

-- whether it has one
abbrev pub is_listed : List UnsettledDelivery → Row → Bool
is_listed theirs r = is_some (consumer_entry theirs r)

-- How a row is sent: by whether the map is complete, whether it has the row, and the row's outcome after the attach. Of a row that an
-- incomplete map lacks nothing is known, so it is kept and not sent.
abbrev pub resumed_as : Bool → Bool → Option DeliveryState → Option Resumed
resumed_as complete true (Some outcome) = Some (Settled outcome)
resumed_as complete true None = Some Again
resumed_as complete false (Some outcome) = None
resumed_as true false None = Some Anew
resumed_as false false None = Some Kept

-- how the attach has a row sent
abbrev pub sent_as : Bool → List UnsettledDelivery → Row → Option Resumed
sent_as complete theirs r = resumed_as complete (is_told_of theirs r) (outcome_after theirs r)

-- whether it is sent
abbrev pub is_sent : Bool → List UnsettledDelivery → Row → Bool
is_sent complete theirs r = is_some (sent_as complete theirs r)

-- what is sent of it
abbrev pub sending_as : Row → Resumed → Sending
sending_as r how = record { row = r.number; how = how; format = r.format; payload = r.payload }

abbrev pub sending_of : Bool → List UnsettledDelivery → Row → Option Sending
sending_of complete theirs r = option_map (sending_as r) (sent_as complete theirs r)

-- what the attach decides
abbrev pub decisions : List UnsettledDelivery → List Row → List Decision
decisions theirs rows = filter_map (decision_of theirs) rows

-- the router's map
abbrev pub consumer_map : List UnsettledDelivery → List Row → List UnsettledDelivery
consumer_map theirs rows = filter_map (consumer_entry theirs) rows

-- what is sent
abbrev pub sendings : Bool → List UnsettledDelivery → List Row → List Sending
sendings complete theirs rows = filter_map (sending_of complete theirs) rows
