-- Durable links and the book of durable deliveries: why a link, or a delivery on one, that its row would take is refused after all.
use Rattle.std.specs.Prelude.{◌≡◌, ℕ, Bool, false, not, ◌&&◌, ◌||◌, nat_lt, if◌then◌else◌, List, [], length, filter, Option, Some, None, is_none, is_some, unwrap_or}
use Rattle.amqp_model.specs.declared.perf.Attach.{Attach as AnAttach}
use Rattle.amqp_model.specs.declared.perf.Perf.{Perf}
use Rattle.amqp_model.specs.declared.perf.Perf.TheVariants as perf
use Rattle.amqp_model.specs.declared.perf.Transfer.{Transfer as ATransfer}
use Rattle.amqp_model.specs.declared.item.Item.{Item}
use Rattle.amqp_model.specs.declared.item.Item.TheVariants as item
use Rattle.amqp_conn.specs.declared.conn.Conn.{Conn}
use Rattle.amqp_link.specs.declared.part.Delivery.{Delivery as Told}
use Rattle.book_model.specs.Book.{BookView, same_bytes, terminus_of, has_short_texts, row_named, is_of, is_from, is_for}
use Rattle.book_model.specs.declared.row.Row.{Row}
use Rattle.book_model.specs.declared.terminus.LinkKey.{LinkKey}
use Rattle.book_model.specs.declared.terminus.Terminus.{Terminus}
use Rattle.router_trace.specs.Trace.{Trace}
use Rattle.router_trace.specs.Durable.{is_durable}
use Rattle.router_trace.specs.LinkFrames.{other, plain_answer}
use Rattle.router_trace.specs.Deliveries.{tag_in}
use Rattle.router_trace.specs.Links.{LinkPlace, on, address_by, key_at, link, link_place, free_handle, durable_key}
use Rattle.router_trace.specs.Settling.{middle_on, uses_tag}
use Rattle.router_trace.specs.declared.condition.Condition.{Condition}
use Rattle.router_trace.specs.declared.condition.Condition.TheVariants.{NotAllowed, ResourceLimitExceeded}
use Rattle.router_state.specs.Finding.{IsFoundLink}
use Rattle.state_links.specs.declared.found.FoundLink.{FoundLink}
use Rattle.reply_rows.specs.Finding.{finds}
use Rattle.reply_rows.specs.Rows.{item_reply}
use Rattle.reply_rows.specs.declared.answer.Answer.{Answer}
use Rattle.reply_rows.specs.declared.answer.Answer.TheVariants.{End, Refuse, Attach, Detach, Taken}

-- the link that a peer's attach asks for: its key, the address of its terminus at the router's side, and whether it is durable
abbrev pub wanted_key : Trace → ℕ → AnAttach → LinkKey
wanted_key t c a = key_at t c (plain_answer a 0)

abbrev pub wanted_address : AnAttach → List ℕ
wanted_address a = unwrap_or (address_by (other a.role) a) []

abbrev pub wants_durable : AnAttach → Bool
wants_durable a = is_durable (other a.role) a

-- the terminus that the book would make for it
abbrev pub new_terminus : BookView → LinkKey → List ℕ → Terminus
new_terminus b key address = record { number = record { 0 = b.next_terminus }; key = key; address = address }

-- the journal isn't full, fewer than 1,024 termini are kept, and the texts of this one have at most 1,024 bytes each
abbrev pub has_room : Bool → BookView → Terminus → Bool
has_room full b x = not full && (nat_lt (length b.termini) 1024 && has_short_texts x)

-- The rows of a terminus: those that came on its link, or are bound to it.
abbrev pub rows_of : BookView → Terminus → List Row
rows_of b x = filter (is_of x.number.0) b.rows

-- of these the ones that came on its link
abbrev pub sent_rows : BookView → Terminus → List Row
sent_rows b x = filter (is_from x.number.0) (rows_of b x)

-- ... and those that are bound to it
abbrev pub bound_rows : BookView → Terminus → List Row
bound_rows b x = filter (is_for x.number.0) (rows_of b x)

-- A durable link is refused if its terminus has another address, or if there is no room for one.
abbrev pub durable_refusal : BookView → Option Terminus → AnAttach → Bool → Option Condition
durable_refusal b (Some x) a room = if same_bytes x.address (wanted_address a) then None else Some NotAllowed
durable_refusal b None a room = if room then None else Some ResourceLimitExceeded

abbrev pub refusal_with : Bool → BookView → LinkKey → AnAttach → Option Condition
refusal_with full b key a =
    if wants_durable a then durable_refusal b (terminus_of key b.termini) a (has_room full b (new_terminus b key (wanted_address a))) else None

abbrev pub book_refusal : Bool → BookView → Trace → ℕ → AnAttach → Option Condition
book_refusal full b t c a = refusal_with full b (wanted_key t c a) a

-- an answer that takes a link, if the book stands in its way
abbrev pub refuse_on : ℕ → Option ℕ → Condition → Answer
refuse_on own None x = End own (Some ResourceLimitExceeded)
refuse_on own (Some handle) x = Refuse own handle x

abbrev pub attach_unless : ℕ → Option ℕ → Option Condition → Answer
attach_unless own free None = Attach own
attach_unless own free (Some x) = refuse_on own free x

abbrev pub booked_attach : (ℕ → Option ℕ) → Option Condition → Answer → Answer
booked_attach free refusal (Attach own) = attach_unless own (free own) refusal
booked_attach free refusal answer = answer

-- A transfer that starts a delivery on a durable link, with the tag of a delivery that the link's producer has yet to settle, or, unless it resumes one,
-- of a row that it has yet to settle: the link is detached.
abbrev pub stands_from : Option Terminus → List ℕ → List Row → Bool
stands_from None tag rows = false
stands_from (Some x) tag rows = is_some (row_named x.number.0 tag rows)

abbrev pub repeats_tag : BookView → Trace → ℕ → ℕ → ℕ → Bool → LinkKey → List ℕ → Bool
repeats_tag b t c own handle resume key tag = uses_tag t c own handle tag || (not resume && stands_from (terminus_of key b.termini) tag b.rows)

abbrev pub repeats : BookView → Trace → ℕ → ℕ → ℕ → Bool → Option LinkKey → Option (List ℕ) → Bool
repeats b t c own handle resume (Some key) (Some tag) = repeats_tag b t c own handle resume key tag
repeats b t c own handle resume _ _ = false

-- the same of a transfer, by the delivery in the middle and the key that it finds on its handle
abbrev pub starts_again : BookView → Trace → ℕ → ℕ → ℕ → Option Told → Option LinkKey → ATransfer → Bool
starts_again b t c own handle middle key x = is_none middle && repeats b t c own handle x.resume key (tag_in x)

-- An answer that takes a transfer takes it on this session, and on the link at this place.
abbrev pub IsAt : LinkPlace → ℕ → Type 0
IsAt (on k l) handle = k ≡ handle
IsAt _ handle = ⊥

abbrev pub TakesOn : ℕ → LinkPlace → Answer → Type 0
TakesOn own at (Taken o handle) = (own ≡ o) × IsAt at handle
TakesOn own at _ = Unit {0}

-- A transfer that is taken is taken on the link that was found on its handle.
abbrev pub TakesOnLink : Trace → ℕ → ATransfer → FoundLink → Answer → Type 0
TakesOnLink t c x f (Taken own handle) = IsFoundLink (link_place t c own x.handle) f × IsAt (link_place t c own x.handle) handle
TakesOnLink t c x f _ = Unit {0}

abbrev pub TakesIn : Trace → ℕ → Perf → FoundLink → Answer → Type 0
TakesIn t c (perf.Transfer x) f answer = TakesOnLink t c x f answer
TakesIn t c _ f answer = Unit {0}

abbrev pub TakesFound : Trace → ℕ → Item → FoundLink → Answer → Type 0
TakesFound t c (item.Frame false channel body payload) f answer = TakesIn t c body f answer
TakesFound t c _ f answer = Unit {0}

abbrev pub booked_transfer : BookView → Trace → ℕ → ATransfer → Answer → Answer
booked_transfer b t c x (Taken own handle) =
    if is_none (middle_on (link_place t c own x.handle)) && repeats b t c own handle x.resume (durable_key (link t c own handle)) (tag_in x)
    then Detach own handle false (Some NotAllowed) else Taken own handle
booked_transfer b t c x answer = answer

-- the answer of a row, by the frame that it answers
abbrev pub booked_perf : Bool → BookView → Trace → ℕ → Perf → Answer → Answer
booked_perf full b t c (perf.Attach a) answer = booked_attach (free_handle t c) (book_refusal full b t c a) answer
booked_perf full b t c (perf.Transfer x) answer = booked_transfer b t c x answer
booked_perf full b t c _ answer = answer

abbrev pub booked : Bool → BookView → Trace → ℕ → Item → Answer → Answer
booked full b t c (item.Frame sasl channel body payload) answer = booked_perf full b t c body answer
booked full b t c _ answer = answer

-- the answer to an item on a live connection in this phase: that of its row, unless the book stands in the way
abbrev pub answer_at : Bool → BookView → Trace → ℕ → Conn → Item → Answer
answer_at full b t c p i = booked full b t c i (item_reply p (finds t c) i)
