-- The frames of an attach that is taken or refused may be written in their order, and so may those of incoming deliveries and dispositions.
use Rattle.std.proofs.Common.{◌≡◌, ◌∙◌, sym, ap, refl, true≢false, ℕ, Bool, true, false, not, List, [], ◌∷◌}
use Rattle.std.specs.Prelude.{Option, Some, None, if◌then◌else◌, nat_lt}
use Rattle.amqp_model.specs.declared.perf.Attach.{Attach as AnAttach}
use Rattle.amqp_model.specs.declared.perf.Role.TheVariants.{Receiver}
use Rattle.amqp_model.specs.declared.state.DeliveryState.{DeliveryState}
use Rattle.amqp_model.specs.declared.state.UnsettledDelivery.{UnsettledDelivery}
use Rattle.amqp_model.specs.declared.item.Item.{Item}
use Rattle.amqp_link.specs.declared.part.Delivery.{Delivery as Told}
use Rattle.amqp_link.specs.declared.part.Part.{Part}
use Rattle.amqp_link.specs.declared.part.Part.TheVariants as part
use Rattle.book_model.specs.Book.{BookView}
use Rattle.book_model.specs.declared.row.Row.{Row}
use Rattle.book_model.specs.declared.row.RowNumber.{RowNumber}
use Rattle.router_trace.specs.declared.condition.Condition.{Condition}
use Rattle.router_trace.specs.declared.condition.Condition.TheVariants.{FrameSizeTooSmall, ResourceLimitExceeded, MessageSizeExceeded}
use Rattle.router_trace.specs.declared.handle.Attachment.{Attachment}
use Rattle.router_trace.specs.Trace.{Entry, goes, each_to, ups}
use Rattle.router_trace.specs.Connection.{has}
use Rattle.router_trace.specs.DeliveryFrames.{outcome_item}
use Rattle.router_trace.specs.Durable.{is_durable}
use Rattle.router_trace.specs.LinkFrames.{attach_item, detach_item, answer_to, refusal_of, fits}
use Rattle.router_trace.specs.Links.{link, if_attached, last_of_key, free_handle, key_at}
use Rattle.router_trace.specs.Order.{unwritten, of_session, has_turn}
use Rattle.router_trace.specs.Peers.{largest_frame}
use Rattle.router_trace.specs.Settling.{unbound}
use Rattle.router_state.specs.Copying.{goes_to_all}
use Rattle.reply_transfers.specs.Transfers.{claimed_id, lasts_on, consumer_for, let_go, unless_many, ignored_put, row_resumed, unless_joined, resumed_put, let_down_as, let_down_by, unbound_put, part_put, settled_answers}
use Rattle.router_reply.specs.Replies.{stolen_by, with_map, attach_answer, taken, refused}
use Rattle.state_connections.proofs.Lists.{by_test}
use Rattle.router_core.proofs.Flowing.{AllFit, IsQuiet, fit_both}
use Rattle.router_core.proofs.Linked.{holder_linked}
use Rattle.router_core.proofs.Ordered.{Ordered, wrote, written_all}

-- a connection on which a session was begun is known
pub session_known : (t : List Entry) (c o : ℕ) → Ordered t → of_session (wrote t c) o ≡ true → has c (ups t) ≡ true
session_known t c o ord begun =
    by_test (has c (ups t)) (λ h. h)
    (λ h. absurd (true≢false (sym begun ∙ ap (λ js. of_session (written_all js unwritten) o) (ord.unknown c h))))

-- the detach of a link that is stolen
stolen_fit : (t : List Entry) → Ordered t → (last x : Option Attachment) → if_attached t last ≡ x → AllFit t (stolen_by x)
stolen_fit t ord last None is = tt
stolen_fit t ord last (Some x) is =
    let begun : of_session (wrote t x.conn.0) x.channel ≡ true = ord.linked x.conn.0 x.channel x.handle (holder_linked t last x is)
    in (record { known = session_known t x.conn.0 x.channel ord begun; turn = begun; quiet = tt }, tt)

-- frames of links on a session
all_fit : (t : List Entry) (c : ℕ) → has c (ups t) ≡ true → (i : Item) → has_turn (wrote t c) i ≡ true → IsQuiet i → AllFit t (each_to c (i ∷ []))
all_fit t c known i turn quiet = (record { known = known; turn = turn; quiet = quiet }, tt)

sized_fit : (t : List Entry) (c own : ℕ) → has c (ups t) ≡ true → of_session (wrote t c) own ≡ true
    → (b : Bool) (handle : ℕ) (closed : Bool) (e : Condition) (a : AnAttach)
    → AllFit t (each_to c (if b then attach_item own a ∷ [] else detach_item own handle closed (Some e) ∷ []))
sized_fit t c own known begun true handle closed e a = all_fit t c known (attach_item own a) begun tt
sized_fit t c own known begun false handle closed e a = all_fit t c known (detach_item own handle closed (Some e)) begun tt

answer_fit : (t : List Entry) (c own : ℕ) → has c (ups t) ≡ true → of_session (wrote t c) own ≡ true
    → (largest : ℕ) (handle : Option ℕ) (ours : List UnsettledDelivery) (a : AnAttach) → AllFit t (each_to c (attach_answer largest own handle ours a))
answer_fit t c own known begun largest None ours a = tt
answer_fit t c own known begun largest (Some handle) ours a =
    let answer : AnAttach = with_map ours (answer_to a handle)
    in sized_fit t c own known begun (fits largest (attach_item own answer)) handle (not (is_durable answer.role answer)) FrameSizeTooSmall answer

pub taken_fit : (t : List Entry) (c own : ℕ) (ours : List UnsettledDelivery) (a : AnAttach) → Ordered t → of_session (wrote t c) own ≡ true → AllFit t (taken t c own ours a)
taken_fit t c own ours a ord begun =
    fit_both t (stolen_by (if_attached t last)) _ (stolen_fit t ord last (if_attached t last) refl)
    (answer_fit t c own (session_known t c own ord begun) begun (largest_frame t c) (free_handle (goes (stolen_by (if_attached t last)) t) c own) ours a)
  where
    last : Option Attachment
    last = last_of_key t (key_at t c (answer_to a 0))

pub refused_fit : (t : List Entry) (largest c own handle : ℕ) (e : Condition) (a : AnAttach) → Ordered t → of_session (wrote t c) own ≡ true
    → AllFit t (each_to c (refused largest own handle e a))
refused_fit t largest c own handle e a ord begun = by (fits largest (attach_item own (refusal_of a handle)))
  where
    known : has c (ups t) ≡ true
    known = session_known t c own ord begun

    by : (b : Bool) → AllFit t (each_to c (if b then attach_item own (refusal_of a handle) ∷ detach_item own handle true (Some e) ∷ [] else detach_item own handle true (Some e) ∷ []))
    by true = (record { known = known; turn = begun; quiet = tt }, all_fit t c known (detach_item own handle true (Some e)) begun tt)
    by false = all_fit t c known (detach_item own handle true (Some e)) begun tt

-- what a whole delivery causes, and dispositions that are answered

gone_fit : (t after : List Entry) (c own handle : ℕ) (x : Condition) → has c (ups t) ≡ true → of_session (wrote t c) own ≡ true
    → AllFit t (each_to c (let_go after c own handle x))
gone_fit t after c own handle x known begun = all_fit t c known (detach_item own handle (not (lasts_on (link after c own handle))) (Some x)) begun tt

many_fit : (t after : List Entry) (c own handle : ℕ) (items : List Item) → has c (ups t) ≡ true → of_session (wrote t c) own ≡ true
    → AllFit t (each_to c items) → AllFit t (each_to c (unless_many after c own handle items))
many_fit t after c own handle items known begun fit =
    by_test (nat_lt 1024 (unbound after c own handle))
    (λ e. rw e (gone_fit t after c own handle ResourceLimitExceeded known begun))
    (λ e. rw e fit)

ignored_fit : (t after : List Entry) (c own handle : ℕ) (q : Option ℕ) → has c (ups t) ≡ true → of_session (wrote t c) own ≡ true
    → AllFit t (each_to c (ignored_put after c own handle q))
ignored_fit t after c own handle None known begun = tt
ignored_fit t after c own handle (Some id) known begun = many_fit t after c own handle [] known begun tt

resumed_fit : (t after : List Entry) (c own handle : ℕ) (q : Option ℕ) (r : Option Row) → has c (ups t) ≡ true → of_session (wrote t c) own ≡ true
    → AllFit t (each_to c (unless_joined r (ignored_put after c own handle q)))
resumed_fit t after c own handle q None known begun = ignored_fit t after c own handle q known begun
resumed_fit t after c own handle q (Some r) known begun = tt

let_down_fit : (t after : List Entry) (c own handle : ℕ) (durable : Bool) (outcome : DeliveryState) (id : ℕ) → has c (ups t) ≡ true → of_session (wrote t c) own ≡ true
    → AllFit t (each_to c (let_down_by after c own handle durable outcome id))
let_down_fit t after c own handle false outcome id known begun = (record { known = known; turn = begun; quiet = tt }, tt)
let_down_fit t after c own handle true outcome id known begun =
    many_fit t after c own handle (outcome_item own Receiver id false outcome ∷ []) known begun (record { known = known; turn = begun; quiet = tt }, tt)

unbound_fit : (t after : List Entry) (c own handle : ℕ) (q : Option ℕ) (consumer : Option Attachment) → has c (ups t) ≡ true → of_session (wrote t c) own ≡ true
    → AllFit t (each_to c (unbound_put after c own handle q consumer))
unbound_fit t after c own handle None None known begun = tt
unbound_fit t after c own handle (Some id) None known begun =
    let_down_fit t after c own handle (lasts_on (link after c own handle)) (let_down_as (goes_to_all after (link after c own handle))) id known begun
unbound_fit t after c own handle q (Some consumer) known begun = tt

pub part_fit : (b : BookView) (t after : List Entry) (c own handle : ℕ) (row : Option RowNumber) (q : Option Part) → Ordered t → of_session (wrote t c) own ≡ true
    → AllFit t (each_to c (part_put b after c own handle row q))
part_fit b t after c own handle row q ord begun = by q
  where
    known : has c (ups t) ≡ true
    known = session_known t c own ord begun

    whole : (resumed : Bool) (d : Told) → AllFit t (each_to c (if resumed then resumed_put b after c own handle (claimed_id after c own handle d.id)
        else unbound_put after c own handle (claimed_id after c own handle d.id) (consumer_for after c own handle d row)))
    whole true d = resumed_fit t after c own handle (claimed_id after c own handle d.id) (row_resumed b after c own (claimed_id after c own handle d.id)) known begun
    whole false d = unbound_fit t after c own handle (claimed_id after c own handle d.id) (consumer_for after c own handle d row) known begun

    by : (q : Option Part) → AllFit t (each_to c (part_put b after c own handle row q))
    by (Some (part.Whole d payload)) = whole d.resume d
    by (Some part.TooLarge) = gone_fit t after c own handle MessageSizeExceeded known begun
    by _ = tt

pub settled_fit : (t : List Entry) (c own : ℕ) (s : Option DeliveryState) (ids : List ℕ) → Ordered t → of_session (wrote t c) own ≡ true
    → AllFit t (each_to c (settled_answers own s ids))
settled_fit t c own None ids ord begun = tt
settled_fit t c own (Some s) [] ord begun = tt
settled_fit t c own (Some s) (id ∷ ids) ord begun =
    (record { known = session_known t c own ord begun; turn = begun; quiet = tt }, settled_fit t c own (Some s) ids ord begun)
