-- The items that start no delivery and tell no delivery-count: neither transfers nor flows of links. The rows of events put only such items, but for the flow
-- of a link that the peer asks for.
use Rattle.std.proofs.Common.{◌≡◌, refl, ℕ, zero, suc, ◌+◌, Bool, true, false, not, List, [], ◌∷◌, ◌++◌}
use Rattle.std.specs.Prelude.{Option, Some, None, is_none, not, if◌then◌else◌, nat_lt}
use Rattle.amqp_model.specs.declared.perf.Attach.{Attach as AnAttach}
use Rattle.amqp_model.specs.declared.perf.Perf.{Perf}
use Rattle.amqp_model.specs.declared.perf.Perf.TheVariants as perf
use Rattle.amqp_model.specs.declared.perf.Role.TheVariants.{Receiver}
use Rattle.amqp_model.specs.declared.state.DeliveryState.{DeliveryState}
use Rattle.amqp_model.specs.declared.state.UnsettledDelivery.{UnsettledDelivery}
use Rattle.amqp_model.specs.declared.item.Item.{Item}
use Rattle.amqp_model.specs.declared.item.Item.TheVariants as item
use Rattle.amqp_conn.specs.declared.conn.Conn.{Conn}
use Rattle.amqp_link.specs.declared.part.Delivery.{Delivery as Told}
use Rattle.amqp_link.specs.declared.part.Part.{Part}
use Rattle.amqp_link.specs.declared.part.Part.TheVariants as part
use Rattle.amqp_session.specs.Session.{Session}
use Rattle.amqp_session.specs.declared.states.FlowState.{FlowState}
use Rattle.book_model.specs.Book.{BookView}
use Rattle.book_model.specs.declared.row.Row.{Row}
use Rattle.book_model.specs.declared.row.RowNumber.{RowNumber}
use Rattle.router_trace.specs.declared.binding.Origin.{Origin}
use Rattle.router_trace.specs.declared.condition.Condition.{Condition}
use Rattle.router_trace.specs.declared.condition.Condition.TheVariants.{ResourceLimitExceeded, FrameSizeTooSmall, MessageSizeExceeded}
use Rattle.router_trace.specs.declared.frames.LinkState.{LinkState}
use Rattle.router_trace.specs.declared.handle.Attachment.{Attachment}
use Rattle.router_trace.specs.Trace.{Entry, Put, each_to}
use Rattle.router_trace.specs.Connection.{Connection, live}
use Rattle.router_trace.specs.Frames.{closing}
use Rattle.router_trace.specs.Deliveries.{Delivery, bindings, has_row, delivery, rank_at}
use Rattle.router_trace.specs.DeliveryFrames.{outcome_item}
use Rattle.router_trace.specs.Settling.{unbound}
use Rattle.router_trace.specs.Numbers.{first_ranked}
use Rattle.router_trace.specs.Following.{is_to_be_told, outcome_to, tell, tells_of, tells}
use Rattle.router_trace.specs.Durable.{is_durable}
use Rattle.router_trace.specs.LinkFrames.{attach_item, detach_item, link_flow_item, answer_to, refusal_of, fits}
use Rattle.router_trace.specs.Links.{link, holder, key_at}
use Rattle.router_trace.specs.Peers.{largest_frame}
use Rattle.router_trace.specs.Sessions.{session}
use Rattle.router_trace.specs.Clocks.{terms, written, needs_beat}
use Rattle.state_sessions.specs.Windows.{is_narrow, flow_due, flows_below, windows_over, windows}
use Rattle.router_state.specs.Tables.{beat_if, beats_over}
use Rattle.reply_rows.specs.declared.answer.Answer.{Answer}
use Rattle.reply_rows.specs.declared.answer.Answer.TheVariants.{Nothing, Header, Open, Close, CloseWith, Begin, End, Flow, Attach, Refuse, Detach, LinkFlow, Taken, Settle}
use Rattle.reply_rows.specs.Rows.{said}
use Rattle.router_state.specs.Copying.{goes_to_all}
use Rattle.reply_transfers.specs.Transfers.{claimed_id, lasts_on, consumer_for, let_go, unless_many, ignored_put, row_resumed, unless_joined, resumed_put, let_down_as, let_down_by, unbound_put, whole_put, part_put, settled_answers}
use Rattle.router_reply.specs.Replies.{closing_of, stolen_by, with_map, attach_answer, taken, refused, item_put}
use Rattle.reply_rows.specs.Acts.{book_in}
use Rattle.state_connections.proofs.Lists.{by_test}
use Rattle.router_core.proofs.ItemRows.{item_cases}

abbrev pub is_bare_in : Perf → Bool
is_bare_in (perf.Transfer x) = false
is_bare_in (perf.Flow f) = is_none f.handle
is_bare_in _ = true

abbrev pub is_bare : Item → Bool
is_bare (item.Frame sasl own body payload) = is_bare_in body
is_bare _ = true

-- all of these items are, and all of these outgoing items
abbrev pub Bare : List Item → Type 0
Bare [] = Unit {0}
Bare (i ∷ is) = (is_bare i ≡ true) × Bare is

abbrev pub BarePut : List Put → Type 0
BarePut [] = Unit {0}
BarePut (p ∷ ps) = (is_bare p.item ≡ true) × BarePut ps

bare_both : (ps qs : List Put) → BarePut ps → BarePut qs → BarePut (ps ++ qs)
bare_both [] qs first rest = rest
bare_both (p ∷ ps) qs first rest = (first.0, bare_both ps qs first.1 rest)

pub bare_to : (c : ℕ) (is : List Item) → Bare is → BarePut (each_to c is)
bare_to c [] bare = tt
bare_to c (i ∷ is) bare = (bare.0, bare_to c is bare.1)

-- closes

bare_closing : (id : List ℕ) (p : Conn) (x : Condition) → Bare (closing id p x)
bare_closing id p x = by_test p.opened (λ e. rw e (refl, tt)) (λ e. rw e (refl, (refl, tt)))

pub bare_closing_of : (id : List ℕ) (v : Option Connection) (x : Condition) → Bare (closing_of id v x)
bare_closing_of id None x = tt
bare_closing_of id (Some v) x = bare_closing id v.phase x

-- an attach that is taken, or refused

bare_stolen : (x : Option Attachment) → BarePut (stolen_by x)
bare_stolen None = tt
bare_stolen (Some x) = (refl, tt)

bare_sized : (b : Bool) (own handle : ℕ) (closed : Bool) (e : Condition) (a : AnAttach) → Bare (if b then attach_item own a ∷ [] else detach_item own handle closed (Some e) ∷ [])
bare_sized true own handle closed e a = (refl, tt)
bare_sized false own handle closed e a = (refl, tt)

bare_attach : (largest own : ℕ) (handle : Option ℕ) (ours : List UnsettledDelivery) (a : AnAttach) → Bare (attach_answer largest own handle ours a)
bare_attach largest own None ours a = tt
bare_attach largest own (Some handle) ours a =
    let answer : AnAttach = with_map ours (answer_to a handle)
    in bare_sized (fits largest (attach_item own answer)) own handle (not (is_durable answer.role answer)) FrameSizeTooSmall answer

bare_taken : (t : List Entry) (c own : ℕ) (ours : List UnsettledDelivery) (a : AnAttach) → BarePut (taken t c own ours a)
bare_taken t c own ours a =
    let older = stolen_by (holder t (key_at t c (answer_to a 0)))
    in bare_both older _ (bare_stolen (holder t (key_at t c (answer_to a 0)))) (bare_to c _ (bare_attach (largest_frame t c) own _ ours a))

bare_refused : (largest own handle : ℕ) (e : Condition) (a : AnAttach) → Bare (refused largest own handle e a)
bare_refused largest own handle e a = by (fits largest (attach_item own (refusal_of a handle)))
  where
    by : (b : Bool) → Bare (if b then attach_item own (refusal_of a handle) ∷ detach_item own handle true (Some e) ∷ [] else detach_item own handle true (Some e) ∷ [])
    by true = (refl, (refl, tt))
    by false = (refl, tt)

-- what a whole delivery causes, and dispositions that are answered

bare_gone : (after : List Entry) (c own handle : ℕ) (x : Condition) → Bare (let_go after c own handle x)
bare_gone after c own handle x = (refl, tt)

bare_many : (after : List Entry) (c own handle : ℕ) (items : List Item) → Bare items → Bare (unless_many after c own handle items)
bare_many after c own handle items none =
    by_test (nat_lt 1024 (unbound after c own handle)) (λ e. rw e (bare_gone after c own handle ResourceLimitExceeded)) (λ e. rw e none)

bare_ignored : (after : List Entry) (c own handle : ℕ) (q : Option ℕ) → Bare (ignored_put after c own handle q)
bare_ignored after c own handle None = tt
bare_ignored after c own handle (Some id) = bare_many after c own handle [] tt

bare_let_down : (after : List Entry) (c own handle : ℕ) (durable : Bool) (outcome : DeliveryState) (id : ℕ) → Bare (let_down_by after c own handle durable outcome id)
bare_let_down after c own handle false outcome id = (refl, tt)
bare_let_down after c own handle true outcome id = bare_many after c own handle (outcome_item own Receiver id false outcome ∷ []) (refl, tt)

bare_unbound : (after : List Entry) (c own handle : ℕ) (q : Option ℕ) (consumer : Option Attachment) → Bare (unbound_put after c own handle q consumer)
bare_unbound after c own handle None None = tt
bare_unbound after c own handle (Some id) None =
    bare_let_down after c own handle (lasts_on (link after c own handle)) (let_down_as (goes_to_all after (link after c own handle))) id
bare_unbound after c own handle q (Some consumer) = tt

bare_resumed : (after : List Entry) (c own handle : ℕ) (q : Option ℕ) (r : Option Row) → Bare (unless_joined r (ignored_put after c own handle q))
bare_resumed after c own handle q None = bare_ignored after c own handle q
bare_resumed after c own handle q (Some r) = tt

bare_whole : (b : BookView) (after : List Entry) (c own handle : ℕ) (d : Told) (row : Option RowNumber) → Bare (whole_put b after c own handle d row)
bare_whole b after c own handle d row = by d.resume
  where
    by : (resumed : Bool) → Bare (if resumed then resumed_put b after c own handle (claimed_id after c own handle d.id)
        else unbound_put after c own handle (claimed_id after c own handle d.id) (consumer_for after c own handle d row))
    by true = bare_resumed after c own handle (claimed_id after c own handle d.id) (row_resumed b after c own (claimed_id after c own handle d.id))
    by false = bare_unbound after c own handle (claimed_id after c own handle d.id) (consumer_for after c own handle d row)

bare_part : (b : BookView) (after : List Entry) (c own handle : ℕ) (row : Option RowNumber) (q : Option Part) → Bare (part_put b after c own handle row q)
bare_part b after c own handle row (Some (part.Whole d payload)) = bare_whole b after c own handle d row
bare_part b after c own handle row (Some part.TooLarge) = bare_gone after c own handle MessageSizeExceeded
bare_part b after c own handle row _ = tt

bare_settled : (own : ℕ) (s : Option DeliveryState) (ids : List ℕ) → Bare (settled_answers own s ids)
bare_settled own None ids = tt
bare_settled own (Some s) [] = tt
bare_settled own (Some s) (id ∷ ids) = (refl, bare_settled own (Some s) ids)

-- What the row of an item puts is bare, or the flow of a link that the peer asked for.

said_cases : (id : List ℕ) (c : ℕ) (p : Conn) (P : Answer → List Put → Type 0) → ((a : Answer) (ps : List Put) → BarePut ps → P a ps)
    → ((own : ℕ) (told : FlowState) (at : LinkState) → P (LinkFlow own told at) (record { conn = c; item = link_flow_item own told at } ∷ []))
    → (a : Answer) → P a (each_to c (said id p a))
said_cases id c p P bare flows Nothing = bare Nothing (each_to c (said id p Nothing)) tt
said_cases id c p P bare flows Header = bare Header (each_to c (said id p Header)) (refl, tt)
said_cases id c p P bare flows Open = bare Open (each_to c (said id p Open)) (refl, tt)
said_cases id c p P bare flows Close = bare Close (each_to c (said id p Close)) (refl, tt)
said_cases id c p P bare flows (CloseWith x) = bare (CloseWith x) (each_to c (said id p (CloseWith x))) (bare_to c (closing id p x) (bare_closing id p x))
said_cases id c p P bare flows (Begin own theirs) = bare (Begin own theirs) (each_to c (said id p (Begin own theirs))) (refl, tt)
said_cases id c p P bare flows (End own x) = bare (End own x) (each_to c (said id p (End own x))) (refl, tt)
said_cases id c p P bare flows (Flow own told) = bare (Flow own told) (each_to c (said id p (Flow own told))) (refl, tt)
said_cases id c p P bare flows (Attach own) = bare (Attach own) (each_to c (said id p (Attach own))) tt
said_cases id c p P bare flows (Refuse own handle x) = bare (Refuse own handle x) (each_to c (said id p (Refuse own handle x))) tt
said_cases id c p P bare flows (Detach own handle closed x) = bare (Detach own handle closed x) (each_to c (said id p (Detach own handle closed x))) (refl, tt)
said_cases id c p P bare flows (LinkFlow own told at) = flows own told at
said_cases id c p P bare flows (Taken own handle) = bare (Taken own handle) (each_to c (said id p (Taken own handle))) tt
said_cases id c p P bare flows (Settle own) = bare (Settle own) (each_to c (said id p (Settle own))) tt

pub item_bare : (id : List ℕ) (t after : List Entry) (c : ℕ) (p : Conn) (P : Answer → List Put → Type 0) → ((a : Answer) (ps : List Put) → BarePut ps → P a ps)
    → ((own : ℕ) (told : FlowState) (at : LinkState) → P (LinkFlow own told at) (record { conn = c; item = link_flow_item own told at } ∷ []))
    → (i : Item) (a : Answer) → P a (item_put id t after c p i a)
item_bare id t after c p P bare flows i a =
    item_cases id t after c p P
    (λ a. said_cases id c p P bare flows a)
    (λ own ours x. bare (Attach own) (taken after c own ours x) (bare_taken after c own ours x))
    (λ own handle e x. bare (Refuse own handle e) (each_to c (refused (largest_frame after c) own handle e x)) (bare_to c _ (bare_refused (largest_frame after c) own handle e x)))
    (λ own handle row q. bare (Taken own handle) (each_to c (part_put (book_in t) after c own handle row q)) (bare_to c _ (bare_part (book_in t) after c own handle row q)))
    (λ own s ids. bare (Settle own) (each_to c (settled_answers own s ids)) (bare_to c _ (bare_settled own s ids)))
    i a

-- heartbeats, and the flows that restore windows

bare_beat : (b : Bool) (c : ℕ) → BarePut (beat_if b c)
bare_beat true c = (refl, tt)
bare_beat false c = tt

pub bare_beats : (t : List Entry) (now : ℕ) (cs : List ℕ) → BarePut (beats_over t now cs)
bare_beats t now [] = tt
bare_beats t now (c ∷ cs) = bare_both (beat_if (needs_beat (terms t c) (written t c) now) c) (beats_over t now cs) (bare_beat _ c) (bare_beats t now cs)

bare_flow : (c o : ℕ) (v : Option Session) → BarePut (flow_due c o v)
bare_flow c o None = tt
bare_flow c o (Some h) = by_test (is_narrow h) (λ e. rw e (refl, tt)) (λ e. rw e tt)

bare_below : (c : ℕ) (known : ℕ → Option Session) (n : ℕ) → BarePut (flows_below c known n)
unfolding flows_below
bare_below c known zero = tt
bare_below c known (suc n) = bare_both (flows_below c known n) (flow_due c n (known n)) (bare_below c known n) (bare_flow c n (known n))

bare_over : (t : List Entry) (cs : List ℕ) → BarePut (windows_over t cs)
bare_over t [] = tt
bare_over t (c ∷ cs) = bare_both (flows_below c (session t c) 15) (windows_over t cs) (bare_below c (session t c) 15) (bare_over t cs)

pub bare_window : (t : List Entry) → BarePut (windows t)
bare_window t = bare_over t (live t)

-- outcomes that are told

bare_tell : (d : Option Delivery) → BarePut (tell d)
bare_tell None = tt
bare_tell (Some d) = by d.origin d.outcome
  where
    by : (origin : Option Origin) (decided : Option DeliveryState) → BarePut (outcome_to origin (not (has_row d.name)) decided)
    by None decided = tt
    by (Some p) None = tt
    by (Some p) (Some s) = (refl, tt)

bare_told : (t : List Entry) (n : Option ℕ) → BarePut (tells_of t n)
bare_told t None = tt
bare_told t (Some n) = bare_tell (delivery t n)

pub bare_tells : (t : List Entry) → BarePut (tells t)
bare_tells t = bare_told t (first_ranked (rank_at t) (bindings t + 1) (λ n. is_to_be_told t (delivery t n)))
