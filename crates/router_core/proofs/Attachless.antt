-- Outgoing items that contain no attach: those of rows, heartbeats and flows. They begin no link.
use Rattle.std.proofs.Common.{◌≡◌, ◌∙◌, sym, ap, refl, true≢false, ℕ, zero, suc, Bool, true, false, List, [], ◌∷◌, ◌++◌, append-nil}
use Rattle.std.specs.Prelude.{◌==◌, ◌&&◌, nat_lt, if◌then◌else◌, filter, Option, Some, None, is_some, is_none}
use Rattle.amqp_model.specs.declared.perf.Disposition.{Disposition as ADisposition}
use Rattle.amqp_model.specs.declared.perf.Perf.{Perf}
use Rattle.amqp_model.specs.declared.perf.Perf.TheVariants as perf
use Rattle.amqp_model.specs.declared.perf.Role.TheVariants.{Receiver}
use Rattle.amqp_model.specs.declared.perf.Transfer.{Transfer}
use Rattle.amqp_model.specs.declared.state.DeliveryState.{DeliveryState}
use Rattle.amqp_model.specs.declared.item.Item.{Item}
use Rattle.amqp_model.specs.declared.item.Item.TheVariants as item
use Rattle.amqp_conn.specs.declared.conn.Conn.{Conn}
use Rattle.amqp_link.specs.declared.part.Delivery.{Delivery as Told}
use Rattle.amqp_link.specs.declared.part.Part.{Part}
use Rattle.amqp_link.specs.declared.part.Part.TheVariants as part
use Rattle.amqp_session.specs.Session.{Session}
use Rattle.book_model.specs.declared.row.Row.{Row}
use Rattle.book_model.specs.declared.row.RowNumber.{RowNumber}
use Rattle.book_model.specs.Book.{BookView}
use Rattle.router_trace.specs.declared.condition.Condition.{Condition}
use Rattle.router_trace.specs.declared.condition.Condition.TheVariants.{NotAllowed, ResourceLimitExceeded, MessageSizeExceeded}
use Rattle.router_trace.specs.declared.event.Event.{Event}
use Rattle.router_trace.specs.declared.event.Event.TheVariants as event
use Rattle.router_trace.specs.Trace.{Entry, Did, Out, Put, Step, goes, puts, each_to, ups}
use Rattle.router_trace.specs.Connection.{Connection, standing, found, live, live_of}
use Rattle.router_trace.specs.Clocks.{terms, written, needs_beat}
use Rattle.router_trace.specs.Frames.{closing}
use Rattle.router_trace.specs.declared.handle.Attachment.{Attachment}
use Rattle.router_trace.specs.declared.handle.PeerHandle.{PeerHandle}
use Rattle.router_trace.specs.declared.handle.PeerHandle.TheVariants.{Mapped, Detaching}
use Rattle.router_trace.specs.Links.{Link, link, link_place, link_place_by, on_link, their_handle, durable_key}
use Rattle.router_trace.specs.Deliveries.{named, terminal, last_of, tag_in}
use Rattle.router_trace.specs.DeliveryFrames.{outcome_item}
use Rattle.router_trace.specs.Settling.{ids_between, is_open_id, names_open, unbound, middle_on, part_on, part_in}
use Rattle.router_trace.specs.Sessions.{session, theirs}
use Rattle.state_sessions.specs.Windows.{is_narrow, flow_due, flows_below, windows_over, windows}
use Rattle.router_state.specs.Copying.{goes_to_all}
use Rattle.router_state.specs.Tables.{beat_if, beats_over}
use Rattle.reply_rows.specs.declared.answer.Answer.{Answer}
use Rattle.reply_rows.specs.declared.answer.Answer.TheVariants.{Nothing, Header, Open, Close, CloseWith, Begin, End, Flow, Attach, Refuse, Detach, LinkFlow, Taken, Settle}
use Rattle.reply_rows.specs.Rows.{Finds, said, item_reply}
use Rattle.reply_rows.specs.Finding.{finds}
use Rattle.reply_rows.specs.Booking.{repeats, booked_transfer}
use Rattle.reply_rows.specs.Acts.{answer_of, book_in, found_journal}
use Rattle.reply_transfers.specs.Transfers.{claimed_id, lasts_on, consumer_for, let_go, unless_many, ignored_put, row_resumed, unless_joined, resumed_put, let_down_as, let_down_by, unbound_put, part_put, settled_answers}
use Rattle.router_reply.specs.Replies.{closing_of, row_found, links_put, item_row, own_row}
use Rattle.router_core.specs.Attaches.{is_attach_in, is_attach, brings_attach}
use Rattle.state_connections.proofs.Lists.{by_test, filter_none}
use Rattle.router_core.proofs.Due.{goes_on_link, AllOnLinks}
use Rattle.router_core.proofs.Linked.{link_was, linked_before, none_if}

abbrev pub Attachless : List Put → Type 0
Attachless [] = Unit {0}
Attachless (p ∷ ps) = (is_attach p.item ≡ false) × Attachless ps

less_both : (ps qs : List Put) → Attachless ps → Attachless qs → Attachless (ps ++ qs)
less_both [] qs first rest = rest
less_both (p ∷ ps) qs first rest = (first.0, less_both ps qs first.1 rest)

-- the items of rows, and closes

less_closing : (id : List ℕ) (c : ℕ) (p : Conn) (x : Condition) → Attachless (each_to c (closing id p x))
less_closing id c p x = by_test p.opened (λ e. rw e (refl, tt)) (λ e. rw e (refl, (refl, tt)))

pub less_closing_of : (id : List ℕ) (c : ℕ) (v : Option Connection) (x : Condition) → Attachless (each_to c (closing_of id v x))
less_closing_of id c None x = tt
less_closing_of id c (Some v) x = less_closing id c v.phase x

pub less_said : (id : List ℕ) (c : ℕ) (p : Conn) (a : Answer) → Attachless (each_to c (said id p a))
less_said id c p Nothing = tt
less_said id c p Header = (refl, tt)
less_said id c p Open = (refl, tt)
less_said id c p Close = (refl, tt)
less_said id c p (CloseWith x) = less_closing id c p x
less_said id c p (Begin own theirs) = (refl, tt)
less_said id c p (End own x) = (refl, tt)
less_said id c p (Flow own told) = (refl, tt)
less_said id c p (Attach own) = tt
less_said id c p (Refuse own handle x) = tt
less_said id c p (Detach own handle closed x) = (refl, tt)
less_said id c p (LinkFlow own told at) = (refl, tt)
less_said id c p (Taken own handle) = tt
less_said id c p (Settle own) = tt

-- what a whole delivery causes, and dispositions that are answered

less_gone : (after : List Entry) (c own handle : ℕ) (x : Condition) → Attachless (each_to c (let_go after c own handle x))
less_gone after c own handle x = (refl, tt)

less_many : (after : List Entry) (c own handle : ℕ) (items : List Item) → Attachless (each_to c items) → Attachless (each_to c (unless_many after c own handle items))
less_many after c own handle items less =
    by_test (nat_lt 1024 (unbound after c own handle)) (λ e. rw e (less_gone after c own handle ResourceLimitExceeded)) (λ e. rw e less)

less_ignored : (after : List Entry) (c own handle : ℕ) (q : Option ℕ) → Attachless (each_to c (ignored_put after c own handle q))
less_ignored after c own handle None = tt
less_ignored after c own handle (Some id) = less_many after c own handle [] tt

less_resumed : (after : List Entry) (c own handle : ℕ) (q : Option ℕ) (r : Option Row) → Attachless (each_to c (unless_joined r (ignored_put after c own handle q)))
less_resumed after c own handle q None = less_ignored after c own handle q
less_resumed after c own handle q (Some r) = tt

less_let_down : (after : List Entry) (c own handle : ℕ) (durable : Bool) (outcome : DeliveryState) (id : ℕ) → Attachless (each_to c (let_down_by after c own handle durable outcome id))
less_let_down after c own handle false outcome id = (refl, tt)
less_let_down after c own handle true outcome id = less_many after c own handle (outcome_item own Receiver id false outcome ∷ []) (refl, tt)

less_unbound : (after : List Entry) (c own handle : ℕ) (q : Option ℕ) (consumer : Option Attachment) → Attachless (each_to c (unbound_put after c own handle q consumer))
less_unbound after c own handle None None = tt
less_unbound after c own handle (Some id) None =
    less_let_down after c own handle (lasts_on (link after c own handle)) (let_down_as (goes_to_all after (link after c own handle))) id
less_unbound after c own handle q (Some consumer) = tt

pub less_part : (b : BookView) (after : List Entry) (c own handle : ℕ) (row : Option RowNumber) (q : Option Part) → Attachless (each_to c (part_put b after c own handle row q))
less_part b after c own handle row q = by q
  where
    whole : (resumed : Bool) (d : Told) → Attachless (each_to c (if resumed then resumed_put b after c own handle (claimed_id after c own handle d.id)
        else unbound_put after c own handle (claimed_id after c own handle d.id) (consumer_for after c own handle d row)))
    whole true d = less_resumed after c own handle (claimed_id after c own handle d.id) (row_resumed b after c own (claimed_id after c own handle d.id))
    whole false d = less_unbound after c own handle (claimed_id after c own handle d.id) (consumer_for after c own handle d row)

    by : (q : Option Part) → Attachless (each_to c (part_put b after c own handle row q))
    by (Some (part.Whole d payload)) = whole d.resume d
    by (Some part.TooLarge) = less_gone after c own handle MessageSizeExceeded
    by _ = tt

pub less_settled : (c own : ℕ) (s : Option DeliveryState) (ids : List ℕ) → Attachless (each_to c (settled_answers own s ids))
less_settled c own None ids = tt
less_settled c own (Some s) [] = tt
less_settled c own (Some s) (id ∷ ids) = (refl, less_settled c own (Some s) ids)

-- what is sent on attached links
kind_less : (body : Perf) → goes_on_link body ≡ true → is_attach_in body ≡ false
kind_less (perf.Flow f) kind = refl
kind_less (perf.Transfer x) kind = refl
kind_less (perf.Disposition x) kind = refl
kind_less _ kind = absurd cc

pub on_less : (t : List Entry) (ps : List Put) → AllOnLinks t ps → Attachless ps
on_less t [] all = tt
on_less t (p ∷ ps) all = (ap is_attach all.0.frame ∙ kind_less all.0.body all.0.kind, on_less t ps all.1)

-- heartbeats and the flows of windows

less_beat : (b : Bool) (c : ℕ) → Attachless (beat_if b c)
less_beat true c = (refl, tt)
less_beat false c = tt

pub less_beats : (t : List Entry) (now : ℕ) (cs : List ℕ) → Attachless (beats_over t now cs)
less_beats t now [] = tt
less_beats t now (c ∷ cs) = less_both (beat_if (needs_beat (terms t c) (written t c) now) c) (beats_over t now cs) (less_beat _ c) (less_beats t now cs)

less_flow : (c o : ℕ) (v : Option Session) → Attachless (flow_due c o v)
less_flow c o None = tt
less_flow c o (Some h) = by_test (is_narrow h) (λ e. rw e (refl, tt)) (λ e. rw e tt)

less_below : (c : ℕ) (known : ℕ → Option Session) (n : ℕ) → Attachless (flows_below c known n)
unfolding flows_below
less_below c known zero = tt
less_below c known (suc n) = less_both (flows_below c known n) (flow_due c n (known n)) (less_below c known n) (less_flow c n (known n))

less_over : (t : List Entry) (cs : List ℕ) → Attachless (windows_over t cs)
less_over t [] = tt
less_over t (c ∷ cs) = less_both (flows_below c (session t c) 15) (windows_over t cs) (less_below c (session t c) 15) (less_over t cs)

pub less_windows : (t : List Entry) → Attachless (windows t)
less_windows t = less_over t (live t)

-- an item that isn't an attach has no attach in its row

abbrev pub said_to : List ℕ → Option Conn → Finds → Item → List Item
said_to id None k i = []
said_to id (Some p) k i = said id p (item_reply p k i)

-- no link is attached on a connection, and no delivery has an id on it
abbrev pub Unlinked : ℕ → List Entry → Type 0
Unlinked c t = (o h : ℕ) → link t c o h ≡ None

abbrev pub Unnamed : ℕ → List Entry → Type 0
Unnamed c t = (o id : ℕ) → named t c o id ≡ None

-- then transfers and dispositions cause nothing

no_part : (x : Transfer) (payload : List ℕ) (v : Option PeerHandle) (known : ℕ → Option Link) → ((h : ℕ) → known h ≡ None) → part_on x payload (link_place_by v known) ≡ None
no_part x payload None known none = refl
no_part x payload (Some Detaching) known none = refl
no_part x payload (Some (Mapped h)) known none = ap (λ (l : Option Link). part_on x payload (on_link h l)) (none h)

nothing_open : (t : List Entry) (c own : ℕ) → Unnamed c t → (ids : List ℕ) → filter (is_open_id t c own) ids ≡ []
nothing_open t c own none ids = filter_none (is_open_id t c own) (λ id. ap (names_open t c own id) (none own id)) ids

nothing_settled : (own : ℕ) (s : Option DeliveryState) → settled_answers own s [] ≡ []
nothing_settled own None = refl
nothing_settled own (Some s) = refl

no_links : (t after : List Entry) (c : ℕ) (i : Item) (a : Answer) → Unlinked c t → Unnamed c t → is_attach i ≡ false → links_put t after c i a ≡ []
no_links t after c (item.Frame sasl channel body payload) a unlinked unnamed none = by body none
  where
    part_none : (x : Transfer) (own : ℕ) (b : Bool) → (if b then None else part_in (perf.Transfer x) payload (link_place t c own)) ≡ None
    part_none x own true = refl
    part_none x own false = no_part x payload (their_handle t c own x.handle) (link t c own) (unlinked own)

    transfer : (x : Transfer) (a : Answer) → links_put t after c (item.Frame sasl channel (perf.Transfer x) payload) a ≡ []
    transfer x (Taken own handle) = ap (λ (q : Option Part). each_to c (part_put (book_in t) after c own handle (row_found t) q)) (part_none x own sasl)
    transfer x _ = refl

    disposition : (x : ADisposition) (a : Answer) → links_put t after c (item.Frame sasl channel (perf.Disposition x) payload) a ≡ []
    disposition x (Settle own) =
        ap (λ (ids : List ℕ). each_to c (settled_answers own (terminal x.state) ids)) (nothing_open t c own unnamed (ids_between x.first (last_of x)))
        ∙ ap (each_to c) (nothing_settled own (terminal x.state))
    disposition x _ = refl

    by : (body : Perf) → is_attach (item.Frame sasl channel body payload) ≡ false → links_put t after c (item.Frame sasl channel body payload) a ≡ []
    by (perf.Attach x) none = absurd cc
    by (perf.Transfer x) none = transfer x a
    by (perf.Disposition x) none = disposition x a
    by _ none = refl
no_links t after c _ a unlinked unnamed none = refl

-- the book stands in the way of attaches, and of transfers on links, alone
unrepeated : (b : BookView) (t : List Entry) (c : ℕ) (x : Transfer) (a : Answer) → Unlinked c t → booked_transfer b t c x a ≡ a
unrepeated b t c x (Taken own handle) unlinked =
    ap (λ (l : Option Link). if is_none (middle_on (link_place t c own x.handle)) && repeats b t c own handle x.resume (durable_key l) (tag_in x)
    then Detach own handle false (Some NotAllowed) else Taken own handle) (unlinked own handle)
    ∙ never (is_none (middle_on (link_place t c own x.handle)))
  where
    never : (q : Bool) → (if q && false then Detach own handle false (Some NotAllowed) else Taken own handle) ≡ Taken own handle
    never true = refl
    never false = refl
unrepeated b t c x _ unlinked = refl

unbooked : (t : List Entry) (c : ℕ) (p : Conn) (i : Item) → Unlinked c t → is_attach i ≡ false → answer_of t c p i ≡ item_reply p (finds t c) i
unbooked t c p (item.Frame sasl channel body payload) unlinked none = by body none
  where
    by : (body : Perf) → is_attach (item.Frame sasl channel body payload) ≡ false → answer_of t c p (item.Frame sasl channel body payload) ≡ item_reply p (finds t c) (item.Frame sasl channel body payload)
    by (perf.Attach x) none = absurd cc
    by (perf.Transfer x) none = unrepeated (found_journal t).book t c x (item_reply p (finds t c) (item.Frame sasl channel (perf.Transfer x) payload)) unlinked
    by _ none = refl
unbooked t c p _ unlinked none = refl

pub row_said : (id : List ℕ) (t u : List Entry) (c : ℕ) (i : Item) (p : Option Conn) → Unlinked c t → Unnamed c t → is_attach i ≡ false
    → item_row id t u c i p ≡ each_to c (said_to id p (finds t c) i)
row_said id t u c i None unlinked unnamed none = refl
row_said id t u c i (Some p) unlinked unnamed none =
    ap (λ (ps : List Put). each_to c (said id p (answer_of t c p i)) ++ ps)
    (no_links t (puts c (said id p (answer_of t c p i)) u) c i (answer_of t c p i) unlinked unnamed none)
    ∙ append-nil (each_to c (said id p (answer_of t c p i)))
    ∙ ap (λ (a : Answer). each_to c (said id p a)) (unbooked t c p i unlinked none)

less_links : (t after : List Entry) (c : ℕ) (i : Item) (a : Answer) → is_attach i ≡ false → Attachless (links_put t after c i a)
less_links t after c (item.Frame sasl channel body payload) a none = by body none
  where
    transfer : (x : Transfer) (a : Answer) → Attachless (links_put t after c (item.Frame sasl channel (perf.Transfer x) payload) a)
    transfer x (Taken own handle) = less_part (book_in t) after c own handle (row_found t) _
    transfer x _ = tt

    disposition : (x : ADisposition) (a : Answer) → Attachless (links_put t after c (item.Frame sasl channel (perf.Disposition x) payload) a)
    disposition x (Settle own) = less_settled c own _ _
    disposition x _ = tt

    by : (body : Perf) → is_attach (item.Frame sasl channel body payload) ≡ false → Attachless (links_put t after c (item.Frame sasl channel body payload) a)
    by (perf.Attach x) none = absurd cc
    by (perf.Transfer x) none = transfer x a
    by (perf.Disposition x) none = disposition x a
    by _ none = tt
less_links t after c _ a none = tt

less_item : (id : List ℕ) (t u : List Entry) (c : ℕ) (i : Item) (p : Option Conn) → is_attach i ≡ false → Attachless (item_row id t u c i p)
less_item id t u c i None none = tt
less_item id t u c i (Some p) none =
    less_both (each_to c (said id p (answer_of t c p i))) _ (less_said id c p (answer_of t c p i)) (less_links t (puts c (said id p (answer_of t c p i)) u) c i (answer_of t c p i) none)

pub less_row : (id : List ℕ) (t u : List Entry) (e : Event) → brings_attach e ≡ false → Attachless (own_row id t u e)
less_row id t u (event.Item d i) none = less_item id t u d.0 i (standing (found t (event.Item d i) d.0)) none
less_row id t u (event.Tick ms) none = less_beats t ms (live_of (ups t) (found t (event.Tick ms)))
less_row id t u (event.Down d) none = tt
less_row id t u (event.Up d p) none = tt
less_row id t u event.Start none = tt

-- a connection on which no link is attached

gone_is : (v : Option Link) → v ≡ None → is_some v ≡ false
gone_is v e = ap (λ (x : Option Link). is_some x) e

pub unlinked_did : (c : ℕ) (t : List Entry) (s : Step) → Unlinked c t → Unlinked c (Did s ∷ t)
unlinked_did c t s was o h =
    none_if (link (Did s ∷ t) c o h)
    (λ some. true≢false (sym (linked_before s.event c o h (theirs t c) (their_handle t c o) (link t c o h) some) ∙ gone_is (link t c o h) (was o h)))

unlinked_out : (c : ℕ) (t : List Entry) (d : ℕ) (i : Item) → is_attach i ≡ false → Unlinked c t → Unlinked c (Out d i ∷ t)
unlinked_out c t d i none was o h =
    by_test (d == c)
    (λ e. rw e (none_if _ (λ some. true≢false (sym (link_was i o h _ t c _ (link t c o h) none some) ∙ gone_is (link t c o h) (was o h)))))
    (λ e. rw e (was o h))

pub unlinked_goes : (c : ℕ) (ps : List Put) (t : List Entry) → Attachless ps → Unlinked c t → Unlinked c (goes ps t)
unlinked_goes c [] t less was = was
unlinked_goes c (p ∷ ps) t less was = unlinked_goes c ps (Out p.conn p.item ∷ t) less.1 (unlinked_out c t p.conn p.item less.0 was)
