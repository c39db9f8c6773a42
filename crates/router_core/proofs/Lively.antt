-- In every trace of the router links are attached only on live connections.
use Rattle.std.proofs.Common.{◌≡◌, ◌∙◌, sym, ap, refl, subst, true≢false, ℕ, Bool, true, false, not, List, [], ◌∷◌}
use Rattle.std.specs.Prelude.{◌==◌, nat_eq, Option, Some, None, is_some, option_map, option_and_then, if◌then◌else◌}
use Rattle.std.proofs.lemmas.Bool.{eqb-true, eq-eqb}
use Rattle.amqp_model.specs.declared.perf.Attach.{Attach as AnAttach}
use Rattle.amqp_model.specs.declared.perf.Perf.{Perf}
use Rattle.amqp_model.specs.declared.perf.Perf.TheVariants as perf
use Rattle.amqp_model.specs.declared.state.UnsettledDelivery.{UnsettledDelivery}
use Rattle.amqp_model.specs.declared.item.Item.{Item}
use Rattle.amqp_model.specs.declared.item.Item.TheVariants as item
use Rattle.amqp_conn.specs.declared.conn.Conn.{Conn}
use Rattle.router_trace.specs.declared.binding.Binding.{Binding}
use Rattle.router_trace.specs.declared.condition.Condition.{Condition}
use Rattle.router_trace.specs.declared.condition.Condition.TheVariants.{ResourceLimitExceeded, FrameSizeTooSmall, Stolen}
use Rattle.router_trace.specs.declared.event.ConnectionId.{ConnectionId}
use Rattle.router_trace.specs.declared.event.Event.{Event}
use Rattle.router_trace.specs.declared.event.Event.TheVariants as event
use Rattle.router_trace.specs.declared.handle.Asked.{Asked}
use Rattle.router_trace.specs.declared.handle.Attachment.{Attachment}
use Rattle.router_trace.specs.Trace.{Entry, Out, Took, Put, did, goes, puts, each_to, ups, step_of}
use Rattle.router_trace.specs.Connection.{Connection, conn, phase_after, with_item, took, drained, unless_empty, is_live, has, due, found, standing}
use Rattle.router_trace.specs.Refusing.{refuses}
use Rattle.router_trace.specs.Frames.{close_item, open_item}
use Rattle.router_trace.specs.Durable.{is_durable}
use Rattle.router_trace.specs.LinkFrames.{attach_item, detach_item, answer_to, refusal_of, fits}
use Rattle.router_trace.specs.Links.{Link, link, link_after, key_at, their_handle, holder, free_handle}
use Rattle.router_trace.specs.Peers.{largest_frame}
use Rattle.router_trace.specs.Sessions.{theirs}
use Rattle.router_trace.specs.Following.{tells, sends_due, drains_due}
use Rattle.state_sessions.specs.Windows.{windows}
use Rattle.state_messages.specs.Messages.{grants_due, with_bound}
use Rattle.reply_rows.specs.Rows.{said}
use Rattle.reply_rows.specs.Acts.{answer_of, book_in}
use Rattle.router_reply.specs.Resuming.{resumed}
use Rattle.router_reply.specs.Replies.{closing_of, ends, heard, stolen_by, with_map, attach_answer, taken_after, taken, refused, bound_by, item_row, own_row, replied}
use Rattle.router_core.specs.Replies.{answered}
use Rattle.router_core.specs.Attaches.{is_attach}
use Rattle.state_connections.proofs.Lists.{by_test}
use Rattle.router_core.proofs.Attached.{session_known}
use Rattle.router_core.proofs.Attachless.{Attachless, Unlinked, unlinked_goes, less_closing_of, less_said, less_part, less_settled, on_less, less_row, less_windows}
use Rattle.router_core.proofs.Copied.{copied_keeps}
use Rattle.router_core.proofs.Due.{tells_on, sends_on, drains_on, grants_on}
use Rattle.router_core.proofs.Following.{Steps, passed_on, passed_keeps}
use Rattle.router_core.proofs.ItemRows.{item_cases}
use Rattle.router_core.proofs.Linked.{link_was, linked_before}
use Rattle.router_core.proofs.Order.{not_before, event_pending}
use Rattle.router_core.proofs.Ordered.{Ordered, Spares, puts_spares, bound_spares}
use Rattle.router_core.proofs.Resuming.{resumed_keeps}
use Rattle.router_core.proofs.Replied.{FoundLive, found_live, nothing_stands, heard_spares}

abbrev pub Lively : List Entry → Type 0
Lively t = (c o h : ℕ) → is_some (link t c o h) ≡ true → is_live (conn t c) ≡ true

-- an item

lives : (v : Connection) → v.phase.closed ≡ false → is_live (Some v) ≡ true
lives v e = rw e refl

was_open : (v : Connection) → is_live (Some v) ≡ true → v.phase.closed ≡ false
was_open v h = by_test v.phase.closed (λ e. absurd (true≢false (sym (rw e at h)))) (λ e. e)

live_more : (i : Item) (k : Option Connection) → ((p : Conn) → (phase_after i p).closed ≡ p.closed) → is_live k ≡ true → is_live (option_map (with_item i) k) ≡ true
live_more i None same h = h
live_more i (Some v) same h = lives (with_item i v) (same v.phase ∙ was_open v h)

lively_item : (i : Item) (o h n : ℕ) (t : List Entry) (c : ℕ) (last : Option Asked) (v : Option Link) (k : Option Connection)
    → (is_attach i ≡ true → is_live k ≡ true) → (is_some v ≡ true → is_live k ≡ true) → is_some (link_after i o h n (key_at t c) last v) ≡ true
    → is_live (option_map (with_item i) k) ≡ true
lively_item (item.Frame sasl own body payload) o h n t c last v k new was some = by body new some
  where
    by : (body : Perf) → (is_attach (item.Frame sasl own body payload) ≡ true → is_live k ≡ true)
        → is_some (link_after (item.Frame sasl own body payload) o h n (key_at t c) last v) ≡ true → is_live (option_map (with_item (item.Frame sasl own body payload)) k) ≡ true
    by (perf.Close x) new some = absurd cc
    by (perf.Attach a) new some = live_more (item.Frame sasl own (perf.Attach a) payload) k (λ p. refl) (new refl)
    by (perf.Open x) new some = live_more (item.Frame sasl own (perf.Open x) payload) k (λ p. refl) (was some)
    by body new some = live_more (item.Frame sasl own body payload) k (λ p. refl) (was (link_was (item.Frame sasl own body payload) o h n t c last v refl some))
lively_item i o h n t c last v k new was some = live_more i k (λ p. refl) (was some)

out_lively : (t : List Entry) (d : ℕ) (i : Item) → Lively t → (is_attach i ≡ true → is_live (conn t d) ≡ true) → Lively (Out d i ∷ t)
out_lively t d i was new c o h =
    by_test (d == c)
    (λ e. rw e (lively_item i o h _ t c _ (link t c o h) (conn t c)
    (subst (λ (k : ℕ). is_attach i ≡ true → is_live (conn t k) ≡ true) (eqb-true d c e) new) (was c o h)))
    (λ e. rw e (was c o h))

-- outgoing items: an attach goes to a live connection
abbrev Steady : List Put → List Entry → Type 0
Steady [] t = Unit {0}
Steady (p ∷ ps) t = (is_attach p.item ≡ true → is_live (conn t p.conn) ≡ true) × Steady ps (Out p.conn p.item ∷ t)

goes_lively : (ps : List Put) (t : List Entry) → Lively t → Steady ps t → Lively (goes ps t)
goes_lively [] t was steady = was
goes_lively (p ∷ ps) t was steady = goes_lively ps (Out p.conn p.item ∷ t) (out_lively t p.conn p.item was steady.0) steady.1

less_steady : (ps : List Put) (t : List Entry) → Attachless ps → Steady ps t
less_steady [] t less = tt
less_steady (p ∷ ps) t less = (λ h. absurd (true≢false (sym h ∙ less.0)), less_steady ps (Out p.conn p.item ∷ t) less.1)

-- the frames of an attach

sized_steady : (u : List Entry) (c own : ℕ) → is_live (conn u c) ≡ true → (b : Bool) (handle : ℕ) (closed : Bool) (e : Condition) (a : AnAttach)
    → Steady (each_to c (if b then attach_item own a ∷ [] else detach_item own handle closed (Some e) ∷ [])) u
sized_steady u c own live true handle closed e a = (λ h. live, tt)
sized_steady u c own live false handle closed e a = (λ h. live, tt)

answer_steady : (u : List Entry) (c own largest : ℕ) (handle : Option ℕ) (ours : List UnsettledDelivery) (a : AnAttach) → is_live (conn u c) ≡ true
    → Steady (each_to c (attach_answer largest own handle ours a)) u
answer_steady u c own largest None ours a live = tt
answer_steady u c own largest (Some handle) ours a live =
    let answer : AnAttach = with_map ours (answer_to a handle)
    in sized_steady u c own live (fits largest (attach_item own answer)) handle (not (is_durable answer.role answer)) FrameSizeTooSmall answer

still_live : (u : List Entry) (d c : ℕ) (i : Item) → ((p : Conn) → (phase_after i p).closed ≡ p.closed) → is_live (conn u c) ≡ true → is_live (conn (Out d i ∷ u) c) ≡ true
still_live u d c i same live = by_test (d == c) (λ e. rw e (live_more i (conn u c) same live)) (λ e. rw e live)

taken_steady : (u v : List Entry) (c own : ℕ) (ours : List UnsettledDelivery) (a : AnAttach) → is_live (conn v c) ≡ true → Steady (taken u c own ours a) v
taken_steady u v c own ours a live = by (holder u (key_at u c (answer_to a 0)))
  where
    by : (x : Option Attachment) → Steady (taken_after u c own ours a (stolen_by x)) v
    by None = answer_steady v c own (largest_frame u c) (free_handle u c own) ours a live
    by (Some x) =
        let out : Item = detach_item x.channel x.handle false (Some Stolen)
        in (λ h. absurd (true≢false (sym h)), answer_steady (Out x.conn.0 out ∷ v) c own (largest_frame u c) _ ours a (still_live v x.conn.0 c out (λ p. refl) live))

refused_steady : (v : List Entry) (largest c own handle : ℕ) (e : Condition) (a : AnAttach) → is_live (conn v c) ≡ true
    → Steady (each_to c (refused largest own handle e a)) v
refused_steady v largest c own handle e a live = by (fits largest (attach_item own (refusal_of a handle)))
  where
    by : (b : Bool) → Steady (each_to c (if b then attach_item own (refusal_of a handle) ∷ detach_item own handle true (Some e) ∷ [] else detach_item own handle true (Some e) ∷ [])) v
    by true = (λ h. live, (λ h. absurd (true≢false (sym h)), tt))
    by false = (λ h. live, tt)

-- the closes because of full outboxes end links

closed_unlinked : (id : List ℕ) (t : List Entry) (c : ℕ) (k : Option Connection) → is_some k ≡ true → Unlinked c (puts c (closing_of id k ResourceLimitExceeded) t)
closed_unlinked id t c None some = absurd cc
closed_unlinked id t c (Some v) some = by v.phase.opened
  where
    here : (c == c) ≡ true
    here = eq-eqb c c refl

    by : (b : Bool) → Unlinked c (puts c (if b then close_item (Some ResourceLimitExceeded) ∷ [] else open_item id ∷ close_item (Some ResourceLimitExceeded) ∷ []) t)
    by true o h = rw here refl
    by false o h = rw here refl

ends_keep : (id : List ℕ) (cs : List ℕ) (t : List Entry) (c : ℕ) → Unlinked c t → Unlinked c (ends id cs t)
ends_keep id [] t c was = was
ends_keep id (d ∷ ds) t c was =
    let items : List Item = closing_of id (conn t d) ResourceLimitExceeded
    in ends_keep id ds (puts d items t) c (unlinked_goes c (each_to d items) t (less_closing_of id d (conn t d) ResourceLimitExceeded) was)

ends_unlinked : (id : List ℕ) (cs : List ℕ) (t : List Entry) (c : ℕ) → has c cs ≡ true → is_some (conn t c) ≡ true → Unlinked c (ends id cs t)
ends_unlinked id [] t c there known = absurd cc
ends_unlinked id (d ∷ ds) t c there known =
    let items : List Item = closing_of id (conn t d) ResourceLimitExceeded
    in by_test (nat_eq d c)
    (λ e. ends_keep id ds (puts d items t) c
    (subst (λ (n : ℕ). Unlinked c (puts n (closing_of id (conn t n) ResourceLimitExceeded) t)) (sym (eqb-true d c e)) (closed_unlinked id t c (conn t c) known)))
    (λ e. ends_unlinked id ds (puts d items t) c (rw e at there) (ap (λ (k : Option Connection). is_some k) ((puts_spares items t d c e).conn) ∙ known))

-- the event itself, and the closes

did_lively : (t : List Entry) (e : Event) → Ordered t → Lively t → refuses t e ≡ false → (c : ℕ) → has c (due t e) ≡ false
    → (o h : ℕ) → is_some (link (did e ∷ t) c o h) ≡ true → is_live (conn (did e ∷ t) c) ≡ true
did_lively t e ord was taken c spared o h some = by e spared taken some
  where
    before : (e : Event) → is_some (link (did e ∷ t) c o h) ≡ true → is_some (link t c o h) ≡ true
    before e some = linked_before e c o h (theirs t c) (their_handle t c o) (link t c o h) some

    live : (e : Event) → has c (due t e) ≡ false → is_some (link t c o h) ≡ true → is_live (found t e c) ≡ true
    live e spared some = rw spared (was c o h some)

    by : (e : Event) → has c (due t e) ≡ false → refuses t e ≡ false → is_some (link (did e ∷ t) c o h) ≡ true → is_live (conn (did e ∷ t) c) ≡ true
    by (event.Up d p) spared taken some =
        by_test (d.0 == c)
        (λ q. absurd (true≢false (sym (session_known t c o ord (ord.linked c o h (before (event.Up d p) some)))
        ∙ subst (λ (n : ℕ). has n (ups t) ≡ false) (eqb-true d.0 c q) (not_before t d ord taken))))
        (λ q. rw q (live (event.Up d p) spared (before (event.Up d p) some)))
    by (event.Down d) spared taken some =
        by_test (d.0 == c) (λ q. absurd (true≢false (sym (rw q at some)))) (λ q. rw q (live (event.Down d) spared (before (event.Down d) some)))
    by (event.Item d i) spared taken some = live (event.Item d i) spared (before (event.Item d i) some)
    by (event.Tick ms) spared taken some = live (event.Tick ms) spared (before (event.Tick ms) some)
    by event.Start spared taken some = live event.Start spared (before event.Start some)

pub heard_lively : (id : List ℕ) (t : List Entry) (e : Event) → Ordered t → Lively t → refuses t e ≡ false → Lively (heard id t (step_of e))
heard_lively id t e ord was taken c o h some =
    by_test (has c (due t e))
    (λ q. let pending = event_pending t e ord taken c q
    in let known : is_some (conn (did e ∷ t) c) ≡ true = ap (λ (k : Option Connection). is_some k) pending.known_as
    in absurd (true≢false (sym some ∙ ap (λ (v : Option Link). is_some v) (ends_unlinked id (due t e) (did e ∷ t) c q known o h))))
    (λ q. let spare : Spares (did e ∷ t) (heard id t (step_of e)) c = heard_spares id t e c q
    in ap is_live spare.conn ∙ did_lively t e ord was taken c q o h (sym (ap (λ (v : Option Link). is_some v) (spare.link o h)) ∙ some))

-- an event with all that it put out

bound_lively : (b : Option Binding) (t : List Entry) → Lively t → Lively (with_bound b t)
bound_lively None t was = was
bound_lively (Some b) t was = was

item_lively : (id : List ℕ) (t : List Entry) (d : ConnectionId) (i : Item) → Lively (heard id t (step_of (event.Item d i))) → Lively (replied id t (step_of (event.Item d i)))
item_lively id t d i was =
    copied_keeps Lively (λ b w h. bound_lively (Some b) w h) t u (event.Item d i) (goes (own_row id t u (event.Item d i)) v)
    (by_test (is_live (found t (event.Item d i) d.0))
    (λ q. let here : FoundLive t (event.Item d i) d.0 = found_live t (event.Item d i) d.0 q
    in let live : is_live (conn u d.0) ≡ true = ap is_live (heard_spares id t (event.Item d i) d.0 here.spared).conn ∙ q
    in let there : is_live (conn v d.0) ≡ true = ap is_live (bound_spares bound u d.0).conn ∙ live
    in subst (λ (s : Option Conn). Lively (goes (item_row id t u d.0 i s) v)) (sym here.phase)
    (item_cases id t u d.0 here.view.phase (λ a ps. Lively (goes ps v))
    (λ a. goes_lively (each_to d.0 (said id here.view.phase a)) v before (less_steady _ v (less_said id d.0 here.view.phase a)))
    (λ own ours x. goes_lively (taken u d.0 own ours x) v before (taken_steady u v d.0 own ours x there))
    (λ own handle f x. goes_lively _ v before (refused_steady v (largest_frame u d.0) d.0 own handle f x there))
    (λ own handle row p. goes_lively _ v before (less_steady _ v (less_part (book_in t) u d.0 own handle row p)))
    (λ own s ids. goes_lively _ v before (less_steady _ v (less_settled d.0 own s ids)))
    i (answer_of t d.0 here.view.phase i)))
    (λ q. subst (λ (s : Option Conn). Lively (goes (item_row id t u d.0 i s) v)) (sym (nothing_stands (standing (found t (event.Item d i) d.0)) q)) before))
  where
    u : List Entry
    u = heard id t (step_of (event.Item d i))

    bound : Option Binding
    bound = bound_by t u (event.Item d i)

    v : List Entry
    v = with_bound bound u

    before : Lively v
    before = bound_lively bound u was

pub replied_lively : (id : List ℕ) (t : List Entry) (e : Event) → Lively (heard id t (step_of e)) → Lively (replied id t (step_of e))
replied_lively id t (event.Item d i) was = item_lively id t d i was
replied_lively id t (event.Tick ms) was =
    let u : List Entry = heard id t (step_of (event.Tick ms))
    in goes_lively (own_row id t u (event.Tick ms)) u was (less_steady (own_row id t u (event.Tick ms)) u (less_row id t u (event.Tick ms) refl))
replied_lively id t (event.Down d) was = was
replied_lively id t (event.Up d p) was = was
replied_lively id t event.Start was = was

pub resumed_lively : (id : List ℕ) (t : List Entry) (e : Event) → Lively (heard id t (step_of e)) → Lively (resumed t e (replied id t (step_of e)))
resumed_lively id t e was = resumed_keeps Lively (λ b u h. bound_lively (Some b) u h) t e (replied id t (step_of e)) (replied_lively id t e was)

pub lively_steps : Steps Lively
lively_steps = record {
  telling = λ t was. goes_lively (tells t) t was (less_steady (tells t) t (on_less t (tells t) (tells_on t)));
  sending = λ t was. goes_lively (sends_due t) t was (less_steady (sends_due t) t (on_less t (sends_due t) (sends_on t)));
  draining = λ t was. goes_lively (drains_due t) t was (less_steady (drains_due t) t (on_less t (drains_due t) (drains_on t)));
  granting = λ t was. goes_lively (grants_due t) t was (less_steady (grants_due t) t (on_less t (grants_due t) (grants_on t)));
}

pub answered_lively : (id : List ℕ) (t : List Entry) (e : Event) → Ordered t → Lively t → refuses t e ≡ false → Lively (answered id t (step_of e))
answered_lively id t e ord was taken =
    let bound : List Entry = resumed t e (replied id t (step_of e))
    in let behind : List Entry = passed_on bound
    in let passed : Lively behind
    = passed_keeps Lively lively_steps bound (resumed_lively id t e (heard_lively id t e ord was taken))
    in goes_lively (windows behind) behind passed (less_steady (windows behind) behind (less_windows behind))

-- takes

took_live : (n : ℕ) (k : Option Connection) → is_live k ≡ true → is_live (option_and_then (took n) k) ≡ true
took_live n None h = h
took_live n (Some v) h = by (drained n v) v.phase.closed (was_open v h) (was_open v h)
  where
    by : (w : Connection) (b : Bool) → b ≡ false → w.phase.closed ≡ false → is_live (if b then unless_empty w w.waiting else Some w) ≡ true
    by w true shut e = absurd cc
    by w false shut e = lives w e

pub took_lively : (t : List Entry) (d n : ℕ) → Lively t → Lively (Took d n ∷ t)
took_lively t d n was c o h some = by_test (d == c) (λ e. rw e (took_live n (conn t c) (was c o h some))) (λ e. rw e (was c o h some))
