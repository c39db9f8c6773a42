-- In every trace of the router a header received first is answered by the header, first; if nothing was received, nothing is put out.
use Rattle.std.proofs.Common.{◌≡◌, ◌∙◌, sym, ap, refl, subst, true≢false, ℕ, zero, suc, Bool, true, false, not, List, [], ◌∷◌, ◌++◌, drop}
use Rattle.std.specs.Prelude.{◌==◌, Option, Some, None, is_some, option_map, option_and_then, if◌then◌else◌, length}
use Rattle.std.proofs.Math.Seq.{drop-nil}
use Rattle.std.proofs.lemmas.Bool.{eqb-true, eq-eqb}
use Rattle.amqp_model.specs.declared.item.Item.{Item}
use Rattle.amqp_model.specs.declared.item.Item.TheVariants as item
use Rattle.amqp_conn.specs.declared.conn.Conn.{Conn}
use Rattle.amqp_session.specs.Session.{Session}
use Rattle.router_trace.specs.Trace.{Beginning, Entry, Put, Did, Out, Took, Bound, Booked, Routed, Began, did, goes, puts, each_to, ups, step_of}
use Rattle.router_trace.specs.Configuration.{beginning}
use Rattle.book_model.specs.declared.act.Act.{Act}
use Rattle.router_trace.specs.declared.binding.Binding.{Binding}
use Rattle.router_trace.specs.declared.terms.Terms.{Terms}
use Rattle.router_trace.specs.declared.condition.Condition.TheVariants.{ResourceLimitExceeded}
use Rattle.router_trace.specs.declared.event.ConnectionId.{ConnectionId}
use Rattle.router_trace.specs.declared.event.Event.{Event}
use Rattle.router_trace.specs.declared.handle.Attachment.{Attachment}
use Rattle.router_trace.specs.declared.event.Event.TheVariants as event
use Rattle.router_trace.specs.Routed.{passed_to}
use Rattle.router_trace.specs.Connection.{Connection, conn, ended, with_passed, took, unless_empty, drained, standing, is_live, is_full, is_due, has, due, found, live, live_of, at_event}
use Rattle.router_trace.specs.Refusing.{refuses}
use Rattle.router_trace.specs.Frames.{header_item}
use Rattle.router_trace.specs.LinkFrames.{answer_to}
use Rattle.router_trace.specs.Links.{Link, link, if_attached, last_of_key, holder, key_at}
use Rattle.router_trace.specs.Peers.{largest_frame}
use Rattle.router_trace.specs.Sessions.{session}
use Rattle.router_trace.specs.Clocks.{terms, terms_at, written, needs_beat}
use Rattle.router_trace.specs.Following.{tells, sends_due, drains_due}
use Rattle.state_sessions.specs.Windows.{is_narrow, flow_due, flows_below, windows_over, windows}
use Rattle.router_state.specs.Tables.{beat_if, beats_over}
use Rattle.state_messages.specs.Messages.{grants_due, with_bound}
use Rattle.router_after.specs.After.{followed}
use Rattle.reply_rows.specs.Rows.{said}
use Rattle.reply_transfers.specs.Transfers.{part_put, settled_answers}
use Rattle.router_reply.specs.Resuming.{resumed}
use Rattle.router_reply.specs.Replies.{closing_of, ends, heard, stolen_by, refused, bound_by, copied_by, item_row, own_row, replied}
use Rattle.reply_rows.specs.Acts.{answer_of, book_in, booked}
use Rattle.router_core.specs.Replies.{answered, handled}
use Rattle.core_machine.specs.Moves.{waiting_of, took_one}
use Rattle.router_core.specs.Moves.{Goes, IsTrace, with_came, ins, outs}
use Rattle.core_machine.specs.Moves.{Move, handles, takes}
use Rattle.router_trace.specs.Order.{unwritten, of_session}
use Rattle.theorems.specs.Order.{is_header, begins_with_header, HeaderFirst, KeepsOrder}
use Rattle.state_connections.proofs.Lists.{by_test}
use Rattle.state_connections.proofs.Turns.{due_none}
use Rattle.router_core.proofs.Attachless.{Unlinked}
use Rattle.router_core.proofs.Booking.{booked_keeps, taken_booked}
use Rattle.router_core.proofs.Coming.{ins_answered}
use Rattle.router_core.proofs.Copied.{copied_keeps, copied_same}
use Rattle.router_core.proofs.Due.{AllOnLinks, tells_on, sends_on, drains_on, grants_on}
use Rattle.router_core.proofs.Following.{Steps, passed_on, passed_keeps, all_keep}
use Rattle.router_core.proofs.ItemRows.{item_cases}
use Rattle.router_core.proofs.Linked.{none_if, holder_linked}
use Rattle.router_core.proofs.Once.{filter_has}
use Rattle.router_core.proofs.Ordered.{Ordered, Without, written_all, goes_spares, each_without, bound_spares, ends_spares}
use Rattle.router_core.proofs.Told.{Told, goes_strange}
use Rattle.router_core.proofs.Order.{push_some, passed_none, heard_turns, no_session}
use Rattle.router_core.proofs.PassedOrder.{passed_steps}
use Rattle.router_core.proofs.Replied.{replied_turns, resumed_turns}
use Rattle.router_core.proofs.Resuming.{resumed_keeps, resumed_same}
use Rattle.router_core.proofs.Holding.{Holds, holds_booked, holds_handled, holds_took, holds_start}

-- if nothing was put out, nothing waits, and the outbox isn't full

waits_at : (e : Event) (c n : ℕ) (v : Option Connection) → waiting_of v ≡ [] → waiting_of (at_event e c n v) ≡ []
waits_at (event.Up d p) c n v h = by_test (d.0 == c) (λ e. rw e refl) (λ e. rw e h)
waits_at (event.Down d) c n v h = by_test (d.0 == c) (λ e. rw e refl) (λ e. rw e h)
waits_at (event.Item d i) c n v h = h
waits_at (event.Tick ms) c n v h = h
waits_at event.Start c n v h = h

waits_ended : (b : Bool) (v : Option Connection) → waiting_of v ≡ [] → waiting_of (if b then option_map ended v else v) ≡ []
waits_ended true None h = refl
waits_ended true (Some v) h = h
waits_ended false v h = h

waits_gone : (b : Bool) (v : Connection) (rest : List Item) → v.waiting ≡ [] → waiting_of (if b then unless_empty v rest else Some v) ≡ []
waits_gone true v [] h = refl
waits_gone true v (i ∷ is) h = h
waits_gone false v rest h = h

waits_took : (n : ℕ) (v : Option Connection) → waiting_of v ≡ [] → waiting_of (option_and_then (took n) v) ≡ []
waits_took n None h = refl
waits_took n (Some v) h =
    waits_gone v.phase.closed (drained n v) (drop n v.waiting) (ap (λ (is : List Item). drop n is) h ∙ drop-nil n)

waits_passed : (v : Option Connection) → waiting_of v ≡ [] → waiting_of (option_map (with_passed None) v) ≡ []
waits_passed None h = refl
waits_passed (Some v) h = h

quiet : (t : List Entry) (c : ℕ) → outs t c ≡ [] → waiting_of (conn t c) ≡ []
quiet [] c h = refl
quiet (Did s ∷ t) c h =
    waits_at s.event c (length (live_of (ups t) (found t s.event))) (found t s.event c) (waits_ended (has c (due t s.event)) (conn t c) (quiet t c h))
quiet (Out d i ∷ t) c h =
    by_test (d == c) (λ e. absurd (push_some (outs t c) i (rw e at h))) (λ e. rw e (quiet t c (rw e at h)))
quiet (Bound b ∷ t) c h = quiet t c h
quiet (Booked acts full ∷ t) c h = quiet t c h
quiet (Routed passage ∷ t) c h =
    let none = passed_none (passed_to passage c) (outs t c) h in
    subst (λ (p : Option Item). waiting_of (option_map (with_passed p) (conn t c)) ≡ []) (sym none.0) (waits_passed (conn t c) (quiet t c none.1))
quiet (Began g ∷ t) c h = refl
quiet (Took d n ∷ t) c h =
    by_test (d == c) (λ e. rw e (waits_took n (conn t c) (quiet t c h))) (λ e. rw e (quiet t c h))

not_full : (v : Option Connection) → waiting_of v ≡ [] → is_full v ≡ false
not_full None h = refl
not_full (Some v) h = by_test v.phase.closed (λ e. rw e refl) (λ e. rw (e, h) refl)

not_due : (t : List Entry) (e : Event) (c : ℕ) → outs t c ≡ [] → has c (due t e) ≡ false
not_due t e c h =
    by_test (has c (due t e))
    (λ m. absurd (true≢false (sym (filter_has (λ k. is_due e k (conn t k)) c (ups t) m).0 ∙ due_none e c (conn t c) (not_full (conn t c) (quiet t c h)))))
    (λ m. m)

-- items put out for other connections alone

pub without_both : (k : ℕ) (ps qs : List Put) → Without k ps → Without k qs → Without k (ps ++ qs)
without_both k [] qs f g = g
without_both k (p ∷ ps) qs f g = (f.0, without_both k ps qs f.1 g)

beat_without : (c k : ℕ) (needed : Bool) → ((c == k) ≡ true → needed ≡ false) → Without k (beat_if needed c)
beat_without c k false here = tt
beat_without c k true here = (by_test (c == k) (λ e. absurd (true≢false (here e))) (λ e. e), tt)

unneeded : (v : Option Terms) (last : Option ℕ) (now : ℕ) → v ≡ None → needs_beat v last now ≡ false
unneeded v last now h = rw h refl

beats_without : (t : List Entry) (k now : ℕ) → terms t k ≡ None → (cs : List ℕ) → Without k (beats_over t now cs)
beats_without t k now none [] = tt
beats_without t k now none (c ∷ cs) =
    without_both k (beat_if (needs_beat (terms t c) (written t c) now) c) (beats_over t now cs)
    (beat_without c k (needs_beat (terms t c) (written t c) now)
    (λ e. unneeded (terms t c) (written t c) now (subst (λ (n : ℕ). terms t n ≡ None) (sym (eqb-true c k e)) none)))
    (beats_without t k now none cs)

some_none : (h : Session) → Some h ≡ None → ⊥
some_none h e = absurd cc

due_without : (c o k : ℕ) (s : Option Session) → ((c == k) ≡ true → s ≡ None) → Without k (flow_due c o s)
due_without c o k None here = tt
due_without c o k (Some h) here =
    by_test (c == k) (λ e. absurd (some_none h (here e))) (λ e. by_test (is_narrow h) (λ f. rw f (e, tt)) (λ f. rw f tt))

below_without : (c k : ℕ) (known : ℕ → Option Session) → ((c == k) ≡ true → (o : ℕ) → known o ≡ None) → (n : ℕ) → Without k (flows_below c known n)
unfolding flows_below
below_without c k known here zero = tt
below_without c k known here (suc n) =
    without_both k (flows_below c known n) (flow_due c n (known n)) (below_without c k known here n) (due_without c n k (known n) (λ e. here e n))

windows_without : (t : List Entry) (k : ℕ) → outs t k ≡ [] → (cs : List ℕ) → Without k (windows_over t cs)
windows_without t k none [] = tt
windows_without t k none (c ∷ cs) =
    without_both k (flows_below c (session t c) 15) (windows_over t cs)
    (below_without c k (session t c)
    (λ e o. no_session t c (subst (λ (n : ℕ). outs t n ≡ []) (sym (eqb-true c k e)) none) o) 15)
    (windows_without t k none cs)

-- if nothing was received, no terms are known
came_none : (e : Event) (c : ℕ) (is : List Item) → with_came e c is ≡ [] → is ≡ []
came_none (event.Item d i) c is h = by_test (d.0 == c) (λ e. absurd (push_some is i (rw e at h))) (λ e. rw e at h)
came_none (event.Up d p) c is h = h
came_none (event.Down d) c is h = h
came_none (event.Tick ms) c is h = h
came_none event.Start c is h = h

untold_at : (e : Event) (c : ℕ) (is : List Item) (v : Option Terms) → with_came e c is ≡ [] → v ≡ None → terms_at e c v ≡ None
untold_at (event.Item d i) c is v h was = by_test (d.0 == c) (λ e. absurd (push_some is i (rw e at h))) (λ e. rw e was)
untold_at (event.Down d) c is v h was = by_test (d.0 == c) (λ e. rw e refl) (λ e. rw e was)
untold_at (event.Up d p) c is v h was = was
untold_at (event.Tick ms) c is v h was = was
untold_at event.Start c is v h was = was

untold : (t : List Entry) (c : ℕ) → ins t c ≡ [] → terms t c ≡ None
untold [] c h = refl
untold (Did s ∷ t) c h = untold_at s.event c (ins t c) (terms t c) h (untold t c (came_none s.event c (ins t c) h))
untold (Out d i ∷ t) c h = goes_strange (record { conn = d; item = i } ∷ []) t c (untold t c h)
untold (Took d n ∷ t) c h = untold t c h
untold (Bound b ∷ t) c h = untold t c h
untold (Booked acts full ∷ t) c h = untold t c h
untold (Routed passage ∷ t) c h = untold t c h
untold (Began g ∷ t) c h = refl

-- an item of another connection puts nothing if no link is attached

stolen_without : (t : List Entry) (k : ℕ) → Unlinked k t → (last x : Option Attachment) → if_attached t last ≡ x → Without k (stolen_by x)
stolen_without t k none last None is = tt
stolen_without t k none last (Some x) is = (
  by_test (x.conn.0 == k)
      (λ e. absurd (true≢false (sym (holder_linked t last x is) ∙ gone (eqb-true x.conn.0 k e))))
      (λ e. e),
  tt,
)
  where
    gone : x.conn.0 ≡ k → is_some (link t x.conn.0 x.channel x.handle) ≡ false
    gone e = subst (λ (n : ℕ). is_some (link t n x.channel x.handle) ≡ false) (sym e) (ap (λ (v : Option Link). is_some v) (none x.channel x.handle))

pub item_without : (id : List ℕ) (t u : List Entry) (d k : ℕ) (i : Item) (p : Option Conn) → Unlinked k u → (d == k) ≡ false
    → Without k (item_row id t u d i p)
item_without id t u d k i None none apart = tt
item_without id t u d k i (Some p) none apart =
    item_cases id t u d p (λ a ps. Without k ps)
    (λ a. each_without (said id p a) d k apart)
    (λ own ours x. without_both k (stolen_by (holder u (key_at u d (answer_to x 0)))) _
    (stolen_without u k none (last_of_key u (key_at u d (answer_to x 0))) (holder u (key_at u d (answer_to x 0))) refl)
    (each_without _ d k apart))
    (λ own handle e x. each_without (refused (largest_frame u d) own handle e x) d k apart)
    (λ own handle row q. each_without (part_put (book_in t) u d own handle row q) d k apart)
    (λ own s ids. each_without (settled_answers own s ids) d k apart)
    i (answer_of t d p i)

-- no link is attached if nothing was put out
unlinked : (t : List Entry) (k : ℕ) → Ordered t → outs t k ≡ [] → Unlinked k t
unlinked t k ord none o h =
    none_if (link t k o h) (λ some. true≢false (sym (ord.linked k o h some) ∙ ap (λ js. of_session (written_all js unwritten) o) none))

own_without : (id : List ℕ) (t u : List Entry) (e : Event) (k : ℕ) → Ordered u → outs u k ≡ [] → with_came e k (ins t k) ≡ [] → Without k (own_row id t u e)
own_without id t u (event.Item d i) k ord none h =
    by_test (d.0 == k) (λ e. absurd (push_some (ins t k) i (rw e at h)))
    (λ e. item_without id t u d.0 k i (standing (found t (event.Item d i) d.0)) (unlinked u k ord none) e)
own_without id t u (event.Tick ms) k ord none h = beats_without t k ms (untold t k h) (live_of (ups t) (found t (event.Tick ms)))
own_without id t u (event.Down d) k ord none h = tt
own_without id t u (event.Up d p) k ord none h = tt
own_without id t u event.Start k ord none h = tt

-- what follows an event's rows is sent only on connections with links

pub on_without : (t : List Entry) (k : ℕ) → Unlinked k t → (ps : List Put) → AllOnLinks t ps → Without k ps
on_without t k none [] all = tt
on_without t k none (p ∷ ps) all = (
  by_test (p.conn == k)
      (λ e. absurd (true≢false (sym all.0.linked
      ∙ subst (λ (n : ℕ). is_some (link t n all.0.own all.0.handle) ≡ false) (sym (eqb-true p.conn k e))
      (ap (λ (v : Option Link). is_some v) (none all.0.own all.0.handle)))))
      (λ e. e),
  on_without t k none ps all.1,
)

-- the state if nothing was put out
record Mute (k : ℕ) (t : List Entry) : Type 0 where
  ordered : Ordered t
  none : outs t k ≡ []

mute_goes : (k : ℕ) (ps : List Put) (t : List Entry) → AllOnLinks t ps → Mute k t → outs (goes ps t) k ≡ []
mute_goes k ps t all mute = (goes_spares ps t k (on_without t k (unlinked t k mute.ordered mute.none) ps all)).outs ∙ mute.none

mute_steps : (k : ℕ) → Steps (Mute k)
mute_steps k = record {
  telling = λ t mute. record { ordered = passed_steps.telling t mute.ordered; none = mute_goes k (tells t) t (tells_on t) mute };
  sending = λ t mute. record { ordered = passed_steps.sending t mute.ordered; none = mute_goes k (sends_due t) t (sends_on t) mute };
  draining = λ t mute. record { ordered = passed_steps.draining t mute.ordered; none = mute_goes k (drains_due t) t (drains_on t) mute };
  granting = λ t mute. record { ordered = passed_steps.granting t mute.ordered; none = mute_goes k (grants_due t) t (grants_on t) mute };
}

-- a header that comes first stays first

first_push : (is js : List Item) → HeaderFirst is → HeaderFirst (is ++ js)
first_push [] js h = absurd h
first_push (i ∷ is) js h = h

first_goes : (ps : List Put) (t : List Entry) (c : ℕ) → HeaderFirst (outs t c) → HeaderFirst (outs (goes ps t) c)
first_goes [] t c h = h
first_goes (p ∷ ps) t c h =
    first_goes ps (Out p.conn p.item ∷ t) c (by_test (p.conn == c) (λ e. rw e (first_push (outs t c) (p.item ∷ []) h)) (λ e. rw e h))

first_ends : (id : List ℕ) (cs : List ℕ) (t : List Entry) (c : ℕ) → HeaderFirst (outs t c) → HeaderFirst (outs (ends id cs t) c)
first_ends id [] t c h = h
first_ends id (d ∷ ds) t c h =
    let items : List Item = closing_of id (conn t d) ResourceLimitExceeded
    in first_ends id ds (puts d items t) c (first_goes (each_to d items) t c h)

bound_outs : (b : Option Binding) (t : List Entry) (c : ℕ) → outs (with_bound b t) c ≡ outs t c
bound_outs b t c = (bound_spares b t c).outs

first_followed : (t : List Entry) (c : ℕ) → HeaderFirst (outs t c) → HeaderFirst (outs (followed t) c)
first_followed t c h = all_keep (λ (u : List Entry). HeaderFirst (outs u c)) (λ ps u h. first_goes ps u c h) t h

first_resumed : (t : List Entry) (e : Event) (u : List Entry) (c : ℕ) → HeaderFirst (outs u c) → HeaderFirst (outs (resumed t e u) c)
first_resumed t e u c h = resumed_keeps (λ (v : List Entry). HeaderFirst (outs v c)) (λ b v first. first) t e u h

first_copied : (t after : List Entry) (e : Event) (u : List Entry) (c : ℕ) → HeaderFirst (outs u c) → HeaderFirst (outs (copied_by t after e u) c)
first_copied t after e u c h = copied_keeps (λ (v : List Entry). HeaderFirst (outs v c)) (λ b v first. first) t after e u h

first_answered : (id : List ℕ) (t : List Entry) (e : Event) (c : ℕ) → HeaderFirst (outs t c) → HeaderFirst (outs (answered id t (step_of e)) c)
first_answered id t e c h =
    let u : List Entry = heard id t (step_of e)
    in first_followed (resumed t e (replied id t (step_of e))) c
    (first_resumed t e (replied id t (step_of e)) c
    (first_copied t u e (goes (own_row id t u e) (with_bound (bound_by t u e) u)) c
    (first_goes (own_row id t u e) (with_bound (bound_by t u e) u) c
    (subst (λ (is : List Item). HeaderFirst is) (sym (bound_outs (bound_by t u e) u c)) (first_ends id (due t e) (did e ∷ t) c h)))))

silent_heard : (id : List ℕ) (t : List Entry) (e : Event) (c : ℕ) → outs t c ≡ [] → outs (heard id t (step_of e)) c ≡ []
silent_heard id t e c h = (ends_spares id (due t e) (did e ∷ t) c (not_due t e c h)).outs ∙ h

silent_answered : (id : List ℕ) (t : List Entry) (e : Event) (c : ℕ) → Ordered (heard id t (step_of e)) → Ordered (replied id t (step_of e))
    → with_came e c (ins t c) ≡ [] → outs t c ≡ [] → outs (answered id t (step_of e)) c ≡ []
silent_answered id t e c ord next came h =
    let u : List Entry = heard id t (step_of e)
    in let v : List Entry = with_bound (bound_by t u e) u
    in let w : List Entry = resumed t e (replied id t (step_of e))
    in let behind : List Entry = passed_on w
    in let none : outs u c ≡ [] = silent_heard id t e c h
    in let rows : outs (replied id t (step_of e)) c ≡ []
    = copied_same (λ (x : List Entry). outs x c) (λ b x. refl) t u e (goes (own_row id t u e) v)
    ∙ (goes_spares (own_row id t u e) v c (own_without id t u e c ord none came)).outs ∙ bound_outs (bound_by t u e) u c ∙ none
    in let taken : outs w c ≡ [] = resumed_same (λ (x : List Entry). outs x c) (λ b x. refl) t e (replied id t (step_of e)) ∙ rows
    in let passed : Mute c behind
    = passed_keeps (Mute c) (mute_steps c) w (record { ordered = resumed_turns t e (replied id t (step_of e)) next; none = taken })
    in (goes_spares (windows behind) behind c (windows_without behind c passed.none (live behind))).outs ∙ passed.none

-- headers are answered first
pub record Headed (t : List Entry) : Type 0 where
  pub header : (c : ℕ) → begins_with_header (ins t c) ≡ true → HeaderFirst (outs t c)
  pub silent : (c : ℕ) → ins t c ≡ [] → outs t c ≡ []

-- a live connection to which nothing was written is in its first phase
live_is : (o : Option Connection) → not (is_live o) ≡ false → (v : Connection) × (o ≡ Some v) × (v.phase.closed ≡ false)
live_is None h = absurd cc
live_is (Some v) h = (v, refl, by_test v.phase.closed (λ e. absurd (true≢false (rw e at h))) (λ e. e))

first_phase : (t : List Entry) (e : Event) (c : ℕ) → Ordered t → not (is_live (conn t c)) ≡ false → outs t c ≡ [] → standing (found t e c) ≡ Some unwritten.phase
first_phase t e c ord live none =
    let v = live_is (conn t c) live
    in let phase : unwritten.phase ≡ v.0.phase = sym (ap (λ is. (written_all is unwritten).phase) none) ∙ ord.phases c v.0 v.1 v.2
    in ap standing (spared (has c (due t e)) (conn t c) (not_due t e c none) ∙ v.1) ∙ stood v.0 v.2 ∙ ap (λ (p : Conn). Some p) (sym phase)
  where
    spared : (b : Bool) (o : Option Connection) → b ≡ false → (if b then option_map ended o else o) ≡ o
    spared b o e = rw e refl

    stood : (v : Connection) → v.phase.closed ≡ false → standing (Some v) ≡ Some v.phase
    stood v e = rw e refl

header_answer : (id : List ℕ) (t u : List Entry) (c : ℕ) (i : Item) → is_header i ≡ true → item_row id t u c i (Some unwritten.phase) ≡ each_to c (header_item ∷ [])
header_answer id t u c (item.Header x y z w) h = refl
header_answer id t u c (item.Frame x y z w) h = absurd cc
header_answer id t u c (item.Beat x) h = absurd cc
header_answer id t u c (item.Bad f) h = absurd cc

-- the first item of a connection
first_item : (id : List ℕ) (t : List Entry) (d : ConnectionId) (i : Item) → Ordered t → refuses t (event.Item d i) ≡ false
    → outs t d.0 ≡ [] → is_header i ≡ true → HeaderFirst (outs (answered id t (step_of (event.Item d i))) d.0)
first_item id t d i ord taken none is =
    let e : Event = event.Item d i
    in let u : List Entry = heard id t (step_of e)
    in let row : own_row id t u e ≡ each_to d.0 (header_item ∷ [])
    = ap (λ (p : Option Conn). item_row id t u d.0 i p) (first_phase t e d.0 ord taken none) ∙ header_answer id t u d.0 i is
    in let v : List Entry = with_bound (bound_by t u e) u
    in first_followed (resumed t e (replied id t (step_of e))) d.0
    (first_resumed t e (replied id t (step_of e)) d.0
    (first_copied t u e (goes (own_row id t u e) v) d.0
    (subst (λ (ps : List Put). HeaderFirst (outs (goes ps v) d.0)) (sym row)
    (put_first (outs v d.0) (d.0 == d.0) (eq-eqb d.0 d.0 refl) (bound_outs (bound_by t u e) u d.0 ∙ silent_heard id t e d.0 none)))))
  where
    put_first : (is : List Item) (b : Bool) → b ≡ true → is ≡ [] → HeaderFirst (if b then is ++ header_item ∷ [] else is)
    put_first is b e h = rw (e, h) refl

item_header : (id : List ℕ) (t : List Entry) (d : ConnectionId) (i : Item) → Ordered t → refuses t (event.Item d i) ≡ false → Headed t
    → (c : ℕ) → (d.0 == c) ≡ true → (is : List Item) → ins t c ≡ is → begins_with_header (is ++ i ∷ []) ≡ true → HeaderFirst (outs (answered id t (step_of (event.Item d i))) c)
item_header id t d i ord taken was c e [] is h =
    subst (λ (k : ℕ). HeaderFirst (outs (answered id t (step_of (event.Item d i))) k)) (eqb-true d.0 c e)
    (first_item id t d i ord taken (was.silent d.0 (subst (λ (k : ℕ). ins t k ≡ []) (sym (eqb-true d.0 c e)) is)) h)
item_header id t d i ord taken was c e (j ∷ js) is h = first_answered id t (event.Item d i) c (was.header c (ap begins_with_header is ∙ h))

event_header : (id : List ℕ) (t : List Entry) (e : Event) → Ordered t → refuses t e ≡ false → Headed t
    → (c : ℕ) → begins_with_header (with_came e c (ins t c)) ≡ true → HeaderFirst (outs (answered id t (step_of e)) c)
event_header id t (event.Item d i) ord taken was c h =
    by_test (d.0 == c)
    (λ e. item_header id t d i ord taken was c e (ins t c) refl (rw e at h))
    (λ e. first_answered id t (event.Item d i) c (was.header c (rw e at h)))
event_header id t (event.Down d) ord taken was c h = first_answered id t (event.Down d) c (was.header c h)
event_header id t (event.Up d p) ord taken was c h = first_answered id t (event.Up d p) c (was.header c h)
event_header id t (event.Tick ms) ord taken was c h = first_answered id t (event.Tick ms) c (was.header c h)
event_header id t event.Start ord taken was c h = first_answered id t event.Start c (was.header c h)

answered_headed : (id : List ℕ) (t : List Entry) (e : Event) → Ordered t → Told t → refuses t e ≡ false → Headed t → Headed (answered id t (step_of e))
answered_headed id t e ord told taken was = record {
  header = λ c h. event_header id t e ord taken was c (sym (ap begins_with_header (ins_answered id t e c)) ∙ h);
  silent = λ c h.
      let came : with_came e c (ins t c) ≡ [] = sym (ins_answered id t e c) ∙ h
      in silent_answered id t e c (heard_turns id t e ord taken) (replied_turns id t e ord told taken) came (was.silent c (came_none e c (ins t c) came));
}

-- along moves
pub record Kept (t : List Entry) : Type 0 where
  pub holds : Holds t
  pub headed : Headed t

batch_headed : (t : List Entry) (acts : List Act) {full : List ℕ} → Headed t → Headed (Booked acts full ∷ t)
batch_headed t acts was = record { header = was.header; silent = was.silent }

goes_kept : (id : List ℕ) (ms : List Move) (t u : List Entry) → Kept t → Goes id ms t u → Kept u
goes_kept id [] t u was goes = subst (λ (w : List Entry). Kept w) (sym goes) was
goes_kept id (handles s ∷ ms) t u was goes =
    let b : List Entry = booked t s.event
    in let now : Holds b = holds_booked t s.event was.holds
    in let headed : Headed b = booked_keeps Headed t s.event (λ acts w. batch_headed t acts w) was.headed
    in let taken : refuses b s.event ≡ false = taken_booked t s.event goes.0
    in goes_kept id ms (handled id t s) u (record {
      holds = holds_handled id t s goes.0 was.holds;
      headed = answered_headed id b s.event now.ordered now.told taken headed;
    })
    goes.1
goes_kept id (takes x ∷ ms) t u was goes =
    goes_kept id ms (took_one x t) u (record {
      holds = holds_took t x was.holds;
      headed = record { header = was.headed.header; silent = was.headed.silent };
    })
    goes

kept_start : (g : Beginning) → Kept (beginning g)
kept_start g = record {
  holds = holds_start g;
  headed = record { header = λ c h. absurd cc; silent = λ c h. refl };
}

pub trace_keeps_order : (id : List ℕ) (g : Beginning) (u : List Entry) → IsTrace id g u → KeepsOrder u
trace_keeps_order id g u trace =
    let kept : Kept u = goes_kept id trace.0 (beginning g) u (kept_start g) trace.1
    in record {
      turns = kept.holds.ordered.turns;
      header = kept.headed.header;
      silent = kept.headed.silent;
    }
