-- Every trace of the router is orderly.
use Rattle.std.proofs.Common.{◌≡◌, ◌∙◌, sym, ap, refl, subst, true≢false, ℕ, Bool, true, false, not, ◌≤◌, List, [], ◌∷◌, ◌++◌, drop, arith}
use Rattle.std.specs.Prelude.{◌==◌, Option, Some, None, is_some, option_map, option_and_then, if◌then◌else◌, length}
use Rattle.std.proofs.lemmas.Bool.{eqb-true, le-leb}
use Rattle.amqp_model.specs.declared.item.Item.{Item}
use Rattle.amqp_model.specs.declared.item.Item.TheVariants as item
use Rattle.amqp_conn.specs.declared.conn.Conn.{Conn}
use Rattle.amqp_model.specs.declared.perf.Perf.{Perf}
use Rattle.amqp_model.specs.declared.perf.Perf.TheVariants as perf
use Rattle.amqp_session.specs.declared.states.BeginState.{BeginState}
use Rattle.amqp_session.specs.Session.{Session}
use Rattle.book_model.specs.declared.act.Act.{Act}
use Rattle.router_trace.specs.Trace.{Beginning}
use Rattle.router_trace.specs.Configuration.{beginning}
use Rattle.router_trace.specs.declared.channel.PeerChannel.{PeerChannel}
use Rattle.router_trace.specs.declared.event.ConnectionId.{ConnectionId}
use Rattle.router_trace.specs.declared.event.Event.{Event}
use Rattle.router_trace.specs.declared.event.Event.TheVariants as event
use Rattle.router_trace.specs.Trace.{Entry, Did, Out, Took, Bound, Booked, Routed, Began, did, ups, with_up, newer, newest, step_of}
use Rattle.router_trace.specs.Connection.{Connection, conn, ended, took, unless_empty, drained, is_full, is_due, has, due, found, live_of, at_event, fresh}
use Rattle.router_trace.specs.Refusing.{reaches, rises, refuses}
use Rattle.router_trace.specs.Routed.{passed_to, if_passed}
use Rattle.router_trace.specs.Sessions.{session, session_at, awaited, awaited_at, awaited_by, names_own, answers_begin, answered_begin, after_item, offered, heard_by, heard_in, maps, theirs}
use Rattle.router_trace.specs.Links.{link, their_handle}
use Rattle.router_reply.specs.Replies.{heard}
use Rattle.router_core.specs.Moves.{outs}
use Rattle.router_trace.specs.Order.{unwritten}
use Rattle.state_connections.proofs.Lists.{by_test, has_push, from_push}
use Rattle.state_connections.proofs.Turns.{reach_up}
use Rattle.router_core.proofs.RowOrder.{phase_is, has_begun}
use Rattle.router_core.proofs.Once.{NoTwice, filter_has, no_twice_filter, no_twice_push, rises_apart, taken_up}
use Rattle.router_core.proofs.Linked.{linked_before}
use Rattle.router_core.proofs.Ordered.{Ordered, Pending, wrote, written_all, ends_turns}

pub not_before : (t : List Entry) (d : ConnectionId) → Ordered t → not (rises d.0 (newest t)) ≡ false → has d.0 (ups t) ≡ false
not_before t d ord taken = by_test (has d.0 (ups t)) (λ h. absurd (rises_apart d.0 (newest t) (taken_up (rises d.0 (newest t)) taken) (ord.rise d.0 h))) (λ h. h)

phase_is_new : (n : ℕ) (v : Connection) → fresh n ≡ v → v.phase.closed ≡ false → v.phase ≡ unwritten.phase
phase_is_new n v was live =
    let same : (fresh n).phase ≡ v.phase = ap (λ (u : Connection). u.phase) was
    in sym same ∙ phase_is (fresh n).phase (ap (λ (p : Conn). p.closed) same ∙ live)

-- the event itself

pub found_open : (b : Bool) (o : Option Connection) (v : Connection) → (if b then option_map ended o else o) ≡ Some v → v.phase.closed ≡ false → o ≡ Some v
found_open true None v e live = absurd cc
found_open true (Some u) v e live = absurd (true≢false (ap (λ (x : Option Connection). closed_of x) e ∙ live))
  where
    closed_of : Option Connection → Bool
    closed_of None = true
    closed_of (Some x) = x.phase.closed
found_open false o v e live = e

-- if nothing is put out, no session exists
pub push_some : (is : List Item) (i : Item) → is ++ i ∷ [] ≡ [] → ⊥
push_some [] i h = absurd cc
push_some (j ∷ js) i h = absurd cc

-- a begin that answers the router's makes a session where one was awaited; nothing else begins or ends by an item of the peer
answers_some : (body : Perf) (o : ℕ) (here : Option PeerChannel) (w : Option BeginState) → answers_begin body o here w ≡ true
    → (is_some w ≡ true) × (is_some (answered_begin body w) ≡ true)
answers_some (perf.Begin b) o here None h = absurd (by (names_own b o here) h)
  where
    by : (q : Bool) → (if q then false else false) ≡ true → ⊥
    by true h = absurd cc
    by false h = absurd cc
answers_some (perf.Begin b) o here (Some s) h = (refl, refl)
answers_some _ o here w h = absurd cc

heard_begun : (i : Item) (o : ℕ) (known : ℕ → Option PeerChannel) (v : Option Session) (w : Option BeginState)
    → has_begun (heard_by i o known w v) (awaited_by i o known w) ≡ has_begun v w
heard_begun (item.Frame sasl channel body payload) o known v w =
    frame sasl (answers_begin body o (known channel) w) (maps (known channel) o) (heard_in body) v (answers_some body o (known channel) w)
  where
    both : (new v : Option Session) (w : Option BeginState) → is_some w ≡ true → is_some new ≡ true → has_begun new None ≡ has_begun v w
    both None v w e f = absurd cc
    both (Some n) v None e f = absurd cc
    both (Some n) None (Some w) e f = refl
    both (Some n) (Some h) (Some w) e f = refl

    frame : (s a m : Bool) (f : Session → Session) (v : Option Session)
        → (a ≡ true → (is_some w ≡ true) × (is_some (answered_begin body w) ≡ true))
        → has_begun (if s then v else (if a then answered_begin body w else (if m then option_map f v else v))) (if s then w else (if a then None else w)) ≡ has_begun v w
    frame true a m f v is = refl
    frame false true m f v is = let some = is refl in both (answered_begin body w) v w some.0 some.1
    frame false false true f None is = refl
    frame false false true f (Some h) is = refl
    frame false false false f v is = refl
heard_begun _ o known v w = refl

-- if no begin of the router awaits an answer, the peer's makes no session
answers_none : (body : Perf) (o : ℕ) (here : Option PeerChannel) → answers_begin body o here None ≡ false
answers_none (perf.Begin b) o here = by (names_own b o here)
  where
    by : (q : Bool) → (if q then false else false) ≡ false
    by true = refl
    by false = refl
answers_none _ o here = refl

-- neither is there a session, nor is one awaited
abbrev IsUnbegun : Option Session → Option BeginState → Type 0
IsUnbegun v w = (v ≡ None) × (w ≡ None)

heard_none : (i : Item) (o : ℕ) (known : ℕ → Option PeerChannel) → IsUnbegun (heard_by i o known None None) (awaited_by i o known None)
heard_none (item.Frame sasl channel body payload) o known =
    frame sasl (answers_begin body o (known channel) None) (maps (known channel) o) (answers_none body o (known channel))
  where
    frame : (s a m : Bool) → a ≡ false
        → IsUnbegun (if s then None else (if a then answered_begin body None else (if m then option_map (heard_in body) None else None)))
        (if s then None else (if a then None else None))
    frame true a m h = (refl, refl)
    frame false true m h = absurd cc
    frame false false true h = (refl, refl)
    frame false false false h = (refl, refl)
heard_none _ o known = (refl, refl)

still_none : (e : Event) (c o : ℕ) (known : ℕ → Option PeerChannel) → IsUnbegun (session_at e c o known None None) (awaited_at e c o known None)
still_none (event.Item d i) c o known = by_test (d.0 == c) (λ e. rw e (heard_none i o known)) (λ e. rw e (refl, refl))
still_none (event.Down d) c o known = by_test (d.0 == c) (λ e. rw e (refl, refl)) (λ e. rw e (refl, refl))
still_none (event.Up d p) c o known = (refl, refl)
still_none (event.Tick ms) c o known = (refl, refl)
still_none event.Start c o known = (refl, refl)

none_before : (e : Event) (c o : ℕ) (known : ℕ → Option PeerChannel) (v : Option Session) (w : Option BeginState) → IsUnbegun v w
    → IsUnbegun (session_at e c o known w v) (awaited_at e c o known w)
none_before e c o known v w none =
    subst (λ (x : Option BeginState). IsUnbegun (session_at e c o known x v) (awaited_at e c o known x)) (sym none.1)
    (subst (λ (x : Option Session). IsUnbegun (session_at e c o known None x) (awaited_at e c o known None)) (sym none.0) (still_none e c o known))

pub passed_none : (p : Option Item) (js : List Item) → if_passed (λ i is. is ++ i ∷ []) p js ≡ [] → (p ≡ None) × (js ≡ [])
passed_none None js h = (refl, h)
passed_none (Some i) js h = absurd (push_some js i h)

unbegun : (t : List Entry) (c : ℕ) → outs t c ≡ [] → (o : ℕ) → IsUnbegun (session t c o) (awaited t c o)
unbegun [] c none o = (refl, refl)
unbegun (Did s ∷ t) c none o = none_before s.event c o (theirs t c) (session t c o) (awaited t c o) (unbegun t c none o)
unbegun (Out d i ∷ t) c none o =
    by_test (d == c) (λ e. absurd (push_some (outs t c) i (rw e at none))) (λ e. rw e (unbegun t c (rw e at none) o))
unbegun (Took d n ∷ t) c none o = unbegun t c none o
unbegun (Bound b ∷ t) c none o = unbegun t c none o
unbegun (Booked acts full ∷ t) c none o = unbegun t c none o
unbegun (Routed passage ∷ t) c none o =
    let nothing = passed_none (passed_to passage c) (outs t c) none
    in subst (λ (p : Option Item). IsUnbegun (if_passed (λ i v. after_item i o (offered t c) v) p (session t c o)) (awaited t c o)) (sym nothing.0)
    (unbegun t c nothing.1 o)
unbegun (Began g ∷ t) c none o = (refl, refl)

pub no_session : (t : List Entry) (c : ℕ) → outs t c ≡ [] → (o : ℕ) → session t c o ≡ None
no_session t c none o = (unbegun t c none o).0

pub none_begun : (t : List Entry) (c : ℕ) → outs t c ≡ [] → (o : ℕ) → has_begun (session t c o) (awaited t c o) ≡ false
none_begun t c none o =
    let is = unbegun t c none o in
    ap (λ (x : Option Session). has_begun x (awaited t c o)) is.0 ∙ ap (λ (x : Option BeginState). is_some x) is.1

event_phases : (t : List Entry) (e : Event) → Ordered t → refuses t e ≡ false → (c n : ℕ) (v : Connection)
    → at_event e c n (found t e c) ≡ Some v → v.phase.closed ≡ false → (wrote t c).phase ≡ v.phase
event_phases t (event.Up d p) ord taken c n v is live =
    by_test (d.0 == c)
    (λ e. let new : Some (fresh n) ≡ Some v = rw e at is
    in let none : outs t c ≡ [] = ord.unknown c (subst (λ (k : ℕ). has k (ups t) ≡ false) (eqb-true d.0 c e) (not_before t d ord taken))
    in let was : fresh n ≡ v = cc
    in ap (λ js. (written_all js unwritten).phase) none ∙ sym (phase_is_new n v was live))
    (λ e. ord.phases c v (found_open (has c (due t (event.Up d p))) (conn t c) v (rw e at is) live) live)
event_phases t (event.Down d) ord taken c n v is live =
    by_test (d.0 == c) (λ e. let no : None ≡ Some v = rw e at is in absurd cc)
    (λ e. ord.phases c v (found_open (has c (due t (event.Down d))) (conn t c) v (rw e at is) live) live)
event_phases t (event.Item d i) ord taken c n v is live = ord.phases c v (found_open (has c (due t (event.Item d i))) (conn t c) v is live) live
event_phases t (event.Tick ms) ord taken c n v is live = ord.phases c v (found_open (has c (due t (event.Tick ms))) (conn t c) v is live) live
event_phases t event.Start ord taken c n v is live = ord.phases c v (found_open (has c (due t event.Start)) (conn t c) v is live) live

event_begun : (t : List Entry) (e : Event) → Ordered t → refuses t e ≡ false → (c n : ℕ) (v : Connection)
    → at_event e c n (found t e c) ≡ Some v → v.phase.closed ≡ false → (o : ℕ)
    → (wrote t c).begun o ≡ has_begun (session (did e ∷ t) c o) (awaited (did e ∷ t) c o)
event_begun t (event.Up d p) ord taken c n v is live o =
    by_test (d.0 == c)
    (λ e. let none : outs t c ≡ [] = ord.unknown c (subst (λ (k : ℕ). has k (ups t) ≡ false) (eqb-true d.0 c e) (not_before t d ord taken))
    in ap (λ js. (written_all js unwritten).begun o) none ∙ sym (none_begun t c none o))
    (λ e. ord.begun c v (found_open (has c (due t (event.Up d p))) (conn t c) v (rw e at is) live) live o)
event_begun t (event.Down d) ord taken c n v is live o =
    by_test (d.0 == c) (λ e. let no : None ≡ Some v = rw e at is in absurd cc)
    (λ e. rw e (ord.begun c v (found_open (has c (due t (event.Down d))) (conn t c) v (rw e at is) live) live o))
event_begun t (event.Item d i) ord taken c n v is live o =
    let was : (wrote t c).begun o ≡ has_begun (session t c o) (awaited t c o) = ord.begun c v (found_open (has c (due t (event.Item d i))) (conn t c) v is live) live o
    in by_test (d.0 == c) (λ e. rw e (was ∙ sym (heard_begun i o (theirs t c) (session t c o) (awaited t c o)))) (λ e. rw e was)
event_begun t (event.Tick ms) ord taken c n v is live o = ord.begun c v (found_open (has c (due t (event.Tick ms))) (conn t c) v is live) live o
event_begun t event.Start ord taken c n v is live o = ord.begun c v (found_open (has c (due t event.Start)) (conn t c) v is live) live o

rise_at : (t : List Entry) (e : Event) → Ordered t → refuses t e ≡ false → (c : ℕ) → has c (with_up e (ups t)) ≡ true → reaches c (newer e (newest t)) ≡ true
rise_at t (event.Up d p) ord taken c h =
    from_push c d.0 (ups t) (λ was. reach_up d.0 c (newest t) (taken_up (rises d.0 (newest t)) taken) (ord.rise c was))
    (λ e. le-leb c d.0 (same_le d.0 c e)) h
  where
    same_le : (d c : ℕ) → d ≡ c → c ≤ d
    same_le d c e = omega arith
rise_at t (event.Down d) ord taken c h = ord.rise c h
rise_at t (event.Item d i) ord taken c h = ord.rise c h
rise_at t (event.Tick ms) ord taken c h = ord.rise c h
rise_at t event.Start ord taken c h = ord.rise c h

pub unknown_at : (t : List Entry) (e : Event) → Ordered t → (c : ℕ) → has c (with_up e (ups t)) ≡ false → outs t c ≡ []
unknown_at t (event.Up d p) ord c absent = ord.unknown c (by_test (has c (ups t)) (λ h. absurd (true≢false (sym (has_push c d.0 (ups t) h) ∙ absent))) (λ h. h))
unknown_at t (event.Down d) ord c absent = ord.unknown c absent
unknown_at t (event.Item d i) ord c absent = ord.unknown c absent
unknown_at t (event.Tick ms) ord c absent = ord.unknown c absent
unknown_at t event.Start ord c absent = ord.unknown c absent

once_at : (t : List Entry) (e : Event) → Ordered t → refuses t e ≡ false → NoTwice (with_up e (ups t))
once_at t (event.Up d p) ord taken = no_twice_push (ups t) d.0 ord.once (not_before t d ord taken)
once_at t (event.Down d) ord taken = ord.once
once_at t (event.Item d i) ord taken = ord.once
once_at t (event.Tick ms) ord taken = ord.once
once_at t event.Start ord taken = ord.once

event_turns : (t : List Entry) (e : Event) → Ordered t → refuses t e ≡ false → Ordered (did e ∷ t)
event_turns t e ord taken = record {
  turns = ord.turns;
  phases = λ c v is live. event_phases t e ord taken c (length (live_of (ups t) (found t e))) v is live;
  begun = λ c v is live. event_begun t e ord taken c (length (live_of (ups t) (found t e))) v is live;
  opened = ord.opened;
  linked = λ c o h some. ord.linked c o h (linked_before e c o h (theirs t c) (their_handle t c o) (link t c o h) some);
  unknown = unknown_at t e ord;
  rise = rise_at t e ord taken;
  once = once_at t e ord taken;
}

-- connections that the event ends have their close unwritten after it
full_is : (o : Option Connection) → is_full o ≡ true → (v : Connection) × (o ≡ Some v) × (v.phase.closed ≡ false)
full_is None h = absurd cc
full_is (Some v) h = (v, refl, by_test v.phase.closed (λ e. absurd (true≢false (sym (rw e at h)))) (λ e. e))

due_full : (t : List Entry) (e : Event) → Ordered t → refuses t e ≡ false → (c : ℕ) → is_due e c (conn t c) ≡ true → has c (ups t) ≡ true
    → (is_full (conn t c) ≡ true) × ((n : ℕ) (o : Option Connection) → at_event e c n o ≡ o)
due_full t (event.Up d p) ord taken c due there =
    (due, λ n o. by_test (d.0 == c) (λ e. absurd (true≢false (sym (subst (λ (k : ℕ). has k (ups t) ≡ true) (sym (eqb-true d.0 c e)) there) ∙ not_before t d ord taken))) (λ e. rw e refl))
due_full t (event.Down d) ord taken c due there =
    by_test (d.0 == c) (λ e. absurd (true≢false (sym (rw e at due)))) (λ e. (rw e at due, λ n o. rw e refl))
due_full t (event.Item d i) ord taken c due there = (due, λ n o. refl)
due_full t (event.Tick ms) ord taken c due there = (due, λ n o. refl)
due_full t event.Start ord taken c due there = (due, λ n o. refl)

pub event_pending : (t : List Entry) (e : Event) → Ordered t → refuses t e ≡ false → (c : ℕ) → has c (due t e) ≡ true → Pending (did e ∷ t) c
event_pending t e ord taken c h =
    let is = filter_has (λ k. is_due e k (conn t k)) c (ups t) h
    in let full = due_full t e ord taken c is.0 is.1
    in let v = full_is (conn t c) full.0
    in record {
      view = ended v.0;
      known_as = full.1 (length (live_of (ups t) (found t e))) (found t e c) ∙ ending (has c (due t e)) (conn t c) v.0 h v.1;
      written = ord.phases c v.0 v.1 v.2 ∙ phase_is v.0.phase v.2;
    }
  where
    ending : (b : Bool) (o : Option Connection) (v : Connection) → b ≡ true → o ≡ Some v → (if b then option_map ended o else o) ≡ Some (ended v)
    ending b o v e f = rw (e, f) refl

pub heard_turns : (id : List ℕ) (t : List Entry) (e : Event) → Ordered t → refuses t e ≡ false → Ordered (heard id t (step_of e))
heard_turns id t e ord taken =
    ends_turns id (due t e) (did e ∷ t) (event_turns t e ord taken) (no_twice_filter (λ k. is_due e k (conn t k)) (ups t) ord.once)
    (event_pending t e ord taken)

-- takes
pub took_inv : (n : ℕ) (o : Option Connection) (w : Connection) → option_and_then (took n) o ≡ Some w → w.phase.closed ≡ false → (v : Connection) × (o ≡ Some v) × (v.phase ≡ w.phase)
took_inv n None w is live = absurd cc
took_inv n (Some v) w is live =
    by_test v.phase.closed
    (λ e. absurd (over (drained n v) (drop n v.waiting) (subst (λ (b : Bool). (if b then unless_empty (drained n v) (drop n v.waiting) else Some (drained n v)) ≡ Some w) e is) e))
    (λ e. (v, refl, phase_of (drained n v) w (subst (λ (b : Bool). (if b then unless_empty (drained n v) (drop n v.waiting) else Some (drained n v)) ≡ Some w) e is)))
  where
    phase_of : (x w : Connection) → Some x ≡ Some w → x.phase ≡ w.phase
    phase_of x w e = let f : x ≡ w = cc in ap (λ (u : Connection). u.phase) f

    over : (x : Connection) (rest : List Item) → unless_empty x rest ≡ Some w → x.phase.closed ≡ true → ⊥
    over x [] e h = absurd cc
    over x (i ∷ is) e h = true≢false (sym h ∙ ap (λ (p : Conn). p.closed) (phase_of x w e) ∙ live)

pub took_turns : (t : List Entry) (d n : ℕ) → Ordered t → Ordered (Took d n ∷ t)
took_turns t d n ord = record {
  turns = ord.turns;
  phases = λ c w is live. by_test (d == c)
      (λ e. let v = took_inv n (conn t c) w (rw e at is) live in ord.phases c v.0 v.1 (ap (λ (p : Conn). p.closed) v.2 ∙ live) ∙ v.2)
      (λ e. ord.phases c w (rw e at is) live);
  begun = λ c w is live. by_test (d == c)
      (λ e. let v = took_inv n (conn t c) w (rw e at is) live in ord.begun c v.0 v.1 (ap (λ (p : Conn). p.closed) v.2 ∙ live))
      (λ e. ord.begun c w (rw e at is) live);
  opened = ord.opened;
  linked = ord.linked;
  unknown = ord.unknown;
  rise = ord.rise;
  once = ord.once;
}

pub batch_turns : (t : List Entry) (acts : List Act) {full : List ℕ} → Ordered t → Ordered (Booked acts full ∷ t)
batch_turns t acts ord = record {
  turns = ord.turns;
  phases = ord.phases;
  begun = ord.begun;
  opened = ord.opened;
  linked = ord.linked;
  unknown = ord.unknown;
  rise = ord.rise;
  once = ord.once;
}

pub ordered_start : (g : Beginning) → Ordered (beginning g)
ordered_start g = record {
  turns = λ c. refl;
  phases = λ c v is live. absurd cc;
  begun = λ c v is live. absurd cc;
  opened = λ c o h. absurd cc;
  linked = λ c o h some. absurd cc;
  unknown = λ c absent. refl;
  rise = λ c h. absurd cc;
  once = tt;
}
