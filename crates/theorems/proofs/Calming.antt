-- If no outbox was full when an event came, none was before, and the router receives the same of an event as without takes.
use Rattle.std.proofs.Common.{◌≡◌, ◌∙◌, sym, ap, refl, subst, ℕ, false, not, List, [], ◌∷◌}
use Rattle.std.specs.Prelude.{Option, Some, None, is_some}
use Rattle.amqp_model.specs.declared.item.Item.{Item}
use Rattle.amqp_conn.specs.declared.conn.Conn.{Conn}
use Rattle.router_trace.specs.declared.condition.Condition.TheVariants.{ResourceLimitExceeded}
use Rattle.router_trace.specs.declared.binding.Binding.{Binding}
use Rattle.router_trace.specs.declared.event.Event.{Event}
use Rattle.router_trace.specs.declared.event.Event.TheVariants as event
use Rattle.router_trace.specs.Trace.{Entry, Did, Out, Took, Bound, Booked, Routed, Began, Put, Step, goes, each_to, puts, newest, newer}
use Rattle.router_trace.specs.Connection.{conn, due, is_full}
use Rattle.router_trace.specs.Refusing.{refuses, rises}
use Rattle.state_messages.specs.Messages.{with_bound}
use Rattle.router_reply.specs.Resuming.{resumed}
use Rattle.router_reply.specs.Replies.{closing_of, ends, heard, bound_by, own_row, replied}
use Rattle.router_after.specs.After.{followed}
use Rattle.reply_rows.specs.Acts.{booked}
use Rattle.router_core.specs.Replies.{answered, handled}
use Rattle.core_machine.specs.Moves.{took_one}
use Rattle.router_core.specs.Moves.{Goes}
use Rattle.core_machine.specs.Moves.{Move, handles, takes}
use Rattle.theorems.specs.Takes.{untaken}
use Rattle.router_core.proofs.Booking.{booked_keeps, booked_same}
use Rattle.router_core.proofs.Copied.{copied_keeps}
use Rattle.router_core.proofs.Following.{all_keep}
use Rattle.router_core.proofs.Resuming.{resumed_keeps}
use Rattle.theorems.proofs.Plain.{Calm, stood}
use Rattle.router_play.specs.Script.{Scene}
use Rattle.theorems.specs.Pieces.{AlwaysRoom}
use Rattle.router_play.proofs.PlayMoves.{Onward}
use Rattle.theorems.proofs.Courses.{plain_refuses}

pub room_calm : (t : List Entry) → AlwaysRoom t → Calm t
room_calm [] room = tt
room_calm (Did s ∷ t) room = (room.0, room_calm t room.1)
room_calm (Out c i ∷ t) room = room_calm t room
room_calm (Took c n ∷ t) room = room_calm t room
room_calm (Bound b ∷ t) room = room_calm t room
room_calm (Booked acts full ∷ t) room = room_calm t room
room_calm (Routed passage ∷ t) room = room_calm t room
room_calm (Began g ∷ t) room = room_calm t room

-- the state before

goes_before : (ps : List Put) (t : List Entry) → Calm (goes ps t) → Calm t
goes_before [] t calm = calm
goes_before (p ∷ ps) t calm = goes_before ps (Out p.conn p.item ∷ t) calm

ends_before : (id : List ℕ) (cs : List ℕ) (t : List Entry) → Calm (ends id cs t) → Calm t
ends_before id [] t calm = calm
ends_before id (c ∷ cs) t calm =
    let items : List Item = closing_of id (conn t c) ResourceLimitExceeded
    in goes_before (each_to c items) t (ends_before id cs (puts c items t) calm)

bound_before : (b : Option Binding) (t : List Entry) → Calm (with_bound b t) → Calm t
bound_before None t calm = calm
bound_before (Some b) t calm = calm

followed_before : (t : List Entry) → Calm (followed t) → Calm t
followed_before t = all_keep (λ (u : List Entry). Calm u → Calm t) (λ ps u before calm. before (goes_before ps u calm)) t (λ calm. calm)

resumed_before : (t : List Entry) (e : Event) (u : List Entry) → Calm (resumed t e u) → Calm u
resumed_before t e u = resumed_keeps (λ (v : List Entry). Calm v → Calm u) (λ b v before calm. before (bound_before (Some b) v calm)) t e u (λ calm. calm)

answered_before : (id : List ℕ) (t : List Entry) (s : Step) → Calm (answered id t s) → ((c : ℕ) → is_full (conn t c) ≡ false) × Calm t
answered_before id t s calm =
    let u : List Entry = heard id t s
    in let behind : Calm (replied id t s) = resumed_before t s.event (replied id t s) (followed_before (resumed t s.event (replied id t s)) calm)
    in let put : List Entry = goes (own_row id t u s.event) (with_bound (bound_by t u s.event) u)
    in let copied : Calm put = copied_keeps (λ (v : List Entry). Calm v → Calm put) (λ b v before calm. before (bound_before (Some b) v calm)) t u s.event put (λ calm. calm) behind
    in ends_before id (due t s.event) (Did s ∷ t)
    (bound_before (bound_by t u s.event) u (goes_before (own_row id t u s.event) (with_bound (bound_by t u s.event) u) copied))

pub handled_before : (id : List ℕ) (t : List Entry) (s : Step) → Calm (handled id t s) → ((c : ℕ) → is_full (conn t c) ≡ false) × Calm t
handled_before id t s calm =
    let b : List Entry = booked t s.event
    in let was = answered_before id b s calm
    in (
      λ c. sym (booked_same (λ (u : List Entry). is_full (conn u c)) t s.event (λ acts. refl)) ∙ was.0 c,
      booked_keeps (λ (u : List Entry). Calm u → Calm t) t s.event (λ acts f. f) (λ f. f) was.1,
    )

moves_before : (id : List ℕ) (ms : List Move) (t u : List Entry) → Goes id ms t u → Calm u → Calm t
moves_before id [] t u went calm = subst (λ (w : List Entry). Calm w) went calm
moves_before id (handles s ∷ ms) t u went calm = (handled_before id t s (moves_before id ms (handled id t s) u went.1 calm)).1
moves_before id (takes x ∷ ms) t u went calm = moves_before id ms (took_one x t) u went calm

pub calm_before : (s u : Scene) → Onward s u → Calm u.trace → Calm s.trace
calm_before s u onward calm = moves_before s.id onward.leads.0 s.trace u.trace onward.leads.1 calm

-- which events are refused

same_newest : (t : List Entry) → newest t ≡ newest (untaken t)
same_newest [] = refl
same_newest (Did s ∷ t) = ap (newer s.event) (same_newest t)
same_newest (Out c i ∷ t) = same_newest t
same_newest (Took c n ∷ t) = same_newest t
same_newest (Bound b ∷ t) = same_newest t
same_newest (Booked acts full ∷ t) = same_newest t
same_newest (Routed passage ∷ t) = same_newest t
same_newest (Began g ∷ t) = refl

pub same_refused : (t : List Entry) (e : Event) → Calm t → refuses t e ≡ plain_refuses (untaken t) e
same_refused t (event.Up c p) calm = ap (λ (l : Option ℕ). not (rises c.0 l)) (same_newest t)
same_refused t (event.Item c i) calm = ap (λ (v : Option Conn). not (is_some v)) (stood t calm c.0)
same_refused t (event.Down c) calm = ap (λ (v : Option Conn). not (is_some v)) (stood t calm c.0)
same_refused t (event.Tick ms) calm = refl
same_refused t event.Start calm = refl
