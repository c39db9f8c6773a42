-- The acts of an event: what doesn't look at them is as before them.
use Rattle.std.proofs.Common.{◌≡◌, ◌∙◌, refl, false, List, ◌∷◌}
use Rattle.book_model.specs.declared.act.Act.{Act}
use Rattle.router_trace.specs.declared.event.Event.{Event}
use Rattle.router_trace.specs.Trace.{Entry, Booked}
use Rattle.router_trace.specs.Connection.{due, phase_found}
use Rattle.router_trace.specs.Refusing.{refuses}
use Rattle.reply_rows.specs.Acts.{acts_of, booked}

-- what acts keep, an event's acts keep
pub booked_keeps : (P : List Entry → Type 0) (t : List Entry) (e : Event) → ((acts : List Act) → P t → P (Booked acts (due t e) ∷ t)) → P t → P (booked t e)
booked_keeps P t e keeps was = keeps (acts_of t e) was

-- a view that is the same after acts is the same after an event's acts
pub booked_same : {A : Type 0} (view : List Entry → A) (t : List Entry) (e : Event) → ((acts : List Act) → view (Booked acts (due t e) ∷ t) ≡ view t) → view (booked t e) ≡ view t
booked_same view t e same = same (acts_of t e)

-- the phase of an item's connection is the same after the event's acts
pub phase_booked : (t : List Entry) (e : Event) → phase_found (booked t e) e ≡ phase_found t e
phase_booked t e = booked_same (λ (u : List Entry). phase_found u e) t e (λ acts. refl)

-- an event that isn't refused isn't refused after its acts
pub taken_booked : (t : List Entry) (e : Event) → refuses t e ≡ false → refuses (booked t e) e ≡ false
taken_booked t e taken = booked_same (λ (u : List Entry). refuses u e) t e (λ acts. refl) ∙ taken
