-- What a receiving end keeps, and what it keeps of the frames of the delivery in the middle.
use Rattle.std.specs.Prelude.{ℕ, true, ◌||◌, if◌then◌else◌, nat_lt, List, [], ◌∷◌, ◌++◌, length, Option, Some, None}
use Rattle.amqp_link.specs.declared.grant.Grant.{Grant}
use Rattle.amqp_link.specs.declared.part.Delivery.{Delivery}
use Rattle.amqp_link.specs.declared.part.Part.{Part}
use Rattle.amqp_link.specs.declared.part.Part.TheVariants as part
use Rattle.amqp_link.specs.Deliveries.{Frame, bytes, told, delivery}

-- what its frames say, and their payloads, of which nothing is kept once they are too large
pub record Gathered : Type 0 where
  pub delivery : Delivery
  pub kept : Option (List ℕ)

-- an end: the sender's delivery-count, the last grant to it, and the delivery in the middle
pub record RecvFigures : Type 0 where
  pub count : ℕ
  pub granted : Option Grant
  pub middle : Option Gathered

abbrev pub fitting : List ℕ → Option (List ℕ)
fitting b = if nat_lt 65536 (length b) then None else Some b

abbrev pub gathered : List Frame → Option Gathered
gathered [] = None
gathered (f ∷ fs) = Some (record { delivery = delivery f fs; kept = fitting (bytes (f ∷ fs)) })

-- The same by what is kept: what a first frame begins, ...
abbrev pub begun : Frame → Gathered
begun f = record { delivery = told f.transfer f.transfer.settled; kept = fitting f.payload }

-- ... one frame more, ...
abbrev pub joined : Option (List ℕ) → List ℕ → Option (List ℕ)
joined None payload = None
joined (Some b) payload = fitting (b ++ payload)

abbrev pub with_frame : Frame → Gathered → Gathered
with_frame f g = record {
  delivery = record g.delivery { settled = f.transfer.settled || g.delivery.settled };
  kept = joined g.kept f.payload;
}

-- ... its settlement without a frame, ...
abbrev pub settled_now : Gathered → Gathered
settled_now g = record g { delivery = record g.delivery { settled = true } }

-- ... and what becomes of it with a frame that was joined to it, with what stays in the middle
abbrev pub whole : Delivery → Option (List ℕ) → Part
whole d None = part.TooLarge
whole d (Some b) = part.Whole d b

abbrev pub more : Option (List ℕ) → Part
more None = part.TooLarge
more (Some b) = part.More

abbrev pub turned : Frame → Gathered → Part × Option Gathered
turned f g =
    if f.transfer.aborted then (part.Aborted, None)
    else if f.transfer.more then (more g.kept, Some g)
    else (whole g.delivery g.kept, None)

-- what a frame gives, and what stays in the middle
abbrev pub next : Frame → Option Gathered → Part × Option Gathered
next f None = turned f (begun f)
next f (Some g) = turned f (with_frame f g)
