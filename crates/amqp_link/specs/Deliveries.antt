-- Deliveries, from the transfer frames that carry them (AMQP 1.0 part 2, sections 2.6.14 and 2.7.5).
use Rattle.std.specs.Prelude.{ℕ, Bool, true, ◌&&◌, ◌||◌, not, nat_lt, if◌then◌else◌, List, [], ◌∷◌, ◌++◌, length}
use Rattle.amqp_model.specs.declared.perf.Transfer.{Transfer}
use Rattle.amqp_link.specs.declared.part.Delivery.{Delivery}
use Rattle.amqp_link.specs.declared.part.Part.{Part}
use Rattle.amqp_link.specs.declared.part.Part.TheVariants as part

-- A transfer frame: its fields, and its payload. The frames of a delivery stand newest first.
pub record Frame : Type 0 where
  pub transfer : Transfer
  pub payload : List ℕ

abbrev pub frame : Transfer → List ℕ → Frame
frame x carried = record { transfer = x; payload = carried }

-- more frames of its delivery are to come
abbrev pub goes_on : Frame → Bool
goes_on f = f.transfer.more && not f.transfer.aborted

-- the frames of the delivery in the middle, after a frame and those of its delivery that came before
abbrev pub still : Frame → List Frame → List Frame
still f fs = if goes_on f then f ∷ fs else []

-- the payload of a delivery: those of its frames, in the order in which they came
abbrev pub bytes : List Frame → List ℕ
bytes [] = []
bytes (f ∷ fs) = bytes fs ++ f.payload

abbrev pub is_too_large : List Frame → Bool
is_too_large fs = nat_lt 65536 (length (bytes fs))

-- a delivery is settled where any of its frames says so, of which this one came last
abbrev pub is_settled : Frame → List Frame → Bool
is_settled f [] = f.transfer.settled
is_settled f (g ∷ fs) = f.transfer.settled || is_settled g fs

-- The frames of a delivery that its sender settled without a frame: the newest of them says so then (section 2.7.6).
abbrev pub settled : List Frame → List Frame
settled [] = []
settled (f ∷ fs) = record f { transfer = record f.transfer { settled = true } } ∷ fs

-- everything else about it comes from its first frame
abbrev pub first : Frame → List Frame → Frame
first f [] = f
first f (g ∷ fs) = first g fs

abbrev pub told : Transfer → Bool → Delivery
told x settled = record {
  id = x.delivery_id;
  tag = x.delivery_tag;
  format = x.message_format;
  resume = x.resume;
  settled = settled;
}

abbrev pub delivery : Frame → List Frame → Delivery
delivery f fs = told (first f fs).transfer (is_settled f fs)

-- the state of a delivery after a frame, given its frames that came before
abbrev pub part_of : Frame → List Frame → Part
part_of f fs =
    if f.transfer.aborted then part.Aborted
    else if is_too_large (f ∷ fs) then part.TooLarge
    else if f.transfer.more then part.More
    else part.Whole (delivery f fs) (bytes (f ∷ fs))
