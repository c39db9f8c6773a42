-- What happened on a link where the peer sends, newest first.
use Rattle.std.specs.Prelude.{ℕ, Bool, true, false, ◌&&◌, nat_eq, if◌then◌else◌, List, [], ◌∷◌, Some}
use Rattle.amqp_link.specs.declared.grant.Grant.{Grant}
use Rattle.amqp_link.specs.declared.part.Part.{Part}
use Rattle.amqp_link.specs.declared.part.Part.TheVariants as part
use Rattle.amqp_link.specs.Credit.{Link, Attached, Granted, Started, Counted, count, credit}
use Rattle.amqp_link.specs.Deliveries.{Frame, still, settled, part_of}

pub data Event : Type 0 where
  -- the peer's attach, with its initial-delivery-count
  TheirAttach : ℕ → Event
  -- a flow of this end that grants
  OurGrant : Grant → Event
  -- a flow of the peer that gives its delivery-count
  TheirCount : ℕ → Event
  -- a transfer of the peer
  TheirTransfer : Frame → Event
  -- the peer settled the delivery in the middle, by a disposition whose range has it (AMQP 1.0 part 2, section 2.7.6)
  TheirSettlement : Event

abbrev pub Received : Type 0
Received = List Event

-- The frames of the delivery in the middle: one with some of its frames here and more to come.
abbrev pub middle : Received → List Frame
middle [] = []
middle (TheirAttach n ∷ t) = []
middle (TheirTransfer f ∷ t) = still f (middle t)
middle (TheirSettlement ∷ t) = settled (middle t)
middle (_ ∷ t) = middle t

abbrev pub is_empty : List Frame → Bool
is_empty [] = true
is_empty (_ ∷ _) = false

-- The same for credit: a transfer starts a delivery where none is in the middle.
abbrev pub seen : Received → Link
seen [] = []
seen (TheirAttach n ∷ t) = Attached n ∷ seen t
seen (OurGrant g ∷ t) = Granted (Some g.count) g.credit ∷ seen t
seen (TheirCount n ∷ t) = Counted n ∷ seen t
seen (TheirTransfer f ∷ t) = if is_empty (middle t) then Started ∷ seen t else seen t
seen (TheirSettlement ∷ t) = seen t

-- the peer's delivery-count
abbrev pub delivery_count : Received → ℕ
delivery_count t = count (seen t)

-- credit that it was granted and hasn't used
abbrev pub unused : Received → ℕ
unused t = credit (seen t)

-- a transfer would start a delivery, and no credit is unused
abbrev pub is_beyond : Received → Bool
is_beyond t = is_empty (middle t) && nat_eq (unused t) 0

-- What a transfer gives, and what then happened. One beyond the credit doesn't count on the link.
abbrev pub given : Frame → Received → Part
given f t = if is_beyond t then part.BeyondCredit else part_of f (middle t)

abbrev pub behind : Frame → Received → Received
behind f t = if is_beyond t then t else TheirTransfer f ∷ t
