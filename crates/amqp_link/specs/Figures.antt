-- The figures of a link's end match what happened on its link.
use Rattle.std.specs.Prelude.{◌≡◌, ◌<◌, ℕ, ◌+◌, ◌%◌, ◌^◌, Bool, ◌&&◌, nat_eq, if◌then◌else◌, Option, Some, None, is_none, option_map, unwrap_or}
use Rattle.amqp_link.specs.declared.grant.Grant.{Grant}
use Rattle.amqp_link.specs.declared.part.Part.{Part}
use Rattle.amqp_link.specs.declared.part.Part.TheVariants as part
use Rattle.amqp_link.specs.declared.send_end.SendEnd.{SendEnd}
use Rattle.amqp_link.specs.Credit as link
use Rattle.amqp_link.specs.Credit.{Link, left_of}
use Rattle.amqp_link.specs.Deliveries.{Frame}
use Rattle.amqp_link.specs.Gathering.{RecvFigures, gathered, settled_now, next}
use Rattle.amqp_link.specs.Receiving.{Received, middle, seen}

-- of a sending end
pub record Sends (e : SendEnd) (t : Link) : Type 0 where
  pub initial : e.initial ≡ link.initial t
  pub count : e.count ≡ link.count t
  pub granted : e.granted ≡ link.granted t

-- the credit that it has left
abbrev pub left_at : SendEnd → ℕ
left_at e = left_of e.granted e.count

-- a delivery may be started
abbrev pub CanStart : SendEnd → Type 0
CanStart e = 0 < left_at e

-- the end that has the figures of this list; each list has one alone
abbrev pub send_end_of : Link → SendEnd
send_end_of t = record { initial = link.initial t; count = link.count t; granted = link.granted t }

-- How its figures change, for a table of ends: those of a link that was just attached, ...
abbrev pub begun_at : ℕ → SendEnd
begun_at n = record { initial = n; count = n % 2 ^ 32; granted = None }

-- ... after a flow of the receiver, ...
abbrev pub after_grant : Option ℕ → ℕ → SendEnd → SendEnd
after_grant count credit e = record e { granted = Some (record { count = unwrap_or count e.initial; credit = credit }) }

-- ... the start of a delivery, ...
abbrev pub after_start : SendEnd → SendEnd
after_start e = record e { count = (e.count + 1) % 2 ^ 32 }

-- ... and a drain, whose count is that at which the credit is used up
abbrev pub drained_count : SendEnd → ℕ
drained_count e = (e.count + left_at e) % 2 ^ 32

abbrev pub after_drain : SendEnd → SendEnd
after_drain e = record e { count = drained_count e }

-- ... or a flow of the sender with this count
abbrev pub after_told_count : ℕ → SendEnd → SendEnd
after_told_count n e = record e { count = n % 2 ^ 32 }

-- of a receiving end
pub record Receives (e : RecvFigures) (t : Received) : Type 0 where
  pub count : e.count ≡ link.count (seen t)
  pub granted : e.granted ≡ link.granted (seen t)
  pub middle : e.middle ≡ gathered (middle t)

abbrev pub unused_at : RecvFigures → ℕ
unused_at e = left_of e.granted e.count

-- the end that has the figures of this list; each list has one alone
abbrev pub recv_end_of : Received → RecvFigures
recv_end_of t = record { count = link.count (seen t); granted = link.granted (seen t); middle = gathered (middle t) }

-- How it changes: that of a link that was just attached, ...
abbrev pub awaiting_at : ℕ → RecvFigures
awaiting_at n = record { count = n % 2 ^ 32; granted = None; middle = None }

-- ... after a grant of this end, ...
abbrev pub after_our_grant : Grant → RecvFigures → RecvFigures
after_our_grant g e = record e { granted = Some g }

-- ... a count that the peer gave, ...
abbrev pub after_count : ℕ → RecvFigures → RecvFigures
after_count n e = record e { count = n % 2 ^ 32 }

-- ... a settlement of the delivery in the middle, ...
abbrev pub after_settlement : RecvFigures → RecvFigures
after_settlement e = record e { middle = option_map settled_now e.middle }

-- ... and a transfer of the peer, beside what that gives
abbrev pub starts_beyond : RecvFigures → Bool
starts_beyond e = is_none e.middle && nat_eq (unused_at e) 0

abbrev pub count_after_transfer : RecvFigures → ℕ
count_after_transfer e = if is_none e.middle then (e.count + 1) % 2 ^ 32 else e.count

abbrev pub given_by : Frame → RecvFigures → Part
given_by f e = if starts_beyond e then part.BeyondCredit else (next f e.middle).0

abbrev pub after_transfer : Frame → RecvFigures → RecvFigures
after_transfer f e =
    if starts_beyond e then e else record e { count = count_after_transfer e; middle = (next f e.middle).1 }
