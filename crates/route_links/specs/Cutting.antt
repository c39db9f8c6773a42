-- How a transfer is cut, so that each piece is a frame that the peer takes (AMQP 1.0 part 2, section 2.7.5).
use Rattle.std.specs.Prelude.{ℕ, ◌-◌, Bool, true, false, nat_le, if◌then◌else◌, List, [], length, take, drop, None, Result, Ok, Err}
use Rattle.amqp_model.specs.declared.perf.Transfer.{Transfer}
use Rattle.amqp_model.specs.ItemSpelling.{item_spelling}
use Rattle.amqp_model.specs.Room.{transfer_frame}
use Rattle.route_links.specs.declared.cut.Carried.{Carried}
use Rattle.route_links.specs.declared.cut.Cut.{Cut}
use Rattle.route_links.specs.declared.cut.Cut.TheVariants as cut
use Rattle.route_links.specs.declared.passing.Passing.{Passing}
use Rattle.route_links.specs.declared.passing.Passing.TheVariants as pass

-- the bytes of its frame, which are as many on each channel
abbrev pub size : Transfer → List ℕ → ℕ
size x payload = length (item_spelling (transfer_frame 0 x payload))

-- the first piece: all fields, but more is to come; ...
abbrev pub with_more : Transfer → Transfer
with_more x = record x { more = true; aborted = false }

-- ... the rest: no fields but what every transfer has
abbrev pub later : Transfer → Transfer
later x = record {
  handle = x.handle;
  delivery_id = None;
  delivery_tag = None;
  message_format = None;
  settled = x.settled;
  more = x.more;
  rcv_settle_mode = None;
  state = None;
  resume = false;
  aborted = x.aborted;
  batchable = false;
}

abbrev pub goes_whole : ℕ → Transfer → List ℕ → Bool
goes_whole largest x payload = nat_le (size x payload) largest

-- a piece without payload would fit
abbrev pub can_be_cut : ℕ → Transfer → Bool
can_be_cut largest x = nat_le (size (with_more x) []) largest

-- the payload for which the first piece has room
abbrev pub room : ℕ → Transfer → ℕ
room largest x = largest - size (with_more x) []

-- a transfer with its payload, as a frame that passes; and the transfer that such a frame is, or the frame itself
abbrev pub as_passing : Carried → Passing
as_passing c = pass.Transfer c.transfer c.payload

abbrev pub carried_of : Passing → Result Carried Passing
carried_of (pass.Transfer x payload) = Ok (record { transfer = x; payload = payload })
carried_of f = Err f

-- what becomes of one that doesn't go whole, and of any
abbrev pub pieces_of : ℕ → Carried → Cut
pieces_of largest c =
    if can_be_cut largest c.transfer then cut.Pieces
    (record { transfer = with_more c.transfer; payload = take (room largest c.transfer) c.payload })
    (record { transfer = later c.transfer; payload = drop (room largest c.transfer) c.payload })
    else cut.TooLarge c

abbrev pub cut_of : ℕ → Carried → Cut
cut_of largest c = if goes_whole largest c.transfer c.payload then cut.Whole c else pieces_of largest c
