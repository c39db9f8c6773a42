-- What stands at the front of a stream (AMQP 1.0 part 2, sections 2.2 and 2.3).
use Rattle.std.specs.Prelude.{ℕ, ◌+◌, ◌*◌, ◌==◌, nat_lt, Bool, true, false, ◌&&◌, ◌||◌, not, if◌then◌else◌, List, [], ◌∷◌, length, take, drop, Result, Ok, Err}
use Rattle.amqp_model.specs.declared.perf.Perf.{Perf}
use Rattle.amqp_model.specs.declared.perf.Perf.TheVariants as perf
use Rattle.amqp_model.specs.declared.perf_fault.PerfFault.{PerfFault}
use Rattle.amqp_model.specs.declared.perf_fault.PerfFault.TheVariants as perf_fault
use Rattle.amqp_perf.specs.Performative.{performative}
use Rattle.amqp_model.specs.declared.frame_fault.FrameFault.{FrameFault}
use Rattle.amqp_model.specs.declared.frame_fault.FrameFault.TheVariants as fault
use Rattle.amqp_model.specs.declared.item.Item.{Item}
use Rattle.amqp_model.specs.declared.item.Item.TheVariants as item
use Rattle.amqp_frames.specs.declared.extent.Extent.{Extent}
use Rattle.amqp_frames.specs.declared.extent.Extent.TheVariants.{Unknown, Whole, Wrong}
use Rattle.amqp_frames.specs.Extents.{begins_header, extent}

abbrev pub is_empty : List ℕ → Bool
is_empty [] = true
is_empty (b ∷ bytes) = false

-- only a transfer has a payload after it (part 2, section 2.7.5)
abbrev pub may_carry : Perf → Bool
may_carry (perf.Transfer transfer) = true
may_carry _ = false

-- a body is a performative and then its payload
abbrev pub filled : Bool → ℕ → List ℕ → Result (Perf × ℕ) PerfFault → Result Item FrameFault
filled sasl channel body (Ok (p, behind)) =
    if may_carry p || is_empty (drop behind body) then Ok (item.Frame sasl channel p (drop behind body))
    else Err (fault.Perf perf_fault.NotPerformative)
filled sasl channel body (Err e) = Err (fault.Perf e)

-- a frame without a body is a heartbeat; a SASL frame has none (part 2, section 2.4.5; part 5, section 5.3.1)
abbrev pub frame : Bool → ℕ → List ℕ → Result Item FrameFault
frame sasl channel body =
    if is_empty body && not sasl then Ok (item.Beat channel) else filled sasl channel body (performative body)

-- the item that these bytes are, all of which belong to it: after a frame's size its data offset, type and channel,
-- which a SASL frame doesn't have, then an extended header, which is ignored, and the body
unfoldable pub item_of : List ℕ → Result Item FrameFault
item_of (a ∷ b ∷ c ∷ d ∷ e ∷ f ∷ g ∷ h ∷ rest) =
    if begins_header a b c d then Ok (item.Header e f g h)
    else if f == 1 then frame true 0 (drop (4 * e) (a ∷ b ∷ c ∷ d ∷ e ∷ f ∷ g ∷ h ∷ rest))
    else frame false (g * 256 + h) (drop (4 * e) (a ∷ b ∷ c ∷ d ∷ e ∷ f ∷ g ∷ h ∷ rest))
item_of _ = Err fault.TooSmall

-- what stands at the front: less than an item, an item and the bytes after it, or bytes that begin none
pub data Front : Type 0 where
  more : Front
  found : Item → List ℕ → Front
  wrong : FrameFault → Front

abbrev pub of_item : List ℕ → Result Item FrameFault → Front
of_item after (Ok x) = found x after
of_item after (Err f) = wrong f

abbrev pub front_by : List ℕ → Extent → Front
front_by bytes Unknown = more
front_by bytes (Wrong f) = wrong f
front_by bytes (Whole size) = if nat_lt (length bytes) size then more else of_item (drop size bytes) (item_of (take size bytes))

unfoldable pub front : List ℕ → Front
front bytes = front_by bytes (extent bytes)
