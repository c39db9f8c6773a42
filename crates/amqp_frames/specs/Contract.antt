-- How the functions' answers relate to the definitions.
use Rattle.std.specs.Prelude.{◌≡◌, ◌<◌, ◌⊎◌, ℕ, List, [], length, drop, Result, Ok, Err}
use Rattle.amqp_model.specs.declared.perf_fault.PerfFault.{PerfFault}
use Rattle.amqp_model.specs.declared.perf_fault.PerfFault.TheVariants as perf_fault
use Rattle.amqp_model.specs.declared.frame_fault.FrameFault.{FrameFault}
use Rattle.amqp_model.specs.declared.frame_fault.FrameFault.TheVariants as fault
use Rattle.amqp_frames.specs.Frames.{Front, more, found, wrong}
use Rattle.amqp_frames.specs.declared.cut.Next.{Next}
use Rattle.amqp_frames.specs.declared.cut.Next.TheVariants.{More, Found, Wrong}
use Rattle.amqp_frames.specs.declared.extent.Extent.{Extent}
use Rattle.amqp_frames.specs.declared.extent.Extent.TheVariants as extent
use Rattle.amqp_model.specs.declared.item.Item.{Item}
use Rattle.amqp_model.specs.declared.item.Item.TheVariants as item

-- a frame with this payload; nothing else has one
abbrev pub loaded : Item → List ℕ → Item
loaded (item.Frame sasl channel perf old) payload = item.Frame sasl channel perf payload
loaded (item.Header id major minor revision) payload = item.Header id major minor revision
loaded (item.Beat channel) payload = item.Beat channel
loaded (item.Bad f) payload = item.Bad f

-- an item read without its payload, and the place where that begins, are what is defined, unless memory was refused
abbrev pub Reads : Result (Item × ℕ) FrameFault → List ℕ → Result Item FrameFault → Type 0
Reads (Ok (x, at)) text defined = defined ≡ Ok (loaded x (drop at text))
Reads (Err e) text defined = (e ≡ fault.Memory → ⊥) → defined ≡ Err e

-- what a step found at the front
abbrev pub next_front : Next → Front
next_front More = more
next_front (Found x after) = found x after.now
next_front (Wrong f) = wrong f

-- what is left after an item is shorter
abbrev pub IsShorter : Next → List ℕ → Type 0
IsShorter (Found x after) bytes = length after.now < length bytes
IsShorter _ bytes = Unit {0}

-- the bytes of an item whose extent is known are all of it, or there are no further bytes
abbrev pub IsGathered : Extent → List ℕ → List ℕ → Type 0
IsGathered extent.Unknown bytes behind = behind ≡ []
IsGathered (extent.Whole size) bytes behind = (length bytes ≡ size) ⊎ ((length bytes < size) × (behind ≡ []))
IsGathered (extent.Wrong f) bytes behind = Unit {0}
