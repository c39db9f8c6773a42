-- How far the item at the front of some bytes goes, as soon as they show it (AMQP 1.0 part 2, sections 2.2 and 2.3.1;
-- part 5, section 5.3.1).
use Rattle.std.specs.Prelude.{ℕ, ◌*◌, Bool, ◌&&◌, ◌||◌, ◌==◌, nat_lt, if◌then◌else◌, List, [], ◌∷◌}
use Rattle.std.specs.Int.{w32, from_be_bytes}
use Rattle.amqp_frames.specs.declared.extent.Extent.{Extent}
use Rattle.amqp_frames.specs.declared.extent.Extent.TheVariants.{Unknown, Whole, Wrong}
use Rattle.amqp_model.specs.declared.frame_fault.FrameFault.TheVariants as fault

-- `AMQP` begins a protocol header
abbrev pub begins_header : ℕ → ℕ → ℕ → ℕ → Bool
begins_header a b c d = (a == 65) && (b == 77) && (c == 81) && (d == 80)

-- after the data offset: the type, 0 for AMQP and 1 for SASL, whose frames have at most 512 bytes
abbrev pub typed : ℕ → List ℕ → Extent
typed size [] = Unknown
typed size (kind ∷ rest) =
    if nat_lt 1 kind then Wrong fault.BadType
    else if (kind == 1) && nat_lt 512 size then Wrong fault.TooLarge
    else Whole size

-- after the size: the data offset, in words of four bytes
abbrev pub placed : ℕ → List ℕ → Extent
placed size [] = Unknown
placed size (offset ∷ rest) =
    if nat_lt offset 2 || nat_lt size (4 * offset) then Wrong fault.BadOffset else typed size rest

-- a frame of this size, which counts all of its bytes
abbrev pub sized : ℕ → List ℕ → Extent
sized size rest =
    if nat_lt size 8 then Wrong fault.TooSmall
    else if nat_lt 16384 size then Wrong fault.TooLarge
    else placed size rest

-- the extent of the item at the front
unfoldable pub extent : List ℕ → Extent
extent (a ∷ b ∷ c ∷ d ∷ rest) =
    if begins_header a b c d then Whole 8 else sized (from_be_bytes w32 (a ∷ b ∷ c ∷ d ∷ [])) rest
extent _ = Unknown
