-- What the bytes of one item mean, by their places.
use Rattle.std.proofs.Common.{◌≡◌, ℕ, ◌+◌, ◌*◌, ◌<◌, ◌≤◌, ◌≢◌, List, [], ◌∷◌, length, get_or, drop, refl, arith, true, false, Ok, Err}
use Rattle.std.proofs.lemmas.Bool.{ne_eqb}
use Rattle.amqp_model.specs.declared.frame_fault.FrameFault.TheVariants as fault
use Rattle.amqp_model.specs.declared.item.Item.TheVariants as item
use Rattle.amqp_frames.specs.Extents.{begins_header}
use Rattle.amqp_frames.specs.Frames.{frame, item_of}

-- fewer than eight bytes are no item
pub item_short : (bytes : List ℕ) → length bytes < 8 → item_of bytes ≡ Err fault.TooSmall
unfolding item_of
item_short [] h = refl
item_short (a ∷ []) h = refl
item_short (a ∷ b ∷ []) h = refl
item_short (a ∷ b ∷ c ∷ []) h = refl
item_short (a ∷ b ∷ c ∷ d ∷ []) h = refl
item_short (a ∷ b ∷ c ∷ d ∷ e ∷ []) h = refl
item_short (a ∷ b ∷ c ∷ d ∷ e ∷ f ∷ []) h = refl
item_short (a ∷ b ∷ c ∷ d ∷ e ∷ f ∷ g ∷ []) h = refl
item_short (a ∷ b ∷ c ∷ d ∷ e ∷ f ∷ g ∷ h ∷ rest) h' = absurd (omega arith)

-- a protocol header
pub item_header : (bytes : List ℕ) → 8 ≤ length bytes → begins_header (get_or bytes 0 0) (get_or bytes 1 0) (get_or bytes 2 0) (get_or bytes 3 0) ≡ true
    → item_of bytes ≡ Ok (item.Header (get_or bytes 4 0) (get_or bytes 5 0) (get_or bytes 6 0) (get_or bytes 7 0))
unfolding item_of
item_header [] at is = absurd (omega arith)
item_header (a ∷ []) at is = absurd (omega arith)
item_header (a ∷ b ∷ []) at is = absurd (omega arith)
item_header (a ∷ b ∷ c ∷ []) at is = absurd (omega arith)
item_header (a ∷ b ∷ c ∷ d ∷ []) at is = absurd (omega arith)
item_header (a ∷ b ∷ c ∷ d ∷ e ∷ []) at is = absurd (omega arith)
item_header (a ∷ b ∷ c ∷ d ∷ e ∷ f ∷ []) at is = absurd (omega arith)
item_header (a ∷ b ∷ c ∷ d ∷ e ∷ f ∷ g ∷ []) at is = absurd (omega arith)
item_header (a ∷ b ∷ c ∷ d ∷ e ∷ f ∷ g ∷ h ∷ rest) at is = rw is refl

-- a SASL frame
pub item_sasl : (bytes : List ℕ) → 8 ≤ length bytes → begins_header (get_or bytes 0 0) (get_or bytes 1 0) (get_or bytes 2 0) (get_or bytes 3 0) ≡ false → get_or bytes 5 0 ≡ 1
    → item_of bytes ≡ frame true 0 (drop (4 * get_or bytes 4 0) bytes)
unfolding item_of
item_sasl [] at is kind = absurd (omega arith)
item_sasl (a ∷ []) at is kind = absurd (omega arith)
item_sasl (a ∷ b ∷ []) at is kind = absurd (omega arith)
item_sasl (a ∷ b ∷ c ∷ []) at is kind = absurd (omega arith)
item_sasl (a ∷ b ∷ c ∷ d ∷ []) at is kind = absurd (omega arith)
item_sasl (a ∷ b ∷ c ∷ d ∷ e ∷ []) at is kind = absurd (omega arith)
item_sasl (a ∷ b ∷ c ∷ d ∷ e ∷ f ∷ []) at is kind = absurd (omega arith)
item_sasl (a ∷ b ∷ c ∷ d ∷ e ∷ f ∷ g ∷ []) at is kind = absurd (omega arith)
item_sasl (a ∷ b ∷ c ∷ d ∷ e ∷ f ∷ g ∷ h ∷ rest) at is kind = rw (is, kind) refl

-- another frame
pub item_frame : (bytes : List ℕ) → 8 ≤ length bytes → begins_header (get_or bytes 0 0) (get_or bytes 1 0) (get_or bytes 2 0) (get_or bytes 3 0) ≡ false → get_or bytes 5 0 ≢ 1
    → item_of bytes ≡ frame false (get_or bytes 6 0 * 256 + get_or bytes 7 0) (drop (4 * get_or bytes 4 0) bytes)
unfolding item_of
item_frame [] at is kind = absurd (omega arith)
item_frame (a ∷ []) at is kind = absurd (omega arith)
item_frame (a ∷ b ∷ []) at is kind = absurd (omega arith)
item_frame (a ∷ b ∷ c ∷ []) at is kind = absurd (omega arith)
item_frame (a ∷ b ∷ c ∷ d ∷ []) at is kind = absurd (omega arith)
item_frame (a ∷ b ∷ c ∷ d ∷ e ∷ []) at is kind = absurd (omega arith)
item_frame (a ∷ b ∷ c ∷ d ∷ e ∷ f ∷ []) at is kind = absurd (omega arith)
item_frame (a ∷ b ∷ c ∷ d ∷ e ∷ f ∷ g ∷ []) at is kind = absurd (omega arith)
item_frame (a ∷ b ∷ c ∷ d ∷ e ∷ f ∷ g ∷ h ∷ rest) at is kind = rw (is, ne_eqb f 1 kind) refl
