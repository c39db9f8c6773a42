-- The items that a reader finds again after they were written.
use Rattle.std.specs.Prelude.{◌≡◌, ℕ, ◌+◌, ◌^◌, ◌<◌, ◌≤◌, ◌⊎◌, Bool, true, if◌then◌else◌, List, [], ◌++◌, length}
use Rattle.amqp_model.specs.declared.perf.Perf.{Perf}
use Rattle.amqp_perf.specs.Fitting.{Fits}
use Rattle.amqp_model.specs.PerfSpelling.{spelling}
use Rattle.amqp_model.specs.declared.item.Item.{Item}
use Rattle.amqp_model.specs.declared.item.Item.TheVariants as item
use Rattle.amqp_frames.specs.Frames.{may_carry}

-- a frame that can be written so that it is read again
pub record IsFrameWithin (sasl : Bool) (channel : ℕ) (p : Perf) (payload : List ℕ) : Type 0 where
  -- its numbers, texts and sizes are within the limits of their types
  pub fits : Fits p
  -- only a transfer has a payload
  pub carried : (may_carry p ≡ true) ⊎ (payload ≡ [])
  -- a channel has two bytes, and a SASL frame has none
  pub channel_field : channel < 2 ^ 16
  pub sasl_channel : sasl ≡ true → channel ≡ 0
  pub size : 8 + length (spelling p ++ payload) ≤ (if sasl then 512 else 16384)

abbrev pub IsWithin : Item → Type 0
IsWithin (item.Header id major minor revision) = Unit {0}
IsWithin (item.Frame sasl channel p payload) = IsFrameWithin sasl channel p payload
IsWithin (item.Beat channel) = channel < 2 ^ 16
IsWithin (item.Bad f) = ⊥
