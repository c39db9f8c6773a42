-- The lists that are written in a short way.
use Rattle.std.specs.Prelude.{◌≡◌, ℕ, ◌+◌, false, List, [], ◌∷◌, length, Some, None}
use Rattle.arrayvec.specs.ArrayVec.{ArrayVec}
use Rattle.amqp_model.specs.Data as d
use Rattle.amqp_model.specs.declared.perf.Transfer.{Transfer}
use Rattle.amqp_model.specs.Texts.{FieldText, joined, spelt}

-- a described list whose size and count have one byte each, by the number of its descriptor, its count and the bytes of its fields
abbrev pub short_list : ℕ → ℕ → List ℕ → List ℕ
short_list code count inside = 0x00 ∷ 0x53 ∷ code ∷ 0xc0 ∷ (length inside + 1) ∷ count ∷ inside

-- a transfer's first four fields
abbrev pub firsts : Transfer → ℕ → ArrayVec ℕ → ℕ → List FieldText
firsts x id tag format = spelt (d.uint x.handle) ∷ spelt (d.uint id) ∷ spelt (d.binary tag.items) ∷ spelt (d.uint format) ∷ []

-- a transfer that has its first four fields, which are these bytes, and none behind its flags for settled and for more
pub record BeginsDelivery (x : Transfer) (inside : List ℕ) : Type 0 where
  pub id : ℕ
  pub tag : ArrayVec ℕ
  pub format : ℕ
  pub delivery_id : x.delivery_id ≡ Some id
  pub delivery_tag : x.delivery_tag ≡ Some tag
  pub message_format : x.message_format ≡ Some format
  pub mode : x.rcv_settle_mode ≡ None
  pub state : x.state ≡ None
  pub resume : x.resume ≡ false
  pub aborted : x.aborted ≡ false
  pub batchable : x.batchable ≡ false
  pub fields : inside ≡ joined (firsts x id tag format)
