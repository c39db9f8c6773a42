-- Which bytes encode an item, and which a stream of them (AMQP 1.0 part 2, sections 2.2 and 2.3.1; part 5, section 5.3.1).
use Rattle.std.specs.Prelude.{◌≡◌, ℕ, ◌+◌, ◌*◌, ◌<◌, ◌≤◌, ◌⊎◌, Bool, true, false, if◌then◌else◌, List, [], ◌∷◌, ◌++◌, length, drop, Ok}
use Rattle.std.specs.Int.{w16, w32, from_be_bytes}
use Rattle.amqp_perf.specs.Performative.{performative}
use Rattle.amqp_model.specs.declared.item.Item.{Item}
use Rattle.amqp_model.specs.declared.item.Item.TheVariants as item
use Rattle.amqp_frames.specs.Frames.{may_carry}

-- the bytes of a frame of this type, on this channel and with this body
pub record IsFrame (sasl : Bool) (channel : ℕ) (body text : List ℕ) : Type 0 where
  pub size : List ℕ
  pub offset : ℕ
  pub numbered : List ℕ
  pub extended : List ℕ
  pub spelt : text ≡ size ++ (offset ∷ (if sasl then 1 else 0) ∷ []) ++ numbered ++ extended ++ body
  -- the size has four bytes and counts all
  pub size_field : length size ≡ 4
  pub counts : from_be_bytes w32 size ≡ length text
  -- the data offset counts words of four bytes before the body
  pub words : 4 * offset ≡ 8 + length extended
  -- the channel has two bytes, which have no meaning in a SASL frame
  pub channel_field : length numbered ≡ 2
  pub numbers : channel ≡ (if sasl then 0 else from_be_bytes w16 numbered)
  pub within : length text ≤ (if sasl then 512 else 16384)

-- these bytes encode this item
abbrev pub SpellsItem : List ℕ → Item → Type 0
SpellsItem text (item.Header id major minor revision) = text ≡ 65 ∷ 77 ∷ 81 ∷ 80 ∷ id ∷ major ∷ minor ∷ revision ∷ []
SpellsItem text (item.Frame sasl channel p payload) = (body : List ℕ) × (at : ℕ) × IsFrame sasl channel body text × (performative body ≡ Ok (p, at))
    × (payload ≡ drop at body) × ((sasl ≡ true) ⊎ (0 < length body)) × ((may_carry p ≡ true) ⊎ (payload ≡ []))
SpellsItem text (item.Beat channel) = IsFrame false channel [] text
SpellsItem text (item.Bad f) = ⊥

-- the stream is the encodings of these items in order, and then this rest
abbrev pub IsSpelt : List ℕ → List Item → List ℕ → Type 0
IsSpelt stream [] rest = stream ≡ rest
IsSpelt stream (x ∷ xs) rest = (text : List ℕ) × (behind : List ℕ) × (stream ≡ text ++ behind) × SpellsItem text x × IsSpelt behind xs rest
