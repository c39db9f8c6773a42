-- The canonical encoding of an item (AMQP 1.0 part 2, sections 2.2 and 2.3.1; part 5, section 5.3.1).
use Rattle.std.specs.Prelude.{ℕ, ◌+◌, Bool, false, if◌then◌else◌, List, [], ◌∷◌, ◌++◌, length}
use Rattle.std.specs.Int.{w16, w32, to_be_bytes}
use Rattle.amqp_model.specs.PerfSpelling.{spelling}
use Rattle.amqp_model.specs.declared.item.Item.{Item}
use Rattle.amqp_model.specs.declared.item.Item.TheVariants as item

-- what stands before a body: the size of the whole, a data offset of two words, the type, and the channel, which is 0 for SASL
abbrev pub head_spelling : Bool → ℕ → ℕ → List ℕ
head_spelling sasl channel len =
    to_be_bytes w32 (8 + len) ++ (2 ∷ (if sasl then 1 else 0) ∷ []) ++ to_be_bytes w16 (if sasl then 0 else channel)

abbrev pub frame_spelling : Bool → ℕ → List ℕ → List ℕ
frame_spelling sasl channel body = head_spelling sasl channel (length body) ++ body

-- what is no item has no bytes
unfoldable pub item_spelling : Item → List ℕ
item_spelling (item.Header id major minor revision) = 65 ∷ 77 ∷ 81 ∷ 80 ∷ id ∷ major ∷ minor ∷ revision ∷ []
item_spelling (item.Frame sasl channel perf payload) = frame_spelling sasl channel (spelling perf ++ payload)
item_spelling (item.Beat channel) = frame_spelling false channel []
item_spelling (item.Bad f) = []
