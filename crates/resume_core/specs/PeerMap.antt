-- The index of a peer's map by its tags.
use Rattle.std.specs.Prelude.{◌≡◌, ℕ, Option, List}
use Rattle.std.specs.List.{position_from}
use Rattle.std.specs.Ordering.{nat_cmp}
use Rattle.std.specs.Cmp.Lexicographic.{slice_cmp}
use Rattle.std.specs.BTreeMap.{BTreeMap, get}
use Rattle.arrayvec.specs.ArrayVec.{ArrayVec}
use Rattle.amqp_model.specs.declared.state.UnsettledDelivery.{UnsettledDelivery}
use Rattle.book_model.specs.Book.{same_bytes}

-- the place of the first entry with a tag
abbrev pub place_of : List UnsettledDelivery → List ℕ → Option ℕ
place_of entries tag = position_from (λ d. same_bytes d.tag.items tag) 0 entries

-- each tag has the place of its entry
abbrev pub IsIndex : BTreeMap (ArrayVec ℕ) ℕ → List UnsettledDelivery → Type 0
IsIndex places entries = (tag : ArrayVec ℕ) → get (λ v w. slice_cmp nat_cmp v.items w.items) places tag ≡ place_of entries tag.items
