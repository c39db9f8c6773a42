-- Delivery-tags of unsettled maps (AMQP 1.0 part 2, section 2.7.3).
use Rattle.std.specs.Prelude.{ℕ, Bool, not, List, [], map, filter, bytes_eq, Option, Some, None}
use Rattle.std.specs.List.{list_any}
use Rattle.arrayvec.specs.ArrayVec.{ArrayVec}
use Rattle.amqp_model.specs.declared.state.UnsettledDelivery.{UnsettledDelivery}

-- those of a map; a null map has none
abbrev pub tags_of : Option (List UnsettledDelivery) → List (ArrayVec ℕ)
tags_of None = []
tags_of (Some entries) = map (λ d. d.tag) entries

-- whether a tag is among these
abbrev pub is_tag : List ℕ → ArrayVec ℕ → Bool
is_tag tag own = bytes_eq own.items tag

abbrev pub has_tag : List (ArrayVec ℕ) → List ℕ → Bool
has_tag tags tag = list_any (is_tag tag) tags

-- those that another list has too
abbrev pub common : List (ArrayVec ℕ) → List (ArrayVec ℕ) → List (ArrayVec ℕ)
common others tags = filter (λ own. has_tag others own.items) tags

-- those but for one
abbrev pub without_tag : List ℕ → List (ArrayVec ℕ) → List (ArrayVec ℕ)
without_tag tag tags = filter (λ own. not (is_tag tag own)) tags
