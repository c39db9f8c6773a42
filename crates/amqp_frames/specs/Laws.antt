-- What holds of every stream.
use Rattle.std.specs.Prelude.{◌≡◌, ℕ, Bool, false, List, [], ◌∷◌, ◌++◌, flat_map}
use Rattle.amqp_model.specs.declared.item.Item.{Item}
use Rattle.amqp_frames.specs.Cuts.{Cuts}

-- each stream has a cut, and no other
abbrev pub HasOneCut : List ℕ → Type 0
HasOneCut stream = ((ended : Bool) × (items : List Item) × (rest : List ℕ) × Cuts ended stream items rest)
    × ((ended closed : Bool) (items others : List Item) (rest left : List ℕ) → Cuts ended stream items rest → Cuts closed stream others left → (ended ≡ closed) × (items ≡ others) × (rest ≡ left))

-- Pieces come one after another, after bytes that were kept, and each piece with what was kept before it is cut. These are
-- all items that were given, whether the last of them ended the stream, and what is kept at the end.
abbrev pub Feeds : List ℕ → List (List ℕ) → List Item → Bool → List ℕ → Type 0
Feeds kept [] items ended rest = (items ≡ []) × (ended ≡ false) × (kept ≡ rest)
Feeds kept (piece ∷ []) items ended rest = Cuts ended (kept ++ piece) items rest
Feeds kept (piece ∷ next ∷ pieces) items ended rest = (given : List Item) × (others : List Item) × (mid : List ℕ) × (items ≡ given ++ others) × Cuts false (kept ++ piece) given mid × Feeds mid (next ∷ pieces) others ended rest

-- the pieces of a stream, joined
abbrev pub joined : List (List ℕ) → List ℕ
joined pieces = flat_map (λ piece. piece) pieces
