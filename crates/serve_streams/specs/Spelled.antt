-- The bytes of items.
use Rattle.std.specs.Prelude.{ℕ, List, [], ◌∷◌, ◌++◌}
use Rattle.amqp_model.specs.declared.item.Item.{Item}
use Rattle.amqp_model.specs.ItemSpelling.{item_spelling}

-- the canonical encodings of items, one after another
abbrev pub spelled : List Item → List ℕ
spelled [] = []
spelled (i ∷ is) = item_spelling i ++ spelled is
