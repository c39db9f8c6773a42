-- How a stream is cut into items: it is their encodings in order, and then a rest.
use Rattle.std.specs.Prelude.{◌≡◌, ℕ, Bool, true, false, List, [], ◌∷◌, ◌++◌}
use Rattle.amqp_model.specs.declared.frame_fault.FrameFault.{FrameFault}
use Rattle.amqp_model.specs.declared.item.Item.{Item}
use Rattle.amqp_model.specs.declared.item.Item.TheVariants as item
use Rattle.amqp_frames.specs.Frames.{front, more, found, wrong}

-- these items follow one another, and then comes the rest
abbrev pub Leads : List ℕ → List Item → List ℕ → Type 0
Leads stream [] rest = stream ≡ rest
Leads stream (x ∷ xs) rest = (after : List ℕ) × (front stream ≡ found x after) × Leads after xs rest

-- the stream is these items and a rest: less than an item, or, after a last item that says so, bytes that begin none
abbrev pub Cuts : Bool → List ℕ → List Item → List ℕ → Type 0
Cuts false stream items rest = Leads stream items rest × (front rest ≡ more)
Cuts true stream items rest = (whole : List Item) × (f : FrameFault) × (items ≡ whole ++ item.Bad f ∷ []) × Leads stream whole rest × (front rest ≡ wrong f)

-- what a reader keeps of a stream: the bytes after the items that it gave, and whether it takes no more
pub record Stream : Type 0 where
  pub rest : List ℕ
  pub failed : Bool
