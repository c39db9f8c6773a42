-- The order of items on a connection (AMQP 1.0 part 2, sections 2.2, 2.4 and 2.5).
use Rattle.std.specs.Prelude.{◌≡◌, ℕ, Bool, true, false, List, [], ◌∷◌}
use Rattle.amqp_model.specs.declared.item.Item.{Item}
use Rattle.amqp_model.specs.declared.item.Item.TheVariants as item
use Rattle.router_trace.specs.Trace.{Trace}
use Rattle.router_trace.specs.Order.{unwritten, have_turns}
use Rattle.router_core.specs.Moves.{ins, outs}
use Rattle.router_trace.specs.Frames.{header_item}

-- the first item is a header, of any version
abbrev pub is_header : Item → Bool
is_header (item.Header id major minor revision) = true
is_header _ = false

abbrev pub begins_with_header : List Item → Bool
begins_with_header [] = false
begins_with_header (i ∷ is) = is_header i

-- the router's header comes first
abbrev pub HeaderFirst : List Item → Type 0
HeaderFirst [] = ⊥
HeaderFirst (i ∷ is) = i ≡ header_item

-- nothing comes before the router's header
abbrev pub NothingBeforeHeader : List Item → Type 0
NothingBeforeHeader [] = Unit {0}
NothingBeforeHeader (i ∷ is) = i ≡ header_item

-- the order in which items are written on each connection
pub record KeepsOrder (t : Trace) : Type 0 where
  -- at most one header, one open and one close, a close never without an open before it, and nothing after the close;
  -- heartbeats and frames of sessions between open and close; on each channel begin and end in turn, and frames only
  -- between them
  pub turns : (c : ℕ) → have_turns unwritten (outs t c) ≡ true
  -- if a header is received first, the router's header is written, and first
  pub header : (c : ℕ) → begins_with_header (ins t c) ≡ true → HeaderFirst (outs t c)
  -- if nothing is received, nothing is written
  pub silent : (c : ℕ) → ins t c ≡ [] → outs t c ≡ []

-- on each connection the router writes its header first, or nothing
abbrev pub BeginsWithHeaders : Trace → Type 0
BeginsWithHeaders t = (c : ℕ) → NothingBeforeHeader (outs t c)
