-- The blanks from which the ledgers of a router are made.
use Rattle.std.specs.Prelude.{◌≡◌, ℕ}
use Rattle.book_model.specs.Book.{empty_book}
use Rattle.router_trace.specs.Trace.{Beginning}
use Rattle.router_trace.specs.Configuration.{no_routing}
use Rattle.serve_lock.specs.declared.ledgers.Blanks.{Blanks}

-- six blanks for ledgers of these names, each with so many parts
pub record AreOf (up item down tick start batch parts : ℕ) (blanks : Blanks) : Type 0 where
  pub ups : (blanks.ups.name ≡ up) × (blanks.ups.parts ≡ parts)
  pub items : (blanks.items.name ≡ item) × (blanks.items.parts ≡ parts)
  pub downs : (blanks.downs.name ≡ down) × (blanks.downs.parts ≡ parts)
  pub ticks : (blanks.ticks.name ≡ tick) × (blanks.ticks.parts ≡ parts)
  pub starts : (blanks.starts.name ≡ start) × (blanks.starts.parts ≡ parts)
  pub batches : (blanks.batches.name ≡ batch) × (blanks.batches.parts ≡ parts)

-- an opening for names that a call has yet to pick
abbrev pub unnamed : Beginning
unnamed = record { routing = no_routing; book = empty_book; batches = 0 }
