-- One direction of a routed link: what came, what went out, and what is held.
use Rattle.std.specs.Prelude.{◌≡◌, ℕ, List, [], ◌∷◌, ◌++◌, filter}
use Rattle.route_links.specs.declared.middle.Middle.{Middle}
use Rattle.route_links.specs.declared.middle.Middle.TheVariants.{Between}
use Rattle.route_links.specs.declared.passing.Passing.{Passing}
use Rattle.route_links.specs.Parts.{Part, parts, parts_of, after, middle, is_detach}

-- the handle on which it goes out, the delivery in the middle on each end, and what is held, in the order in which it came
pub record Held : Type 0 where
  pub handle : ℕ
  pub came : Middle
  pub went : Middle
  pub queue : List Passing

-- What went out, and then what is held, is what came in.
pub record Mirrors (leg : Held) (came went : List Part) : Type 0 where
  pub whole : came ≡ went ++ parts_of leg.went leg.queue
  pub came_middle : leg.came ≡ middle came
  pub went_middle : leg.went ≡ middle went

-- a leg on which nothing came
abbrev pub new_leg : ℕ → Held
new_leg handle = record { handle = handle; came = Between; went = Between; queue = [] }

-- one on which one more frame came
abbrev pub forwarded : Passing → Held → Held
forwarded f leg = record leg { came = after leg.came (parts leg.came f); queue = leg.queue ++ f ∷ [] }

-- one of which all that was held is dropped, but for detaches
abbrev pub dropped : Held → Held
dropped leg = record leg { came = leg.went; queue = filter is_detach leg.queue }
