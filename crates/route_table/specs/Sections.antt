-- Directions of link routes.
use Rattle.std.specs.Prelude.{Bool, true, false}
use Rattle.route_table.specs.declared.sections.Direction.{Direction}
use Rattle.route_table.specs.declared.sections.Direction.TheVariants.{In, Out}

-- the two are one direction
abbrev pub is_direction : Direction → Direction → Bool
is_direction In In = true
is_direction In Out = false
is_direction Out In = false
is_direction Out Out = true
