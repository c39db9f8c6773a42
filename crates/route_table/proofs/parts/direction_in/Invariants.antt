use Rattle.std.proofs.Common.{◌≡◌, length}
use Rattle.std.specs.Str.{IsUtf8}
use Rattle.route_table.specs.File.{direction_below}
use Rattle.route_table.specs.Lines.{forms}
use Rattle.route_table.proofs.parts.direction_in.Given as goal

abbrev pub invariant-loop-rest : goal.invariant-loop-rest
invariant-loop-rest l = record { is_text : IsUtf8 l.rest; same : direction_below (forms l.rest) ≡ direction_below (forms l.text) }

abbrev pub decreases-loop-rest : goal.decreases-loop-rest
decreases-loop-rest l = length l.rest
