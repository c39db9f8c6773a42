use Rattle.std.proofs.Common.{take}
use Rattle.route_table.specs.Places.{route_pairs}
use Rattle.route_table.specs.Prefixes.{FindSame}
use Rattle.route_table.proofs.tables.routes_of.Given as goal

abbrev pub invariant-loop-section : goal.invariant-loop-section
invariant-loop-section l = FindSame l.prefixes (route_pairs l.direction (take l.section-index l.sections))
