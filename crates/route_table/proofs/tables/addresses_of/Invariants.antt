use Rattle.std.proofs.Common.{take}
use Rattle.route_table.specs.Places.{address_pairs}
use Rattle.route_table.specs.Prefixes.{FindSame}
use Rattle.route_table.proofs.tables.addresses_of.Given as goal

abbrev pub invariant-loop-section : goal.invariant-loop-section
invariant-loop-section l = FindSame l.prefixes (address_pairs (take l.section-index l.sections))
