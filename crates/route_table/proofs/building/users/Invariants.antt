use Rattle.std.proofs.Common.{◌≡◌, take}
use Rattle.route_table.specs.Said.{sections_of, user_of}
use Rattle.route_table.specs.declared.attributes.SectionKind.TheVariants as kinds
use Rattle.route_table.proofs.building.users.Given as goal

abbrev pub invariant-loop-section : goal.invariant-loop-section
invariant-loop-section l = l.found.items ≡ sections_of kinds.User user_of (take l.section-index l.sections)
