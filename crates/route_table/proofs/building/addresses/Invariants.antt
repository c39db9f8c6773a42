use Rattle.std.proofs.Common.{◌≡◌, take}
use Rattle.route_table.specs.Said.{sections_of, address_of}
use Rattle.route_table.specs.declared.attributes.SectionKind.TheVariants as kinds
use Rattle.route_table.proofs.building.addresses.Given as goal

abbrev pub invariant-loop-section : goal.invariant-loop-section
invariant-loop-section l = l.found.items ≡ sections_of kinds.Address address_of (take l.section-index l.sections)
