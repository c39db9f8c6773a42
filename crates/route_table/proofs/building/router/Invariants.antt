use Rattle.std.proofs.Common.{◌≡◌, drop}
use Rattle.std.specs.List.{find}
use Rattle.route_table.specs.Values.{is_kind}
use Rattle.route_table.specs.declared.attributes.SectionKind.TheVariants as kinds
use Rattle.route_table.proofs.building.router.Given as goal

abbrev pub invariant-loop-section : goal.invariant-loop-section
invariant-loop-section l = find (λ s. is_kind s.kind kinds.Router) (drop l.section-index l.sections) ≡ find (λ s. is_kind s.kind kinds.Router) l.sections
