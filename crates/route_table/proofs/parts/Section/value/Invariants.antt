use Rattle.std.proofs.Common.{◌≡◌, drop}
use Rattle.std.specs.List.{find}
use Rattle.route_table.specs.Values.{is_attribute}
use Rattle.route_table.proofs.parts.Section.value.Given as goal

abbrev pub invariant-loop-given : goal.invariant-loop-given
invariant-loop-given l = find (λ g. is_attribute g.0 l.attribute) (drop l.given-index l.given-items) ≡ find (λ g. is_attribute g.0 l.attribute) l.self.values
