use Rattle.std.proofs.Common.{◌≡◌, drop, map}
use Rattle.route_table.specs.Values.{mechanisms_named, mechanisms_of}
use Rattle.route_table.proofs.Numbers.{behind, words_in}
use Rattle.route_table.proofs.values.mechanisms.Given as goal

abbrev pub invariant-loop-part : goal.invariant-loop-part
invariant-loop-part l = behind l.found.items (mechanisms_named (words_in (drop l.part-index (map (λ part. part.now) l.part-items)))) ≡ mechanisms_of l.value
