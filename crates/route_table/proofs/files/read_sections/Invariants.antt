use Rattle.std.proofs.Common.{◌≡◌, ◌+◌, ◌≤◌, length, [], None}
use Rattle.std.specs.Str.{IsUtf8}
use Rattle.route_table.specs.Lines.{forms}
use Rattle.route_table.proofs.Runs.{run}
use Rattle.route_table.proofs.files.read_sections.Given as goal

abbrev pub invariant-loop-rest : goal.invariant-loop-rest
invariant-loop-rest l = record {
  is_text : IsUtf8 l.rest;
  numbered : l.number + length l.rest ≤ length l.text;
  same : run l.number l.current l.ended.items (forms l.rest) ≡ run 0 None [] (forms l.text);
}

abbrev pub decreases-loop-rest : goal.decreases-loop-rest
decreases-loop-rest l = length l.rest
