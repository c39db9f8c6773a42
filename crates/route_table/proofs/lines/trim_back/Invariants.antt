use Rattle.std.proofs.Common.{◌≡◌, length}
use Rattle.std.specs.Str.{IsUtf8}
use Rattle.route_table.specs.Lines.{trim_back}
use Rattle.route_table.proofs.lines.trim_back.Given as goal

abbrev pub invariant-loop-shorter : goal.invariant-loop-shorter
invariant-loop-shorter l = record { is_text : IsUtf8 l.rest; same : trim_back l.rest ≡ trim_back l.text }

abbrev pub decreases-loop-shorter : goal.decreases-loop-shorter
decreases-loop-shorter l = length l.rest
