use Rattle.std.proofs.Common.{◌≡◌, ◌++◌, drop}
use Rattle.std.specs.Prelude.{map}
use Rattle.reply_rows.specs.Deciding.{as_kept}
use Rattle.reply_rows.proofs.changes.all_kept.Given as goal

-- those made so far, then those of the rest, are all
abbrev pub invariant-loop-decision : goal.invariant-loop-decision
invariant-loop-decision l = l.kept.items ++ map as_kept (drop l.decision-index l.rows) ≡ map as_kept l.rows
