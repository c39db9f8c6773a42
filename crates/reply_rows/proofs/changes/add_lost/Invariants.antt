use Rattle.std.proofs.Common.{◌≡◌, ◌++◌, drop}
use Rattle.std.specs.Prelude.{map}
use Rattle.reply_rows.specs.Deciding.{lost}
use Rattle.reply_rows.proofs.changes.add_lost.Given as goal

-- those added so far, then those of the rest, are all
abbrev pub invariant-loop-conn : goal.invariant-loop-conn
invariant-loop-conn l = l.changes.items ++ map lost (drop l.conn-index l.ends) ≡ l.fn.changes.items ++ map lost l.ends
