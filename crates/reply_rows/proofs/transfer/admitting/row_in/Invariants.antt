use Rattle.std.proofs.Common.{◌≡◌, drop}
use Rattle.reply_rows.specs.Admitting.{row_in}
use Rattle.reply_rows.proofs.transfer.admitting.row_in.Given as goal

-- the acts so far admit nothing
abbrev pub invariant-loop-act : goal.invariant-loop-act
invariant-loop-act l = row_in (drop l.act-index l.acts) ≡ row_in l.acts
