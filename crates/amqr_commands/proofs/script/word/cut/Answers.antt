use Rattle.amqr_commands.proofs.Cuts.{cut_none, cut_some}
use Rattle.amqr_commands.proofs.script.word.cut.Goals as goal

pub returns-in-None : goal.returns-in-None
returns-in-None c = cut_none c.args.mark c.args.text.now c.requires (rw c.in-None.is at c.split_once.ensures.cases)

pub returns-in-Some : goal.returns-in-Some
returns-in-Some c = cut_some c.args.mark c.args.text.now (c.in-Some.first, c.in-Some.behind) c.requires (rw c.in-Some.is at c.split_once.ensures.cases)
