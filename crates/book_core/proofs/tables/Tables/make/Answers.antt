use Rattle.std.proofs.Common.{ap, Some}
use Rattle.book_core.proofs.Steps.{terminus_comes}
use Rattle.book_core.proofs.tables.Tables.make.Goals as goal

pub returns-clause-shows : goal.returns-clause-shows
returns-clause-shows c b s applies =
    terminus_comes c.args.self.now c.set_key.new.keys c.add.new.self c.in-Some.next c.in-Some-checked_add.termini b _ c.args.terminus.now s (ap Some c.in_ok-made.ensures) (λ i. c.args.terminus.now.number.0) applies c.in-Some.ensures.1 c.in-Some-checked_add.ensures.1 c.in_ok-add.ensures.ok c.in_ok-set_key.ensures.set
