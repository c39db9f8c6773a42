use Rattle.disk_core.specs.DiskLaws.{widened}
use Rattle.disk_core.specs.Twin.{Contents}
use Rattle.twin_journal.specs.Holding.{TwinHolds}
use Rattle.twin_journal.proofs.Renewed.{not_not, shut_leaves}
use Rattle.twin_journal.proofs.renew.shut_idle.Goals as goal

pub returns-clause-any_moment : goal.returns-clause-any_moment
returns-clause-any_moment g c stamp start bs at =
    let T = g.T.Twin in
    let older = not_not c.args.figures.idle_open c.if-not-figures.false in
    widened T.moment T.left_since c.args.twin.now c.put.new.twin _ (λ (d : Contents). TwinHolds d c.args.figures.base start bs) (c.put.ensures.moments at.durable)
    (shut_leaves c.args.figures (T.seen c.args.twin.now) (T.may_leave c.args.twin.now) stamp start bs at c.other.result c.other.ensures older)
