use Rattle.disk_core.specs.DiskLaws.{widened}
use Rattle.disk_core.specs.Twin.{Contents}
use Rattle.twin_journal.specs.Holding.{TwinHolds}
use Rattle.twin_journal.proofs.Renewed.{fill_leaves}
use Rattle.twin_journal.proofs.renew.fill_idle.Goals as goal

pub returns-clause-any_moment : goal.returns-clause-any_moment
returns-clause-any_moment g c stamp start bs shut at =
    let T = g.T.Twin in
    widened T.moment T.left_since c.args.twin.now c.refill.new.twin _ (λ (d : Contents). TwinHolds d c.args.figures.base start bs) (c.refill.ensures.moments at.durable)
    (fill_leaves c.args.figures (T.seen c.args.twin.now) (T.may_leave c.args.twin.now) stamp start bs at c.other.result c.other.ensures shut)
