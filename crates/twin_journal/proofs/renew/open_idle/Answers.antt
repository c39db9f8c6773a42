use Rattle.std.proofs.Common.{◌⊎◌, []}
use Rattle.disk_core.specs.DiskLaws.{widened}
use Rattle.disk_core.specs.Twin.{Contents}
use Rattle.twin_journal.specs.Holding.{TwinHolds}
use Rattle.twin_journal.proofs.Moments.{on_both}
use Rattle.twin_journal.proofs.Renewed.{open_leaves, open_done}
use Rattle.twin_journal.proofs.renew.open_idle.Goals as goal

pub returns-clause-any_moment : goal.returns-clause-any_moment
returns-clause-any_moment g c stamp renewed start book bs next at is filled =
    let T = g.T.Twin in
    widened T.moment T.left_since c.args.twin.now c.put.new.twin _ (λ (d : Contents). TwinHolds d c.args.figures.base start bs ⊎ TwinHolds d c.args.figures.last book []) (c.put.ensures.moments at.durable)
    (open_leaves c.args.figures (T.seen c.args.twin.now) (T.may_leave c.args.twin.now) stamp start bs at c.other.result c.other.ensures next renewed book is filled)

pub returns-clause-done : goal.returns-clause-done
returns-clause-done g c =
    let T = g.T.Twin in
    on_both c.put.result
    (λ written durable stamp renewed start book bs next at is filled.
    open_done c.args.figures (T.seen c.args.twin.now) (T.may_leave c.args.twin.now) stamp start bs at c.other.result c.other.ensures next renewed book is filled
    (T.seen c.put.new.twin) (T.may_leave c.put.new.twin) written c.put.ensures.other (durable at.durable))
    c.put.ensures.written c.put.ensures.durable
