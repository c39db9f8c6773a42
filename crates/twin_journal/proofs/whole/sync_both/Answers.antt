use Rattle.disk_core.specs.declared.side.Side.TheVariants.{First, Second}
use Rattle.twin_journal.proofs.Moments.{on_ok, synced}
use Rattle.twin_journal.proofs.whole.sync_both.Goals as goal

pub returns-clause-durable : goal.returns-clause-durable
returns-clause-durable g c =
    let T = g.T.Twin in
    on_ok c.sync-2.result
    (synced Second (T.seen c.sync-2.new.self) (T.may_leave c.sync.new.self) (T.may_leave c.sync.new.self) (T.may_leave c.sync-2.new.self) (T.seen c.sync.new.self First)
    c.sync-2.ensures.other c.in_ok-sync.ensures.durable (λ file left. left) c.sync-2.ensures.crash)
    c.sync-2.ensures.durable
