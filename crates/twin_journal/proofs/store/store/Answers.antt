use Rattle.std.proofs.Common.{◌⊎◌, inl, ◌++◌}
use Rattle.disk_core.specs.DiskLaws.{widened, joined}
use Rattle.disk_core.specs.Twin.{Contents}
use Rattle.twin_journal.specs.Holding.{TwinHolds}
use Rattle.twin_journal.proofs.Moments.{on_both}
use Rattle.twin_journal.proofs.Stored.{block_leaves, gate_leaves, group_stored}
use Rattle.twin_journal.proofs.store.store.Goals as goal

pub returns-in_err-put-clause-any_moment : goal.returns-in_err-put-clause-any_moment
returns-in_err-put-clause-any_moment g c stamp start bs lists at is_fill apply =
    let T = g.T.Twin in
    let figures = c.args.figures in
    let moments = rw c.in-Some.ensures.1 at (c.put.ensures.moments at.durable) in
    widened T.moment T.left_since c.args.twin.now c.put.new.twin _ (λ (d : Contents). TwinHolds d figures.base start bs ⊎ TwinHolds d figures.base start (bs ++ lists)) moments
    (λ d left. inl (block_leaves figures (T.seen c.args.twin.now) (T.may_leave c.args.twin.now) stamp start bs at lists c.args.fill.now is_fill apply d left))

pub returns-clause-any_moment : goal.returns-clause-any_moment
returns-clause-any_moment g c stamp start bs lists at is_fill apply =
    let T = g.T.Twin in
    let figures = c.args.figures in
    let P = λ (d : Contents). TwinHolds d figures.base start bs ⊎ TwinHolds d figures.base start (bs ++ lists) in
    let moments = rw c.in-Some.ensures.1 at (c.put.ensures.moments at.durable) in
    let written = rw c.in-Some.ensures.1 at c.in_ok-put.ensures.written in
    joined T.moment T.left_since c.args.twin.now c.put.new.twin c.put-2.new.twin P
    (widened T.moment T.left_since c.args.twin.now c.put.new.twin _ P moments
    (λ d left. inl (block_leaves figures (T.seen c.args.twin.now) (T.may_leave c.args.twin.now) stamp start bs at lists c.args.fill.now is_fill apply d left)))
    (widened T.moment T.left_since c.put.new.twin c.put-2.new.twin _ P (c.put-2.ensures.moments (c.in_ok-put.ensures.durable at.durable))
    (gate_leaves figures (T.seen c.args.twin.now) (T.may_leave c.args.twin.now) stamp start bs at lists c.args.fill.now is_fill apply (T.seen c.put.new.twin) written c.put.ensures.other))

pub returns-clause-done : goal.returns-clause-done
returns-clause-done g c =
    let T = g.T.Twin in
    on_both c.put-2.result
    (λ gated durable stamp start bs lists at is_fill apply.
    let written = rw c.in-Some.ensures.1 at c.in_ok-put.ensures.written in
    group_stored c.args.figures (T.seen c.args.twin.now) (T.may_leave c.args.twin.now) stamp start bs at lists c.args.fill.now is_fill apply (T.seen c.put.new.twin) written c.put.ensures.other
    (T.seen c.put-2.new.twin) (T.may_leave c.put-2.new.twin) gated c.put-2.ensures.other (durable (c.in_ok-put.ensures.durable at.durable)))
    c.put-2.ensures.written c.put-2.ensures.durable
