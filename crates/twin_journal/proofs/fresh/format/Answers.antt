use Rattle.std.proofs.Common.{[], sym, subst}
use Rattle.disk_core.specs.declared.side.Side.TheVariants.{First, Second}
use Rattle.disk_core.specs.Twin.{Contents}
use Rattle.book_model.specs.Book.{empty_book}
use Rattle.twin_journal.specs.Holding.{TwinHolds}
use Rattle.twin_journal.proofs.Beginnings.{fresh_both, fresh_holds_none}
use Rattle.twin_journal.proofs.Moments.{on_ok, synced}
use Rattle.twin_journal.proofs.fresh.format.Goals as goal

pub returns-clause-formatted : goal.returns-clause-formatted
returns-clause-formatted g c =
    let T = g.T.Twin in
    on_ok c.refill-2.result (λ first. fresh_both (T.seen c.refill-2.new.twin) (T.seen c.refill.new.twin) first c.refill-2.ensures.other c.in_ok-refill.ensures.written) c.refill-2.ensures.written

pub returns-clause-durable : goal.returns-clause-durable
returns-clause-durable g c =
    let T = g.T.Twin in
    on_ok c.refill-2.result
    (synced First (T.seen c.refill-2.new.twin) (T.may_leave c.refill.new.twin) (T.may_leave c.refill-2.new.twin) (T.may_leave c.refill-2.new.twin) (T.seen c.refill.new.twin Second)
    c.refill-2.ensures.other c.in_ok-refill.ensures.pinned c.refill-2.ensures.other_crash (λ c left. left))
    c.refill-2.ensures.pinned

pub returns-clause-empty : goal.returns-clause-empty
returns-clause-empty g c =
    let T = g.T.Twin in
    let P : Contents → Type 0 = λ d. TwinHolds d 0 empty_book [] in
    on_ok c.refill-2.result
    (λ first.
    subst P (sym (fresh_both (T.seen c.refill-2.new.twin) (T.seen c.refill.new.twin) first c.refill-2.ensures.other c.in_ok-refill.ensures.written)) fresh_holds_none)
    c.refill-2.ensures.written
