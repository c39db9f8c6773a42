use Rattle.book_core.proofs.Counted.{indexed_admitted}
use Rattle.book_core.proofs.row_index.RowIndex.admit.Goals as goal

pub returns-clause-indexed : goal.returns-clause-indexed
returns-clause-indexed c rs s free =
    indexed_admitted c.args.self.now (record { names = c.set_name.new.names; from = c.add_one.new.counts; unforgotten = c.add_one-2.new.counts; waiting = c.add_one-3.new.counts }) rs s c.args.admission.now free
    c.in_ok-set_name.ensures.set c.in_ok-add_one.ensures.counts c.in_ok-add_one-2.ensures.counts c.in_ok-add_one-3.ensures.counts
