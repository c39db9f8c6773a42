use Rattle.book_core.proofs.Counted.{indexed_same}
use Rattle.book_core.proofs.row_index.RowIndex.commit.Goals as goal

pub returns-clause-indexed : goal.returns-clause-indexed
returns-clause-indexed c rs s =
    indexed_same c.args.self.now (record { names = c.commit.new.self; from = c.commit-2.new.self; unforgotten = c.commit-3.new.self; waiting = c.commit-4.new.self }) rs s c.commit.ensures.same c.commit-2.ensures.same c.commit-3.ensures.same c.commit-4.ensures.same
