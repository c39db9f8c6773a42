use Rattle.disk_core.proofs.Orders.{writes, write_and_cut, cut_and_write}
use Rattle.disk_core.proofs.laws.order_is_nothing.Goals as goal

pub returns-clause-writes : goal.returns-clause-writes
returns-clause-writes c = writes

pub returns-clause-write_and_cut : goal.returns-clause-write_and_cut
returns-clause-write_and_cut c = write_and_cut

pub returns-clause-cut_and_write : goal.returns-clause-cut_and_write
returns-clause-cut_and_write c = cut_and_write
