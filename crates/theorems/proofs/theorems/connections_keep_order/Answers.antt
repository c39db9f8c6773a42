use Rattle.theorems.specs.Order.{KeepsOrder}
use Rattle.theorems.proofs.Always.{holds_in_one_run}
use Rattle.theorems.proofs.Headed.{trace_keeps_order}
use Rattle.theorems.proofs.theorems.connections_keep_order.Goals as goal

pub returns : goal.returns
returns c = holds_in_one_run KeepsOrder trace_keeps_order
