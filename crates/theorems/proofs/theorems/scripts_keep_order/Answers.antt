use Rattle.theorems.specs.Order.{KeepsOrder}
use Rattle.theorems.proofs.Always.{holds_in_scripts}
use Rattle.theorems.proofs.Headed.{trace_keeps_order}
use Rattle.theorems.proofs.AtDoor.{header_opens}
use Rattle.theorems.proofs.theorems.scripts_keep_order.Goals as goal

pub returns : goal.returns
returns c = (holds_in_scripts KeepsOrder trace_keeps_order, header_opens)
