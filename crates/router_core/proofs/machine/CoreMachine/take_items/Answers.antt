use Rattle.router_core.proofs.Machines.{if_ok, keeps_on, on_err}
use Rattle.router_core.proofs.machine.CoreMachine.take_items.Goals as goal

pub returns-clause-keeps : goal.returns-clause-keeps
returns-clause-keeps g c =
    if_ok c.take_out.result _ (λ taken t keeps. keeps_on g.T.Twin.seen g.T.Twin.may_leave c.args.self.now c.take_out.new.self _ c.take_out.ensures.store keeps)

pub returns-clause-still : goal.returns-clause-still
returns-clause-still g c = on_err c.take_out.result _ (λ b keeps. keeps_on g.T.Twin.seen g.T.Twin.may_leave c.args.self.now c.take_out.new.self b c.take_out.ensures.store keeps)
