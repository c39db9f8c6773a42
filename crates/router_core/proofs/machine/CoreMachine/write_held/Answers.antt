use Rattle.std.proofs.Common.{◌∙◌}
use Rattle.router_core.proofs.Machines.{leaves_either, on_ok}
use Rattle.router_core.proofs.machine.CoreMachine.write_held.Goals as goal

pub returns-clause-keeps : goal.returns-clause-keeps
returns-clause-keeps g c =
    on_ok c.write_held.result (λ stands t b f holds. (stands b holds, c.write_held.ensures.book ∙ f.journal.book)) c.write_held.ensures.stands

pub returns-clause-leaves : goal.returns-clause-leaves
returns-clause-leaves g c =
    λ t b f holds. leaves_either g.T.Twin.seen g.T.Twin.may_leave g.T.Twin.moment g.T.Twin.left_since (λ twin. g.met.T.Twin.counts_now twin) c.args.self.now c.write_held.new.self t b f
    (c.write_held.ensures.any_moment b holds)
