use Rattle.std.proofs.Common.{◌∙◌, sym, Some}
use Rattle.state_links.proofs.Touches.{then_ok, ended_touches}
use Rattle.state_links.proofs.table.LinkTable.put_end.Goals as goal

pub returns-in-Some-clause-touches : goal.returns-in-Some-clause-touches
returns-in-Some-clause-touches c =
    then_ok c.leave_session.result (λ touched. ended_touches c.args.conn c.args.own (Some c.in-Some.handles) c.args.self.now
    (record c.args.self.now { links = c.end.new.self; names = c.leave_session.new.names; touched = c.leave_session.new.touched }) (sym c.in-Some.is ∙ c.end.ensures.gives) touched c.end.ensures.gone c.leave_session.ensures.others)
    c.leave_session.ensures.touched
