use Rattle.std.proofs.Common.{◌∙◌, sym, Some}
use Rattle.state_links.proofs.Touches.{then_ok, lost_touches}
use Rattle.state_links.proofs.table.LinkTable.forget.Goals as goal

pub returns-in-Some-clause-touches : goal.returns-in-Some-clause-touches
returns-in-Some-clause-touches c =
    then_ok c.leave_connection.result (λ touched. lost_touches c.args.conn (Some c.in-Some.sessions) c.args.self.now
    (record c.args.self.now { links = c.forget.new.self; names = c.leave_connection.new.names; owing = c.remove.new.self; touched = c.leave_connection.new.touched }) (sym c.in-Some.is ∙ c.forget.ensures.gives) touched c.forget.ensures.gone c.leave_connection.ensures.others)
    c.leave_connection.ensures.touched
