use Rattle.state_deliveries.proofs.Handled.{handles_moved}
use Rattle.state_deliveries.proofs.handles.Handles.shift.Goals as goal

pub returns : goal.returns
returns c = λ known is fit.
    handles_moved c.args.self.now c.drop_from.new.self _ c.args.number c.args.before c.args.after known c.drop_from.ensures c.in_ok-add_to.ensures is fit
