use Rattle.state_deliveries.proofs.Placed.{fits_moved}
use Rattle.state_deliveries.proofs.spots.Spots.shift.Goals as goal

pub returns : goal.returns
returns c = λ known is fit.
    fits_moved c.args.self.now c.drop_from.new.self _ c.args.number c.args.before c.args.after known c.drop_from.ensures c.in_ok-add_to.ensures.stands c.in_ok-add_to.ensures.small is fit
