use Rattle.state_deliveries.proofs.Tallied.{tallied_moved}
use Rattle.state_deliveries.proofs.tallies.Tallies.shift.Goals as goal

pub returns : goal.returns
returns c = λ number known is fit.
    tallied_moved c.args.self.now c.drop_from.new.self c.add_to.new.self number c.args.before c.args.after known c.drop_from.ensures.counts c.drop_from.ensures.needed c.in_ok-add_to.ensures.counts c.in_ok-add_to.ensures.needed is fit
