use Rattle.state_collections.proofs.Results.{on_ok}
use Rattle.state_deliveries.proofs.Above.{group_moved}
use Rattle.state_deliveries.proofs.by_rank.ByRank.shift.Goals as goal

pub returns : goal.returns
returns c = on_ok c.add_to.result
    (λ added had. group_moved c.args.self.now c.drop_from.new.self c.add_to.new.self c.args.number c.args.before c.args.after c.drop_from.ensures added had)
    c.add_to.ensures
