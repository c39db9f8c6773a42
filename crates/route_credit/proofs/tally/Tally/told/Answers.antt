use Rattle.route_credit.proofs.Tallies.{alone_in_order}
use Rattle.route_credit.proofs.tally.Tally.told.Goals as goal

pub returns-then-is_empty-clause-ordered : goal.returns-then-is_empty-clause-ordered
returns-then-is_empty-clause-ordered c = alone_in_order (λ told. told.items) c.alone.result _ c.alone.ensures
