use Rattle.std.proofs.Common.{refl}
use Rattle.state_deliveries.proofs.Reindexed.{producer_moves}
use Rattle.state_deliveries.proofs.index.Index.shift_producer.Goals as goal

pub returns-clause-indexed : goal.returns-clause-indexed
returns-clause-indexed c = λ known is fit.
    producer_moves c.args.self.now _ c.args.number c.args.before.now c.args.after.now known
    c.in_ok-shift.ensures c.in_ok-shift-2.ensures c.in_ok-shift-3.ensures c.in_ok-shift-4.ensures refl refl refl refl is fit
