use Rattle.std.proofs.Common.{ap, refl}
use Rattle.state_deliveries.specs.Indexing.{consumer_keys}
use Rattle.state_deliveries.specs.Placing.{on_spot, spot_of}
use Rattle.state_deliveries.proofs.Reindexed.{HandleMoves, consumer_moves, moves_as}
use Rattle.state_deliveries.proofs.index.Index.shift_consumer.Goals as goal

pub returns-clause-indexed : goal.returns-clause-indexed
returns-clause-indexed c = λ known is fit.
    let place = on_spot (spot_of c.args.seat.link) in
    consumer_moves c.args.self.now _ c.args.number (consumer_keys c.args.seat c.args.before) (consumer_keys c.args.seat c.args.after) known
    c.in_ok-shift.ensures c.in_ok-shift_unsent.ensures
    (moves_as (HandleMoves c.args.self.now.on c.shift_on.new.on c.args.number) _ _ _ _ (ap place c.is_on.ensures) (ap place c.is_on-2.ensures) c.in_ok-shift_on.ensures)
    c.in_ok-shift_durable.ensures refl refl refl refl is fit

pub returns-clause-touched : goal.returns-clause-touched
returns-clause-touched c = λ k f. let x = c.in_ok-note_consumer.ensures k f in (x.0, record { waiting = x.1; undecided = x.2 })
