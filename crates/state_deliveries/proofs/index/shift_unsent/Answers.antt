use Rattle.state_deliveries.proofs.Reindexed.{GroupMoves, moves_as}
use Rattle.state_deliveries.proofs.index.shift_unsent.Goals as goal

pub returns : goal.returns
returns c = moves_as (GroupMoves c.args.unsent.now c.shift.new.self c.args.number) _ _ _ _ c.turn.ensures c.turn-2.ensures c.in_ok-shift.ensures
