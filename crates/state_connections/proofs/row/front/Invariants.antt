use Rattle.std.proofs.Common.{◌≡◌, take, drop}
use Rattle.state_connections.proofs.row.front.Given as goal

abbrev pub invariant-loop-turn : goal.invariant-loop-turn
invariant-loop-turn l = record {
  items : l.items.items ≡ take l.turn l.fn.queue.items;
  rest : l.queue.items ≡ drop l.turn l.fn.queue.items;
}
