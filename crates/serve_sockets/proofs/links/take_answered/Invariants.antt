use Rattle.std.proofs.Common.{◌≤◌, length}
use Rattle.serve_sockets.proofs.links.take_answered.Given as goal

abbrev pub invariant-loop : goal.invariant-loop
invariant-loop l = length l.asked.items ≤ length l.fn.asked.items
