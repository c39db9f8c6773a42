use Rattle.std.proofs.Common.{◌≡◌, List, drop}
use Rattle.router_trace.specs.Trace.{Entry}
use Rattle.state_messages.specs.Asking.{some_go_on}
use Rattle.state_messages.specs.Fits.{MessagesFit}
use Rattle.state_messages.proofs.messages.Messages.some_go_on.Given as goal

-- none of the deliveries before goes on
abbrev pub invariant-loop-number : goal.invariant-loop-number
invariant-loop-number l = (t : List Entry) → MessagesFit l.self t → some_go_on t l.conn l.own (drop l.number-index l.numbers) ≡ some_go_on t l.fn.conn l.fn.own l.fn.numbers
