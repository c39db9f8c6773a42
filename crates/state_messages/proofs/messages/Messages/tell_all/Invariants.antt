use Rattle.std.proofs.Common.{List}
use Rattle.router_trace.specs.Trace.{Entry}
use Rattle.state_messages.specs.Fits.{MessagesFit}
use Rattle.state_messages.proofs.messages.Messages.tell_all.Given as goal

-- what agreed at the start still agrees
abbrev pub invariant-loop-turn : goal.invariant-loop-turn
invariant-loop-turn l = (t : List Entry) → MessagesFit l.fn.self t → MessagesFit l.self t
