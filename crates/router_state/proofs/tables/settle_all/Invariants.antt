use Rattle.std.proofs.Common.{List}
use Rattle.router_trace.specs.Trace.{Entry}
use Rattle.state_sessions.specs.Fits.{SessionsFit}
use Rattle.router_state.proofs.tables.settle_all.Given as goal

abbrev pub invariant-loop-conn : goal.invariant-loop-conn
invariant-loop-conn l = (t : List Entry) → SessionsFit l.fn.sessions t → SessionsFit l.sessions t
