use Rattle.std.proofs.Common.{◌≡◌, ◌++◌, List}
use Rattle.router_trace.specs.Trace.{Entry, puts_of}
use Rattle.router_trace.specs.Sessions.{session}
use Rattle.state_sessions.specs.Windows.{flows_below}
use Rattle.state_sessions.specs.Fits.{SessionsFit}
use Rattle.state_sessions.proofs.sessions.Sessions.gather.Given as goal

abbrev pub invariant-loop-own : goal.invariant-loop-own
invariant-loop-own l = (t : List Entry) → SessionsFit l.self t → puts_of l.flows.items ≡ puts_of l.fn.flows.items ++ flows_below l.conn (session t l.conn) l.own
