use Rattle.std.proofs.Common.{◌≡◌, List, drop}
use Rattle.std.specs.List.{find}
use Rattle.router_trace.specs.Trace.{Entry}
use Rattle.router_trace.specs.Sessions.{session, awaited, is_free}
use Rattle.state_sessions.specs.Fits.{SessionsFit}
use Rattle.state_sessions.proofs.sessions.Sessions.first_free.Given as goal

-- none of the channels before is free
abbrev pub invariant-loop-own : goal.invariant-loop-own
invariant-loop-own l = (t : List Entry) → SessionsFit l.self t
    → find (is_free l.channel_max (session t l.conn) (awaited t l.conn)) (drop l.own-index l.channels)
    ≡ find (is_free l.channel_max (session t l.conn) (awaited t l.conn)) l.channels
