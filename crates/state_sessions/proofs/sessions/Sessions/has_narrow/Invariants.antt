use Rattle.std.proofs.Common.{◌≡◌, ◌<◌, ℕ, false}
use Rattle.state_collections.specs.NumberMap.{at_number}
use Rattle.state_sessions.specs.Windows.{is_narrow_window}
use Rattle.state_sessions.specs.Fits.{window_in}
use Rattle.state_sessions.proofs.sessions.Sessions.has_narrow.Given as goal

abbrev pub invariant-loop-own : goal.invariant-loop-own
invariant-loop-own l = (o : ℕ) → o < l.own → is_narrow_window (window_in (at_number l.self.rows l.conn) o) ≡ false
