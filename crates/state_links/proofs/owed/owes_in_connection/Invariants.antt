use Rattle.std.proofs.Common.{◌≡◌}
use Rattle.std.specs.List.{list_any}
use Rattle.state_links.specs.Owed.{owes_in_session, owes_in_connection}
use Rattle.state_links.proofs.owed.owes_in_connection.Given as goal

abbrev pub invariant-loop-own : goal.invariant-loop-own
invariant-loop-own l = list_any (λ e. owes_in_session e.1) l._own-iterator ≡ owes_in_connection l.sessions
