use Rattle.std.proofs.Common.{◌≡◌}
use Rattle.std.specs.List.{list_any}
use Rattle.state_links.specs.Owed.{owes_in_session}
use Rattle.state_links.proofs.owed.owes_in_session.Given as goal

abbrev pub invariant-loop-handle : goal.invariant-loop-handle
invariant-loop-handle l = list_any (λ e. e.1.owes_drain) l._handle-iterator ≡ owes_in_session l.handles
