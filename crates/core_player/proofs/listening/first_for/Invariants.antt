use Rattle.std.proofs.Common.{◌≡◌, drop}
use Rattle.std.specs.List.{find}
use Rattle.core_player.specs.Listening.{is_for}
use Rattle.core_player.proofs.listening.first_for.Given as goal

abbrev pub invariant-loop-listener : goal.invariant-loop-listener
invariant-loop-listener l = find (λ x. is_for l.peers x.role) (drop l.listener-index l.listeners) ≡ find (λ x. is_for l.peers x.role) l.listeners
