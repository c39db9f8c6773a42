use Rattle.std.proofs.Common.{◌≡◌, vec_len}
use Rattle.serve_lock.proofs.shared.bells.Given as goal

abbrev pub invariant-loop-place : goal.invariant-loop-place
invariant-loop-place l = vec_len l.bells ≡ l._place
