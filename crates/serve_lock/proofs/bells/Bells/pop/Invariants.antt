use Rattle.std.proofs.Common.{◌≡◌, ◌<◌, ℕ, slice_index_or}
use Rattle.serve_lock.proofs.bells.Bells.pop.Given as goal

abbrev pub invariant-loop-place : goal.invariant-loop-place
invariant-loop-place l = record {
  same : l.self ≡ l.fn.self;
  empty : (k : ℕ) → k < l.place → slice_index_or l.fn.self.words k 0 ≡ 0;
}
