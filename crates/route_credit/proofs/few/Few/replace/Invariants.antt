use Rattle.std.proofs.Common.{◌≡◌, ◌<◌, ℕ, None, slice_index_or}
use Rattle.route_credit.proofs.few.Few.replace.Given as goal

-- nothing has changed, and what is sought stands at none so far
abbrev pub invariant-loop-at : goal.invariant-loop-at
invariant-loop-at l = (l.self ≡ l.fn.self) × ((q : ℕ) → q < l.at → slice_index_or l.fn.self.places q None ≡ l.fn.before → ⊥)
