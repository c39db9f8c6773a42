use Rattle.std.proofs.Common.{◌≡◌, ℕ}
use Rattle.std.specs.Prelude.{◌||◌}
use Rattle.std.specs.List.{list_any}
use Rattle.state_collections.specs.NumberSet.{has}
use Rattle.state_links.specs.Touching.{in_session, in_connection}
use Rattle.state_links.proofs.touched.touch_connection.Given as goal

-- the numbers of the remaining links will be touched
abbrev pub invariant-loop-own : goal.invariant-loop-own
invariant-loop-own l = (k : ℕ) → (list_any (λ e. in_session k e.1) l._own-iterator || has l.touched k) ≡ (in_connection k l.sessions || has l.fn.touched k)
