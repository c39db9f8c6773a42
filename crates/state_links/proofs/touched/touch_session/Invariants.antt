use Rattle.std.proofs.Common.{◌≡◌, ℕ}
use Rattle.std.specs.Prelude.{◌||◌, ◌==◌}
use Rattle.std.specs.List.{list_any}
use Rattle.state_collections.specs.NumberSet.{has}
use Rattle.state_links.specs.Touching.{in_session}
use Rattle.state_links.proofs.touched.touch_session.Given as goal

-- the numbers of the remaining links will be touched
abbrev pub invariant-loop-handle : goal.invariant-loop-handle
invariant-loop-handle l = (k : ℕ) → (list_any (λ e. e.1.number == k) l._handle-iterator || has l.touched k) ≡ (in_session k l.handles || has l.fn.touched k)
