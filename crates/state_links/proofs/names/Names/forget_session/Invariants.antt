use Rattle.std.proofs.Common.{◌≡◌, ℕ, false}
use Rattle.std.specs.Prelude.{◌==◌}
use Rattle.std.specs.List.{list_any}
use Rattle.std.specs.Ordering.{nat_cmp}
use Rattle.std.specs.BTreeMap.{get}
use Rattle.state_links.specs.Naming.{on_session, Thinned}
use Rattle.state_links.specs.Touching.{in_session}
use Rattle.state_collections.specs.NumberMap.{at_number}
use Rattle.state_links.proofs.names.Names.forget_session.Given as goal

abbrev pub invariant-loop-handle : goal.invariant-loop-handle
invariant-loop-handle l =
    Thinned (on_session l.conn l.own) l.fn.self l.self
    × ((k : ℕ) → in_session k l.handles ≡ false
    → (list_any (λ e. e.1.number == k) l.handle-iterator ≡ false) × (at_number l.fn.self.numbers.entries k ≡ at_number l.self.numbers.entries k))
