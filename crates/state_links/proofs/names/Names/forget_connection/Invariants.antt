use Rattle.std.proofs.Common.{◌≡◌, ℕ, false}
use Rattle.std.specs.List.{list_any}
use Rattle.std.specs.Ordering.{nat_cmp}
use Rattle.std.specs.BTreeMap.{get}
use Rattle.state_links.specs.Naming.{on_conn, Thinned}
use Rattle.state_links.specs.Touching.{in_session, in_connection}
use Rattle.state_collections.specs.NumberMap.{at_number}
use Rattle.state_links.proofs.names.Names.forget_connection.Given as goal

abbrev pub invariant-loop-own : goal.invariant-loop-own
invariant-loop-own l =
    Thinned (on_conn l.conn) l.fn.self l.self
    × ((k : ℕ) → in_connection k l.sessions ≡ false
    → (list_any (λ e. in_session k e.1) l.own-iterator ≡ false) × (at_number l.fn.self.numbers.entries k ≡ at_number l.self.numbers.entries k))
