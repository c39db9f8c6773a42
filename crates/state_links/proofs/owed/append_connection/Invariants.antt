use Rattle.std.proofs.Common.{◌≡◌, ◌++◌}
use Rattle.std.specs.List.{flat_map}
use Rattle.std.specs.Map.{keys_of}
use Rattle.std.specs.Ordering.{nat_cmp}
use Rattle.std.specs.BTreeMap.{get}
use Rattle.state_links.specs.Owed.{owed_of_session, owed_in_connection}
use Rattle.state_links.proofs.owed.append_connection.Given as goal

abbrev pub invariant-loop-own : goal.invariant-loop-own
invariant-loop-own l = l.owed.items ++ flat_map (λ o. owed_of_session l.conn o (get nat_cmp l.sessions o)) (keys_of l.own-iterator) ≡ l.fn.owed.items ++ owed_in_connection l.conn l.sessions
