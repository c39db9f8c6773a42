use Rattle.std.proofs.Common.{◌≡◌, ◌++◌}
use Rattle.std.specs.Ordering.{nat_cmp}
use Rattle.std.specs.BTreeMap.{get}
use Rattle.state_links.specs.Owed.{owed_of}
use Rattle.state_collections.specs.NumberMap.{at_number}
use Rattle.state_links.proofs.owed.append_all.Given as goal

abbrev pub invariant-loop-conn : goal.invariant-loop-conn
invariant-loop-conn l = l.owed.items ++ owed_of (at_number l.links.rows) l.conn-iterator ≡ l.fn.owed.items ++ owed_of (at_number l.links.rows) l.conns.keys
