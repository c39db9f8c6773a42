use Rattle.std.proofs.Common.{◌≡◌, ◌++◌}
use Rattle.std.specs.List.{flat_map}
use Rattle.std.specs.Map.{keys_of}
use Rattle.std.specs.Ordering.{nat_cmp}
use Rattle.std.specs.BTreeMap.{get}
use Rattle.state_links.specs.Owed.{owed_at, owed_in_session}
use Rattle.state_links.proofs.owed.append_session.Given as goal

abbrev pub invariant-loop-handle : goal.invariant-loop-handle
invariant-loop-handle l = l.owed.items ++ flat_map (λ h. owed_at l.conn l.own h (get nat_cmp l.handles h)) (keys_of l.handle-iterator) ≡ l.fn.owed.items ++ owed_in_session l.conn l.own l.handles
