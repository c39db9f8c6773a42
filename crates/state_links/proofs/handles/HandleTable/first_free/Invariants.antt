use Rattle.std.proofs.Common.{◌≡◌, ◌-◌}
use Rattle.router_trace.specs.Links.{first_free_below, is_free_handle}
use Rattle.state_collections.specs.Places.{at}
use Rattle.state_links.proofs.handles.HandleTable.first_free.Given as goal

-- none of the handles before is free
abbrev pub invariant-loop-handle : goal.invariant-loop-handle
invariant-loop-handle l =
    first_free_below (64 - l.handle) (is_free_handle l.most (at l.self.answered l.conn l.own)) l.handle
    ≡ first_free_below 64 (is_free_handle l.most (at l.self.answered l.conn l.own)) 0
