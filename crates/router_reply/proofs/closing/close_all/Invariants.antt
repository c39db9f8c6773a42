use Rattle.std.proofs.Common.{◌≡◌, List, drop}
use Rattle.router_trace.specs.Trace.{Entry}
use Rattle.router_state.specs.Tables.{TablesFit}
use Rattle.router_reply.specs.Replies.{ends}
use Rattle.router_reply.proofs.closing.close_all.Given as goal

-- once the rest is closed too, all are
abbrev pub invariant-loop-conn : goal.invariant-loop-conn
invariant-loop-conn l = (t : List Entry) → TablesFit l.fn.state t → (u : List Entry) × TablesFit l.state u
    × (ends l.id (drop l.conn-index l.due) u ≡ ends l.id l.due t)
