use Rattle.std.proofs.Common.{◌≡◌, List, drop}
use Rattle.router_trace.specs.Trace.{Entry}
use Rattle.router_state.specs.Tables.{TablesFit}
use Rattle.router_reply.specs.Holding.{freed}
use Rattle.router_reply.proofs.holding.free_rows.Given as goal

-- once what the rest forget is settled too, all is
abbrev pub invariant-loop-act : goal.invariant-loop-act
invariant-loop-act l = (t : List Entry) → TablesFit l.fn.state t → (u : List Entry) × TablesFit l.state u × (freed (drop l.act-index l.acts) u ≡ freed l.acts t)
