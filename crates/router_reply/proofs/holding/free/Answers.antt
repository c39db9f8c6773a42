use Rattle.std.proofs.Common.{sym, subst, List}
use Rattle.router_trace.specs.Trace.{Entry}
use Rattle.router_state.specs.Tables.{TablesFit}
use Rattle.router_reply.proofs.Held.{unfreed}
use Rattle.router_reply.proofs.holding.free.Goals as goal

pub returns-in_default : goal.returns-in_default
returns-in_default c = λ t fit. subst (λ (u : List Entry). TablesFit c.args.state.now u) (sym (unfreed c.args.act.now t c.in_default.not-Forget)) fit
