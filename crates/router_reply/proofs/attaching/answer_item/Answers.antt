use Rattle.std.proofs.Common.{sym, subst, List}
use Rattle.router_trace.specs.Trace.{Put, goes}
use Rattle.router_state.specs.Tables.{TablesFit}
use Rattle.router_reply.proofs.After.{unattached}
use Rattle.router_reply.proofs.attaching.answer_item.Goals as goal

pub returns-in_default : goal.returns-in_default
returns-in_default c = λ t fit.
    subst (λ (ps : List Put). TablesFit c.args.state.now (goes ps t)) (sym (unattached t c.args.conn c.args.ours.items c.args.item c.args.answer.now c.in_default.not-Attach c.in_default.not-Refuse)) fit
