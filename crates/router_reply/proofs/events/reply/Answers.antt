use Rattle.std.proofs.Common.{◌≡◌, ◌∙◌, ◌∷◌, sym, subst, ℕ, List}
use Rattle.std.proofs.lemmas.Result.{on_ok_weaker}
use Rattle.router_trace.specs.Connection.{due}
use Rattle.router_trace.specs.Trace.{did, step_of}
use Rattle.router_state.specs.Tables.{TablesFit}
use Rattle.reply_rows.specs.Admitting.{ChoseUnlessEnds, EventChose}
use Rattle.router_reply.specs.Replies.{ends as closed_for, heard}
use Rattle.router_reply.proofs.Chosen.{chose_after}
use Rattle.router_reply.proofs.events.reply.Goals as goal

pub returns-clause-fits : goal.returns-clause-fits
returns-clause-fits c = on_ok_weaker c.own_row.result
    (λ is t fit ends phase answer book row mapped told chosen.
    let id = c.args.id.now in
    let e = c.args.event in
    let closed : TablesFit c.close_all.new.state (heard id t (step_of e)) =
    subst (λ (cs : List ℕ). TablesFit c.close_all.new.state (closed_for id cs (did e ∷ t))) (c.deref.ensures.value ∙ ends) (c.in-Ok.ensures (did e ∷ t) fit) in
    let unless : ChoseUnlessEnds (due t e) (did e ∷ t) e c.args.plan.now.answer c.args.plan.now.consumer =
    subst (λ (cs : List ℕ). ChoseUnlessEnds cs (did e ∷ t) e c.args.plan.now.answer c.args.plan.now.consumer) ends chosen in
    is t (heard id t (step_of e)) closed phase answer book row mapped told (chose_after id (due t e) (did e ∷ t) e c.args.plan.now.answer c.args.plan.now.consumer unless))
    c.own_row.ensures.fits
