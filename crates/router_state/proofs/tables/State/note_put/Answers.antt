use Rattle.std.proofs.Common.{◌∙◌, ◌∷◌, ap, subst, sym}
use Rattle.amqp_model.specs.declared.item.Item.{Item}
use Rattle.amqp_model.specs.declared.perf.Perf.{Perf}
use Rattle.amqp_model.specs.declared.item.Item.TheVariants as item
use Rattle.router_trace.specs.Trace.{Out}
use Rattle.router_state.specs.Tables.{TablesFind}
use Rattle.router_state.proofs.tables.State.note_put.Goals as goal

pub returns-in_ok-note_transfer-in-Transfer-clause-found : goal.returns-in_ok-note_transfer-in-Transfer-clause-found
returns-in_ok-note_transfer-in-Transfer-clause-found c = λ t fit.
    let it = c.in-Frame in
    subst (λ (i : Item). TablesFind c.note_transfer.new.self (Out c.args.conn i ∷ t)) (sym (it.is ∙ ap (λ (p : Perf). item.Frame it.sasl it.channel p it.payload) c.in-Transfer.is))
    (c.in_ok-note_transfer-in-Transfer.ensures.found t _ fit)

pub returns-in_ok-note_disposition-in-Disposition-clause-found : goal.returns-in_ok-note_disposition-in-Disposition-clause-found
returns-in_ok-note_disposition-in-Disposition-clause-found c = λ t fit.
    let it = c.in-Frame in
    subst (λ (i : Item). TablesFind c.note_disposition.new.self (Out c.args.conn i ∷ t)) (sym (it.is ∙ ap (λ (p : Perf). item.Frame it.sasl it.channel p it.payload) c.in-Disposition.is))
    (c.in_ok-note_disposition-in-Disposition.ensures.found t _ _ fit)

pub returns-in_ok-note_flow-in-Flow-clause-found : goal.returns-in_ok-note_flow-in-Flow-clause-found
returns-in_ok-note_flow-in-Flow-clause-found c = λ t fit.
    let it = c.in-Frame in
    subst (λ (i : Item). TablesFind c.note_flow.new.self (Out c.args.conn i ∷ t)) (sym (it.is ∙ ap (λ (p : Perf). item.Frame it.sasl it.channel p it.payload) c.in-Flow.is))
    (c.in_ok-note_flow-in-Flow.ensures.found t _ _ fit)
