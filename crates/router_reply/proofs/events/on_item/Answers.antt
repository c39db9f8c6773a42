use Rattle.std.proofs.Common.{◌≡◌, ◌∙◌, sym, ap, refl, subst, rules, List}
use Rattle.std.proofs.lemmas.Result.{on_ok_weaker}
use Rattle.std.specs.Prelude.{Option, None}
use Rattle.amqp_conn.specs.declared.conn.Conn.{Conn}
use Rattle.amqp_model.specs.declared.state.UnsettledDelivery.{UnsettledDelivery}
use Rattle.router_trace.specs.Trace.{Entry, goes}
use Rattle.router_state.specs.Tables.{TablesFit}
use Rattle.reply_rows.specs.Acts.{answer_of, answer_by}
use Rattle.router_reply.specs.Replies.{attach_put}
use Rattle.router_reply.proofs.After.{after_item, decided}
use Rattle.router_reply.proofs.events.on_item.Goals as goal

pub returns-in_default-clause-fits : goal.returns-in_default-clause-fits
returns-in_default-clause-fits c = λ t after fit phase answered book row mapped heard chosen.
    let gone : c.args.plan.now.phase ≡ None = search rules in
    subst (λ (p : Option Conn). TablesFit c.args.state.now (after_item c.args.id.now t after c.args.conn.0 c.args.item p)) (sym gone ∙ phase) fit

pub returns-clause-fits : goal.returns-clause-fits
returns-clause-fits c = on_ok_weaker c.answer_item.result
    (λ is t after fit found answered book row mapped heard chosen.
    let id = c.args.id.now in
    let item = c.args.item in
    let conn = c.args.conn.0 in
    let phase = c.in-Some.phase in
    let live = sym c.in-Some.is ∙ found in
    let answer : c.args.plan.now.answer ≡ answer_of t conn phase item
    = answered ∙ ap (λ (p : Option Conn). answer_by t conn item p) (sym live) in
    let begun = c.in-Ok.ensures t after fit heard chosen answer book row in
    subst (λ (u : List Entry). TablesFit c.answer_item.new.state u)
    (begun.2 ∙ decided id t after conn phase item c.args.plan.now.answer _ answer live)
    (subst (λ (ours : List UnsettledDelivery). TablesFit c.answer_item.new.state (goes (attach_put begun.0 conn ours item c.args.plan.now.answer) begun.0))
    (c.told_map-ours.ensures.map ∙ mapped) (is _ begun.1)))
    c.answer_item.ensures

pub returns-clause-plan : goal.returns-clause-plan
returns-clause-plan c = record { ends = refl; key = c.told_map-ours.ensures.key; held = c.told_map-ours.ensures.held; rows = c.told_map-ours.ensures.rows }
