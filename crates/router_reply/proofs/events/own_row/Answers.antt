use Rattle.std.proofs.Common.{◌≡◌, sym, subst}
use Rattle.std.proofs.lemmas.Result.{on_ok_weaker}
use Rattle.router_trace.specs.Connection.{phase_found}
use Rattle.router_trace.specs.declared.event.Event.{Event}
use Rattle.router_state.specs.Tables.{TablesFit}
use Rattle.reply_rows.specs.Acts.{answer_to_event, book_in}
use Rattle.reply_rows.specs.Admitting.{EventChose}
use Rattle.router_reply.specs.Heard.{IsHeard}
use Rattle.router_reply.specs.Replies.{row_found, replied_after}
use Rattle.reply_rows.specs.Resuming.{map_resumed, told_map}
use Rattle.router_reply.proofs.events.own_row.Goals as goal

pub returns-in-Item-clause-fits : goal.returns-in-Item-clause-fits
returns-in-Item-clause-fits c = on_ok_weaker c.on_item.result
    (λ is t after. subst (λ (e : Event). TablesFit c.args.state.now after → c.args.plan.now.phase ≡ phase_found t e → c.args.plan.now.answer ≡ answer_to_event t e → c.args.book.now ≡ book_in t
    → c.args.row ≡ row_found t → map_resumed c.args.plan.now.resumption ≡ told_map t e c.args.plan.now.answer
    → IsHeard t e c.args.plan.now.answer c.args.heard.now → EventChose after e c.args.plan.now.answer c.args.plan.now.consumer → TablesFit c.on_item.new.state (replied_after c.args.id.now t after e)) (sym c.in-Item.is) (is t after))
    c.on_item.ensures.fits
