use Rattle.std.proofs.Common.{◌∙◌, Bool, ap, subst, sym}
use Rattle.std.proofs.lemmas.Result.{IfOk-weaker}
use Rattle.amqp_model.specs.declared.item.Item.{Item}
use Rattle.amqp_model.specs.declared.item.Item.TheVariants as item
use Rattle.router_state.specs.Finding.{IsFound}
use Rattle.reply_rows.specs.Booking.{answer_at}
use Rattle.reply_rows.proofs.Taken.{early_unbooked}
use Rattle.reply_rows.proofs.answering.item_answer.Goals as goal

pub returns-then-sasl : goal.returns-then-sasl
returns-then-sasl c = λ t at found.
    let it = c.in-Frame in
    c.early_frame_reply.ensures
    ∙ early_unbooked c.args.full c.args.book.now t c.args.conn it.perf
    ∙ ap (λ (b : Bool). answer_at c.args.full c.args.book.now t c.args.conn c.args.phase (item.Frame b it.channel it.perf it.payload)) (sym c.if-sasl.true)
    ∙ ap (λ (i : Item). answer_at c.args.full c.args.book.now t c.args.conn c.args.phase i) (sym it.is)

pub returns-else-sasl : goal.returns-else-sasl
returns-else-sasl c = IfOk-weaker c.perf_answer.result _ _
    (λ r is t at found.
    let it = c.in-Frame in
    is t at (subst (λ (i : Item). IsFound t c.args.conn i c.args.found.now) it.is found)
    ∙ ap (λ (b : Bool). answer_at c.args.full c.args.book.now t c.args.conn c.args.phase (item.Frame b it.channel it.perf it.payload)) (sym c.if-sasl.false)
    ∙ ap (λ (i : Item). answer_at c.args.full c.args.book.now t c.args.conn c.args.phase i) (sym it.is))
    c.perf_answer.ensures
