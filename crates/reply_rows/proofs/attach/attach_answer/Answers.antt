use Rattle.std.proofs.Common.{◌∙◌, ap}
use Rattle.std.proofs.lemmas.Result.{IfOk-weaker}
use Rattle.router_trace.specs.Links.{free_handle}
use Rattle.reply_rows.specs.declared.answer.Answer.{Answer}
use Rattle.reply_rows.specs.Booking.{book_refusal, booked_attach}
use Rattle.reply_rows.proofs.attach.attach_answer.Goals as goal

pub returns : goal.returns
returns c = IfOk-weaker c.booked_attach.result _ _
    (λ r is t channel fit found. is t fit
    ∙ ap (λ (a : Answer). booked_attach (free_handle t c.args.conn) (book_refusal c.args.full c.args.book.now t c.args.conn c.args.attach.now) a) (c.attach_reply-answer.ensures t channel fit found))
    c.booked_attach.ensures
