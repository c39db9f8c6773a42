use Rattle.std.proofs.Common.{◌≡◌, ◌∙◌, ap, rules, sym}
use Rattle.std.proofs.lemmas.Result.{IfOk-weaker}
use Rattle.amqp_conn.specs.Phase.{frame_in_turn}
use Rattle.reply_rows.specs.Booking.{booked_perf}
use Rattle.reply_rows.specs.Rows.{turn_by, perf_reply}
use Rattle.reply_rows.specs.Finding.{finds}
use Rattle.reply_rows.proofs.answering.perf_answer.Goals as goal

pub returns-in_default : goal.returns-in_default
returns-in_default c = IfOk-weaker c.turn_by.result _ _
    (λ r is t at found.
    let turns : perf_reply c.args.phase (finds t c.args.conn) c.args.channel c.args.perf.now
    ≡ turn_by (finds t c.args.conn) c.args.channel c.args.perf.now (frame_in_turn c.args.channel c.args.phase)
    = search rules in
    is t at found ∙ ap (booked_perf c.args.full c.args.book.now t c.args.conn c.args.perf.now) (sym turns))
    c.turn_by.ensures
