use Rattle.std.proofs.Common.{◌∙◌, ap}
use Rattle.std.specs.Prelude.{Result}
use Rattle.std.proofs.lemmas.Result.{IfOk-weaker}
use Rattle.amqp_conn.specs.declared.fault.ConnFault.{ConnFault}
use Rattle.reply_rows.specs.Booking.{booked_perf}
use Rattle.reply_rows.specs.Rows.{turn_by}
use Rattle.reply_rows.specs.Finding.{finds}
use Rattle.reply_rows.proofs.Taken.{fault_unbooked}
use Rattle.reply_rows.proofs.answering.turn_by.Goals as goal

pub returns-in-Err : goal.returns-in-Err
returns-in-Err c = λ t at found.
    c.out_of_turn.ensures
    ∙ fault_unbooked c.args.full c.args.book.now t c.args.conn c.args.perf.now _
    ∙ ap (λ (r : Result (Unit {0}) ConnFault). booked_perf c.args.full c.args.book.now t c.args.conn c.args.perf.now (turn_by (finds t c.args.conn) c.args.channel c.args.perf.now r)) c.in-Err.ensures

pub returns-in-Ok : goal.returns-in-Ok
returns-in-Ok c = IfOk-weaker c.in_turn.result _ _
    (λ r is t at found. is t at found
    ∙ ap (λ (q : Result (Unit {0}) ConnFault). booked_perf c.args.full c.args.book.now t c.args.conn c.args.perf.now (turn_by (finds t c.args.conn) c.args.channel c.args.perf.now q)) c.in-Ok.ensures)
    c.in_turn.ensures
