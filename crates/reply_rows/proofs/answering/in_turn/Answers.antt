use Rattle.std.proofs.Common.{◌≡◌, ◌∙◌, ℕ, ap, subst, sym}
use Rattle.std.specs.Prelude.{Option}
use Rattle.std.proofs.lemmas.Result.{IfOk-weaker}
use Rattle.amqp_model.specs.declared.perf.Perf.{Perf}
use Rattle.amqp_model.specs.declared.perf.Perf.TheVariants as perf
use Rattle.router_trace.specs.Sessions.{place}
use Rattle.router_state.specs.Finding.{IsFoundBy, handle_in}
use Rattle.reply_rows.specs.Booking.{booked_perf}
use Rattle.reply_rows.specs.Rows.{in_turn, begin_reply}
use Rattle.reply_rows.specs.Finding.{finds}
use Rattle.reply_rows.proofs.answering.in_turn.Goals as goal

pub returns-in-Begin : goal.returns-in-Begin
returns-in-Begin c = λ t at found.
    let is : c.args.perf.now ≡ perf.Begin c.as_ref-begin.result.now = c.in-Begin.is ∙ ap (λ b. perf.Begin b) (sym c.as_ref-begin.ensures) in
    c.begin_reply.ensures (place t c.args.conn c.args.channel) (finds t c.args.conn).awaits found.session (c.awaits-awaits.ensures t at)
    ∙ ap (λ (free : Option ℕ). begin_reply (place t c.args.conn c.args.channel) free (finds t c.args.conn).awaits c.args.channel c.as_ref-begin.result.now) (c.free_channel-free.ensures t at)
    ∙ ap (λ (p : Perf). booked_perf c.args.full c.args.book.now t c.args.conn p (in_turn (finds t c.args.conn) c.args.channel p)) (sym is)

pub returns-in-Attach : goal.returns-in-Attach
returns-in-Attach c = IfOk-weaker c.attach_answer.result _ _
    (λ r answers t at found.
    let is : c.args.perf.now ≡ perf.Attach c.as_ref.result.now = c.in-Attach.is ∙ ap (λ a. perf.Attach a) (sym c.as_ref.ensures) in
    answers t c.args.channel at (subst (λ (p : Perf). IsFoundBy t c.args.conn c.args.channel (handle_in p) c.args.found.now) is found)
    ∙ ap (λ (p : Perf). booked_perf c.args.full c.args.book.now t c.args.conn p (in_turn (finds t c.args.conn) c.args.channel p)) (sym is))
    c.attach_answer.ensures

pub returns-in-Flow : goal.returns-in-Flow
returns-in-Flow c = λ t at found.
    c.flow_reply.ensures t c.args.conn c.args.channel (subst (λ (p : Perf). IsFoundBy t c.args.conn c.args.channel (handle_in p) c.args.found.now) c.in-Flow.is found)
    ∙ ap (λ (p : Perf). booked_perf c.args.full c.args.book.now t c.args.conn p (in_turn (finds t c.args.conn) c.args.channel p)) (sym c.in-Flow.is)

pub returns-in-Transfer : goal.returns-in-Transfer
returns-in-Transfer c = λ t at found.
    c.transfer_answer.ensures t c.args.channel at (subst (λ (p : Perf). IsFoundBy t c.args.conn c.args.channel (handle_in p) c.args.found.now) c.in-Transfer.is found)
    ∙ ap (λ (p : Perf). booked_perf c.args.full c.args.book.now t c.args.conn p (in_turn (finds t c.args.conn) c.args.channel p)) (sym c.in-Transfer.is)

pub returns-in-Disposition : goal.returns-in-Disposition
returns-in-Disposition c = λ t at found.
    c.disposition_reply.ensures (place t c.args.conn c.args.channel) found.session
    ∙ ap (λ (p : Perf). booked_perf c.args.full c.args.book.now t c.args.conn p (in_turn (finds t c.args.conn) c.args.channel p)) (sym c.in-Disposition.is)

pub returns-in-Detach : goal.returns-in-Detach
returns-in-Detach c = λ t at found.
    c.detach_reply.ensures t c.args.conn c.args.channel (subst (λ (p : Perf). IsFoundBy t c.args.conn c.args.channel (handle_in p) c.args.found.now) c.in-Detach.is found)
    ∙ ap (λ (p : Perf). booked_perf c.args.full c.args.book.now t c.args.conn p (in_turn (finds t c.args.conn) c.args.channel p)) (sym c.in-Detach.is)

pub returns-in-End : goal.returns-in-End
returns-in-End c = λ t at found.
    c.end_reply.ensures (place t c.args.conn c.args.channel) found.session
    ∙ ap (λ (p : Perf). booked_perf c.args.full c.args.book.now t c.args.conn p (in_turn (finds t c.args.conn) c.args.channel p)) (sym c.in-End.is)
