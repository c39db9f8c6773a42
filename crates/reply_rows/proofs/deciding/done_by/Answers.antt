use Rattle.std.proofs.Common.{◌∙◌, ap}
use Rattle.std.proofs.lemmas.Result.{IfOk-weaker}
use Rattle.amqp_model.specs.declared.perf.Attach.{Attach as AnAttach}
use Rattle.reply_rows.specs.Booking.{wanted_key}
use Rattle.router_trace.specs.Links.{holder}
use Rattle.reply_rows.specs.Deciding.{stolen_from}
use Rattle.reply_rows.proofs.deciding.done_by.Goals as goal

pub returns-in-Attach-clause-stolen : goal.returns-in-Attach-clause-stolen
returns-in-Attach-clause-stolen c = rw c.in-Attach.is (IfOk-weaker c.does.result _ _
    (λ d is t on find same. is t on find same
    ∙ ap (λ (a : AnAttach). stolen_from (holder t (wanted_key t c.args.conn a))) c.as_ref.ensures)
    c.does.ensures.stolen)
