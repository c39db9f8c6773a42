use Rattle.std.proofs.Common.{subst}
use Rattle.std.proofs.lemmas.Result.{on_ok_weaker}
use Rattle.std.specs.Prelude.{Option}
use Rattle.router_trace.specs.declared.handle.Attachment.{Attachment}
use Rattle.router_state.specs.Tables.{TablesFit}
use Rattle.router_reply.specs.Resuming.{bound_if}
use Rattle.router_reply.proofs.resuming.take_up_rows.Goals as goal

pub returns : goal.returns
returns c = on_ok_weaker c.bind_if.result
    (λ is t fit. subst (λ (at : Option Attachment). TablesFit c.bind_if.new.state (bound_if at c.args.taken.rows.items t)) (c.consumer_with-at.ensures t fit) (is t fit))
    c.bind_if.ensures
