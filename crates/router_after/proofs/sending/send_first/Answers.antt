use Rattle.std.proofs.Common.{sym, ◌∙◌}
use Rattle.std.proofs.lemmas.Result.{IfOk-weaker, on_ok_weaker}
use Rattle.router_trace.specs.Following.{sends_due}
use Rattle.router_state.specs.Tables.{TablesFit}
use Rattle.router_after.proofs.Dues.{sends_none, sends_one, put_as}
use Rattle.router_after.proofs.sending.send_first.Goals as goal

pub returns-in-None-clause-put : goal.returns-in-None-clause-put
returns-in-None-clause-put c = λ t f.
    put_as (TablesFit c.args.state.now) t _ (sends_due t) (sends_none t _ c.in-None.is (c.in_ok-soonest.ensures t f)) f

pub returns-in-None-clause-over : goal.returns-in-None-clause-over
returns-in-None-clause-over c = λ no t f. sym (sends_none t _ c.in-None.is (c.in_ok-soonest.ensures t f))

pub returns-in-Some-clause-put : goal.returns-in-Some-clause-put
returns-in-Some-clause-put c = on_ok_weaker c.send.result
    (λ fits t f. put_as (TablesFit c.send.new.state) t _ (sends_due t) (sends_one t _ c.in-Some.next c.in-Some.is (c.in_ok-soonest.ensures t f)) (fits t f))
    c.send.ensures.put

pub returns-in-Some-clause-over : goal.returns-in-Some-clause-over
returns-in-Some-clause-over c = IfOk-weaker c.send.result _ _
    (λ due over no t f. sym (sends_one t _ c.in-Some.next c.in-Some.is (c.in_ok-soonest.ensures t f)) ∙ over no t f)
    c.send.ensures.over
