use Rattle.std.proofs.Common.{sym, ◌∙◌}
use Rattle.std.proofs.lemmas.Result.{IfOk-weaker, on_ok_weaker}
use Rattle.router_trace.specs.Following.{drains_due}
use Rattle.router_state.specs.Tables.{TablesFit}
use Rattle.router_after.proofs.Dues.{drains_none, drains_one, put_as}
use Rattle.router_after.proofs.draining.answer_first.Goals as goal

pub returns-in-None-clause-put : goal.returns-in-None-clause-put
returns-in-None-clause-put c = λ t f.
    put_as (TablesFit c.args.state.now) t _ (drains_due t) (drains_none t _ c.in-None.is (c.in_ok-soonest.ensures t f)) f

pub returns-in-None-clause-over : goal.returns-in-None-clause-over
returns-in-None-clause-over c = λ no t f. sym (drains_none t _ c.in-None.is (c.in_ok-soonest.ensures t f))

pub returns-in-Some-clause-put : goal.returns-in-Some-clause-put
returns-in-Some-clause-put c = on_ok_weaker c.answer.result
    (λ fits t f. put_as (TablesFit c.answer.new.state) t _ (drains_due t) (drains_one t _ c.in-Some.next c.in-Some.is (c.in_ok-soonest.ensures t f)) (fits t f))
    c.answer.ensures.put

pub returns-in-Some-clause-over : goal.returns-in-Some-clause-over
returns-in-Some-clause-over c = IfOk-weaker c.answer.result _ _
    (λ due over no t f. sym (drains_one t _ c.in-Some.next c.in-Some.is (c.in_ok-soonest.ensures t f)) ∙ over no t f)
    c.answer.ensures.over
