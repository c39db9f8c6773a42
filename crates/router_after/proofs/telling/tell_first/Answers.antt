use Rattle.std.proofs.Common.{sym, ◌∙◌}
use Rattle.std.proofs.lemmas.Result.{IfOk-weaker, on_ok_weaker}
use Rattle.router_trace.specs.Following.{tells}
use Rattle.router_state.specs.Tables.{TablesFit}
use Rattle.router_after.proofs.Dues.{tells_none, tells_one, put_as}
use Rattle.router_after.proofs.telling.tell_first.Goals as goal

pub returns-in-None-clause-put : goal.returns-in-None-clause-put
returns-in-None-clause-put c = λ t f.
    put_as (TablesFit c.args.state.now) t _ (tells t) (tells_none t _ c.in-None.is (c.in_ok-first_to_tell.ensures t f)) f

pub returns-in-None-clause-over : goal.returns-in-None-clause-over
returns-in-None-clause-over c = λ no t f. sym (tells_none t _ c.in-None.is (c.in_ok-first_to_tell.ensures t f))

pub returns-in-Some-clause-put : goal.returns-in-Some-clause-put
returns-in-Some-clause-put c = on_ok_weaker c.tell.result
    (λ fits t f. put_as (TablesFit c.tell.new.state) t _ (tells t) (tells_one t _ c.in-Some.number c.in-Some.is (c.in_ok-first_to_tell.ensures t f)) (fits t f))
    c.tell.ensures.put

pub returns-in-Some-clause-over : goal.returns-in-Some-clause-over
returns-in-Some-clause-over c = IfOk-weaker c.tell.result _ _
    (λ due over no t f. sym (tells_one t _ c.in-Some.number c.in-Some.is (c.in_ok-first_to_tell.ensures t f)) ∙ over no t f)
    c.tell.ensures.over
