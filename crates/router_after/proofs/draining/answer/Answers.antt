use Rattle.router_trace.specs.Sessions.{session}
use Rattle.router_trace.specs.Following.{link_of}
use Rattle.router_state.specs.Tables.{TablesFit}
use Rattle.router_after.proofs.Dues.{answers, put_as}
use Rattle.router_after.proofs.draining.answer.Goals as goal

pub returns-clause-put : goal.returns-clause-put
returns-clause-put c = λ t f.
    let p = c.args.place in
    put_as (TablesFit c.put.new.self) t _ _
    (answers p (session t p.conn.0 p.channel) (link_of t p) c.in-Some.told c.in-Some-drained.drained c.link_flow_item.result (c.in-Some.ensures t f) (c.in-Some-drained.ensures t f)
    c.link_flow_item.ensures)
    (c.in_ok-put.ensures t f)
