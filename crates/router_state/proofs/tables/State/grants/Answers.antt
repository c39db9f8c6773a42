use Rattle.std.proofs.Common.{◌∙◌, ◌++◌, sym, ap}
use Rattle.std.proofs.lemmas.List.{append-nil, drop_all}
use Rattle.router_trace.specs.Trace.{puts_of}
use Rattle.state_messages.specs.Messages.{grant_flows}
use Rattle.router_state.proofs.tables.State.grants.Goals as goal

pub returns-clause-due : goal.returns-clause-due
returns-clause-due c = λ t fit.
    let all = c.deref-grant-items.result.now in
    let flows = puts_of c.loop-grant.flows.items in
    sym (append-nil flows)
    ∙ sym (ap (λ left. flows ++ grant_flows t left) (drop_all c.loop-grant.grant-index all c.loop-grant-test.false))
    ∙ c.loop-grant.invariant t
    (record {
      connections = fit.connections;
      ready = fit.ready;
      clocks = fit.clocks;
      peers = fit.peers;
      sessions = fit.sessions;
      messages = c.in_ok-grants.ensures.fits t fit.messages;
    })
    ∙ ap (grant_flows t) (c.deref-grant-items.ensures.value ∙ c.in_ok-grants.ensures.due t fit.messages)
