use Rattle.std.proofs.Common.{◌∷◌, Bool, subst, sym}
use Rattle.amqp_model.specs.declared.item.Item.{Item}
use Rattle.amqp_model.specs.declared.item.Item.TheVariants as item
use Rattle.router_trace.specs.Trace.{did}
use Rattle.state_connections.specs.Peering.{PeersFit}
use Rattle.router_trace.specs.declared.event.Event.TheVariants as event
use Rattle.state_connections.proofs.peers.Peers.hear.Goals as goal

pub returns-in_ok-hear_perf-in-Frame : goal.returns-in_ok-hear_perf-in-Frame
returns-in_ok-hear_perf-in-Frame c = λ t fit.
    let it = c.in-Frame in
    subst (λ (i : Item). PeersFit c.hear_perf.new.self (did (event.Item c.args.conn i) ∷ t)) (sym it.is)
    (subst (λ (b : Bool). PeersFit c.hear_perf.new.self (did (event.Item c.args.conn (item.Frame b it.channel it.perf it.payload)) ∷ t)) (sym c.if-not-sasl.true)
    (c.in_ok-hear_perf-in-Frame.ensures t it.channel it.payload fit))
