use Rattle.std.proofs.Common.{refl}
use Rattle.amqp_model.specs.declared.item.Item.TheVariants as item
use Rattle.amqp_model.specs.declared.perf.Perf.TheVariants as perf
use Rattle.state_connections.proofs.Beside.{peers_stay}
use Rattle.router_state.proofs.tables.State.note_transfer.Goals as goal

pub returns-clause-found : goal.returns-clause-found
returns-clause-found c = λ t sasl fit.
    let conn = c.args.conn in
    let own = c.args.own in
    let bytes = c.args.payload.now in
    let i = item.Frame sasl own (perf.Transfer c.args.transfer.now) bytes in
    record {
      clocks = c.in_ok-write.ensures t i refl fit.clocks;
      peers = peers_stay c.args.self.now.peers conn i t refl fit.peers;
      sessions = c.put_transfer-2.ensures t sasl bytes c.args.transfer.now fit.sessions;
      messages = c.in_ok-put_transfer.ensures t sasl fit.messages;
    }
