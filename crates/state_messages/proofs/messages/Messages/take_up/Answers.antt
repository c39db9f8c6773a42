use Rattle.std.proofs.Common.{refl}
use Rattle.router_trace.specs.declared.binding.Binding.{Binding}
use Rattle.router_trace.specs.declared.binding.TakenUp.{TakenUp}
use Rattle.state_messages.proofs.Known.{again_fits, bringing, row_to, taken_up}
use Rattle.state_messages.proofs.messages.Messages.take_up.Goals as goal

pub returns : goal.returns
returns c = λ t old.
    let from = c.producers_of-producers.result in
    let brought : TakenUp = bringing c.args.how from.origin from.told from.early from.owned in
    let bound : Binding = row_to c.args.row brought c.lasts-lasting.result c.args.format c.payload_as-payload.result c.args.consumer in
    taken_up _ t c.args.consumer from.origin from.told from.early from.owned c.args.row c.args.how c.lasts-lasting.result c.args.format c.args.payload c.payload_as-payload.result
    (c.producers_of-producers.ensures.origin t old.deliveries) (c.producers_of-producers.ensures.told t old.deliveries) (c.producers_of-producers.ensures.early t old.deliveries) (c.producers_of-producers.ensures.owned t old.deliveries)
    (c.lasts-lasting.ensures t old.links) c.payload_as-payload.ensures
    (again_fits c.args.self.now _ bound t refl refl refl
    (c.in_ok-bind-2.ensures t bound refl old.incoming) (c.in_ok-bind.ensures.fits t refl old.deliveries) c.in_ok-bind.ensures.touches old)
