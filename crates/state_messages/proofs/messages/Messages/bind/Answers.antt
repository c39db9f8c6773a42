use Rattle.std.proofs.Common.{refl, Bool}
use Rattle.router_trace.specs.declared.binding.Binding.{Binding}
use Rattle.state_messages.proofs.Known.{bound_fits, bound_to, message_to}
use Rattle.state_messages.proofs.messages.Messages.bind.Goals as goal

pub returns : goal.returns
returns c = λ t noted.
    let lasting : Bool = c.lasts-lasting.result in
    let bound : Binding = message_to c.args.origin c.args.row lasting c.args.format c.args.payload c.args.consumer in
    bound_to _ t c.args.consumer c.args.origin c.args.row lasting c.args.format c.args.payload (c.lasts-lasting.ensures t noted.links)
    (bound_fits c.args.self.now _ bound t refl refl refl
    (c.in_ok-bind-2.ensures t bound refl noted.incoming) (c.in_ok-bind.ensures.fits t refl noted.deliveries) c.in_ok-bind.ensures.touches noted)
