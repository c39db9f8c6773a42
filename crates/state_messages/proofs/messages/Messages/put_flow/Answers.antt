use Rattle.std.proofs.Common.{refl, ◌∷◌}
use Rattle.amqp_model.specs.declared.item.Item.TheVariants as item
use Rattle.amqp_model.specs.declared.perf.Perf.TheVariants as perf
use Rattle.router_trace.specs.Trace.{Out}
use Rattle.state_messages.specs.Messages.{last_chosen}
use Rattle.state_deliveries.proofs.Beside.{deliveries_flowed}
use Rattle.state_deliveries.proofs.Touching.{touches_self}
use Rattle.state_unsettled.proofs.Beside.{claims_flowed}
use Rattle.state_messages.proofs.Known.{moved, put_counts}
use Rattle.state_messages.proofs.messages.Messages.put_flow.Goals as goal

pub returns : goal.returns
returns c = λ t sasl bytes old.
    let conn = c.args.conn in
    let own = c.args.own in
    let f = c.args.flow.now in
    let i = item.Frame sasl own (perf.Flow f) bytes in
    moved c.args.self.now _ t (Out conn i ∷ t) (last_chosen t) (last_chosen (Out conn i ∷ t)) refl
    (c.in_ok-put_flow.ensures.fits t sasl bytes old.links) (deliveries_flowed c.args.self.now.deliveries conn own sasl f bytes t old.deliveries)
    (claims_flowed c.args.self.now.incoming conn own sasl f bytes t old.incoming)
    c.in_ok-put_flow.ensures.touches (touches_self c.args.self.now.deliveries.store) (put_counts conn i t) (λ a. refl) (λ a. refl) old
