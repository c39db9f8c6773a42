use Rattle.std.proofs.Common.{refl, ◌∷◌}
use Rattle.amqp_model.specs.declared.item.Item.TheVariants as item
use Rattle.amqp_model.specs.declared.perf.Perf.TheVariants as perf
use Rattle.router_trace.specs.Trace.{Out}
use Rattle.state_messages.specs.Messages.{last_chosen}
use Rattle.state_unsettled.proofs.Beside.{claims_transferred}
use Rattle.state_messages.proofs.Known.{moved, put_counts}
use Rattle.state_messages.proofs.messages.Messages.put_transfer.Goals as goal

pub returns : goal.returns
returns c = λ t sasl old.
    let conn = c.args.conn in
    let own = c.args.own in
    let x = c.args.transfer.now in
    let bytes = c.args.payload.now in
    let i = item.Frame sasl own (perf.Transfer x) bytes in
    moved c.args.self.now _ t (Out conn i ∷ t) (last_chosen t) (last_chosen (Out conn i ∷ t)) refl
    (c.in_ok-put_transfer-2.ensures.fits t sasl bytes old.links) (c.in_ok-put_transfer.ensures.fits t sasl old.deliveries)
    (claims_transferred c.args.self.now.incoming conn own sasl x bytes t old.incoming)
    c.in_ok-put_transfer-2.ensures.touches c.in_ok-put_transfer.ensures.touches (put_counts conn i t) (λ a. refl) (λ a. refl) old
