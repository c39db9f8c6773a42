use Rattle.std.proofs.Common.{refl, ◌∷◌}
use Rattle.amqp_model.specs.declared.item.Item.TheVariants as item
use Rattle.amqp_model.specs.declared.perf.Perf.TheVariants as perf
use Rattle.router_trace.specs.Trace.{Out}
use Rattle.state_messages.specs.Messages.{last_chosen}
use Rattle.state_links.proofs.Beside.{links_disposed}
use Rattle.state_links.proofs.Touches.{untouched}
use Rattle.state_messages.proofs.Known.{moved, put_counts}
use Rattle.state_messages.proofs.messages.Messages.put_disposition.Goals as goal

pub returns : goal.returns
returns c = λ t sasl bytes old.
    let conn = c.args.conn in
    let own = c.args.own in
    let x = c.args.disposition.now in
    let i = item.Frame sasl own (perf.Disposition x) bytes in
    moved c.args.self.now _ t (Out conn i ∷ t) (last_chosen t) (last_chosen (Out conn i ∷ t)) refl
    (links_disposed c.args.self.now.links conn own sasl x bytes t old.links) (c.in_ok-put_disposition-2.ensures.fits t sasl bytes old.deliveries)
    (c.in_ok-put_disposition.ensures t sasl bytes old.incoming)
    (untouched c.args.self.now.links.table) c.in_ok-put_disposition-2.ensures.touches (put_counts conn i t) (λ a. refl) (λ a. refl) old
