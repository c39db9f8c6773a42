use Rattle.std.proofs.Common.{rules, refl, ap}
use Rattle.std.specs.Ordering.{nat_cmp}
use Rattle.std.specs.BTreeMap.{get, btree_map_len}
use Rattle.amqp_session.proofs.Written.{written}
use Rattle.amqp_session.proofs.delivery_ids.DeliveryIds.get_mut.Goals as goal

pub returns : goal.returns
returns g c =
    let through = c.get_mut.follows.holds in
    let none = c.get_mut.follows.holds-at-none in
    let known = c.args.self.now.deliveries in
    ((refl, (λ w. (written known (c.get_mut.follows.lender w) c.number.result c.args.id w c.number.ensures (through w), (through w).2)), ((λ q. ap (λ m. get nat_cmp m q) none), ap btree_map_len none)), search rules)
