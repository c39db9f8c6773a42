use Rattle.std.proofs.Common.{rules, ◌≡◌, ◌^◌, ◌++◌, sym, subst, ap, true, ◌∙◌, nat_lt}
use Rattle.amqp_session.specs.Serials.{distance}
use Rattle.amqp_session.specs.Ranges.{has, IsRising}
use Rattle.amqp_session.proofs.Ranges.{ids_within, straight_exact, straight_rising, straight_few, wrapped_exact, wrapped_rising, wrapped_few}
use Rattle.amqp_session.proofs.delivery_ids.DeliveryIds.in_range.Goals as goal

pub returns-then-low-high-clause-exact : goal.returns-then-low-high-clause-exact
returns-then-low-high-clause-exact g c = λ id small.
    let is : c.append.new.ids.items ≡ ids_within c.args.first c.args.last c.args.self.now.deliveries.entries = search rules in
    let half : nat_lt (distance c.args.first c.args.last) (2 ^ 31) ≡ true = search rules in
    ap (has id) is ∙ straight_exact c.args.first c.args.last id c.args.self.now.deliveries (search rules) (search rules) small half

pub returns-then-low-high-clause-rising : goal.returns-then-low-high-clause-rising
returns-then-low-high-clause-rising g c =
    let is : c.append.new.ids.items ≡ ids_within c.args.first c.args.last c.args.self.now.deliveries.entries = search rules in
    subst (IsRising c.args.first) (sym is) (straight_rising c.args.first c.args.last c.args.self.now.deliveries (search rules) c.range.ensures.ordered)

pub returns-clause-exact : goal.returns-clause-exact
returns-clause-exact g c = λ id small.
    let is : c.append-3.new.ids.items ≡ ids_within c.args.first 4294967295 c.args.self.now.deliveries.entries ++ ids_within 0 c.args.last c.args.self.now.deliveries.entries = search rules in
    let half : nat_lt (distance c.args.first c.args.last) (2 ^ 31) ≡ true = search rules in
    ap (has id) is ∙ wrapped_exact c.args.first c.args.last id c.args.self.now.deliveries (search rules) (search rules) small half

pub returns-clause-rising : goal.returns-clause-rising
returns-clause-rising g c =
    let is : c.append-3.new.ids.items ≡ ids_within c.args.first 4294967295 c.args.self.now.deliveries.entries ++ ids_within 0 c.args.last c.args.self.now.deliveries.entries = search rules in
    subst (IsRising c.args.first) (sym is) (wrapped_rising c.args.first c.args.last c.args.self.now.deliveries (search rules) (search rules) c.range-2.ensures.ordered)

pub returns-then-low-high-clause-few : goal.returns-then-low-high-clause-few
returns-then-low-high-clause-few g c =
    let is : c.append.new.ids.items ≡ ids_within c.args.first c.args.last c.args.self.now.deliveries.entries = search rules in
    rw is (straight_few c.args.first c.args.last c.args.self.now.deliveries.entries)

pub returns-clause-few : goal.returns-clause-few
returns-clause-few g c =
    let is : c.append-3.new.ids.items ≡ ids_within c.args.first 4294967295 c.args.self.now.deliveries.entries ++ ids_within 0 c.args.last c.args.self.now.deliveries.entries = search rules in
    rw is (wrapped_few c.args.first c.args.last c.args.self.now.deliveries.entries (search rules))
