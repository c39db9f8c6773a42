use Rattle.std.proofs.Common.{rules, ◌≡◌, ◌++◌}
use Rattle.std.specs.Option.{is_some}
use Rattle.amqp_session.proofs.Ranges.{ids_within}
use Rattle.state_collections.specs.NumberMap.{in_places}
use Rattle.state_collections.proofs.Remainders.{listed}
use Rattle.state_collections.proofs.number_map.NumberMap.append_between.Goals as goal

pub returns : goal.returns
returns g c = λ n.
    let before = c.append_numbers.new.numbers.items in
    let is : c.append_range.new.numbers.items ≡ before ++ ids_within c.args.low c.args.high c.args.self.now.others.entries = search rules in
    listed (λ k. is_some (in_places c.args.self.now.placed k)) c.args.self.now.others c.args.low c.args.high n c.args.numbers.now.items before c.append_range.new.numbers.items
    (c.in_ok-append_numbers.ensures n) is
