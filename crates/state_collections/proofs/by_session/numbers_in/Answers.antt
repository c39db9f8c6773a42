use Rattle.std.proofs.Common.{rules, ◌≡◌, ◌<◌, ◌≤◌, ◌^◌, ◌||◌, ℕ}
use Rattle.amqp_session.specs.Ranges.{has}
use Rattle.state_collections.specs.NumberMap.{is_listed}
use Rattle.state_collections.proofs.Ids.{straight_listed, wrapped_listed}
use Rattle.state_collections.proofs.by_session.numbers_in.Goals as goal

pub returns-then-low-high : goal.returns-then-low-high
returns-then-low-high g c = λ q low is.
    let one : has q c.append_between.new.numbers.items ≡ (has q c.new-numbers.result.items || is_listed c.args.ids.now c.args.first c.args.last q) = search rules in
    straight_listed c.args.first c.args.last q c.args.ids.now c.new-numbers.result.items c.append_between.new.numbers.items c.new-numbers.ensures.items (search rules) (search rules) low is one

pub returns : goal.returns
returns g c = λ q low is.
    let one : has q c.append_between-2.new.numbers.items ≡ (has q c.new-numbers.result.items || is_listed c.args.ids.now c.args.first 4294967295 q) = search rules in
    let two : has q c.append_between-3.new.numbers.items ≡ (has q c.append_between-2.new.numbers.items || is_listed c.args.ids.now 0 c.args.last q) = search rules in
    wrapped_listed c.args.first c.args.last q c.args.ids.now c.new-numbers.result.items c.append_between-2.new.numbers.items c.append_between-3.new.numbers.items c.new-numbers.ensures.items (search rules) (search rules) low is one two
