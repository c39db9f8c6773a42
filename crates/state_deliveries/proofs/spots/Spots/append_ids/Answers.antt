use Rattle.std.proofs.Common.{◌≡◌, ◌∙◌, true, false, rules, sym, ap}
use Rattle.state_deliveries.proofs.Placed.{found_straight, found_wrapped, nowhere_at}
use Rattle.state_deliveries.specs.Placing.{is_id_there}
use Rattle.state_deliveries.proofs.spots.Spots.append_ids.Goals as goal

pub returns-then-first-last-clause-found : goal.returns-then-first-last-clause-found
returns-then-first-last-clause-found c = λ known fit.
    found_straight c.args.self.now c.args.conn c.args.own c.args.first c.args.last _ known fit (search rules) (search rules) (c.in_ok-append_between.ensures.found known fit)

pub returns-clause-found : goal.returns-clause-found
returns-clause-found c = λ known fit.
    found_wrapped c.args.self.now c.args.conn c.args.own c.args.first c.args.last c.append_between-2.new.numbers.items _ known fit (search rules) (search rules)
    (c.in_ok-append_between-2.ensures.found known fit) c.in_ok-append_between-3.ensures.more (c.in_ok-append_between-3.ensures.found known fit)

pub returns-then-is_empty-clause-found : goal.returns-then-is_empty-clause-found
returns-then-is_empty-clause-found c = λ known fit n there.
    let wrong : true ≡ false = sym there ∙ ap (is_id_there c.args.conn c.args.own c.args.first c.args.last) (nowhere_at c.args.self.now known fit (search rules) n) in
    absurd cc
