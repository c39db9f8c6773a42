use Rattle.state_deliveries.proofs.Identified.{found_ids}
use Rattle.state_deliveries.proofs.by_id.ById.append_ids.Goals as goal

pub returns-clause-found : goal.returns-clause-found
returns-clause-found c = λ known fit.
    found_ids c.args.self.now c.args.conn c.args.own c.args.first c.args.last c.append_first.new.numbers.items _ known fit c.in_ok-append_first.ensures.found
    c.in_ok-append_ids.ensures.more c.in_ok-append_ids.ensures.found
