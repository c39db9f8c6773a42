use Rattle.state_pools.proofs.Among.{popped}
use Rattle.state_pools.proofs.due.Due.pop.Goals as goal

pub returns-clause-first : goal.returns-clause-first
returns-clause-first c = popped (λ k. k.items) c.pop_first.result c.args.self.now.more.keys c.pop_first.new.self.keys c.pop_first.ensures.removal c.pop_first.ensures.all_above
