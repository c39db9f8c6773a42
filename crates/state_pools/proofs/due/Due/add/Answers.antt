use Rattle.std.proofs.Common.{◌∙◌, sym}
use Rattle.state_pools.proofs.Among.{any_is, come, not_before}
use Rattle.state_pools.proofs.due.Due.add.Goals as goal

pub returns-then-contains-clause-added : goal.returns-then-contains-clause-added
returns-then-contains-clause-added c = sym (any_is (λ k. k.items) c.args.self.now.more.keys c.args.address.now) ∙ sym c.contains.ensures ∙ c.if-contains.true

pub returns-clause-added : goal.returns-clause-added
returns-clause-added c = come (λ k. k.items) c.args.self.now.more.keys c.insert.new.self.keys c.in_ok-key.key c.args.address.now (c.in_ok-key.ensures.items_if_clones_equal (λ x y e. e)) c.in_ok-insert.ensures.keys

pub returns-clause-others : goal.returns-clause-others
returns-clause-others c a = not_before (λ k. k.items) c.args.self.now.more.keys c.insert.new.self.keys c.in_ok-key.key a c.in_ok-insert.ensures.keys
