use Rattle.std.proofs.Common.{◌∙◌, sym, ap}
use Rattle.state_pools.specs.Addresses.{at_address}
use Rattle.state_pools.proofs.AtAddress.{lookup_is, removed_elsewhere}
use Rattle.state_pools.proofs.Places.{both_removed}
use Rattle.state_pools.proofs.by_bytes.ByBytes.remove.Goals as goal

pub returns-then-not-is_empty : goal.returns-then-not-is_empty
returns-then-not-is_empty g c =
    let more = c.args.self.now.more.entries in
    let q = c.args.address.now in
    both_removed c.args.self.now.first c.take_first.new.self.first (at_address more (λ k. k.items)) (at_address c.remove.new.self.entries (λ k. k.items)) q c.take_first.ensures.first
    (sym (lookup_is (λ k. k.items) c.remove.new.self.entries q) ∙ c.remove.ensures.updates.1)
    (λ a other. ap (λ es. at_address es (λ k. k.items) a) c.remove.ensures.entries ∙ removed_elsewhere (λ k. k.items) c.take_first.new.self.more.entries q a other ∙ ap (λ m. at_address m.entries (λ k. k.items) a) c.take_first.ensures.more)
