use Rattle.std.proofs.Common.{◌∙◌, ap, if◌then◌else◌, None}
use Rattle.std.specs.Str.{bytes_eq}
use Rattle.state_pools.specs.Addresses.{at_address}
use Rattle.state_pools.specs.ByBytes.{at}
use Rattle.state_pools.proofs.AtAddress.{insert_at}
use Rattle.state_pools.proofs.Places.{more_put}
use Rattle.state_pools.proofs.by_bytes.ByBytes.put.Goals as goal

pub returns-in-Ok : goal.returns-in-Ok
returns-in-Ok g c =
    let q = c.args.address.items in
    let removed = c.remove.new.self in
    more_put removed.first (at c.args.self.now) (at_address removed.more.entries (λ k. k.items)) (at_address c.insert.new.self.entries (λ k. k.items)) q c.args.value
    (λ a. c.remove.ensures a ∙ ap (λ k. if bytes_eq k a then None else at c.args.self.now a) c.as_slice-place.ensures.value)
    (λ a. ap (λ es. at_address es (λ k. k.items) a) c.in-Ok.ensures.entries ∙ insert_at (λ k. k.items) removed.more.entries c.args.address c.args.value a)
