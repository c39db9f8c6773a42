use Rattle.std.proofs.Common.{◌&&◌}
use Rattle.std.specs.Prelude.{nat_lt}
use Rattle.std.specs.Ordering.{nat_cmp}
use Rattle.std.specs.BTreeSet.{contains}
use Rattle.state_collections.specs.Among.{is_among}
use Rattle.state_collections.proofs.Leasts.{either_above}
use Rattle.state_collections.proofs.number_set.NumberSet.after_of_all.Goals as goal

pub returns : goal.returns
returns c =
    let number = c.args.number in
    let few = c.args.self.now.few in
    let more = c.args.self.now.more in
    either_above (λ n. is_among few.count few.places n) (λ n. contains nat_cmp more n) number c.lower.result
    (c.lower.ensures (λ n. nat_lt number n && is_among few.count few.places n) (λ n. nat_lt number n && contains nat_cmp more n) c.lowest_above.ensures c.first_above.ensures)
