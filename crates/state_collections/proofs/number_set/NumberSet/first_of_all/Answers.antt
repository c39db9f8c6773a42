use Rattle.std.specs.Ordering.{nat_cmp}
use Rattle.std.specs.BTreeSet.{contains}
use Rattle.state_collections.specs.Among.{is_among}
use Rattle.state_collections.proofs.number_set.NumberSet.first_of_all.Goals as goal

pub returns : goal.returns
returns c = c.lower.ensures (λ n. is_among c.args.self.now.few.count c.args.self.now.few.places n) (λ n. contains nat_cmp c.args.self.now.more n) c.lowest.ensures c.first.ensures
