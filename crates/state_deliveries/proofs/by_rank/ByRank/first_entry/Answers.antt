use Rattle.std.specs.BTreeSet.{contains}
use Rattle.state_deliveries.specs.Placing.{key_cmp}
use Rattle.state_deliveries.specs.Ranking.{is_entry}
use Rattle.state_deliveries.proofs.by_rank.ByRank.first_entry.Goals as goal

pub returns : goal.returns
returns c = c.lower.ensures (is_entry c.args.self.now.place) (contains key_cmp c.args.self.now.others) c.args.low c.in_place.ensures c.first_entry.ensures
