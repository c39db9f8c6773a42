use Rattle.std.proofs.Common.{sym, subst}
use Rattle.state_deliveries.specs.Ranking.{IsFirstIn, in_group}
use Rattle.state_deliveries.proofs.Above.{first_found}
use Rattle.state_deliveries.proofs.by_rank.ByRank.first.Goals as goal

pub returns : goal.returns
returns c = subst (IsFirstIn (in_group c.args.self.now c.args.link)) (sym c.on_link.ensures) (first_found c.args.self.now c.args.link _ c.first_entry-found.ensures)
