use Rattle.std.proofs.Common.{sym, subst}
use Rattle.std.specs.Prelude.{◌&&◌}
use Rattle.state_deliveries.specs.Finding.{is_behind}
use Rattle.state_deliveries.specs.Ranking.{IsFirstIn, in_group}
use Rattle.state_deliveries.proofs.Above.{next_found}
use Rattle.state_deliveries.proofs.by_rank.ByRank.first_after.Goals as goal

pub returns : goal.returns
returns c = subst (IsFirstIn (λ r n. is_behind c.args.rank c.args.number r n && in_group c.args.self.now c.args.link r n)) (sym c.on_link.ensures)
    (next_found c.args.self.now c.args.link c.args.rank c.args.number _ c.first_entry-found.ensures)
