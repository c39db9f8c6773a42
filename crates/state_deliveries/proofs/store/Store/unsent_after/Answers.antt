use Rattle.std.proofs.Common.{ℕ, Option, sym, subst}
use Rattle.std.specs.Prelude.{◌&&◌}
use Rattle.router_trace.specs.declared.binding.Rank.{Rank}
use Rattle.state_collections.specs.NumberMap.{at_number}
use Rattle.state_deliveries.specs.Finding.{is_behind}
use Rattle.state_deliveries.specs.Ranking.{IsFirstIn, in_group, is_past}
use Rattle.state_deliveries.proofs.store.Store.unsent_after.Goals as goal

pub returns-in-Some : goal.returns-in-Some
returns-in-Some c =
    let store = c.args.self.now in
    subst (λ (v : Option ℕ). IsFirstIn (λ r n. is_past (at_number store.deliveries) v r n && in_group store.index.unsent c.args.link r n) c.first_after.result) (sym c.in-Some.is)
    (subst (λ (q : Rank). IsFirstIn (λ r n. is_behind q c.in-Some.number r n && in_group store.index.unsent c.args.link r n) c.first_after.result) c.rank.ensures
    c.first_after.ensures)
