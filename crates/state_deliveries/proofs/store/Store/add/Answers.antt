use Rattle.std.proofs.Common.{◌≡◌, ◌∙◌, ℕ, refl, ap, sym, subst}
use Rattle.std.specs.Prelude.{◌==◌, if◌then◌else◌, Some}
use Rattle.state_collections.specs.NumberMap.{at_number}
use Rattle.router_trace.specs.Deliveries.{Delivery, bound}
use Rattle.state_deliveries.specs.Indexing.{Indexes, keys, nowhere, standing}
use Rattle.state_deliveries.specs.Touching.{StandsSame}
use Rattle.state_deliveries.proofs.Called.{called_more}
use Rattle.state_deliveries.proofs.Reindexed.{put_at}
use Rattle.state_deliveries.proofs.Touching.{touches_at}
use Rattle.state_deliveries.proofs.store.Store.add.Goals as goal

pub returns-clause-indexed : goal.returns-clause-indexed
returns-clause-indexed c = λ none alone before.
    let old = at_number c.args.self.now.deliveries in
    let new = bound c.args.name c.args.rank c.args.binding in
    let there : (n : ℕ) → at_number c.insert.new.self n ≡ (if c.args.number == n then Some new else old n)
    = λ n. c.in_ok-insert.ensures.set n ∙ ap (λ (d : Delivery). if c.args.number == n then Some d else old n) (c.in_ok-delivery.ensures ∙ c.bound-delivery.ensures)
    in
    record {
      indexes = put_at c.enter.new.self c.args.number (λ v. Some new) old (at_number c.insert.new.self) there
          (subst (λ (d : Delivery). Indexes c.enter.new.self (λ n. if c.args.number == n then keys d else standing (old n))) c.bound-delivery.ensures
          (c.in_ok-enter.ensures.indexed (λ n. standing (old n)) (ap standing none) before.indexes));
      called = called_more c.args.self.now.by_name c.set.new.self c.args.number c.args.name c.args.rank c.args.binding old (at_number c.insert.new.self) none alone there
          c.in_ok-set.ensures before.called;
    }

pub returns-clause-touches : goal.returns-clause-touches
returns-clause-touches c = λ none.
    let old = at_number c.args.self.now.deliveries in
    let new = bound c.args.name c.args.rank c.args.binding in
    touches_at c.args.self.now _ c.args.number (λ v. Some new) nowhere (keys new) (ap standing (sym none)) refl
    (λ n. c.in_ok-insert.ensures.set n ∙ ap (λ (d : Delivery). if c.args.number == n then Some d else old n) (c.in_ok-delivery.ensures ∙ c.bound-delivery.ensures))
    (λ k f. let noted = c.in_ok-enter.ensures.touched k f in (noted.0, subst (λ (d : Delivery). StandsSame k nowhere (keys d)) c.bound-delivery.ensures noted.1))
