use Rattle.std.proofs.Common.{◌≡◌, ◌∙◌, ℕ, refl, ap, sym, subst}
use Rattle.std.specs.Prelude.{if◌then◌else◌, Some, None}
use Rattle.state_collections.specs.NumberMap.{at_number}
use Rattle.router_trace.specs.Deliveries.{Delivery, same_name}
use Rattle.state_deliveries.specs.declared.by_name.ByName.{ByName}
use Rattle.state_deliveries.specs.declared.index.Index.{Index}
use Rattle.state_deliveries.specs.Calling.{at_name, AreCalled}
use Rattle.state_deliveries.specs.Indexing.{Indexes, Keys, keys, nowhere, standing}
use Rattle.state_deliveries.specs.Touching.{is_touched_in}
use Rattle.state_deliveries.proofs.Called.{called_out}
use Rattle.state_deliveries.proofs.Reindexed.{put_at}
use Rattle.state_deliveries.proofs.Touching.{touches_at}
use Rattle.state_deliveries.proofs.store.Store.remove.Goals as goal

pub returns-clause-indexed : goal.returns-clause-indexed
returns-clause-indexed c = λ before.
    let old = at_number c.args.self.now.deliveries in
    let known : ℕ → Keys = λ n. standing (old n) in
    let was : old c.args.number ≡ Some c.in-Some.taken = sym c.take.ensures.gives ∙ c.in-Some.is in
    record {
      indexes = put_at c.withdraw.new.self c.args.number (λ v. None) old (at_number c.take.new.self.deliveries) c.take.ensures.gone
          (c.in_ok-withdraw.ensures.indexed known (ap standing was ∙ sym (ap keys c.as_ref-delivery.ensures)) (subst (λ (x : Index). Indexes x known) (sym c.take.ensures.index) before.indexes));
      called = called_out c.take.new.self.by_name c.forget.new.self c.args.number c.in-Some.taken old (at_number c.take.new.self.deliveries) was c.take.ensures.gone
          (λ m. c.forget.ensures m
          ∙ ap (λ (d : Delivery). if same_name d.name m then None else at_name c.take.new.self.by_name m) (c.delivery.view_is ∙ c.as_ref-delivery.ensures))
          (subst (λ (x : ByName). AreCalled x old) (sym c.take.ensures.by_name) before.called);
    }

pub returns-clause-touches : goal.returns-clause-touches
returns-clause-touches c =
    let was : at_number c.args.self.now.deliveries c.args.number ≡ Some c.in-Some.taken = sym c.take.ensures.gives ∙ c.in-Some.is in
    touches_at c.args.self.now _ c.args.number (λ v. None) (keys c.as_ref-delivery.result.now) nowhere
    (ap keys c.as_ref-delivery.ensures ∙ sym (ap standing was)) refl c.take.ensures.gone
    (λ k f. let noted = c.in_ok-withdraw.ensures.touched k f in (ap (λ s. is_touched_in s k) (sym c.take.ensures.touched) ∙ noted.0, noted.1))
