use Rattle.std.proofs.Common.{◌∙◌, refl, sym, ap, ℕ}
use Rattle.std.specs.Prelude.{◌==◌}
use Rattle.std.specs.List.{list_any}
use Rattle.std.specs.Map.Iter.{deref_pair}
use Rattle.std.proofs.lemmas.Map.Iter.{rest_more}
use Rattle.state_links.specs.declared.link.Link.{Link}
use Rattle.state_links.specs.Naming.{on_session}
use Rattle.state_links.proofs.Thinning.{none_gone, and_further, handle_of_session}
use Rattle.state_links.proofs.Touches.{neither}
use Rattle.state_links.proofs.names.Names.forget_session.Goals as goal

pub loop-handle-init : goal.loop-handle-init
loop-handle-init c = (none_gone (on_session c.args.conn c.args.own) c.args.self.now, λ k e. (ap (list_any (λ (x : ℕ × Link). x.1.number == k)) c.into_iter-handle-iterator.ensures.into_iter_gives.0 ∙ e, refl))

pub loop-handle-preserved : goal.loop-handle-preserved
loop-handle-preserved c =
    let whole = rest_more deref_pair _ _ _ _ c.in-Some.is c.next.ensures.steps in (
      and_further (on_session c.args.conn c.args.own) _ _ _ c.loop-handle.invariant.0 (handle_of_session _ _ _ _ _ c.forget.ensures.thinned),
      λ k e.
          let before = c.loop-handle.invariant.1 k e in
          let parts = neither (c.in-Some.link.now.number == k) (list_any (λ (x : ℕ × Link). x.1.number == k) c.next.new.self) (sym (ap (list_any (λ (x : ℕ × Link). x.1.number == k)) whole) ∙ before.0) in
          (parts.1, before.1 ∙ c.forget.ensures.others k parts.0),
    )
