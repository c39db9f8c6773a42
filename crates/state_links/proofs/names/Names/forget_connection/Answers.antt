use Rattle.std.proofs.Common.{◌∙◌, refl, sym, ap, ℕ}
use Rattle.std.specs.List.{list_any}
use Rattle.std.specs.BTreeMap.{BTreeMap}
use Rattle.std.specs.Map.Iter.{deref_pair}
use Rattle.std.proofs.lemmas.Map.Iter.{rest_more}
use Rattle.state_links.specs.declared.link.Link.{Link}
use Rattle.state_links.specs.Naming.{on_conn}
use Rattle.state_links.specs.Touching.{in_session}
use Rattle.state_links.proofs.Thinning.{none_gone, and_further, session_of_conn}
use Rattle.state_links.proofs.Touches.{neither}
use Rattle.state_links.proofs.names.Names.forget_connection.Goals as goal

pub loop-own-init : goal.loop-own-init
loop-own-init c = (none_gone (on_conn c.args.conn) c.args.self.now, λ k e. (ap (list_any (λ (x : ℕ × BTreeMap ℕ Link). in_session k x.1)) c.into_iter-own-iterator.ensures.into_iter_gives.0 ∙ e, refl))

pub loop-own-preserved : goal.loop-own-preserved
loop-own-preserved c =
    let whole = rest_more deref_pair _ _ _ _ c.in-Some.is c.next.ensures.steps in (
      and_further (on_conn c.args.conn) _ _ _ c.loop-own.invariant.0 (session_of_conn _ _ _ _ c.forget_session.ensures.thinned),
      λ k e.
          let before = c.loop-own.invariant.1 k e in
          let parts = neither (in_session k c.in-Some.handles.now) (list_any (λ (x : ℕ × BTreeMap ℕ Link). in_session k x.1) c.next.new.self) (sym (ap (list_any (λ (x : ℕ × BTreeMap ℕ Link). in_session k x.1)) whole) ∙ before.0) in
          (parts.1, before.1 ∙ c.forget_session.ensures.others k parts.0),
    )
