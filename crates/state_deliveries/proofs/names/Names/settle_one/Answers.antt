use Rattle.std.proofs.Common.{◌≡◌, ◌∙◌, ap}
use Rattle.std.specs.Prelude.{◌==◌}
use Rattle.state_collections.specs.NumberMap.{at_number}
use Rattle.std.proofs.lemmas.Bool.{eqb-true}
use Rattle.router_trace.specs.Deliveries.{named}
use Rattle.state_collections.specs.Ids.{at_id}
use Rattle.state_deliveries.specs.Naming.{kept_name}
use Rattle.state_deliveries.proofs.Named.{settled_row}
use Rattle.state_deliveries.proofs.names.Names.settle_one.Goals as goal

pub returns : goal.returns
returns c = λ t all fit.
    let old = at_id c.args.self.now.ids in
    let conn = c.args.conn in
    let own = c.args.own in
    let id = c.args.id in
    let known = at_number c.args.store.now.deliveries in
    let kept : c.kept_name-name.result ≡ kept_name (old conn own id) known = c.kept_name-name.ensures ∙ ap (λ v. kept_name v known) c.get.ensures in
    record {
      names = λ d o q. settled_row t (conn == d) (own == o) (id == q) _ (old d o q) (named t d o q) c.kept_name-name.result known all
          (λ e f g. kept ∙ ap (λ k. kept_name (old k own id) known) (eqb-true conn d e) ∙ ap (λ k. kept_name (old d k id) known) (eqb-true own o f) ∙ ap (λ k. kept_name (old d o k) known) (eqb-true id q g))
          (c.in_ok-set.ensures.named d o q) (fit.names d o q);
      small = c.in_ok-set.ensures.small fit.small;
    }
