use Rattle.std.proofs.Common.{◌∙◌, ap, refl, if◌then◌else◌}
use Rattle.std.specs.Prelude.{◌==◌, option_and_then}
use Rattle.std.specs.Ordering.{nat_cmp}
use Rattle.std.specs.BTreeMap.{get}
use Rattle.route_links.specs.declared.ids.Known.{Known}
use Rattle.route_links.specs.Naming.{unless_over}
use Rattle.route_links.proofs.Fitted.{fits_settled}
use Rattle.route_links.proofs.ids.Ids.settle_known.Goals as goal

pub returns : goal.returns
returns c = λ h fit.
    let before = c.args.self.now.known in
    fits_settled c.args.self.now _ h c.args.number c.args.known c.requires refl refl refl
    (λ q. c.keep.ensures q ∙ ap (λ (k : Known). if c.args.number == q then option_and_then (λ _. unless_over k) (get nat_cmp before q) else get nat_cmp before q) c.settled.ensures)
    c.release.ensures c.release_any.ensures fit
