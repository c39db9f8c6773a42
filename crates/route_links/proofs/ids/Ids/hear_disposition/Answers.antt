use Rattle.std.proofs.Common.{◌≡◌, rules, sym, subst, ◌∷◌, Bool, true}
use Rattle.route_links.specs.Naming.{Held}
use Rattle.route_links.specs.Named.{IdsFit}
use Rattle.route_links.specs.Frames.{disposition_came}
use Rattle.route_links.proofs.ids.Ids.hear_disposition.Goals as goal

pub returns-in-Ok-clause-ok : goal.returns-in-Ok-clause-ok
returns-in-Ok-clause-ok c = λ h fit.
    let is : c.args.settled ≡ true = search rules in
    subst (λ (b : Bool). IdsFit c.settle.new.self (disposition_came c.args.number.0 b h)) (sym is) (c.settle.ensures (Held c.args.number.0 ∷ h) (c.in-Ok.ensures.ok h fit))
