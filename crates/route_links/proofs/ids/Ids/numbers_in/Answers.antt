use Rattle.std.proofs.Common.{ap, map, List}
use Rattle.route_links.specs.declared.passing.StartNumber.{StartNumber}
use Rattle.route_links.specs.Named.{ids_of}
use Rattle.route_links.proofs.Fitted.{none_listed}
use Rattle.route_links.proofs.ids.Ids.numbers_in.Goals as goal

pub returns-then-self : goal.returns-then-self
returns-then-self c = λ h fit.
    let none = ap (λ (ns : List StartNumber). map (λ (n : StartNumber). n.0) ns) c.new.ensures.items in
    none_listed c.args.self.now h (ids_of c.args.first.0 c.args.last.0) _ c.if-self.true none fit
