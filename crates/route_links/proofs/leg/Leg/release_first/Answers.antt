use Rattle.std.proofs.Common.{◌≡◌, ◌∙◌, sym, ap, []}
use Rattle.route_links.specs.Legs.{Held}
use Rattle.route_links.specs.contracts.leg.Leg.{the_view}
use Rattle.route_links.proofs.Empties.{empty_turn, empty_behind}
use Rattle.route_links.proofs.leg.Leg.release_first.Goals as goal

pub returns-in_default-clause-turn : goal.returns-in_default-clause-turn
returns-in_default-clause-turn c =
    let nothing : c.args.self.now.queue ≡ [] = sym (ap (λ (l : Held). l.queue) c.self.view_is) ∙ (sym c.in_default.ensures.taken ∙ c.in_default.ensures.empty) in
    empty_turn c.args.allowed.now c.args.self.now nothing

pub returns-in_default-clause-behind : goal.returns-in_default-clause-behind
returns-in_default-clause-behind c =
    let nothing : c.args.self.now.queue ≡ [] = sym (ap (λ (l : Held). l.queue) c.self.view_is) ∙ (sym c.in_default.ensures.taken ∙ c.in_default.ensures.empty) in
    empty_behind c.args.allowed.now c.args.self.now c.take_first.new.first c.take_first.new.others.items (the_view c.self.inside) c.self.view_is nothing c.in_default.ensures.none c.in_default.ensures.empty
