use Rattle.std.proofs.Common.{◌∙◌, sym, ap, ◌-◌}
use Rattle.std.specs.Prelude.{option_and_then}
use Rattle.route_credit.specs.Ranks.{rank_at}
use Rattle.route_credit.specs.Links.{amount_at, link_at}
use Rattle.route_credit.proofs.Indices.{indexed_less}
use Rattle.route_credit.proofs.Lookups.{without_first}
use Rattle.route_credit.proofs.links.Links.take_out.Goals as goal

pub returns-clause-whole : goal.returns-clause-whole
returns-clause-whole g c is =
    let rank = g.T.Weigh.rank c.args.distribution in
    let ranks = rank_at rank c.args.self.now.rows.entries in
    let before = sym (c.rank_of.ensures ∙ ap (option_and_then rank) c.remove-old.ensures.value) in
    indexed_less rank g.T.Weigh.amount c.args.self.now _ c.args.id is
    (c.unset.ensures ranks is.ranks before) c.remove-old.ensures.entries c.remove-old.ensures.updates.0 (c.saturating_sub-self.ensures ∙ ap (λ n. c.args.self.now.total - n) (c.amount_of.ensures ∙ ap (amount_at g.T.Weigh.amount) c.remove-old.ensures.value)) c.remove-old.ensures.ordered

pub returns-clause-removed : goal.returns-clause-removed
returns-clause-removed g c = c.remove-old.ensures.entries ∙ without_first c.args.self.now.rows.entries c.args.id (ap (λ es. link_at es c.args.id) (sym c.remove-old.ensures.entries) ∙ c.remove-old.ensures.updates.1)
