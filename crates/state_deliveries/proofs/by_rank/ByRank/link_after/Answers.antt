use Rattle.std.proofs.Common.{rules, subst}
use Rattle.state_deliveries.specs.Ranking.{IsFirstEntry, has_entry, after_link}
use Rattle.state_deliveries.proofs.Above.{no_link, link_found}
use Rattle.state_deliveries.proofs.by_rank.ByRank.link_after.Goals as goal

pub returns-in-None : goal.returns-in-None
returns-in-None c = no_link c.args.self.now c.args.link (subst (λ r. IsFirstEntry (has_entry c.args.self.now) (after_link c.args.link) r) c.in-None.is
    (subst (λ low. IsFirstEntry (has_entry c.args.self.now) low c.first_entry.result) c.after_link.ensures c.first_entry.ensures))

pub returns-in-Some : goal.returns-in-Some
returns-in-Some c = link_found c.args.self.now c.args.link c.in-Some.entry (record { row = search rules; counter = search rules; number = search rules })
    (subst (λ r. IsFirstEntry (has_entry c.args.self.now) (after_link c.args.link) r) c.in-Some.is
    (subst (λ low. IsFirstEntry (has_entry c.args.self.now) low c.first_entry.result) c.after_link.ensures c.first_entry.ensures))
