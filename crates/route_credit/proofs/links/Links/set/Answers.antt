use Rattle.std.proofs.Common.{◌∙◌, sym, ap, refl, ◌+◌, ◌-◌, cond, is_some, Some}
use Rattle.std.specs.Prelude.{option_and_then}
use Rattle.std.specs.BTreeMap.{get, is_at}
use Rattle.std.specs.Map.{set_value}
use Rattle.std.specs.Ordering.{nat_cmp}
use Rattle.std.proofs.lemmas.Map.Steps.{set_value_same}
use Rattle.std.specs.Result.{OnErr}
use Rattle.std.specs.declared.result.Result.{Result}
use Rattle.std.specs.declared.result.Result.TheVariants.{Ok, Err}
use Rattle.route_credit.specs.Ranks.{rank_at}
use Rattle.route_credit.specs.declared.links.Links.{Links}
use Rattle.route_credit.specs.Links.{amount_at}
use Rattle.route_credit.proofs.Entries.{written_is}
use Rattle.route_credit.proofs.Indices.{indexed_same, indexed_set}
use Rattle.route_credit.proofs.links.Links.set.Goals as goal

on_err : {X Y : Type 0} (r : Result X Y) (P : Type 0) → P → OnErr r P
on_err (Ok x) P p = tt
on_err (Err y) P p = p

pub returns-then-is_same-clause-set : goal.returns-then-is_same-clause-set
returns-then-is_same-clause-set g c =
    let entries = c.args.self.now.rows.entries in
    (c.get_mut.follows.holds c.in-Some.known.now).0
    ∙ ap (set_value (is_at (nat_cmp c.args.id)) entries) (c.is_same.ensures c.if-is_same.true)
    ∙ written_is entries c.args.id c.args.link c.in-Some.known.now c.in-Some.ensures.ordered c.in-Some.ensures.value

pub returns-then-is_same-clause-whole : goal.returns-then-is_same-clause-whole
returns-then-is_same-clause-whole g c is =
    let known = c.in-Some.known.now in
    indexed_same (g.T.Weigh.rank c.args.distribution) g.T.Weigh.amount c.args.self.now (c.get_mut.follows.lender known)
    ((c.get_mut.follows.holds known).0 ∙ set_value_same (is_at (nat_cmp c.args.id)) c.args.self.now.rows.entries known (sym c.in-Some.ensures.value)) is

pub returns-in_err-change-clause-err : goal.returns-in_err-change-clause-err
returns-in_err-change-clause-err g c = on_err c.from_residual.result _ ((c.get_mut.follows.holds c.change.new.known).0
    ∙ set_value_same (is_at (nat_cmp c.args.id)) c.args.self.now.rows.entries c.change.new.known (sym (ap Some c.in_err-change.ensures.known_stays ∙ c.in-Some.ensures.value)))

pub returns-in_err-change-clause-whole : goal.returns-in_err-change-clause-whole
returns-in_err-change-clause-whole g c is =
    let rank = g.T.Weigh.rank c.args.distribution in
    let links : Links g.row.T.Denot = record { rows = c.args.self.now.rows; ranking = c.change.new.ranking; total = c.change.new.total } in
    indexed_same rank g.T.Weigh.amount links (c.get_mut.follows.lender c.change.new.known)
    ((c.get_mut.follows.holds c.change.new.known).0 ∙ set_value_same (is_at (nat_cmp c.args.id)) c.args.self.now.rows.entries c.change.new.known (sym (ap Some c.in_err-change.ensures.known_stays ∙ c.in-Some.ensures.value)))
    (record { ranks = c.in_err-change.ensures.ranks_stay _ is.ranks; total = c.in_err-change.ensures.total_stays ∙ is.total; ordered = is.ordered })

pub returns-in-Some-clause-set : goal.returns-in-Some-clause-set
returns-in-Some-clause-set g c =
    let entries = c.args.self.now.rows.entries in
    (c.get_mut.follows.holds c.change.new.known).0
    ∙ ap (set_value (is_at (nat_cmp c.args.id)) entries) c.in_ok-change.ensures.known
    ∙ written_is entries c.args.id c.args.link c.in-Some.known.now c.in-Some.ensures.ordered c.in-Some.ensures.value

pub returns-in-Some-clause-whole : goal.returns-in-Some-clause-whole
returns-in-Some-clause-whole g c is =
    let rank = g.T.Weigh.rank c.args.distribution in
    let amount = g.T.Weigh.amount in
    let old = c.args.self.now in
    let entries = old.rows.entries in
    let known = c.in-Some.known.now in
    let found = c.in-Some.ensures.value in
    let rows = c.get_mut.follows.lender c.change.new.known in
    let holds = c.get_mut.follows.holds c.change.new.known in
    let is_link = c.in_ok-change.ensures.known in
    indexed_set rank amount old (record { rows = rows; ranking = c.change.new.ranking; total = c.change.new.total }) c.args.id c.args.link (rank c.args.link) refl c.in-Some.ensures.ordered is
    (c.in_ok-change.ensures.ranks (rank_at rank entries) is.ranks (sym (ap (option_and_then rank) found)))
    (holds.0 ∙ ap (set_value (is_at (nat_cmp c.args.id)) entries) is_link ∙ written_is entries c.args.id c.args.link known c.in-Some.ensures.ordered found)
    (λ q. (holds.3 (sym (ap is_some found))).0 q ∙ ap (λ w. cond (is_at (nat_cmp c.args.id) q) (Some w) (get nat_cmp old.rows q)) is_link)
    (c.in_ok-change.ensures.total ∙ ap (λ n. old.total - n + amount c.args.link) (ap (amount_at amount) found))
    holds.4
