use Rattle.std.proofs.Common.{◌≡◌, ◌∙◌, sym, ap, subst}
use Rattle.std.specs.Prelude.{nat_lt}
use Rattle.route_credit.specs.Links.{total}
use Rattle.route_credit.specs.Pool.{is_short, lent_of, need_of}
use Rattle.route_credit.specs.Ranks.{offer_rank}
use Rattle.route_credit.specs.Side.{links_of}
use Rattle.route_credit.proofs.Alone.{whole_ordered}
use Rattle.route_credit.proofs.Entries.{InOrder}
use Rattle.route_credit.proofs.Gains.{none_where_enough, short_by_figures}
use Rattle.route_credit.proofs.pool.Pool.is_short.Goals as goal

pub returns-in-Balanced : goal.returns-in-Balanced
returns-in-Balanced c =
    let distribution = c.self.inside.distribution in
    let lent = total lent_of (links_of c.self.inside.producers) in
    let short : nat_lt c.total.result c.total-in-Balanced.result ≡ is_short c.args.self.now =
    subst (λ p. nat_lt c.total.result c.total-in-Balanced.result ≡ is_short p) c.self.view_is
    (ap (λ n. nat_lt n c.total-in-Balanced.result) (c.total.ensures (need_of distribution) c.self.invariant.1)
    ∙ ap (nat_lt lent) (c.total-in-Balanced.ensures (offer_rank distribution) c.self.invariant.0) ∙ short_by_figures distribution c.in-Balanced.is _) in
    record {
      short = short;
      quiet = λ enough. none_where_enough c.args.self.now (sym short ∙ enough);
      ordered = subst (λ p. InOrder p.producers) c.self.view_is (whole_ordered (need_of distribution) lent_of c.self.inside.producers c.self.invariant.1);
    }

pub returns-in-Multicast-clause-ordered : goal.returns-in-Multicast-clause-ordered
returns-in-Multicast-clause-ordered c =
    subst (λ p. InOrder p.producers) c.self.view_is (whole_ordered (need_of c.self.inside.distribution) lent_of c.self.inside.producers c.self.invariant.1)
