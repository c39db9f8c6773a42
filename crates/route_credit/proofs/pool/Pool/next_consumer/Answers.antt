use Rattle.std.proofs.Common.{subst, None, Some}
use Rattle.route_credit.specs.Pool.{IsChoice}
use Rattle.route_credit.specs.Ranks.{offer_rank}
use Rattle.route_credit.specs.Side.{links_of}
use Rattle.route_credit.proofs.Alone.{whole_ordered}
use Rattle.route_credit.proofs.Choices.{choice_after, choice_first, choice_never, choice_round, flat_ranks}
use Rattle.route_credit.proofs.Entries.{InOrder}
use Rattle.route_credit.proofs.pool.Pool.next_consumer.Goals as goal

pub returns-in-Balanced-clause-choice : goal.returns-in-Balanced-clause-choice
returns-in-Balanced-clause-choice c =
    let distribution = c.self.inside.distribution in
    subst (λ p. IsChoice p c.first.result) c.self.view_is
    (choice_first distribution c.self.inside.last (links_of c.self.inside.consumers) c.first.result c.in-Balanced.is (c.first.ensures c.self.invariant.0))

pub returns-in-Multicast-clause-choice : goal.returns-in-Multicast-clause-choice
returns-in-Multicast-clause-choice c =
    let distribution = c.self.inside.distribution in
    subst (λ p. IsChoice p None) c.self.view_is (choice_never distribution c.self.inside.last (links_of c.self.inside.consumers) c.in-Multicast.is)

pub returns-in-Multicast-clause-ordered : goal.returns-in-Multicast-clause-ordered
returns-in-Multicast-clause-ordered c = subst (λ p. InOrder p.consumers) c.self.view_is (whole_ordered (offer_rank c.self.inside.distribution) (λ offer. offer.free) c.self.inside.consumers c.self.invariant.0)

pub returns-in-None-clause-choice : goal.returns-in-None-clause-choice
returns-in-None-clause-choice c =
    let distribution = c.self.inside.distribution in
    let links = (links_of c.self.inside.consumers) in
    let flat = flat_ranks distribution links c.in-Closest.is in
    subst (λ p. IsChoice p c.first-in-None.result) c.self.view_is
    (choice_round distribution c.self.inside.last links c.first-in-None.result c.in-Closest.is
    (c.in-None.ensures c.self.invariant.0 flat) (c.first-in-None.ensures c.self.invariant.0))

pub returns-in-Some-clause-choice : goal.returns-in-Some-clause-choice
returns-in-Some-clause-choice c =
    let distribution = c.self.inside.distribution in
    let links = (links_of c.self.inside.consumers) in
    let flat = flat_ranks distribution links c.in-Closest.is in
    subst (λ p. IsChoice p (Some c.in-Some.id)) c.self.view_is
    (choice_after distribution c.self.inside.last links c.in-Some.id c.in-Closest.is (c.in-Some.ensures c.self.invariant.0 flat))

pub returns-in-Balanced-clause-ordered : goal.returns-in-Balanced-clause-ordered
returns-in-Balanced-clause-ordered c = subst (λ p. InOrder p.consumers) c.self.view_is (whole_ordered (offer_rank c.self.inside.distribution) (λ offer. offer.free) c.self.inside.consumers c.self.invariant.0)

pub returns-in-None-clause-ordered : goal.returns-in-None-clause-ordered
returns-in-None-clause-ordered c = subst (λ p. InOrder p.consumers) c.self.view_is (whole_ordered (offer_rank c.self.inside.distribution) (λ offer. offer.free) c.self.inside.consumers c.self.invariant.0)

pub returns-in-Some-clause-ordered : goal.returns-in-Some-clause-ordered
returns-in-Some-clause-ordered c = subst (λ p. InOrder p.consumers) c.self.view_is (whole_ordered (offer_rank c.self.inside.distribution) (λ offer. offer.free) c.self.inside.consumers c.self.invariant.0)
