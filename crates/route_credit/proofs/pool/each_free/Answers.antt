use Rattle.std.proofs.Common.{◌≡◌, ◌∙◌, ◌++◌, sym, ap, refl, suc, ◌<◌, length, arith, Some, ◌∷◌}
use Rattle.std.specs.Prelude.{map}
use Rattle.route_credit.specs.Ranks.{offer_rank}
use Rattle.route_credit.specs.Side.{links_of}
use Rattle.route_credit.specs.declared.ids.ConsumerId.{ConsumerId}
use Rattle.route_table.specs.declared.sections.Distribution.TheVariants.{Multicast}
use Rattle.route_credit.proofs.Alone.{whole_ordered}
use Rattle.route_credit.proofs.Choices.{flat_copies}
use Rattle.route_credit.proofs.Copying.{listed_all, listed_more, none_is, rest, rest_after, rest_first}
use Rattle.route_credit.proofs.pool.each_free.Goals as goal

pub loop-next-init : goal.loop-next-init
loop-next-init c =
    let links = links_of c.args.consumers.now in
    ap (λ before. map (λ (k : ConsumerId). k.0) before ++ rest c.first-next.result links) c.new-free.ensures.items
    ∙ rest_first links c.first-next.result (whole_ordered (offer_rank Multicast) (λ offer. offer.free) c.args.consumers.now c.requires) (c.first-next.ensures c.requires)

pub loop-next-smaller : goal.loop-next-smaller
loop-next-smaller c =
    let links = links_of c.args.consumers.now in
    let after : rest (Some c.in-Some.id) links ≡ c.in-Some.id ∷ rest c.first_after-next.result links =
    rest_after links c.in-Some.id c.first_after-next.result (whole_ordered (offer_rank Multicast) (λ offer. offer.free) c.args.consumers.now c.requires)
    (c.first_after-next.ensures c.requires (flat_copies Multicast links refl)) in
    let same : length (rest c.loop-next.next links) ≡ suc (length (rest c.first_after-next.result links)) = ap (λ x. length (rest x links)) c.in-Some.is ∙ ap length after in
    let less : length (rest c.first_after-next.result links) < length (rest c.loop-next.next links) = omega (arith, same) in
    less

pub loop-next-preserved : goal.loop-next-preserved
loop-next-preserved c =
    let links = links_of c.args.consumers.now in
    let after : rest (Some c.in-Some.id) links ≡ c.in-Some.id ∷ rest c.first_after-next.result links =
    rest_after links c.in-Some.id c.first_after-next.result (whole_ordered (offer_rank Multicast) (λ offer. offer.free) c.args.consumers.now c.requires)
    (c.first_after-next.ensures c.requires (flat_copies Multicast links refl)) in
    ap (λ before. map (λ (k : ConsumerId). k.0) before ++ rest c.first_after-next.result links) c.in_ok-push.ensures.items
    ∙ listed_more c.loop-next.free.items c.in-Some.id (rest c.first_after-next.result links) _
    (ap (λ ids. map (λ (k : ConsumerId). k.0) c.loop-next.free.items ++ ids) (sym after ∙ ap (λ x. rest x links) (sym c.in-Some.is)) ∙ c.loop-next.invariant)

pub returns : goal.returns
returns c =
    let links = links_of c.args.consumers.now in
    listed_all c.loop-next.free.items _ (ap (λ x. map (λ (k : ConsumerId). k.0) c.loop-next.free.items ++ rest x links) (sym (none_is c.loop-next.next c.in_default.not-Some)) ∙ c.loop-next.invariant)
