use Rattle.std.specs.Ordering.{nat_cmp}
use Rattle.std.specs.BTreeMap.{get}
use Rattle.route_links.proofs.Listed.{one_more, all_looked_up}
use Rattle.route_links.proofs.names.numbers.Goals as goal

pub loop-id-preserved : goal.loop-id-preserved
loop-id-preserved c =
    one_more (get nat_cmp c.args.by_id.now.deliveries) _ _ c.deref-id-items.result.now c.loop-id.id-index c.id-item.result c.loop-id-test.true c.id-item.is c.in_ok-append.ensures.small
    c.in_ok-append.ensures.appended c.loop-id.invariant

pub returns : goal.returns
returns c =
    all_looked_up c.args.first c.args.last _ _ c.loop-id.id-index (get nat_cmp c.args.by_id.now.deliveries) _ _ _ c.new.ensures c.new-2.ensures c.deref-id-items.ensures.value c.ranges.first.fits c.loop-id-test.false
    c.in_ok-ids.ensures.exact c.in_ok-ids.ensures.rising c.loop-id.invariant
