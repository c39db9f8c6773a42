use Rattle.std.proofs.lemmas.Result.{err_from_is_err_and}
use Rattle.amqp_types.specs.Reading.{body_at, value_by, one_by, items_at, pairs_at}
use Rattle.amqp_types.proofs.Loops.{items_more, items_fail, items_done, pairs_more, pairs_fail, pairs_done}
use Rattle.amqp_types.proofs.decoder.+read.Goals as goal

pub items_of-returns-in_err-value : goal.items_of-returns-in_err-value
items_of-returns-in_err-value t c =
    let one = one_by (body_at c.args.depth) c.args.element in
    let p = err_from_is_err_and c.from_residual.result c.from_residual.ensures.1 in
    rw (p.1, p.2) (items_fail one c.in_err-value.field-0.0 c.loop.items.items c.args.count c.loop.counter c.loop.rest.now (items_at one c.args.count c.args.bytes.now) c.loop-test.true c.in_err-value.ensures c.loop.invariant)

pub items_of-loop-preserved : goal.items_of-loop-preserved
items_of-loop-preserved t c =
    let one = one_by (body_at c.args.depth) c.args.element in
    rw c.in_ok-push.ensures.items (items_more one c.loop.items.items c.in_ok-value.value c.args.count c.loop.counter c.loop.rest.now c.in_ok-value.behind.now (items_at one c.args.count c.args.bytes.now) c.loop-test.true c.in_ok-value.ensures c.loop.invariant)

pub items_of-returns : goal.items_of-returns
items_of-returns t c =
    let one = one_by (body_at c.args.depth) c.args.element in
    items_done one c.loop.items.items c.args.count c.loop.counter c.loop.rest.now (items_at one c.args.count c.args.bytes.now) c.loop-test.false c.loop.invariant

pub pairs_of-returns-in_err-pair : goal.pairs_of-returns-in_err-pair
pairs_of-returns-in_err-pair t c =
    let one = value_by (body_at c.args.depth) in
    let p = err_from_is_err_and c.from_residual.result c.from_residual.ensures.1 in
    rw (p.1, p.2) (pairs_fail one c.in_err-pair.field-0.0 c.loop.pairs.items c.args.count c.loop.counter c.loop.rest.now (pairs_at one c.args.count c.args.bytes.now) c.loop-test.true c.in_err-pair.ensures c.loop.invariant)

pub pairs_of-loop-preserved : goal.pairs_of-loop-preserved
pairs_of-loop-preserved t c =
    let one = value_by (body_at c.args.depth) in
    rw c.in_ok-push.ensures.items (pairs_more one c.loop.pairs.items c.in_ok-pair.pair c.args.count c.loop.counter c.loop.rest.now c.in_ok-pair.behind.now (pairs_at one c.args.count c.args.bytes.now) c.loop-test.true c.in_ok-pair.ensures c.loop.invariant)

pub pairs_of-returns : goal.pairs_of-returns
pairs_of-returns t c =
    let one = value_by (body_at c.args.depth) in
    pairs_done one c.loop.pairs.items c.args.count c.loop.counter c.loop.rest.now (pairs_at one c.args.count c.args.bytes.now) c.loop-test.false c.loop.invariant
