use Rattle.std.proofs.lemmas.Result.{err_from_is_err_and}
use Rattle.amqp_types.specs.Reading.{after, body_at, value_by, one_by, items_at, pairs_at}
use Rattle.amqp_types.proofs.Passing.{pass_items_more, pass_items_fail, pass_items_done, pass_pairs_more, pass_pairs_fail, pass_pairs_done}
use Rattle.amqp_types.proofs.skipper.+pass.Goals as goal

pub pass_items-returns-in_err-rest : goal.pass_items-returns-in_err-rest
pass_items-returns-in_err-rest t c =
    let one = one_by (body_at c.args.depth) c.args.element in
    let p = err_from_is_err_and c.from_residual.result c.from_residual.ensures.1 in
    rw (p.1, p.2) (pass_items_fail one c.in_err-rest.field-0.0 c.args.count c.loop.counter c.loop.rest.now (after (items_at one c.args.count c.args.bytes.now)) c.loop-test.true c.in_err-rest.ensures c.loop.invariant)

pub pass_items-loop-preserved : goal.pass_items-loop-preserved
pass_items-loop-preserved t c =
    let one = one_by (body_at c.args.depth) c.args.element in
    pass_items_more one c.args.count c.loop.counter c.loop.rest.now c.in_ok-rest.rest.now (after (items_at one c.args.count c.args.bytes.now)) c.loop-test.true c.in_ok-rest.ensures c.loop.invariant

pub pass_items-returns : goal.pass_items-returns
pass_items-returns t c =
    let one = one_by (body_at c.args.depth) c.args.element in
    pass_items_done one c.args.count c.loop.counter c.loop.rest.now (after (items_at one c.args.count c.args.bytes.now)) c.loop-test.false c.loop.invariant

pub pass_pairs-returns-in_err-rest : goal.pass_pairs-returns-in_err-rest
pass_pairs-returns-in_err-rest t c =
    let one = value_by (body_at c.args.depth) in
    let p = err_from_is_err_and c.from_residual.result c.from_residual.ensures.1 in
    rw (p.1, p.2) (pass_pairs_fail one c.in_err-rest.field-0.0 c.args.count c.loop.counter c.loop.rest.now (after (pairs_at one c.args.count c.args.bytes.now)) c.loop-test.true c.in_err-rest.ensures c.loop.invariant)

pub pass_pairs-loop-preserved : goal.pass_pairs-loop-preserved
pass_pairs-loop-preserved t c =
    let one = value_by (body_at c.args.depth) in
    pass_pairs_more one c.args.count c.loop.counter c.loop.rest.now c.in_ok-rest.rest.now (after (pairs_at one c.args.count c.args.bytes.now)) c.loop-test.true c.in_ok-rest.ensures c.loop.invariant

pub pass_pairs-returns : goal.pass_pairs-returns
pass_pairs-returns t c =
    let one = value_by (body_at c.args.depth) in
    pass_pairs_done one c.args.count c.loop.counter c.loop.rest.now (after (pairs_at one c.args.count c.args.bytes.now)) c.loop-test.false c.loop.invariant
