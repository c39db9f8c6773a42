use Rattle.std.proofs.Common.{◌∙◌, ap, arith}
use Rattle.std.proofs.lemmas.Result.{err_from_is_err_and}
use Rattle.amqp_model.specs.View.{plain_part}
use Rattle.amqp_types.specs.Reading.{to}
use Rattle.amqp_types.proofs.Openings.{to_leaf, to_leaf_ok, to_others_ok}
use Rattle.amqp_types.proofs.opening.element_of.Goals as goal

pub returns-in_err-plain : goal.returns-in_err-plain
returns-in_err-plain c =
    let p = err_from_is_err_and c.from_residual.result c.from_residual.ensures.1 in
    rw (p.1, p.2, c.in-Leaf.is) (to_leaf c.args.depth c.in-Leaf.leaf c.args.bytes.now (omega arith) ∙ ap (λ r. to plain_part r) c.in_err-plain.ensures)

pub returns-in-Leaf : goal.returns-in-Leaf
returns-in-Leaf c = rw c.in-Leaf.is (to_leaf c.args.depth c.in-Leaf.leaf c.args.bytes.now (omega arith) ∙ to_leaf_ok c.in-Leaf.leaf c.args.bytes.now c.in_ok-plain.plain c.in_ok-plain.rest.now c.in_ok-plain.ensures)

pub returns : goal.returns
returns c = to_others_ok c.args.depth c.args.code c.args.bytes.now (omega arith) c.in_default.not-Leaf c.in_ok-rest.rest.now c.in_ok-rest.ensures
