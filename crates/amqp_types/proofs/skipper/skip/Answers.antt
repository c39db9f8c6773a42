use Rattle.amqp_types.proofs.Lengths.{skip_found, skip_bounded, skip_only}
use Rattle.amqp_types.proofs.skipper.skip.Goals as goal

pub returns-clause-found : goal.returns-clause-found
returns-clause-found c = skip_found c.args.bytes.now c.skip_counted.result c.skip_counted.ensures

pub returns-clause-bounded : goal.returns-clause-bounded
returns-clause-bounded c = skip_bounded c.args.bytes.now c.skip_counted.result c.skip_counted.ensures

pub returns-clause-only : goal.returns-clause-only
returns-clause-only c = skip_only c.args.bytes.now c.skip_counted.result c.skip_counted.ensures
