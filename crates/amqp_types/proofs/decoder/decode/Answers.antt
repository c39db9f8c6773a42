use Rattle.std.proofs.Common.{subst}
use Rattle.amqp_model.specs.View.{view}
use Rattle.amqp_types.specs.Reading.{Gives}
use Rattle.amqp_types.proofs.Lengths.{decode_found, decode_bounded, measured_only}
use Rattle.amqp_types.proofs.decoder.decode.Goals as goal

pub returns-clause-found : goal.returns-clause-found
returns-clause-found c = decode_found c.args.bytes.now c.decode_counted.result c.decode_counted.ensures

pub returns-clause-bounded : goal.returns-clause-bounded
returns-clause-bounded c = decode_bounded c.args.bytes.now c.decode_counted.result c.decode_counted.ensures

pub returns-clause-only : goal.returns-clause-only
returns-clause-only c = λ v text rest parts spelled. subst (λ r. Gives (λ x. (view x.0, x.1)) c.decode_counted.result r) (measured_only 32 c.args.bytes.now text rest v parts spelled) c.decode_counted.ensures
