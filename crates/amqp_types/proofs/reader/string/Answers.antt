use Rattle.amqp_types.proofs.Texts.{string_ok, string_bad}
use Rattle.amqp_types.proofs.reader.string.Goals as goal

pub returns-in-Ok : goal.returns-in-Ok
returns-in-Ok c = string_ok c.args.bytes.now c.in-Ok.text.now c.in-Ok.ensures.cases.0 c.in-Ok.ensures.cases.1

pub returns-in-Err : goal.returns-in-Err
returns-in-Err c = string_bad c.args.bytes.now c.in-Err.ensures.cases.0
