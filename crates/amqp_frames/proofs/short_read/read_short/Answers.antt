use Rattle.amqp_frames.proofs.ShortPerfs.{transfer_read, disposition_read, flow_read}
use Rattle.amqp_frames.proofs.short_read.read_short.Goals as goal

pub returns-in_ok-transfer-in-20-clause-exact : goal.returns-in_ok-transfer-in-20-clause-exact
returns-in_ok-transfer-in-20-clause-exact c =
    transfer_read _ c.in_ok-code.fields c.in_ok-code.end c.in_ok-code.code c.in_ok-transfer-in-20.field-0 c.in_ok-code.ensures.heads c.in-20.is c.if-fields-le11.true c.in_ok-transfer-in-20.ensures

pub returns-in_ok-disposition-in-21-clause-exact : goal.returns-in_ok-disposition-in-21-clause-exact
returns-in_ok-disposition-in-21-clause-exact c =
    disposition_read _ c.in_ok-code.fields c.in_ok-code.end c.in_ok-code.code c.in_ok-disposition-in-21.field-0 c.in_ok-code.ensures.heads c.in-21.is c.if-fields-le6.true c.in_ok-disposition-in-21.ensures

pub returns-in_ok-flow-in-19-clause-exact : goal.returns-in_ok-flow-in-19-clause-exact
returns-in_ok-flow-in-19-clause-exact c =
    flow_read _ c.in_ok-code.fields c.in_ok-code.end c.in_ok-code.code c.in_ok-flow-in-19.field-0 c.in_ok-code.ensures.heads c.in-19.is c.if-fields-le11-2.true c.in_ok-flow-in-19.ensures
