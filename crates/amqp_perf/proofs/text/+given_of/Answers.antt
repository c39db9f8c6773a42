use Rattle.amqp_perf.proofs.FieldTexts.{given_nothing}
use Rattle.amqp_perf.proofs.text.+given_of.Goals as goal

pub returns-in-None : goal.returns-in-None
returns-in-None t c = given_nothing _ c.in-None.ensures.cases
