use Rattle.std.proofs.Common.{rules}
use Rattle.amqp_sasl.proofs.OneAnswer.{one_answer}
use Rattle.amqp_sasl.proofs.server.SaslServer.step.Goals as goal

pub returns-in_ok-user_of-in-SaslInit-clause-exact : goal.returns-in_ok-user_of-in-SaslInit-clause-exact
returns-in_ok-user_of-in-SaslInit-clause-exact c = one_answer c.args.self.now c.args.perf.now c.outcome.result (search rules)
