use Rattle.amqp_types.proofs.RoundTrip.{Spells-spelling, value_at-spelling}
use Rattle.amqp_types.proofs.laws.written_is_read_again.Goals as goal

pub returns-clause-spelled : goal.returns-clause-spelled
returns-clause-spelled c = Spells-spelling

pub returns-clause-again : goal.returns-clause-again
returns-clause-again c = value_at-spelling
