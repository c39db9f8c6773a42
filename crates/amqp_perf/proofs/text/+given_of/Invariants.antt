use Rattle.std.proofs.Common.{length}
use Rattle.amqp_perf.proofs.text.+given_of.Given as goal

abbrev pub decreases-given_of : goal.decreases-given_of
decreases-given_of l = length l.fields.now
