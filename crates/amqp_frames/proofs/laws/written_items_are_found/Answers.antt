use Rattle.amqp_frames.proofs.Written.{written_spelt, written_found}
use Rattle.amqp_frames.proofs.laws.written_items_are_found.Goals as goal

pub returns : goal.returns
returns c = record { spelt = written_spelt; found = written_found }
