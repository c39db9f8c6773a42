-- What a journal keeps of an outcome.
use Rattle.std.specs.Prelude.{length, Option, Some, None, Result, Ok, Err, nat_le, if◌then◌else◌}
use Rattle.amqp_model.specs.declared.state.DeliveryState.{DeliveryState}
use Rattle.amqp_model.specs.PerfSpelling.{state_spelling}
use Rattle.journal_codec.specs.declared.read.ReadFault.{ReadFault}
use Rattle.journal_codec.specs.Reading.{outcome_of}

-- the outcome that was read, if one was
abbrev pub read_or_none : Result DeliveryState ReadFault → Option DeliveryState
read_or_none (Ok outcome) = Some outcome
read_or_none (Err fault) = None

-- What a batch keeps of an outcome: what its canonical encoding gives back, where that has at most 400 bytes and is a terminal state's.
abbrev pub kept_outcome : DeliveryState → Option DeliveryState
kept_outcome s = if nat_le (length (state_spelling s)) 400 then read_or_none (outcome_of (state_spelling s)) else None
