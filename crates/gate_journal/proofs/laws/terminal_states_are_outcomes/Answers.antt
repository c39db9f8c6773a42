use Rattle.journal_codec.proofs.Terminal.{is_outcome}
use Rattle.gate_journal.proofs.laws.terminal_states_are_outcomes.Goals as goal

pub returns : goal.returns
returns c = is_outcome
