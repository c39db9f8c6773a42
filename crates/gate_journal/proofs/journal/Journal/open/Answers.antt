use Rattle.std.proofs.Common.{◌∙◌}
use Rattle.gate_journal.proofs.Unique.{found_length}
use Rattle.gate_journal.proofs.journal.Journal.open.Goals as goal

pub returns-clause-length : goal.returns-clause-length
returns-clause-length g c bs holds =
    found_length _ _ _ _ _ _ _ bs c.in_ok-found.ensures.found (c.as_slice.ensures.value ∙ c.in_ok-bytes.ensures.bytes) holds
