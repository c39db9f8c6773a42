use Rattle.journal_codec.specs.Format.{magic}
use Rattle.gate_journal.specs.Scanning.{BeginsWith}
use Rattle.gate_journal.proofs.Walks.{if_err, stops_explain}
use Rattle.gate_journal.proofs.listing.list_file.Goals as goal

pub returns-clause-fault : goal.returns-clause-fault
returns-clause-fault c =
    let begins : BeginsWith magic c.args.bytes.now c.in-Some.behind.now = record { is = c.in-Some.ensures.head; some = c.in-Some.ensures.behind } in
    if_err _ _ c.list_from.result (λ fault stops. stops_explain c.args.bytes.now fault (rw c.empty.ensures at (stops magic begins))) c.list_from.ensures.fault
