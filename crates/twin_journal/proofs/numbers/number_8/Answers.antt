use Rattle.std.proofs.Common.{arith}
use Rattle.twin_journal.proofs.Spelled.{read_8}
use Rattle.twin_journal.proofs.numbers.number_8.Goals as goal

pub returns-in-Some-clause-some : goal.returns-in-Some-clause-some
returns-in-Some-clause-some c =
    let cases = c.in-Some.ensures.cases in
    read_8 c.args.bytes.now c.in-Some.field.now c.in-Some.rest.now c.from_be_bytes.result (record { each = λ i. omega (arith, c.type_inv.bytes i) }) cases.0 cases.1 cases.2 c.from_be_bytes.ensures
