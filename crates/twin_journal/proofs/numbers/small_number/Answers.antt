use Rattle.std.proofs.Common.{arith}
use Rattle.twin_journal.proofs.Spelled.{too_short, too_large}
use Rattle.twin_journal.proofs.numbers.small_number.Goals as goal

pub returns-then-number-gt-LARGEST-clause-none : goal.returns-then-number-gt-LARGEST-clause-none
returns-then-number-gt-LARGEST-clause-none c =
    too_large c.args.bytes.now c.in-Some.rest.now c.in-Some.number c.in-Some.ensures.fits (omega (arith, c.if-number-gt-LARGEST.true)) c.in-Some.ensures.some

pub returns-in-None-clause-none : goal.returns-in-None-clause-none
returns-in-None-clause-none c = too_short c.args.bytes.now c.in-None.ensures.none
