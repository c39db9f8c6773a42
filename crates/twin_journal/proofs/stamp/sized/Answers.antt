use Rattle.std.proofs.Common.{arith}
use Rattle.twin_journal.proofs.Stamped.{too_short, too_long}
use Rattle.twin_journal.proofs.stamp.sized.Goals as goal

pub returns-then-rest-size-clause-none : goal.returns-then-rest-size-clause-none
returns-then-rest-size-clause-none c =
    too_long c.args.bytes.now c.in-Some.rest.now c.in-Some.size c.in-Some.ensures.fits c.in-Some.ensures.some (omega (arith, c.if-rest-size.true))

pub returns-in-None-clause-none : goal.returns-in-None-clause-none
returns-in-None-clause-none c = too_short c.args.bytes.now c.in-None.ensures.none
