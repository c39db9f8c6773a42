use Rattle.std.proofs.Common.{ap, arith, ◌∷◌, [], length, length-append}
use Rattle.journal_codec.specs.Format.{blocks}
use Rattle.twin_journal.proofs.Ahead.{none_are_held}
use Rattle.twin_journal.proofs.Keeping.{nothing_held}
use Rattle.twin_journal.proofs.journal.Journal.held.Goals as goal

pub returns-clause-number : goal.returns-clause-number
returns-clause-number g c base start bs held h =
    let bytes = c.args.self.now.held.bytes in
    omega (arith, c.len.ensures, bytes.ok.0, ap length h.ahead.are_held.bytes, length-append (blocks held) (0 ∷ []))

pub returns-clause-none : goal.returns-clause-none
returns-clause-none g c few base start bs held h =
    let T = g.T.Twin in
    let j = c.args.self.now in
    nothing_held T.seen T.may_leave j base start bs held h
    (none_are_held held j.held.bytes.items h.ahead.are_held.bytes (omega (arith, few, c.len.ensures, j.held.bytes.ok.0, j.held.some)))
