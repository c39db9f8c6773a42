use Rattle.twin_journal.proofs.Ordered.{sound_is_ordered}
use Rattle.twin_journal.proofs.plan.needs_after.Goals as goal

pub returns-then-branch-clause-full : goal.returns-then-branch-clause-full
returns-then-branch-clause-full c full acts cost applies suits =
    let after = c.in-Some.ensures c.args.book.now acts cost suits (sound_is_ordered c.args.book.now c.is_sound.ensures) applies in
    (c.in_ok-is_full.ensures acts cost.bytes_are suits after).0 c.if-branch.true

pub returns-clause-suits : goal.returns-clause-suits
returns-clause-suits c acts cost applies suits =
    c.in-Some.ensures c.args.book.now acts cost suits (sound_is_ordered c.args.book.now c.is_sound.ensures) applies

pub returns-clause-room : goal.returns-clause-room
returns-clause-room c acts cost applies suits full =
    let after = c.in-Some.ensures c.args.book.now acts cost suits (sound_is_ordered c.args.book.now c.is_sound.ensures) applies in
    let is = (c.in_ok-is_full.ensures acts cost.bytes_are suits after).1 full in
    absurd cc
