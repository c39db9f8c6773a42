use Rattle.std.proofs.Common.{◌⊎◌, ◌++◌, inl}
use Rattle.disk_core.specs.DiskLaws.{started, widened}
use Rattle.disk_core.specs.Twin.{Contents}
use Rattle.journal_codec.specs.Batches.{book_after}
use Rattle.twin_journal.specs.Holding.{HoldsAt, HoldsUpTo, last_of}
use Rattle.twin_journal.specs.Journal.{batch_count, twin_of, written_count}
use Rattle.twin_journal.proofs.Ahead.{last_is, left_first, none_or_all}
use Rattle.twin_journal.proofs.journal.Journal.write_held.Goals as goal

pub returns-then-self-clause-any_moment : goal.returns-then-self-clause-any_moment
returns-then-self-clause-any_moment g c base start bs held h =
    let T = g.T.Twin in
    let old = c.args.self.now in
    started T.moment T.left_since (twin_of old)
    (λ (d : Contents). HoldsAt d (book_after start bs) (written_count old) ⊎ HoldsUpTo d (book_after start (bs ++ held)) (batch_count old) (last_of held))
    (λ d left. inl (left_first d old.figures old.held (T.seen old.twin) (T.may_leave old.twin) h.stamp start bs held h.ahead (g.met.T.Twin.only_now old.twin d left)))

pub returns-in-Ok-clause-done : goal.returns-in-Ok-clause-done
returns-in-Ok-clause-done g c base start bs held h =
    record {
      stamp = h.stamp;
      at = c.in-Ok.ensures.done h.stamp start bs held h.ahead;
      none_held = c.clear.ensures.bytes c.args.self.now.figures held h.ahead.are_held;
      level = c.clear.ensures.ahead;
      base_is = h.base_is;
      suits = h.suits;
    }

pub returns-in-Ok-clause-any_moment : goal.returns-in-Ok-clause-any_moment
returns-in-Ok-clause-any_moment g c base start bs held h =
    let T = g.T.Twin in
    let old = c.args.self.now in
    widened T.moment T.left_since (twin_of old) c.write_group.new.twin _
    (λ (d : Contents). HoldsAt d (book_after start bs) (written_count old) ⊎ HoldsUpTo d (book_after start (bs ++ held)) (batch_count old) (last_of held))
    (c.write_group.ensures.any_moment h.stamp start bs held h.ahead)
    (λ d either. none_or_all d old.figures.base start bs (written_count old) (batch_count old) held h.ahead.at.fits.last (last_is old.figures old.held held h.ahead.are_held) either)

pub returns-in-Err-clause-any_moment : goal.returns-in-Err-clause-any_moment
returns-in-Err-clause-any_moment g c base start bs held h =
    let T = g.T.Twin in
    let old = c.args.self.now in
    widened T.moment T.left_since (twin_of old) c.write_group.new.twin _
    (λ (d : Contents). HoldsAt d (book_after start bs) (written_count old) ⊎ HoldsUpTo d (book_after start (bs ++ held)) (batch_count old) (last_of held))
    (c.write_group.ensures.any_moment h.stamp start bs held h.ahead)
    (λ d either. none_or_all d old.figures.base start bs (written_count old) (batch_count old) held h.ahead.at.fits.last (last_is old.figures old.held held h.ahead.are_held) either)
