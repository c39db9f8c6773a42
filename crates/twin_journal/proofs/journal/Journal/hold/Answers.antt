use Rattle.std.proofs.Common.{rules, ◌⊎◌, inl, refl, sym, subst, ◌∙◌}
use Rattle.disk_core.specs.DiskLaws.{started, widened}
use Rattle.disk_core.specs.Twin.{Contents}
use Rattle.book_model.specs.Book.{BookView}
use Rattle.journal_codec.specs.Batches.{IsBatch}
use Rattle.gate_journal.proofs.Reserves.{acts_follow}
use Rattle.twin_journal.specs.Holding.{HoldsAt}
use Rattle.twin_journal.specs.Journal.{batch_count, twin_of, written_count}
use Rattle.twin_journal.specs.Room.{Suits}
use Rattle.twin_journal.proofs.Ahead.{left_first}
use Rattle.twin_journal.proofs.Keeping.{either_of, holds_batch}
use Rattle.twin_journal.proofs.Ordered.{sound_is_ordered}
use Rattle.twin_journal.proofs.journal.Journal.hold.Goals as goal

pub returns-then-self-clause-any_moment : goal.returns-then-self-clause-any_moment
returns-then-self-clause-any_moment g c kept h =
    let T = g.T.Twin in
    let old = c.args.self.now in
    let a = h.holds.ahead in
    started T.moment T.left_since (twin_of old) (λ (d : Contents). HoldsAt d kept (written_count old) ⊎ HoldsAt d c.args.book.now (batch_count old))
    (λ d left. inl (subst (λ (b : BookView). HoldsAt d b (written_count old)) (sym h.kept_is)
    (left_first d old.figures old.held (T.seen old.twin) (T.may_leave old.twin) h.holds.stamp h.start h.batches h.held a (g.met.T.Twin.only_now old.twin d left))))

pub returns-in-Err-Full-clause-any_moment : goal.returns-in-Err-Full-clause-any_moment
returns-in-Err-Full-clause-any_moment g c kept h =
    let T = g.T.Twin in
    let old = c.args.self.now in
    let a = h.holds.ahead in
    started T.moment T.left_since (twin_of old) (λ (d : Contents). HoldsAt d kept (written_count old) ⊎ HoldsAt d c.args.book.now (batch_count old))
    (λ d left. inl (subst (λ (b : BookView). HoldsAt d b (written_count old)) (sym h.kept_is)
    (left_first d old.figures old.held (T.seen old.twin) (T.may_leave old.twin) h.holds.stamp h.start h.batches h.held a (g.met.T.Twin.only_now old.twin d left))))

pub returns-in-Err : goal.returns-in-Err
returns-in-Err g c =
    let T = g.T.Twin in
    let old = c.args.self.now in
    record {
      done = tt;
      number = tt;
      count = tt;
      base = tt;
      written = tt;
      suits = tt;
      still = λ suits due. refl;
      any_moment = λ kept h.
          started T.moment T.left_since (twin_of old) (λ (d : Contents). HoldsAt d kept (written_count old) ⊎ HoldsAt d c.args.book.now (batch_count old))
          (λ d left. inl (subst (λ (b : BookView). HoldsAt d b (written_count old)) (sym h.kept_is)
          (left_first d old.figures old.held (T.seen old.twin) (T.may_leave old.twin) h.holds.stamp h.start h.batches h.held h.holds.ahead (g.met.T.Twin.only_now old.twin d left))));
      full = search rules;
      room = tt;
      room_at_fault = search rules;
      untouched = λ suits full. refl;
      unchanged = search rules;
      still_failed = search rules;
      same_count = refl;
      same_written = refl;
      disk = search rules;
      no_other = λ other. refl;
      failed = search rules;
      fails_at_disk = λ e. refl;
      fails_at_memory = λ e. refl;
      works = tt;
    }

pub returns-in-Ok-hold_planned-clause-done : goal.returns-in-Ok-hold_planned-clause-done
returns-in-Ok-hold_planned-clause-done g c base start bs held h leaves =
    let T = g.T.Twin in
    let old = c.args.self.now in
    let book = c.args.book.now in
    let acts = c.args.acts.now in
    let plan = c.in-Ok.plan in
    let ordered = sound_is_ordered book c.is_sound.ensures in
    let is : IsBatch acts = record { some = c.requires.some; small = c.requires.small; writable = c.in-Ok.ensures.writable c.requires.outcomes (acts_follow book acts ordered c.requires.applies).termini } in
    let now = c.in-Ok-hold_planned.ensures in
    let suits = now.suits acts ordered c.in-Ok.ensures.spells c.requires.applies (c.in-Ok.ensures.suits c.requires.applies (subst (Suits old.needs) leaves h.suits)) in
    holds_batch T.seen T.may_leave c.hold_planned.new.self base (batch_count old) h.stamp start book bs held acts plan.due
    (λ due. now.behind due h.stamp start bs held acts h.ahead leaves c.in-Ok.ensures.spells is c.requires.applies)
    (λ due. now.alone due h.stamp start bs held acts h.ahead leaves c.in-Ok.ensures.spells is c.requires.applies)
    (now.base ∙ rw h.base_is refl) suits leaves

pub returns-in-Ok-hold_planned-clause-suits : goal.returns-in-Ok-hold_planned-clause-suits
returns-in-Ok-hold_planned-clause-suits g c suits =
    c.in-Ok-hold_planned.ensures.suits c.args.acts.now (sound_is_ordered c.args.book.now c.is_sound.ensures) c.in-Ok.ensures.spells c.requires.applies (c.in-Ok.ensures.suits c.requires.applies suits)

pub returns-in-Ok-hold_planned-clause-any_moment : goal.returns-in-Ok-hold_planned-clause-any_moment
returns-in-Ok-hold_planned-clause-any_moment g c kept h =
    let T = g.T.Twin in
    let old = c.args.self.now in
    widened T.moment T.left_since (twin_of old) (twin_of c.hold_planned.new.self) _ (λ (d : Contents). HoldsAt d kept (written_count old) ⊎ HoldsAt d c.args.book.now (batch_count old))
    (c.hold_planned.ensures.any_moment h.holds.stamp h.start h.batches h.held h.holds.ahead (sym h.leaves)) (λ d either. rw h.kept_is either)

pub returns-clause-any_moment : goal.returns-clause-any_moment
returns-clause-any_moment g c kept h =
    let T = g.T.Twin in
    let old = c.args.self.now in
    widened T.moment T.left_since (twin_of old) (twin_of c.hold_planned.new.self) _ (λ (d : Contents). HoldsAt d kept (written_count old) ⊎ HoldsAt d c.args.book.now (batch_count old))
    (c.hold_planned.ensures.any_moment h.holds.stamp h.start h.batches h.held h.holds.ahead (sym h.leaves)) (λ d either. rw h.kept_is either)

pub returns-in-Ok-hold_planned-clause-written : goal.returns-in-Ok-hold_planned-clause-written
returns-in-Ok-hold_planned-clause-written g c = either_of c.in-Ok.plan.due c.in-Ok-hold_planned.ensures.written
