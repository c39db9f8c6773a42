use Rattle.std.proofs.Common.{◌≡◌, ◌⊎◌, ◌∷◌, [], ◌++◌, true, false, ap, sym, subst, ◌∙◌}
use Rattle.disk_core.specs.Disk.{LeavesOnly}
use Rattle.disk_core.specs.DiskLaws.{widened}
use Rattle.disk_core.specs.Twin.{Contents}
use Rattle.journal_codec.specs.Batches.{book_after}
use Rattle.twin_journal.specs.declared.figures.Figures.{Figures}
use Rattle.twin_journal.specs.declared.held.Held.{Held}
use Rattle.twin_journal.specs.declared.journal.Journal.{Journal}
use Rattle.twin_journal.specs.Held.{IsAhead, IsHeld}
use Rattle.twin_journal.specs.Holding.{HoldsAt}
use Rattle.twin_journal.specs.Journal.{batch_count, twin_of, written_count}
use Rattle.twin_journal.specs.Keeping.{none_held}
use Rattle.twin_journal.proofs.Ahead.{last_is, more_ahead, one_ahead, one_of_three}
use Rattle.twin_journal.proofs.journal.Journal.hold_planned.Goals as goal
use Rattle.twin_journal.proofs.journal.Journal.hold_planned.Goals.{then-plan, else-plan}

pub returns-in_err-figures-clause-any_moment : goal.returns-in_err-figures-clause-any_moment
returns-in_err-figures-clause-any_moment g c stamp start bs lists ahead leaves =
    let T = g.T.Twin in
    let old = c.args.self.now in
    widened T.moment T.left_since (twin_of old) c.make_room.new.twin _ (λ (d : Contents). HoldsAt d (book_after start bs) (written_count old) ⊎ HoldsAt d c.args.book.now (batch_count old))
    (c.make_room.ensures.any_moment stamp start bs lists ahead leaves)
    (λ d either. one_of_three d old.figures.base start bs (written_count old) (batch_count old) c.args.book.now lists ahead.at.fits.last (last_is old.figures old.held lists ahead.are_held) leaves either)

pub returns-in_default-clause-any_moment : goal.returns-in_default-clause-any_moment
returns-in_default-clause-any_moment g c stamp start bs lists ahead leaves =
    let T = g.T.Twin in
    let old = c.args.self.now in
    widened T.moment T.left_since (twin_of old) c.make_room.new.twin _ (λ (d : Contents). HoldsAt d (book_after start bs) (written_count old) ⊎ HoldsAt d c.args.book.now (batch_count old))
    (c.make_room.ensures.any_moment stamp start bs lists ahead leaves)
    (λ d either. one_of_three d old.figures.base start bs (written_count old) (batch_count old) c.args.book.now lists ahead.at.fits.last (last_is old.figures old.held lists ahead.are_held) leaves either)

pub returns-in_err-add-clause-any_moment : goal.returns-in_err-add-clause-any_moment
returns-in_err-add-clause-any_moment g c stamp start bs lists ahead leaves =
    let T = g.T.Twin in
    let old = c.args.self.now in
    let same : c.if-plan.self.twin ≡ c.make_room.new.twin = elim c.if-plan.branch [
      | then-plan w ↦ ap (λ (j : Journal _). j.twin) w.self-is
      | else-plan w ↦ ap (λ (j : Journal _). j.twin) w.self-is
    ] in
    let P = λ (d : Contents). HoldsAt d (book_after start bs) (written_count old) ⊎ HoldsAt d c.args.book.now (batch_count old) in
    subst (λ t. LeavesOnly T.moment T.left_since (twin_of old) t P) (sym same)
    (widened T.moment T.left_since (twin_of old) c.make_room.new.twin _ P (c.make_room.ensures.any_moment stamp start bs lists ahead leaves)
    (λ d either. one_of_three d old.figures.base start bs (written_count old) (batch_count old) c.args.book.now lists ahead.at.fits.last (last_is old.figures old.held lists ahead.are_held) leaves either))

pub returns-clause-any_moment : goal.returns-clause-any_moment
returns-clause-any_moment g c stamp start bs lists ahead leaves =
    let T = g.T.Twin in
    let old = c.args.self.now in
    let same : c.if-plan.self.twin ≡ c.make_room.new.twin = elim c.if-plan.branch [
      | then-plan w ↦ ap (λ (j : Journal _). j.twin) w.self-is
      | else-plan w ↦ ap (λ (j : Journal _). j.twin) w.self-is
    ] in
    let P = λ (d : Contents). HoldsAt d (book_after start bs) (written_count old) ⊎ HoldsAt d c.args.book.now (batch_count old) in
    subst (λ t. LeavesOnly T.moment T.left_since (twin_of old) t P) (sym same)
    (widened T.moment T.left_since (twin_of old) c.make_room.new.twin _ P (c.make_room.ensures.any_moment stamp start bs lists ahead leaves)
    (λ d either. one_of_three d old.figures.base start bs (written_count old) (batch_count old) c.args.book.now lists ahead.at.fits.last (last_is old.figures old.held lists ahead.are_held) leaves either))

pub returns-clause-behind : goal.returns-clause-behind
returns-clause-behind g c due stamp start bs lists acts ahead leaves spells is applies =
    let T = g.T.Twin in
    let old = c.args.self.now in
    let new = c.add.new.self in
    let held_same : c.if-plan.self.held ≡ old.held = elim c.if-plan.branch [
      | then-plan w ↦ absurd (let bad : true ≡ false = sym w.if-plan.true ∙ due in cc)
      | else-plan w ↦ ap (λ (j : Journal _). j.held) w.self-is
    ] in
    let twin_same : c.if-plan.self.twin ≡ c.make_room.new.twin = elim c.if-plan.branch [
      | then-plan w ↦ ap (λ (j : Journal _). j.twin) w.self-is
      | else-plan w ↦ ap (λ (j : Journal _). j.twin) w.self-is
    ] in
    let held = c.in_ok-add.ensures.added old.figures lists acts (subst (λ (h : Held). IsHeld old.figures h lists) (sym held_same) ahead.are_held) (c.as_slice.ensures.value ∙ spells.block) in
    subst (λ (f : Figures). IsAhead f new (T.seen c.if-plan.self.twin) (T.may_leave c.if-plan.self.twin) stamp start bs (lists ++ acts ∷ [])) (sym (c.in_ok-figures.ensures.kept due))
    (subst (λ d. IsAhead old.figures new (T.seen d) (T.may_leave d) stamp start bs (lists ++ acts ∷ [])) (sym (twin_same ∙ c.in_ok-figures.ensures.still due))
    (more_ahead old.figures old.held new (T.seen old.twin) (T.may_leave old.twin) stamp start c.args.book.now bs lists acts ahead held leaves is applies))

pub returns-clause-alone : goal.returns-clause-alone
returns-clause-alone g c due stamp start bs lists acts ahead leaves spells is applies =
    let T = g.T.Twin in
    let old = c.args.self.now in
    let new = c.add.new.self in
    let figures = c.in_ok-figures.figures in
    let book = c.args.book.now in
    let none : IsHeld figures c.if-plan.self.held [] = elim c.if-plan.branch [
      | then-plan w ↦ subst (λ (h : Held). IsHeld figures h []) (sym (ap (λ (j : Journal _). j.held) w.self-is)) (none_held figures w.clear.new.self (w.clear.ensures.bytes old.figures lists ahead.are_held) w.clear.ensures.ahead)
      | else-plan w ↦ absurd (let bad : true ≡ false = sym due ∙ w.if-plan.false in cc)
    ] in
    let twin_same : c.if-plan.self.twin ≡ c.make_room.new.twin = elim c.if-plan.branch [
      | then-plan w ↦ ap (λ (j : Journal _). j.twin) w.self-is
      | else-plan w ↦ ap (λ (j : Journal _). j.twin) w.self-is
    ] in
    let s = c.in_ok-figures.ensures.renewed stamp start bs lists ahead leaves due in
    let held = c.in_ok-add.ensures.added figures [] acts none (c.as_slice.ensures.value ∙ spells.block) in (
      s.stamp,
      subst (λ d. IsAhead figures new (T.seen d) (T.may_leave d) s.stamp book [] (acts ∷ [])) (sym twin_same)
          (one_ahead figures new (T.seen c.make_room.new.twin) (T.may_leave c.make_room.new.twin) s.stamp book acts s.at held is applies),
    )
