use Rattle.std.proofs.Common.{inl, inr, ⊎_elim, ◌∷◌, [], ap, ◌∙◌}
use Rattle.std.proofs.lemmas.List.{append-nil}
use Rattle.disk_core.specs.DiskLaws.{widened}
use Rattle.journal_codec.specs.Batches.{book_after}
use Rattle.twin_journal.specs.Journal.{batch_count}
use Rattle.twin_journal.specs.Keeping.{keeps_holds}
use Rattle.twin_journal.proofs.Keeping.{not_yet, on_err, then_written}
use Rattle.twin_journal.proofs.Kept.{counted_both}
use Rattle.twin_journal.proofs.journal.Journal.append.Goals as goal

pub returns-in_err-number-clause-journal_moment : goal.returns-in_err-number-clause-journal_moment
returns-in_err-number-clause-journal_moment g c k =
    let T = g.T.Twin in
    not_yet T.seen T.may_leave T.moment T.left_since c.args.self.now c.hold.new.self c.args.book.now c.args.acts.now k c.hold.ensures.any_moment

pub returns-in_err-number-clause-any_moment : goal.returns-in_err-number-clause-any_moment
returns-in_err-number-clause-any_moment g c k =
    let T = g.T.Twin in
    widened T.moment T.left_since _ _ _ _ (not_yet T.seen T.may_leave T.moment T.left_since c.args.self.now c.hold.new.self c.args.book.now c.args.acts.now k c.hold.ensures.any_moment)
    (λ d either. counted_both d c.args.book.now (batch_count c.args.self.now) c.args.acts.now either)

pub returns-in_err-write_held-clause-journal_moment : goal.returns-in_err-write_held-clause-journal_moment
returns-in_err-write_held-clause-journal_moment g c k =
    let T = g.T.Twin in
    then_written T.seen T.may_leave T.moment T.left_since c.args.self.now c.hold.new.self c.args.book.now c.args.acts.now k c.hold.ensures.any_moment c.write_held.new.self.twin
    c.in_ok-number.ensures.count c.in_ok-number.ensures.done c.write_held.ensures.any_moment

pub returns-in_err-write_held-clause-any_moment : goal.returns-in_err-write_held-clause-any_moment
returns-in_err-write_held-clause-any_moment g c k =
    let T = g.T.Twin in
    widened T.moment T.left_since _ _ _ _
    (then_written T.seen T.may_leave T.moment T.left_since c.args.self.now c.hold.new.self c.args.book.now c.args.acts.now k c.hold.ensures.any_moment c.write_held.new.self.twin
    c.in_ok-number.ensures.count c.in_ok-number.ensures.done c.write_held.ensures.any_moment)
    (λ d either. counted_both d c.args.book.now (batch_count c.args.self.now) c.args.acts.now either)

pub returns-in_err-write_held-clause-same_count : goal.returns-in_err-write_held-clause-same_count
returns-in_err-write_held-clause-same_count g c level =
    on_err c.from_residual-in_err-write_held.result
    (c.in_err-write_held.ensures.given_up c.in_ok-number.ensures.works ∙ ⊎_elim (λ same. same ∙ level) (λ all. all) c.in_ok-number.ensures.written)

pub returns-clause-done : goal.returns-clause-done
returns-clause-done g c base start bs keeps leaves =
    let T = g.T.Twin in
    let old = c.args.self.now in
    let now = c.in_ok-write_held.ensures.done in
    ⊎_elim
    (λ h. inl (now base start bs (c.args.acts.now ∷ []) h))
    (λ h. inr (now (batch_count old) c.args.book.now [] (c.args.acts.now ∷ []) h))
    (c.in_ok-number.ensures.done base start bs [] (keeps_holds T.seen T.may_leave old base start bs keeps) (ap (book_after start) (append-nil bs) ∙ leaves))

pub returns-clause-journal_moment : goal.returns-clause-journal_moment
returns-clause-journal_moment g c k =
    let T = g.T.Twin in
    then_written T.seen T.may_leave T.moment T.left_since c.args.self.now c.hold.new.self c.args.book.now c.args.acts.now k c.hold.ensures.any_moment c.write_held.new.self.twin
    c.in_ok-number.ensures.count c.in_ok-number.ensures.done c.write_held.ensures.any_moment

pub returns-clause-any_moment : goal.returns-clause-any_moment
returns-clause-any_moment g c k =
    let T = g.T.Twin in
    widened T.moment T.left_since _ _ _ _
    (then_written T.seen T.may_leave T.moment T.left_since c.args.self.now c.hold.new.self c.args.book.now c.args.acts.now k c.hold.ensures.any_moment c.write_held.new.self.twin
    c.in_ok-number.ensures.count c.in_ok-number.ensures.done c.write_held.ensures.any_moment)
    (λ d either. counted_both d c.args.book.now (batch_count c.args.self.now) c.args.acts.now either)
