use Rattle.std.proofs.Common.{◌≡◌, ◌∙◌, subst, Err, IsErrOf}
use Rattle.std.proofs.lemmas.Result.{err_from_is_err_and}
use Rattle.gate_journal.specs.declared.fault.JournalFault.TheVariants.{Full}
use Rattle.twin_journal.proofs.Fulls.{full_tested, not_full_tested}
use Rattle.journal_store.proofs.Given.{behind_after, held_moments, suits_after, base_after_it, full_of, room_of}
use Rattle.journal_store.proofs.Writing.{base_of_some}
use Rattle.journal_store.proofs.store.Store.hold_batch.Goals as goal

pub returns-in_err-number-clause-any_moment : goal.returns-in_err-number-clause-any_moment
returns-in_err-number-clause-any_moment g c kept h =
    let T = g.T.Twin in
    held_moments _ _ c.args.acts.now c.book.ensures.same T.moment T.left_since T.seen T.may_leave _ _ _ kept _ _ c.hold.ensures.any_moment h

pub returns-in-Ok-clause-any_moment : goal.returns-in-Ok-clause-any_moment
returns-in-Ok-clause-any_moment g c kept h =
    let T = g.T.Twin in
    held_moments _ _ c.args.acts.now c.book.ensures.same T.moment T.left_since T.seen T.may_leave _ _ _ kept _ _ c.hold.ensures.any_moment h

pub returns-in-Err-clause-any_moment : goal.returns-in-Err-clause-any_moment
returns-in-Err-clause-any_moment g c kept h =
    let T = g.T.Twin in
    held_moments _ _ c.args.acts.now c.book.ensures.same T.moment T.left_since T.seen T.may_leave _ _ _ kept _ _ c.hold.ensures.any_moment h

pub returns-in-Ok-clause-behind : goal.returns-in-Ok-clause-behind
returns-in-Ok-clause-behind g c kept h =
    let T = g.T.Twin in
    behind_after _ _ _ c.book.ensures.same T.seen T.may_leave _ _ _ _ kept c.in-Ok.ensures.applied c.in_ok-number.ensures.done h

pub returns-in-Ok-clause-suits : goal.returns-in-Ok-clause-suits
returns-in-Ok-clause-suits g c suits = suits_after _ _ _ c.book.ensures.same c.args.self.now.journal c.hold.new.self _ c.in-Ok.ensures.applied c.in_ok-number.ensures.suits suits

pub returns-in-Ok-clause-base : goal.returns-in-Ok-clause-base
returns-in-Ok-clause-base g c suits =
    base_after_it _ _ c.args.acts.now c.book.ensures.same c.args.self.now.journal _ _ _ c.in_ok-number.ensures.base suits ∙ base_of_some c.args.self.now c.args.acts.now c.requires.some

pub returns-in_err-number-clause-full : goal.returns-in_err-number-clause-full
returns-in_err-number-clause-full g c is suits =
    let told = err_from_is_err_and c.from_residual.result c.from_residual.ensures.1 in
    let same : c.from_residual.result ≡ Err c.in_err-number.field-0.0 = cc (told.1, told.2) in
    full_tested _ _ (full_of _ _ c.args.acts.now c.book.ensures.same c.args.self.now.journal (c.in_err-number.ensures.full (subst (λ r. IsErrOf r Full) same is)) suits)

pub returns-in-Ok-clause-room : goal.returns-in-Ok-clause-room
returns-in-Ok-clause-room g c suits = not_full_tested _ _ (room_of _ _ c.args.acts.now c.book.ensures.same c.args.self.now.journal c.in_ok-number.ensures.room suits)
