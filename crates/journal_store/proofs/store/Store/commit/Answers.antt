use Rattle.std.proofs.Common.{◌≡◌, ◌⊎◌, ◌∙◌, List, [], true, sym, subst, vec_len, arith}
use Rattle.disk_core.specs.Disk.{LeavesOnly}
use Rattle.book_model.specs.declared.act.Act.{Act}
use Rattle.book_model.specs.Book.{effects}
use Rattle.twin_journal.specs.Holding.{BeforeOrAfter}
use Rattle.journal_store.specs.Store.{OpensTo, twin_of, book_of, count_of, exceeds}
use Rattle.journal_store.proofs.Makes.{no_acts, nothing_done}
use Rattle.journal_store.proofs.Moments.{still_held}
use Rattle.journal_store.proofs.Writing.{exceeding_is_full}
use Rattle.journal_store.proofs.store.Store.commit.Goals as goal

pub returns-then-is_empty-clause-book : goal.returns-then-is_empty-clause-book
returns-then-is_empty-clause-book g c =
    let none : c.args.acts.items ≡ [] = no_acts (vec_len c.args.acts) c.args.acts.items (let counted = c.args.acts.ok.0 in grind (arith, counted)) (sym c.is_empty.ensures ∙ c.if-is_empty.true) in
    nothing_done (book_of c.args.self.now) c.args.acts.items none

pub returns-in-Ok-clause-any_moment : goal.returns-in-Ok-clause-any_moment
returns-in-Ok-clause-any_moment g c stands =
    let T = g.T.Twin in
    let old = c.args.self.now in
    subst
    (λ (acts : List Act). LeavesOnly T.moment T.left_since (twin_of old) (twin_of c.write.new.self) (λ x. OpensTo x (book_of old) ⊎ OpensTo x (effects (book_of old) acts)))
    c.deref.ensures.value (c.write.ensures.any_moment stands)

pub returns-in-Err-clause-any_moment : goal.returns-in-Err-clause-any_moment
returns-in-Err-clause-any_moment g c stands =
    let T = g.T.Twin in
    let old = c.args.self.now in
    subst
    (λ (acts : List Act). LeavesOnly T.moment T.left_since (twin_of old) (twin_of c.write.new.self) (λ x. OpensTo x (book_of old) ⊎ OpensTo x (effects (book_of old) acts)))
    c.deref.ensures.value (c.write.ensures.any_moment stands)

pub returns-in-Ok-clause-journal_moment : goal.returns-in-Ok-clause-journal_moment
returns-in-Ok-clause-journal_moment g c stands =
    let T = g.T.Twin in
    let old = c.args.self.now in
    subst (λ (acts : List Act). LeavesOnly T.moment T.left_since (twin_of old) (twin_of c.write.new.self) (BeforeOrAfter (book_of old) (count_of old) acts))
    c.deref.ensures.value (c.write.ensures.journal_moment stands)

pub returns-in-Err-clause-journal_moment : goal.returns-in-Err-clause-journal_moment
returns-in-Err-clause-journal_moment g c stands =
    let T = g.T.Twin in
    let old = c.args.self.now in
    subst (λ (acts : List Act). LeavesOnly T.moment T.left_since (twin_of old) (twin_of c.write.new.self) (BeforeOrAfter (book_of old) (count_of old) acts))
    c.deref.ensures.value (c.write.ensures.journal_moment stands)

pub returns-then-is_empty-clause-journal_moment : goal.returns-then-is_empty-clause-journal_moment
returns-then-is_empty-clause-journal_moment g c stands =
    let T = g.T.Twin in
    still_held T.seen T.may_leave T.moment T.left_since (λ twin. g.met.T.Twin.only_now twin) c.args.self.now c.args.acts.items stands

pub returns-in-Err-clause-untouched : goal.returns-in-Err-clause-untouched
returns-in-Err-clause-untouched g c suits full =
    c.write.ensures.untouched suits
    (exceeding_is_full (book_of c.args.self.now) c.deref.result.now (subst (λ (acts : List Act). exceeds (book_of c.args.self.now) acts ≡ true) (sym c.deref.ensures.value) full))
