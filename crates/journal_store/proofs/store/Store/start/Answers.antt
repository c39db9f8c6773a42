use Rattle.std.proofs.Common.{◌≡◌, ◌⊎◌, List, true, sym, ◌∙◌, subst}
use Rattle.disk_core.specs.Disk.{LeavesOnly}
use Rattle.book_model.specs.Book.{effects}
use Rattle.book_model.specs.declared.act.Act.{Act}
use Rattle.journal_store.specs.Store.{OpensTo, twin_of, book_of, exceeds}
use Rattle.journal_store.proofs.store.Store.start.Goals as goal

pub returns-clause-never_full : goal.returns-clause-never_full
returns-clause-never_full g c = λ is suits.
    let full : exceeds (book_of c.args.self.now) _ ≡ true
    = subst (λ (acts : List Act). exceeds (book_of c.args.self.now) acts ≡ true) c.in-Ok.ensures.acts (c.commit.ensures.full is suits) in
    let no = sym full ∙ c.start_acts.ensures.fits in absurd cc

pub returns-clause-any_moment : goal.returns-clause-any_moment
returns-clause-any_moment g c stands =
    let T = g.T.Twin in
    let old = c.args.self.now in
    subst
    (λ (acts : List Act). LeavesOnly T.moment T.left_since (twin_of old) (twin_of c.commit.new.self) (λ x. OpensTo x (book_of old) ⊎ OpensTo x (effects (book_of old) acts)))
    c.in-Ok.ensures.acts (c.commit.ensures.any_moment stands)
