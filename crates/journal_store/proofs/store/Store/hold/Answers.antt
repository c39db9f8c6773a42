use Rattle.std.proofs.Common.{◌≡◌, ◌∙◌, [], sym, vec_len, arith}
use Rattle.journal_store.specs.Store.{book_of}
use Rattle.journal_store.proofs.Makes.{no_acts, nothing_done}
use Rattle.journal_store.proofs.store.Store.hold.Goals as goal

pub returns-then-is_empty-clause-book : goal.returns-then-is_empty-clause-book
returns-then-is_empty-clause-book g c =
    let none : c.args.acts.items ≡ [] = no_acts (vec_len c.args.acts) c.args.acts.items (let counted = c.args.acts.ok.0 in grind (arith, counted)) (sym c.is_empty.ensures ∙ c.if-is_empty.true) in
    nothing_done (book_of c.args.self.now) c.args.acts.items none
