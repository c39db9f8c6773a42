use Rattle.std.proofs.Common.{◌∙◌}
use Rattle.book_model.specs.Book.{empty_book}
use Rattle.gate_journal.proofs.Ordered.{empty_ordered}
use Rattle.gate_journal.proofs.Nexts.{next_is_batch}
use Rattle.gate_journal.proofs.journal.added.Goals as goal

pub returns-in_err-store-clause-any_moment : goal.returns-in_err-store-clause-any_moment
returns-in_err-store-clause-any_moment g c bs at next =
    c.store.ensures.any_moment bs c.args.acts.now at (c.as_slice.ensures.value ∙ c.in_ok-block.ensures.block) (next_is_batch empty_book empty_ordered bs c.args.acts.now at.file.valid next c.in_ok-block.ensures.writable) next.applies

pub returns-clause-any_moment : goal.returns-clause-any_moment
returns-clause-any_moment g c bs at next =
    c.store.ensures.any_moment bs c.args.acts.now at (c.as_slice.ensures.value ∙ c.in_ok-block.ensures.block) (next_is_batch empty_book empty_ordered bs c.args.acts.now at.file.valid next c.in_ok-block.ensures.writable) next.applies

pub returns-clause-done : goal.returns-clause-done
returns-clause-done g c bs at next =
    let stored = c.in_ok-store.ensures.done bs c.args.acts.now at (c.as_slice.ensures.value ∙ c.in_ok-block.ensures.block) (next_is_batch empty_book empty_ordered bs c.args.acts.now at.file.valid next c.in_ok-block.ensures.writable) next.applies in
    rw (c.in-Some-after.ensures.place, c.len-2.ensures, ← c.as_slice.ensures.len) stored
