use Rattle.book_model.specs.Book.{empty_book}
use Rattle.journal_codec.specs.Batches.{book_after}
use Rattle.gate_journal.proofs.Nexts.{after_ordered}
use Rattle.gate_journal.proofs.Reserves.{acts_follow}
use Rattle.gate_journal.proofs.laws.reserve_follows.Goals as goal

pub returns : goal.returns
returns c = λ bs acts all applies. (acts_follow (book_after empty_book bs) acts (after_ordered bs all) applies).sums
