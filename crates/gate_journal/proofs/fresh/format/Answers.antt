use Rattle.std.proofs.Common.{◌∙◌}
use Rattle.book_model.specs.Book.{empty_book}
use Rattle.journal_codec.specs.Format.{magic}
use Rattle.gate_journal.proofs.Fronts.{fresh_file, fresh_holds}
use Rattle.gate_journal.proofs.fresh.format.Goals as goal

pub returns-clause-empty : goal.returns-clause-empty
returns-clause-empty g c = fresh_holds magic empty_book _ (c.in_ok-sync.ensures.seen ∙ c.in_ok-write_at.ensures.written ∙ fresh_file _ c.in_ok-cut.ensures.cut)
