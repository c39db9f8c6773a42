use Rattle.book_laws.proofs.Listed.{list_reads, list_restores}
use Rattle.book_laws.proofs.restoring.what_a_book_lists_restores_it.Goals as goal

pub returns-clause-reads : goal.returns-clause-reads
returns-clause-reads c = list_reads

pub returns-clause-book : goal.returns-clause-book
returns-clause-book c = list_restores
