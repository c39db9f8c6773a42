use Rattle.book_model.specs.Book.{empty_book}
use Rattle.book_laws.proofs.Joining.{older_apply, newer_apply, both_apply, effects_app}
use Rattle.book_laws.proofs.laws.a_prefix_makes_its_book.Goals as goal

pub returns-clause-older : goal.returns-clause-older
returns-clause-older c = older_apply empty_book

pub returns-clause-newer : goal.returns-clause-newer
returns-clause-newer c = newer_apply empty_book

pub returns-clause-joined : goal.returns-clause-joined
returns-clause-joined c = both_apply empty_book

pub returns-clause-book : goal.returns-clause-book
returns-clause-book c = effects_app empty_book
