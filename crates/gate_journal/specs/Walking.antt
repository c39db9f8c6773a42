-- What a walk that lists acts has listed so far of a file with this head, above this book.
use Rattle.std.specs.Prelude.{◌≡◌, ℕ, List, length}
use Rattle.book_model.specs.Book.{BookView}
use Rattle.gate_journal.specs.declared.listing.Entry.{Entry}
use Rattle.gate_journal.specs.Listing.{entries_from}
use Rattle.gate_journal.specs.Scanning.{WalkedFrom}

pub record ListedFrom (head : List ℕ) (start : BookView) (bytes rest : List ℕ) (book : BookView) (entries : List Entry) : Type 0 where
  pub count : ℕ
  pub walked : WalkedFrom head start bytes rest book count
  pub entries_are : entries ≡ entries_from (length head) walked.batches
