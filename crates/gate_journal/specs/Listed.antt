-- The contents of a journal's list.
use Rattle.std.specs.Prelude.{◌≡◌, ℕ, List, length}
use Rattle.book_model.specs.declared.act.Act.{Act}
use Rattle.book_model.specs.Book.{BookView, empty_book}
use Rattle.gate_journal.specs.declared.listing.Entry.{Entry}
use Rattle.journal_codec.specs.Format.{magic, front_from}
use Rattle.journal_codec.specs.Batches.{HoldsFrom, book_after}
use Rattle.gate_journal.specs.Listing.{entries_from}

-- In a file with this head, above this book: the acts of its batches with their places, the place of the gate that ends them, and
-- the book after them.
pub record IsListedFrom (head : List ℕ) (start : BookView) (file : List ℕ) (entries : List Entry) (place : ℕ) (book : BookView) : Type 0 where
  pub batches : List (List Act)
  pub holds : HoldsFrom head start file batches
  pub entries_are : entries ≡ entries_from (length head) batches
  pub is_place : place ≡ length (front_from head batches)
  pub book_is : book ≡ book_after start batches

-- the contents of a journal's list
abbrev pub IsListed : List ℕ → List Entry → ℕ → BookView → Type 0
IsListed file entries place book = IsListedFrom magic empty_book file entries place book
