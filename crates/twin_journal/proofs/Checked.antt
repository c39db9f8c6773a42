-- A checkpoint's bytes are those of one book only.
use Rattle.std.proofs.Common.{◌≡◌, ◌≢◌, ℕ, ◌≤◌, List, ◌++◌, None, sym, ap, ◌∙◌, append_assoc}
use Rattle.book_model.specs.declared.act.Act.{Act}
use Rattle.book_model.specs.Book.{BookView}
use Rattle.book_model.specs.Restoring.{acts_of_book, restore_fault}
use Rattle.book_model.specs.Sound.{IsSound}
use Rattle.book_laws.proofs.Listed.{list_reads, list_restores}
use Rattle.journal_codec.specs.Format.{in_8, acts_bytes}
use Rattle.journal_codec.specs.Batches.{AreWritable, NoActs}
use Rattle.journal_codec.proofs.Unique.{acts_unique}
use Rattle.twin_journal.specs.Checkpoints.{IsCheckpoint}
use Rattle.twin_journal.specs.Format.{largest, checkpoint_bytes}
use Rattle.twin_journal.proofs.Spelled.{same_8, small_fits}

pub spelled_parts : (n m : ℕ) (acts : List Act) → checkpoint_bytes n m acts ≡ in_8 n ++ (in_8 m ++ acts_bytes acts)
spelled_parts n m acts = append_assoc (in_8 n) (in_8 m) (acts_bytes acts)

-- What is read from front to back.
pub no_first : (bytes : List ℕ) (book : BookView) → ((n : ℕ) (rest : List ℕ) → n ≤ largest → bytes ≡ in_8 n ++ rest → ⊥) → IsCheckpoint bytes book → ⊥
no_first bytes book none is = none is.next_terminus (in_8 is.next_row ++ acts_bytes is.acts) is.terminus_fits (is.is ∙ spelled_parts is.next_terminus is.next_row is.acts)

-- behind the first number
module _ (bytes rest : List ℕ) (n : ℕ) (first : bytes ≡ in_8 n ++ rest) (small : n ≤ largest) (book : BookView) (is : IsCheckpoint bytes book) where
  pub record Behind : Type 0 where
    pub number : is.next_terminus ≡ n
    pub rest_is : rest ≡ in_8 is.next_row ++ acts_bytes is.acts

  pub behind_first : Behind
  behind_first =
      let same = same_8 is.next_terminus n (in_8 is.next_row ++ acts_bytes is.acts) rest (small_fits is.next_terminus is.terminus_fits) (small_fits n small)
      (sym (is.is ∙ spelled_parts is.next_terminus is.next_row is.acts) ∙ first) in
      record { number = same.numbers; rest_is = sym same.rests }

  pub no_second : ((m : ℕ) (inside : List ℕ) → m ≤ largest → rest ≡ in_8 m ++ inside → ⊥) → ⊥
  no_second none = none is.next_row (acts_bytes is.acts) is.row_fits behind_first.rest_is

  -- and behind the second
  module _ (inside : List ℕ) (m : ℕ) (second : rest ≡ in_8 m ++ inside) (small_too : m ≤ largest) where
    pub record Inside : Type 0 where
      pub number : is.next_row ≡ m
      pub inside_is : inside ≡ acts_bytes is.acts

    pub behind_second : Inside
    behind_second =
        let same = same_8 is.next_row m (acts_bytes is.acts) inside (small_fits is.next_row is.row_fits) (small_fits m small_too) (sym behind_first.rest_is ∙ second) in
        record { number = same.numbers; inside_is = sym same.rests }

    pub no_acts : NoActs inside → ⊥
    no_acts none = none is.acts is.writable behind_second.inside_is

    pub no_book : (acts : List Act) → AreWritable acts → inside ≡ acts_bytes acts → restore_fault n m acts ≢ None → ⊥
    no_book acts writable spelled refused =
        let one : is.acts ≡ acts = acts_unique is.acts acts is.writable writable (sym behind_second.inside_is ∙ spelled) in
        refused (ap (λ (k : ℕ). restore_fault k m acts) (sym behind_first.number) ∙ ap (λ (k : ℕ). restore_fault is.next_terminus k acts) (sym behind_second.number) ∙ ap (restore_fault is.next_terminus is.next_row) (sym one) ∙ is.reads)

-- a book's own list, written part by part behind other bytes
pub put_parts : (old first second bytes : List ℕ) (n m : ℕ) (acts : List Act) (book : BookView) → n ≡ book.next_terminus → m ≡ book.next_row → acts ≡ acts_of_book book
    → first ≡ old ++ in_8 n → second ≡ first ++ in_8 m → bytes ≡ second ++ acts_bytes acts → bytes ≡ old ++ checkpoint_bytes book.next_terminus book.next_row (acts_of_book book)
put_parts old first second bytes n m acts book terminus row are one two all =
    all
    ∙ ap (λ (l : List ℕ). l ++ acts_bytes acts) (two ∙ ap (λ (l : List ℕ). l ++ in_8 m) one ∙ append_assoc old (in_8 n) (in_8 m))
    ∙ append_assoc old (in_8 n ++ in_8 m) (acts_bytes acts)
    ∙ ap (λ (k : ℕ). old ++ checkpoint_bytes k m acts) terminus
    ∙ ap (λ (k : ℕ). old ++ checkpoint_bytes book.next_terminus k acts) row
    ∙ ap (λ (xs : List Act). old ++ checkpoint_bytes book.next_terminus book.next_row xs) are

-- a sound book's own list is a checkpoint of it
pub listed_book : (bytes : List ℕ) (book : BookView) → IsSound book → bytes ≡ checkpoint_bytes book.next_terminus book.next_row (acts_of_book book) → book.next_terminus ≤ largest → book.next_row ≤ largest
    → AreWritable (acts_of_book book) → IsCheckpoint bytes book
listed_book bytes book sound is terminus row writable = record {
  next_terminus = book.next_terminus;
  next_row = book.next_row;
  acts = acts_of_book book;
  is = is;
  terminus_fits = terminus;
  row_fits = row;
  writable = writable;
  reads = list_reads book sound;
  book_is = sym (list_restores book sound);
}
