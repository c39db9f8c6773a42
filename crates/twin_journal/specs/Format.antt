-- The bytes of a side of format 2: a head, whose ninth byte is its gate, and behind the head of the active side gates
-- and batches, as in format 1.
use Rattle.std.specs.Prelude.{ℕ, List, [], ◌∷◌, ◌++◌, length}
use Rattle.disk_core.specs.Twin.{Contents}
use Rattle.disk_core.specs.declared.side.Side.TheVariants.{First, Second}
use Rattle.book_model.specs.declared.act.Act.{Act}
use Rattle.book_model.specs.Book.{BookView}
use Rattle.book_model.specs.Restoring.{acts_of_book}
use Rattle.journal_codec.specs.Format.{in_4, in_8, acts_bytes}

-- AMQRJ002
abbrev pub magic : List ℕ
magic = 65 ∷ 77 ∷ 81 ∷ 82 ∷ 74 ∷ 48 ∷ 48 ∷ 50 ∷ []

-- the largest number that is read in a head: 2 ^ 62
abbrev pub largest : ℕ
largest = 4611686018427387904

-- a book as bytes: the numbers of the terminus and the row that come next in it, and acts
abbrev pub checkpoint_bytes : ℕ → ℕ → List Act → List ℕ
checkpoint_bytes next_terminus next_row acts = in_8 next_terminus ++ in_8 next_row ++ acts_bytes acts

-- how many bytes a book's own acts make
abbrev pub checkpoint_size : BookView → ℕ
checkpoint_size b = length (checkpoint_bytes b.next_terminus b.next_row (acts_of_book b))

-- what a head has behind its gate: epoch, base, and a checkpoint after its length
unfoldable pub stamp_bytes : ℕ → ℕ → List ℕ → List ℕ
stamp_bytes epoch base checkpoint = in_8 epoch ++ in_8 base ++ in_4 (length checkpoint) ++ checkpoint

-- a head: the magic, an open gate, and what is behind it
abbrev pub head_bytes : ℕ → ℕ → List ℕ → List ℕ
head_bytes epoch base checkpoint = magic ++ 1 ∷ stamp_bytes epoch base checkpoint

-- A journal of no batches, as it is made: the one side, of 46 bytes, has the empty book, the other one, of 9, nothing.
abbrev pub fresh : Contents
fresh First = head_bytes 1 0 (checkpoint_bytes 1 1 []) ++ 0 ∷ []
fresh Second = magic ++ 0 ∷ []
