-- The contents of a journal's list.
use Rattle.std.specs.Prelude.{◌≡◌, ℕ, List, ◌∷◌, ◌++◌, length}
use Rattle.disk_core.specs.declared.side.Side.{Side}
use Rattle.disk_core.specs.Twin.{other, Contents}
use Rattle.book_model.specs.Book.{BookView}
use Rattle.gate_journal.specs.Listed.{IsListedFrom}
use Rattle.gate_journal.specs.declared.listing.Entry.{Entry}
use Rattle.twin_journal.specs.Checkpoints.{IsStamp}
use Rattle.twin_journal.specs.Format.{magic}
use Rattle.twin_journal.specs.Sides.{IsIdle}
use Rattle.twin_journal.specs.declared.listing.Checkpoint.{Checkpoint}

-- What the head of the active side says; then the acts of its batches with their places, the place of the gate that
-- ends them, and the book after them.
pub record IsListed (contents : Contents) (checkpoint : Checkpoint) (entries : List Entry) (place : ℕ) (book : BookView) : Type 0 where
  pub side : Side
  pub size : ℕ
  pub stamp : List ℕ
  pub start : BookView
  pub is_stamp : IsStamp stamp checkpoint.epoch checkpoint.base size start
  pub rows : checkpoint.rows ≡ length start.rows
  pub termini : checkpoint.termini ≡ length start.termini
  pub listed : IsListedFrom (magic ++ 1 ∷ stamp) start (contents side) entries place book
  pub idle : IsIdle checkpoint.epoch (contents (other side))
