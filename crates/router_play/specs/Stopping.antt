-- What a stop leaves of a run, and what the next run is opened on.
use Rattle.std.specs.Prelude.{◌≡◌, ◌+◌, ℕ, List, ◌++◌, length}
use Rattle.book_model.specs.declared.act.Act.{Act}
use Rattle.book_model.specs.Book.{BookView}
use Rattle.disk_core.specs.Twin.{Contents}
use Rattle.journal_codec.specs.Batches.{book_after}
use Rattle.twin_journal.specs.Holding.{TwinHolds, OpensTo}
use Rattle.reply_rows.specs.Acts.{Journaled, book_in}
use Rattle.router_trace.specs.Trace.{Trace}
use Rattle.core_player.specs.declared.entry.Entry.{Entry}
use Rattle.router_play.specs.Entries.{ShowsLives}
use Rattle.router_play.specs.Lives.{Life, Lives}
use Rattle.router_play.specs.declared.script.Stop.{Stop}
use Rattle.router_play.specs.declared.script.Stop.TheVariants as stop

-- two files are a journal that holds this: behind a checkpoint of so many batches they have batches that leave this book
pub record HoldsJournal (contents : Contents) (j : Journaled) : Type 0 where
  pub base : ℕ
  pub start : BookView
  pub batches : List (List Act)
  pub holds : TwinHolds contents base start batches
  pub book : j.book ≡ book_after start batches
  pub count : j.batches ≡ base + length batches

-- how the files are crashed: 0 leaves what was synced, and 1 all writes
abbrev pub how_of : Stop → ℕ
how_of stop.Old = 0
how_of stop.New = 1

-- so many runs, on top of these, to whose book two files open, and which show these entries
abbrev pub EndsLives : List ℕ → List Life → ℕ → Contents → List Entry → Type 0
EndsLives id past n contents entries = (lives : List Life) × (u : Trace)
    × (length lives ≡ n) × Lives id (lives ++ past) u × OpensTo contents (book_in u) × ShowsLives id past lives entries
