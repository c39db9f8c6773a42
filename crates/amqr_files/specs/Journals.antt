-- What the journal commands print: the lines of a journal, or why none is listed or made.
use Rattle.std.specs.Prelude.{◌≡◌, ◌≢◌, ℕ, List, [], ◌∷◌, ◌++◌, map, length, codes, decimal, Option, Some, IfSome, ⊤, ◌⊎◌}
use Rattle.std.specs.Io.KnownBytes.{Appends}
use Rattle.book_model.specs.Act.{kind_of, number_of}
use Rattle.book_model.specs.Book.{BookView}
use Rattle.book_model.specs.declared.act.ActKind.{ActKind}
use Rattle.book_model.specs.declared.act.ActKind.TheVariants as kind
use Rattle.disk_core.specs.Disk.{Only}
use Rattle.disk_core.specs.Twin.{Contents}
use Rattle.disk_core.specs.declared.side.Side.{Side}
use Rattle.twin_journal.specs.Format.{fresh}
use Rattle.twin_journal.specs.Listed.{IsListed}
use Rattle.twin_journal.specs.Judging.{Explains}
use Rattle.twin_journal.specs.declared.listing.Checkpoint.{Checkpoint as ACheckpoint}
use Rattle.gate_journal.specs.declared.fault.OpenFault.TheVariants as opening
use Rattle.gate_journal.specs.declared.listing.Entry.{Entry}
use Rattle.amqr_files.specs.Print.{Refuses, printed}
use Rattle.amqr_files.specs.Status.{status_of}
use Rattle.amqr_files.specs.declared.journal.JournalLine.{JournalLine}
use Rattle.amqr_files.specs.declared.journal.JournalLine.TheVariants.{Checkpoint, Act, End}
use Rattle.amqr_files.specs.declared.journal.Unopened.{Unopened}
use Rattle.amqr_files.specs.declared.journal.Unopened.TheVariants.{InUse, Refused}
use Rattle.amqr_files.specs.declared.status.Status.{Status}
use Rattle.amqr_files.specs.declared.status.Status.TheVariants.{Done, BadInput}
use Rattle.amqr_files.specs.declared.status.Refusal.{Refusal}
use Rattle.amqr_files.specs.declared.status.Refusal.TheVariants as refusal

-- the name of an act's kind
abbrev pub kind_name : ActKind → List ℕ
kind_name kind.Make = codes "Make"
kind_name kind.Admit = codes "Admit"
kind_name kind.Decide = codes "Decide"
kind_name kind.Forget = codes "Forget"
kind_name kind.Drop = codes "Drop"

-- the text of a line, without the line feed
abbrev pub journal_text : JournalLine → List ℕ
journal_text (Checkpoint epoch base rows termini) =
    codes "epoch " ++ (decimal epoch ++ (codes " base " ++ (decimal base ++ (codes " rows " ++ (decimal rows ++ (codes " termini " ++ decimal termini))))))
journal_text (Act place k number) = decimal place ++ (codes " " ++ (kind_name k ++ (codes " " ++ decimal number)))
journal_text (End place rows termini) = codes "end " ++ (decimal place ++ (codes " rows " ++ (decimal rows ++ (codes " termini " ++ decimal termini))))

-- the line of a checkpoint: its epoch, the number of the last batch in it, and what its book has
abbrev pub checkpoint_line : ACheckpoint → JournalLine
checkpoint_line c = Checkpoint c.epoch c.base c.rows c.termini

-- the line of an act: the place of its batch's gate, what it does, and the number of its row, or else of its terminus
abbrev pub act_line : Entry → JournalLine
act_line entry = Act entry.place (kind_of entry.act) (number_of entry.act)

-- the last line: the place of the gate that ends a journal, and what its book has
abbrev pub end_line : ℕ → BookView → JournalLine
end_line place book = End place (length book.rows) (length book.termini)

-- the lines of a list: its checkpoint, the acts, and the end
abbrev pub journal_lines : ACheckpoint → List Entry → ℕ → BookView → List JournalLine
journal_lines checkpoint entries place book = checkpoint_line checkpoint ∷ (map act_line entries ++ end_line place book ∷ [])

-- the lines of two files that are a journal: the checkpoint of the active one, the acts of the batches after the open gates behind it, and the end
pub record IsJournal (contents : Contents) (lines : List JournalLine) : Type 0 where
  pub checkpoint : ACheckpoint
  pub entries : List Entry
  pub place : ℕ
  pub book : BookView
  pub listed : IsListed contents checkpoint entries place book
  pub are : lines ≡ journal_lines checkpoint entries place book

-- a writer that held these bytes, where they are known, now holds the lines of a journal as well
abbrev pub WritesJournal : Contents → Option (List ℕ) → Option (List ℕ) → Type 0
WritesJournal contents old new = (lines : List JournalLine) × IsJournal contents lines × IfSome (printed (λ x. Some (journal_text x)) lines) (Appends old new)

-- why two files aren't listed, where they failed or not
abbrev pub IsNotListed : Contents → Type 0 → Refusal → Type 0
IsNotListed contents failed refusal.NoJournal = Explains contents opening.NotAJournal
IsNotListed contents failed (refusal.Damaged place) = Explains contents (opening.Damaged place)
IsNotListed contents failed refusal.Disk = failed
IsNotListed contents failed refusal.Memory = ⊤
IsNotListed contents failed _ = ⊥

-- one of two files isn't empty
abbrev pub HasBytes : Contents → Type 0
HasBytes contents = (side : Side) × (contents side ≢ [])

-- why no journal is made on two files
abbrev pub IsNotMade : Contents → Type 0 → Refusal → Type 0
IsNotMade contents failed refusal.Exists = HasBytes contents
IsNotMade contents failed refusal.Disk = failed
IsNotMade contents failed refusal.Memory = ⊤
IsNotMade contents failed _ = ⊥

-- a refusal with a reason was written, and the status is that of the refusal
abbrev pub RefusesFor : (Refusal → Type 0) → Status → Option (List ℕ) → Option (List ℕ) → Type 0
RefusesFor Reason status old new = (r : Refusal) × Reason r × (status ≡ status_of r) × Refuses r old new

-- how the list of two files ends
abbrev pub ListsJournal : Contents → Type 0 → Status → Option (List ℕ) → Option (List ℕ) → Type 0
ListsJournal contents failed status old new = ((status ≡ Done) × WritesJournal contents old new) ⊎ RefusesFor (IsNotListed contents failed) status old new

-- two empty files became those of a journal of no batches, and a crash leaves just these
pub record IsMade (before after : Contents) (may_leave : Contents → Type 0) : Type 0 where
  pub empty : (side : Side) → before side ≡ []
  pub journal : after ≡ fresh
  pub durable : Only after may_leave

-- how making a journal ends
abbrev pub Formats : Contents → Type 0 → Type 0 → Status → Option (List ℕ) → Option (List ℕ) → Type 0
Formats before made failed status old new = ((status ≡ Done) × made × Appends old new (codes "formatted" ++ 10 ∷ [])) ⊎ RefusesFor (IsNotMade before failed) status old new

-- the line of a journal that another server has in use
abbrev pub in_use_text : List ℕ → List ℕ
in_use_text path = codes "journal " ++ (path ++ codes " is in use")

-- why the files of a journal that is in use by nobody aren't opened
abbrev pub IsUnopened : Unopened → Type 0
IsUnopened fault = (fault ≡ Refused refusal.NoJournal) ⊎ ((fault ≡ Refused refusal.File) ⊎ (fault ≡ Refused refusal.Memory))

-- how the program ends where no server is started over a journal
abbrev pub unopened_status : Unopened → Status
unopened_status InUse = BadInput
unopened_status (Refused r) = status_of r

-- a writer that held these bytes, where they are known, now holds one more line: why no server is started over a journal
abbrev pub RefusesJournal : List ℕ → Unopened → Option (List ℕ) → Option (List ℕ) → Type 0
RefusesJournal path InUse old new = Appends old new (in_use_text path ++ 10 ∷ [])
RefusesJournal path (Refused r) old new = Refuses r old new
