-- What the summary of a journal prints.
use Rattle.std.specs.Prelude.{◌≡◌, ℕ, ◌-◌, ◌+◌, Bool, is_some, is_none, List, [], ◌∷◌, ◌++◌, map, length, count_by, codes, decimal, Option, Some, IfSome, ◌⊎◌}
use Rattle.std.specs.Fmt.{◌++?◌, debug_str}
use Rattle.std.specs.Io.KnownBytes.{Appends}
use Rattle.book_model.specs.Book.{BookView}
use Rattle.book_model.specs.declared.act.Act.{Act}
use Rattle.book_model.specs.declared.act.Act.TheVariants as act
use Rattle.book_model.specs.declared.row.Row.{Row}
use Rattle.book_model.specs.declared.terminus.LinkRole.{LinkRole}
use Rattle.book_model.specs.declared.terminus.LinkRole.TheVariants.{Producer, Consumer}
use Rattle.disk_core.specs.Twin.{Contents}
use Rattle.disk_core.specs.declared.side.Side.TheVariants.{First, Second}
use Rattle.gate_journal.specs.Reserve.{journal_limit, reserve}
use Rattle.gate_journal.specs.declared.listing.Entry.{Entry}
use Rattle.twin_journal.specs.Listed.{IsListed}
use Rattle.twin_journal.specs.Room.{renewed_bytes}
use Rattle.twin_journal.specs.declared.listing.Checkpoint.{Checkpoint as ACheckpoint}
use Rattle.amqr_files.specs.Journals.{IsNotListed, RefusesFor}
use Rattle.amqr_files.specs.Print.{printed}
use Rattle.amqr_files.specs.declared.status.Status.{Status}
use Rattle.amqr_files.specs.declared.status.Status.TheVariants.{Done}
use Rattle.amqr_files.specs.declared.summary.RowState.{RowState}
use Rattle.amqr_files.specs.declared.summary.RowState.TheVariants.{Undecided, Decided, Forgotten}
use Rattle.amqr_files.specs.declared.summary.SummaryLine.{SummaryLine}
use Rattle.amqr_files.specs.declared.summary.SummaryLine.TheVariants.{Bytes, Checkpoint, Rows, Termini, Terminus, Room}

abbrev pub role_name : LinkRole → List ℕ
role_name Producer = codes "producer"
role_name Consumer = codes "consumer"

-- a row has come to this
abbrev pub has_state : RowState → Row → Bool
has_state Undecided r = is_none r.outcome
has_state Decided r = is_some r.outcome
has_state Forgotten r = r.forgotten

-- the text of a line, without the line feed; of a terminus whose texts aren't ASCII nothing is said
abbrev pub summary_text : SummaryLine → Option (List ℕ)
summary_text (Bytes first second) = Some (codes "bytes " ++ (decimal first ++ (codes " " ++ decimal second)))
summary_text (Checkpoint epoch base) = Some (codes "epoch " ++ (decimal epoch ++ (codes " base " ++ decimal base)))
summary_text (Rows rows undecided decided forgotten) =
    Some (codes "rows " ++ (decimal rows ++ (codes " undecided " ++ (decimal undecided ++ (codes " decided " ++ (decimal decided ++ (codes " forgotten " ++ decimal forgotten)))))))
summary_text (Termini termini) = Some (codes "termini " ++ decimal termini)
summary_text (Terminus t) =
    Some (codes "terminus ") ++? Some (decimal t.number.0) ++? Some (codes " ") ++? Some (role_name t.key.role) ++? Some (codes " ") ++? debug_str t.key.user
    ++? Some (codes " ") ++? debug_str t.key.container ++? Some (codes " ") ++? debug_str t.key.name ++? Some (codes " ") ++? debug_str t.address
summary_text (Room bytes) = Some (codes "room " ++ decimal bytes)

-- the line of a book's rows: how many there are, how many are undecided, how many are decided, and how many their producers have settled
abbrev pub rows_line : BookView → SummaryLine
rows_line b = Rows (length b.rows) (count_by (has_state Undecided) b.rows) (count_by (has_state Decided) b.rows) (count_by (has_state Forgotten) b.rows)

-- a line for each terminus, by number
abbrev pub termini_lines : BookView → List SummaryLine
termini_lines b = map Terminus b.termini

-- the line of the terminus that an act makes
abbrev pub act_lines : Act → List SummaryLine
act_lines (act.Make t) = Terminus t ∷ []
act_lines (act.Admit a) = []
act_lines (act.Decide d) = []
act_lines (act.Forget n) = []
act_lines (act.Drop n) = []

-- what the limit leaves beside a checkpoint of the book and what is kept free for it; nothing where they go beyond it
abbrev pub room_left : BookView → ℕ
room_left b = journal_limit - (renewed_bytes b + reserve b)

-- the lines of a summary: how many bytes the files have, the checkpoint, the rows and the termini of the book, and the room
abbrev pub summary_lines : ℕ → ℕ → ACheckpoint → BookView → List SummaryLine
summary_lines first second checkpoint b =
    Bytes first second ∷ Checkpoint checkpoint.epoch checkpoint.base ∷ rows_line b ∷ Termini (length b.termini) ∷ (termini_lines b ++ Room (room_left b) ∷ [])

-- the lines of the summary of two files that are a journal: of its checkpoint, and of the book after its batches
pub record IsSummary (contents : Contents) (lines : List SummaryLine) : Type 0 where
  pub checkpoint : ACheckpoint
  pub entries : List Entry
  pub place : ℕ
  pub book : BookView
  pub listed : IsListed contents checkpoint entries place book
  pub are : lines ≡ summary_lines (length (contents First)) (length (contents Second)) checkpoint book

-- a writer that held these bytes, where they are known, now holds the lines of a summary as well
abbrev pub WritesSummary : Contents → Option (List ℕ) → Option (List ℕ) → Type 0
WritesSummary contents old new = (lines : List SummaryLine) × IsSummary contents lines × IfSome (printed summary_text lines) (Appends old new)

-- how the summary of two files ends
abbrev pub SummarizesJournal : Contents → Type 0 → Status → Option (List ℕ) → Option (List ℕ) → Type 0
SummarizesJournal contents failed status old new = ((status ≡ Done) × WritesSummary contents old new) ⊎ RefusesFor (IsNotListed contents failed) status old new
