-- Durable deliveries and the book (AMQP 1.0 part 2, section 2.6.12; part 3, section 3.4): the outcome of one stands in the book before its producer is
-- told it, and no row is decided twice.
use Rattle.std.specs.Prelude.{◌≡◌, ◌≤◌, ◌⊎◌, ℕ, ◌+◌, ◌==◌, ◌||◌, nat_le, Bool, true, false, if◌then◌else◌, List, [], ◌∷◌, Option, Some, None, option_map}
use Rattle.amqp_model.specs.declared.perf.Disposition.{Disposition}
use Rattle.amqp_model.specs.declared.perf.Perf.{Perf}
use Rattle.amqp_model.specs.declared.perf.Perf.TheVariants as perf
use Rattle.amqp_model.specs.declared.perf.Role.{Role}
use Rattle.amqp_model.specs.declared.perf.Role.TheVariants.{Sender, Receiver}
use Rattle.amqp_model.specs.declared.state.DeliveryState.{DeliveryState}
use Rattle.amqp_model.specs.declared.item.Item.{Item}
use Rattle.amqp_model.specs.declared.item.Item.TheVariants as item
use Rattle.book_model.specs.declared.act.Act.{Act}
use Rattle.book_model.specs.declared.act.Act.TheVariants.{Make, Admit, Decide, Forget, Drop}
use Rattle.book_model.specs.declared.row.Row.{Row as ARow}
use Rattle.book_model.specs.Book.{BookView, empty_book, row_at, is_undecided}
use Rattle.journal_store.specs.Acting.{journal_outcome}
use Rattle.router_trace.specs.declared.binding.DeliveryName.{DeliveryName}
use Rattle.router_trace.specs.declared.binding.DeliveryName.TheVariants.{Row, Counter}
use Rattle.router_trace.specs.Trace.{Trace, Beginning, Did, Out, Took, Bound, Booked, Routed, Began}
use Rattle.router_trace.specs.DeliveryFrames.{kept_outcome}
use Rattle.reply_rows.specs.Acts.{book_in}
use Rattle.theorems.specs.Each.{EachOut}
use Rattle.theorems.specs.Carried.{HasSmallNumbers}
use Rattle.theorems.specs.Told.{TellsOutcome}

-- A row of the book that is decided, with the outcome that is told: as the journal keeps that (`journal_outcome`, which is the same if a peer can send
-- the outcome: `OutcomesAreKeptAsTold`); or the row was decided before it was bound, and its outcome is told as dispositions have it (`kept_outcome`). Of
-- an outcome that a router has decided both say the same.
abbrev pub IsDecidedAs : Option ARow → Option DeliveryState → Type 0
IsDecidedAs None told = ⊥
IsDecidedAs (Some r) told = (r.outcome ≡ option_map journal_outcome told) ⊎ (told ≡ option_map kept_outcome r.outcome)

abbrev pub RowIsDecided : BookView → DeliveryName → Option DeliveryState → Type 0
RowIsDecided b (Row r) outcome = IsDecidedAs (row_at r.0 b.rows) outcome
RowIsDecided b (Counter k) outcome = Unit {0}

-- Where a disposition of the router reports the outcome of a delivery with a row, the book has that row, decided, with the outcome that is told.
abbrev pub role_is_decided : Role → Trace → ℕ → ℕ → Disposition → Type 0
role_is_decided Receiver t c own x = (report : TellsOutcome t c own x) → RowIsDecided (book_in t) report.of.name x.state
role_is_decided Sender t c own x = Unit {0}

abbrev pub perf_is_decided : Perf → Trace → ℕ → ℕ → Type 0
perf_is_decided (perf.Disposition x) t c own = role_is_decided x.role t c own x
perf_is_decided _ t c own = Unit {0}

abbrev pub OutcomeIsKept : Trace → ℕ → Item → Type 0
OutcomeIsKept t c (item.Frame sasl own body payload) = perf_is_decided body t c own
OutcomeIsKept t c _ = Unit {0}

-- A row may still be decided: it is undecided, or has yet to be admitted.
abbrev pub is_open_row : Option ARow → Bool
is_open_row None = false
is_open_row (Some r) = is_undecided r

abbrev pub may_be_decided : BookView → ℕ → Bool
may_be_decided b n = nat_le b.next_row n || is_open_row (row_at n b.rows)

-- how often acts decide the row of a number, and how often those of all events did
abbrev pub decides_row : Act → ℕ → Bool
decides_row (Make x) n = false
decides_row (Admit x) n = false
decides_row (Decide d) n = d.row.0 == n
decides_row (Forget m) n = false
decides_row (Drop m) n = false

abbrev pub times_in : List Act → ℕ → ℕ
times_in [] n = 0
times_in (act ∷ acts) n = (if decides_row act n then 1 else 0) + times_in acts n

abbrev pub times_decided : Trace → ℕ → ℕ
times_decided [] n = 0
times_decided (Did s ∷ t) n = times_decided t n
times_decided (Out c i ∷ t) n = times_decided t n
times_decided (Took c k ∷ t) n = times_decided t n
times_decided (Bound b ∷ t) n = times_decided t n
times_decided (Booked acts full ∷ t) n = times_decided t n + times_in acts n
times_decided (Routed passage ∷ t) n = times_decided t n
times_decided (Began g ∷ t) n = times_decided t n

-- Each row is decided at most once: not as long as it may still be decided, and not if it might not when the router was opened.
pub record IsDecidedOnce (first : BookView) (t : Trace) (n : ℕ) : Type 0 where
  pub once : times_decided t n ≤ 1
  pub waits : may_be_decided (book_in t) n ≡ true → times_decided t n ≡ 0
  pub before : may_be_decided first n ≡ false → times_decided t n ≡ 0

-- each outcome of a delivery with a row stands in the book before it is told
abbrev pub EachOutcomeIsKept : Beginning → Trace → Type 0
EachOutcomeIsKept g u = HasSmallNumbers u → EachOut OutcomeIsKept u

-- each row is decided at most once
abbrev pub EachRowIsDecidedOnce : Beginning → Trace → Type 0
EachRowIsDecidedOnce g u = (n : ℕ) → IsDecidedOnce g.book u n

-- over runs, the first of which was opened on an empty book: each row is decided at most once in all of them
abbrev pub RowsAreDecidedOnce : Trace → Type 0
RowsAreDecidedOnce u = (n : ℕ) → IsDecidedOnce empty_book u n
