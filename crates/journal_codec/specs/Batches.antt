-- Which batches a file holds, and the book that they give.
use Rattle.std.specs.Prelude.{◌≡◌, ◌≢◌, ℕ, ◌<◌, ◌≤◌, ◌^◌, List, [], ◌∷◌, ◌++◌, length, Option, Some, None, Ok}
use Rattle.std.specs.Str.{IsUtf8}
use Rattle.amqp_model.specs.declared.state.DeliveryState.{DeliveryState}
use Rattle.amqp_model.specs.declared.state.DeliveryState.TheVariants as states
use Rattle.amqp_perf.specs.Performative.{state as state_at}
use Rattle.amqp_model.specs.PerfSpelling.{state_spelling}
use Rattle.book_model.specs.declared.act.Act.{Act}
use Rattle.book_model.specs.declared.act.Act.TheVariants.{Make, Admit, Decide, Forget, Drop}
use Rattle.book_model.specs.declared.act.Admission.{Admission}
use Rattle.book_model.specs.declared.terminus.Terminus.{Terminus}
use Rattle.book_model.specs.declared.terminus.TerminusNumber.{TerminusNumber}
use Rattle.book_model.specs.Book.{BookView, empty_book, first_fault, effects}
use Rattle.journal_codec.specs.Format.{magic, acts_bytes, batch, front_from, or_zero}

-- a text whose length fits into two bytes
pub record IsText (text : List ℕ) : Type 0 where
  pub utf8 : IsUtf8 text
  pub short : length text < 2 ^ 16

-- a state that ends a delivery (AMQP 1.0 part 3, section 3.4)
abbrev pub IsTerminal : DeliveryState → Type 0
IsTerminal (states.Received r) = ⊥
IsTerminal states.Accepted = Unit {0}
IsTerminal (states.Rejected r) = Unit {0}
IsTerminal states.Released = Unit {0}
IsTerminal (states.Modified m) = Unit {0}
IsTerminal (states.Other v) = ⊥

-- an outcome: a terminal state that its canonical encoding gives back
pub record IsOutcome (outcome : DeliveryState) : Type 0 where
  pub terminal : IsTerminal outcome
  pub reads_back : state_at (state_spelling outcome) ≡ Ok (outcome, length (state_spelling outcome))

-- a terminus has a number above 0, since 0 stands for none
abbrev pub IsAboveZero : Option TerminusNumber → Type 0
IsAboveZero None = Unit {0}
IsAboveZero (Some n) = 0 < n.0

pub record IsMake (t : Terminus) : Type 0 where
  pub number : t.number.0 < 2 ^ 64
  pub user : IsText t.key.user
  pub container : IsText t.key.container
  pub name : IsText t.key.name
  pub address : IsText t.address

pub record IsAdmission (a : Admission) : Type 0 where
  pub row : a.row.0 < 2 ^ 64
  pub producer : a.producer.0 < 2 ^ 64
  pub tag : length a.tag.items ≤ 32
  pub consumer : or_zero a.consumer < 2 ^ 64
  pub above_zero : IsAboveZero a.consumer
  pub format : a.format < 2 ^ 32
  pub payload : length a.payload < 2 ^ 32

-- an act whose numbers and lengths fit into their bytes
abbrev pub IsWritable : Act → Type 0
IsWritable (Make t) = IsMake t
IsWritable (Admit a) = IsAdmission a
IsWritable (Decide d) = (d.row.0 < 2 ^ 64) × (length (state_spelling d.outcome) < 2 ^ 16) × IsOutcome d.outcome
IsWritable (Forget n) = n.0 < 2 ^ 64
IsWritable (Drop n) = n.0 < 2 ^ 64

-- each act is
abbrev pub AreWritable : List Act → Type 0
AreWritable [] = Unit {0}
AreWritable (act ∷ acts) = IsWritable act × AreWritable acts

-- a batch has at least one act and at most 4,194,304 bytes of acts
pub record IsBatch (acts : List Act) : Type 0 where
  pub some : acts ≢ []
  pub small : length (acts_bytes acts) ≤ 4194304
  pub writable : AreWritable acts

-- these bytes are those of no acts
abbrev pub NoActs : List ℕ → Type 0
NoActs bytes = (acts : List Act) → AreWritable acts → bytes ≡ acts_bytes acts → ⊥

-- the bytes don't begin with a batch and a gate after it
abbrev pub NoneBegins : List ℕ → Type 0
NoneBegins bytes = (acts : List Act) (gate : ℕ) (rest : List ℕ) → IsBatch acts → bytes ≡ batch acts ++ gate ∷ rest → ⊥

-- batches, each of which applies to the book after those before it
unfoldable pub AllApply : BookView → List (List Act) → Type 0
AllApply b [] = Unit {0}
AllApply b (acts ∷ bs) = IsBatch acts × (first_fault b acts ≡ None) × AllApply (effects b acts) bs

-- the book after these batches
unfoldable pub book_after : BookView → List (List Act) → BookView
book_after b [] = b
book_after b (acts ∷ bs) = book_after (effects b acts) bs

-- A file with this head holds batches above this book: open gates with them, then a gate that isn't open (1 is open), then anything.
pub record HoldsFrom (head : List ℕ) (start : BookView) (file : List ℕ) (bs : List (List Act)) : Type 0 where
  pub gate : ℕ
  pub rest : List ℕ
  pub shut : gate ≢ 1
  pub is : file ≡ front_from head bs ++ gate ∷ rest
  pub valid : AllApply start bs

-- A journal does: its head is the magic, and it begins with the empty book.
abbrev pub Holds : List ℕ → List (List Act) → Type 0
Holds file bs = HoldsFrom magic empty_book file bs

-- Of what a batch needs, the part that the acts' numbers and lengths don't show: that an outcome is one, and that a
-- terminus has a number above 0.
abbrev pub HasOutcome : Act → Type 0
HasOutcome (Decide d) = IsOutcome d.outcome
HasOutcome _ = Unit {0}

abbrev pub HasTerminus : Act → Type 0
HasTerminus (Admit a) = IsAboveZero a.consumer
HasTerminus _ = Unit {0}

-- each outcome that these acts decide is one
abbrev pub HaveOutcomes : List Act → Type 0
HaveOutcomes [] = Unit {0}
HaveOutcomes (act ∷ acts) = HasOutcome act × HaveOutcomes acts

-- each terminus that these acts bind to has a number above 0
abbrev pub HaveTermini : List Act → Type 0
HaveTermini [] = Unit {0}
HaveTermini (act ∷ acts) = HasTerminus act × HaveTermini acts

-- a batch that applies after these batches above a book
pub record IsNextFrom (start : BookView) (bs : List (List Act)) (acts : List Act) : Type 0 where
  pub some : acts ≢ []
  pub small : length (acts_bytes acts) ≤ 4194304
  pub outcomes : HaveOutcomes acts
  pub applies : first_fault (book_after start bs) acts ≡ None

-- one that does in a journal
abbrev pub IsNext : List (List Act) → List Act → Type 0
IsNext bs acts = IsNextFrom empty_book bs acts
