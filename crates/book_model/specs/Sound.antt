-- What each book is that acts made of the empty one, and each that was read back.
use Rattle.std.specs.Prelude.{◌≡◌, ℕ, ◌<◌, ◌≤◌, true, false, ◌&&◌, Option, None, Some, is_some, List, length, count_by}
use Rattle.std.specs.List.{All, AllPairs}
use Rattle.amqp_model.specs.declared.state.DeliveryState.{DeliveryState}
use Rattle.amqp_model.specs.PerfSpelling.{state_spelling}
use Rattle.book_model.specs.declared.row.Row.{Row}
use Rattle.book_model.specs.declared.terminus.LinkRole.TheVariants.{Producer, Consumer}
use Rattle.book_model.specs.declared.terminus.Terminus.{Terminus}
use Rattle.book_model.specs.Book.{BookView, has_role, may_bind, terminus_at, has_tag, has_short_texts, is_from, keeps, same_key}

-- a terminus has a number from 1, below the next one, and no long text
pub record IsSoundTerminus (next : ℕ) (t : Terminus) : Type 0 where
  pub above : 0 < t.number.0
  pub below : t.number.0 < next
  pub short : has_short_texts t ≡ true

-- an outcome, if there is one, has at most 400 bytes
abbrev pub IsShortOutcome : Option DeliveryState → Type 0
IsShortOutcome None = Unit {0}
IsShortOutcome (Some outcome) = length (state_spelling outcome) ≤ 400

-- A row has a number from 1, below the next one. It isn't both decided and forgotten. It keeps its termini: its
-- producer's until it is forgotten, its consumer's until it is decided.
pub record IsSoundRow (ts : List Terminus) (next : ℕ) (r : Row) : Type 0 where
  pub above : 0 < r.number.0
  pub below : r.number.0 < next
  pub payload : length r.payload ≤ 65536
  pub outcome : IsShortOutcome r.outcome
  pub stays : (is_some r.outcome && r.forgotten) ≡ false
  pub producer : r.forgotten ≡ false → has_role Producer (terminus_at r.producer.0 ts) ≡ true
  pub consumer : r.outcome ≡ None → may_bind r.consumer ts ≡ true

-- A book is sound: numbers rise, keys are different, an older row is forgotten if a newer one of its producer's terminus
-- has its tag, and no limit is passed.
pub record IsSound (b : BookView) : Type 0 where
  pub next_terminus : 0 < b.next_terminus
  pub next_row : 0 < b.next_row
  pub termini : All (IsSoundTerminus b.next_terminus) b.termini
  pub rows : All (IsSoundRow b.termini b.next_row) b.rows
  pub termini_rise : AllPairs (λ t u. t.number.0 < u.number.0) b.termini
  pub rows_rise : AllPairs (λ r s. r.number.0 < s.number.0) b.rows
  pub keys : AllPairs (λ t u. same_key t.key u.key ≡ false) b.termini
  pub tags : AllPairs (λ r s. has_tag s.producer.0 s.tag.items r ≡ false) b.rows
  pub few_termini : length b.termini ≤ 1024
  pub few_rows : length b.rows ≤ 4096
  pub few_from : (n : ℕ) → count_by (is_from n) b.rows ≤ 64
  pub few_waiting : (n : ℕ) → count_by (keeps Consumer n) b.rows ≤ 64
