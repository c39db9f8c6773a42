-- Durable messages and the book (AMQP 1.0 part 2, sections 2.6.12 and 2.7.5; part 3, sections 3.5.3 to 3.5.5): a message that has a row is bound once the
-- row is in the book.
use Rattle.std.specs.Prelude.{◌≡◌, ◌<◌, ◌≤◌, ℕ, ◌+◌, ◌==◌, ◌&&◌, Bool, true, false, if◌then◌else◌, [], ◌∷◌, Option, Some, None, unwrap_or, List}
use Rattle.amqp_link.specs.declared.part.Delivery.{Delivery as Told}
use Rattle.book_model.specs.declared.act.Act.TheVariants.{Admit}
use Rattle.book_model.specs.declared.act.Admission.{Admission}
use Rattle.book_model.specs.declared.row.RowNumber.{RowNumber}
use Rattle.book_model.specs.declared.terminus.TerminusNumber.{TerminusNumber}
use Rattle.book_model.specs.Book.{BookView, admit_refusal}
use Rattle.router_trace.specs.declared.binding.Binding.{Binding}
use Rattle.router_trace.specs.declared.binding.Origin.{Origin}
use Rattle.router_trace.specs.Deliveries.{origin_of, is_message}
use Rattle.router_trace.specs.Following.{link_of}
use Rattle.router_trace.specs.Links.{durable_key}
use Rattle.router_trace.specs.Trace.{Trace, Beginning, Did, Out, Took, Bound, Booked, Routed, Began}
use Rattle.reply_rows.specs.Acts.{book_in}
use Rattle.reply_rows.specs.Admitting.{terminus_for}
use Rattle.theorems.specs.Came.{CameWhole}

-- the terminus of the link of an unsettled delivery's producer
abbrev pub IsFromTerminus : Option Origin → Trace → BookView → TerminusNumber → Type 0
IsFromTerminus None t book n = ⊥
IsFromTerminus (Some p) t book n = terminus_for book (durable_key (link_of t p.link)) ≡ Some n

-- A message with a row is bound after the event that completed it, and before that event stands one act: the book admits the message, under the row, whose
-- number is new. It is what came and is bound: an unsettled delivery on the durable link of the producer, for the same consumer, with its tag and its payload.
pub record IsAdmitted (t : Trace) (b : Binding) (row : RowNumber) : Type 0 where
  pub conn : ℕ
  pub own : ℕ
  pub handle : ℕ
  pub message : Told
  pub came : CameWhole t conn own handle message b.payload
  pub before : Trace
  pub admission : Admission
  pub full : List ℕ
  pub acts : came.handled.found ≡ Booked (Admit admission ∷ []) full ∷ before
  pub applies : admit_refusal (book_in before) admission ≡ None
  pub number : admission.row ≡ row
  pub is_next : row.0 ≡ (book_in before).next_row
  pub producer : IsFromTerminus (origin_of b.kind) t (book_in before) admission.producer
  pub consumer : admission.consumer ≡ terminus_for (book_in before) (durable_key (link_of t b.consumer))
  pub tag : admission.tag ≡ unwrap_or message.tag (record { items = [] })
  pub format : admission.format ≡ b.format
  pub payload : admission.payload ≡ b.payload

abbrev pub IsAdmittedUnder : Trace → Binding → Option RowNumber → Type 0
IsAdmittedUnder t b None = Unit {0}
IsAdmittedUnder t b (Some row) = IsAdmitted t b row

-- a row that is bound again was admitted before (`TakesUp`, `JoinsRow`, `HoldsRow`, `SettlesRow`)
abbrev pub IsAdmittedIf : Bool → Trace → Binding → Type 0
IsAdmittedIf true t b = IsAdmittedUnder t b b.row
IsAdmittedIf false t b = Unit {0}

abbrev pub RowIsAdmitted : Trace → Binding → Type 0
RowIsAdmitted t b = IsAdmittedIf (is_message b.kind) t b

-- how often the row with a number was bound, but for the times when it was bound again
abbrev pub is_row : Option RowNumber → ℕ → Bool
is_row None n = false
is_row (Some row) n = row.0 == n

abbrev pub times_bound : Trace → ℕ → ℕ
times_bound [] n = 0
times_bound (Did s ∷ t) n = times_bound t n
times_bound (Out c i ∷ t) n = times_bound t n
times_bound (Took c k ∷ t) n = times_bound t n
times_bound (Bound b ∷ t) n = times_bound t n + (if is_message b.kind && is_row b.row n then 1 else 0)
times_bound (Booked acts full ∷ t) n = times_bound t n
times_bound (Routed passage ∷ t) n = times_bound t n
times_bound (Began g ∷ t) n = times_bound t n

-- each row is bound at most once by a message that came, and none that the book has yet to admit
pub record IsBoundOnce (t : Trace) (n : ℕ) : Type 0 where
  pub once : times_bound t n ≤ 1
  pub known : (book_in t).next_row ≤ n → times_bound t n ≡ 0

-- Each row that the book gave since it was opened is bound: none is admitted for nothing.
abbrev pub AreBoundSince : ℕ → Trace → Type 0
AreBoundSince first t = (n : ℕ) → first ≤ n → n < (book_in t).next_row → times_bound t n ≡ 1

abbrev pub EachRowIsBoundOnce : Trace → Type 0
EachRowIsBoundOnce u = (n : ℕ) → IsBoundOnce u n

abbrev pub EachNewRowIsBound : Beginning → Trace → Type 0
EachNewRowIsBound g u = AreBoundSince g.book.next_row u
