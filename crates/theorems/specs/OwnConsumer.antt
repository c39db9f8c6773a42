-- A row stays with its consumer, whatever is stopped in between (AMQP 1.0 part 2, section 2.6.12, and part 3, sections 3.5.3 to 3.5.5): what is sent of it goes to
-- the link of the terminus for which it was admitted, in this run or an earlier one.
use Rattle.std.specs.Prelude.{◌≡◌, ◌≤◌, ℕ, ◌+◌, ◌==◌, Bool, true, false, if◌then◌else◌, List, [], ◌∷◌, ◌++◌, Option, Some, None}
use Rattle.amqp_model.specs.declared.perf.Perf.{Perf}
use Rattle.amqp_model.specs.declared.perf.Perf.TheVariants as perf
use Rattle.amqp_model.specs.declared.item.Item.{Item}
use Rattle.amqp_model.specs.declared.item.Item.TheVariants as item
use Rattle.book_model.specs.declared.act.Act.{Act}
use Rattle.book_model.specs.declared.act.Act.TheVariants.{Make, Admit}
use Rattle.book_model.specs.declared.act.Admission.{Admission}
use Rattle.book_model.specs.declared.row.RowNumber.{RowNumber}
use Rattle.book_model.specs.declared.terminus.Terminus.{Terminus}
use Rattle.book_model.specs.declared.terminus.TerminusNumber.{TerminusNumber}
use Rattle.router_trace.specs.declared.binding.Binding.{Binding}
use Rattle.router_trace.specs.declared.binding.DeliveryName.TheVariants.{Row}
use Rattle.router_trace.specs.declared.handle.Attachment.{Attachment}
use Rattle.router_trace.specs.Deliveries.{is_message}
use Rattle.router_trace.specs.Links.{Link, durable_key, link}
use Rattle.router_trace.specs.Trace.{Trace, Did, Out, Took, Bound, Booked, Routed, Began, IsOneRun}
use Rattle.theorems.specs.Admitted.{IsAdmitted}
use Rattle.theorems.specs.Carried.{CarriesMessage}

-- an act of some event, in this run or an earlier one
pub record WasDone (u : Trace) (act : Act) : Type 0 where
  pub later : Trace
  pub acts : List Act
  pub full : List ℕ
  pub before : Trace
  pub trace : u ≡ later ++ Booked acts full ∷ before
  pub earlier_acts : List Act
  pub later_acts : List Act
  pub among : acts ≡ earlier_acts ++ act ∷ later_acts

-- A link is that of a terminus with this number: the book made the terminus, and the link is durable and has its key.
pub record IsOfTerminus (t : Trace) (number : TerminusNumber) (l : Link) : Type 0 where
  pub terminus : Terminus
  pub its_number : terminus.number ≡ number
  pub was_made : WasDone t (Make terminus)
  pub its_key : durable_key (Some l) ≡ Some terminus.key

-- A row was admitted in this run, with a message that was then bound to the link of this attachment.
pub record WasBoundTo (t : Trace) (row : RowNumber) (admission : Admission) (a : Attachment) : Type 0 where
  pub later : Trace
  pub binding : Binding
  pub before : Trace
  pub trace : t ≡ later ++ Bound binding ∷ before
  pub one_run : IsOneRun later
  pub message : is_message binding.kind ≡ true
  pub admitted : IsAdmitted before binding row
  pub its_admission : admitted.admission ≡ admission
  pub consumer : binding.consumer ≡ a

-- The row's consumer: the terminus for which it was admitted, or else the link to which its message was bound in this run.
abbrev pub IsConsumer : Option TerminusNumber → Trace → RowNumber → Admission → Attachment → Link → Type 0
IsConsumer (Some number) t row admission a l = IsOfTerminus t number l
IsConsumer None t row admission a l = WasBoundTo t row admission a

-- the attached link l of an attachment is that of the row's consumer
pub record IsOwnConsumer (t : Trace) (row : RowNumber) (a : Attachment) (l : Link) : Type 0 where
  pub admission : Admission
  pub its_row : admission.row ≡ row
  pub was_admitted : WasDone t (Admit admission)
  pub consumer : IsConsumer admission.consumer t row admission a l

-- A row was bound in this run, last to the link of this attachment, which was attached then, and was that of the row's
-- consumer.
pub record WasBoundToOwn (t : Trace) (row : RowNumber) (a : Attachment) : Type 0 where
  pub later : Trace
  pub binding : Binding
  pub before : Trace
  pub trace : t ≡ later ++ Bound binding ∷ before
  pub one_run : IsOneRun later
  pub its_row : binding.row ≡ Some row
  pub consumer : binding.consumer ≡ a
  pub attached : Link
  pub on_link : link before a.conn.0 a.channel a.handle ≡ Some attached
  pub its_number : attached.number ≡ a.number
  pub own : IsOwnConsumer t row a attached

-- Each transfer that the router puts out carries a message (`CarriesMessage`), and if that has a row it goes to the
-- link of the row's consumer.
abbrev pub perf_goes_to_own : Perf → Trace → ℕ → ℕ → List ℕ → Type 0
perf_goes_to_own (perf.Transfer x) t c own payload =
    (carries : CarriesMessage t c own x payload) × ((row : RowNumber) → carries.of.name ≡ Row row → IsOwnConsumer t row carries.of.link carries.attached)
perf_goes_to_own _ t c own payload = Unit {0}

abbrev pub GoesToOwnConsumer : Trace → ℕ → Item → Type 0
GoesToOwnConsumer t c (item.Frame sasl own body payload) = perf_goes_to_own body t c own payload
GoesToOwnConsumer t c _ = Unit {0}

-- A number is given once: in all runs together at most one row was admitted under a number, and at most one terminus was made under one.
abbrev pub admits : Act → ℕ → Bool
admits (Admit x) n = x.row.0 == n
admits _ n = false

abbrev pub makes : Act → ℕ → Bool
makes (Make x) n = x.number.0 == n
makes _ n = false

abbrev pub times_among : (Act → ℕ → Bool) → List Act → ℕ → ℕ
times_among does [] n = 0
times_among does (act ∷ acts) n = (if does act n then 1 else 0) + times_among does acts n

abbrev pub times_done : (Act → ℕ → Bool) → Trace → ℕ → ℕ
times_done does [] n = 0
times_done does (Did s ∷ t) n = times_done does t n
times_done does (Out c i ∷ t) n = times_done does t n
times_done does (Took c k ∷ t) n = times_done does t n
times_done does (Bound b ∷ t) n = times_done does t n
times_done does (Booked acts full ∷ t) n = times_done does t n + times_among does acts n
times_done does (Routed passage ∷ t) n = times_done does t n
times_done does (Began g ∷ t) n = times_done does t n

pub record IsGivenOnce (u : Trace) (n : ℕ) : Type 0 where
  pub row : times_done admits u n ≤ 1
  pub terminus : times_done makes u n ≤ 1

abbrev pub NumbersAreGivenOnce : Trace → Type 0
NumbersAreGivenOnce u = (n : ℕ) → IsGivenOnce u n
