-- A message is bound to one consumer, and to no other (AMQP 1.0 part 2, sections 2.6.12 and 2.7.5: a delivery belongs to one link, and has one
-- payload). All of this holds of any trace.
use Rattle.std.specs.Prelude.{◌≡◌, ◌≤◌, ◌⊎◌, ◌&&◌, ◌==◌, ℕ, ◌+◌, Bool, false, if◌then◌else◌, List, [], ◌∷◌, ◌++◌, Option, Some, None}
use Rattle.book_model.specs.declared.row.RowNumber.{RowNumber}
use Rattle.router_trace.specs.declared.binding.Binding.{Binding}
use Rattle.router_trace.specs.declared.binding.DeliveryName.{DeliveryName}
use Rattle.router_trace.specs.declared.binding.DeliveryName.TheVariants.{Row}
use Rattle.router_trace.specs.declared.binding.Origin.{Origin}
use Rattle.router_trace.specs.Trace.{Trace, Did, Out, Took, Bound, Booked, Routed, Began, IsOneRun}
use Rattle.router_trace.specs.Deliveries.{Delivery, has_row, either_origin, origin_of, holds_standing, joins_standing, presettles, bindings, name_in, delivery}

-- where an outcome is still to be reported: to the producer's delivery, or nowhere
abbrev pub IsOrNone : Option Origin → Option Origin → Type 0
IsOrNone origin from = (origin ≡ from) ⊎ (origin ≡ None)

-- The producer's delivery that was joined last, in this part of a trace, to the delivery which has a row (2.6.13).
abbrev pub is_row_of : Option RowNumber → DeliveryName → Bool
is_row_of (Some r) (Row q) = q.0 == r.0
is_row_of _ _ = false

abbrev pub joined_in : Trace → DeliveryName → Option Origin
joined_in [] name = None
joined_in (Did s ∷ later) name = joined_in later name
joined_in (Out c i ∷ later) name = joined_in later name
joined_in (Took c k ∷ later) name = joined_in later name
joined_in (Bound b ∷ later) name =
    if is_row_of b.row name then either_origin (joins_standing b.kind) (joined_in later name) else joined_in later name
joined_in (Booked acts full ∷ later) name = joined_in later name
joined_in (Routed passage ∷ later) name = joined_in later name
joined_in (Began g ∷ later) name = joined_in later name

-- A delivery is of what was bound: it goes to the link of the consumer that the message was bound to, with the payload
-- received. Its origin is the one with which it was bound, or the one that was joined to it last after that. It is
-- presettled exactly if a message without an origin was bound, and outlives its consumer's connection exactly if it has a
-- row and the consumer's link is durable.
pub record IsOf (later : Trace) (b : Binding) (d : Delivery) : Type 0 where
  pub consumer : d.link ≡ b.consumer
  pub payload : d.payload ≡ b.payload
  pub format : d.format ≡ b.format
  pub origin : IsOrNone d.origin (either_origin (joined_in later d.name) (origin_of b.kind))
  pub presettled : d.presettled ≡ presettles b.kind
  pub lasting : d.lasting ≡ (has_row d.name && b.lasting)

-- as long as a delivery exists
abbrev pub WhileThere : (Delivery → Type 0) → Option Delivery → Type 0
WhileThere P None = Unit {0}
WhileThere P (Some d) = P d

-- After a message was bound, whatever happens later in the run, the delivery with its number is of it. (What is joined to
-- a delivery that stands gets no number.)
abbrev pub StaysWithConsumer : Type 0
StaysWithConsumer = (b : Binding) (t later : Trace) → IsOneRun later → holds_standing b.kind ≡ None
    → WhileThere (IsOf later b) (delivery (later ++ Bound b ∷ t) (bindings t + 1))

-- Once a delivery is gone it never comes back, in the run.
abbrev pub NeverComesBack : Type 0
NeverComesBack = (n : ℕ) (t later : Trace) → IsOneRun later → n ≤ bindings t → delivery t n ≡ None → delivery (later ++ t) n ≡ None

-- Each delivery is of a message that was bound under its number in this run, and has the name that it got then.
pub record IsOfMessage (u : Trace) (n : ℕ) (d : Delivery) : Type 0 where
  pub later : Trace
  pub binding : Binding
  pub before : Trace
  pub trace : u ≡ later ++ Bound binding ∷ before
  pub one_run : IsOneRun later
  pub numbered : holds_standing binding.kind ≡ None
  pub number : bindings before + 1 ≡ n
  pub name : d.name ≡ name_in before binding
  pub is : IsOf later binding d

abbrev pub OfMessages : Type 0
OfMessages = (u : Trace) (n : ℕ) (d : Delivery) → delivery u n ≡ Some d → IsOfMessage u n d
