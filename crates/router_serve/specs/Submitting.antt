-- What a reader submits.
use Rattle.std.specs.Prelude.{◌≡◌, ◌≢◌, ◌≤◌, ◌⊎◌, ℕ, ◌+◌, ◌-◌, Bool, true, false, if◌then◌else◌, List, [], ◌++◌}
use Rattle.std.specs.Prelude.{Option, Some, Result, Ok, Err, IsOk, length, slice_get}
use Rattle.std.specs.Io.KnownBytes.{Consumes, IsAtEnd}
use Rattle.amqp_model.specs.declared.item.Item.{Item}
use Rattle.amqp_model.specs.declared.item.Item.TheVariants as item
use Rattle.amqp_frames.specs.Cuts.{Stream}
use Rattle.core_machine.specs.declared.counts.Counts.{Counts}
use Rattle.core_machine.specs.declared.fault.CoreFault.{CoreFault}
use Rattle.core_machine.specs.declared.fault.CoreFault.TheVariants.{Failed, NoConnection}
use Rattle.serve_lock.specs.Adding.{with_items}
use Rattle.serve_streams.specs.declared.end.ReadEnd.{ReadEnd}
use Rattle.serve_streams.specs.declared.end.ReadEnd.TheVariants as end
use Rattle.serve_streams.specs.Greeting.{Gives}

-- each item that left a queue is counted
pub record CountsGone (old new : Counts) (before behind : List Item) : Type 0 where
  pub items : ℕ
  pub gone : items + length behind ≡ length before
  pub counted : new ≡ with_items items old

-- of this many items some are counted
pub record CountsSome (old new : Counts) (most : ℕ) : Type 0 where
  pub items : ℕ
  pub within : items ≤ most
  pub counted : new ≡ with_items items old

-- the last of these items says that the bytes after it begin none: their stream ends there
abbrev pub is_bad : Option Item → Bool
is_bad (Some (item.Bad fault)) = true
is_bad _ = false

abbrev pub ends_badly : List Item → Bool
ends_badly items = is_bad (slice_get items (length items - 1))

-- why some of these items, or those after them, aren't submitted: their stream ends with them, and all of them are counted; or memory
-- was refused, or the router answered a fault
abbrev pub Hinders : ReadEnd → Counts → Counts → List Item → Type 0
Hinders end.End old new items = (new ≡ with_items (length items) old) × (ends_badly items ≡ true)
Hinders end.Memory old new items = CountsSome old new (length items)
Hinders (end.Core fault) old new items = CountsSome old new (length items)
Hinders end.ReadFailed old new items = ⊥
Hinders end.Door old new items = ⊥
Hinders end.WriteFailed old new items = ⊥

-- it is for a fault of the router
abbrev pub IsCore : ReadEnd → Type 0
IsCore (end.Core fault) = Unit {0}
IsCore _ = ⊥

-- this many more losses
abbrev pub with_downs : ℕ → Counts → Counts
with_downs k n = record n { downs = n.downs + k }

-- the router has yet to be told of the loss
abbrev pub needs_down : ReadEnd → Bool
needs_down (end.Core Failed) = false
needs_down (end.Core NoConnection) = false
needs_down _ = true

-- neither memory nor the router is why it ends
abbrev pub is_whole : ReadEnd → Bool
is_whole end.Memory = false
is_whole (end.Core fault) = false
is_whole _ = true

-- what a reader submits: the items that were left over, and those of the bytes that came, by what the frame reader kept and the input had
-- left before and after it. All of them are counted, unless memory was refused or the router answered a fault. Only where memory was
-- refused may further bytes have come, of which nothing is said. It ends as at the end of its input only at that end, or where the
-- items end badly, or where the frame reader had failed before
pub record HandsIn (old new : Counts) (over : List Item) (before behind : Stream) (source left : Option (List ℕ)) (e : ReadEnd) : Type 0 where
  pub bytes : List ℕ
  pub lost : List ℕ
  pub came : Consumes source left (bytes ++ lost)
  pub items : List Item
  pub kept : Stream
  pub given : Gives before bytes items kept
  pub count : ℕ
  pub counted : new ≡ with_items count old
  pub within : count ≤ length (over ++ items)
  pub all : is_whole e ≡ true → count ≡ length (over ++ items)
  pub none_lost : e ≢ end.Memory → (lost ≡ []) × (behind ≡ kept)
  pub ended : e ≡ end.End → IsAtEnd left ⊎ (before.failed ≡ true) ⊎ (ends_badly (over ++ items) ≡ true)

-- how many losses are counted, by the router's answer to it: one, if it had yet to be told of it and answered Ok
abbrev pub losses : ReadEnd → Result (Unit {0}) CoreFault → ℕ
losses e (Ok x) = if needs_down e then 1 else 0
losses e (Err f) = 0

-- the same, and after it the loss of the connection, to which this is the router's answer: Ok too if it has no need to
-- be told of it
pub record Submitted (old new : Counts) (over : List Item) (before behind : Stream) (source left : Option (List ℕ))
    (e : ReadEnd) (loss : Result (Unit {0}) CoreFault) : Type 0 where
  pub counts : Counts
  pub items : HandsIn old counts over before behind source left e
  pub not_again : needs_down e ≡ false → IsOk loss
  pub counted : new ≡ with_downs (losses e loss) counts
