-- What a greeting reads, writes and hands on (AMQP 1.0 part 2, section 2.2, and part 5, section 5.3).
use Rattle.std.specs.Prelude.{◌≡◌, ◌≢◌, ◌⊎◌, ◌<◌, ◌≤◌, ℕ, true, false, List, [], ◌∷◌, ◌++◌, Option, length, take, drop}
use Rattle.std.specs.Io.KnownBytes.{Appends, Consumes, IsAtEnd}
use Rattle.amqp_model.specs.declared.item.Item.{Item}
use Rattle.amqp_frames.specs.Cuts.{Cuts, Stream}
use Rattle.core_door.specs.declared.door.Door.{Door}
use Rattle.core_door.specs.Door.{Verdict, says, passes, ends, door, door_after}
use Rattle.serve_streams.specs.declared.end.ReadEnd.{ReadEnd}
use Rattle.serve_streams.specs.declared.end.ReadEnd.TheVariants as end
use Rattle.serve_streams.specs.declared.greeting.Greeted.{Greeted}
use Rattle.serve_streams.specs.declared.greeting.Greeted.TheVariants as greeted
use Rattle.serve_streams.specs.declared.greeting.Passing.{Passing}
use Rattle.serve_streams.specs.declared.greeting.Passing.TheVariants as passing
use Rattle.serve_streams.specs.Spelled.{spelled}

-- all that a door says to items, in order, until it lets the peer in or ends the connection
abbrev pub said_by : Verdict → List Item → List Item
said_by (says items) later = items ++ later
said_by (passes user) later = []
said_by (ends items) later = items

abbrev pub door_says : Door → List Item → List Item
door_says d [] = []
door_says d (i ∷ is) = said_by (door d i) (door_says (door_after d i) is)

-- what becomes of a greeting by these items: the door waits for more; it lets the peer in as this user, and these items, from the
-- one that passed on, are the router's; or it ends the connection
pub data Fate : Type 0 where
  waits : Fate
  passed : List ℕ → List Item → Fate
  closed : Fate

abbrev pub fate_by : Verdict → List Item → Fate → Fate
fate_by (says items) here later = later
fate_by (passes user) here later = passed user here
fate_by (ends items) here later = closed

abbrev pub fate : Door → List Item → Fate
fate d [] = waits
fate d (i ∷ is) = fate_by (door d i) (i ∷ is) (fate (door_after d i) is)

-- the door after items for which it waits
abbrev pub door_past : Door → List Item → Door
door_past d [] = d
door_past d (i ∷ is) = door_past (door_after d i) is

-- the items that a frame reader gives for these bytes: those of what it kept and of these, and it keeps the rest; none where
-- nothing came, or where it had failed before
abbrev pub Gives : Stream → List ℕ → List Item → Stream → Type 0
Gives old bytes items new =
    (((bytes ≡ []) ⊎ (old.failed ≡ true)) × (items ≡ []) × (new ≡ old)) ⊎ ((old.failed ≡ false) × Cuts new.failed (old.rest ++ bytes) items new.rest)

-- what a greeting answers is its fate, unless memory was refused or a write failed
abbrev pub IsTold : Greeted → Fate → Type 0
IsTold (greeted.Up user left) f = f ≡ passed user left.items
IsTold (greeted.Ended end.Door) f = f ≡ closed
IsTold (greeted.Ended end.End) f = f ≡ waits
IsTold (greeted.Ended end.ReadFailed) f = f ≡ waits
IsTold (greeted.Ended end.Memory) f = Unit {0}
IsTold (greeted.Ended end.WriteFailed) f = Unit {0}
IsTold (greeted.Ended (end.Core fault)) f = ⊥

-- a greeting with this door, by what the frame reader kept, the input had left and the output held before and after it, and by
-- its answer. The bytes that came give the items. What was written is a beginning of the canonical encodings of all that the door
-- says to them, and the whole of it but where a write failed. The answer is what became of them. Only where memory was refused
-- may further bytes have come, of which nothing is said
pub record Greets (d : Door) (old new : Stream) (source left held holds : Option (List ℕ)) (g : Greeted) : Type 0 where
  pub bytes : List ℕ
  pub lost : List ℕ
  pub came : Consumes source left (bytes ++ lost)
  pub items : List Item
  pub kept : Stream
  pub given : Gives old bytes items kept
  pub count : ℕ
  pub within : count ≤ length (spelled (door_says d items))
  pub wrote : Appends held holds (take count (spelled (door_says d items)))
  pub whole : g ≢ greeted.Ended end.WriteFailed → count ≡ length (spelled (door_says d items))
  pub short : g ≡ greeted.Ended end.WriteFailed → count < length (spelled (door_says d items))
  pub told : IsTold g (fate d items)
  pub none_lost : g ≢ greeted.Ended end.Memory → (lost ≡ []) × (new ≡ kept)
  pub ended : g ≡ greeted.Ended end.End → IsAtEnd left ⊎ (old.failed ≡ true)

-- a read into this much room that gives no items: the end that it is for, and the bytes that came
abbrev pub Stops : ReadEnd → ℕ → Stream → List ℕ → Stream → Option (List ℕ) → Type 0
Stops end.End room old bytes new left = Gives old bytes [] new × ((0 < room → IsAtEnd left) ⊎ (old.failed ≡ true))
Stops end.ReadFailed room old bytes new left = Gives old bytes [] new
Stops end.Memory room old bytes new left = Unit {0}
Stops end.Door room old bytes new left = ⊥
Stops end.WriteFailed room old bytes new left = ⊥
Stops (end.Core fault) room old bytes new left = ⊥

-- answers that weren't all written: the end that it is for, and what the output holds of these bytes
abbrev pub Breaks : ReadEnd → Option (List ℕ) → Option (List ℕ) → List ℕ → Type 0
Breaks end.Memory held holds bytes = holds ≡ held
Breaks end.WriteFailed held holds bytes = (k : ℕ) × (k < length bytes) × Appends held holds (take k bytes)
Breaks end.End held holds bytes = ⊥
Breaks end.ReadFailed held holds bytes = ⊥
Breaks end.Door held holds bytes = ⊥
Breaks (end.Core fault) held holds bytes = ⊥

-- the fate that a door's answer to items tells
abbrev pub fate_of : Passing → List Item → Fate
fate_of passing.Waits items = waits
fate_of (passing.Up user at) items = passed user (drop at items)
fate_of passing.Ended items = closed
