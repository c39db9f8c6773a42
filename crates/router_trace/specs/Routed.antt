-- Links that a link route leads on to another connection: what becomes of one, as entries of a trace. What goes out on such a link
-- stands in the trace by an entry of its own and not as an `Out`, so that what is said of links that end at the router is said of `Out`.
use Rattle.std.specs.Prelude.{ℕ, ◌==◌, if◌then◌else◌, Option, Some, None}
use Rattle.amqp_model.specs.declared.item.Item.{Item}
use Rattle.amqp_model.specs.declared.perf.Attach.{Attach}

-- an end of a routed link: its connection, and the router's channel and handle there
pub record RoutedEnd : Type 0 where
  pub conn : ℕ
  pub channel : ℕ
  pub handle : ℕ

-- a routed link: the end on which the attach came, with the peer's handle and attach; and the end to which it is led
pub record RoutedLink : Type 0 where
  pub near : RoutedEnd
  pub handle : ℕ
  pub attach : Attach
  pub far : RoutedEnd

-- the ends of a routed link
pub data Side : Type 0 where
  near : Side
  far : Side

-- Links are numbered by their `Begun`, from 0.
pub data Passage : Type 0 where
  -- an attach is routed: both ends are taken from now on, before either attach is out
  Begun : (link : RoutedLink) → Passage
  -- the peer at the far end answers link `number`, by an attach on this handle of its own
  Answered : (number handle : ℕ) → Passage
  -- this item of link `number` went into the outbox of the connection of its end on that side
  Passed : (number : ℕ) (side : Side) (conn : ℕ) (item : Item) → Passage

-- the item that went into the outbox of a connection
abbrev pub passed_to : Passage → ℕ → Option Item
passed_to (Passed number side conn item) c = if conn == c then Some item else None
passed_to _ c = None

-- what such an item changes, if there is one
abbrev pub if_passed : {A : Type 0} → (Item → A → A) → Option Item → A → A
if_passed change None v = v
if_passed change (Some item) v = change item v
