-- What a router does, one move after another: it handles an event, or items are taken from an outbox.
use Rattle.std.specs.Prelude.{◌≡◌, ℕ, false, List, [], ◌∷◌, take, length, Some}
use Rattle.amqp_model.specs.declared.item.Item.{Item}
use Rattle.router_trace.specs.declared.event.ConnectionId.{ConnectionId}
use Rattle.router_trace.specs.Trace.{Trace, Took, Step}
use Rattle.router_trace.specs.Connection.{conn, is_ready}
use Rattle.state_collections.specs.Among.{IsLeast}
pub use Rattle.state_connections.specs.Waiting.{waiting_of}
use Rattle.core_machine.specs.Turns.{declines}

-- a take of at most `most` items from a connection's outbox
pub record Taking : Type 0 where
  pub conn : ConnectionId
  pub most : ℕ

-- 64 items at a time
abbrev pub taking : ConnectionId → Taking
taking c = record { conn = c; most = 64 }

-- the items of a take, and the trace after it
abbrev pub items_of : Taking → Trace → List Item
items_of x t = take x.most (waiting_of (conn t x.conn.0))

abbrev pub took_one : Taking → Trace → Trace
took_one x t = Took x.conn.0 (length (items_of x t)) ∷ t

-- the next take: 64 items of the lowest ready connection
pub record IsNext (t : Trace) (x : Taking) : Type 0 where
  pub most : x.most ≡ 64
  pub lowest : IsLeast (λ c. is_ready (conn t c)) (Some x.conn.0)

-- the router handles an event, or items are taken from an outbox
pub data Move : Type 0 where
  handles : Step → Move
  takes : Taking → Move

-- u is t after these moves, one after another, and no event of them is declined: none is refused, and Start comes first, and once. The trace
-- after an event is that of `next`.
abbrev pub GoesInTurnBy : (Trace → Step → Trace) → List Move → Trace → Trace → Type 0
GoesInTurnBy next [] t u = u ≡ t
GoesInTurnBy next (handles s ∷ ms) t u = (declines t s.event ≡ false) × GoesInTurnBy next ms (next t s) u
GoesInTurnBy next (takes x ∷ ms) t u = GoesInTurnBy next ms (took_one x t) u
