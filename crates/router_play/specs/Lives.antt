-- Runs of the router, one after another. Each ends by a stop, and the next one is opened on the book that the stop left. Connections,
-- sessions, links and deliveries end with a run: only the book crosses a stop.
use Rattle.std.specs.Prelude.{◌≡◌, ℕ, false, List, [], ◌∷◌}
use Rattle.router_trace.specs.declared.event.Event.{Event}
use Rattle.router_trace.specs.Trace.{Trace, Beginning, did}
use Rattle.router_trace.specs.Configuration.{opened}
use Rattle.reply_rows.specs.Acts.{book_in, booked}
use Rattle.core_machine.specs.Moves.{Move, GoesInTurnBy}
use Rattle.core_machine.specs.Turns.{declines}
use Rattle.router_core.specs.Replies.{handled}

-- u is t after these moves, one after another, and no event of them is declined: none is refused, and Start comes
-- first, and once
abbrev pub GoesInTurn : List ℕ → List Move → Trace → Trace → Type 0
GoesInTurn id = GoesInTurnBy (handled id)

-- One run: what the router was opened with, its moves, and the events that the stop cut off. Their acts are in the journal, but nothing
-- of them was put out.
pub record Life : Type 0 where
  pub opening : Beginning
  pub moves : List Move
  pub cut : List Event

-- u is t after events that were cut off, each in turn
abbrev pub CutOff : List Event → Trace → Trace → Type 0
CutOff [] t u = u ≡ t
CutOff (e ∷ es) t u = (declines t e ≡ false) × CutOff es (did e ∷ booked t e) u

-- u is the trace of these runs, the newest first. Each is opened on the book that the runs before it left, the first one on an empty book.
abbrev pub Lives : List ℕ → List Life → Trace → Type 0
Lives id [] u = u ≡ []
Lives id (x ∷ xs) u =
    (below : Trace) × (mid : Trace) × Lives id xs below
    × (x.opening.book ≡ book_in below) × GoesInTurn id x.moves (opened x.opening below) mid × CutOff x.cut mid u
