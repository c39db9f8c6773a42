use Rattle.std.proofs.Common.{◌≡◌, ◌+◌, ◌++◌, ℕ, List, drop}
use Rattle.std.specs.Prelude.{None}
use Rattle.core_player.specs.declared.line.Line.{Line}
use Rattle.journal_store.specs.Store.{OpensTo}
use Rattle.router_play.specs.Lives.{Life, Lives}
use Rattle.router_play.specs.Ending.{TellsOf, size_line}
use Rattle.router_play.specs.Script.{PlaysAll, no_book}
use Rattle.router_play.specs.Stopping.{EndsLives, HoldsJournal}
use Rattle.router_play.proofs.Scenes.{steps_of}
use Rattle.reply_rows.specs.Acts.{Journaled, book_in}
use Rattle.router_trace.specs.Trace.{Trace}
use Rattle.router_play.proofs.runs.play_runs.Given as goal

-- the rest continues as the whole does
abbrev pub invariant-loop-run : goal.invariant-loop-run
invariant-loop-run g l = record {
  counted : l.number ≡ l.run-index;
  plays : l.failed ≡ None → (first : Journaled) → HoldsJournal (g.C.Twin.seen l.fn.twin) first → (j : Journaled) × HoldsJournal (g.C.Twin.seen l.last) j
      × ((others : List Line) → PlaysAll l.fn.config (l.number + 1) j (steps_of (drop l.run-index l.runs)) (size_line l.size) others
      → PlaysAll l.fn.config 1 first (steps_of l.runs) no_book (l.lines.items ++ others));
  told : TellsOf l.failed l.lines.items;
  lives : (past : List Life) (t : Trace) → Lives l.fn.config.router_id past t → OpensTo (g.C.Twin.seen l.fn.twin) (book_in t)
      → EndsLives l.fn.config.router_id past l.number (g.C.Twin.seen l.last) l.entries.items;
}
