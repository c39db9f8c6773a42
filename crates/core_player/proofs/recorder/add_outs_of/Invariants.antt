use Rattle.std.proofs.Common.{◌≡◌, ◌++◌, drop}
use Rattle.std.specs.Prelude.{map}
use Rattle.router_trace.specs.Trace.{Trace}
use Rattle.router_trace.specs.Connection.{conn as known}
use Rattle.core_machine.specs.Moves.{waiting_of}
use Rattle.core_player.specs.Entries.{out_entry}
use Rattle.core_player.proofs.recorder.add_outs_of.Given as goal

-- the items so far, and those behind them
abbrev pub invariant-loop-place : goal.invariant-loop-place
invariant-loop-place g l = (t : Trace) → g.M.Machine.meaning.fits l.router t
    → l.entries.items ++ map (out_entry l.conn.0) (drop l.place (waiting_of (known t l.conn.0)))
    ≡ l.fn.entries.items ++ map (out_entry l.conn.0) (drop l.from (waiting_of (known t l.conn.0)))
