use Rattle.std.proofs.Common.{◌≡◌, ◌++◌, List, true}
use Rattle.router_trace.specs.Trace.{Entry}
use Rattle.router_core.specs.Handling.{Fits, id_of, is_failed, store_of}
use Rattle.core_machine.specs.Moves.{Taking}
use Rattle.core_runs.specs.Runs.{InTurn, took_all, sent}
use Rattle.core_runs.proofs.driving.empty.Given as goal

abbrev pub invariant-loop-turn : goal.invariant-loop-turn
invariant-loop-turn g l = record {
  fits : (t : List Entry) → Fits l.fn.core t → (takes : List Taking) × InTurn takes t × Fits l.core (took_all takes t) × (l.taken.items ≡ l.fn.taken.items ++ sent l.group takes t);
  works : is_failed l.core ≡ true → is_failed l.fn.core ≡ true;
  named : id_of l.core ≡ id_of l.fn.core;
  store : store_of l.core ≡ store_of l.fn.core;
}
