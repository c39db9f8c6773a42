-- What holds in every trace of the router holds of groups of events and of scripts of bytes: they have such traces.
use Rattle.router_trace.specs.Trace.{Trace, Beginning}
use Rattle.core_runs.proofs.Traces.{run_is_trace}
use Rattle.router_play.specs.Script.{new_journal, new_router}
use Rattle.router_play.proofs.PlayMoves.{play_is_trace}
use Rattle.theorems.specs.Always.{Always, AlwaysFrom, InOneRun, InTraces, InTracesFrom, InScripts}
use Rattle.theorems.specs.Lives.{InLives}

pub holds_in_one_run : (P : Trace → Type 0) → InTraces P → InOneRun P
holds_in_one_run P all = (all, λ id g groups xs u run. all id g u (run_is_trace id g groups xs u run))

pub holds_always : (P : Trace → Type 0) → InTraces P → InLives P → Always P
holds_always P all lives = (holds_in_one_run P all, lives)

pub holds_from : (P : Beginning → Trace → Type 0) → InTracesFrom P → AlwaysFrom P
holds_from P all = (all, λ id g groups xs u run. all id g u (run_is_trace id g groups xs u run))

pub holds_in_scripts : (P : Trace → Type 0) → InTraces P → InScripts P
holds_in_scripts P all =
    λ config steps u plays. all config.router_id (new_router config) u.trace (play_is_trace config new_journal steps u plays)
