-- The history that the lock keeps is a trace.
use Rattle.std.proofs.Common.{ℕ, List, [], ◌∷◌}
use Rattle.router_trace.specs.Trace.{Beginning, Trace}
use Rattle.router_trace.specs.Configuration.{beginning}
use Rattle.core_machine.specs.Moves.{Move, handles, takes, took_one}
use Rattle.router_core.specs.Moves.{Goes, IsTrace}
use Rattle.router_core.specs.Replies.{handled}
use Rattle.router_core.proofs.Books.{not_refused}
use Rattle.theorems.specs.Lives.{Life, GoesInTurn}

-- what isn't declined isn't refused
pub goes : (id : List ℕ) (ms : List Move) (t u : Trace) → GoesInTurn id ms t u → Goes id ms t u
goes id [] t u is = is
goes id (handles s ∷ ms) t u (taken, rest) = (not_refused t s.event taken, goes id ms (handled id t s) u rest)
goes id (takes x ∷ ms) t u rest = goes id ms (took_one x t) u rest

pub is_trace : (id : List ℕ) (g : Beginning) (ms : List Move) (u : Trace) → GoesInTurn id ms (beginning g) u → IsTrace id g u
is_trace id g ms u all = (ms, goes id ms (beginning g) u all)

-- the run of these moves
abbrev pub run_of : Beginning → List Move → Life
run_of g ms = record { opening = g; moves = ms; cut = [] }
