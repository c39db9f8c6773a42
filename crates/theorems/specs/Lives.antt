-- What holds over every list of runs of the router.
use Rattle.std.specs.Prelude.{ℕ, List, [], ◌∷◌}
use Rattle.router_trace.specs.Trace.{Trace}
use Rattle.theorems.specs.Carried.{HasSmallNumbers}
pub use Rattle.router_play.specs.Lives.{GoesInTurn, Life, CutOff, Lives}

-- over every list of runs
abbrev pub InLives : (Trace → Type 0) → Type 0
InLives P = (id : List ℕ) (lives : List Life) (u : Trace) → Lives id lives u → P u

-- what holds of the trace at the end of each run
abbrev pub AtEachEnd : (Trace → Type 0) → (id : List ℕ) (lives : List Life) (u : Trace) → Lives id lives u → Type 0
AtEachEnd P id [] u all = Unit {0}
AtEachEnd P id (x ∷ xs) u all = P u × AtEachEnd P id xs all.0 all.2

-- over every list of runs in which no run binds so many messages that a number takes more than 8 bytes
abbrev pub InSmallLives : (Trace → Type 0) → Type 0
InSmallLives P = (id : List ℕ) (lives : List Life) (u : Trace) (all : Lives id lives u) → AtEachEnd HasSmallNumbers id lives u all → P u
