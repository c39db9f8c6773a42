-- Scripts that bring bytes, in one run of the router, and in runs one after another, each ended by a stop.
use Rattle.std.specs.Prelude.{◌≡◌, ◌^◌, ◌<◌, ℕ, List, [], ◌∷◌, get_or, None}
use Rattle.route_table.specs.Settings.{Settings}
use Rattle.router_trace.specs.declared.event.Event.TheVariants as event
use Rattle.router_trace.specs.Configuration.{opened}
use Rattle.router_trace.specs.Trace.{Trace, step_of}
use Rattle.reply_rows.specs.Acts.{journaled}
use Rattle.router_core.specs.Replies.{handled}
use Rattle.core_player.specs.declared.script.Step.{Step}
use Rattle.core_player.specs.declared.script.Step.TheVariants as step
use Rattle.router_play.specs.Script.{Scene, router_on, opening, Plays}
use Rattle.theorems.specs.Carried.{HasSmallNumbers}

-- each byte that a step brings is below 2 ^ 8
abbrev pub BringsBytes : Step → Type 0
BringsBytes (step.In c bytes) = (i : ℕ) → get_or bytes i 0 < 2 ^ 8
BringsBytes _ = Unit {0}

abbrev pub AllBringBytes : List Step → Type 0
AllBringBytes [] = Unit {0}
AllBringBytes (x ∷ xs) = BringsBytes x × AllBringBytes xs

-- in the trace of every script of bytes, whatever the peers send, in which not so many messages are bound that a number takes more than 8 bytes
abbrev pub InSmallScripts : (Trace → Type 0) → Type 0
InSmallScripts P =
    (config : Settings) (steps : List Step) (u : Scene)
    → AllBringBytes steps → Plays steps (opening config) u → HasSmallNumbers u.trace → P u.trace

-- before the first step of a run: the router is opened on the journal in which a trace ends, on top of that trace, and started
abbrev pub opening_after : Settings → Trace → Scene
opening_after config below = record {
  id = config.router_id;
  config = config;
  trace = handled config.router_id (opened (router_on config (journaled below)) below) (step_of event.Start);
  last = None;
  sockets = λ c. None;
  lines = [];
}

-- u is the trace of these runs, the newest first. Each plays its script of bytes, and is stopped after it.
abbrev pub PlaysRuns : Settings → List (List Step) → Trace → Type 0
PlaysRuns config [] u = u ≡ []
PlaysRuns config (steps ∷ runs) u =
    (below : Trace) × (end : Scene) × PlaysRuns config runs below
    × AllBringBytes steps × Plays steps (opening_after config below) end × (u ≡ end.trace)

-- each run binds not so many messages that a number takes more than 8 bytes
abbrev pub AreSmall : (config : Settings) (runs : List (List Step)) (u : Trace) → PlaysRuns config runs u → Type 0
AreSmall config [] u all = Unit {0}
AreSmall config (steps ∷ runs) u all = HasSmallNumbers u × AreSmall config runs all.0 all.2

-- over every list of such runs
abbrev pub InSmallRuns : (Trace → Type 0) → Type 0
InSmallRuns P = (config : Settings) (runs : List (List Step)) (u : Trace) (all : PlaysRuns config runs u) → AreSmall config runs u all → P u
