-- In scripts of bytes the row of a delivery has the very outcome that its producer is told: what comes there is encoded.
use Rattle.std.proofs.Common.{sym, refl, subst, ℕ, List, [], ◌∷◌}
use Rattle.route_table.specs.Settings.{Settings}
use Rattle.router_trace.specs.declared.event.Event.TheVariants as event
use Rattle.router_trace.specs.Configuration.{opened}
use Rattle.router_trace.specs.Trace.{Beginning, Trace, step_of}
use Rattle.reply_rows.specs.Acts.{journaled}
use Rattle.core_machine.specs.Moves.{handles}
use Rattle.core_player.specs.declared.script.Step.{Step}
use Rattle.router_core.proofs.Books.{started_handled}
use Rattle.router_play.specs.Script.{Scene, new_router, router_on, opening, Plays}
use Rattle.router_play.proofs.Beginning.{start_is_silent}
use Rattle.theorems.specs.AsTold.{FramesAreEncoded, OutcomeIsInRow}
use Rattle.theorems.specs.Carried.{HasSmallNumbers}
use Rattle.theorems.specs.Each.{EachOut}
use Rattle.theorems.specs.Lives.{Life, Lives, AtEachEnd}
use Rattle.theorems.specs.Scripts.{opening_after, PlaysRuns, AreSmall, InSmallRuns, InSmallScripts}
use Rattle.theorems.proofs.EncodedScenes.{Heard, handled_encoded, plays_heard}
use Rattle.theorems.proofs.Locked.{run_of}
use Rattle.theorems.proofs.ToldAsKept.{lives_have_told}

-- what a router is opened on, after the runs whose trace this is
abbrev opened_on : Settings → Trace → Beginning
opened_on config below = router_on config (journaled below)

abbrev before : Settings → Trace → Trace
before config below = opened (opened_on config below) below

opening_heard : (config : Settings) (below : Trace) → FramesAreEncoded below → Heard config.router_id (before config below) (opening_after config below)
opening_heard config below frames = record {
  named = refl;
  leads = (handles (step_of event.Start) ∷ [], (refl, refl));
  started = started_handled config.router_id (before config below) event.Start refl;
  frames = handled_encoded config.router_id (before config below) (step_of event.Start) tt frames;
  streams = λ c. tt;
}

-- Runs of scripts are runs, each frame of which is encoded.
record AsRuns (id : List ℕ) (u : Trace) : Type 0 where
  lives : List Life
  runs : Lives id lives u
  small : AtEachEnd HasSmallNumbers id lives u runs
  frames : FramesAreEncoded u

as_runs : (config : Settings) (runs : List (List Step)) (u : Trace) (all : PlaysRuns config runs u) → AreSmall config runs u all → AsRuns config.router_id u
as_runs config [] u all small = record { lives = []; runs = all; small = tt; frames = subst FramesAreEncoded (sym all) tt }
as_runs config (steps ∷ runs) u all small =
    let earlier : AsRuns config.router_id all.0 = as_runs config runs all.0 all.2 small.1 in
    let first : Trace = before config all.0 in
    let end : Heard config.router_id first all.1 = plays_heard config.router_id first steps (opening_after config all.0) all.1 all.3 all.4 (opening_heard config all.0 earlier.frames) in
    record {
      lives = run_of (opened_on config all.0) end.leads.0 ∷ earlier.lives;
      runs = (all.0, all.1.trace, earlier.runs, refl, end.leads.1, all.5);
      small = (small.0, earlier.small);
      frames = subst FramesAreEncoded (sym all.5) end.frames;
    }

pub runs_have_told : InSmallRuns (EachOut OutcomeIsInRow)
runs_have_told = λ config runs u all small.
    (let lived : AsRuns config.router_id u = as_runs config runs u all small in lives_have_told config.router_id lived.lives u lived.runs lived.small lived.frames)

-- One script is one run, after none.
pub scripts_have_told : InSmallScripts (EachOut OutcomeIsInRow)
scripts_have_told = λ config steps u bytes plays small.
    runs_have_told config (steps ∷ []) u.trace ([], u, refl, bytes, from_start config steps u plays, refl) (small, tt)
  where
    with_trace : Settings → Trace → Scene
    with_trace config t = record (opening config) { trace = t }

    from_start : (config : Settings) (steps : List Step) (u : Scene) → Plays steps (opening config) u → Plays steps (opening_after config []) u
    from_start config steps u plays =
        subst (λ (t : Trace). Plays steps (with_trace config t) u) (sym (start_is_silent config.router_id (new_router config))) plays
