-- A script's lines carry each of its connections.
use Rattle.std.proofs.Common.{◌≡◌, ◌∙◌, ◌+◌, sym, ap, refl, subst, true≢false, ℕ, false, List, [], ◌∷◌, ◌++◌, append_assoc, append-nil}
use Rattle.std.specs.Prelude.{◌==◌, Option, Some}
use Rattle.std.proofs.lemmas.Bool.{eqb-true}
use Rattle.amqp_frames.proofs.Steps.{front_nothing}
use Rattle.router_trace.specs.declared.event.Event.TheVariants as event
use Rattle.route_table.specs.Settings.{Settings}
use Rattle.core_door.specs.declared.door.Door.{Door as DoorState}
use Rattle.core_player.specs.declared.line.Line.{Line}
use Rattle.core_player.specs.declared.script.Step.{Step}
use Rattle.core_player.specs.declared.script.Step.TheVariants as step
use Rattle.router_trace.specs.Refusing.{rises}
use Rattle.core_player.specs.Listening.{door_for}
use Rattle.reply_rows.specs.Acts.{Journaled, journaled}
use Rattle.router_play.specs.Script.{Scene, router_on, opening_on, book_line, say, refused, hand, made, lose, Takes, Flushes, Plays, PlaysAll}
use Rattle.router_play.specs.Carrying.{after_up, role_in, door_in, bytes_of, bytes_in, door_says, passed, Carries, RunsCarry}
use Rattle.state_connections.proofs.Lists.{by_test}
use Rattle.router_play.proofs.Beginning.{began}
use Rattle.router_play.proofs.PlayMoves.{play_is_trace, takes_onward, take_all_onward}
use Rattle.router_play.proofs.Entering.{Quiet}
use Rattle.router_play.proofs.Passing.{take_all_last}
use Rattle.router_play.proofs.Bringing.{opened_bytes}
use Rattle.router_play.proofs.Ending.{Flushed, carries_at}
use Rattle.router_play.proofs.Losing.{opened_lost}
use Rattle.router_play.proofs.Making.{made_lost, made_opened, made_unmade, new_number, unmade_made}
use Rattle.router_play.proofs.Stages.{Lost, Opened, Unmade, bytes_quiet, closed_down, closed_in, lose_quiet, lost_flushed, lost_quiet, opened_flushed, opened_quiet, refused_quiet, tick_quiet, unmade_flushed, unmade_quiet}

after_flush : (s u : Scene) → Flushes s u → u.last ≡ s.last
after_flush s u f = ap (λ (w : Scene). w.last) f.scene ∙ take_all_last f.takes s

play_lost : (start : DoorState) (xs : List Step) (s u : Scene) (c : ℕ) (stream : List ℕ) → Flushed s → Lost start s c stream → Plays xs s u → Carries start stream u.trace u.lines c
play_lost start [] s u c stream f h plays =
    subst (λ (w : Scene). Carries start stream w.trace w.lines c) (sym plays)
    (carries_at start stream s c (λ m. door_says start h.items) (λ m. passed start h.items) h.ended h.items h.rest f h.cut refl refl h.until h.entered)
play_lost start (step.Up d role ∷ xs) s u c stream f h plays =
    play_lost start xs plays.1 u c stream plays.3.empty (lost_flushed start plays.0 plays.1 c stream plays.3
    (subst (λ (w : Scene). Lost start w c stream) (sym plays.2) (by_test (rises d.0 s.last)
    (λ r. rw r (made_lost start d role s c stream (new_number d c s.last r h.reached) r h))
    (λ r. rw r (lost_quiet start s (say refused s) c stream (refused_quiet s c) h))))) plays.4
play_lost start (step.In d bytes ∷ xs) s u c stream f h plays =
    play_lost start xs plays.1 u c stream plays.3.empty
    (lost_flushed start plays.0 plays.1 c stream plays.3 (lost_quiet start s plays.0 c stream (closed_in d bytes s plays.0 c h.socket plays.2) h)) plays.4
play_lost start (step.Down d ∷ xs) s u c stream f h plays =
    play_lost start xs plays.1 u c stream plays.3.empty
    (lost_flushed start plays.0 plays.1 c stream plays.3 (subst (λ (w : Scene). Lost start w c stream) (sym plays.2) (lost_quiet start s (lose d s) c stream (closed_down d s c h.socket) h))) plays.4
play_lost start (step.Tick ms ∷ xs) s u c stream f h plays =
    play_lost start xs plays.1 u c stream plays.3.empty
    (lost_flushed start plays.0 plays.1 c stream plays.3 (subst (λ (w : Scene). Lost start w c stream) (sym plays.2) (lost_quiet start s (hand (event.Tick ms) s) c stream (tick_quiet ms s c) h))) plays.4
play_lost start (step.Fuse calls ∷ xs) s u c stream f h plays =
    play_lost start xs plays.1 u c stream plays.3.empty (lost_flushed start plays.0 plays.1 c stream plays.3 (subst (λ (w : Scene). Lost start w c stream) (sym plays.2) h)) plays.4

carries_as : (start : DoorState) (a b : List ℕ) (u : Scene) (c : ℕ) → a ≡ b → Carries start a u.trace u.lines c → Carries start b u.trace u.lines c
carries_as start a b u c e h = subst (λ (bs : List ℕ). Carries start bs u.trace u.lines c) e h

play_opened : (start : DoorState) (xs : List Step) (s u : Scene) (c : ℕ) (stream : List ℕ) → Flushed s → Opened start s c stream → Plays xs s u → Carries start (stream ++ bytes_of c xs) u.trace u.lines c
play_opened start [] s u c stream f h plays =
    subst (λ (w : Scene). Carries start (stream ++ []) w.trace w.lines c) (sym plays)
    (carries_as start stream (stream ++ []) s c (sym (append-nil stream))
    (carries_at start stream s c (λ m. door_says start (h.items ++ m)) (λ m. passed start (h.items ++ m)) h.ended h.items h.rest f h.cut
    (ap (λ xs. door_says start xs) (append-nil h.items)) (ap (λ xs. passed start xs) (append-nil h.items)) (λ l. absurd (true≢false (sym l ∙ h.kept))) h.entered))
play_opened start (step.Up d role ∷ xs) s u c stream f h plays =
    play_opened start xs plays.1 u c stream plays.3.empty (opened_flushed start plays.0 plays.1 c stream plays.3
    (subst (λ (w : Scene). Opened start w c stream) (sym plays.2) (by_test (rises d.0 s.last)
    (λ r. rw r (made_opened start d role s c stream (new_number d c s.last r h.reached) r h))
    (λ r. rw r (opened_quiet start s (say refused s) c stream (refused_quiet s c) h))))) plays.4
play_opened start (step.In d bytes ∷ xs) s u c stream f h plays =
    by_test (d.0 == c)
    (λ e. let is : d.0 ≡ c = eqb-true d.0 c e
    in let come : Opened start plays.0 c (stream ++ bytes)
    = subst (λ (n : ℕ). Opened start plays.0 n (stream ++ bytes)) is
    (opened_bytes start d bytes s plays.0 stream (subst (λ (n : ℕ). Opened start s n stream) (sym is) h) (s.sockets d.0) refl plays.2)
    in carries_as start ((stream ++ bytes) ++ bytes_of c xs) (stream ++ bytes_of c (step.In d bytes ∷ xs)) u c
    (append_assoc stream bytes (bytes_of c xs) ∙ (rw e refl))
    (play_opened start xs plays.1 u c (stream ++ bytes) plays.3.empty (opened_flushed start plays.0 plays.1 c (stream ++ bytes) plays.3 come) plays.4))
    (λ e. carries_as start (stream ++ bytes_of c xs) (stream ++ bytes_of c (step.In d bytes ∷ xs)) u c (rw e refl)
    (play_opened start xs plays.1 u c stream plays.3.empty
    (opened_flushed start plays.0 plays.1 c stream plays.3 (opened_quiet start s plays.0 c stream (bytes_quiet d bytes s plays.0 c e (s.sockets d.0) plays.2) h)) plays.4))
play_opened start (step.Down d ∷ xs) s u c stream f h plays =
    by_test (d.0 == c)
    (λ e. let is : d.0 ≡ c = eqb-true d.0 c e
    in let lost : Lost start plays.0 c stream
    = subst (λ (w : Scene). Lost start w c stream) (sym plays.2) (subst (λ (n : ℕ). Lost start (lose d s) n stream) is
    (opened_lost start d s stream f (subst (λ (n : ℕ). Opened start s n stream) (sym is) h) (s.sockets d.0) refl))
    in carries_as start stream (stream ++ bytes_of c (step.Down d ∷ xs)) u c (rw e (sym (append-nil stream)))
    (play_lost start xs plays.1 u c stream plays.3.empty (lost_flushed start plays.0 plays.1 c stream plays.3 lost) plays.4))
    (λ e. carries_as start (stream ++ bytes_of c xs) (stream ++ bytes_of c (step.Down d ∷ xs)) u c (rw e refl)
    (play_opened start xs plays.1 u c stream plays.3.empty
    (opened_flushed start plays.0 plays.1 c stream plays.3
    (subst (λ (w : Scene). Opened start w c stream) (sym plays.2) (opened_quiet start s (lose d s) c stream (lose_quiet d s c e (s.sockets d.0)) h))) plays.4))
play_opened start (step.Tick ms ∷ xs) s u c stream f h plays =
    play_opened start xs plays.1 u c stream plays.3.empty
    (opened_flushed start plays.0 plays.1 c stream plays.3 (subst (λ (w : Scene). Opened start w c stream) (sym plays.2) (opened_quiet start s (hand (event.Tick ms) s) c stream (tick_quiet ms s c) h))) plays.4
play_opened start (step.Fuse calls ∷ xs) s u c stream f h plays =
    play_opened start xs plays.1 u c stream plays.3.empty (opened_flushed start plays.0 plays.1 c stream plays.3 (subst (λ (w : Scene). Opened start w c stream) (sym plays.2) h)) plays.4

-- before it is made a connection has no stream

-- it carries the bytes after its making, at the door of its role
abbrev FromUp : Settings → Option ℕ → List Step → Scene → ℕ → Type 0
FromUp config newest xs u c = Carries (door_for config (role_in c newest xs)) (bytes_of c (after_up c newest xs)) u.trace u.lines c

-- no step changes the configuration
same_config : (x : Step) (s mid next : Scene) → Takes x s mid → Flushes mid next → next.config ≡ s.config
same_config x s mid next takes f =
    ap (λ (w : Scene). w.config) f.scene ∙ (take_all_onward f.takes mid).config ∙ (takes_onward x s mid takes).config

from_as : (config other : Settings) (newest last : Option ℕ) (xs : List Step) (u : Scene) (c : ℕ) → other ≡ config → last ≡ newest → FromUp other last xs u c → FromUp config newest xs u c
from_as config other newest last xs u c same end h =
    subst (λ (w : Settings). FromUp w newest xs u c) same (subst (λ (o : Option ℕ). FromUp other o xs u c) end h)

play_unmade : (xs : List Step) (s u : Scene) (c : ℕ) → Flushed s → Unmade s c → Plays xs s u → FromUp s.config s.last xs u c
play_unmade [] s u c f h plays =
    let start : DoorState = door_for s.config (role_in c s.last [])
    in subst (λ (w : Scene). Carries start [] w.trace w.lines c) (sym plays)
    (carries_at start [] s c (λ m. []) (λ m. []) false [] [] f (refl, front_nothing [] refl) refl refl (λ l. absurd (true≢false (sym l ∙ h.kept))) h.entered)
play_unmade (step.Up d role ∷ xs) s u c f h plays =
    let config : plays.1.config ≡ s.config = same_config (step.Up d role) s plays.0 plays.1 plays.2 plays.3
    in by_test (rises d.0 s.last)
    (λ r. let mid : plays.0 ≡ made d role s = plays.2 ∙ (rw r refl)
    in let last : plays.1.last ≡ Some d.0 = after_flush plays.0 plays.1 plays.3 ∙ ap (λ (w : Scene). w.last) mid
    in by_test (d.0 == c)
    (λ e. let is : d.0 ≡ c = eqb-true d.0 c e
    in let start : DoorState = door_for s.config role
    in let opened : Opened start plays.0 c []
    = subst (λ (w : Scene). Opened start w c []) (sym mid) (subst (λ (n : ℕ). Opened start (made d role s) n []) is (unmade_made d role s (subst (λ (n : ℕ). Unmade s n) (sym is) h)))
    in rw (r, e) (play_opened start xs plays.1 u c [] plays.3.empty (opened_flushed start plays.0 plays.1 c [] plays.3 opened) plays.4))
    (λ e. rw (r, e) (from_as s.config plays.1.config (Some d.0) plays.1.last xs u c config last
    (play_unmade xs plays.1 u c plays.3.empty (unmade_flushed plays.0 plays.1 c plays.3 (subst (λ (w : Scene). Unmade w c) (sym mid) (made_unmade d role s c e h))) plays.4))))
    (λ r. let mid : plays.0 ≡ say refused s = plays.2 ∙ (rw r refl)
    in let last : plays.1.last ≡ s.last = after_flush plays.0 plays.1 plays.3 ∙ ap (λ (w : Scene). w.last) mid
    in rw r (from_as s.config plays.1.config s.last plays.1.last xs u c config last
    (play_unmade xs plays.1 u c plays.3.empty (unmade_flushed plays.0 plays.1 c plays.3 (subst (λ (w : Scene). Unmade w c) (sym mid) (unmade_quiet s (say refused s) c (refused_quiet s c) h))) plays.4)))
play_unmade (step.In d bytes ∷ xs) s u c f h plays =
    let q : Quiet s plays.0 c = closed_in d bytes s plays.0 c h.socket plays.2
    in from_as s.config plays.1.config s.last plays.1.last xs u c (same_config (step.In d bytes) s plays.0 plays.1 plays.2 plays.3) (after_flush plays.0 plays.1 plays.3 ∙ q.last)
    (play_unmade xs plays.1 u c plays.3.empty (unmade_flushed plays.0 plays.1 c plays.3 (unmade_quiet s plays.0 c q h)) plays.4)
play_unmade (step.Down d ∷ xs) s u c f h plays =
    let q : Quiet s plays.0 c = subst (λ (w : Scene). Quiet s w c) (sym plays.2) (closed_down d s c h.socket)
    in from_as s.config plays.1.config s.last plays.1.last xs u c (same_config (step.Down d) s plays.0 plays.1 plays.2 plays.3) (after_flush plays.0 plays.1 plays.3 ∙ q.last)
    (play_unmade xs plays.1 u c plays.3.empty (unmade_flushed plays.0 plays.1 c plays.3 (unmade_quiet s plays.0 c q h)) plays.4)
play_unmade (step.Tick ms ∷ xs) s u c f h plays =
    let q : Quiet s plays.0 c = subst (λ (w : Scene). Quiet s w c) (sym plays.2) (tick_quiet ms s c)
    in from_as s.config plays.1.config s.last plays.1.last xs u c (same_config (step.Tick ms) s plays.0 plays.1 plays.2 plays.3) (after_flush plays.0 plays.1 plays.3 ∙ q.last)
    (play_unmade xs plays.1 u c plays.3.empty (unmade_flushed plays.0 plays.1 c plays.3 (unmade_quiet s plays.0 c q h)) plays.4)
play_unmade (step.Fuse calls ∷ xs) s u c f h plays =
    from_as s.config plays.1.config s.last plays.1.last xs u c (same_config (step.Fuse calls) s plays.0 plays.1 plays.2 plays.3) (after_flush plays.0 plays.1 plays.3 ∙ ap (λ (w : Scene). w.last) plays.2)
    (play_unmade xs plays.1 u c plays.3.empty (unmade_flushed plays.0 plays.1 c plays.3 (subst (λ (w : Scene). Unmade w c) (sym plays.2) h)) plays.4)

pub play_carries : (config : Settings) (j : Journaled) (steps : List Step) (u : Scene) (c : ℕ) → Plays steps (opening_on config j) u → Carries (door_in config c steps) (bytes_in c steps) u.trace u.lines c
play_carries config j steps u c plays = play_unmade steps (opening_on config j) u c (λ n. refl) (record {
  entered = record { real = (router_on config j, began config.router_id (router_on config j)); said = []; balance = refl; stands = (record { silent = λ m. refl; begins = λ m. ([], refl); whole = λ l m. absurd (true≢false (sym l)) }, refl) };
  socket = refl;
  unknown = refl;
  silent = refl;
  kept = refl;
}) plays

pub runs_carry : (config : Settings) (n : ℕ) (j : Journaled) (runs : List (List Step)) (last : Line) (lines : List Line) → PlaysAll config n j runs last lines → RunsCarry config n j runs last lines
runs_carry config n j [] last lines h = h
runs_carry config n j (steps ∷ runs) last lines h =
    (h.0.trace, h.0.lines, h.1, play_is_trace config j steps h.0 h.2, λ c. play_carries config j steps h.0 c h.2, runs_carry config (n + 1) (journaled h.0.trace) runs (book_line (journaled h.0.trace)) h.1 h.3, h.4)
