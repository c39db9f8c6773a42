-- Pieces make no difference.
use Rattle.std.proofs.Common.{◌≡◌, ◌∙◌, sym, ap, refl, subst, ℕ, List, [], ◌∷◌, ◌++◌, append_assoc}
use Rattle.std.specs.Prelude.{◌==◌, Option, Some, None, if◌then◌else◌}
use Rattle.std.proofs.lemmas.Bool.{eqb-true}
use Rattle.amqp_frames.proofs.Streams.{one_cut}
use Rattle.route_table.specs.Settings.{Settings}
use Rattle.router_trace.specs.declared.event.ConnectionId.{ConnectionId}
use Rattle.router_trace.specs.Trace.{Entry}
use Rattle.router_trace.specs.Refusing.{rises}
use Rattle.core_door.specs.declared.door.Door.{Door as DoorState}
use Rattle.router_core.specs.Moves.{outs}
use Rattle.theorems.specs.Takes.{untaken}
use Rattle.theorems.proofs.Untaken.{same_outs}
use Rattle.core_player.specs.declared.line.Line.{Line}
use Rattle.core_player.specs.declared.script.Step.{Step}
use Rattle.core_player.specs.declared.script.Step.TheVariants as step
use Rattle.core_player.specs.Listening.{door_for}
use Rattle.router_play.specs.Carrying.{after_up, role_in, door_in, bytes_of, bytes_in, bytes_out, spelled, door_says, Carries}
use Rattle.theorems.specs.Pieces.{in_front, with_bytes, joined, SameHoweverCut}
use Rattle.state_connections.proofs.Lists.{by_test}
use Rattle.router_play.proofs.Carried.{play_carries}
use Rattle.router_play.specs.Script.{new_journal}
use Rattle.theorems.proofs.Calming.{room_calm}
use Rattle.theorems.proofs.Courses.{Course, course}
use Rattle.theorems.proofs.Joining.{same_id, joined_course}
use Rattle.theorems.proofs.Shadowing.{first, play_course}

-- the bytes received on a connection are those of the joined steps

front_bytes : (n : ℕ) (c : ConnectionId) (bytes : List ℕ) (xs : List Step) → bytes_of n (in_front c bytes xs) ≡ bytes_of n (step.In c bytes ∷ xs)
front_bytes n c bytes [] = refl
front_bytes n c bytes (step.In d others ∷ xs) =
    by_test (c.0 == d.0)
    (λ e. rw e (subst (λ (x : ConnectionId). bytes_of n (step.In c (bytes ++ others) ∷ xs) ≡ bytes_of n (step.In c bytes ∷ step.In x others ∷ xs)) (same_id c d (eqb-true c.0 d.0 e))
    (by_test (c.0 == n) (λ f. rw f (append_assoc bytes others (bytes_of n xs))) (λ f. rw f refl))))
    (λ e. rw e refl)
front_bytes n c bytes (step.Up d role ∷ xs) = refl
front_bytes n c bytes (step.Down d ∷ xs) = refl
front_bytes n c bytes (step.Tick ms ∷ xs) = refl
front_bytes n c bytes (step.Fuse calls ∷ xs) = refl

with_bytes_of : (n : ℕ) (c : ConnectionId) (bytes : List ℕ) (xs : List Step) → bytes_of n (with_bytes c bytes xs) ≡ bytes_of n (step.In c bytes ∷ xs)
with_bytes_of n c [] xs = by_test (c.0 == n) (λ e. rw e refl) (λ e. rw e refl)
with_bytes_of n c (b ∷ bs) xs = front_bytes n c (b ∷ bs) xs

joined_bytes : (n : ℕ) (xs : List Step) → bytes_of n (joined xs) ≡ bytes_of n xs
joined_bytes n [] = refl
joined_bytes n (step.In c bytes ∷ xs) =
    with_bytes_of n c bytes (joined xs) ∙ ap (λ (bs : List ℕ). if c.0 == n then bytes ++ bs else bs) (joined_bytes n xs)
joined_bytes n (step.Up c role ∷ xs) = joined_bytes n xs
joined_bytes n (step.Down c ∷ xs) = ap (λ (bs : List ℕ). if c.0 == n then [] else bs) (joined_bytes n xs)
joined_bytes n (step.Tick ms ∷ xs) = joined_bytes n xs
joined_bytes n (step.Fuse calls ∷ xs) = joined_bytes n xs

-- bytes make no connection

front_after : (n : ℕ) (last : Option ℕ) (c : ConnectionId) (bytes : List ℕ) (xs : List Step) → after_up n last (in_front c bytes xs) ≡ after_up n last xs
front_after n last c bytes [] = refl
front_after n last c bytes (step.In d others ∷ xs) = by_test (c.0 == d.0) (λ e. rw e refl) (λ e. rw e refl)
front_after n last c bytes (step.Up d role ∷ xs) = refl
front_after n last c bytes (step.Down d ∷ xs) = refl
front_after n last c bytes (step.Tick ms ∷ xs) = refl
front_after n last c bytes (step.Fuse calls ∷ xs) = refl

with_after : (n : ℕ) (last : Option ℕ) (c : ConnectionId) (bytes : List ℕ) (xs : List Step) → after_up n last (with_bytes c bytes xs) ≡ after_up n last xs
with_after n last c [] xs = refl
with_after n last c (b ∷ bs) xs = front_after n last c (b ∷ bs) xs

joined_after : (n : ℕ) (last : Option ℕ) (xs : List Step) → after_up n last (joined xs) ≡ joined (after_up n last xs)
joined_after n last [] = refl
joined_after n last (step.In c bytes ∷ xs) = with_after n last c bytes (joined xs) ∙ joined_after n last xs
joined_after n last (step.Up c role ∷ xs) =
    by_test (rises c.0 last)
    (λ r. by_test (c.0 == n) (λ e. rw (r, e) refl) (λ e. rw (r, e) (joined_after n (Some c.0) xs)))
    (λ r. rw r (joined_after n last xs))
joined_after n last (step.Down c ∷ xs) = joined_after n last xs
joined_after n last (step.Tick ms ∷ xs) = joined_after n last xs
joined_after n last (step.Fuse calls ∷ xs) = joined_after n last xs

front_role : (n : ℕ) (last : Option ℕ) (c : ConnectionId) (bytes : List ℕ) (xs : List Step) → role_in n last (in_front c bytes xs) ≡ role_in n last xs
front_role n last c bytes [] = refl
front_role n last c bytes (step.In d others ∷ xs) = by_test (c.0 == d.0) (λ e. rw e refl) (λ e. rw e refl)
front_role n last c bytes (step.Up d role ∷ xs) = refl
front_role n last c bytes (step.Down d ∷ xs) = refl
front_role n last c bytes (step.Tick ms ∷ xs) = refl
front_role n last c bytes (step.Fuse calls ∷ xs) = refl

with_role : (n : ℕ) (last : Option ℕ) (c : ConnectionId) (bytes : List ℕ) (xs : List Step) → role_in n last (with_bytes c bytes xs) ≡ role_in n last xs
with_role n last c [] xs = refl
with_role n last c (b ∷ bs) xs = front_role n last c (b ∷ bs) xs

joined_role : (n : ℕ) (last : Option ℕ) (xs : List Step) → role_in n last (joined xs) ≡ role_in n last xs
joined_role n last [] = refl
joined_role n last (step.In c bytes ∷ xs) = with_role n last c bytes (joined xs) ∙ joined_role n last xs
joined_role n last (step.Up c role ∷ xs) =
    by_test (rises c.0 last)
    (λ r. by_test (c.0 == n) (λ e. rw (r, e) refl) (λ e. rw (r, e) (joined_role n (Some c.0) xs)))
    (λ r. rw r (joined_role n last xs))
joined_role n last (step.Down c ∷ xs) = joined_role n last xs
joined_role n last (step.Tick ms ∷ xs) = joined_role n last xs
joined_role n last (step.Fuse calls ∷ xs) = joined_role n last xs

joined_in : (n : ℕ) (xs : List Step) → bytes_in n (joined xs) ≡ bytes_in n xs
joined_in n xs = ap (bytes_of n) (joined_after n None xs) ∙ joined_bytes n (after_up n None xs)

joined_door : (config : Settings) (n : ℕ) (xs : List Step) → door_in config n (joined xs) ≡ door_in config n xs
joined_door config n xs = ap (door_for config) (joined_role n None xs)

-- what is sent on a connection depends on its door, the bytes received and what the router put out
same_bytes : (gate : DoorState) (stream : List ℕ) (t v : List Entry) (ls ks : List Line) (c : ℕ) → outs t c ≡ outs v c → Carries gate stream t ls c → Carries gate stream v ks c
    → bytes_out c ls ≡ bytes_out c ks
same_bytes gate stream t v ls ks c put h k =
    let one = one_cut h.ended k.ended stream h.items k.items h.rest k.rest h.cut k.cut
    in h.out ∙ (λ j. spelled (door_says gate (one.1 j)) ++ spelled (put j)) ∙ sym k.out

pub pieces_alike : SameHoweverCut
pieces_alike config steps others u w plays too room room_too is =
    let waits : (c : ℕ) → Unit {0} = λ c. tt
    in let told : untaken u.trace ≡ untaken w.trace
    = play_course config steps u plays (room_calm u.trace room)
    ∙ ap (λ (p : Course). p.trace) (sym (joined_course steps (first config) waits) ∙ ap (λ (xs : List Step). course xs (first config)) is ∙ joined_course others (first config) waits)
    ∙ sym (play_course config others w too (room_calm w.trace room_too))
    in let put : (c : ℕ) → outs u.trace c ≡ outs w.trace c = λ c. same_outs u.trace c ∙ ap (λ (x : List Entry). outs x c) told ∙ sym (same_outs w.trace c)
    in let gate : (c : ℕ) → door_in config c others ≡ door_in config c steps
    = λ c. sym (joined_door config c others) ∙ ap (door_in config c) (sym is) ∙ joined_door config c steps
    in let stream : (c : ℕ) → bytes_in c others ≡ bytes_in c steps
    = λ c. sym (joined_in c others) ∙ ap (bytes_in c) (sym is) ∙ joined_in c steps
    in (
      told,
      λ c. same_bytes (door_in config c steps) (bytes_in c steps) u.trace w.trace u.lines w.lines c (put c) (play_carries config new_journal steps u c plays)
          (subst (λ (d : DoorState). Carries d (bytes_in c steps) w.trace w.lines c) (gate c)
          (subst (λ (bs : List ℕ). Carries (door_in config c others) bs w.trace w.lines c) (stream c) (play_carries config new_journal others w c too))),
    )
