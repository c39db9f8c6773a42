-- How the bytes of a connection are cut into steps of a script makes no difference.
use Rattle.std.specs.Prelude.{◌≡◌, ℕ, false, ◌==◌, if◌then◌else◌, List, [], ◌∷◌, ◌++◌}
use Rattle.route_table.specs.Settings.{Settings}
use Rattle.router_trace.specs.declared.event.ConnectionId.{ConnectionId}
use Rattle.router_trace.specs.Trace.{Trace, Did, Out, Took, Bound, Booked, Routed, Began}
use Rattle.router_trace.specs.Connection.{conn, is_full}
use Rattle.theorems.specs.Takes.{untaken}
use Rattle.core_player.specs.declared.script.Step.{Step}
use Rattle.core_player.specs.declared.script.Step.TheVariants as step
use Rattle.router_play.specs.Script.{Scene, opening, Plays}
use Rattle.router_play.specs.Carrying.{bytes_out}

-- bytes before steps: with those of the same connection that come next they are one piece
abbrev pub in_front : ConnectionId → List ℕ → List Step → List Step
in_front c bytes [] = step.In c bytes ∷ []
in_front c bytes (step.In d others ∷ xs) =
    if c.0 == d.0 then step.In c (bytes ++ others) ∷ xs else step.In c bytes ∷ step.In d others ∷ xs
in_front c bytes (x ∷ xs) = step.In c bytes ∷ x ∷ xs

-- no bytes are no piece
abbrev pub with_bytes : ConnectionId → List ℕ → List Step → List Step
with_bytes c [] xs = xs
with_bytes c (b ∷ bs) xs = in_front c (b ∷ bs) xs

-- a script in which the bytes of a connection are joined if no other step is between them
abbrev pub joined : List Step → List Step
joined [] = []
joined (step.In c bytes ∷ xs) = with_bytes c bytes (joined xs)
joined (x ∷ xs) = x ∷ joined xs

-- no outbox of a live connection was full when an event came
abbrev pub AlwaysRoom : Trace → Type 0
AlwaysRoom [] = Unit {0}
AlwaysRoom (Did s ∷ t) = ((c : ℕ) → is_full (conn t c) ≡ false) × AlwaysRoom t
AlwaysRoom (Out c i ∷ t) = AlwaysRoom t
AlwaysRoom (Took c n ∷ t) = AlwaysRoom t
AlwaysRoom (Bound b ∷ t) = AlwaysRoom t
AlwaysRoom (Booked acts full ∷ t) = AlwaysRoom t
AlwaysRoom (Routed passage ∷ t) = AlwaysRoom t
AlwaysRoom (Began g ∷ t) = AlwaysRoom t

-- Pieces make no difference: two scripts that differ only in how bytes of a connection are cut, whether into many
-- steps or into one, have the same effect if no outbox is ever full. The router receives the same events and puts out
-- the same items, except for when items are taken, and on each connection the same bytes are sent.
abbrev pub SameHoweverCut : Type 0
SameHoweverCut =
    (config : Settings) (steps others : List Step) (u w : Scene)
    → Plays steps (opening config) u → Plays others (opening config) w → AlwaysRoom u.trace → AlwaysRoom w.trace
    → joined steps ≡ joined others
    → (untaken u.trace ≡ untaken w.trace) × ((c : ℕ) → bytes_out c u.lines ≡ bytes_out c w.lines)
