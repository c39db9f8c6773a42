-- What is put out for one connection, whatever happens to others.
use Rattle.std.specs.Prelude.{◌≡◌, ℕ, Bool, true, false, ◌==◌, if◌then◌else◌, is_some, List, [], ◌∷◌, filter}
use Rattle.std.specs.List.{list_any}
use Rattle.router_trace.specs.Trace.{Beginning}
use Rattle.router_trace.specs.declared.event.Event.{Event}
use Rattle.router_trace.specs.declared.event.Event.TheVariants as event
use Rattle.router_trace.specs.Routed.{passed_to}
use Rattle.router_trace.specs.Trace.{Trace, Did, Out, Took, Bound, Booked, Routed, Began, Step}
use Rattle.router_trace.specs.Configuration.{beginning}
use Rattle.router_trace.specs.Connection.{conn, is_full, is_live}
use Rattle.router_core.specs.Replies.{handled}
use Rattle.core_machine.specs.Moves.{took_one}
use Rattle.router_core.specs.Moves.{Goes, outs}
use Rattle.core_machine.specs.Moves.{Move, handles, takes}
use Rattle.router_core.specs.Attaches.{brings_attach}
use Rattle.theorems.specs.Takes.{events_of}

-- An event is about a connection if it comes up, is lost, or an item of it is received. A tick is about all
-- connections.
abbrev pub is_about : ℕ → Event → Bool
is_about c (event.Up d p) = d.0 == c
is_about c (event.Item d i) = d.0 == c
is_about c (event.Down d) = d.0 == c
is_about c (event.Tick ms) = true
is_about c event.Start = false

abbrev pub own_events : ℕ → List Step → List Step
own_events c ss = filter (λ s. is_about c s.event) ss

-- the part of a trace that is about a connection: the configuration, the events about it and the items put out for
-- it, in order
abbrev pub own_part : ℕ → Trace → Trace
own_part c [] = []
own_part c (Did s ∷ t) = if is_about c s.event then Did s ∷ own_part c t else own_part c t
own_part c (Out d i ∷ t) = if d == c then Out d i ∷ own_part c t else own_part c t
own_part c (Took d n ∷ t) = own_part c t
own_part c (Bound b ∷ t) = own_part c t
own_part c (Booked acts full ∷ t) = own_part c t
own_part c (Routed passage ∷ t) = if is_some (passed_to passage c) then Routed passage ∷ own_part c t else own_part c t
own_part c (Began g ∷ t) = Began g ∷ own_part c t

abbrev pub comes_up : ℕ → Event → Bool
comes_up c (event.Up d p) = d.0 == c
comes_up c _ = false

-- its own outbox is not full when an event comes, and it is live once it comes up: it isn't over at once because of the
-- number of others
abbrev pub Undisturbed : List ℕ → ℕ → List Move → Trace → Type 0
Undisturbed id c [] t = Unit {0}
Undisturbed id c (handles s ∷ ms) t =
    (is_full (conn t c) ≡ false) × (comes_up c s.event ≡ true → is_live (conn (Did s ∷ t) c) ≡ true)
    × Undisturbed id c ms (handled id t s)
Undisturbed id c (takes x ∷ ms) t = Undisturbed id c ms (took_one x t)

-- no attach is received on the connection
abbrev pub NeverAttaches : ℕ → List Step → Type 0
NeverAttaches c ss = list_any (λ s. brings_attach s.event) (own_events c ss) ≡ false

-- Each connection is answered alone: if the same events are about it, in the same order, and no attach is received on
-- it, the same is put out for it, and after the same of these events, whatever is received on other connections, and
-- whatever happens to them. (A link can be stolen by another connection.)
abbrev pub AnsweredAlone : Type 0
AnsweredAlone =
    (id : List ℕ) (g : Beginning) (c : ℕ) (ms ns : List Move) (t u : Trace)
    → Goes id ms (beginning g) t → Goes id ns (beginning g) u
    → Undisturbed id c ms (beginning g) → Undisturbed id c ns (beginning g)
    → own_events c (events_of ms) ≡ own_events c (events_of ns) → NeverAttaches c (events_of ms)
    → (own_part c t ≡ own_part c u) × (outs t c ≡ outs u c)
