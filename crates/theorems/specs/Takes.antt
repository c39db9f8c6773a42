-- Takes: when items are taken from the outboxes, and how many.
use Rattle.std.specs.Prelude.{◌≡◌, ℕ, false, List, [], ◌∷◌}
use Rattle.router_trace.specs.Trace.{Beginning}
use Rattle.router_trace.specs.Trace.{Trace, Did, Out, Took, Bound, Booked, Routed, Began, Step}
use Rattle.router_trace.specs.Configuration.{beginning}
use Rattle.router_trace.specs.Connection.{conn, is_full}
use Rattle.router_core.specs.Replies.{handled}
use Rattle.core_machine.specs.Moves.{took_one}
use Rattle.router_core.specs.Moves.{Goes, outs}
use Rattle.core_machine.specs.Moves.{Move, handles, takes}

-- A trace without its takes, and the events that moves handle, in order.
abbrev pub untaken : Trace → Trace
untaken [] = []
untaken (Did s ∷ t) = Did s ∷ untaken t
untaken (Out c i ∷ t) = Out c i ∷ untaken t
untaken (Took c n ∷ t) = untaken t
untaken (Bound b ∷ t) = Bound b ∷ untaken t
untaken (Booked acts full ∷ t) = Booked acts full ∷ untaken t
untaken (Routed passage ∷ t) = Routed passage ∷ untaken t
untaken (Began g ∷ t) = Began g ∷ untaken t

abbrev pub events_of : List Move → List Step
events_of [] = []
events_of (handles s ∷ ms) = s ∷ events_of ms
events_of (takes x ∷ ms) = events_of ms

-- no outbox of a live connection is full when an event comes
abbrev pub NeverFull : List ℕ → List Move → Trace → Type 0
NeverFull id [] t = Unit {0}
NeverFull id (handles s ∷ ms) t = ((c : ℕ) → is_full (conn t c) ≡ false) × NeverFull id ms (handled id t s)
NeverFull id (takes x ∷ ms) t = NeverFull id ms (took_one x t)

-- Takes make no difference: if the same events are handled in the same order and no outbox is ever full, the same is
-- put out, whenever items are taken and however many
abbrev pub SameWheneverTaken : Type 0
SameWheneverTaken =
    (id : List ℕ) (g : Beginning) (ms ns : List Move) (t u : Trace)
    → Goes id ms (beginning g) t → Goes id ns (beginning g) u
    → NeverFull id ms (beginning g) → NeverFull id ns (beginning g)
    → events_of ms ≡ events_of ns → (untaken t ≡ untaken u) × ((c : ℕ) → outs t c ≡ outs u c)
