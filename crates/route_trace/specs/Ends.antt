-- An end of a routed link: what the router and the peer did on it, and what is to go out there.
use Rattle.std.specs.Prelude.{ℕ, ◌-◌, Bool, true, false, ◌==◌, ◌&&◌, if◌then◌else◌, List, [], ◌∷◌, ◌++◌, length, drop, Option, Some, None}
use Rattle.route_links.specs.declared.passing.Passing.{Passing}
use Rattle.route_links.specs.declared.passing.Passing.TheVariants as pass
use Rattle.route_links.specs.Parts.{parts, after, is_detach}
use Rattle.route_links.specs.Cutting.{later}
use Rattle.route_links.specs.Legs.{Held, new_leg, forwarded, dropped}
use Rattle.router_trace.specs.Routed.{RoutedEnd}
use Rattle.route_trace.specs.declared.ends.OurEnd.{OurEnd}
use Rattle.route_trace.specs.declared.ends.OurEnd.TheVariants as ours
use Rattle.route_trace.specs.declared.ends.PeerEnd.{PeerEnd}
use Rattle.route_trace.specs.declared.ends.PeerEnd.TheVariants as theirs
use Rattle.route_trace.specs.declared.ends.RoutedPlace.{RoutedPlace}

-- Where it is, what the router did on it and what the peer did; the leg that goes out there, and of each frame that it holds how many events were
-- handled before the frame came.
pub record End : Type 0 where
  pub place : RoutedPlace
  pub ours : OurEnd
  pub theirs : PeerEnd
  pub leg : Held
  pub arrivals : List ℕ

abbrev pub place_of : RoutedEnd → RoutedPlace
place_of e = record { conn = record { 0 = e.conn }; channel = e.channel; handle = e.handle }

-- an end on which the router's attach is still to go out, and nothing is held
abbrev pub new_end : RoutedEnd → PeerEnd → End
new_end e theirs = record { place = place_of e; ours = ours.Waiting; theirs = theirs; leg = new_leg e.handle; arrivals = [] }

abbrev pub is_out : OurEnd → Bool
is_out ours.Detached = true
is_out _ = false

abbrev pub is_waiting : OurEnd → Bool
is_waiting ours.Waiting = true
is_waiting _ = false

abbrev pub is_awaited : PeerEnd → Bool
is_awaited theirs.Awaited = true
is_awaited _ = false

abbrev pub has_left : PeerEnd → Bool
has_left theirs.Detached = true
has_left _ = false

-- the peer's handle stands for it
abbrev pub stands_for : PeerEnd → ℕ → Bool
stands_for (theirs.Attached p) handle = p == handle
stands_for _ handle = false

-- it is on the session with this router's channel
abbrev pub is_on : ℕ → ℕ → RoutedPlace → Bool
is_on c o p = (p.conn.0 == c) && (p.channel == o)

-- A frame that is to go out there is held behind those that came before it, unless the router's detach is out.
abbrev pub holding : ℕ → Passing → End → End
holding at f e = if is_out e.ours then e else record e { leg = forwarded f e.leg; arrivals = e.arrivals ++ at ∷ [] }

-- of what is held, the detaches alone
abbrev pub detaches_of : List Passing → List ℕ → List ℕ
detaches_of (f ∷ fs) (n ∷ ns) = if is_detach f then n ∷ detaches_of fs ns else detaches_of fs ns
detaches_of _ _ = []

-- The peer's detach drops what is held for it, but for the other peer's detach; behind the router's detach the end is over.
abbrev pub left_by_peer : End → Option End
left_by_peer e = if is_out e.ours then None else Some (record e { theirs = theirs.Detached; leg = dropped e.leg; arrivals = detaches_of e.leg.queue e.arrivals })

-- an end on which the peer said this
abbrev pub heard_on : Passing → End → Option End
heard_on f e = if is_detach f then left_by_peer e else Some e

-- behind the router's detach only the peer's detach counts
abbrev pub counts : Passing → End → Bool
counts f e = if is_out e.ours then is_detach f else true

-- What is left of the first frame held where this much payload went out: nothing, or the rest of a transfer that was cut.
abbrev pub rest_of : Passing → List ℕ → List Passing
rest_of (pass.Transfer x payload) sent = if length sent == length payload then [] else pass.Transfer (later x) (drop (length sent) payload) ∷ []
rest_of f sent = []

abbrev pub rest : List Passing → List ℕ → List Passing
rest [] sent = []
rest (f ∷ fs) sent = rest_of f sent ++ fs

-- one arrival for each frame that is still held
abbrev pub arrivals_of : List Passing → List ℕ → List ℕ
arrivals_of queue arrivals = drop (length arrivals - length queue) arrivals

-- a leg of which this went out, which is the first frame held or a piece of it
abbrev pub released : Passing → List ℕ → Held → Held
released f sent leg = record leg { went = after leg.went (parts leg.went f); queue = rest leg.queue sent }

abbrev pub sent_on : Passing → List ℕ → End → End
sent_on f sent e = record e { leg = released f sent e.leg; arrivals = arrivals_of (rest e.leg.queue sent) e.arrivals }

-- nothing is held any more
abbrev pub emptied : Held → Held
emptied leg = record leg { came = leg.went; queue = [] }

-- The router's detach ends what goes out there; behind the peer's detach the end is over.
abbrev pub left_by_router : End → Option End
left_by_router e = if has_left e.theirs then None else Some (record e { ours = ours.Detached; leg = emptied e.leg; arrivals = [] })

-- an end on which the router put this
abbrev pub put_on : Passing → List ℕ → End → Option End
put_on (pass.Attach a) sent e = Some (record (sent_on (pass.Attach a) sent e) { ours = ours.Attached })
put_on (pass.Detach x) sent e = left_by_router e
put_on f sent e = Some (sent_on f sent e)
