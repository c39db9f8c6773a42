-- Routed links in a trace: the two ends of each. Links are numbered from 0, in the order in which they were routed.
use Rattle.std.specs.Prelude.{ℕ, ◌+◌, Bool, true, false, ◌&&◌, ◌==◌, if◌then◌else◌, List, [], ◌∷◌, Option, Some, None, option_map, option_and_then}
use Rattle.amqp_model.specs.declared.item.Item.{Item}
use Rattle.amqp_model.specs.declared.item.Item.TheVariants as item
use Rattle.amqp_model.specs.declared.perf.Attach.{Attach}
use Rattle.amqp_model.specs.declared.perf.Perf.{Perf}
use Rattle.amqp_model.specs.declared.perf.Perf.TheVariants as perf
use Rattle.amqp_model.specs.declared.perf.Role.{Role}
use Rattle.route_links.specs.declared.passing.Passing.{Passing}
use Rattle.route_links.specs.declared.passing.Passing.TheVariants as pass
use Rattle.router_trace.specs.declared.channel.PeerChannel.{PeerChannel}
use Rattle.router_trace.specs.declared.event.Event.{Event}
use Rattle.router_trace.specs.declared.event.Event.TheVariants as event
use Rattle.router_trace.specs.Routed.{RoutedLink, Passage, Begun, Answered, Passed, Side, near, far}
use Rattle.router_trace.specs.LinkFrames.{refusal_of}
use Rattle.router_trace.specs.Sessions.{maps, theirs}
use Rattle.router_trace.specs.Trace.{Did, Out, Took, Bound, Booked, Routed, Began, Trace}
use Rattle.route_trace.specs.declared.ends.PeerEnd.TheVariants as peer
use Rattle.route_trace.specs.declared.ends.RoutedPlace.{RoutedPlace}
use Rattle.route_trace.specs.Ends.{End, new_end, holding, heard_on, counts, put_on, is_on, is_out, is_waiting, stands_for}
use Rattle.route_trace.specs.Frames.{handle_of, passing_of, passed_of, payload_of}

-- A routed link: the name and the role of the client's attach; the attach by which the router refuses it, as long as none is out at the near end;
-- and its ends, of which one that is over is none.
pub record Pair : Type 0 where
  pub name : List ℕ
  pub role : Role
  pub refusal : Option Attach
  pub near : Option End
  pub far : Option End

-- how many events were handled, and how many links were routed
abbrev pub events : Trace → ℕ
events [] = 0
events (Did s ∷ t) = events t + 1
events (Out c i ∷ t) = events t
events (Took c n ∷ t) = events t
events (Bound b ∷ t) = events t
events (Booked acts full ∷ t) = events t
events (Routed passage ∷ t) = events t
events (Began g ∷ t) = 0

abbrev pub routed_by : Passage → ℕ → ℕ
routed_by (Begun l) n = n + 1
routed_by _ n = n

abbrev pub routed_links : Trace → ℕ
routed_links [] = 0
routed_links (Did s ∷ t) = routed_links t
routed_links (Out c i ∷ t) = routed_links t
routed_links (Took c n ∷ t) = routed_links t
routed_links (Bound b ∷ t) = routed_links t
routed_links (Booked acts full ∷ t) = routed_links t
routed_links (Routed passage ∷ t) = routed_by passage (routed_links t)
routed_links (Began g ∷ t) = 0

-- the last attach received on a connection
abbrev pub attach_in : Perf → Option Attach → Option Attach
attach_in (perf.Attach a) last = Some a
attach_in _ last = last

abbrev pub attach_by : Item → Option Attach → Option Attach
attach_by (item.Frame sasl channel body payload) last = if sasl then last else attach_in body last
attach_by _ last = last

abbrev pub attach_at : Event → ℕ → Option Attach → Option Attach
attach_at (event.Item d i) c last = if d.0 == c then attach_by i last else last
attach_at _ c last = last

abbrev pub last_attach : Trace → ℕ → Option Attach
last_attach [] c = None
last_attach (Did s ∷ t) c = attach_at s.event c (last_attach t c)
last_attach (Out d i ∷ t) c = last_attach t c
last_attach (Took d n ∷ t) c = last_attach t c
last_attach (Bound b ∷ t) c = last_attach t c
last_attach (Booked acts full ∷ t) c = last_attach t c
last_attach (Routed passage ∷ t) c = last_attach t c
last_attach (Began g ∷ t) c = None

-- A link as it is routed: the attach is to go out at the far end.
abbrev pub begun_pair : RoutedLink → ℕ → Pair
begun_pair l at = record {
  name = l.attach.name;
  role = l.attach.role;
  refusal = Some (refusal_of l.attach l.near.handle);
  near = Some (new_end l.near (peer.Attached l.handle));
  far = Some (holding at (pass.Attach l.attach) (new_end l.far peer.Awaited));
}

-- The near end takes nothing any more: it is over, or the router's detach is out.
abbrev pub is_closed : Option End → Bool
is_closed None = true
is_closed (Some e) = is_out e.ours

-- A far end whose attach isn't out is taken back then.
abbrev pub unless_waiting : End → Option End
unless_waiting e = if is_waiting e.ours then None else Some e

abbrev pub without_waiting : Pair → Pair
without_waiting v = if is_closed v.near then record v { far = option_and_then unless_waiting v.far } else v

-- a peer's frame names this end, if its channel stands for these sessions of its connection
abbrev pub is_named : ℕ → (ℕ → Bool) → Option ℕ → Option End → Bool
is_named c on None e = false
is_named c on (Some p) None = false
is_named c on (Some p) (Some e) = (e.place.conn.0 == c) && (on e.place.channel && stands_for e.theirs p)

-- what the peer at one end says is to go out at the other
abbrev pub counts_on : Passing → Option End → Bool
counts_on f None = false
counts_on f (Some e) = counts f e

abbrev pub hold_if : Bool → ℕ → Passing → Option End → Option End
hold_if meant at f e = if meant then option_map (holding at f) e else e

abbrev pub heard_near : ℕ → Passing → Pair → Pair
heard_near at f v = record v { near = option_and_then (heard_on f) v.near; far = hold_if (counts_on f v.near) at f v.far }

abbrev pub heard_far : ℕ → Passing → Pair → Pair
heard_far at f v = record v { far = option_and_then (heard_on f) v.far; near = hold_if (counts_on f v.far) at f v.near }

abbrev pub heard_frame : ℕ → (ℕ → Bool) → ℕ → Option ℕ → Passing → Pair → Pair
heard_frame c on at handle f v =
    if is_named c on handle v.near then heard_near at f v
    else if is_named c on handle v.far then heard_far at f v
    else v

abbrev pub heard_if : ℕ → (ℕ → Bool) → ℕ → Option ℕ → Option Passing → Pair → Pair
heard_if c on at handle None v = v
heard_if c on at handle (Some f) v = heard_frame c on at handle f v

abbrev pub heard_by : ℕ → Item → (ℕ → Option PeerChannel) → ℕ → Pair → Pair
heard_by c (item.Frame sasl channel body payload) known at v =
    if sasl then v else heard_if c (maps (known channel)) at (handle_of body) (passing_of body payload) v
heard_by c _ known at v = v

-- ends that are lost: those on this session, or on this connection
abbrev pub unless_lost : (RoutedPlace → Bool) → End → Option End
unless_lost lost e = if lost e.place then None else Some e

abbrev pub without : (RoutedPlace → Bool) → Pair → Pair
without lost v = without_waiting (record v { near = option_and_then (unless_lost lost) v.near; far = option_and_then (unless_lost lost) v.far })

abbrev pub is_of : ℕ → RoutedPlace → Bool
is_of c p = p.conn.0 == c

-- what an event does: a peer's frame is heard, a lost connection loses its ends
abbrev pub pair_at : Event → (ℕ → ℕ → Option PeerChannel) → ℕ → Pair → Pair
pair_at (event.Item c i) known at v = heard_by c.0 i (known c.0) at v
pair_at (event.Down c) known at v = without (is_of c.0) v
pair_at _ known at v = v

-- what the router's end and close do
abbrev pub pair_after_perf : Perf → ℕ → ℕ → Pair → Pair
pair_after_perf (perf.End x) c own v = without (is_on c own) v
pair_after_perf (perf.Close x) c own v = without (is_of c) v
pair_after_perf _ c own v = v

abbrev pub pair_after : Item → ℕ → Pair → Pair
pair_after (item.Frame sasl own body payload) c v = pair_after_perf body c own v
pair_after _ c v = v

-- The peer at the far end answers: it attached on this handle, and its attach is to go out at the near end.
abbrev pub attached_as : ℕ → End → End
attached_as handle e = record e { theirs = peer.Attached handle }

abbrev pub attach_from : (ℕ → Option Attach) → Option End → Option Attach
attach_from known None = None
attach_from known (Some e) = known e.place.conn.0

abbrev pub hold_attach : ℕ → Option Attach → Option End → Option End
hold_attach at None e = e
hold_attach at (Some a) e = option_map (holding at (pass.Attach a)) e

abbrev pub answered_pair : ℕ → (ℕ → Option Attach) → ℕ → Pair → Pair
answered_pair handle known at v = record v { far = option_map (attached_as handle) v.far; near = hold_attach at (attach_from known v.far) v.near }

-- what goes out at an end
abbrev pub put_by : Option Passing → List ℕ → End → Option End
put_by None sent e = Some e
put_by (Some f) sent e = put_on f sent e

abbrev pub is_attach : Option Passing → Bool
is_attach (Some (pass.Attach a)) = true
is_attach _ = false

abbrev pub unless_attach : Item → Option Attach → Option Attach
unless_attach i refusal = if is_attach (passed_of i) then None else refusal

abbrev pub put_at : Side → Item → Pair → Pair
put_at near i v = without_waiting (record v { refusal = unless_attach i v.refusal; near = option_and_then (put_by (passed_of i) (payload_of i)) v.near })
put_at far i v = record v { far = option_and_then (put_by (passed_of i) (payload_of i)) v.far }

-- what becomes of link n by what became of a link; so many were routed before
abbrev pub pair_by : Passage → ℕ → ℕ → (ℕ → Option Attach) → ℕ → Option Pair → Option Pair
pair_by (Begun l) n count known at v = if count == n then Some (begun_pair l at) else v
pair_by (Answered m handle) n count known at v = if m == n then option_map (answered_pair handle known at) v else v
pair_by (Passed m side c i) n count known at v = if m == n then option_map (put_at side i) v else v

-- a routed link, from its start on
abbrev pub pair : Trace → ℕ → Option Pair
pair [] n = None
pair (Did s ∷ t) n = option_map (pair_at s.event (theirs t) (events t)) (pair t n)
pair (Out c i ∷ t) n = option_map (pair_after i c) (pair t n)
pair (Took c k ∷ t) n = pair t n
pair (Bound b ∷ t) n = pair t n
pair (Booked acts full ∷ t) n = pair t n
pair (Routed passage ∷ t) n = pair_by passage n (routed_links t) (last_attach t) (events t) (pair t n)
pair (Began g ∷ t) n = None
