-- What the router itself puts on the ends of a routed link: an end is taken away, with or without an error.
use Rattle.std.specs.Prelude.{ℕ, Bool, true, false, if◌then◌else◌, List, [], ◌∷◌, Option, Some, None}
use Rattle.std.specs.List.{flat_map}
use Rattle.amqp_model.specs.declared.perf.Attach.{Attach}
use Rattle.amqp_model.specs.declared.item.Item.{Item}
use Rattle.router_trace.specs.declared.condition.Condition.{Condition}
use Rattle.router_trace.specs.declared.condition.Condition.TheVariants.{NotFound}
use Rattle.router_trace.specs.LinkFrames.{detach_item, attach_item}
use Rattle.router_trace.specs.Routed.{Passage, Passed}
use Rattle.router_trace.specs.Routed as entry
use Rattle.router_trace.specs.Trace.{Trace}
use Rattle.route_trace.specs.declared.ends.LinkEnd.{LinkEnd}
use Rattle.route_trace.specs.declared.ends.RoutedPlace.{RoutedPlace}
use Rattle.route_trace.specs.declared.ends.Side.{Side}
use Rattle.route_trace.specs.declared.ends.Side.TheVariants.{Near, Far}
use Rattle.route_trace.specs.Ends.{End, is_out, is_waiting}
use Rattle.route_trace.specs.Looking.{end_of, other_side}
use Rattle.route_trace.specs.Pairs.{Pair, pair}

abbrev pub side_of : Side → entry.Side
side_of Near = entry.near
side_of Far = entry.far

-- an item for an end of link n
abbrev pub passed : ℕ → Side → RoutedPlace → Item → Passage
passed n s at i = Passed n (side_of s) at.conn.0 i

abbrev pub detach_at : ℕ → Side → RoutedPlace → Bool → Option Condition → Passage
detach_at n s at closed x = passed n s at (detach_item at.channel at.handle closed x)

-- The router detaches an end. One whose attach is still to go out is refused, if it is the near one: the attach that refuses it comes before the
-- detach, which is closed; if it is the far one, nothing was said there and nothing is. Behind the router's detach nothing comes.
abbrev pub refused_at : ℕ → RoutedPlace → Option Attach → Option Condition → List Passage
refused_at n at None x = []
refused_at n at (Some a) x = passed n Near at (attach_item at.channel a) ∷ detach_at n Near at true x ∷ []

abbrev pub unanswered : ℕ → Side → RoutedPlace → Option Attach → Option Condition → List Passage
unanswered n Near at refusal x = refused_at n at refusal x
unanswered n Far at refusal x = []

abbrev pub taking : ℕ → Side → Bool → Option Condition → Option Attach → Option End → List Passage
taking n s closed x refusal None = []
taking n s closed x refusal (Some e) =
    if is_out e.ours then []
    else if is_waiting e.ours then unanswered n s e.place refusal x
    else detach_at n s e.place closed x ∷ []

abbrev pub take : ℕ → Side → Bool → Option Condition → Pair → List Passage
take n s closed x v = taking n s closed x v.refusal (end_of v s)

-- An end is lost. The other one is told that, unless it is lost, too.
abbrev pub unless_lost : (RoutedPlace → Bool) → Option End → Option End
unless_lost lost None = None
unless_lost lost (Some e) = if lost e.place then None else Some e

abbrev pub telling : (RoutedPlace → Bool) → LinkEnd → Option Pair → List Passage
telling lost e None = []
telling lost e (Some v) = taking e.link.0 (other_side e.side) false (Some NotFound) v.refusal (unless_lost lost (end_of v (other_side e.side)))

-- what the loss of these ends tells, one after another
abbrev pub told_of_loss : Trace → (RoutedPlace → Bool) → List LinkEnd → List Passage
told_of_loss t lost ends = flat_map (λ e. telling lost e (pair t e.link.0)) ends
