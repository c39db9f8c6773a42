-- What the laws need of the grants that are due: each is a flow of an attached link.
use Rattle.std.proofs.Common.{◌≡◌, refl, ℕ, ◌+◌, ◌==◌, Bool, true, false, List, [], ◌∷◌, ◌++◌}
use Rattle.std.specs.Prelude.{Option, Some, None, is_some, if◌then◌else◌}
use Rattle.amqp_session.specs.Session.{Session}
use Rattle.amqp_session.specs.declared.states.FlowState.{FlowState}
use Rattle.router_trace.specs.declared.frames.LinkState.{LinkState}
use Rattle.router_trace.specs.declared.handle.Attachment.{Attachment}
use Rattle.router_trace.specs.Trace.{Entry, Put}
use Rattle.router_trace.specs.Frames.{told_of}
use Rattle.router_trace.specs.LinkFrames.{link_flow_item}
use Rattle.router_trace.specs.Links.{Link, Happened, sends, receives, link, numbered}
use Rattle.router_trace.specs.Sessions.{session}
use Rattle.router_trace.specs.Following.{link_of}
use Rattle.state_messages.specs.declared.grant.LinkGrant.{LinkGrant}
use Rattle.state_messages.specs.Figures.{owed_credit}
use Rattle.state_messages.specs.Messages.{grant_by, grant_on, grant_at, grants_on, first_address, sums_at, grants_of_address, grants, grant_flow, grant_flows, grants_due}

pub record IsGrant (t : List Entry) (p : Put) : Type 0 where
  pub own : ℕ
  pub handle : ℕ
  pub told : FlowState
  pub at : LinkState
  pub flow : p.item ≡ link_flow_item own told at
  pub linked : is_some (link t p.conn own handle) ≡ true

abbrev pub AllGrants : List Entry → List Put → Type 0
AllGrants t [] = Unit {0}
AllGrants t (p ∷ ps) = IsGrant t p × AllGrants t ps

-- grants of attached links

abbrev Stands : List Entry → Attachment → Type 0
Stands t a = is_some (link_of t a) ≡ true

abbrev AllStand : List Entry → List LinkGrant → Type 0
AllStand t [] = Unit {0}
AllStand t (g ∷ gs) = Stands t g.at × AllStand t gs

more_stand : (t : List Entry) (gs hs : List LinkGrant) → AllStand t gs → AllStand t hs → AllStand t (gs ++ hs)
more_stand t [] hs first second = second
more_stand t (g ∷ gs) hs first second = (first.0, more_stand t gs hs first.1 second)

stands_by : (t : List Entry) (a : Attachment) (amount : ℕ) (h : Happened) → Stands t a → AllStand t (grant_by a amount h)
stands_by t a amount (sends list) stands = tt
stands_by t a amount (receives list) stands = (stands, tt)

stands_if : (t : List Entry) (gs : List LinkGrant) (b : Bool) → AllStand t gs → AllStand t (if b then gs else [])
stands_if t gs true stand = stand
stands_if t gs false stand = tt

stands_on : (t : List Entry) (number : ℕ) (a : Attachment) (amount : ℕ) (v : Option Link) → (is_some v ≡ true → Stands t a) → AllStand t (grant_on t number a amount v)
stands_on t number a amount None stands = tt
stands_on t number a amount (Some l) stands =
    stands_if t (grant_by a (owed_credit t l + amount) l.happened) (l.number == number) (stands_by t a (owed_credit t l + amount) l.happened (stands refl))

stands_at : (t : List Entry) (number amount : ℕ) (v : Option Attachment) → AllStand t (grant_at t number amount v)
stands_at t number amount None = tt
stands_at t number amount (Some a) = stands_on t number a amount (link_of t a) (λ found. found)

all_on : (t : List Entry) (sums : List (ℕ × ℕ)) → AllStand t (grants_on t sums)
all_on t [] = tt
all_on t (sum ∷ sums) = more_stand t (grant_at t sum.0 sum.1 (numbered t sum.0)) (grants_on t sums) (stands_at t sum.0 sum.1 (numbered t sum.0)) (all_on t sums)

all_of_address : (t : List Entry) (v : Option (List ℕ)) → AllStand t (grants_of_address t v)
all_of_address t None = tt
all_of_address t (Some address) = all_on t (sums_at t address)

all_stand : (t : List Entry) → AllStand t (grants t)
unfolding grants
all_stand t = all_of_address t (first_address t)

-- the flows that carry them

flow_is_grant : (t : List Entry) (g : LinkGrant) (v : Option Session) (ps : List Put) → Stands t g.at → AllGrants t ps → AllGrants t (grant_flow g v ++ ps)
flow_is_grant t g None ps stands rest = rest
flow_is_grant t g (Some s) ps stands rest =
    (record { own = g.at.channel; handle = g.at.handle; told = told_of s; at = g.state; flow = refl; linked = stands }, rest)

flows_are_grants : (t : List Entry) (gs : List LinkGrant) → AllStand t gs → AllGrants t (grant_flows t gs)
flows_are_grants t [] stand = tt
flows_are_grants t (g ∷ gs) stand =
    flow_is_grant t g (session t g.at.conn.0 g.at.channel) (grant_flows t gs) stand.0 (flows_are_grants t gs stand.1)

pub all_grants : (t : List Entry) → AllGrants t (grants_due t)
all_grants t = flows_are_grants t (grants t) (all_stand t)
