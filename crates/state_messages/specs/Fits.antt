-- When links, deliveries, claims and pools agree with a trace.
use Rattle.std.specs.Prelude.{◌≡◌, ◌≤◌, ℕ, false, List, Option}
use Rattle.route_table.specs.declared.sections.Distribution.{Distribution}
use Rattle.state_pools.specs.Fits.{AgreeBut, PoolsFit, NoneTouched}
use Rattle.state_pools.specs.declared.pools.Pools.{Pools}
use Rattle.state_pools.specs.Sharing.{Figure}
use Rattle.router_trace.specs.Trace.{Trace}
use Rattle.router_trace.specs.Configuration.{distribution}
use Rattle.router_trace.specs.Links.{attachments}
use Rattle.state_unsettled.specs.Incoming.{IncomingFit}
use Rattle.state_deliveries.specs.Fits.{DeliveriesFit}
use Rattle.state_deliveries.specs.Touching as deliveries
use Rattle.state_links.specs.Fits.{LinksFit}
use Rattle.state_links.specs.Touching as links
use Rattle.state_messages.specs.declared.messages.Messages.{Messages}
use Rattle.state_messages.specs.Figures.{figure}
use Rattle.state_messages.specs.Messages.{last_chosen}

-- The pools know what touched links had before, and what all others have now. Addresses are shared as the configuration says,
-- and these consumers were last chosen; each had attached by then.
pub record PoolsKnow (s : Messages) (t : Trace) (last : List ℕ → ℕ) : Type 0 where
  pub known : ℕ → Option Figure
  pub fits : PoolsFit s.pools (distribution t) known (figure t) last
  pub same : (n : ℕ) → links.is_touched s.links n ≡ false → deliveries.is_touched s.deliveries n ≡ false → known n ≡ figure t n
  pub below : (a : List ℕ) → last a ≤ attachments t

-- all tables agree with the trace, and these consumers were last chosen
pub record NotedFit (s : Messages) (t : Trace) (last : List ℕ → ℕ) : Type 0 where
  pub links : LinksFit s.links t
  pub deliveries : DeliveriesFit s.deliveries t
  pub incoming : IncomingFit s.incoming t
  pub pools : PoolsKnow s t last

-- all tables agree with the trace
abbrev pub MessagesFit : Messages → Trace → Type 0
MessagesFit s t = NotedFit s t (last_chosen t)

-- the pools were told what all links have
pub record Untouched (s : Messages) : Type 0 where
  pub pools : NoneTouched s.pools
  pub links : (n : ℕ) → links.is_touched s.links n ≡ false
  pub deliveries : (n : ℕ) → deliveries.is_touched s.deliveries n ≡ false

-- the pools share each address so
pub record ShareAs (pools : Pools) (share : List ℕ → Distribution) : Type 0 where
  pub known : ℕ → Option Figure
  pub actual : ℕ → Option Figure
  pub last : List ℕ → ℕ
  pub fits : PoolsFit pools share known actual last

-- the pools, which share each address so, are told what a link has now
abbrev pub IsTold : (List ℕ → Distribution) → Pools → Pools → ℕ → Option Figure → Type 0
IsTold share old new number now = (known other actual : ℕ → Option Figure) (last : List ℕ → ℕ) → PoolsFit old share known actual last → other number ≡ now → actual number ≡ other number
    → AgreeBut number other known → PoolsFit new share other actual last
