-- What an item of a peer finds: what its channel stands for, and what its performative's handle stands for on the session there.
use Rattle.std.specs.Prelude.{◌≡◌, ℕ, Option, Some, None, option_map}
use Rattle.amqp_model.specs.declared.perf.Perf.{Perf}
use Rattle.amqp_model.specs.declared.perf.Perf.TheVariants as perf
use Rattle.amqp_model.specs.declared.item.Item.{Item}
use Rattle.amqp_model.specs.declared.item.Item.TheVariants as item
use Rattle.router_trace.specs.Trace.{Trace}
use Rattle.router_trace.specs.Sessions.{place, session_on}
use Rattle.router_trace.specs.Links.{LinkPlace, nowhere, link_place, found_link}
use Rattle.router_trace.specs.Settling.{middle_on}
use Rattle.state_links.specs.Fits.{channel_of}
use Rattle.state_links.specs.Looking.{key_on}
use Rattle.state_links.specs.declared.found.FoundLink.{FoundLink}
use Rattle.state_sessions.specs.Fits.{found_of}
use Rattle.router_state.specs.declared.finding.Found.{Found}

-- the handle that a performative has
abbrev pub handle_in : Perf → Option ℕ
handle_in (perf.Attach a) = Some a.handle
handle_in (perf.Flow f) = f.handle
handle_in (perf.Transfer x) = Some x.handle
handle_in (perf.Detach x) = Some x.handle
handle_in _ = None

abbrev pub handle_of : Item → Option ℕ
handle_of (item.Frame sasl channel body payload) = handle_in body
handle_of _ = None

-- what is at a place, with the delivery in the middle of the link there, and the link's key if it is durable
pub record IsFoundLink (at : LinkPlace) (f : FoundLink) : Type 0 where
  pub place : f.place ≡ found_link at
  pub middle : option_map (λ d. d.now) f.middle ≡ middle_on at
  pub key : option_map (λ k. k.now) f.key ≡ key_on at

-- where a handle leads on a session: nowhere if there is no session or no handle
abbrev pub place_found : Trace → ℕ → Option ℕ → Option ℕ → LinkPlace
place_found t c None handle = nowhere
place_found t c (Some own) None = nowhere
place_found t c (Some own) (Some handle) = link_place t c own handle

-- what is found by a channel and a handle of the peer
pub record IsFoundBy (t : Trace) (c channel : ℕ) (handle : Option ℕ) (f : Found) : Type 0 where
  pub own : f.own ≡ session_on t c channel
  pub session : f.session ≡ found_of (place t c channel)
  pub link : IsFoundLink (place_found t c f.own handle) f.link

-- what an item finds
abbrev pub IsFound : Trace → ℕ → Item → Found → Type 0
IsFound t c i f = IsFoundBy t c (channel_of i) (handle_of i) f
