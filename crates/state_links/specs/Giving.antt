-- What a transfer makes of its delivery, on a link of a table.
use Rattle.std.specs.Prelude.{ℕ, List, Option, Some, None}
use Rattle.amqp_model.specs.declared.perf.Perf.{Perf}
use Rattle.amqp_model.specs.declared.perf.Perf.TheVariants as perf
use Rattle.amqp_model.specs.declared.perf.Transfer.{Transfer}
use Rattle.amqp_link.specs.declared.part.Part.{Part}
use Rattle.amqp_link.specs.Deliveries.{frame}
use Rattle.amqp_link.specs.Figures.{given_by}
use Rattle.router_trace.specs.declared.handle.PeerHandle.{PeerHandle}
use Rattle.router_trace.specs.declared.handle.PeerHandle.TheVariants.{Mapped}
use Rattle.state_links.specs.declared.link.Link.{Link}
use Rattle.state_links.specs.declared.link.LinkEnd.{LinkEnd}
use Rattle.state_links.specs.declared.link.LinkEnd.TheVariants as ends
use Rattle.state_links.specs.declared.link.Side.{Side}
use Rattle.state_links.specs.declared.link.Side.TheVariants.{Peer}

-- the handle of the router that a handle of the peer stands for
abbrev pub handle_of : Option PeerHandle → Option ℕ
handle_of (Some (Mapped h)) = Some h
handle_of _ = None

abbrev pub handle_by : Option ℕ → (ℕ → Option PeerHandle) → Option ℕ
handle_by None known = None
handle_by (Some p) known = handle_of (known p)

-- the handle that a flow or a transfer of the peer names, on the session with this router's channel, if there is one
abbrev pub handle_in : Perf → (ℕ → Option PeerHandle) → Option ℕ
handle_in (perf.Flow f) known = handle_by f.handle known
handle_in (perf.Transfer x) known = handle_of (known x.handle)
handle_in _ known = None

abbrev pub handle_on : Option ℕ → Perf → (ℕ → ℕ → Option PeerHandle) → Option ℕ
handle_on None body known = None
handle_on (Some o) body known = handle_in body (known o)

-- what a transfer of the peer makes of its delivery, at the router's end of its link
abbrev pub given_at : Transfer → List ℕ → LinkEnd → Option Part
given_at x payload (ends.Sends e) = None
given_at x payload (ends.Receives e) = Some (given_by (frame x payload) e)

-- what a performative of one side makes of a delivery
abbrev pub part_noted : Side → Perf → List ℕ → Link → Option Part
part_noted Peer (perf.Transfer x) payload l = given_at x payload l.end
part_noted _ _ payload l = None

abbrev pub part_here : Side → Perf → List ℕ → Option Link → Option Part
part_here side body payload None = None
part_here side body payload (Some l) = part_noted side body payload l

-- the same on the session and the handle that the performative names
abbrev pub part_named : Side → Perf → List ℕ → Option ℕ → Option ℕ → (ℕ → ℕ → Option Link) → Option Part
part_named side body payload None handle known = None
part_named side body payload (Some o) None known = None
part_named side body payload (Some o) (Some h) known = part_here side body payload (known o h)
