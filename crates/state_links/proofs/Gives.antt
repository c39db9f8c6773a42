-- What a transfer makes of its delivery is the same on a link of a table and on the view's.
use Rattle.std.proofs.Common.{◌≡◌, ◌∙◌, ℕ, false, refl, ap, List, Option, Some, None}
use Rattle.std.specs.Prelude.{option_map}
use Rattle.amqp_model.specs.declared.perf.Flow.{Flow}
use Rattle.amqp_model.specs.declared.perf.Perf.{Perf}
use Rattle.amqp_model.specs.declared.perf.Perf.TheVariants as perf
use Rattle.amqp_model.specs.declared.perf.Transfer.{Transfer}
use Rattle.amqp_model.specs.declared.item.Item.TheVariants as item
use Rattle.amqp_link.specs.Deliveries.{frame}
use Rattle.amqp_link.proofs.Receives.{given_at_transfer}
use Rattle.router_trace.specs.declared.handle.PeerHandle.{PeerHandle}
use Rattle.router_trace.specs.declared.handle.PeerHandle.TheVariants.{Mapped, Detaching}
use Rattle.router_trace.specs.Trace.{Trace}
use Rattle.router_trace.specs.Links as view
use Rattle.router_trace.specs.Links.{Happened, sends, receives, link, their_handle, link_place_by, on_link}
use Rattle.router_trace.specs.Settling.{part_by, part_on, part_in, part_at}
use Rattle.state_links.specs.declared.link.Link.{Link}
use Rattle.state_links.specs.declared.link.Side.TheVariants.{Peer}
use Rattle.state_links.specs.Ends.{end_of, link_of}
use Rattle.state_links.specs.Giving.{handle_of, handle_by, handle_in, handle_on, given_at, part_here, part_named}

given_end : (x : Transfer) (payload : List ℕ) (h : Happened) → given_at x payload (end_of h) ≡ part_by x payload h
given_end x payload (sends list) = refl
given_end x payload (receives list) = ap Some (given_at_transfer (frame x payload) list)

given_there : (x : Transfer) (payload : List ℕ) (h : ℕ) (v : Option view.Link)
    → part_here Peer (perf.Transfer x) payload (option_map link_of v) ≡ part_on x payload (on_link h v)
given_there x payload h None = refl
given_there x payload h (Some l) = given_end x payload l.happened

by_transfer : (x : Transfer) (payload : List ℕ) (o : ℕ) (p : Option PeerHandle) (known : ℕ → ℕ → Option Link) (views : ℕ → Option view.Link)
    → ((h : ℕ) → known o h ≡ option_map link_of (views h))
    → part_named Peer (perf.Transfer x) payload (Some o) (handle_of p) known ≡ part_on x payload (link_place_by p views)
by_transfer x payload o None known views fit = refl
by_transfer x payload o (Some Detaching) known views fit = refl
by_transfer x payload o (Some (Mapped h)) known views fit = ap (part_here Peer (perf.Transfer x) payload) (fit h) ∙ given_there x payload h (views h)

by_flow : (f : Flow) (payload : List ℕ) (o : ℕ) (handle : Option ℕ) (known : ℕ → ℕ → Option Link)
    → part_named Peer (perf.Flow f) payload (Some o) handle known ≡ None
by_flow f payload o None known = refl
by_flow f payload o (Some h) known = none (known o h)
  where
    none : (l : Option Link) → part_here Peer (perf.Flow f) payload l ≡ None
    none None = refl
    none (Some l) = refl

by_body : (body : Perf) (payload : List ℕ) (o : ℕ) (handles : ℕ → Option PeerHandle) (known : ℕ → ℕ → Option Link) (views : ℕ → Option view.Link)
    → ((h : ℕ) → known o h ≡ option_map link_of (views h))
    → part_named Peer body payload (Some o) (handle_in body handles) known ≡ part_in body payload (λ p. link_place_by (handles p) views)
by_body (perf.Flow f) payload o handles known views fit = by_flow f payload o (handle_by f.handle handles) known
by_body (perf.Transfer x) payload o handles known views fit = by_transfer x payload o (handles x.handle) known views fit
by_body _ payload o handles known views fit = refl

-- handles with equal names
handle_same : (body : Perf) (known handles : ℕ → Option PeerHandle) → ((p : ℕ) → known p ≡ handles p) → handle_in body known ≡ handle_in body handles
handle_same (perf.Flow f) known handles same = named f.handle
  where
    named : (p : Option ℕ) → handle_by p known ≡ handle_by p handles
    named None = refl
    named (Some p) = ap handle_of (same p)
handle_same (perf.Transfer x) known handles same = ap handle_of (same x.handle)
handle_same _ known handles same = refl

pub given_follows : (t : Trace) (c channel : ℕ) (own : Option ℕ) (body : Perf) (payload : List ℕ) (handles : ℕ → ℕ → Option PeerHandle) (known : ℕ → ℕ → Option Link)
    → ((o p : ℕ) → handles o p ≡ their_handle t c o p) → ((o h : ℕ) → known o h ≡ option_map link_of (link t c o h))
    → part_named Peer body payload own (handle_on own body handles) known ≡ part_at t c own (item.Frame false channel body payload)
given_follows t c channel None body payload handles known named fit = refl
given_follows t c channel (Some o) body payload handles known named fit =
    ap (λ h. part_named Peer body payload (Some o) h known) (handle_same body (handles o) (their_handle t c o) (named o))
    ∙ by_body body payload o (their_handle t c o) known (link t c o) (fit o)
