-- On a connection without links no delivery has an id, and its peer has no unsettled delivery.
use Rattle.std.proofs.Common.{◌≡◌, ◌∙◌, ap, refl, ℕ, Bool, true, false, ◌&&◌, List, [], ◌∷◌}
use Rattle.std.specs.Prelude.{◌==◌, Option, Some, None, if◌then◌else◌}
use Rattle.amqp_model.specs.declared.perf.Perf.{Perf}
use Rattle.amqp_model.specs.declared.perf.Perf.TheVariants as perf
use Rattle.amqp_model.specs.declared.perf.Disposition.{Disposition}
use Rattle.amqp_model.specs.declared.perf.Role.{Role}
use Rattle.amqp_model.specs.declared.perf.Role.TheVariants.{Sender, Receiver}
use Rattle.amqp_model.specs.declared.perf.Transfer.{Transfer}
use Rattle.amqp_model.specs.declared.item.Item.{Item}
use Rattle.amqp_model.specs.declared.item.Item.TheVariants as item
use Rattle.amqp_session.specs.Ranges.{in_range}
use Rattle.router_trace.specs.declared.binding.DeliveryName.{DeliveryName}
use Rattle.router_trace.specs.declared.channel.PeerChannel.{PeerChannel}
use Rattle.router_trace.specs.declared.handle.PeerHandle.{PeerHandle}
use Rattle.router_trace.specs.declared.handle.PeerHandle.TheVariants.{Mapped, Detaching}
use Rattle.router_trace.specs.declared.event.Event.{Event}
use Rattle.router_trace.specs.declared.event.Event.TheVariants as event
use Rattle.router_trace.specs.Trace.{Entry, Did, Out, Put, Step, goes}
use Rattle.router_trace.specs.Links.{Link, link, is_lost, their_handle}
use Rattle.router_trace.specs.Sessions.{maps, theirs}
use Rattle.router_trace.specs.Deliveries.{last_of, number_named, named_in, named_by, named}
use Rattle.router_trace.specs.Claims.{Claim, claimed_on, claimed, settled_by, answered_by, claim_in, claim_by, claim_at, claim_after_in, claim_after, claims}
use Rattle.state_connections.proofs.Lists.{by_test}
use Rattle.router_core.proofs.Attachless.{Unlinked, Unnamed}
use Rattle.theorems.proofs.WindowsKept.{is_transfer_in, is_transfer, NonePut}
use Rattle.theorems.proofs.MineLinks.{Unclaimed}

none_if_test : {A : Type 0} (b : Bool) (v : Option A) → v ≡ None → (if b then None else v) ≡ None
none_if_test true v e = refl
none_if_test false v e = e

-- ids of deliveries

unnamed_perf : (numbers : DeliveryName → Option ℕ) (body : Perf) (own o id : ℕ) (v : Option ℕ) → is_transfer_in body ≡ false → v ≡ None → named_in numbers body own o id v ≡ None
unnamed_perf numbers (perf.Transfer x) own o id v none e = absurd cc
unnamed_perf numbers (perf.End x) own o id v none e = none_if_test (own == o) v e
unnamed_perf numbers (perf.Close x) own o id v none e = refl
unnamed_perf numbers _ own o id v none e = e

unnamed_item : (numbers : DeliveryName → Option ℕ) (i : Item) (o id : ℕ) (v : Option ℕ) → is_transfer i ≡ false → v ≡ None → named_by numbers i o id v ≡ None
unnamed_item numbers (item.Frame sasl own body payload) o id v none e = unnamed_perf numbers body own o id v none e
unnamed_item numbers _ o id v none e = e

unnamed_out : (c : ℕ) (t : List Entry) (d : ℕ) (i : Item) → is_transfer i ≡ false → Unnamed c t → Unnamed c (Out d i ∷ t)
unnamed_out c t d i none was o id = by_test (d == c) (λ e. rw e (unnamed_item (number_named t) i o id (named t c o id) none (was o id))) (λ e. rw e (was o id))

pub unnamed_goes : (c : ℕ) (ps : List Put) (t : List Entry) → NonePut ps → Unnamed c t → Unnamed c (goes ps t)
unnamed_goes c [] t none was = was
unnamed_goes c (p ∷ ps) t none was = unnamed_goes c ps (Out p.conn p.item ∷ t) none.1 (unnamed_out c t p.conn p.item none.0 was)

pub unnamed_did : (c : ℕ) (t : List Entry) (s : Step) → Unnamed c t → Unnamed c (Did s ∷ t)
unnamed_did c t s was o id = none_if_test (is_lost s.event c) (named t c o id) (was o id)

-- unsettled deliveries of the peer

unclaimed_transfer : (x : Transfer) (h : Option PeerHandle) (known : ℕ → Option Link) (id : ℕ) (v : Option Claim) → ((k : ℕ) → known k ≡ None)
    → v ≡ None → claimed x h known id v ≡ None
unclaimed_transfer x None known id v none e = e
unclaimed_transfer x (Some Detaching) known id v none e = e
unclaimed_transfer x (Some (Mapped k)) known id v none e = ap (λ (l : Option Link). claimed_on k x l id v) (none k) ∙ e

settled_none : (role : Role) (x : Disposition) (id : ℕ) (v : Option Claim) → v ≡ None → settled_by role x id v ≡ None
settled_none Sender x id v e = none_if_test (x.settled && in_range x.first (last_of x) id) v e
settled_none Receiver x id v e = e

answered_none : (role : Role) (x : Disposition) (id : ℕ) (v : Option Claim) → v ≡ None → answered_by role x id v ≡ None
answered_none Sender x id v e = e
answered_none Receiver x id v e = none_if_test (x.settled && in_range x.first (last_of x) id) v e

unclaimed_heard : (body : Perf) (handles : ℕ → Option PeerHandle) (known : ℕ → Option Link) (id : ℕ) (v : Option Claim) → ((k : ℕ) → known k ≡ None)
    → v ≡ None → claim_in body handles known id v ≡ None
unclaimed_heard (perf.Transfer x) handles known id v none e = unclaimed_transfer x (handles x.handle) known id v none e
unclaimed_heard (perf.Disposition x) handles known id v none e = settled_none x.role x id v e
unclaimed_heard _ handles known id v none e = e

unclaimed_by : (i : Item) (o : ℕ) (channels : ℕ → Option PeerChannel) (handles : ℕ → Option PeerHandle) (known : ℕ → Option Link) (id : ℕ) (v : Option Claim)
    → ((k : ℕ) → known k ≡ None) → v ≡ None → claim_by i o channels handles known id v ≡ None
unclaimed_by (item.Frame sasl channel body payload) o channels handles known id v none e =
    by sasl (maps (channels channel) o) (claim_in body handles known id v) (unclaimed_heard body handles known id v none e)
  where
    by : (s m : Bool) (w : Option Claim) → w ≡ None → (if s then v else (if m then w else v)) ≡ None
    by true m w f = e
    by false true w f = f
    by false false w f = e
unclaimed_by _ o channels handles known id v none e = e

unclaimed_at : (e : Event) (c o : ℕ) (channels : ℕ → Option PeerChannel) (handles : ℕ → Option PeerHandle) (known : ℕ → Option Link) (id : ℕ) (v : Option Claim)
    → ((k : ℕ) → known k ≡ None) → v ≡ None → claim_at e c o channels handles known id v ≡ None
unclaimed_at (event.Item d i) c o channels handles known id v none e =
    by_test (d.0 == c) (λ q. rw q (unclaimed_by i o channels handles known id v none e)) (λ q. rw q e)
unclaimed_at (event.Down d) c o channels handles known id v none e = none_if_test (d.0 == c) v e
unclaimed_at (event.Up d p) c o channels handles known id v none e = e
unclaimed_at (event.Tick ms) c o channels handles known id v none e = e
unclaimed_at event.Start c o channels handles known id v none e = e

pub unclaimed_did : (c : ℕ) (t : List Entry) (s : Step) → Unlinked c t → Unclaimed c t → Unclaimed c (Did s ∷ t)
unclaimed_did c t s unlinked was o id =
    unclaimed_at s.event c o (theirs t c) (their_handle t c o) (link t c o) id (claims t c o id) (unlinked o) (was o id)

unclaimed_perf : (body : Perf) (own o id : ℕ) (v : Option Claim) → v ≡ None → claim_after_in body own o id v ≡ None
unclaimed_perf (perf.Disposition x) own o id v e =
    by_test (own == o) (λ q. rw q (answered_none x.role x id v e)) (λ q. rw q e)
unclaimed_perf body own o id v e = ap (λ (w : Option Claim). claim_after_in body own o id w) e ∙ none body
  where
    none : (body : Perf) → claim_after_in body own o id None ≡ None
    none (perf.Disposition x) = by_test (own == o) (λ q. rw q (answered_none x.role x id None refl)) (λ q. rw q refl)
    none _ = refl

unclaimed_item : (i : Item) (o id : ℕ) (v : Option Claim) → v ≡ None → claim_after i o id v ≡ None
unclaimed_item (item.Frame sasl own body payload) o id v e = unclaimed_perf body own o id v e
unclaimed_item _ o id v e = e

pub unclaimed_out : (c : ℕ) (t : List Entry) (d : ℕ) (i : Item) → Unclaimed c t → Unclaimed c (Out d i ∷ t)
unclaimed_out c t d i was o id = by_test (d == c) (λ e. rw e (unclaimed_item i o id (claims t c o id) (was o id))) (λ e. rw e (was o id))

pub unclaimed_goes : (c : ℕ) (ps : List Put) (t : List Entry) → Unclaimed c t → Unclaimed c (goes ps t)
unclaimed_goes c [] t was = was
unclaimed_goes c (p ∷ ps) t was = unclaimed_goes c ps (Out p.conn p.item ∷ t) (unclaimed_out c t p.conn p.item was)
