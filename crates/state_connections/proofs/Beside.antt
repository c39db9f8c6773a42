-- An item that isn't a close leaves what is known of peers as it is.
use Rattle.std.proofs.Common.{◌≡◌, ◌∙◌, ◌∷◌, ℕ, Bool, true, false, refl, Option}
use Rattle.std.specs.Prelude.{◌==◌, if◌then◌else◌}
use Rattle.amqp_model.specs.declared.perf.Perf.{Perf}
use Rattle.amqp_model.specs.declared.perf.Perf.TheVariants as perf
use Rattle.amqp_model.specs.declared.item.Item.{Item}
use Rattle.amqp_model.specs.declared.item.Item.TheVariants as item
use Rattle.router_trace.specs.Peers.{user, container}
use Rattle.router_trace.specs.Sessions.{unless_close, unless_close_in}
use Rattle.router_trace.specs.Trace.{Trace, Out}
use Rattle.state_connections.specs.declared.peers.Peers.{Peers}
use Rattle.state_connections.specs.Peering.{PeersFit}
use Rattle.state_connections.specs.Timing.{is_close, is_close_in}

kept_in : {A : Type 0} (body : Perf) (v : Option A) → is_close_in body ≡ false → v ≡ unless_close_in body v
kept_in (perf.Close x) v e = absurd cc
kept_in _ v e = refl

pub kept : {A : Type 0} (i : Item) (v : Option A) → is_close i ≡ false → v ≡ unless_close i v
kept (item.Frame sasl channel body payload) v e = kept_in body v e
kept _ v e = refl

either_way : {A : Type 0} (b : Bool) (v w : A) → v ≡ w → v ≡ (if b then w else v)
either_way true v w e = e
either_way false v w e = refl

pub peers_stay : (s : Peers) (d : ℕ) (i : Item) (t : Trace) → is_close i ≡ false → PeersFit s t → PeersFit s (Out d i ∷ t)
peers_stay s d i t stays fit = record {
  users = λ c. fit.users c ∙ either_way (d == c) (user t c) (unless_close i (user t c)) (kept i (user t c) stays);
  containers = λ c. fit.containers c ∙ either_way (d == c) (container t c) (unless_close i (container t c)) (kept i (container t c) stays);
}
