-- The router's transfers and flows leave claims as they are.
use Rattle.std.proofs.Common.{◌≡◌, ◌∙◌, ◌∷◌, ℕ, Bool, true, false, refl, List, Option, Some, None}
use Rattle.std.specs.Prelude.{◌==◌, if◌then◌else◌}
use Rattle.amqp_model.specs.declared.perf.Flow.{Flow}
use Rattle.amqp_model.specs.declared.perf.Transfer.{Transfer}
use Rattle.amqp_model.specs.declared.perf.Perf.TheVariants as perf
use Rattle.amqp_model.specs.declared.item.Item.TheVariants as item
use Rattle.router_trace.specs.Claims.{Claim, claims, unless_ended}
use Rattle.router_trace.specs.Trace.{Trace, Out}
use Rattle.state_unsettled.specs.declared.incoming.IncomingDeliveries.{IncomingDeliveries}
use Rattle.state_unsettled.specs.Incoming.{IncomingFit}

transfers : (b : Bool) (x : Transfer) (own o : ℕ) (v : Option Claim) → v ≡ (if b then unless_ended (perf.Transfer x) own o v else v)
transfers true x own o None = refl
transfers true x own o (Some v) = refl
transfers false x own o v = refl

flows : (b : Bool) (f : Flow) (own o : ℕ) (v : Option Claim) → v ≡ (if b then unless_ended (perf.Flow f) own o v else v)
flows true f own o None = refl
flows true f own o (Some v) = refl
flows false f own o v = refl

pub claims_transferred : (s : IncomingDeliveries) (d own : ℕ) (sasl : Bool) (x : Transfer) (payload : List ℕ) (t : Trace) → IncomingFit s t
    → IncomingFit s (Out d (item.Frame sasl own (perf.Transfer x) payload) ∷ t)
claims_transferred s d own sasl x payload t fit =
    record { ids = λ c o id. fit.ids c o id ∙ transfers (d == c) x own o (claims t c o id); small = fit.small; marked = fit.marked }

pub claims_flowed : (s : IncomingDeliveries) (d own : ℕ) (sasl : Bool) (f : Flow) (payload : List ℕ) (t : Trace) → IncomingFit s t
    → IncomingFit s (Out d (item.Frame sasl own (perf.Flow f) payload) ∷ t)
claims_flowed s d own sasl f payload t fit =
    record { ids = λ c o id. fit.ids c o id ∙ flows (d == c) f own o (claims t c o id); small = fit.small; marked = fit.marked }
