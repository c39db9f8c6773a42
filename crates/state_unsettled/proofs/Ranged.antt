-- The ids in a range that a peer has not settled, as a table has them in order.
use Rattle.std.proofs.Common.{◌≡◌, ◌∙◌, ◌<◌, ◌^◌, ◌&&◌, ℕ, true, ap, subst, List, [], Option, Some, None, drop}
use Rattle.std.specs.Option.{is_some}
use Rattle.amqp_session.specs.Ranges.{has, in_range, IsRising}
use Rattle.router_trace.specs.Claims.{Claim}
use Rattle.router_trace.specs.Settling.{ids_claimed, is_claimed}
use Rattle.router_trace.specs.Trace.{Trace}
use Rattle.router_trace.proofs.Ranges.{AreCopied, Small, all_copied, all_passing}
use Rattle.state_collections.specs.Ids.{at_id}
use Rattle.state_unsettled.specs.declared.incoming.IncomingDeliveries.{IncomingDeliveries}
use Rattle.state_unsettled.specs.Incoming.{IncomingFit, IsSmall}

low : (id : ℕ) (v : Option Claim) → IsSmall id v → is_some v ≡ true → id < 2 ^ 32
low id None small e = absurd cc
low id (Some c) small e = small

pub claimed_is : (s : IncomingDeliveries) (t : Trace) (c o first last : ℕ) (found ids : List ℕ) (k : ℕ) → IncomingFit s t → first < 2 ^ 32 → AreCopied found k ids → drop k ids ≡ []
    → IsRising first ids → ((id : ℕ) → id < 2 ^ 32 → has id ids ≡ (in_range first last id && is_some (at_id s.ids c o id)))
    → found ≡ ids_claimed t c o first last
claimed_is s t c o first last found ids k fit few copied none rising exact =
    whole ∙ all_passing first last (is_claimed t c o) ids few
    (λ id e. low id (at_id s.ids c o id) (fit.small c o id) (ap (λ (v : Option Claim). is_some v) (fit.ids c o id) ∙ e))
    (subst Small whole copied.small) rising
    (λ id l. exact id l ∙ ap (λ (v : Option Claim). in_range first last id && is_some v) (fit.ids c o id))
  where
    whole : found ≡ ids
    whole = all_copied found ids k none copied
