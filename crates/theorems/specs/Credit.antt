-- The credit of links (AMQP 1.0 part 2, section 2.6.7).
use Rattle.std.specs.Prelude.{◌≤◌, ℕ, Bool, true, false, [], ◌∷◌, Option, Some, None}
use Rattle.amqp_model.specs.declared.perf.Perf.{Perf}
use Rattle.amqp_model.specs.declared.perf.Perf.TheVariants as perf
use Rattle.amqp_session.specs.Serials.{distance}
use Rattle.amqp_link.specs.Credit.{count, credit}
use Rattle.amqp_model.specs.declared.item.Item.{Item}
use Rattle.amqp_model.specs.declared.item.Item.TheVariants as item
use Rattle.router_trace.specs.Trace.{Trace, Did, Out, Took, Bound, Booked, Routed, Began}
use Rattle.router_trace.specs.Links.{Link, Happened, sends, receives, link}

-- Before each transfer put out that starts a delivery the link's remaining credit is at least 1; each is put out on
-- an attached link (2.6.7).
abbrev pub credit_left : Happened → Type 0
credit_left (sends list) = 1 ≤ credit list
credit_left (receives list) = ⊥

abbrev pub unless_going_on : Bool → Happened → Type 0
unless_going_on true w = Unit {0}
unless_going_on false w = credit_left w

abbrev pub starts_within : Option Link → Type 0
starts_within None = ⊥
starts_within (Some l) = unless_going_on l.going_on l.happened

-- Each flow put out for a link is on an attached link, too. If the router is the sender there, the flow has a
-- delivery-count, and that is the link's, or ahead of it by at most the credit left: a drain moves it forward, and no
-- flow moves it back (2.6.7).
abbrev pub counts_on : Option ℕ → Happened → Type 0
counts_on (Some n) (sends list) = distance (count list) n ≤ credit list
counts_on None (sends list) = ⊥
counts_on n (receives list) = Unit {0}

abbrev pub counts_within : Option ℕ → Option Link → Type 0
counts_within n None = ⊥
counts_within n (Some l) = counts_on n l.happened

abbrev pub flow_within : Option ℕ → Option ℕ → (ℕ → Option Link) → Type 0
flow_within n None known = Unit {0}
flow_within n (Some handle) known = counts_within n (known handle)

abbrev pub perf_within : Perf → ℕ → (ℕ → ℕ → Option Link) → Type 0
perf_within (perf.Transfer x) own known = starts_within (known own x.handle)
perf_within (perf.Flow f) own known = flow_within f.delivery_count f.handle (known own)
perf_within _ own known = Unit {0}

abbrev pub within_credit : Item → (ℕ → ℕ → Option Link) → Type 0
within_credit (item.Frame sasl own body payload) known = perf_within body own known
within_credit _ known = Unit {0}

abbrev pub WithinCredit : Trace → Type 0
WithinCredit [] = Unit {0}
WithinCredit (Did s ∷ t) = WithinCredit t
WithinCredit (Out c i ∷ t) = within_credit i (link t c) × WithinCredit t
WithinCredit (Took c n ∷ t) = WithinCredit t
WithinCredit (Bound b ∷ t) = WithinCredit t
WithinCredit (Booked acts full ∷ t) = WithinCredit t
WithinCredit (Routed passage ∷ t) = WithinCredit t
WithinCredit (Began g ∷ t) = WithinCredit t
