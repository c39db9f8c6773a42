-- The consumer that is chosen for a message is a link on which the router sends.
use Rattle.std.proofs.Common.{◌≡◌, ◌∙◌, ℕ, Bool, true, false, refl, sym, ap, List, [], ◌∷◌}
use Rattle.std.specs.Prelude.{◌==◌, Option, Some, None, if◌then◌else◌, is_some, option_and_then}
use Rattle.std.proofs.lemmas.Bool.{eqb-true}
use Rattle.route_credit.specs.Granting.{choice, is_sooner, least}
use Rattle.route_credit.specs.Links.{link_at}
use Rattle.route_credit.specs.Pool.{Sharing, turn, turn_of}
use Rattle.route_credit.specs.declared.offer.Offer.{Offer}
use Rattle.state_pools.specs.Sharing.{offer_at}
use Rattle.state_pools.proofs.Listed.{listed_at}
use Rattle.router_trace.specs.declared.handle.Attachment.{Attachment}
use Rattle.router_trace.specs.Trace.{Trace}
use Rattle.router_trace.specs.Links.{Link, Happened, sends, receives, numbered, attachments}
use Rattle.router_trace.specs.Following.{link_of, is_sending}
use Rattle.state_messages.specs.Figures.{figure, figure_at, figure_by, figure_on}
use Rattle.state_messages.specs.Messages.{choice_of, consumer_of, pool_of}
use Rattle.state_messages.proofs.Numbered.{number_is}
use Rattle.state_messages.proofs.Seen.{are_numbered}
use Rattle.state_connections.proofs.Lists.{by_test}
use Rattle.theorems.proofs.Standing.{Sends}
use Rattle.theorems.proofs.Tests.{some_same, none_not_some}

clash : true ≡ false → ⊥
clash e = cc

-- the consumer with the least figure has a link in the pool

sooner_has : (v w : Option ℕ) → is_sooner v w ≡ true → is_some v ≡ true
sooner_has None w e = absurd cc
sooner_has (Some k) w e = refl

least_by : (f : ℕ → Option ℕ) (b : Bool) (x id : ℕ) (rest : Option ℕ) → (b ≡ true → is_some (f x) ≡ true) → (rest ≡ Some id → is_some (f id) ≡ true)
    → (if b then Some x else rest) ≡ Some id → is_some (f id) ≡ true
least_by f true x id rest one other e = ap (λ k. is_some (f k)) (sym (some_same e)) ∙ one refl
least_by f false x id rest one other e = other e

least_has : {X : Type 0} (f : ℕ → Option ℕ) (links : List (ℕ × X)) (id : ℕ) → least f links ≡ Some id → is_some (f id) ≡ true
least_has f [] id e = absurd cc
least_has f (l ∷ ls) id e =
    least_by f (is_sooner (f l.0) (option_and_then f (least f ls))) l.0 id (least f ls) (sooner_has (f l.0) (option_and_then f (least f ls))) (least_has f ls id) e

in_pool : (pool : Sharing) (id : ℕ) → choice pool ≡ Some id → is_some (link_at pool.consumers id) ≡ true
in_pool pool id e = by_link (link_at pool.consumers id) (least_has (turn pool) pool.consumers id e)
  where
    by_link : (v : Option Offer) → is_some (option_and_then (turn_of pool.distribution pool.last id) v) ≡ true → is_some v ≡ true
    by_link None e = absurd cc
    by_link (Some offer) e = refl

-- so it sends

by_happened : (t : Trace) (address : List ℕ) (l : Link) (h : Happened) → is_some (offer_at address (Some (figure_by t l h))) ≡ true → is_sending h ≡ true
by_happened t address l (sends list) e = refl
by_happened t address l (receives list) e = absurd cc

by_view : (t : Trace) (address : List ℕ) (id : ℕ) (a : Attachment) (v : Option Link) → numbered t id ≡ Some a → link_of t a ≡ v → is_some (offer_at address (figure_on t id v)) ≡ true → Sends t a
by_view t address id a None at there e = absurd cc
by_view t address id a (Some l) at there e =
    by_test (l.number == id)
    (λ is. record { at = l; there = there; number = eqb-true l.number id is ∙ sym (number_is t id a at); way = by_happened t address l l.happened (rw is at e) })
    (λ is. absurd (clash (sym (rw is at e))))

pub by_number : (t : Trace) (address : List ℕ) (id : ℕ) (a : Attachment) → numbered t id ≡ Some a → is_some (offer_at address (figure t id)) ≡ true → Sends t a
by_number t address id a at e = by_view t address id a (link_of t a) at refl (ap (λ (v : Option Attachment). is_some (offer_at address (figure_at t id v))) (sym at) ∙ e)

offers : (t : Trace) (address : List ℕ) (id : ℕ) → choice (pool_of t address) ≡ Some id → is_some (offer_at address (figure t id)) ≡ true
offers t address id e =
    ap is_some (sym (listed_at (λ n. offer_at address (figure t n)) (attachments t) (ap (offer_at address) (are_numbered t).first) (λ m l. ap (offer_at address) ((are_numbered t).most m l)) id))
    ∙ in_pool (pool_of t address) id e

choice_is : (t : Trace) (address : List ℕ) → choice_of t address ≡ choice (pool_of t address)
unfolding choice_of
choice_is t address = refl

pub consumer_sends : (t : Trace) (l : Link) (a : Attachment) → consumer_of t (Some l) ≡ Some a → Sends t a
consumer_sends t l a is = by (choice_of t l.address) refl is
  where
    by : (v : Option ℕ) → choice_of t l.address ≡ v → option_and_then (numbered t) v ≡ Some a → Sends t a
    by None chosen is = absurd (none_not_some is)
    by (Some id) chosen is = by_number t l.address id a is (offers t l.address id (sym (choice_is t l.address) ∙ chosen))
