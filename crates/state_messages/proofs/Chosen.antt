-- The chosen consumer is attached, at its producer's address.
use Rattle.std.proofs.Common.{◌≡◌, ◌∙◌, ℕ, Bool, true, false, true≢false, refl, sym, ap, Option, Some, None, List, [], ◌∷◌}
use Rattle.std.specs.Prelude.{◌==◌, ◌&&◌, if◌then◌else◌, is_some, option_and_then}
use Rattle.std.specs.Str.{bytes_eq}
use Rattle.route_credit.specs.Granting.{choice, is_sooner, least}
use Rattle.route_credit.specs.Links.{link_at}
use Rattle.route_credit.specs.Pool.{Sharing, turn, turn_of}
use Rattle.route_credit.specs.declared.offer.Offer.{Offer}
use Rattle.router_trace.specs.declared.handle.Attachment.{Attachment}
use Rattle.router_trace.specs.Trace.{Trace}
use Rattle.router_trace.specs.Links as view
use Rattle.router_trace.specs.Links.{Happened, sends, receives, numbered, attachments, place_of, has_number, if_attached}
use Rattle.router_trace.specs.Following.{link_of}
use Rattle.state_pools.specs.Fits.{chosen_at}
use Rattle.state_pools.specs.Sharing.{offer_at}
use Rattle.state_pools.proofs.AtAddress.{same_bytes}
use Rattle.state_pools.proofs.Listed.{listed_at}
use Rattle.state_messages.specs.Figures.{figure, figure_at, figure_by, figure_on}
use Rattle.state_messages.specs.Messages.{choice_of, is_of, last_after, last_chosen, pool_of}
use Rattle.state_messages.proofs.Numbered.{number_is}
use Rattle.state_messages.proofs.Seen.{are_numbered, by_test}

-- the consumer with the least figure has a figure
inside : (x y : ℕ) → Some x ≡ Some y → x ≡ y
inside x y e = ap number e
  where
    number : Option ℕ → ℕ
    number None = 0
    number (Some k) = k

sooner_has : (v w : Option ℕ) → is_sooner v w ≡ true → is_some v ≡ true
sooner_has None w e = absurd cc
sooner_has (Some k) w e = refl

least_by : (f : ℕ → Option ℕ) (b : Bool) (x id : ℕ) (rest : Option ℕ) → (b ≡ true → is_some (f x) ≡ true) → (rest ≡ Some id → is_some (f id) ≡ true)
    → (if b then Some x else rest) ≡ Some id → is_some (f id) ≡ true
least_by f true x id rest one other e = ap (λ k. is_some (f k)) (sym (inside x id e)) ∙ one refl
least_by f false x id rest one other e = other e

pub least_has : {X : Type 0} (f : ℕ → Option ℕ) (links : List (ℕ × X)) (id : ℕ) → least f links ≡ Some id → is_some (f id) ≡ true
least_has f [] id e = absurd cc
least_has f (l ∷ ls) id e =
    least_by f (is_sooner (f l.0) (option_and_then f (least f ls))) l.0 id (least f ls) (sooner_has (f l.0) (option_and_then f (least f ls))) (least_has f ls id) e

-- so the chosen consumer has a link in the pool
in_pool : (pool : Sharing) (id : ℕ) → choice pool ≡ Some id → is_some (link_at pool.consumers id) ≡ true
in_pool pool id e = by_link (link_at pool.consumers id) (least_has (turn pool) pool.consumers id e)
  where
    by_link : (v : Option Offer) → is_some (option_and_then (turn_of pool.distribution pool.last id) v) ≡ true → is_some v ≡ true
    by_link None e = absurd cc
    by_link (Some offer) e = refl

-- it is attached, at this address
pub record IsConsumer (t : Trace) (address : List ℕ) (id : ℕ) : Type 0 where
  pub at : Attachment
  pub link : view.Link
  pub numbered : numbered t id ≡ Some at
  pub there : link_of t at ≡ Some link
  pub number : (link.number == id) ≡ true
  pub same : link.address ≡ address

by_happened : (t : Trace) (address : List ℕ) (id : ℕ) (l : view.Link) (h : Happened) → is_some (offer_at address (Some (figure_by t l h))) ≡ true → l.address ≡ address
by_happened t address id l (sends list) e = by_test (bytes_eq l.address address) (λ is. same_bytes l.address address is) (λ is. absurd (true≢false (sym (rw is at e))))
by_happened t address id l (receives list) e = absurd cc

by_view : (t : Trace) (address : List ℕ) (id : ℕ) (a : Attachment) (v : Option view.Link) → numbered t id ≡ Some a → link_of t a ≡ v → is_some (offer_at address (figure_on t id v)) ≡ true
    → IsConsumer t address id
by_view t address id a None at there e = absurd cc
by_view t address id a (Some l) at there e = by_test (l.number == id)
    (λ is. record { at = a; link = l; numbered = at; there = there; number = is; same = by_happened t address id l l.happened (rw is at e) })
    (λ is. absurd (true≢false (sym (rw is at e))))

pub by_number : (t : Trace) (address : List ℕ) (id : ℕ) (v : Option Attachment) → numbered t id ≡ v → is_some (offer_at address (figure_at t id v)) ≡ true → IsConsumer t address id
by_number t address id None at e = absurd cc
by_number t address id (Some a) at e = by_view t address id a (link_of t a) at refl e

pub chosen_stands : (t : Trace) (address : List ℕ) (id : ℕ) → choice (pool_of t address) ≡ Some id → IsConsumer t address id
chosen_stands t address id e =
    by_number t address id (numbered t id) refl
    (ap is_some (sym (listed_at (λ n. offer_at address (figure t n)) (attachments t) (ap (offer_at address) (are_numbered t).first) (λ m l. ap (offer_at address) ((are_numbered t).most m l)) id))
    ∙ in_pool (pool_of t address) id e)

-- it is at its place
pub chosen_place : (t : Trace) (address : List ℕ) (id : ℕ) → IsConsumer t address id → place_of t id ≡ numbered t id
chosen_place t address id c =
    ap (if_attached t) c.numbered
    ∙ ap (λ b. if b then Some c.at else None) (ap (λ v. has_number c.at.number v) c.there ∙ ap (λ k. c.link.number == k) (number_is t id c.at c.numbered) ∙ c.number)
    ∙ sym c.numbered

-- what the pools note agrees with the trace
pub chosen_last : (t : Trace) (address : List ℕ) (id : ℕ) (v : Option Attachment) → IsConsumer t address id → v ≡ numbered t id
    → (a : List ℕ) → last_after t v a ≡ chosen_at address (Some id) (last_chosen t) a
chosen_last t address id v c is a =
    let one : c.at.number ≡ id = number_is t id c.at c.numbered in
    ap (λ w. last_after t w a) (is ∙ c.numbered)
    ∙ ap (λ w. if is_of a w c.at.number then c.at.number else last_chosen t a) c.there
    ∙ ap (λ k. if (c.link.number == k) && bytes_eq c.link.address a then k else last_chosen t a) one
    ∙ ap (λ b. if b && bytes_eq c.link.address a then id else last_chosen t a) c.number
    ∙ ap (λ b. if bytes_eq b a then id else last_chosen t a) c.same

-- so does one that was chosen before
pub known_last : (t : Trace) (address : List ℕ) (consumer : Attachment) → option_and_then (numbered t) (choice_of t address) ≡ Some consumer
    → (a : List ℕ) → last_after t (Some consumer) a ≡ chosen_at address (Some consumer.number) (last_chosen t) a
unfolding choice_of
known_last t address consumer is a = by (choice (pool_of t address)) refl is
  where
    by : (v : Option ℕ) → choice (pool_of t address) ≡ v → option_and_then (numbered t) v ≡ Some consumer
        → last_after t (Some consumer) a ≡ chosen_at address (Some consumer.number) (last_chosen t) a
    by None e is = absurd cc
    by (Some id) e is =
        chosen_last t address id (Some consumer) (chosen_stands t address id e) (sym is) a
        ∙ ap (λ (k : ℕ). chosen_at address (Some k) (last_chosen t) a) (sym (number_is t id consumer is))

-- if no consumer is chosen, nothing is noted
pub none_last : (t : Trace) (address : List ℕ) (a : List ℕ) → last_after t None a ≡ chosen_at address None (last_chosen t) a
none_last t address a = by_test (bytes_eq address a) (λ e. ap (λ b. if b then last_chosen t a else last_chosen t a) (sym e)) (λ e. ap (λ b. if b then last_chosen t a else last_chosen t a) (sym e))

-- the choice as the table of pools makes it
pub chooses_none : (t : Trace) (address : List ℕ) → None ≡ choice (pool_of t address) → None ≡ option_and_then (numbered t) (choice_of t address)
unfolding choice_of
chooses_none t address e = ap (option_and_then (numbered t)) e

pub record Chooses (t : Trace) (address : List ℕ) (id : ℕ) (v : Option Attachment) : Type 0 where
  pub chosen : v ≡ option_and_then (numbered t) (choice_of t address)
  pub noted : (a : List ℕ) → last_after t v a ≡ chosen_at address (Some id) (last_chosen t) a

pub chooses_some : (t : Trace) (address : List ℕ) (id : ℕ) (v : Option Attachment) → Some id ≡ choice (pool_of t address) → v ≡ place_of t id → Chooses t address id v
unfolding choice_of
chooses_some t address id v e place =
    let stands : IsConsumer t address id = chosen_stands t address id (sym e) in
    let is : v ≡ numbered t id = place ∙ chosen_place t address id stands in
    record { chosen = is ∙ ap (option_and_then (numbered t)) e; noted = chosen_last t address id v stands is }
