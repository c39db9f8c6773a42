-- The choice, by the ranks of consumers.
use Rattle.std.proofs.Common.{◌≡◌, ap, ◌∙◌, sym, refl, subst, ℕ, Bool, true, false, ◌⊎◌, inl, inr, ⊎_elim, ◌<◌, ◌≤◌, Option, Some, None, List, arith}
use Rattle.std.specs.Prelude.{nat_lt, if◌then◌else◌, option_and_then, option_map}
use Rattle.route_credit.specs.Links.{link_at, IsLeast}
use Rattle.route_credit.specs.Pool.{Sharing, turn_of, need, is_short, IsNext, IsNextIf}
use Rattle.route_credit.specs.Ranks.{behind, offer_rank, rank_at}
use Rattle.route_credit.specs.declared.offer.Offer.{Offer}
use Rattle.route_table.specs.declared.sections.Distribution.{Distribution}
use Rattle.route_table.specs.declared.sections.Distribution.TheVariants.{Balanced, Closest, Multicast}
use Rattle.route_credit.proofs.Moved.{by_test}

-- figures that are the same everywhere
pub least_agree : (f g : ℕ → Option ℕ) (r : Option ℕ) → ((id : ℕ) → f id ≡ g id) → IsLeast f r → IsLeast g r
least_agree f g None same none = λ id. sym (same id) ∙ none id
least_agree f g (Some id) same least = (least.0, sym (same id) ∙ least.1, λ other m is. least.2 other m (same other ∙ is))

pub choice_first : (distribution : Distribution) (last : ℕ) (links : List (ℕ × Offer)) (r : Option ℕ) → distribution ≡ Balanced
    → IsLeast (rank_at (offer_rank distribution) links) r → IsLeast (λ id. option_and_then (turn_of distribution last id) (link_at links id)) r
choice_first Balanced last links r is least = least_agree _ _ r (λ id. refl) least
choice_first Closest last links r is least = absurd cc
choice_first Multicast last links r is least = absurd cc

-- a multicast address chooses nobody
pub choice_never : (distribution : Distribution) (last : ℕ) (links : List (ℕ × Offer)) → distribution ≡ Multicast → (id : ℕ) → option_and_then (turn_of distribution last id) (link_at links id) ≡ None
choice_never distribution last links is id = by_link (link_at links id)
  where
    by_link : (x : Option Offer) → option_and_then (turn_of distribution last id) x ≡ None
    by_link None = refl
    by_link (Some offer) = ap (λ d. turn_of d last id offer) is

-- first those after a number, then the others
abbrev round : ℕ → (ℕ → Option ℕ) → ℕ → Option ℕ
round last f other = option_map {U = ℕ} (λ n. if nat_lt last other then 0 else 1) (f other)

map_some : (x : Option ℕ) (n m : ℕ) → option_map {U = ℕ} (λ k. n) x ≡ Some m → (k : ℕ) × (x ≡ Some k) × (n ≡ m)
map_some None n m h = absurd cc
map_some (Some k) n m h = (k, refl, cc)

none_some : {P : Type 0} (m : ℕ) → None ≡ Some m → P
none_some m h = absurd cc

abbrev Flat : (ℕ → Option ℕ) → Type 0
Flat f = (other m : ℕ) → f other ≡ Some m → m ≡ 0

-- the first of those after the number is the first of all
round_after : (last : ℕ) (f : ℕ → Option ℕ) (id : ℕ) → Flat f → IsLeast (behind last f) (Some id) → IsLeast (round last f) (Some id)
round_after last f id flat least =
    by_test (nat_lt last id)
    (λ e. let here : f id ≡ Some least.0 = rw e at least.1 in
    (0, rw (e, here) refl, λ other m h. against other m (map_some (f other) _ m h)))
    (λ e. none_some least.0 (rw e at least.1))
  where
    against : (other m : ℕ) → (k : ℕ) × (f other ≡ Some k) × ((if nat_lt last other then 0 else 1) ≡ m) → (0 < m) ⊎ ((0 ≡ m) × (id ≤ other))
    against other m found =
        by_test (nat_lt last other)
        (λ e. let zero_is : 0 ≡ m = rw e at found.2 in
        ⊎_elim
        (λ below. let k : found.0 ≡ 0 = flat other found.0 found.1 in absurd (omega (arith, below, k)))
        (λ alike. inr (zero_is, alike.1))
        (least.2 other found.0 (rw e found.1)))
        (λ e. let one_is : 1 ≡ m = rw e at found.2 in inl (omega (arith, one_is)))

-- where nobody is after the number, the first of all is
round_first : (last : ℕ) (f : ℕ → Option ℕ) (r : Option ℕ) → Flat f → IsLeast (behind last f) None → IsLeast f r → IsLeast (round last f) r
round_first last f None flat none least = λ id. rw (least id) refl
round_first last f (Some id) flat none least =
    (1, rw (not_after id least.0 least.1, least.1) refl, λ other m h. against other m (map_some (f other) _ m h))
  where
    not_after : (other n : ℕ) → f other ≡ Some n → nat_lt last other ≡ false
    not_after other n is = by_test (nat_lt last other) (λ e. none_some n (sym (rw e at (none other)) ∙ is)) (λ e. e)

    against : (other m : ℕ) → (k : ℕ) × (f other ≡ Some k) × ((if nat_lt last other then 0 else 1) ≡ m) → (1 < m) ⊎ ((1 ≡ m) × (id ≤ other))
    against other m found =
        let one_is : 1 ≡ m = rw (not_after other found.0 found.1) at found.2 in
        ⊎_elim
        (λ below. let k : found.0 ≡ 0 = flat other found.0 found.1 in absurd (omega (arith, below, k)))
        (λ alike. inr (one_is, alike.1))
        (least.2 other found.0 found.1)

in_turn : (b : Bool) (x : Option Offer) → option_map {U = ℕ} (λ (n : ℕ). if b then 0 else 1) (option_and_then (offer_rank Closest) x) ≡ option_and_then (λ offer. if nat_lt 0 offer.free then Some (if b then 0 else 1) else None) x
in_turn b None = refl
in_turn b (Some offer) = by_test (nat_lt 0 offer.free) (λ e. rw e refl) (λ e. rw e refl)

free_rank : (x : Option Offer) (m : ℕ) → option_and_then (λ offer. if nat_lt 0 offer.free then Some 0 else None) x ≡ Some m → m ≡ 0
free_rank None m h = none_some m h
free_rank (Some offer) m h = by_test (nat_lt 0 offer.free) (λ e. zero_of m (rw e at h)) (λ e. none_some m (rw e at h))
  where
    zero_of : (m : ℕ) → Some 0 ≡ Some m → m ≡ 0
    zero_of m h = cc

flat_by : (distribution : Distribution) (x : Option Offer) (m : ℕ) → (distribution ≡ Balanced → ⊥) → option_and_then (offer_rank distribution) x ≡ Some m → m ≡ 0
flat_by Balanced x m apart h = absurd (apart refl)
flat_by Closest x m apart h = free_rank x m h
flat_by Multicast x m apart h = free_rank x m h

closest_apart : (distribution : Distribution) → distribution ≡ Closest → distribution ≡ Balanced → ⊥
closest_apart distribution is other = differ (sym is ∙ other)
  where
    differ : Closest ≡ Balanced → ⊥
    differ h = cc

multicast_apart : (distribution : Distribution) → distribution ≡ Multicast → distribution ≡ Balanced → ⊥
multicast_apart distribution is other = differ (sym is ∙ other)
  where
    differ : Multicast ≡ Balanced → ⊥
    differ h = cc

-- in turn, and where each gets a copy, all have the same rank
pub flat_ranks : (distribution : Distribution) (links : List (ℕ × Offer)) → distribution ≡ Closest → (other m : ℕ) → rank_at (offer_rank distribution) links other ≡ Some m → m ≡ 0
flat_ranks distribution links is other m h = flat_by distribution (link_at links other) m (closest_apart distribution is) h

pub flat_copies : (distribution : Distribution) (links : List (ℕ × Offer)) → distribution ≡ Multicast → (other m : ℕ) → rank_at (offer_rank distribution) links other ≡ Some m → m ≡ 0
flat_copies distribution links is other m h = flat_by distribution (link_at links other) m (multicast_apart distribution is) h

pub choice_after : (distribution : Distribution) (last : ℕ) (links : List (ℕ × Offer)) (id : ℕ) → distribution ≡ Closest
    → IsLeast (behind last (rank_at (offer_rank distribution) links)) (Some id) → IsLeast (λ other. option_and_then (turn_of distribution last other) (link_at links other)) (Some id)
choice_after Closest last links id is least = least_agree _ _ (Some id) (λ other. in_turn (nat_lt last other) (link_at links other)) (round_after last (rank_at (offer_rank Closest) links) id (flat_ranks Closest links refl) least)
choice_after Balanced last links id is least = absurd cc
choice_after Multicast last links id is least = absurd cc

pub choice_round : (distribution : Distribution) (last : ℕ) (links : List (ℕ × Offer)) (r : Option ℕ) → distribution ≡ Closest
    → IsLeast (behind last (rank_at (offer_rank distribution) links)) None → IsLeast (rank_at (offer_rank distribution) links) r → IsLeast (λ other. option_and_then (turn_of distribution last other) (link_at links other)) r
choice_round Closest last links r is none least = least_agree _ _ r (λ other. in_turn (nat_lt last other) (link_at links other)) (round_first last (rank_at (offer_rank Closest) links) r (flat_ranks Closest links refl) none least)
choice_round Balanced last links r is none least = absurd cc
choice_round Multicast last links r is none least = absurd cc

-- the next one to be given credit, where some is to be given
pub next_first : (pool : Sharing) (r : Option ℕ) → is_short pool ≡ true → IsLeast (need pool) r → IsNext pool r
next_first pool r short least = subst (λ b. IsNextIf b pool r) (sym short) least
