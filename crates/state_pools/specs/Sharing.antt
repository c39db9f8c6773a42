-- The pool of an address, computed from what each link has.
use Rattle.std.specs.Prelude.{◌≡◌, ◌<◌, ℕ, zero, suc, List, [], ◌∷◌, ◌++◌, Option, None, Some, if◌then◌else◌}
use Rattle.std.specs.Str.{bytes_eq}
use Rattle.route_credit.specs.Pool.{Sharing}
use Rattle.route_credit.specs.declared.demand.Demand.{Demand}
use Rattle.route_credit.specs.declared.offer.Offer.{Offer}
use Rattle.route_table.specs.declared.sections.Distribution.{Distribution}

-- What a link has: a consumer its address, its free credit and its undecided deliveries; a producer its address, its unused credit, how much is due to it
-- for deliveries that it may resume, and its held deliveries.
pub data Figure : Type 0 where
  consumer : (address : List ℕ) (free undecided : ℕ) → Figure
  producer : (address : List ℕ) (unused due held : ℕ) → Figure

-- the address that a link is at
abbrev pub address_in : Option Figure → Option (List ℕ)
address_in None = None
address_in (Some (consumer at free undecided)) = Some at
address_in (Some (producer at unused due held)) = Some at

-- what a link offers to an address
abbrev pub offer_at : List ℕ → Option Figure → Option Offer
offer_at address None = None
offer_at address (Some (consumer at free undecided)) = if bytes_eq at address then Some (record { free = free; undecided = undecided }) else None
offer_at address (Some (producer at unused due held)) = None

-- and what it wants from the address
abbrev pub demand_at : List ℕ → Option Figure → Option Demand
demand_at address None = None
demand_at address (Some (consumer at free undecided)) = None
demand_at address (Some (producer at unused due held)) = if bytes_eq at address then Some (record { unused = unused; due = due; held = held }) else None

-- a number with what it has
abbrev pub entry : {X : Type 0} → ℕ → Option X → List (ℕ × X)
entry n None = []
entry n (Some x) = (n, x) ∷ []

-- the numbers from 1 to n that have something, in order
abbrev pub listed : {X : Type 0} → (ℕ → Option X) → ℕ → List (ℕ × X)
listed known zero = []
listed known (suc n) = listed known n ++ entry (suc n) (known (suc n))

-- the pool of an address with this distribution, when `count` links were ever attached and this one was chosen last
abbrev pub sharing : Distribution → (ℕ → Option Figure) → ℕ → ℕ → List ℕ → Sharing
sharing distribution known count last address = record {
  distribution = distribution;
  consumers = listed (λ n. offer_at address (known n)) count;
  producers = listed (λ n. demand_at address (known n)) count;
  last = last;
}

-- only numbers from 1 to n have anything
pub record AreNumbered (known : ℕ → Option Figure) (n : ℕ) : Type 0 where
  pub first : known 0 ≡ None
  pub most : (m : ℕ) → n < m → known m ≡ None
