-- What is found among the deliveries that pass a test: the first of them, and how many they are.
use Rattle.std.specs.Prelude.{◌≡◌, ◌≤◌, ◌+◌, ℕ, Bool, true, false, not, ◌&&◌, ◌||◌, nat_lt, List, Option, Some, None}
use Rattle.std.specs.List.Sorted.{IsStrictlySortedBy}
use Rattle.std.specs.Ordering.{nat_cmp}
use Rattle.std.specs.Map.{keys_of, values_of, lookup}
use Rattle.std.specs.BTreeMap.{is_at}
use Rattle.router_trace.specs.Trace.{Trace}
use Rattle.router_trace.specs.declared.binding.Rank.{Rank}
use Rattle.router_trace.specs.Deliveries.{Delivery, bindings, delivery, is_earlier}
use Rattle.router_trace.specs.Numbers.{count_below}

-- the lowest number that passes, if any does
abbrev pub IsFirst : (ℕ → Bool) → Option ℕ → Type 0
IsFirst passes None = (n : ℕ) → passes n ≡ false
IsFirst passes (Some n) = (passes n ≡ true) × ((m : ℕ) → passes m ≡ true → n ≤ m)

-- A number stands behind another: its rank does, or if the ranks are the same, the number does.
abbrev pub is_behind : Rank → ℕ → Rank → ℕ → Bool
is_behind q m r n = is_earlier q r || (not (is_earlier r q) && nat_lt m n)

-- a number stands behind this one, or there is none
abbrev pub is_beyond : (ℕ → Rank) → Option ℕ → ℕ → Bool
is_beyond rank None n = true
is_beyond rank (Some m) n = is_behind (rank m) m (rank n) n

-- the first number, by ranks, that passes, if any does
abbrev pub IsFirstBy : (ℕ → Rank) → (ℕ → Bool) → Option ℕ → Type 0
IsFirstBy rank passes None = (n : ℕ) → passes n ≡ false
IsFirstBy rank passes (Some n) = (passes n ≡ true) × ((m : ℕ) → passes m ≡ true → is_behind (rank m) m (rank n) n ≡ false)

-- how many of all deliveries pass
abbrev pub count_deliveries : Trace → (Option Delivery → Bool) → ℕ
count_deliveries t passes = count_below (bindings t + 1) (λ n. passes (delivery t n))

-- a number is above this one, or there is none
abbrev pub is_above : Option ℕ → ℕ → Bool
is_above None n = true
is_above (Some m) n = nat_lt m n

-- Numbers in order of their handles: those of a list that gives each handle its number.
pub record IsListed (known : ℕ → Option ℕ) (numbers : List ℕ) : Type 0 where
  pub entries : List (ℕ × ℕ)
  pub rise : IsStrictlySortedBy nat_cmp (keys_of entries)
  pub found : (h : ℕ) → lookup (is_at (nat_cmp h)) entries ≡ known h
  pub are : values_of entries ≡ numbers
