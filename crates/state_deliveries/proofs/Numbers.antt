-- Which numbers deliveries have, and how many of them pass a test.
use Rattle.std.proofs.Common.{◌≡◌, ◌∙◌, ◌<◌, ◌+◌, ℕ, Bool, true, false, refl, sym, ap, arith, [], ◌∷◌, Option, Some, None}
use Rattle.std.specs.Prelude.{◌==◌, nat_lt, if◌then◌else◌}
use Rattle.std.specs.Option.{is_none, option_and_then}
use Rattle.std.proofs.lemmas.Bool.{ltb-true}
use Rattle.std.proofs.lemmas.Bool.Decides.{nat_tests}
use Rattle.router_trace.specs.Trace.{Trace, Did, Out, Took, Bound, Booked, Routed, Began}
use Rattle.router_trace.specs.declared.binding.Holding.{Holding}
use Rattle.router_trace.specs.Counting.{IsCount}
use Rattle.router_trace.specs.Deliveries.{Delivery, delivery, bindings, bound as fresh_delivery, holds_standing, joined, with_binding, name_in, number_named, unless_called, sending, named, unless_over, after_event, after_put, channels_found, acts_found, rank_in}
use Rattle.router_trace.proofs.Numbers.{count_is}
use Rattle.state_deliveries.specs.Finding.{count_deliveries}

-- Only binding numbers have deliveries: from 1 to the number of bindings.
abbrev none_is : (f : Delivery → Option Delivery) (v : Option Delivery) → v ≡ None → option_and_then f v ≡ None
none_is f v e = ap (option_and_then f) e

fresh : (new : Bool) (v w : Option Delivery) → new ≡ false → w ≡ None → (if new then v else w) ≡ None
fresh true v w e f = absurd cc
fresh false v w e f = f

pub none_beyond : (t : Trace) (n : ℕ) → bindings t < n → delivery t n ≡ None
none_beyond [] n l = refl
none_beyond (Did s ∷ t) n l = none_is (λ d. unless_over (after_event s.event (channels_found t) (named t) (acts_found t) n d)) (delivery t n) (none_beyond t n l)
none_beyond (Out c i ∷ t) n l = none_is (λ d. unless_over (after_put (number_named t) i c n (sending t c) d)) (delivery t n) (none_beyond t n l)
none_beyond (Took c k ∷ t) n l = none_beyond t n l
none_beyond (Began g ∷ t) n l = refl
none_beyond (Booked acts full ∷ t) n l = none_beyond t n l
none_beyond (Routed passage ∷ t) n l = none_beyond t n l
none_beyond (Bound b ∷ t) n l = by_kind (holds_standing b.kind) l (none_beyond t n (below (is_none (holds_standing b.kind)) (bindings t) n l))
  where
    apart : (k n : ℕ) → k + 1 < n → (k + 1 == n) ≡ false
    apart k n l = grind (arith, nat_tests)

    below : (new : Bool) (k n : ℕ) → (if new then k + 1 else k) < n → k < n
    below true k n l = omega (arith, l)
    below false k n l = l

    by_kind : (j : Option Holding) → (if is_none j then bindings t + 1 else bindings t) < n → delivery t n ≡ None
        → with_binding j (name_in t b) (rank_in t b) b (bindings t + 1 == n) (delivery t n) ≡ None
    by_kind None l none =
        fresh (bindings t + 1 == n) (Some (fresh_delivery (name_in t b) (rank_in t b) b)) (unless_called (name_in t b) (delivery t n)) (apart (bindings t) n l) (ap (unless_called (name_in t b)) none)
    by_kind (Some q) l none = ap (joined (name_in t b) q) none

pub none_before : (t : Trace) → delivery t 0 ≡ None
none_before [] = refl
none_before (Did s ∷ t) = none_is (λ d. unless_over (after_event s.event (channels_found t) (named t) (acts_found t) 0 d)) (delivery t 0) (none_before t)
none_before (Out c i ∷ t) = none_is (λ d. unless_over (after_put (number_named t) i c 0 (sending t c) d)) (delivery t 0) (none_before t)
none_before (Took c k ∷ t) = none_before t
none_before (Began g ∷ t) = refl
none_before (Booked acts full ∷ t) = none_before t
none_before (Routed passage ∷ t) = none_before t
none_before (Bound b ∷ t) = by_kind (holds_standing b.kind) (none_before t)
  where
    apart : (k : ℕ) → (k + 1 == 0) ≡ false
    apart k = grind (arith, nat_tests)

    by_kind : (j : Option Holding) → delivery t 0 ≡ None → with_binding j (name_in t b) (rank_in t b) b (bindings t + 1 == 0) (delivery t 0) ≡ None
    by_kind None none =
        fresh (bindings t + 1 == 0) (Some (fresh_delivery (name_in t b) (rank_in t b) b)) (unless_called (name_in t b) (delivery t 0)) (apart (bindings t)) (ap (unless_called (name_in t b)) none)
    by_kind (Some q) none = ap (joined (name_in t b) q) none

-- so a number that passes is among them
pub stands_below : (t : Trace) (passes : Option Delivery → Bool) → passes None ≡ false → (n : ℕ) → passes (delivery t n) ≡ true → n < bindings t + 1
stands_below t passes none n e = by_test (nat_lt (bindings t) n) refl
  where
    not_less : (k n : ℕ) → nat_lt k n ≡ false → n < k + 1
    not_less k n f = grind arith

    by_test : (b : Bool) → nat_lt (bindings t) n ≡ b → n < bindings t + 1
    by_test true f =
        let wrong : true ≡ false = sym e ∙ ap passes (none_beyond t n (ltb-true (bindings t) n f)) ∙ none in
        absurd cc
    by_test false f = not_less (bindings t) n f

pub count_deliveries_is : (t : Trace) (passes : Option Delivery → Bool) → passes None ≡ false → (k : ℕ) → IsCount (λ n. passes (delivery t n)) k → k ≡ count_deliveries t passes
count_deliveries_is t passes none k x = count_is (bindings t + 1) (λ n. passes (delivery t n)) (stands_below t passes none) k x
