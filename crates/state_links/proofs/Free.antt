-- The first free handle.
use Rattle.std.proofs.Common.{◌≡◌, ◌∙◌, ◌+◌, ◌-◌, ◌<◌, ℕ, zero, suc, Bool, true, false, refl, sym, ap, Some, None, arith}
use Rattle.std.specs.Prelude.{if◌then◌else◌}
use Rattle.router_trace.specs.Links.{first_free_below}

pub none_below : (free : ℕ → Bool) (h : ℕ) → first_free_below zero free h ≡ None
unfolding first_free_below
none_below free h = refl

here : (m : ℕ) (free : ℕ → Bool) (h : ℕ) → first_free_below (suc m) free h ≡ (if free h then Some h else first_free_below m free (h + 1))
unfolding first_free_below
here m free h = refl

next_is : (m : ℕ) → suc m ≡ m + 1
next_is m = omega arith

at_next : (n m : ℕ) (free : ℕ → Bool) (h : ℕ) → n ≡ m + 1 → first_free_below n free h ≡ (if free h then Some h else first_free_below m free (h + 1))
at_next n m free h is = ap (λ k. first_free_below k free h) (is ∙ sym (next_is m)) ∙ here m free h

one_less : (end h : ℕ) → h < end → end - h ≡ end - (h + 1) + 1
one_less end h below = omega (arith, below)

pub found : (end : ℕ) (free : ℕ → Bool) (h : ℕ) → h < end → free h ≡ true → first_free_below (end - h) free h ≡ Some h
found end free h below e = at_next (end - h) (end - (h + 1)) free h (one_less end h below) ∙ ap (λ b. if b then Some h else first_free_below (end - (h + 1)) free (h + 1)) e

pub further : (end : ℕ) (free : ℕ → Bool) (h : ℕ) → h < end → free h ≡ false → first_free_below (end - h) free h ≡ first_free_below (end - (h + 1)) free (h + 1)
further end free h below e = at_next (end - h) (end - (h + 1)) free h (one_less end h below) ∙ ap (λ b. if b then Some h else first_free_below (end - (h + 1)) free (h + 1)) e

-- equal tests at each handle have the same first
pub alike : (n : ℕ) (f g : ℕ → Bool) → ((h : ℕ) → f h ≡ g h) → (h : ℕ) → first_free_below n f h ≡ first_free_below n g h
alike zero f g same h = none_below f h ∙ sym (none_below g h)
alike (suc n) f g same h =
    here n f h ∙ ap (λ b. if b then Some h else first_free_below n f (h + 1)) (same h)
    ∙ ap (λ r. if g h then Some h else r) (alike n f g same (h + 1)) ∙ sym (here n g h)
