use Rattle.std.proofs.Common.{◌≡◌, ◌≤◌, ◌⊎◌, ◌<◌, ◌==◌, ◌-◌, ℕ, false}
use Rattle.state_collections.specs.Among.{is_among}
use Rattle.state_collections.proofs.few.Few.remove.Given as goal

-- no place so far has the number, and the others are where they were
abbrev pub invariant-loop-place : goal.invariant-loop-place
invariant-loop-place l = record {
  within : l.place ≤ l.self.count;
  gone : is_among l.place l.self.places l.fn.number ≡ false;
  most : l.self.count ≤ l.fn.self.count;
  fewer : (is_among l.self.count l.self.places l.fn.number ≡ is_among l.fn.self.count l.fn.self.places l.fn.number) ⊎ (l.self.count < l.fn.self.count);
  others : (n : ℕ) → (l.fn.number == n) ≡ false → is_among l.self.count l.self.places n ≡ is_among l.fn.self.count l.fn.self.places n;
}

-- the places still to be looked at
abbrev pub decreases-loop-place : goal.decreases-loop-place
decreases-loop-place l = l.self.count - l.place
