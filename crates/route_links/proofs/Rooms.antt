-- How much payload a frame has room for.
use Rattle.std.proofs.Common.{◌≡◌, ◌≤◌, ◌↔◌, ◌∙◌, ℕ, ◌+◌, ◌-◌, Bool, true, false, List, [], length, length-append, take, drop, Option, Some, None, refl, sym, ap, subst, arith}
use Rattle.std.specs.Prelude.{min, nat_le, if◌then◌else◌}
use Rattle.std.proofs.Math.ListN.{replicate}
use Rattle.std.proofs.lemmas.List.{length-replicate, take_min, drop_min}
use Rattle.amqp_model.specs.declared.perf.Transfer.{Transfer}
use Rattle.amqp_model.specs.declared.perf.Perf.TheVariants as perf
use Rattle.amqp_model.specs.PerfSpelling.{spelling}
use Rattle.amqp_model.specs.ItemSpelling.{item_spelling}
use Rattle.amqp_model.specs.Room.{transfer_frame, FitsInto}
use Rattle.route_links.specs.Cutting.{size}

-- the payload adds its bytes
pub size_is : (x : Transfer) (payload : List ℕ) → size x payload ≡ size x [] + length payload
unfolding item_spelling
size_is x payload = omega (arith, length-append (spelling (perf.Transfer x)) payload, length-append (spelling (perf.Transfer x)) [])

-- what the room of a transfer states
abbrev pub IsRoom : Transfer → ℕ → Option ℕ → Type 0
IsRoom x most room = (channel : ℕ) (payload : List ℕ) → (length (item_spelling (transfer_frame channel x payload)) ≤ most) ↔ FitsInto room (length payload)

exactly : (s r m : ℕ) → s + r ≤ m → (s + (r + 1) ≤ m → ⊥) → r ≡ m - s
exactly s r m fits over = grind arith

-- a payload of so many bytes
abbrev zeros : ℕ → List ℕ
zeros n = replicate n 0

filled : (x : Transfer) (n : ℕ) → size x (zeros n) ≡ size x [] + n
filled x n = size_is x (zeros n) ∙ ap (λ k. size x [] + k) (length-replicate {A = ℕ} n 0)

some_room : (x : Transfer) (most r : ℕ) → IsRoom x most (Some r) → r ≡ most - size x []
some_room x most r h =
    exactly (size x []) r most
    (subst (λ k. k ≤ most) (filled x r) ((h 0 (zeros r)).1 (omega (arith, length-replicate {A = ℕ} r 0))))
    (λ le.
    let within : length (zeros (r + 1)) ≤ r = (h 0 (zeros (r + 1))).0 (subst (λ k. k ≤ most) (sym (filled x (r + 1))) le) in
    absurd (omega (arith, within, length-replicate {A = ℕ} (r + 1) 0)))

pub room_is : (x : Transfer) (most : ℕ) (room : Option ℕ) → IsRoom x most room → room ≡ (if nat_le (size x []) most then Some (most - size x []) else None)
room_is x most None h = by (nat_le (size x []) most) refl
  where
    by : (test : Bool) → nat_le (size x []) most ≡ test → None ≡ (if test then Some (most - size x []) else None)
    by false e = refl
    by true e = let le : size x [] ≤ most = grind (arith, e) in absurd ((h 0 []).0 le)
room_is x most (Some r) h = by (nat_le (size x []) most) refl
  where
    by : (test : Bool) → nat_le (size x []) most ≡ test → Some r ≡ (if test then Some (most - size x []) else None)
    by true e = ap Some (some_room x most r h)
    by false e = let le : size x [] ≤ most = (h 0 []).1 (omega arith) in absurd (grind (arith, e, le))

-- more than all is all
pub taken : (n : ℕ) (xs : List ℕ) → take (min n (length xs)) xs ≡ take n xs
taken n xs = take_min n xs

pub dropped : (n : ℕ) (xs : List ℕ) → drop (min n (length xs)) xs ≡ drop n xs
dropped n xs = drop_min n xs
