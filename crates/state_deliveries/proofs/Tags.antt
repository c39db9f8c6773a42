-- A tag by its bytes.
use Rattle.std.proofs.Common.{◌≡◌, ℕ, List, [], ◌∷◌, length, take, w64, arith}
use Rattle.std.specs.Int.{from_be_bytes}
use Rattle.router_trace.specs.Deliveries.{number_in}

eight : (a b c d e f g h : ℕ) → from_be_bytes w64 (a ∷ b ∷ c ∷ d ∷ e ∷ f ∷ g ∷ h ∷ []) ≡ number_in (a ∷ b ∷ c ∷ d ∷ e ∷ f ∷ g ∷ h ∷ []) 0
eight a b c d e f g h = grind arith

pub number_of_eight : (bytes : List ℕ) → length bytes ≡ 8 → from_be_bytes w64 (take 8 bytes) ≡ number_in bytes 0
number_of_eight (a ∷ b ∷ c ∷ d ∷ e ∷ f ∷ g ∷ h ∷ []) is = eight a b c d e f g h
number_of_eight [] is = absurd (omega (arith, is))
number_of_eight (a ∷ []) is = absurd (omega (arith, is))
number_of_eight (a ∷ b ∷ []) is = absurd (omega (arith, is))
number_of_eight (a ∷ b ∷ c ∷ []) is = absurd (omega (arith, is))
number_of_eight (a ∷ b ∷ c ∷ d ∷ []) is = absurd (omega (arith, is))
number_of_eight (a ∷ b ∷ c ∷ d ∷ e ∷ []) is = absurd (omega (arith, is))
number_of_eight (a ∷ b ∷ c ∷ d ∷ e ∷ f ∷ []) is = absurd (omega (arith, is))
number_of_eight (a ∷ b ∷ c ∷ d ∷ e ∷ f ∷ g ∷ []) is = absurd (omega (arith, is))
number_of_eight (a ∷ b ∷ c ∷ d ∷ e ∷ f ∷ g ∷ h ∷ i ∷ more) is = absurd (omega (arith, is))
