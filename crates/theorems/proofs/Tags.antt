-- The number that a tag has.
use Rattle.std.proofs.Common.{◌≡◌, ◌∙◌, sym, ap, ℕ, ◌/◌, ◌%◌, ◌^◌, ◌<◌, List, [], ◌∷◌, w64, arith}
use Rattle.std.specs.Prelude.{Some}
use Rattle.std.specs.Int.{to_be_bytes, from_be_bytes}
use Rattle.std.proofs.lemmas.Nat.{from_be_bytes-to_be_bytes_8}
use Rattle.book_model.specs.declared.row.RowNumber.{RowNumber}
use Rattle.router_trace.specs.declared.binding.DeliveryName.TheVariants.{Row, Counter}
use Rattle.router_trace.specs.Deliveries.{byte_of, eight_bytes, tag_of, tagged, number_in}

eight : (a b c d e f g h : ℕ) → from_be_bytes w64 (a ∷ b ∷ c ∷ d ∷ e ∷ f ∷ g ∷ h ∷ []) ≡ number_in (a ∷ b ∷ c ∷ d ∷ e ∷ f ∷ g ∷ h ∷ []) 0
eight a b c d e f g h = grind arith

lowest : (n : ℕ) → n ≡ n / 256 ^ 0
lowest n = omega arith

of_bytes : (n : ℕ) → to_be_bytes w64 n ≡ byte_of n 7 ∷ byte_of n 6 ∷ byte_of n 5 ∷ byte_of n 4 ∷ byte_of n 3 ∷ byte_of n 2 ∷ byte_of n 1 ∷ byte_of n 0 ∷ []
of_bytes n = ap (λ low. byte_of n 7 ∷ byte_of n 6 ∷ byte_of n 5 ∷ byte_of n 4 ∷ byte_of n 3 ∷ byte_of n 2 ∷ byte_of n 1 ∷ low % 256 ∷ []) (lowest n)

-- eight bytes of a number give it back
eight_tell : (n : ℕ) → n < 2 ^ 64 → number_in (eight_bytes n) 0 ≡ n
eight_tell n small =
    sym (eight (byte_of n 7) (byte_of n 6) (byte_of n 5) (byte_of n 4) (byte_of n 3) (byte_of n 2) (byte_of n 1) (byte_of n 0))
    ∙ ap (λ (bytes : List ℕ). from_be_bytes w64 bytes) (sym (of_bytes n)) ∙ from_be_bytes-to_be_bytes_8 n small

pub tag_tells : (n : ℕ) → n < 2 ^ 64 → tagged (tag_of (Counter n)) ≡ Some (Counter n)
tag_tells n small = ap (λ (k : ℕ). Some (Counter k)) (eight_tell n small)

pub row_tells : (r : RowNumber) → r.0 < 2 ^ 64 → tagged (tag_of (Row r)) ≡ Some (Row r)
row_tells r small = ap (λ (k : ℕ). Some (Row (record { 0 = k }))) (eight_tell r.0 small)
