-- A tag by its bytes.
use Rattle.std.proofs.Common.{◌≡◌, ℕ, ◌/◌, ◌%◌, ◌^◌, [], ◌∷◌, w64, ap, arith}
use Rattle.std.specs.Int.{to_be_bytes}
use Rattle.router_trace.specs.Deliveries.{byte_of, eight_bytes}

lowest : (n : ℕ) → n ≡ n / 256 ^ 0
lowest n = omega arith

pub bytes_of_row : (n : ℕ) → to_be_bytes w64 n ≡ eight_bytes n
bytes_of_row n =
    ap (λ low. byte_of n 7 ∷ byte_of n 6 ∷ byte_of n 5 ∷ byte_of n 4 ∷ byte_of n 3 ∷ byte_of n 2 ∷ byte_of n 1 ∷ low % 256 ∷ []) (lowest n)

pub bytes_of_counter : (n : ℕ) → 118 ∷ to_be_bytes w64 n ≡ 118 ∷ eight_bytes n
bytes_of_counter n = ap (λ bytes. 118 ∷ bytes) (bytes_of_row n)
