-- The digest of an address.
use Rattle.std.specs.Prelude.{ℕ, ◌*◌, ◌%◌, ◌^◌, List, fold, bit_xor}

-- the bytes taken in one after another, by FNV-1a of 64 bits
unfoldable pub digest_of : List ℕ → ℕ
digest_of bytes = fold (λ digest byte. (bit_xor digest byte * 0x100000001b3) % 2 ^ 64) 0xcbf29ce484222325 bytes
