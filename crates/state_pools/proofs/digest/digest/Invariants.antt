use Rattle.std.proofs.Common.{◌≡◌, ◌*◌, ◌%◌, ◌^◌, take, fold}
use Rattle.std.specs.Prelude.{bit_xor}
use Rattle.state_pools.proofs.digest.digest.Given as goal

-- the digest of the bytes taken so far
abbrev pub invariant-loop-byte : goal.invariant-loop-byte
invariant-loop-byte l = l.digest ≡ fold (λ digest byte. (bit_xor digest byte * 0x100000001b3) % 2 ^ 64) 0xcbf29ce484222325 (take l.byte-index l.address)
