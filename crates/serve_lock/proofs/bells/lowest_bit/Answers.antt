use Rattle.std.proofs.Common.{◌<◌, arith, w64}
use Rattle.std.proofs.lemmas.Nat.Bits.{bit_at-trailing_zeros}
use Rattle.serve_lock.proofs.bells.lowest_bit.Goals as goal

pub returns-clause-bit : goal.returns-clause-bit
returns-clause-bit c =
    let fits = c.ranges.word.fits in
    let some : 0 < c.args.word = omega (arith, c.if-word-eq0.false) in
    let found = bit_at-trailing_zeros w64 c.args.word some (omega (arith, fits)) in
    (found.0, found.1)
