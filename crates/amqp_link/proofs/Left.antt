-- What is left up to a limit, as the count goes on.
use Rattle.std.proofs.Common.{◌≡◌, ◌<◌, ◌≤◌, ℕ, ◌+◌, ◌%◌, ◌^◌, arith}
use Rattle.amqp_session.specs.Serials.{distance}
use Rattle.amqp_link.specs.Credit.{left}

-- a count that goes on by no more than is left uses that much up
pub goes_on : (end at n : ℕ) → end < 2 ^ 32 → at < 2 ^ 32 → distance at n ≤ left end at → left end (n % 2 ^ 32) + distance at n ≡ left end at
goes_on end at n e a h = grind arith

pub one_less : (end at : ℕ) → end < 2 ^ 32 → at < 2 ^ 32 → 1 ≤ left end at → left end ((at + 1) % 2 ^ 32) + 1 ≡ left end at
one_less end at e a h = grind arith
