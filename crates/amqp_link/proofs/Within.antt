-- Where no start is beyond the credit, no more deliveries are started than a grant left.
use Rattle.std.proofs.Common.{◌≡◌, ◌≤◌, ℕ, refl, ◌+◌, [], ◌∷◌, arith}
use Rattle.std.specs.Prelude.{count_by}
use Rattle.amqp_session.specs.Serials.{distance}
use Rattle.amqp_link.specs.Credit.{Link, Attached, Granted, Started, Counted, is_start, is_grant, since, from, count, credit, WithinCredit}
use Rattle.amqp_link.proofs.Uses.{skipped, counted, start_uses, count_uses}

none_left : (n l m k : ℕ) → m ≡ n → n + l ≤ k → m + 0 ≤ k
none_left n l m k e h = omega arith

one_used : (n l m k p : ℕ) → m ≡ 1 + n → p + 1 ≡ l → n + l ≤ k → m + p ≤ k
one_used n l m k p e u h = omega arith

some_used : (n l m k p d : ℕ) → m ≡ n → p + d ≡ l → n + l ≤ k → m + p ≤ k
some_used n l m k p d e u h = omega arith

starts_and_left : (t : Link) → WithinCredit t → count_by is_start (since is_grant t) + credit t ≤ credit (from is_grant t)
starts_and_left [] kept = omega arith
starts_and_left (Attached n ∷ t) kept =
    none_left (count_by is_start (since is_grant t)) (credit t) _ _ (skipped (Attached n) (since is_grant t) refl) (starts_and_left t kept)
starts_and_left (Granted c k ∷ t) kept = omega arith
starts_and_left (Started ∷ t) kept =
    one_used (count_by is_start (since is_grant t)) (credit t) _ _ _ (counted (since is_grant t)) (start_uses t kept.0) (starts_and_left t kept.1)
starts_and_left (Counted n ∷ t) kept =
    some_used (count_by is_start (since is_grant t)) (credit t) _ _ _ (distance (count t) n) (skipped (Counted n) (since is_grant t) refl) (count_uses t n kept.0) (starts_and_left t kept.1)

less : (a b c : ℕ) → a + b ≤ c → a ≤ c
less a b c h = omega arith

pub no_more_starts : (t : Link) → WithinCredit t → count_by is_start (since is_grant t) ≤ credit (from is_grant t)
no_more_starts t kept = less _ _ _ (starts_and_left t kept)
