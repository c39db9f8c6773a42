-- What a start and an announced count use up of the credit.
use Rattle.std.proofs.Common.{◌≡◌, ◌∙◌, ◌<◌, ◌≤◌, ℕ, false, ap, cond, ◌+◌, ◌%◌, ◌^◌, ◌∷◌, Option, Some, None, arith}
use Rattle.std.specs.Prelude.{count_by}
use Rattle.std.proofs.lemmas.List.Sums.{sum_by-cons}
use Rattle.amqp_session.specs.Serials.{distance}
use Rattle.amqp_link.specs.declared.grant.Grant.{Grant}
use Rattle.amqp_link.specs.Credit.{Happened, Link, Started, Counted, is_start, tells_count, since, count_told, count, granted, limit, left_of, credit}
use Rattle.amqp_link.proofs.Left.{one_less, goes_on}

none_plus : (n : ℕ) → 0 + n ≡ n
none_plus n = omega arith

pub skipped : (x : Happened) (xs : Link) → is_start x ≡ false → count_by is_start (x ∷ xs) ≡ count_by is_start xs
skipped x xs e = sum_by-cons (λ h. cond (is_start h) 1 0) x xs ∙ ap (λ b. cond b 1 0 + count_by is_start xs) e ∙ none_plus (count_by is_start xs)

pub counted : (xs : Link) → count_by is_start (Started ∷ xs) ≡ 1 + count_by is_start xs
counted xs = sum_by-cons (λ h. cond (is_start h) 1 0) Started xs

below : (n : ℕ) → n % 2 ^ 32 < 2 ^ 32
below n = omega arith

one_more : (a n : ℕ) → (a + (1 + n)) % 2 ^ 32 ≡ ((a + n) % 2 ^ 32 + 1) % 2 ^ 32
one_more a n = omega arith

none_more : (a : ℕ) → (a + 0) % 2 ^ 32 ≡ a % 2 ^ 32
none_more a = omega arith

pub count_started : (t : Link) → count (Started ∷ t) ≡ (count t + 1) % 2 ^ 32
count_started t = ap (λ n. (count_told t + n) % 2 ^ 32) (counted (since tells_count t)) ∙ one_more (count_told t) (count_by is_start (since tells_count t))

pub count_counted : (n : ℕ) (t : Link) → count (Counted n ∷ t) ≡ n % 2 ^ 32
count_counted n t = none_more n

less_by_one : (g : Option Grant) (at : ℕ) → at < 2 ^ 32 → 1 ≤ left_of g at → left_of g ((at + 1) % 2 ^ 32) + 1 ≡ left_of g at
less_by_one None at a h = omega arith
less_by_one (Some g) at a h = one_less (limit g) at (below (g.count + g.credit)) a h

less_by : (g : Option Grant) (at n : ℕ) → at < 2 ^ 32 → distance at n ≤ left_of g at → left_of g (n % 2 ^ 32) + distance at n ≡ left_of g at
less_by None at n a h = omega arith
less_by (Some g) at n a h = goes_on (limit g) at n (below (g.count + g.credit)) a h

pub start_uses : (t : Link) → 1 ≤ credit t → credit (Started ∷ t) + 1 ≡ credit t
start_uses t h = ap (λ at. left_of (granted t) at + 1) (count_started t) ∙ less_by_one (granted t) (count t) (below (count_told t + count_by is_start (since tells_count t))) h

pub count_uses : (t : Link) (n : ℕ) → distance (count t) n ≤ credit t → credit (Counted n ∷ t) + distance (count t) n ≡ credit t
count_uses t n h = ap (λ at. left_of (granted t) at + distance (count t) n) (count_counted n t) ∙ less_by (granted t) (count t) n (below (count_told t + count_by is_start (since tells_count t))) h
