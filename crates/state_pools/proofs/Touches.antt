-- Links that are touched one after another.
use Rattle.std.proofs.Common.{◌≡◌, ◌∙◌, sym, ap, refl, ℕ, Bool, true, false, ◌||◌, cond, ◌+◌, ◌<◌, ◌≤◌, Option, Some, is_some, List, drop, length, get_or}
use Rattle.std.specs.Prelude.{◌==◌}
use Rattle.std.specs.BTreeMap.{is_at}
use Rattle.std.specs.Ordering.{nat_cmp}
use Rattle.std.proofs.lemmas.Bool.{eqb-true, eq-eqb}
use Rattle.std.proofs.lemmas.List.{at_drop_all, at_drop_more}
use Rattle.route_credit.specs.Links.{link_at}
use Rattle.route_credit.specs.Pool.{by_id}
use Rattle.route_credit.specs.declared.ids.ProducerId.{ProducerId}
use Rattle.route_credit.proofs.Indices.{same_test}
use Rattle.state_pools.proofs.AtAddress.{by_test}

other_way : (a b : ℕ) → (a == b) ≡ false → (b == a) ≡ false
other_way a b h = by_test (b == a) wrong (λ e. e)
  where
    wrong : (b == a) ≡ true → (b == a) ≡ false
    wrong e = e ∙ sym (eq-eqb a b (sym (eqb-true b a e))) ∙ h

one_more : (old : Bool) (k n v : ℕ) (x : Option ℕ) → ((k == n || old) || is_some x) ≡ (old || is_some (cond (is_at (nat_cmp n) k) (Some v) x))
one_more old k n v x = by_test (k == n)
    (λ e. let b : is_at (nat_cmp n) k ≡ true = same_test n k ∙ eq-eqb n k (sym (eqb-true k n e)) in
    rw (e, b) (right old))
    (λ e. let b : is_at (nat_cmp n) k ≡ false = same_test n k ∙ other_way k n e in
    rw (e, b) refl)
  where
    right : (b : Bool) → true ≡ (b || true)
    right true = refl
    right false = refl

pub touched_more : (sums : List (ProducerId × ℕ)) (i : ℕ) (d : ProducerId × ℕ) (n : ℕ) (old new all : Bool) → i < length sums
    → new ≡ ((get_or sums i d).0.0 == n || old) → (old || is_some (link_at (by_id (drop i sums)) n)) ≡ all → (new || is_some (link_at (by_id (drop (i + 1) sums)) n)) ≡ all
touched_more sums i d n old new all below is before =
    ap (λ b. b || is_some (link_at (by_id (drop (i + 1) sums)) n)) is
    ∙ one_more old (get_or sums i d).0.0 n (get_or sums i d).1 (link_at (by_id (drop (i + 1) sums)) n)
    ∙ sym (at_drop_more (λ ys. old || is_some (link_at (by_id ys) n)) sums i d below)
    ∙ before

pub touched_all : (sums : List (ProducerId × ℕ)) (i n : ℕ) (now all : Bool) → length sums ≤ i → (now || is_some (link_at (by_id (drop i sums)) n)) ≡ all → now ≡ all
touched_all sums i n now all past is = left now ∙ sym (at_drop_all (λ ys. now || is_some (link_at (by_id ys) n)) sums i past) ∙ is
  where
    left : (b : Bool) → b ≡ (b || false)
    left true = refl
    left false = refl
