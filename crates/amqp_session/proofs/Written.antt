-- What a map has after a value that it lent was written.
use Rattle.std.proofs.Common.{◌≡◌, ◌∙◌, ℕ, Bool, true, false, refl, sym, ap, cond, List, [], ◌∷◌, Option, Some}
use Rattle.std.specs.Prelude.{◌==◌, if◌then◌else◌}
use Rattle.std.specs.Map.{lookup, set_value}
use Rattle.std.specs.Option.{option_map}
use Rattle.std.specs.Ordering.{nat_cmp}
use Rattle.std.specs.BTreeMap.{BTreeMap, get, is_at, WritesThrough}
use Rattle.std.proofs.lemmas.Bool.{eqb-true, eq-eqb}
use Rattle.amqp_session.proofs.Ranges.{by_test, same_test}

abbrev known_of : {X : Type 0} → ℕ → List (ℕ × X) → Option X
known_of q es = lookup (is_at (nat_cmp q)) es

other_key : (id q k : ℕ) → (id == q) ≡ false → id ≡ k → is_at (nat_cmp q) k ≡ false
other_key id q k apart same = by_test (q == k) (λ e. absurd (clash (eq-eqb id q (same ∙ sym (eqb-true q k e))))) (λ e. same_test q k ∙ e)
  where
    clash : (id == q) ≡ true → ⊥
    clash h = cc

set_known : {X : Type 0} (id q : ℕ) (w : X) (es : List (ℕ × X))
    → known_of q (set_value (is_at (nat_cmp id)) es w) ≡ (if id == q then option_map (λ _. w) (known_of q es) else known_of q es)
set_known id q w [] = by_test (id == q) (λ e. rw e refl) (λ e. rw e refl)
set_known {X} id q w (e ∷ es) = by_head (is_at (nat_cmp id) e.0) refl (set_known id q w es)
  where
    by_head : (b : Bool) → is_at (nat_cmp id) e.0 ≡ b
        → known_of q (set_value (is_at (nat_cmp id)) es w) ≡ (if id == q then option_map (λ _. w) (known_of q es) else known_of q es)
        → known_of q (cond b ((e.0, w) ∷ es) (e ∷ set_value (is_at (nat_cmp id)) es w)) ≡ (if id == q then option_map (λ _. w) (known_of q (e ∷ es)) else known_of q (e ∷ es))
    by_head true is rest =
        let key : id ≡ e.0 = eqb-true id e.0 (sym (same_test id e.0) ∙ is) in
        by_test (id == q)
        (λ f. let here : is_at (nat_cmp q) e.0 ≡ true = same_test q e.0 ∙ eq-eqb q e.0 (sym (eqb-true id q f) ∙ key) in rw (f, here) refl)
        (λ f. rw (f, other_key id q e.0 f key) refl)
    by_head false is rest =
        by_test (id == q)
        (λ f. let there : is_at (nat_cmp q) e.0 ≡ false = same_test q e.0 ∙ ap (λ n. n == e.0) (sym (eqb-true id q f)) ∙ sym (same_test id e.0) ∙ is in
        rw (f, there) (rest ∙ ap (λ b. if b then option_map (λ _. w) (known_of q es) else known_of q es) f))
        (λ f. rw f (ap (λ found. cond (is_at (nat_cmp q) e.0) (Some e.1) found) (rest ∙ ap (λ b. if b then option_map (λ _. w) (known_of q es) else known_of q es) f)))

pub written : {X : Type 0} (m n : BTreeMap ℕ X) (key id : ℕ) (w : X) → key ≡ id → WritesThrough nat_cmp (nat_cmp key) m w n
    → (q : ℕ) → get nat_cmp n q ≡ (if id == q then option_map (λ _. w) (get nat_cmp m q) else get nat_cmp m q)
written m n key id w same through q =
    ap (known_of q) through.0 ∙ set_known key q w m.entries ∙ ap (λ k. if k == q then option_map (λ _. w) (get nat_cmp m q) else get nat_cmp m q) same
