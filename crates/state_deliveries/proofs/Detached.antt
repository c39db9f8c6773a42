-- The ids of deliveries, by delivery number.
use Rattle.std.proofs.Common.{◌≡◌, ◌∙◌, ℕ, Bool, true, false, refl, sym, ap, List, [], ◌∷◌}
use Rattle.std.specs.Prelude.{◌==◌, ◌||◌}
use Rattle.std.specs.List.{list_any}
use Rattle.state_collections.specs.NumberMap.{at_number}
use Rattle.std.proofs.lemmas.Bool.{eqb-true}
use Rattle.amqp_session.specs.Ranges.{has}
use Rattle.router_trace.specs.Deliveries.{is_id}
use Rattle.state_deliveries.specs.declared.store.Store.{Store}
use Rattle.state_deliveries.specs.Hearing.{id_of}

-- an id belongs to one of these deliveries
abbrev pub any_id : Store → ℕ → List ℕ → Bool
any_id s id numbers = list_any (λ n. is_id (id_of (at_number s.deliveries n)) id) numbers

pub any_of : (s : Store) (id n : ℕ) (numbers : List ℕ) → has n numbers ≡ true → is_id (id_of (at_number s.deliveries n)) id ≡ true → any_id s id numbers ≡ true
any_of s id n [] e f = e
any_of s id n (m ∷ more) e f = by_test (n == m) refl e (λ g. any_of s id n more g f)
  where
    here : (b : Bool) → b ≡ true → (b || any_id s id more) ≡ true
    here true g = refl
    here false g = absurd cc

    further : (b c : Bool) → c ≡ true → (b || c) ≡ true
    further true c g = refl
    further false c g = g

    by_test : (b : Bool) → (n == m) ≡ b → ((n == m) || has n more) ≡ true → (has n more ≡ true → any_id s id more ≡ true)
        → (is_id (id_of (at_number s.deliveries m)) id || any_id s id more) ≡ true
    by_test true g h rest = here (is_id (id_of (at_number s.deliveries m)) id) (ap (λ k. is_id (id_of (at_number s.deliveries k)) id) (sym (eqb-true n m g)) ∙ f)
    by_test false g h rest = further (is_id (id_of (at_number s.deliveries m)) id) (any_id s id more) (rest (ap (λ b. b || has n more) (sym g) ∙ h))
