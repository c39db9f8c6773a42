-- The deliveries that the ids of a range name.
use Rattle.std.proofs.Common.{arith, ◌≡◌, ◌∙◌, ◌<◌, ◌^◌, ◌||◌, ◌&&◌, ℕ, Bool, true, false, refl, sym, ap, subst, List, [], ◌∷◌, Option, Some, None}
use Rattle.std.specs.Prelude.{◌==◌, if◌then◌else◌}
use Rattle.std.specs.List.{list_any}
use Rattle.std.specs.Option.{is_some}
use Rattle.std.proofs.lemmas.Bool.{eqb-true}
use Rattle.std.proofs.lemmas.Bool.Decides.{nat_tests}
use Rattle.amqp_session.specs.Ranges.{in_range, has}
use Rattle.router_trace.specs.Deliveries.{Delivery, is_number, is_named}
use Rattle.amqp_model.specs.declared.state.DeliveryState.{DeliveryState}
use Rattle.state_deliveries.specs.declared.change.Change.{Change}
use Rattle.state_deliveries.specs.declared.change.Change.TheVariants as change
use Rattle.state_deliveries.specs.Hearing.{picks, id_of, is_named_in, done_to}
use Rattle.state_deliveries.specs.Naming.{IsSmall}
use Rattle.state_deliveries.specs.Stepping.{is_in, after_change}

or_of : (a p r : Bool) → ((a || p) || r) ≡ (a || (p || r))
or_of true p r = refl
or_of false p r = refl

-- one more id
pub one_more : (pick : ℕ → Bool) (x : ℕ) (more : List ℕ) (before after one : Bool) → after ≡ (before || one) → one ≡ pick x
    → (after || list_any pick more) ≡ (before || list_any pick (x ∷ more))
one_more pick x more before after one is picked = rw (is, picked) (or_of before (pick x) (list_any pick more))

-- all of them
none_picked : (names : ℕ → Option ℕ) (n : ℕ) (ids : List ℕ) → list_any (picks names n None) ids ≡ false
none_picked names n [] = refl
none_picked names n (id ∷ ids) = none_picked names n ids

some_picked : (names : ℕ → Option ℕ) (n k : ℕ) (ids : List ℕ) → list_any (picks names n (Some k)) ids ≡ (has k ids && is_number (names k) n)
some_picked names n k [] = refl
some_picked names n k (id ∷ ids) = by_test (k == id) refl (some_picked names n k ids)
  where
    or_and : (b c : Bool) → (b || (c && b)) ≡ b
    or_and true c = refl
    or_and false true = refl
    or_and false false = refl

    by_test : (b : Bool) → (k == id) ≡ b → list_any (picks names n (Some k)) ids ≡ (has k ids && is_number (names k) n)
        → (((k == id) && is_number (names id) n) || list_any (picks names n (Some k)) ids) ≡ (((k == id) || has k ids) && is_number (names k) n)
    by_test true e rest =
        let same : k ≡ id = eqb-true k id e in
        rw (e, rest) (ap (λ j. is_number (names j) n || (has k ids && is_number (names k) n)) (sym same) ∙ or_and (is_number (names k) n) (has k ids))
    by_test false e rest = rw e rest

all_picked : (names : ℕ → Option ℕ) (n first last : ℕ) (ids : List ℕ) (v : Option Delivery) → ((id : ℕ) → IsSmall id (names id))
    → ((id : ℕ) → id < 2 ^ 32 → has id ids ≡ (in_range first last id && is_some (names id)))
    → list_any (picks names n (id_of v)) ids ≡ is_named_in first last names n v
all_picked names n first last ids None small exact = none_picked names n ids
all_picked names n first last ids (Some d) small exact = by_id d.id
  where
    by_name : (k : ℕ) (v : Option ℕ) → names k ≡ v → (has k ids && is_number (names k) n) ≡ (in_range first last k && is_number (names k) n)
    by_name k None e = rw e (nothing (has k ids) (in_range first last k))
      where
        nothing : (a b : Bool) → (a && false) ≡ (b && false)
        nothing true true = refl
        nothing true false = refl
        nothing false true = refl
        nothing false false = refl
    by_name k (Some m) e = ap (λ b. b && is_number (names k) n) (exact k (low k m e) ∙ ap (λ v. in_range first last k && is_some v) e ∙ and_true (in_range first last k))
      where
        and_true : (b : Bool) → (b && true) ≡ b
        and_true true = refl
        and_true false = refl

        low : (k m : ℕ) → names k ≡ Some m → k < 2 ^ 32
        low k m e = subst (λ v. IsSmall k v) e (small k)

    by_id : (o : Option ℕ) → list_any (picks names n o) ids ≡ (is_in o first last && is_named o names n)
    by_id None = none_picked names n ids
    by_id (Some k) = some_picked names n k ids ∙ by_name k (names k) refl

-- a range of one id
alone : (first k : ℕ) → first < 2 ^ 32 → k < 2 ^ 32 → (k == first) ≡ in_range first first k
alone first k f l = grind (arith, nat_tests)

one_picked : (names : ℕ → Option ℕ) (n first last : ℕ) (v : Option Delivery) → ((id : ℕ) → IsSmall id (names id)) → first < 2 ^ 32 → first ≡ last
    → picks names n (id_of v) first ≡ is_named_in first last names n v
one_picked names n first last None small f same = refl
one_picked names n first last (Some d) small f same = by_id d.id
  where
    moved : (k : ℕ) (b : Bool) → (k == first) ≡ b → (b && is_number (names first) n) ≡ (b && is_number (names k) n)
    moved k true e = ap (λ j. is_number (names j) n) (sym (eqb-true k first e))
    moved k false e = refl

    by_name : (k : ℕ) (v : Option ℕ) → names k ≡ v → ((k == first) && is_number (names k) n) ≡ (in_range first last k && is_number (names k) n)
    by_name k None e = rw e (nothing (k == first) (in_range first last k))
      where
        nothing : (a b : Bool) → (a && false) ≡ (b && false)
        nothing true true = refl
        nothing true false = refl
        nothing false true = refl
        nothing false false = refl
    by_name k (Some m) e = ap (λ b. b && is_number (names k) n) (alone first k f (subst (λ v. IsSmall k v) e (small k)) ∙ ap (λ l. in_range first l k) same)

    by_id : (o : Option ℕ) → picks names n o first ≡ (is_in o first last && is_named o names n)
    by_id None = refl
    by_id (Some k) = moved k (k == first) refl ∙ by_name k (names k) refl

pub decided_one : (x : Change) (conn own first last : ℕ) (made : DeliveryState) (names : ℕ → ℕ → ℕ → Option ℕ) (n : ℕ) (here : Bool) (old new : Option Delivery)
    → x ≡ change.Decided conn own first last made → first < 2 ^ 32 → first ≡ last → ((id : ℕ) → IsSmall id (names conn own id))
    → here ≡ picks (names conn own) n (id_of old) first → new ≡ (if here then after_change x old else old) → new ≡ done_to x names n old
decided_one x conn own first last made names n here old new is few same small pick e =
    e ∙ ap (λ b. if b then after_change x old else old) (pick ∙ one_picked (names conn own) n first last old small few same) ∙ rw is refl

pub decided_range : (x : Change) (conn own first last : ℕ) (made : DeliveryState) (names : ℕ → ℕ → ℕ → Option ℕ) (n : ℕ) (ids : List ℕ) (old new : Option Delivery)
    → x ≡ change.Decided conn own first last made → ((id : ℕ) → IsSmall id (names conn own id))
    → ((id : ℕ) → id < 2 ^ 32 → has id ids ≡ (in_range first last id && is_some (names conn own id)))
    → new ≡ (if list_any (picks (names conn own) n (id_of old)) ids then after_change x old else old) → new ≡ done_to x names n old
decided_range x conn own first last made names n ids old new is small exact e =
    e ∙ ap (λ b. if b then after_change x old else old) (all_picked (names conn own) n first last ids old small exact) ∙ rw is refl

or_false : (a : Bool) → (a || false) ≡ a
or_false true = refl
or_false false = refl

-- when no id is left
pub at_end : (pick : ℕ → Bool) (more : List ℕ) (picked all : Bool) → more ≡ [] → (picked || list_any pick more) ≡ all → picked ≡ all
at_end pick more picked all none is = sym (ap (λ l. picked || list_any pick l) none ∙ or_false picked) ∙ is
