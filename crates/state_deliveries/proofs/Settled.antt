-- A delivery that was changed in its place, and removed if it is over.
use Rattle.std.proofs.Common.{◌≡◌, ◌∙◌, ℕ, Bool, true, false, refl, sym, ap, subst, Option, Some, None}
use Rattle.std.specs.Prelude.{◌==◌, if◌then◌else◌, is_some}
use Rattle.std.specs.Option.{option_map}
use Rattle.state_collections.specs.NumberMap.{at_number}
use Rattle.std.proofs.lemmas.Bool.{eqb-true}
use Rattle.router_trace.specs.declared.binding.DeliveryName.{DeliveryName}
use Rattle.router_trace.specs.Deliveries.{Delivery, is_number}
use Rattle.state_deliveries.specs.declared.index.Index.{Index}
use Rattle.state_deliveries.specs.declared.standing.Left.{Left}
use Rattle.state_deliveries.specs.declared.store.Store.{Store}
use Rattle.state_deliveries.specs.declared.touched.Touched.{Touched}
use Rattle.state_deliveries.specs.Calling.{at_name, is_called, AreCalled}
use Rattle.state_deliveries.specs.Fits.{Indexed}
use Rattle.state_deliveries.specs.Indexing.{Indexes, Keys, is_left_name, is_left_over, left_of, standing, stepped}
use Rattle.state_deliveries.specs.Touching.{is_touched_in, StandsSame, StoreTouches}
use Rattle.state_deliveries.proofs.Called.{called_at}
use Rattle.state_deliveries.proofs.Reindexed.{put_at}
use Rattle.state_deliveries.proofs.Touching.{touches_at}

-- what is left to do of a delivery that may be there
abbrev pub left_in : (Delivery → Delivery) → Option Delivery → Option Left
left_in f v = option_map (λ d. left_of (f d)) v

pub is_left : (f : Delivery → Delivery) (v : Option Delivery) → is_some (left_in f v) ≡ is_some v
is_left f None = refl
is_left f (Some d) = refl

-- what a change of one delivery leaves
pub record Stepped (old new : Store) : Type 0 where
  pub indexed : Indexed old → Indexed new
  pub touches : StoreTouches old new

-- its entries have moved, and the links on which they have changed are touched
abbrev pub IndexSteps : (Delivery → Delivery) → ℕ → Store → Index → Type 0
IndexSteps f m old index = (known : ℕ → Keys) → known m ≡ standing (at_number old.deliveries m) → Indexes old.index known
    → Indexes index (λ n. if m == n then standing (stepped f (at_number old.deliveries m)) else known n)

abbrev pub TouchSteps : (Delivery → Delivery) → ℕ → Store → Touched → Type 0
TouchSteps f m old touched = (k : ℕ) → is_touched_in touched k ≡ false
    → (is_touched_in old.touched k ≡ false) × StandsSame k (standing (at_number old.deliveries m)) (standing (stepped f (at_number old.deliveries m)))

pub steps_at : (f : Delivery → Delivery) (m : ℕ) (left : Option Left) (old new : Store) (mid : ℕ → Option Delivery)
    → left ≡ left_in f (at_number old.deliveries m)
    → ((n : ℕ) → mid n ≡ (if m == n then option_map f (at_number old.deliveries n) else at_number old.deliveries n))
    → ((n : ℕ) → at_number new.deliveries n ≡ (if is_left_over left then (if m == n then None else mid n) else mid n))
    → (n : ℕ) → at_number new.deliveries n ≡ (if m == n then stepped f (at_number old.deliveries n) else at_number old.deliveries n)
steps_at f m left old new mid is changed gone n =
    gone n ∙ ap (λ (x : Option Left). if is_left_over x then (if m == n then None else mid n) else mid n) is ∙ by_test (m == n) refl
  where
    either : (b : Bool) (v : Option Delivery) → (if b then v else v) ≡ v
    either true v = refl
    either false v = refl

    here : (v : Option Delivery) → (if is_left_over (left_in f v) then None else option_map f v) ≡ stepped f v
    here None = refl
    here (Some d) = refl

    by_test : (b : Bool) → (m == n) ≡ b → (if is_left_over (left_in f (at_number old.deliveries m)) then (if m == n then None else mid n) else mid n)
        ≡ (if b then stepped f (at_number old.deliveries n) else at_number old.deliveries n)
    by_test true e =
        ap (λ b. if is_left_over (left_in f (at_number old.deliveries m)) then (if b then None else mid n) else mid n) e
        ∙ ap (λ v. if is_left_over (left_in f (at_number old.deliveries m)) then None else v)
        (changed n ∙ ap (λ b. if b then option_map f (at_number old.deliveries n) else at_number old.deliveries n) e)
        ∙ ap (λ k. if is_left_over (left_in f (at_number old.deliveries k)) then None else option_map f (at_number old.deliveries n)) (eqb-true m n e)
        ∙ here (at_number old.deliveries n)
    by_test false e =
        ap (λ b. if is_left_over (left_in f (at_number old.deliveries m)) then (if b then None else mid n) else mid n) e
        ∙ either (is_left_over (left_in f (at_number old.deliveries m))) (mid n)
        ∙ changed n ∙ ap (λ b. if b then option_map f (at_number old.deliveries n) else at_number old.deliveries n) e

pub one_stepped : (f : Delivery → Delivery) (m : ℕ) (left : Option Left) (old new : Store) (mid : ℕ → Option Delivery) (index : Index) (touched : Touched)
    → ((d : Delivery) → (f d).name ≡ d.name) → left ≡ left_in f (at_number old.deliveries m)
    → ((n : ℕ) → mid n ≡ (if m == n then option_map f (at_number old.deliveries n) else at_number old.deliveries n))
    → ((n : ℕ) → at_number new.deliveries n ≡ (if is_left_over left then (if m == n then None else mid n) else mid n))
    → ((name : DeliveryName) → at_name new.by_name name ≡ (if is_left_name left name then None else at_name old.by_name name))
    → new.index ≡ index → new.touched ≡ touched → IndexSteps f m old index → TouchSteps f m old touched → Stepped old new
one_stepped f m left old new mid index touched named is changed gone called index_is touched_is indexes noted = record {
  indexed = λ before. record {
    indexes = subst (λ (i : Index). Indexes i (λ n. standing (at_number new.deliveries n))) (sym index_is)
        (put_at index m (stepped f) (at_number old.deliveries) (at_number new.deliveries) steps
        (indexes (λ n. standing (at_number old.deliveries n)) refl before.indexes));
    called = by_old (at_number old.deliveries m) refl before.called;
  };
  touches = touches_at old new m (stepped f) (standing (at_number old.deliveries m)) (standing (stepped f (at_number old.deliveries m))) refl refl steps
      (λ k e. noted k (ap (λ (s : Touched). is_touched_in s k) (sym touched_is) ∙ e));
}
  where
    steps : (n : ℕ) → at_number new.deliveries n ≡ (if m == n then stepped f (at_number old.deliveries n) else at_number old.deliveries n)
    steps = steps_at f m left old new mid is changed gone

    here : (v : Option Delivery) → at_number old.deliveries m ≡ v → (n : ℕ)
        → at_number new.deliveries n ≡ (if m == n then stepped f v else at_number old.deliveries n)
    here v e n = steps n ∙ by_test (m == n) refl
      where
        by_test : (b : Bool) → (m == n) ≡ b → (if b then stepped f (at_number old.deliveries n) else at_number old.deliveries n) ≡ (if b then stepped f v else at_number old.deliveries n)
        by_test true t = ap (stepped f) (ap (at_number old.deliveries) (sym (eqb-true m n t)) ∙ e)
        by_test false t = refl

    by_name : (v : Option Delivery) → at_number old.deliveries m ≡ v → (name : DeliveryName)
        → at_name new.by_name name ≡ (if is_left_name (left_in f v) name then None else at_name old.by_name name)
    by_name v e name = called name ∙ ap (λ (x : Option Left). if is_left_name x name then None else at_name old.by_name name) (is ∙ ap (left_in f) e)

    by_old : (v : Option Delivery) → at_number old.deliveries m ≡ v → AreCalled old.by_name (at_number old.deliveries) → AreCalled new.by_name (at_number new.deliveries)
    by_old None e before = λ name n. ap (λ o. is_number o n) (by_name None e name) ∙ before name n ∙ ap (is_called name) (sym (here None e n ∙ same n (m == n) refl))
      where
        same : (n : ℕ) (b : Bool) → (m == n) ≡ b → (if b then None else at_number old.deliveries n) ≡ at_number old.deliveries n
        same n true t = sym (ap (at_number old.deliveries) (sym (eqb-true m n t)) ∙ e)
        same n false t = refl
    by_old (Some d) e before = called_at old.by_name new.by_name m d (f d) (at_number old.deliveries) (at_number new.deliveries) (named d) e
        (here (Some d) e) (by_name (Some d) e) before
