-- The reserve follows the acts.
use Rattle.std.proofs.Common.{◌≡◌, ℕ, ◌+◌, ◌<◌, Bool, true, false, cond, not, List, [], ◌∷◌, ◌++◌, length, Option, Some, None, refl, ap, subst, arith, length-append}
use Rattle.std.specs.Prelude.{find, filter, filter_map, sum_by, ◌==◌}
use Rattle.std.specs.List.{cons_option}
use Rattle.std.proofs.lemmas.Bool.Decides.{nat_tests}
use Rattle.std.proofs.lemmas.List.Sums.{sum_by-cons, sum_by_push}
use Rattle.amqp_model.specs.declared.state.DeliveryState.{DeliveryState}
use Rattle.book_model.specs.declared.act.Act.{Act}
use Rattle.book_model.specs.declared.act.Act.TheVariants.{Make, Admit, Decide, Forget, Drop}
use Rattle.book_model.specs.declared.fault.BookFault.{BookFault}
use Rattle.book_model.specs.declared.row.Row.{Row}
use Rattle.book_model.specs.declared.terminus.Terminus.{Terminus}
use Rattle.book_model.specs.declared.terminus.TerminusNumber.{TerminusNumber}
use Rattle.book_model.specs.Book.{BookView, refusal, effect, first_fault, effects, unless, or_else, row_at, terminus_at, decided, forgotten, admitted, decide_refusal, forget_refusal, drop_refusal, may_bind, has_role, is_undecided}
use Rattle.book_model.specs.declared.terminus.LinkRole.TheVariants.{Consumer}
use Rattle.book_core.specs.Rising.{Rises, AllAbove}
use Rattle.book_core.proofs.Shown as shown
use Rattle.journal_codec.specs.Batches.{HasTerminus, HaveTermini, IsAboveZero}
use Rattle.gate_journal.specs.Reserve.{row_reserve, reserve, growth, release}
use Rattle.gate_journal.specs.Ordered.{IsOrdered}
use Rattle.gate_journal.proofs.Ordered.{ordered_step}

by_test : {P : Type 0} (b : Bool) → ((b ≡ true) → P) → ((b ≡ false) → P) → P
by_test true f g = f refl
by_test false f g = g refl

same_number : (a n : ℕ) → (a == n) ≡ true → a ≡ n
same_number a n e = grind (arith, nat_tests)

other_number : (a n : ℕ) → n < a → (a == n) ≡ false
other_number a n l = grind (arith, nat_tests)

module _ {V : Type 0} (number : V → ℕ) (n : ℕ) where
  none_above : (vs : List V) → AllAbove number n vs → find (λ v. number v == n) vs ≡ None
  none_above [] h = refl
  none_above (v ∷ vs) h = rw (other_number (number v) n h.0) (none_above vs h.1)

-- what an option weighs
abbrev weight : {V : Type 0} → (V → ℕ) → Option V → ℕ
weight f None = 0
weight f (Some v) = f v

sum_option : {V : Type 0} (f : V → ℕ) (o : Option V) (vs : List V) → sum_by f (cons_option o vs) ≡ weight f o + sum_by f vs
sum_option f None vs = omega arith
sum_option f (Some v) vs = sum_by-cons f v vs

module _ {V : Type 0} (number : V → ℕ) (n : ℕ) (f : V → ℕ) (change : V → Option V) where
  sum_changed : (vs : List V) (old : V) → Rises number vs → find (λ v. number v == n) vs ≡ Some old
      → sum_by f (filter_map (λ v. cond (number v == n) (change v) (Some v)) vs) + f old ≡ sum_by f vs + weight f (change old)
  sum_changed [] old up e = absurd cc
  sum_changed (v ∷ vs) old up e =
      by_test (number v == n)
      (λ t.
      let here : v ≡ old = (let found : cond (number v == n) (Some v) (find (λ v. number v == n) vs) ≡ Some old = e in let found' : Some v ≡ Some old = rw t at found in cc) in
      let P : ℕ → Type 0 = λ m. AllAbove number m vs in
      let rest = shown.changed_none number n change vs (none_above number n vs (subst P (same_number (number v) n t) up.0)) in
      rw (t, rest) (let sums : sum_by f (cons_option (change v) vs) ≡ weight f (change v) + sum_by f vs = sum_option f (change v) vs in
      let whole : sum_by f (v ∷ vs) ≡ f v + sum_by f vs = sum_by-cons f v vs in
      let same : f v ≡ f old = ap f here in
      let same_change : weight f (change v) ≡ weight f (change old) = ap (λ w. weight f (change w)) here in
      omega arith))
      (λ t.
      let found : find (λ v. number v == n) vs ≡ Some old = (let found : cond (number v == n) (Some v) (find (λ v. number v == n) vs) ≡ Some old = e in rw t at found) in
      let rest = sum_changed vs old up.1 found in
      rw t (let sums : sum_by f (v ∷ filter_map (λ v. cond (number v == n) (change v) (Some v)) vs) ≡ f v + sum_by f (filter_map (λ v. cond (number v == n) (change v) (Some v)) vs) = sum_by-cons f v (filter_map (λ v. cond (number v == n) (change v) (Some v)) vs) in
      let whole : sum_by f (v ∷ vs) ≡ f v + sum_by f vs = sum_by-cons f v vs in
      omega (arith, rest)))

length_as_sum : {V : Type 0} (vs : List V) → sum_by (λ v. 1) vs ≡ length vs
length_as_sum [] = refl
length_as_sum (v ∷ vs) = let rest = length_as_sum vs in let whole : sum_by (λ v. 1) (v ∷ vs) ≡ 1 + sum_by (λ v. 1) vs = sum_by-cons (λ v. 1) v vs in omega (arith, rest)

-- Where an act applies.
holds : (b : Bool) (f : BookFault) (next : Option BookFault) → unless b f next ≡ None → b ≡ true
holds true f next h = refl
holds false f next h = absurd cc

next_holds : (b : Bool) (f : BookFault) (next : Option BookFault) → unless b f next ≡ None → next ≡ None
next_holds true f next h = h
next_holds false f next h = absurd cc

decided_row : (o : Option Row) (outcome : DeliveryState) → decide_refusal o outcome ≡ None → (r : Row) × (o ≡ Some r) × (is_undecided r ≡ true)
decided_row None outcome h = absurd cc
decided_row (Some r) outcome h = (r, refl, holds (is_undecided r) _ _ h)

forgotten_row : (o : Option Row) → forget_refusal o ≡ None → (r : Row) × (o ≡ Some r) × (r.forgotten ≡ false)
forgotten_row None h = absurd cc
forgotten_row (Some r) h = (r, refl, unforgotten r.forgotten (holds (not r.forgotten) _ _ h))
  where
    unforgotten : (b : Bool) → not b ≡ true → b ≡ false
    unforgotten true e = absurd cc
    unforgotten false e = refl

dropped_terminus : (o : Option Terminus) (rs : List Row) → drop_refusal o rs ≡ None → (t : Terminus) × (o ≡ Some t)
dropped_terminus None rs h = absurd cc
dropped_terminus (Some t) rs h = (t, refl)

decided_weight : (outcome : DeliveryState) (r : Row) → is_undecided r ≡ true → weight row_reserve (decided outcome r) + 416 ≡ row_reserve r
decided_weight outcome r u = by_test r.forgotten (λ t. rw (t, u) (omega arith)) (λ t. rw (t, u) (omega arith))

forgotten_weight : (r : Row) → r.forgotten ≡ false → weight row_reserve (forgotten r) + 14 ≡ row_reserve r
forgotten_weight r u = by_outcome r.outcome refl
  where
    by_outcome : (o : Option DeliveryState) → r.outcome ≡ o → weight row_reserve (forgotten r) + 14 ≡ row_reserve r
    by_outcome None e = rw (e, u) (omega arith)
    by_outcome (Some outcome) e = rw (e, u) (omega arith)

reserve_step : (b : BookView) (act : Act) → IsOrdered b → refusal b act ≡ None → reserve (effect b act) + release act ≡ reserve b + growth act
unfolding reserve
reserve_step b (Make t) h r = omega (arith, length-append b.termini (t ∷ []))
reserve_step b (Admit a) h r =
    let pushed : sum_by row_reserve (b.rows ++ admitted a ∷ []) ≡ sum_by row_reserve b.rows + row_reserve (admitted a) = sum_by_push row_reserve b.rows (admitted a) in
    omega arith
reserve_step b (Decide d) h r =
    let row = decided_row (row_at d.row.0 b.rows) d.outcome r in
    let sums = sum_changed (λ (r : Row). r.number.0) d.row.0 row_reserve (decided d.outcome) b.rows row.0 h.rows_rise row.1 in
    let weighs = decided_weight d.outcome row.0 row.2 in
    omega (arith, sums, weighs)
reserve_step b (Forget n) h r =
    let row = forgotten_row (row_at n.0 b.rows) r in
    let sums = sum_changed (λ (r : Row). r.number.0) n.0 row_reserve forgotten b.rows row.0 h.rows_rise row.1 in
    let weighs = forgotten_weight row.0 row.2 in
    omega (arith, sums, weighs)
reserve_step b (Drop n) h r =
    let terminus = dropped_terminus (terminus_at n.0 b.termini) b.rows r in
    let sums = sum_changed (λ (t : Terminus). t.number.0) n.0 (λ t. 1) (λ t. None) b.termini terminus.0 h.termini_rise terminus.1 in
    let same : length (filter_map (λ (t : Terminus). cond (t.number.0 == n.0) None (Some t)) b.termini) ≡ length (filter (λ (t : Terminus). not (t.number.0 == n.0)) b.termini) = ap length (shown.filter_as_change (λ (t : Terminus). t.number.0) n.0 b.termini) in
    let now = length_as_sum (filter_map (λ (t : Terminus). cond (t.number.0 == n.0) None (Some t)) b.termini) in
    let then = length_as_sum b.termini in
    omega (arith, sums, now, then)

-- the termini that an admission binds to
found_above : (n : ℕ) (ts : List Terminus) (t : Terminus) → AllAbove (λ (t : Terminus). t.number.0) 0 ts → terminus_at n ts ≡ Some t → 0 < n
found_above n [] t h e = absurd cc
found_above n (u ∷ us) t h e =
    by_test (u.number.0 == n)
    (λ i. let above : 0 < u.number.0 = h.0 in omega (arith, above, same_number u.number.0 n i))
    (λ i. found_above n us t h.1 (let found : cond (u.number.0 == n) (Some u) (terminus_at n us) ≡ Some t = e in rw i at found))

bound_above : (c : Option TerminusNumber) (ts : List Terminus) → AllAbove (λ (t : Terminus). t.number.0) 0 ts → may_bind c ts ≡ true → IsAboveZero c
bound_above None ts h e = tt
bound_above (Some n) ts h e = by_found (terminus_at n.0 ts) refl e
  where
    by_found : (o : Option Terminus) → terminus_at n.0 ts ≡ o → has_role Consumer o ≡ true → 0 < n.0
    by_found None f i = absurd cc
    by_found (Some t) f i = found_above n.0 ts t h f

terminus_step : (b : BookView) (act : Act) → IsOrdered b → refusal b act ≡ None → HasTerminus act
terminus_step b (Make t) h r = tt
terminus_step b (Admit a) h r = bound_above a.consumer b.termini h.termini_above (holds (may_bind a.consumer b.termini) _ _ (next_holds _ _ _ r))
terminus_step b (Decide d) h r = tt
terminus_step b (Forget n) h r = tt
terminus_step b (Drop n) h r = tt

-- A list of acts that applies.
first_none : (o next : Option BookFault) → or_else o next ≡ None → (o ≡ None) × (next ≡ None)
first_none None next h = (refl, h)
first_none (Some f) next h = absurd cc

pub record Follows (b : BookView) (acts : List Act) : Type 0 where
  pub ordered : IsOrdered (effects b acts)
  pub sums : reserve (effects b acts) + sum_by release acts ≡ reserve b + sum_by growth acts
  pub termini : HaveTermini acts

pub acts_follow : (b : BookView) (acts : List Act) → IsOrdered b → first_fault b acts ≡ None → Follows b acts
unfolding first_fault effects
acts_follow b [] h r = record { ordered = h; sums = refl; termini = tt }
acts_follow b (act ∷ acts) h r =
    let both = first_none (refusal b act) (first_fault (effect b act) acts) r in
    let rest = acts_follow (effect b act) acts (ordered_step b act h both.0) both.1 in
    record {
      ordered = rest.ordered;
      sums =
          (let step = reserve_step b act h both.0 in
          let releases : sum_by release (act ∷ acts) ≡ release act + sum_by release acts = sum_by-cons release act acts in
          let growths : sum_by growth (act ∷ acts) ≡ growth act + sum_by growth acts = sum_by-cons growth act acts in
          omega (arith, step, rest.sums));
      termini = (terminus_step b act h both.0, rest.termini);
    }
