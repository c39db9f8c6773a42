-- A Decide and a Forget: what the acts say of the rows after it.
use Rattle.std.proofs.Common.{◌≡◌, ◌∙◌, sym, ap, refl, ℕ, ◌≤◌, ◌<◌, Bool, true, false, cond, not, ◌&&◌, ◌||◌, List, [], ◌∷◌, ◌++◌, length, arith, Option, Some, None}
use Rattle.amqp_model.specs.PerfSpelling.{state_spelling}
use Rattle.std.specs.Prelude.{◌==◌, find, count_by, is_some, option_map, if◌then◌else◌}
use Rattle.std.specs.Option.{option_or}
use Rattle.std.proofs.lemmas.Bool.{and_parts, or_parts, eqb-true}
use Rattle.amqp_model.specs.declared.state.DeliveryState.{DeliveryState}
use Rattle.book_model.specs.declared.act.Act.TheVariants.{Decide, Forget}
use Rattle.book_model.specs.declared.act.Admission.{Admission}
use Rattle.book_model.specs.declared.act.Decision.{Decision}
use Rattle.book_model.specs.declared.row.Row.{Row}
use Rattle.book_model.specs.declared.row.RowNumber.{RowNumber}
use Rattle.book_model.specs.Book.{BookView, refusal, effect, with_row, row_at, decided, forgotten, same_bytes}
use Rattle.book_laws.proofs.Conditions.{may_decide, may_forget}
use Rattle.book_laws.proofs.Numbers.{once_push, found_low}
use Rattle.book_laws.proofs.Searching.{by_case, turned, nothing_counted, none_counted, count_implied, changed_rows}
use Rattle.book_laws.proofs.Says.{Kinds, put, Says, IsKept, Found, row_found, number_of_admit, number_of_decide, number_of_forget, decision_by, forgotten_by, open_by, row_with, row_by, stands_by, decision_push, forgotten_push}

-- what an act that changes one row makes of a row that is shown

abbrev shown : Admission → Option DeliveryState → Bool → Option Row
shown a outcome forgotten = cond (not (is_some outcome && forgotten)) (Some (row_with a outcome forgotten)) None

abbrev changed : (Row → Option Row) → Admission → Option DeliveryState → Bool → Option Row
changed change a outcome forgotten =
    cond (not (is_some outcome && forgotten)) (change (row_with a outcome forgotten)) None

decided_here : (a : Admission) (s : DeliveryState) (f : Bool) → changed (decided s) a None f ≡ shown a (Some s) f
decided_here a s true = refl
decided_here a s false = refl

forgotten_here : (a : Admission) (o : Option DeliveryState) → changed forgotten a o false ≡ shown a o true
forgotten_here a None = refl
forgotten_here a (Some s) = refl

-- the rows after a change of one: others are shown as before
abbrev change_one : ℕ → (Row → Option Row) → Row → Option Row
change_one n change r = if r.number.0 == n then change r else Some r

module _ (n : ℕ) (change : Row → Option Row) (a : Admission) where
  at_it : (o : Option DeliveryState) (f : Bool) → (a.row.0 == n) ≡ true
      → changed (change_one n change) a o f ≡ changed change a o f
  at_it o f e = rw e refl

  elsewhere : (o : Option DeliveryState) (f : Bool) → (a.row.0 == n) ≡ false
      → changed (change_one n change) a o f ≡ shown a o f
  elsewhere o f e = rw e refl

first_is_none : (o p : Option DeliveryState) → option_or o p ≡ None → o ≡ None
first_is_none None p e = refl
first_is_none (Some s) p e = absurd cc

pub says_decide : (k : Kinds) (b : BookView) (d : Decision) → refusal b (Decide d) ≡ None → Says k b
    → Says (put k (Decide d)) (effect b (Decide d))
says_decide k b d applies says = record {
  rows = ap (with_row d.row.0 (decided d.outcome)) says.rows
      ∙ changed_rows (change_one d.row.0 (decided d.outcome)) (row_by k.decides k.forgets)
      (row_by (k.decides ++ d ∷ []) k.forgets)
      (λ (a : Admission). open_by k.decides k.forgets a.row.0)
      (λ (a : Admission). open_by (k.decides ++ d ∷ []) k.forgets a.row.0) left k.admits;
  termini = says.termini;
  makes = says.makes;
  admits = says.admits;
  decides = once_push number_of_decide b.next_row b.next_row k.decides d says.decides new low (omega arith);
  forgets = says.forgets;
  drops = says.drops;
  makes_rise = says.makes_rise;
  admits_rise = says.admits_rise;
  tags = says.tags;
  keys = says.keys;
  between = says.between;
  kept = kept;
}
  where
    kept : (n : ℕ) (a : Admission) → find (λ a. a.row.0 == n) k.admits ≡ Some a
        → IsKept (k.decides ++ d ∷ []) k.forgets b.termini a
    kept n a is = record {
      producer = (says.kept n a is).producer;
      consumer = λ e. (says.kept n a is).consumer (first_is_none (decision_by k.decides a.row.0) _
          (sym (decision_push k.decides d a.row.0) ∙ e));
    }

    there : (r : Row) × (row_at d.row.0 b.rows ≡ Some r) × (r.outcome ≡ None)
        × (length (state_spelling d.outcome) ≤ 400)
    there = may_decide (row_at d.row.0 b.rows) d.outcome applies

    found : Found k d.row.0 there.0
    found = row_found k b d.row.0 there.0 says there.1

    undecided : decision_by k.decides d.row.0 ≡ None
    undecided = ap (decision_by k.decides) (sym found.number) ∙ sym (ap (λ (r : Row). r.outcome) found.row) ∙ there.2

    unfound : (o : Option Decision) → option_map (λ (d : Decision). d.outcome) o ≡ None → o ≡ None
    unfound None e = refl
    unfound (Some c) e = absurd cc

    new : count_by (λ (c : Decision). c.row.0 == d.row.0) k.decides ≡ 0
    new = nothing_counted (λ (c : Decision). c.row.0 == d.row.0) k.decides
        (unfound (find (λ c. c.row.0 == d.row.0) k.decides) undecided)

    low : d.row.0 < b.next_row
    low = found_low number_of_admit b.next_row d.row.0 k.admits found.admission says.admits found.is

    left : (a : Admission) → changed (change_one d.row.0 (decided d.outcome)) a (decision_by k.decides a.row.0)
        (forgotten_by k.forgets a.row.0)
        ≡ shown a (decision_by (k.decides ++ d ∷ []) a.row.0) (forgotten_by k.forgets a.row.0)
    left a = by_case (a.row.0 == d.row.0) here other
      where
        here : (a.row.0 == d.row.0) ≡ true
            → changed (change_one d.row.0 (decided d.outcome)) a (decision_by k.decides a.row.0)
            (forgotten_by k.forgets a.row.0)
            ≡ shown a (decision_by (k.decides ++ d ∷ []) a.row.0) (forgotten_by k.forgets a.row.0)
        here e =
            let none : decision_by k.decides a.row.0 ≡ None = ap (decision_by k.decides) (eqb-true a.row.0 d.row.0 e)
            ∙ undecided in
            let now : decision_by (k.decides ++ d ∷ []) a.row.0 ≡ Some d.outcome =
            decision_push k.decides d a.row.0 ∙ ap
            (λ (o : Option DeliveryState). option_or o (cond (d.row.0 == a.row.0) (Some d.outcome) None)) none
            ∙ ap (λ (p : Bool). cond p (Some d.outcome) None) (turned d.row.0 a.row.0 ∙ e) in
            at_it d.row.0 (decided d.outcome) a (decision_by k.decides a.row.0) (forgotten_by k.forgets a.row.0) e
            ∙ ap (λ (o : Option DeliveryState). changed (decided d.outcome) a o (forgotten_by k.forgets a.row.0)) none
            ∙ decided_here a d.outcome (forgotten_by k.forgets a.row.0)
            ∙ sym (ap (λ (o : Option DeliveryState). shown a o (forgotten_by k.forgets a.row.0)) now)

        or_none : (o : Option DeliveryState) → option_or o None ≡ o
        or_none None = refl
        or_none (Some s) = refl

        other : (a.row.0 == d.row.0) ≡ false
            → changed (change_one d.row.0 (decided d.outcome)) a (decision_by k.decides a.row.0)
            (forgotten_by k.forgets a.row.0)
            ≡ shown a (decision_by (k.decides ++ d ∷ []) a.row.0) (forgotten_by k.forgets a.row.0)
        other e =
            let same : decision_by (k.decides ++ d ∷ []) a.row.0 ≡ decision_by k.decides a.row.0 =
            decision_push k.decides d a.row.0
            ∙ ap (λ (p : Bool). option_or (decision_by k.decides a.row.0) (cond p (Some d.outcome) None))
            (turned d.row.0 a.row.0 ∙ e)
            ∙ or_none (decision_by k.decides a.row.0) in
            elsewhere d.row.0 (decided d.outcome) a (decision_by k.decides a.row.0) (forgotten_by k.forgets a.row.0) e
            ∙ sym (ap (λ (o : Option DeliveryState). shown a o (forgotten_by k.forgets a.row.0)) same)

-- a Forget

was_kept : (p q : Bool) → not (p || q) ≡ true → not p ≡ true
was_kept true q e = e
was_kept false q e = refl

pub says_forget : (k : Kinds) (b : BookView) (n : RowNumber) → refusal b (Forget n) ≡ None → Says k b
    → Says (put k (Forget n)) (effect b (Forget n))
says_forget k b n applies says = record {
  rows = ap (with_row n.0 forgotten) says.rows
      ∙ changed_rows (change_one n.0 forgotten) (row_by k.decides k.forgets) (row_by k.decides (k.forgets ++ n ∷ []))
      (λ (a : Admission). open_by k.decides k.forgets a.row.0)
      (λ (a : Admission). open_by k.decides (k.forgets ++ n ∷ []) a.row.0) left k.admits;
  termini = says.termini;
  makes = says.makes;
  admits = says.admits;
  decides = says.decides;
  forgets = once_push number_of_forget b.next_row b.next_row k.forgets n says.forgets new low (omega arith);
  drops = says.drops;
  makes_rise = says.makes_rise;
  admits_rise = says.admits_rise;
  tags = λ producer tag. fewer (count_implied (stands_by (k.forgets ++ n ∷ []) producer tag)
      (stands_by k.forgets producer tag) (stood producer tag) k.admits) (says.tags producer tag);
  keys = says.keys;
  between = says.between;
  kept = kept;
}
  where
    kept : (m : ℕ) (a : Admission) → find (λ a. a.row.0 == m) k.admits ≡ Some a
        → IsKept k.decides (k.forgets ++ n ∷ []) b.termini a
    kept m a is = record {
      producer = λ e. (says.kept m a is).producer (or_parts (forgotten_by k.forgets a.row.0) _
          (sym (forgotten_push k.forgets n a.row.0) ∙ e)).0;
      consumer = (says.kept m a is).consumer;
    }

    fewer : {i j : ℕ} → i ≤ j → j ≤ 1 → i ≤ 1
    fewer h l = omega (arith, h, l)

    there : (r : Row) × (row_at n.0 b.rows ≡ Some r) × (r.forgotten ≡ false)
    there = may_forget (row_at n.0 b.rows) applies

    found : Found k n.0 there.0
    found = row_found k b n.0 there.0 says there.1

    unforgotten : forgotten_by k.forgets n.0 ≡ false
    unforgotten = ap (forgotten_by k.forgets) (sym found.number) ∙ sym (ap (λ (r : Row). r.forgotten) found.row)
        ∙ there.2

    new : count_by (λ (m : RowNumber). m.0 == n.0) k.forgets ≡ 0
    new = none_counted (λ (m : RowNumber). m.0 == n.0) k.forgets unforgotten

    low : n.0 < b.next_row
    low = found_low number_of_admit b.next_row n.0 k.admits found.admission says.admits found.is

    left : (a : Admission) → changed (change_one n.0 forgotten) a (decision_by k.decides a.row.0)
        (forgotten_by k.forgets a.row.0)
        ≡ shown a (decision_by k.decides a.row.0) (forgotten_by (k.forgets ++ n ∷ []) a.row.0)
    left a = by_case (a.row.0 == n.0) here other
      where
        here : (a.row.0 == n.0) ≡ true
            → changed (change_one n.0 forgotten) a (decision_by k.decides a.row.0) (forgotten_by k.forgets a.row.0)
            ≡ shown a (decision_by k.decides a.row.0) (forgotten_by (k.forgets ++ n ∷ []) a.row.0)
        here e =
            let none : forgotten_by k.forgets a.row.0 ≡ false = ap (forgotten_by k.forgets) (eqb-true a.row.0 n.0 e)
            ∙ unforgotten in
            let now : forgotten_by (k.forgets ++ n ∷ []) a.row.0 ≡ true =
            forgotten_push k.forgets n a.row.0 ∙ ap (λ (p : Bool). p || (n.0 == a.row.0 || false)) none
            ∙ ap (λ (p : Bool). p || false) (turned n.0 a.row.0 ∙ e) in
            at_it n.0 forgotten a (decision_by k.decides a.row.0) (forgotten_by k.forgets a.row.0) e
            ∙ ap (changed forgotten a (decision_by k.decides a.row.0)) none
            ∙ forgotten_here a (decision_by k.decides a.row.0)
            ∙ sym (ap (shown a (decision_by k.decides a.row.0)) now)

        or_false : (p : Bool) → (p || false) ≡ p
        or_false true = refl
        or_false false = refl

        other : (a.row.0 == n.0) ≡ false
            → changed (change_one n.0 forgotten) a (decision_by k.decides a.row.0) (forgotten_by k.forgets a.row.0)
            ≡ shown a (decision_by k.decides a.row.0) (forgotten_by (k.forgets ++ n ∷ []) a.row.0)
        other e =
            let same : forgotten_by (k.forgets ++ n ∷ []) a.row.0 ≡ forgotten_by k.forgets a.row.0 =
            forgotten_push k.forgets n a.row.0 ∙ ap (λ (p : Bool). forgotten_by k.forgets a.row.0 || (p || false))
            (turned n.0 a.row.0 ∙ e) ∙ or_false (forgotten_by k.forgets a.row.0) in
            elsewhere n.0 forgotten a (decision_by k.decides a.row.0) (forgotten_by k.forgets a.row.0) e
            ∙ sym (ap (shown a (decision_by k.decides a.row.0)) same)

    stood : (producer : ℕ) (tag : List ℕ) (a : Admission) → stands_by (k.forgets ++ n ∷ []) producer tag a ≡ true
        → stands_by k.forgets producer tag a ≡ true
    stood producer tag a e =
        let last = and_parts (a.producer.0 == producer && not (forgotten_by (k.forgets ++ n ∷ []) a.row.0))
        (same_bytes a.tag.items tag) e in
        let first = and_parts (a.producer.0 == producer) (not (forgotten_by (k.forgets ++ n ∷ []) a.row.0)) last.0 in
        let was : not (forgotten_by k.forgets a.row.0) ≡ true =
        was_kept (forgotten_by k.forgets a.row.0) (n.0 == a.row.0 || false)
        (sym (ap not (forgotten_push k.forgets n a.row.0)) ∙ first.1) in
        rw (first.0, was) last.1
