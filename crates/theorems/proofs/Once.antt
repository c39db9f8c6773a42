-- Acts that apply to a book, one after another, decide each row at most once.
use Rattle.std.proofs.Common.{◌≡◌, ◌∙◌, sym, ap, refl, subst, ◌⊎◌, inl, inr, ℕ, ◌+◌, ◌<◌, Bool, true, false, List, [], ◌∷◌, arith}
use Rattle.std.specs.Prelude.{◌==◌, ◌||◌, nat_le, Option, Some, None, is_some, if◌then◌else◌}
use Rattle.std.specs.Option.{option_and_then}
use Rattle.std.proofs.lemmas.Bool.Decides.{nat_tests}
use Rattle.std.proofs.lemmas.Bool.{eqb-true}
use Rattle.amqp_model.specs.declared.state.DeliveryState.{DeliveryState}
use Rattle.book_model.specs.declared.act.Act.{Act}
use Rattle.book_model.specs.declared.act.Act.TheVariants.{Make, Admit, Decide, Forget, Drop}
use Rattle.book_model.specs.declared.act.Admission.{Admission}
use Rattle.book_model.specs.declared.act.Decision.{Decision}
use Rattle.book_model.specs.declared.row.Row.{Row}
use Rattle.book_model.specs.Book.{BookView, row_at, with_row, is_undecided, refusal, decide_refusal, effect, effects, first_fault, admitted, decided, forgotten}
use Rattle.book_core.proofs.Steps.{admits_next}
use Rattle.gate_journal.specs.Ordered.{IsOrdered}
use Rattle.gate_journal.proofs.Ordered.{ordered_step}
use Rattle.journal_store.proofs.Conditions.{holds, first_applies, rest_applies}
use Rattle.theorems.specs.Kept.{is_open_row, may_be_decided, decides_row, times_in}
use Rattle.theorems.proofs.Looking.{by_case, decided_keeps, forgotten_keeps, found_below, found_with, found_before}

clash : false ≡ true → ⊥
clash e = cc

-- a row that is decided stays so

open_or : (k n : ℕ) (b : Bool) → (nat_le k n || b) ≡ false → (n < k) × (b ≡ false)
open_or k n b h = by (nat_le k n) refl h
  where
    low : (k n : ℕ) → nat_le k n ≡ false → n < k
    low k n e = grind (arith, nat_tests)

    by : (q : Bool) → nat_le k n ≡ q → (q || b) ≡ false → (n < k) × (b ≡ false)
    by true is h = absurd (clash (sym h))
    by false is h = (low k n is, h)

shut_where : (k n : ℕ) (b : Bool) → n < k → b ≡ false → (nat_le k n || b) ≡ false
shut_where k n b low shut = rw (high k n low) shut
  where
    high : (k n : ℕ) → n < k → nat_le k n ≡ false
    high k n l = grind (arith, nat_tests)

decided_shut : (outcome : DeliveryState) (o : Option Row) → is_open_row (option_and_then (decided outcome) o) ≡ false
decided_shut outcome None = refl
decided_shut outcome (Some r) = by r.forgotten
  where
    by : (b : Bool) → is_open_row (if b then None else Some (record r { outcome = Some outcome })) ≡ false
    by true = refl
    by false = refl

forgotten_shut : (o : Option Row) → is_open_row o ≡ false → is_open_row (option_and_then forgotten o) ≡ false
forgotten_shut None shut = refl
forgotten_shut (Some r) shut = by (is_some r.outcome)
  where
    by : (b : Bool) → is_open_row (if b then None else Some (record r { forgotten = true })) ≡ false
    by true = refl
    by false = shut

either_shut : (b : Bool) (v w : Option Row) → is_open_row v ≡ false → is_open_row w ≡ false → is_open_row (if b then v else w) ≡ false
either_shut true v w first second = first
either_shut false v w first second = second

-- how often an act decides a row
abbrev once_by : Act → ℕ → ℕ
once_by act n = if decides_row act n then 1 else 0

-- a row that may not be decided isn't, and one that is may not be again
pub record Decides (b c : BookView) (times n : ℕ) : Type 0 where
  pub shut : may_be_decided b n ≡ false → (times ≡ 0) × (may_be_decided c n ≡ false)
  pub once : may_be_decided b n ≡ true → (times ≡ 0) ⊎ ((times ≡ 1) × (may_be_decided c n ≡ false))

decide_one : (b : BookView) (d : Decision) (n : ℕ) → IsOrdered b → refusal b (Decide d) ≡ None → Decides b (effect b (Decide d)) (once_by (Decide d) n) n
decide_one b d n ordered applies = record {
  shut = λ h. (by_case (d.row.0 == n) (λ e. absurd (clash (sym (open_or b.next_row n (is_open_row (row_at n b.rows)) h).1 ∙ there e))) (λ e. rw e refl), later h);
  once = λ h. by_case (d.row.0 == n) (λ e. inr (rw e refl, now e)) (λ e. inl (rw e refl));
}
  where
    behind : row_at n (effect b (Decide d)).rows ≡ (if n == d.row.0 then option_and_then (decided d.outcome) (row_at n b.rows) else row_at n b.rows)
    behind = found_with d.row.0 n (decided d.outcome) (decided_keeps d.outcome) b.rows ordered.rows_rise

    open_one : (o : Option Row) → decide_refusal o d.outcome ≡ None → is_open_row o ≡ true
    open_one None is = absurd cc
    open_one (Some r) is = holds (is_undecided r) _ _ is

    there : (d.row.0 == n) ≡ true → is_open_row (row_at n b.rows) ≡ true
    there e = subst (λ (k : ℕ). is_open_row (row_at k b.rows) ≡ true) (eqb-true d.row.0 n e) (open_one (row_at d.row.0 b.rows) applies)

    low : (d.row.0 == n) ≡ true → n < b.next_row
    low e = by_row (row_at n b.rows) refl (there e)
      where
        by_row : (o : Option Row) → row_at n b.rows ≡ o → is_open_row o ≡ true → n < b.next_row
        by_row None is h = absurd (clash h)
        by_row (Some r) is h = found_below n b.next_row b.rows r ordered.rows_below is

    now : (d.row.0 == n) ≡ true → may_be_decided (effect b (Decide d)) n ≡ false
    now e = shut_where b.next_row n (is_open_row (row_at n (effect b (Decide d)).rows)) (low e)
        (ap is_open_row behind ∙ rw (back d.row.0 n e) (decided_shut d.outcome (row_at n b.rows)))
      where
        back : (a n : ℕ) → (a == n) ≡ true → (n == a) ≡ true
        back a n e = grind (arith, nat_tests)

    later : may_be_decided b n ≡ false → may_be_decided (effect b (Decide d)) n ≡ false
    later h =
        let was = open_or b.next_row n (is_open_row (row_at n b.rows)) h in
        shut_where b.next_row n (is_open_row (row_at n (effect b (Decide d)).rows)) was.0
        (ap is_open_row behind ∙ either_shut (n == d.row.0) (option_and_then (decided d.outcome) (row_at n b.rows)) (row_at n b.rows) (decided_shut d.outcome (row_at n b.rows)) was.1)

-- any other act leaves a row as it is, as to that
other_one : (b c : BookView) (act : Act) (n : ℕ) → decides_row act n ≡ false → (may_be_decided b n ≡ false → may_be_decided c n ≡ false) → Decides b c (once_by act n) n
other_one b c act n apart stays = record { shut = λ h. (rw apart refl, stays h); once = λ h. inl (rw apart refl) }

admit_stays : (b : BookView) (x : Admission) (n : ℕ) → refusal b (Admit x) ≡ None → may_be_decided b n ≡ false → may_be_decided (effect b (Admit x)) n ≡ false
admit_stays b x n applies h =
    let was = open_or b.next_row n (is_open_row (row_at n b.rows)) h in
    let next : x.row.0 ≡ b.next_row = admits_next b x applies in
    shut_where (b.next_row + 1) n (is_open_row (row_at n (effect b (Admit x)).rows)) (more n b.next_row was.0)
    (ap is_open_row (found_before n b.rows (admitted x) (under n b.next_row x.row.0 was.0 next)) ∙ was.1)
  where
    more : (n k : ℕ) → n < k → n < k + 1
    more n k l = omega (arith, l)

    under : (n k a : ℕ) → n < k → a ≡ k → n < a
    under n k a l e = omega (arith, l, e)

forget_stays : (b : BookView) (m n : ℕ) → IsOrdered b → may_be_decided b n ≡ false → may_be_decided (record b { rows = with_row m forgotten b.rows }) n ≡ false
forget_stays b m n ordered h =
    let was = open_or b.next_row n (is_open_row (row_at n b.rows)) h in
    shut_where b.next_row n (is_open_row (row_at n (with_row m forgotten b.rows))) was.0
    (ap is_open_row (found_with m n forgotten forgotten_keeps b.rows ordered.rows_rise)
    ∙ either_shut (n == m) (option_and_then forgotten (row_at n b.rows)) (row_at n b.rows) (forgotten_shut (row_at n b.rows) was.1) was.1)

one_act : (b : BookView) (act : Act) (n : ℕ) → IsOrdered b → refusal b act ≡ None → Decides b (effect b act) (once_by act n) n
one_act b (Make x) n ordered applies = other_one b (effect b (Make x)) (Make x) n refl (λ h. h)
one_act b (Admit x) n ordered applies = other_one b (effect b (Admit x)) (Admit x) n refl (admit_stays b x n applies)
one_act b (Decide d) n ordered applies = decide_one b d n ordered applies
one_act b (Forget m) n ordered applies = other_one b (effect b (Forget m)) (Forget m) n refl (forget_stays b m.0 n ordered)
one_act b (Drop m) n ordered applies = other_one b (effect b (Drop m)) (Drop m) n refl (λ h. h)

-- one after another

then_decides : (b c d : BookView) (first rest n : ℕ) → Decides b c first n → Decides c d rest n → Decides b d (first + rest) n
then_decides b c d first rest n one more = record {
  shut = λ h. let was = one.shut h in let is = more.shut was.1 in (sums first rest was.0 is.0, is.1);
  once = λ h. by (one.once h);
}
  where
    sums : (j k : ℕ) → j ≡ 0 → k ≡ 0 → j + k ≡ 0
    sums j k e f = omega (arith, e, f)

    first_one : (j k : ℕ) → j ≡ 1 → k ≡ 0 → j + k ≡ 1
    first_one j k e f = omega (arith, e, f)

    second_one : (j k : ℕ) → j ≡ 0 → k ≡ 1 → j + k ≡ 1
    second_one j k e f = omega (arith, e, f)

    late : first ≡ 0 → (rest ≡ 0) ⊎ ((rest ≡ 1) × (may_be_decided d n ≡ false)) → (first + rest ≡ 0) ⊎ ((first + rest ≡ 1) × (may_be_decided d n ≡ false))
    late none (inl e) = inl (sums first rest none e)
    late none (inr e) = inr (second_one first rest none e.0, e.1)

    shut_now : first ≡ 0 → (rest ≡ 0) × (may_be_decided d n ≡ false) → (first + rest ≡ 0) ⊎ ((first + rest ≡ 1) × (may_be_decided d n ≡ false))
    shut_now none is = inl (sums first rest none is.0)

    by : (first ≡ 0) ⊎ ((first ≡ 1) × (may_be_decided c n ≡ false)) → (first + rest ≡ 0) ⊎ ((first + rest ≡ 1) × (may_be_decided d n ≡ false))
    by (inl none) = by_case (may_be_decided c n) (λ e. late none (more.once e)) (λ e. shut_now none (more.shut e))
    by (inr now) = let is = more.shut now.1 in inr (first_one first rest now.0 is.0, is.1)

pub decides_once : (acts : List Act) (b : BookView) (n : ℕ) → IsOrdered b → first_fault b acts ≡ None → Decides b (effects b acts) (times_in acts n) n
unfolding effects first_fault
decides_once [] b n ordered applies = record { shut = λ h. (refl, h); once = λ h. inl refl }
decides_once (act ∷ acts) b n ordered applies =
    let here : refusal b act ≡ None = first_applies _ _ applies in
    then_decides b (effect b act) (effects (effect b act) acts) (once_by act n) (times_in acts n) n (one_act b act n ordered here)
    (decides_once acts (effect b act) n (ordered_step b act ordered here) (rest_applies (refusal b act) _ applies))
