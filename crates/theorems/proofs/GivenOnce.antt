-- Over every list of runs, the number of a row, and that of a terminus, is given once.
use Rattle.std.proofs.Common.{◌≡◌, ◌∙◌, sym, ap, refl, subst, ℕ, ◌+◌, ◌≤◌, Bool, true, false, List, [], ◌∷◌, arith}
use Rattle.std.specs.Prelude.{◌==◌, None, if◌then◌else◌}
use Rattle.std.proofs.lemmas.Bool.{eqb-true}
use Rattle.book_core.proofs.Steps.{admits_next}
use Rattle.book_model.specs.declared.act.Act.{Act}
use Rattle.book_model.specs.declared.act.Act.TheVariants.{Make, Admit, Decide, Forget, Drop}
use Rattle.book_model.specs.declared.act.Admission.{Admission}
use Rattle.book_model.specs.declared.fault.BookFault.TheVariants.{NoTerminus}
use Rattle.book_model.specs.declared.terminus.Terminus.{Terminus}
use Rattle.book_model.specs.Book.{BookView, make_refusal, refusal, effect, effects, first_fault}
use Rattle.gate_journal.specs.Ordered.{IsOrdered}
use Rattle.journal_store.proofs.Conditions.{holds, first_applies, rest_applies}
use Rattle.journal_store.proofs.Sound.{sound_is_ordered}
use Rattle.router_trace.specs.declared.event.Event.{Event}
use Rattle.router_trace.specs.Configuration.{opened}
use Rattle.router_trace.specs.Trace.{Trace, Beginning}
use Rattle.reply_rows.specs.Acts.{acts_of, book_in, booked}
use Rattle.theorems.specs.Lives.{InLives}
use Rattle.theorems.specs.OwnConsumer.{admits, makes, times_among, times_done, NumbersAreGivenOnce}
use Rattle.theorems.proofs.EveryMove.{moves_keep_all}
use Rattle.theorems.proofs.Booked.{acts_apply, ordered_acts}
use Rattle.theorems.proofs.Lives.{lives_keep}
use Rattle.theorems.proofs.Brings.{no_brings}

-- how often a number was given, if the next one is this
record Given (times next n : ℕ) : Type 0 where
  once : times ≤ 1
  new : next ≤ n → times ≡ 0

-- one more
given_more : (k next n m : ℕ) (q : Bool) → (m == n) ≡ q → m ≡ next → Given k next n → Given (k + (if q then 1 else 0)) (next + 1) n
given_more k next n m true e is was = record {
  once = first k (was.new (reached next n (sym is ∙ eqb-true m n e)));
  new = λ low. absurd (past next n (sym is ∙ eqb-true m n e) low);
}
  where
    reached : (next n : ℕ) → next ≡ n → next ≤ n
    reached next n e = omega (arith, e)

    first : (k : ℕ) → k ≡ 0 → k + 1 ≤ 1
    first k e = omega (arith, e)

    past : (next n : ℕ) → next ≡ n → next + 1 ≤ n → ⊥
    past next n e low = omega (arith, e, low)
given_more k next n m false e is was = record {
  once = same_once k was.once;
  new = λ low. same_new k (was.new (lower next n low));
}
  where
    same_once : (k : ℕ) → k ≤ 1 → k + 0 ≤ 1
    same_once k h = omega (arith, h)

    same_new : (k : ℕ) → k ≡ 0 → k + 0 ≡ 0
    same_new k h = omega (arith, h)

    lower : (next n : ℕ) → next + 1 ≤ n → next ≤ n
    lower next n h = omega (arith, h)

-- no more
given_still : (k next n : ℕ) → Given k next n → Given (k + 0) next n
given_still k next n was = subst (λ (j : ℕ). Given j next n) (same k) was
  where
    same : (k : ℕ) → k ≡ k + 0
    same k = omega arith

-- what acts that apply do to the numbers of rows, and to those of termini

made_next : (b : BookView) (x : Terminus) → make_refusal b x ≡ None → x.number.0 ≡ b.next_terminus
made_next b x free = eqb-true x.number.0 b.next_terminus (holds (x.number.0 == b.next_terminus) NoTerminus _ free)

abbrev BothGiven : ℕ → ℕ → BookView → ℕ → Type 0
BothGiven rows termini b n = Given rows b.next_row n × Given termini b.next_terminus n

one_given : (b : BookView) (act : Act) (n rows termini : ℕ) → refusal b act ≡ None → BothGiven rows termini b n
    → BothGiven (rows + (if admits act n then 1 else 0)) (termini + (if makes act n then 1 else 0)) (effect b act) n
one_given b (Make x) n rows termini applies was =
    (given_still rows b.next_row n was.0, given_more termini b.next_terminus n x.number.0 (x.number.0 == n) refl (made_next b x applies) was.1)
one_given b (Admit x) n rows termini applies was =
    (given_more rows b.next_row n x.row.0 (x.row.0 == n) refl (admits_next b x applies) was.0, given_still termini b.next_terminus n was.1)
one_given b (Decide d) n rows termini applies was = (given_still rows b.next_row n was.0, given_still termini b.next_terminus n was.1)
one_given b (Forget m) n rows termini applies was = (given_still rows b.next_row n was.0, given_still termini b.next_terminus n was.1)
one_given b (Drop m) n rows termini applies was = (given_still rows b.next_row n was.0, given_still termini b.next_terminus n was.1)

grouped : (k j m : ℕ) → (k + j) + m ≡ k + (j + m)
grouped k j m = omega arith

all_given : (acts : List Act) (b : BookView) (n rows termini : ℕ) → first_fault b acts ≡ None → BothGiven rows termini b n
    → BothGiven (rows + times_among admits acts n) (termini + times_among makes acts n) (effects b acts) n
unfolding effects first_fault
all_given [] b n rows termini applies was = (given_still rows b.next_row n was.0, given_still termini b.next_terminus n was.1)
all_given (act ∷ acts) b n rows termini applies was =
    let one = one_given b act n rows termini (first_applies _ _ applies) was in
    let all = all_given acts (effect b act) n (rows + (if admits act n then 1 else 0)) (termini + (if makes act n then 1 else 0)) (rest_applies (refusal b act) _ applies) one in
    let after : BookView = effects (effect b act) acts in (
      subst (λ (k : ℕ). Given k after.next_row n) (grouped rows (if admits act n then 1 else 0) (times_among admits acts n)) all.0,
      subst (λ (k : ℕ). Given k after.next_terminus n) (grouped termini (if makes act n then 1 else 0) (times_among makes acts n)) all.1,
    )

-- over runs

record Numbers (t : Trace) : Type 0 where
  ordered : IsOrdered (book_in t)
  given : (n : ℕ) → BothGiven (times_done admits t n) (times_done makes t n) (book_in t) n

booked_numbers : (t : Trace) (e : Event) → Numbers t → Numbers (booked t e)
booked_numbers t e was = record {
  ordered = ordered_acts t e was.ordered;
  given = λ n. all_given (acts_of t e) (book_in t) n (times_done admits t n) (times_done makes t n) (acts_apply t e was.ordered) (was.given n);
}

begun_numbers : (g : Beginning) (t : Trace) → g.book ≡ book_in t → Numbers t → Numbers (opened g t)
begun_numbers g t book was = record {
  ordered = subst IsOrdered (sym book) was.ordered;
  given = λ n. subst (λ (b : BookView). BothGiven (times_done admits t n) (times_done makes t n) b n) (sym book) (was.given n);
}

no_numbers : Numbers []
no_numbers = record {
  ordered = sound_is_ordered (book_in []) no_brings.book;
  given = λ n. (record { once = least; new = λ low. refl }, record { once = least; new = λ low. refl });
}
  where
    least : 0 ≤ 1
    least = omega arith

lives_numbers : InLives Numbers
lives_numbers =
    lives_keep Numbers begun_numbers
    (moves_keep_all Numbers (λ s t was. record { ordered = was.ordered; given = was.given }) (λ c i t was. record { ordered = was.ordered; given = was.given })
    (λ c n t was. record { ordered = was.ordered; given = was.given }) (λ b t was. record { ordered = was.ordered; given = was.given }) booked_numbers)
    (λ t e was. let now = booked_numbers t e was in record { ordered = now.ordered; given = now.given }) no_numbers

pub lives_give_once : InLives NumbersAreGivenOnce
lives_give_once = λ id lives u all n. let given = (lives_numbers id lives u all).given n in record { row = given.0.once; terminus = given.1.once }
