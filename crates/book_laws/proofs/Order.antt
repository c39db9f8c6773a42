-- The order of acts that apply: what comes once, what comes first, and what doesn't come again.
use Rattle.std.proofs.Common.{◌≡◌, ◌∙◌, sym, ap, refl, ℕ, zero, suc, ◌+◌, ◌≤◌, ◌⊎◌, inl, inr, Bool, true, List, ◌∷◌, ◌++◌, arith, Option, Some, None}
use Rattle.std.specs.Prelude.{◌==◌, find, count_by, is_some, option_map}
use Rattle.std.specs.List.{list_any}
use Rattle.std.specs.Option.{option_or}
use Rattle.amqp_model.specs.declared.state.DeliveryState.{DeliveryState}
use Rattle.book_model.specs.declared.act.Act.{Act}
use Rattle.book_model.specs.declared.act.Act.TheVariants.{Admit, Decide, Forget, Drop}
use Rattle.book_model.specs.declared.act.Admission.{Admission}
use Rattle.book_model.specs.declared.act.Decision.{Decision}
use Rattle.book_model.specs.declared.row.Row.{Row}
use Rattle.book_model.specs.declared.row.RowNumber.{RowNumber}
use Rattle.book_model.specs.declared.terminus.LinkRole.TheVariants.{Producer}
use Rattle.book_model.specs.declared.terminus.Terminus.{Terminus}
use Rattle.book_model.specs.declared.terminus.TerminusNumber.{TerminusNumber}
use Rattle.book_model.specs.Book.{empty_book, refusal, row_at, terminus_at, has_role, may_bind}
use Rattle.book_laws.specs.Said.{Apply, book_of, makes_in, admits_in, decides_in, forgets_in, drops_in, times_admitted, times_decided, times_forgotten, times_made, times_dropped, admission, decision, is_forgotten, made, is_dropped, terminus_said, termini_said}
use Rattle.book_laws.proofs.Conditions.{may_admit, may_decide, may_forget, may_drop}
use Rattle.book_laws.proofs.Facts.{row_in_book, termini_are, terminus_is}
use Rattle.book_laws.proofs.Joining.{older_apply, newer_apply, act_applies, admission_app, made_app, decision_app, times_admitted_app, times_decided_app, times_forgotten_app, times_made_app, times_dropped_app}
use Rattle.book_laws.proofs.Says.{kinds_of, terminus_found}
use Rattle.book_laws.proofs.Searching.{one_way, nothing_found, none_passes}
use Rattle.book_laws.proofs.Telling.{says_of}

-- once

pub admitted_once : (acts : List Act) (n : ℕ) → Apply acts → times_admitted acts n ≤ 1
admitted_once acts n apply = (says_of acts apply).admits.once n

pub decided_once : (acts : List Act) (n : ℕ) → Apply acts → times_decided acts n ≤ 1
decided_once acts n apply = (says_of acts apply).decides.once n

pub forgotten_once : (acts : List Act) (n : ℕ) → Apply acts → times_forgotten acts n ≤ 1
forgotten_once acts n apply = (says_of acts apply).forgets.once n

pub made_once : (acts : List Act) (n : ℕ) → Apply acts → times_made acts n ≤ 1
made_once acts n apply = (says_of acts apply).makes.once n

pub dropped_once : (acts : List Act) (n : ℕ) → Apply acts → times_dropped acts n ≤ 1
dropped_once acts n apply = (says_of acts apply).drops.once n

-- below the next numbers

pub admitted_below : (acts : List Act) (n : ℕ) → Apply acts → (book_of acts).next_row ≤ n → times_admitted acts n ≡ 0
admitted_below acts n apply h = (says_of acts apply).admits.above n h

pub decided_below : (acts : List Act) (n : ℕ) → Apply acts → (book_of acts).next_row ≤ n → times_decided acts n ≡ 0
decided_below acts n apply h = (says_of acts apply).decides.above n h

pub forgotten_below : (acts : List Act) (n : ℕ) → Apply acts → (book_of acts).next_row ≤ n → times_forgotten acts n ≡ 0
forgotten_below acts n apply h = (says_of acts apply).forgets.above n h

pub made_below : (acts : List Act) (n : ℕ) → Apply acts → (book_of acts).next_terminus ≤ n → times_made acts n ≡ 0
made_below acts n apply h = (says_of acts apply).makes.above n h

pub dropped_below : (acts : List Act) (n : ℕ) → Apply acts → (book_of acts).next_terminus ≤ n → times_dropped acts n ≡ 0
dropped_below acts n apply h = (says_of acts apply).drops.above n h

-- after what they need: an act applies to the book that the acts before it leave

pub act_in_order : (older newer : List Act) (act : Act) → Apply (older ++ act ∷ newer)
    → refusal (book_of older) act ≡ None
act_in_order older newer act apply =
    act_applies (book_of older) act newer (newer_apply empty_book older (act ∷ newer) apply)

pub before : (older newer : List Act) → Apply (older ++ newer) → Apply older
before older newer apply = older_apply empty_book older newer apply

is_there : (acts : List Act) (n : ℕ) (r : Row) → Apply acts → row_at n (book_of acts).rows ≡ Some r
    → is_some (admission acts n) ≡ true
is_there acts n r apply is = ap is_some (row_in_book acts n r apply is).is

pub decides_after : (older newer : List Act) (d : Decision) → Apply (older ++ Decide d ∷ newer)
    → is_some (admission older d.row.0) ≡ true
decides_after older newer d apply =
    let may = may_decide (row_at d.row.0 (book_of older).rows) d.outcome (act_in_order older newer (Decide d) apply) in
    is_there older d.row.0 may.0 (before older (Decide d ∷ newer) apply) may.1

pub forgets_after : (older newer : List Act) (n : RowNumber) → Apply (older ++ Forget n ∷ newer)
    → is_some (admission older n.0) ≡ true
forgets_after older newer n apply =
    let may = may_forget (row_at n.0 (book_of older).rows) (act_in_order older newer (Forget n) apply) in
    is_there older n.0 may.0 (before older (Forget n ∷ newer) apply) may.1

pub drops_after : (older newer : List Act) (n : TerminusNumber) → Apply (older ++ Drop n ∷ newer)
    → is_some (made older n.0) ≡ true
drops_after older newer n apply =
    let may = may_drop (terminus_at n.0 (book_of older).termini) (book_of older).rows
    (act_in_order older newer (Drop n) apply) in
    ap is_some (terminus_found (kinds_of older) (book_of older) n.0 may.0
    (says_of older (before older (Drop n ∷ newer) apply)) may.1).is

pub admits_between : (older newer : List Act) (a : Admission) → Apply (older ++ Admit a ∷ newer)
    → has_role Producer (terminus_said older a.producer.0) ≡ true
admits_between older newer a apply =
    ap (has_role Producer) (sym (terminus_is older a.producer.0 (before older (Admit a ∷ newer) apply)))
    ∙ (may_admit (book_of older) a (act_in_order older newer (Admit a) apply)).producer

pub admits_for : (older newer : List Act) (a : Admission) → Apply (older ++ Admit a ∷ newer)
    → may_bind a.consumer (termini_said older) ≡ true
admits_for older newer a apply =
    ap (may_bind a.consumer) (sym (termini_are older (before older (Admit a ∷ newer) apply)))
    ∙ (may_admit (book_of older) a (act_in_order older newer (Admit a) apply)).consumer

-- not again

found_counted : {V : Type 0} (test : V → Bool) (vs : List V) → is_some (find test vs) ≡ true → 1 ≤ count_by test vs
found_counted test vs is = by (count_by test vs) refl
  where
    by : (n : ℕ) → count_by test vs ≡ n → 1 ≤ n
    by zero none = absurd (one_way (sym (ap is_some (nothing_found test vs none)) ∙ is))
    by (suc n) some = omega arith

passes_counted : {V : Type 0} (test : V → Bool) (vs : List V) → list_any test vs ≡ true → 1 ≤ count_by test vs
passes_counted test vs is = by (count_by test vs) refl
  where
    by : (n : ℕ) → count_by test vs ≡ n → 1 ≤ n
    by zero none = absurd (one_way (sym (none_passes test vs none) ∙ is))
    by (suc n) some = omega arith

none_left : (i j k : ℕ) → k ≤ 1 → k ≡ i + j → 1 ≤ i → j ≡ 0
none_left i j k few sum some = omega (arith, few, sum, some)

decision_found : (o : Option Decision) → is_some (option_map (λ (d : Decision). d.outcome) o) ≡ true → is_some o ≡ true
decision_found None is = is
decision_found (Some d) is = refl

pub decided_no_more : (older newer : List Act) (n : ℕ) → Apply (older ++ newer) → is_some (decision older n) ≡ true
    → times_decided newer n ≡ 0
decided_no_more older newer n apply is =
    none_left (times_decided older n) (times_decided newer n) (times_decided (older ++ newer) n)
    (decided_once (older ++ newer) n apply) (times_decided_app older newer n)
    (found_counted (λ (d : Decision). d.row.0 == n) (decides_in older)
    (decision_found (find (λ d. d.row.0 == n) (decides_in older)) is))

pub admitted_no_more : (older newer : List Act) (n : ℕ) → Apply (older ++ newer) → is_some (admission older n) ≡ true
    → times_admitted newer n ≡ 0
admitted_no_more older newer n apply is =
    none_left (times_admitted older n) (times_admitted newer n) (times_admitted (older ++ newer) n)
    (admitted_once (older ++ newer) n apply) (times_admitted_app older newer n)
    (found_counted (λ (a : Admission). a.row.0 == n) (admits_in older) is)

pub forgotten_no_more : (older newer : List Act) (n : ℕ) → Apply (older ++ newer) → is_forgotten older n ≡ true
    → times_forgotten newer n ≡ 0
forgotten_no_more older newer n apply is =
    none_left (times_forgotten older n) (times_forgotten newer n) (times_forgotten (older ++ newer) n)
    (forgotten_once (older ++ newer) n apply) (times_forgotten_app older newer n)
    (passes_counted (λ (m : RowNumber). m.0 == n) (forgets_in older) is)

pub made_no_more : (older newer : List Act) (n : ℕ) → Apply (older ++ newer) → is_some (made older n) ≡ true
    → times_made newer n ≡ 0
made_no_more older newer n apply is =
    none_left (times_made older n) (times_made newer n) (times_made (older ++ newer) n)
    (made_once (older ++ newer) n apply) (times_made_app older newer n)
    (found_counted (λ (t : Terminus). t.number.0 == n) (makes_in older) is)

pub dropped_no_more : (older newer : List Act) (n : ℕ) → Apply (older ++ newer) → is_dropped older n ≡ true
    → times_dropped newer n ≡ 0
dropped_no_more older newer n apply is =
    none_left (times_dropped older n) (times_dropped newer n) (times_dropped (older ++ newer) n)
    (dropped_once (older ++ newer) n apply) (times_dropped_app older newer n)
    (passes_counted (λ (m : TerminusNumber). m.0 == n) (drops_in older) is)

before_or_now : {V : Type 0} (o p : Option V) (v : V) → option_or o p ≡ Some v
    → (o ≡ Some v) ⊎ ((o ≡ None) × (p ≡ Some v))
before_or_now None p v is = inr (refl, is)
before_or_now (Some w) p v is = inl is

-- a longer list keeps what was found

pub admission_kept : (older newer : List Act) (n : ℕ) (a : Admission) → admission older n ≡ Some a
    → admission (older ++ newer) n ≡ Some a
admission_kept older newer n a is = admission_app older newer n
    ∙ ap (λ (o : Option Admission). option_or o (admission newer n)) is

pub made_kept : (older newer : List Act) (n : ℕ) (t : Terminus) → made older n ≡ Some t
    → made (older ++ newer) n ≡ Some t
made_kept older newer n t is = made_app older newer n ∙ ap (λ (o : Option Terminus). option_or o (made newer n)) is

pub decision_kept : (older newer : List Act) (n : ℕ) (s : DeliveryState) → decision older n ≡ Some s
    → decision (older ++ newer) n ≡ Some s
decision_kept older newer n s is = decision_app older newer n
    ∙ ap (λ (o : Option DeliveryState). option_or o (decision newer n)) is

-- what a longer list says was said before, or is said now

pub decision_from : (older newer : List Act) (n : ℕ) (s : DeliveryState) → decision (older ++ newer) n ≡ Some s
    → (decision older n ≡ Some s) ⊎ ((decision older n ≡ None) × (decision newer n ≡ Some s))
decision_from older newer n s is =
    before_or_now (decision older n) (decision newer n) s (sym (decision_app older newer n) ∙ is)

pub admission_from : (older newer : List Act) (n : ℕ) (a : Admission) → admission (older ++ newer) n ≡ Some a
    → (admission older n ≡ Some a) ⊎ ((admission older n ≡ None) × (admission newer n ≡ Some a))
admission_from older newer n a is =
    before_or_now (admission older n) (admission newer n) a (sym (admission_app older newer n) ∙ is)

pub made_from : (older newer : List Act) (n : ℕ) (t : Terminus) → made (older ++ newer) n ≡ Some t
    → (made older n ≡ Some t) ⊎ ((made older n ≡ None) × (made newer n ≡ Some t))
made_from older newer n t is = before_or_now (made older n) (made newer n) t (sym (made_app older newer n) ∙ is)
