-- The acts of an event can be written.
use Rattle.std.proofs.Common.{◌≡◌, ◌∙◌, sym, ap, refl, subst, ℕ, ◌≤◌, ◌+◌, ◌*◌, ◌&&◌, Bool, true, false, List, [], ◌∷◌, ◌++◌, length, Option, Some, None, arith, length-append, append-nil}
use Rattle.std.specs.Prelude.{filter_map, is_none, is_some, nat_le, nat_lt, not, ◌==◌, count_by, if◌then◌else◌}
use Rattle.std.specs.List.{cons_option, list_any}
use Rattle.std.proofs.lemmas.Bool.Decides.{nat_tests}
use Rattle.amqp_model.specs.declared.state.DeliveryState.{DeliveryState}
use Rattle.amqp_model.specs.PerfSpelling.{state_spelling}
use Rattle.book_model.specs.declared.act.Act.{Act}
use Rattle.book_model.specs.declared.act.Act.TheVariants.{Make, Admit, Decide, Forget, Drop}
use Rattle.book_model.specs.declared.act.Admission.{Admission}
use Rattle.book_model.specs.declared.act.Decision.{Decision}
use Rattle.book_model.specs.declared.fault.BookFault.{BookFault}
use Rattle.book_model.specs.declared.fault.BookFault.TheVariants.{NoTerminus, NoRow, TagInUse, Limit}
use Rattle.book_model.specs.declared.row.Row.{Row}
use Rattle.book_model.specs.declared.row.RowNumber.{RowNumber}
use Rattle.book_model.specs.declared.terminus.LinkRole.TheVariants.{Producer}
use Rattle.book_model.specs.declared.terminus.Terminus.{Terminus}
use Rattle.book_model.specs.declared.terminus.TerminusNumber.{TerminusNumber}
use Rattle.book_model.specs.Book.{BookView, refusal, first_fault, effects, make_refusal, drop_refusal, admit_refusal, terminus_at, is_undecided, unless, has_role, may_bind, has_tag, is_from, undecided_for}
use Rattle.book_core.specs.Rising.{Rises}
use Rattle.journal_codec.specs.Batches.{HaveOutcomes, HasOutcome}
use Rattle.journal_codec.specs.Format.{act_bytes, acts_bytes, in_2, in_4, in_8, or_zero}
use Rattle.journal_codec.proofs.Spelled.{length-in_2, length-in_4, length-in_8}
use Rattle.journal_store.specs.declared.acting.TerminusAct.{TerminusAct}
use Rattle.journal_store.specs.declared.acting.TerminusAct.TheVariants as terminus
use Rattle.journal_store.specs.Writable.{Writable}
use Rattle.journal_store.specs.Settling.{lets_go_after}
use Rattle.journal_store.specs.Acting.{outcome_for, is_among, journal_outcome, decision, decide_row, forget_row, decides, forgets, settles, unless_refused, terminus_acts, event_acts, admission_acts}
use Rattle.journal_store.proofs.Conditions.{holds, next_holds}
use Rattle.journal_store.proofs.Makes.{applies_more}
use Rattle.journal_store.proofs.Merging.{number_of_row}
use Rattle.journal_store.proofs.Ones.{one_applies, make_short}
use Rattle.journal_store.proofs.Released.{lets_go_as_after}
use Rattle.journal_store.proofs.Settled.{written_is_outcome, written_is_short, settles_leave}

-- Two lists of acts, one after the other.
bytes_more : (first more : List Act) → length (acts_bytes (first ++ more)) ≡ length (acts_bytes first) + length (acts_bytes more)
bytes_more [] more = omega arith
bytes_more (act ∷ first) more =
    omega (arith, bytes_more first more, length-append (act_bytes act) (acts_bytes (first ++ more)), length-append (act_bytes act) (acts_bytes first))

outcomes_more : (first more : List Act) → HaveOutcomes first → HaveOutcomes more → HaveOutcomes (first ++ more)
outcomes_more [] more all others = others
outcomes_more (act ∷ first) more all others = (all.0, outcomes_more first more all.1 others)

-- Acts on rows that are as short as said, and have outcomes.
record IsFine (size : ℕ) (act : Act) : Type 0 where
  pub short : length (act_bytes act) ≤ size
  pub outcome : HasOutcome act

abbrev IfAny : ℕ → Option Act → Type 0
IfAny size None = Unit {0}
IfAny size (Some act) = IsFine size act

module _ (size : ℕ) (act : Row → Option Act) (fine : (r : Row) → IfAny size (act r)) where
  rows_short : (rs : List Row) → length (acts_bytes (filter_map act rs)) ≤ size * length rs
  rows_short [] = omega arith
  rows_short (r ∷ rs) = by_act (act r) (fine r) (rows_short rs)
    where
      longer : length (r ∷ rs) ≡ length rs + 1
      longer = omega arith

      one_more : (n m : ℕ) → n ≤ size * m → n ≤ size * (m + 1)
      one_more n m rest = grind (arith, rest)

      sum_up : (n k s m : ℕ) → k ≤ size → s ≡ k + n → n ≤ size * m → s ≤ size * (m + 1)
      sum_up n k s m few is rest = grind (arith, few, is, rest)

      by_act : (o : Option Act) → IfAny size o → length (acts_bytes (filter_map act rs)) ≤ size * length rs → length (acts_bytes (cons_option o (filter_map act rs))) ≤ size * length (r ∷ rs)
      by_act None is rest =
          subst (λ (n : ℕ). length (acts_bytes (filter_map act rs)) ≤ size * n) (sym longer) (one_more (length (acts_bytes (filter_map act rs))) (length rs) rest)
      by_act (Some a) is rest =
          subst (λ (n : ℕ). length (acts_bytes (a ∷ filter_map act rs)) ≤ size * n) (sym longer)
          (sum_up (length (acts_bytes (filter_map act rs))) (length (act_bytes a)) (length (acts_bytes (a ∷ filter_map act rs))) (length rs) is.short
          (length-append (act_bytes a) (acts_bytes (filter_map act rs))) rest)

  rows_outcomes : (rs : List Row) → HaveOutcomes (filter_map act rs)
  rows_outcomes [] = tt
  rows_outcomes (r ∷ rs) = by_act (act r) (fine r) (rows_outcomes rs)
    where
      by_act : (o : Option Act) → IfAny size o → HaveOutcomes (filter_map act rs) → HaveOutcomes (cons_option o (filter_map act rs))
      by_act None is rest = rest
      by_act (Some a) is rest = (is.outcome, rest)

decide_short : (r : Row) (outcome : DeliveryState) → length (state_spelling outcome) ≤ 400 → length (act_bytes (Decide (record { row = r.number; outcome = outcome }))) ≤ 411
unfolding act_bytes
decide_short r outcome short =
    omega (
      arith,
      short,
      length-in_8 r.number.0,
      length-in_2 (length (state_spelling outcome)),
      length-append (3 ∷ []) (in_8 r.number.0),
      length-append ((3 ∷ []) ++ in_8 r.number.0) (in_2 (length (state_spelling outcome))),
      length-append ((3 ∷ []) ++ in_8 r.number.0 ++ in_2 (length (state_spelling outcome))) (state_spelling outcome),
    )

forget_short : (n : RowNumber) → length (act_bytes (Forget n)) ≤ 9
unfolding act_bytes
forget_short n = omega (arith, length-in_8 n.0)

decides_fine : (ds : List Decision) (r : Row) → IfAny 411 (decide_row ds r)
decides_fine ds r = by_both (is_undecided r) (outcome_for (number_of_row r) ds)
  where
    by_both : (u : Bool) (o : Option DeliveryState) → IfAny 411 (if u then decision r o else None)
    by_both false o = tt
    by_both true None = tt
    by_both true (Some outcome) = record { short = decide_short r (journal_outcome outcome) (written_is_short outcome); outcome = written_is_outcome outcome }

forgets_fine : (numbers : List RowNumber) (r : Row) → IfAny 9 (forget_row numbers r)
forgets_fine numbers r = by_test (not r.forgotten && is_among (number_of_row r) numbers)
  where
    by_test : (t : Bool) → IfAny 9 (if t then Some (Forget r.number) else None)
    by_test false = tt
    by_test true = record { short = forget_short r.number; outcome = tt }

-- An act that nothing refuses, or none.
is_none_of : (o : Option BookFault) → is_none o ≡ true → o ≡ None
is_none_of None e = refl
is_none_of (Some f) e = absurd cc

pub one_or_none : (b : BookView) (o : Option BookFault) (act : Act) (size : ℕ) → o ≡ refusal b act → (o ≡ None → length (act_bytes act) ≤ size) → HasOutcome act
    → (first_fault b (unless_refused (is_none o) act) ≡ None) × (length (acts_bytes (unless_refused (is_none o) act)) ≤ size) × HaveOutcomes (unless_refused (is_none o) act)
unfolding first_fault
one_or_none b (Some f) act size is small outcome = (refl, omega arith, tt)
one_or_none b None act size is small outcome =
    (one_applies b act (sym is), (let short = small refl in omega (arith, short, length-append (act_bytes act) [])), (outcome, tt))

drop_short : (n : TerminusNumber) → length (act_bytes (Drop n)) ≤ 4114
unfolding act_bytes
drop_short n = omega (arith, length-in_8 n.0)

payload_short : (n : ℕ) → nat_le n 65536 ≡ true → n ≤ 65536
payload_short n t = grind (arith, nat_tests)

admit_short : (b : BookView) (a : Admission) → length a.tag.items ≤ 32 → admit_refusal b a ≡ None → length (act_bytes (Admit a)) ≤ 65602
unfolding act_bytes
admit_short b a short applies =
    let payload = unless (nat_le (length a.payload) 65536) Limit None in
    let waiting = unless (nat_lt (undecided_for a.consumer b.rows) 64) Limit payload in
    let from = unless (nat_lt (count_by (is_from a.producer.0) b.rows) 64) Limit waiting in
    let few = unless (nat_lt (length b.rows) 4096) Limit from in
    let tag = unless (not (list_any (has_tag a.producer.0 a.tag.items) b.rows)) TagInUse few in
    let row = unless (a.row.0 == b.next_row) NoRow tag in
    let bound = unless (may_bind a.consumer b.termini) NoTerminus row in
    let fits =
    payload_short (length a.payload)
    (holds (nat_le (length a.payload) 65536) Limit None
    (next_holds (nat_lt (undecided_for a.consumer b.rows) 64) Limit payload
    (next_holds (nat_lt (count_by (is_from a.producer.0) b.rows) 64) Limit waiting
    (next_holds (nat_lt (length b.rows) 4096) Limit from
    (next_holds (not (list_any (has_tag a.producer.0 a.tag.items) b.rows)) TagInUse few
    (next_holds (a.row.0 == b.next_row) NoRow tag
    (next_holds (may_bind a.consumer b.termini) NoTerminus row
    (next_holds (has_role Producer (terminus_at a.producer.0 b.termini)) NoTerminus bound applies)))))))) in
    let start = (2 ∷ []) ++ in_8 a.row.0 ++ in_8 a.producer.0 ++ (length a.tag.items ∷ []) in
    let tagged = start ++ a.tag.items in
    let consumer = tagged ++ in_8 (or_zero a.consumer) in
    let format = consumer ++ in_4 a.format in
    let sized = format ++ in_4 (length a.payload) in
    omega (
      arith,
      fits,
      short,
      length-in_8 a.row.0,
      length-in_8 a.producer.0,
      length-in_8 (or_zero a.consumer),
      length-in_4 a.format,
      length-in_4 (length a.payload),
      length-append (2 ∷ []) (in_8 a.row.0),
      length-append ((2 ∷ []) ++ in_8 a.row.0) (in_8 a.producer.0),
      length-append ((2 ∷ []) ++ in_8 a.row.0 ++ in_8 a.producer.0) (length a.tag.items ∷ []),
      length-append start a.tag.items,
      length-append tagged (in_8 (or_zero a.consumer)),
      length-append consumer (in_4 a.format),
      length-append format (in_4 (length a.payload)),
      length-append sized a.payload,
    )

terminus_fine : (b : BookView) (t : Option TerminusAct)
    → (first_fault b (terminus_acts b t) ≡ None) × (length (acts_bytes (terminus_acts b t)) ≤ 4114) × HaveOutcomes (terminus_acts b t)
unfolding first_fault
terminus_fine b None = (refl, omega arith, tt)
terminus_fine b (Some (terminus.Make t)) = one_or_none b (make_refusal b t) (Make t) 4114 refl (make_short b t) tt
terminus_fine b (Some (terminus.Drop n)) = one_or_none b (drop_refusal (terminus_at n.0 b.termini) b.rows) (Drop n) 4114 refl (λ applies. drop_short n) tt

pub event_writable : (b : BookView) (ds : List Decision) (numbers : List RowNumber) (t : Option TerminusAct) → Rises number_of_row b.rows → length b.rows ≤ 4096 → Writable b (event_acts b ds numbers t)
event_writable b ds numbers t up few =
    let settled = settles b ds numbers in
    let behind = terminus_fine (effects b settled) t in
    record {
      applies = applies_more b settled (terminus_acts (effects b settled) t) (settles_leave b ds numbers up).applies behind.0;
      small = omega (
        arith,
        few,
        rows_short 411 (decide_row ds) (decides_fine ds) b.rows,
        rows_short 9 (forget_row numbers) (forgets_fine numbers) b.rows,
        bytes_more (decides b ds) (forgets b numbers),
        bytes_more settled (terminus_acts (effects b settled) t),
        behind.1,
      );
      outcomes = outcomes_more settled (terminus_acts (effects b settled) t)
          (outcomes_more (decides b ds) (forgets b numbers) (rows_outcomes 411 (decide_row ds) (decides_fine ds) b.rows) (rows_outcomes 9 (forget_row numbers) (forgets_fine numbers) b.rows))
          behind.2;
    }

-- An admission.
pub admission_writable : (b : BookView) (a : Admission) → length a.tag.items ≤ 32 → Writable b (admission_acts b a)
admission_writable b a short =
    let fine = one_or_none b (admit_refusal b a) (Admit a) 65602 refl (admit_short b a short) tt in
    record { applies = fine.0; small = (let few = fine.1 in omega (arith, few)); outcomes = fine.2 }

-- What is asked for a terminus, by the book before the event.
module _ (b : BookView) (ds : List Decision) (numbers : List RowNumber) (up : Rises number_of_row b.rows) where
  abbrev asked : Option TerminusAct → List Act
  asked t = terminus_acts (effects b (settles b ds numbers)) t

  make_asked : (t : Terminus) (r : Option BookFault) → r ≡ make_refusal b t → asked (Some (terminus.Make t)) ≡ unless_refused (is_none r) (Make t)
  make_asked t r is = ap (λ (x : BookView). unless_refused (is_none (make_refusal x t)) (Make t)) (settles_leave b ds numbers up).is ∙ ap (λ (o : Option BookFault). unless_refused (is_none o) (Make t)) (sym is)

  drop_asked : (n : TerminusNumber) (g : Bool) → g ≡ lets_go_after b ds numbers n → asked (Some (terminus.Drop n)) ≡ unless_refused g (Drop n)
  drop_asked n g is =
      ap (λ (x : BookView). unless_refused (is_none (drop_refusal (terminus_at n.0 x.termini) x.rows)) (Drop n)) (settles_leave b ds numbers up).is
      ∙ ap (λ (v : Bool). unless_refused v (Drop n)) (sym (is ∙ lets_go_as_after ds numbers b.rows (terminus_at n.0 b.termini)))

  refused_none : (o : Option BookFault) (act : Act) → is_some o ≡ true → unless_refused (is_none o) act ≡ []
  refused_none None act e = absurd cc
  refused_none (Some f) act e = refl

  not_refused : (o : Option BookFault) (act : Act) → is_some o ≡ false → unless_refused (is_none o) act ≡ act ∷ []
  not_refused None act e = refl
  not_refused (Some f) act e = absurd cc

  -- nothing is appended, or the act
  pub make_left : (t : Terminus) (r : Option BookFault) (acts : List Act) → r ≡ make_refusal b t → is_some r ≡ true → acts ≡ acts ++ terminus_acts (effects b (settles b ds numbers)) (Some (terminus.Make t))
  make_left t r acts is refused = sym (ap (λ (xs : List Act). acts ++ xs) (make_asked t r is ∙ refused_none r (Make t) refused) ∙ append-nil acts)

  pub make_added : (t : Terminus) (r : Option BookFault) → r ≡ make_refusal b t → is_some r ≡ false → Make t ∷ [] ≡ terminus_acts (effects b (settles b ds numbers)) (Some (terminus.Make t))
  make_added t r is fine = sym (make_asked t r is ∙ not_refused r (Make t) fine)

  pub drop_left : (n : TerminusNumber) (g : Bool) (acts : List Act) → g ≡ lets_go_after b ds numbers n → g ≡ false → acts ≡ acts ++ terminus_acts (effects b (settles b ds numbers)) (Some (terminus.Drop n))
  drop_left n g acts is kept = sym (ap (λ (xs : List Act). acts ++ xs) (drop_asked n g is ∙ ap (λ (v : Bool). unless_refused v (Drop n)) kept) ∙ append-nil acts)

  pub drop_added : (n : TerminusNumber) (g : Bool) → g ≡ lets_go_after b ds numbers n → g ≡ true → Drop n ∷ [] ≡ terminus_acts (effects b (settles b ds numbers)) (Some (terminus.Drop n))
  drop_added n g is free = sym (drop_asked n g is ∙ ap (λ (v : Bool). unless_refused v (Drop n)) free)
