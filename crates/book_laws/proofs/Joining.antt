-- Lists of acts that are joined.
use Rattle.std.proofs.Common.{◌≡◌, ◌∙◌, sym, ap, refl, ℕ, ◌+◌, Bool, ◌||◌, List, [], ◌∷◌, ◌++◌, Option, Some, None}
use Rattle.std.specs.Prelude.{◌==◌, find, filter_map, count_by, option_map}
use Rattle.std.specs.List.{list_any}
use Rattle.std.specs.Option.{option_or}
use Rattle.std.proofs.lemmas.List.Elements.{filter_map-append}
use Rattle.std.proofs.lemmas.List.Folds.{find-append, list_any-append}
use Rattle.std.proofs.lemmas.List.Sums.{sum_by-append}
use Rattle.book_model.specs.declared.act.Act.{Act}
use Rattle.book_model.specs.declared.act.Admission.{Admission}
use Rattle.book_model.specs.declared.act.Decision.{Decision}
use Rattle.book_model.specs.declared.fault.BookFault.{BookFault}
use Rattle.book_model.specs.declared.row.RowNumber.{RowNumber}
use Rattle.book_model.specs.declared.terminus.Terminus.{Terminus}
use Rattle.book_model.specs.declared.terminus.TerminusNumber.{TerminusNumber}
use Rattle.book_model.specs.Book.{BookView, refusal, effect, first_fault, effects, or_else}
use Rattle.book_laws.specs.Said.{make_of, admit_of, decide_of, forget_of, drop_of, decides_in, forgets_in, drops_in, admission, decision, is_forgotten, made, is_dropped, times_admitted, times_decided, times_forgotten, times_made, times_dropped}

-- whether they apply, and the book that they leave

pub effects_app : (b : BookView) (older newer : List Act) → effects b (older ++ newer) ≡ effects (effects b older) newer
unfolding effects
effects_app b [] newer = refl
effects_app b (act ∷ older) newer = effects_app (effect b act) older newer

or_else_twice : (o p q : Option BookFault) → or_else o (or_else p q) ≡ or_else (or_else o p) q
or_else_twice None p q = refl
or_else_twice (Some f) p q = refl

pub first_fault_app : (b : BookView) (older newer : List Act)
    → first_fault b (older ++ newer) ≡ or_else (first_fault b older) (first_fault (effects b older) newer)
unfolding first_fault effects
first_fault_app b [] newer = refl
first_fault_app b (act ∷ older) newer =
    ap (or_else (refusal b act)) (first_fault_app (effect b act) older newer)
    ∙ or_else_twice (refusal b act) (first_fault (effect b act) older)
    (first_fault (effects (effect b act) older) newer)

pub first_none : (o rest : Option BookFault) → or_else o rest ≡ None → o ≡ None
first_none None rest h = refl
first_none (Some f) rest h = absurd cc

pub rest_none : (o rest : Option BookFault) → or_else o rest ≡ None → rest ≡ None
rest_none None rest h = h
rest_none (Some f) rest h = absurd cc

both_none : (o rest : Option BookFault) → o ≡ None → rest ≡ None → or_else o rest ≡ None
both_none None rest h g = g
both_none (Some f) rest h g = absurd cc

pub older_apply : (b : BookView) (older newer : List Act) → first_fault b (older ++ newer) ≡ None
    → first_fault b older ≡ None
older_apply b older newer h = first_none (first_fault b older) (first_fault (effects b older) newer)
    (sym (first_fault_app b older newer) ∙ h)

pub newer_apply : (b : BookView) (older newer : List Act) → first_fault b (older ++ newer) ≡ None
    → first_fault (effects b older) newer ≡ None
newer_apply b older newer h = rest_none (first_fault b older) (first_fault (effects b older) newer)
    (sym (first_fault_app b older newer) ∙ h)

pub both_apply : (b : BookView) (older newer : List Act) → first_fault b older ≡ None
    → first_fault (effects b older) newer ≡ None → first_fault b (older ++ newer) ≡ None
both_apply b older newer h g = first_fault_app b older newer
    ∙ both_none (first_fault b older) (first_fault (effects b older) newer) h g

-- the first act of some that apply
pub act_applies : (b : BookView) (act : Act) (acts : List Act) → first_fault b (act ∷ acts) ≡ None
    → refusal b act ≡ None
unfolding first_fault
act_applies b act acts h = first_none (refusal b act) (first_fault (effect b act) acts) h

pub acts_apply : (b : BookView) (act : Act) (acts : List Act) → first_fault b (act ∷ acts) ≡ None
    → first_fault (effect b act) acts ≡ None
unfolding first_fault
acts_apply b act acts h = rest_none (refusal b act) (first_fault (effect b act) acts) h

-- searches and counts

module _ {V : Type 0} (of : Act → Option V) (test : V → Bool) where
  find_app : (older newer : List Act) → find test (filter_map of (older ++ newer))
      ≡ option_or (find test (filter_map of older)) (find test (filter_map of newer))
  find_app older newer = ap (find test) (filter_map-append of older newer)
      ∙ find-append test (filter_map of older) (filter_map of newer)

  count_app : (older newer : List Act)
      → count_by test (filter_map of (older ++ newer))
      ≡ count_by test (filter_map of older) + count_by test (filter_map of newer)
  count_app older newer = ap (count_by test) (filter_map-append of older newer)
      ∙ sum_by-append _ (filter_map of older) (filter_map of newer)

pub admission_app : (older newer : List Act) (n : ℕ)
    → admission (older ++ newer) n ≡ option_or (admission older n) (admission newer n)
admission_app older newer n = find_app admit_of (λ (a : Admission). a.row.0 == n) older newer

pub made_app : (older newer : List Act) (n : ℕ) → made (older ++ newer) n ≡ option_or (made older n) (made newer n)
made_app older newer n = find_app make_of (λ (t : Terminus). t.number.0 == n) older newer

pub decision_app : (older newer : List Act) (n : ℕ)
    → decision (older ++ newer) n ≡ option_or (decision older n) (decision newer n)
decision_app older newer n =
    ap (option_map (λ (d : Decision). d.outcome)) (find_app decide_of (λ (d : Decision). d.row.0 == n) older newer)
    ∙ by (find (λ d. d.row.0 == n) (decides_in older)) (find (λ d. d.row.0 == n) (decides_in newer))
  where
    by : (o p : Option Decision) → option_map (λ (d : Decision). d.outcome) (option_or o p)
        ≡ option_or (option_map (λ (d : Decision). d.outcome) o) (option_map (λ (d : Decision). d.outcome) p)
    by None p = refl
    by (Some d) p = refl

pub forgotten_app : (older newer : List Act) (n : ℕ)
    → is_forgotten (older ++ newer) n ≡ (is_forgotten older n || is_forgotten newer n)
forgotten_app older newer n =
    ap (λ (ms : List RowNumber). list_any (λ m. m.0 == n) ms) (filter_map-append forget_of older newer)
    ∙ list_any-append (λ (m : RowNumber). m.0 == n) (forgets_in older) (forgets_in newer)

pub dropped_app : (older newer : List Act) (n : ℕ)
    → is_dropped (older ++ newer) n ≡ (is_dropped older n || is_dropped newer n)
dropped_app older newer n =
    ap (λ (ms : List TerminusNumber). list_any (λ m. m.0 == n) ms) (filter_map-append drop_of older newer)
    ∙ list_any-append (λ (m : TerminusNumber). m.0 == n) (drops_in older) (drops_in newer)

pub times_admitted_app : (older newer : List Act) (n : ℕ)
    → times_admitted (older ++ newer) n ≡ times_admitted older n + times_admitted newer n
times_admitted_app older newer n = count_app admit_of (λ (a : Admission). a.row.0 == n) older newer

pub times_decided_app : (older newer : List Act) (n : ℕ)
    → times_decided (older ++ newer) n ≡ times_decided older n + times_decided newer n
times_decided_app older newer n = count_app decide_of (λ (d : Decision). d.row.0 == n) older newer

pub times_forgotten_app : (older newer : List Act) (n : ℕ)
    → times_forgotten (older ++ newer) n ≡ times_forgotten older n + times_forgotten newer n
times_forgotten_app older newer n = count_app forget_of (λ (m : RowNumber). m.0 == n) older newer

pub times_made_app : (older newer : List Act) (n : ℕ)
    → times_made (older ++ newer) n ≡ times_made older n + times_made newer n
times_made_app older newer n = count_app make_of (λ (t : Terminus). t.number.0 == n) older newer

pub times_dropped_app : (older newer : List Act) (n : ℕ)
    → times_dropped (older ++ newer) n ≡ times_dropped older n + times_dropped newer n
times_dropped_app older newer n = count_app drop_of (λ (m : TerminusNumber). m.0 == n) older newer
