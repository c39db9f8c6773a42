-- An Admit: what the acts say of the rows after it.
use Rattle.std.proofs.Common.{◌≡◌, ◌∙◌, sym, ap, refl, subst, ℕ, ◌+◌, ◌≤◌, Bool, true, false, cond, not, ◌&&◌, List, [], ◌∷◌, ◌++◌, map, arith, Option, Some, None}
use Rattle.std.specs.Prelude.{◌==◌, find, filter, count_by, is_some, option_map}
use Rattle.std.specs.List.{list_any}
use Rattle.std.specs.Option.{option_or}
use Rattle.std.proofs.lemmas.Bool.{and_parts, eqb-true}
use Rattle.std.proofs.lemmas.List.{map-append}
use Rattle.std.proofs.lemmas.List.Folds.{find-append}
use Rattle.amqp_model.specs.declared.state.DeliveryState.{DeliveryState}
use Rattle.book_model.specs.declared.act.Act.TheVariants.{Admit}
use Rattle.book_model.specs.declared.act.Admission.{Admission}
use Rattle.book_model.specs.declared.act.Decision.{Decision}
use Rattle.book_model.specs.declared.row.Row.{Row}
use Rattle.book_model.specs.declared.row.RowNumber.{RowNumber}
use Rattle.book_model.specs.declared.terminus.LinkRole.{LinkRole}
use Rattle.book_model.specs.declared.terminus.LinkRole.TheVariants.{Producer, Consumer}
use Rattle.book_model.specs.declared.terminus.Terminus.{Terminus}
use Rattle.book_model.specs.declared.terminus.TerminusNumber.{TerminusNumber}
use Rattle.book_model.specs.Book.{BookView, refusal, effect, admitted, has_tag, has_role, may_bind, same_bytes, terminus_at}
use Rattle.book_laws.proofs.Conditions.{MayAdmit, may_admit}
use Rattle.book_laws.proofs.Keys.{bytes_of}
use Rattle.book_laws.proofs.Numbers.{once_later, once_push, rises_push}
use Rattle.book_laws.proofs.Searching.{none_not_some, some_same, count_kept, count_mapped, count_implied, nothing_found, none_passes, none_counted, one_more, filter_push}
use Rattle.book_laws.proofs.Says.{Kinds, put, Says, IsBetween, IsKept, terminus_looked, number_of_admit, number_of_decide, number_of_forget, decision_by, forgotten_by, open_by, row_with, row_by, rows_by, stays_by, dropped_by, stands_by}

-- termini of a book were made

made_role : (role : LinkRole) (n : ℕ) (ns : List TerminusNumber) (ts : List Terminus)
    → has_role role (terminus_at n (filter (stays_by ns) ts)) ≡ true → has_role role (terminus_at n ts) ≡ true
made_role role n ns ts is = by (not (dropped_by ns n)) (sym (ap (has_role role) (terminus_looked ns ts n)) ∙ is)
  where
    by : (b : Bool) → has_role role (cond b (terminus_at n ts) None) ≡ true → has_role role (terminus_at n ts) ≡ true
    by true e = e
    by false e = absurd cc

made_binding : (o : Option TerminusNumber) (ns : List TerminusNumber) (ts : List Terminus)
    → may_bind o (filter (stays_by ns) ts) ≡ true → may_bind o ts ≡ true
made_binding None ns ts is = refl
made_binding (Some n) ns ts is = made_role Consumer n.0 ns ts is

-- a tag that no row of the book has: no Admit under it stands

open_unforgotten : (p : Bool) (q : Bool) → not q ≡ true → not (p && q) ≡ true
open_unforgotten true q e = e
open_unforgotten false q e = refl

middle : (p q r : Bool) → (p && q && r) ≡ true → q ≡ true
middle true true r e = refl
middle true false r e = absurd cc
middle false q r e = absurd cc

none_under : (k : Kinds) (b : BookView) (producer : ℕ) (tag : List ℕ) → Says k b
    → list_any (has_tag producer tag) b.rows ≡ false → count_by (stands_by k.forgets producer tag) k.admits ≡ 0
none_under k b producer tag says none =
    let open_at : Admission → Bool = λ a. open_by k.decides k.forgets a.row.0 in
    let none_shown : count_by (has_tag producer tag) (rows_by k.decides k.forgets k.admits) ≡ 0 =
    none_counted (has_tag producer tag) (rows_by k.decides k.forgets k.admits)
    (subst (λ (rs : List Row). list_any (has_tag producer tag) rs ≡ false) says.rows none) in
    let none_kept : count_by (λ (a : Admission). open_at a && stands_by k.forgets producer tag a) k.admits ≡ 0 =
    sym (count_kept (stands_by k.forgets producer tag) open_at k.admits)
    ∙ sym (count_mapped (has_tag producer tag) (row_by k.decides k.forgets) (filter open_at k.admits))
    ∙ none_shown in
    zero (count_implied (stands_by k.forgets producer tag)
    (λ (a : Admission). open_at a && stands_by k.forgets producer tag a) opened k.admits) none_kept
  where
    zero : {i j : ℕ} → i ≤ j → j ≡ 0 → i ≡ 0
    zero h e = omega (arith, h, e)

    opened : (a : Admission) → stands_by k.forgets producer tag a ≡ true
        → (open_by k.decides k.forgets a.row.0 && stands_by k.forgets producer tag a) ≡ true
    opened a e = rw (open_unforgotten (is_some (decision_by k.decides a.row.0)) (forgotten_by k.forgets a.row.0)
        (middle (a.producer.0 == producer) (not (forgotten_by k.forgets a.row.0)) (same_bytes a.tag.items tag) e)) e

pub says_admit : (k : Kinds) (b : BookView) (a : Admission) → refusal b (Admit a) ≡ None → Says k b
    → Says (put k (Admit a)) (effect b (Admit a))
says_admit k b a applies says = record {
  rows = ap (λ (rs : List Row). rs ++ admitted a ∷ []) says.rows ∙ sym shown;
  termini = says.termini;
  makes = says.makes;
  admits = once_push number_of_admit b.next_row (b.next_row + 1) k.admits a says.admits
      (says.admits.above a.row.0 (omega (arith, may.next))) (omega (arith, may.next)) (omega arith);
  decides = once_later number_of_decide b.next_row (b.next_row + 1) k.decides (omega arith) says.decides;
  forgets = once_later number_of_forget b.next_row (b.next_row + 1) k.forgets (omega arith) says.forgets;
  drops = says.drops;
  makes_rise = says.makes_rise;
  admits_rise = rises_push number_of_admit b.next_row k.admits a says.admits_rise says.admits.above may.next;
  tags = λ producer tag. one_more (stands_by k.forgets producer tag) k.admits a (says.tags producer tag)
      (new producer tag);
  keys = says.keys;
  between = λ n x is. new_or_old (IsBetween k.makes) n x is here (says.between n x);
  kept = λ n x is. new_or_old (IsKept k.decides k.forgets b.termini) n x is kept_here (says.kept n x);
}
  where
    may : MayAdmit b a
    may = may_admit b a applies

    undecided : decision_by k.decides a.row.0 ≡ None
    undecided = ap (option_map (λ (d : Decision). d.outcome))
        (nothing_found (λ (d : Decision). d.row.0 == a.row.0) k.decides
        (says.decides.above a.row.0 (omega (arith, may.next))))

    unforgotten : forgotten_by k.forgets a.row.0 ≡ false
    unforgotten = none_passes (λ (m : RowNumber). m.0 == a.row.0) k.forgets
        (says.forgets.above a.row.0 (omega (arith, may.next)))

    opened : open_by k.decides k.forgets a.row.0 ≡ true
    opened = ap (λ (o : Option DeliveryState). not (is_some o && forgotten_by k.forgets a.row.0)) undecided

    row : row_by k.decides k.forgets a ≡ admitted a
    row = λ i. row_with a (undecided i) (unforgotten i)

    shown : rows_by k.decides k.forgets (k.admits ++ a ∷ []) ≡ rows_by k.decides k.forgets k.admits ++ admitted a ∷ []
    shown =
        ap (map (row_by k.decides k.forgets))
        (filter_push (λ (x : Admission). open_by k.decides k.forgets x.row.0) k.admits a opened)
        ∙ map-append (row_by k.decides k.forgets)
        (filter (λ (x : Admission). open_by k.decides k.forgets x.row.0) k.admits) (a ∷ [])
        ∙ ap (λ (r : Row). rows_by k.decides k.forgets k.admits ++ r ∷ []) row

    new : (producer : ℕ) (tag : List ℕ) → stands_by k.forgets producer tag a ≡ true
        → count_by (stands_by k.forgets producer tag) k.admits ≡ 0
    new producer tag e =
        let first = and_parts (a.producer.0 == producer) (not (forgotten_by k.forgets a.row.0))
        (and_parts (a.producer.0 == producer && not (forgotten_by k.forgets a.row.0))
        (same_bytes a.tag.items tag) e).0 in
        let same_producer : a.producer.0 ≡ producer = eqb-true a.producer.0 producer first.0 in
        let same_tag : a.tag.items ≡ tag = bytes_of a.tag.items tag
        (and_parts (a.producer.0 == producer && not (forgotten_by k.forgets a.row.0))
        (same_bytes a.tag.items tag) e).1 in
        let none : count_by (stands_by k.forgets a.producer.0 a.tag.items) k.admits ≡ 0 =
        none_under k b a.producer.0 a.tag.items says may.new in
        sym (λ i. count_by (stands_by k.forgets (same_producer i) (same_tag i)) k.admits) ∙ none

    here : IsBetween k.makes a
    here = record {
      producer = made_role Producer a.producer.0 k.drops k.makes
          (subst (λ (ts : List Terminus). has_role Producer (terminus_at a.producer.0 ts) ≡ true)
          says.termini may.producer);
      consumer = made_binding a.consumer k.drops k.makes
          (subst (λ (ts : List Terminus). may_bind a.consumer ts ≡ true) says.termini may.consumer);
    }

    kept_here : IsKept k.decides k.forgets b.termini a
    kept_here = record { producer = λ e. may.producer; consumer = λ e. may.consumer }

    -- a search finds this Admit, or what it found before
    new_or_old : (P : Admission → Type 0) (n : ℕ) (x : Admission)
        → find (λ x. x.row.0 == n) (k.admits ++ a ∷ []) ≡ Some x → P a
        → (find (λ x. x.row.0 == n) k.admits ≡ Some x → P x) → P x
    new_or_old P n x is here there = by (find (λ x. x.row.0 == n) k.admits) refl (a.row.0 == n)
        (sym (find-append (λ (x : Admission). x.row.0 == n) k.admits (a ∷ [])) ∙ is)
      where
        by : (o : Option Admission) → find (λ x. x.row.0 == n) k.admits ≡ o → (p : Bool)
            → option_or o (cond p (Some a) None) ≡ Some x → P x
        by None found true e = subst P (some_same e) here
        by None found false e = absurd (none_not_some e)
        by (Some y) found p e = there (found ∙ e)
