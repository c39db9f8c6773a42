-- A row that keeps a terminus stands in the way of its Drop.
use Rattle.std.proofs.Common.{◌≡◌, ◌∙◌, sym, ap, refl, subst, ℕ, Bool, true, false, cond, not, ◌&&◌, List, Option, Some, None}
use Rattle.std.specs.Prelude.{◌==◌, find, filter, is_some, is_none, option_map}
use Rattle.std.specs.List.{list_any}
use Rattle.std.proofs.lemmas.Bool.{eqb-true}
use Rattle.amqp_model.specs.declared.state.DeliveryState.{DeliveryState}
use Rattle.book_model.specs.declared.act.Act.TheVariants.{Drop}
use Rattle.book_model.specs.declared.act.Admission.{Admission}
use Rattle.book_model.specs.declared.fault.BookFault.TheVariants.{NoTerminus}
use Rattle.book_model.specs.declared.row.Row.{Row}
use Rattle.book_model.specs.declared.terminus.LinkRole.{LinkRole}
use Rattle.book_model.specs.declared.terminus.LinkRole.TheVariants.{Producer, Consumer}
use Rattle.book_model.specs.declared.terminus.Terminus.{Terminus}
use Rattle.book_model.specs.declared.terminus.TerminusNumber.{TerminusNumber}
use Rattle.book_model.specs.Book.{BookView, refusal, effect, unless, drop_refusal, keeps, is_for_by, has_role, may_bind, row_at, terminus_at}
use Rattle.book_laws.proofs.Keys.{role_of}
use Rattle.book_laws.proofs.Searching.{by_case, one_way, found_among, found_number, found_any}
use Rattle.book_laws.proofs.Says.{Kinds, Says, IsKept, row_looked, number_of_admit, number_of_make, decision_by, forgotten_by, open_by, row_by}

-- a terminus of another number stays
pub kept_role : (role : LinkRole) (n m : ℕ) (ts : List Terminus) → (n == m) ≡ false
    → has_role role (terminus_at n ts) ≡ true
    → has_role role (terminus_at n (filter (λ (t : Terminus). not (t.number.0 == m)) ts)) ≡ true
kept_role role n m ts apart is =
    ap (has_role role) (found_among number_of_make (λ (k : ℕ). not (k == m)) n ts
    ∙ ap (λ (b : Bool). cond (not b) (terminus_at n ts) None) apart)
    ∙ is

-- no row keeps a terminus that may be dropped
pub free : (o : Option Terminus) (rs : List Row) (role : LinkRole) (n : ℕ) → drop_refusal o rs ≡ None
    → ((t : Terminus) → o ≡ Some t → t.number.0 ≡ n) → has_role role o ≡ true → list_any (keeps role n) rs ≡ false
free None rs role n h numbered is = absurd cc
free (Some t) rs role n h numbered is =
    let same : t.key.role ≡ role = role_of t.key.role role is in
    let none : list_any (keeps t.key.role t.number.0) rs ≡ false =
    not_kept (list_any (keeps t.key.role t.number.0) rs) h in
    sym (λ i. list_any (keeps (same i) (numbered t refl i)) rs) ∙ none
  where
    not_kept : (b : Bool) → unless (not b) NoTerminus None ≡ None → b ≡ false
    not_kept true h = absurd cc
    not_kept false h = refl

module _ (k : Kinds) (b : BookView) (n : TerminusNumber) (m : ℕ) (a : Admission) (applies : refusal b (Drop n) ≡ None)
    (says : Says k b) (is : find (λ (x : Admission). x.row.0 == m) k.admits ≡ Some a) where
  -- the row of an admission that is open is in the book
  row_kept : (test : Row → Bool) → open_by k.decides k.forgets a.row.0 ≡ true
      → test (row_by k.decides k.forgets a) ≡ true → list_any test b.rows ≡ true
  row_kept test opened passes =
      let there : find (λ (x : Admission). x.row.0 == a.row.0) k.admits ≡ Some a =
      subst (λ (j : ℕ). find (λ (x : Admission). x.row.0 == j) k.admits ≡ Some a)
      (sym (found_number number_of_admit m k.admits a is)) is in
      let found : row_at a.row.0 b.rows ≡ Some (row_by k.decides k.forgets a) =
      ap (row_at a.row.0) says.rows ∙ row_looked k.decides k.forgets k.admits a.row.0
      ∙ ap (λ (p : Bool). cond p (option_map (row_by k.decides k.forgets)
      (find (λ (x : Admission). x.row.0 == a.row.0) k.admits)) None) opened
      ∙ ap (option_map (row_by k.decides k.forgets)) there in
      found_any (λ (r : Row). r.number.0 == a.row.0) test b.rows (row_by k.decides k.forgets a) found passes

  none_keeps : (role : LinkRole) → has_role role (terminus_at n.0 b.termini) ≡ true
      → list_any (keeps role n.0) b.rows ≡ false
  none_keeps role at =
      free (terminus_at n.0 b.termini) b.rows role n.0 applies (λ t e. found_number number_of_make n.0 b.termini t e) at

  not_dropped : (role : LinkRole) (p : ℕ) → has_role role (terminus_at p b.termini) ≡ true
      → open_by k.decides k.forgets a.row.0 ≡ true
      → ((p == n.0) ≡ true → keeps role n.0 (row_by k.decides k.forgets a) ≡ true)
      → has_role role (terminus_at p (effect b (Drop n)).termini) ≡ true
  not_dropped role p at opened keeps_it =
      by_case (p == n.0)
      (λ e. absurd (one_way (sym (none_keeps role
      (subst (λ (j : ℕ). has_role role (terminus_at j b.termini) ≡ true) (eqb-true p n.0 e) at))
      ∙ row_kept (keeps role n.0) opened (keeps_it e))))
      (λ e. kept_role role p n.0 b.termini e at)

  pub kept_drop : IsKept k.decides k.forgets b.termini a → IsKept k.decides k.forgets (effect b (Drop n)).termini a
  kept_drop was = record { producer = producer; consumer = λ e. consumer e a.consumer refl (was.consumer e) }
    where
      producer : forgotten_by k.forgets a.row.0 ≡ false
          → has_role Producer (terminus_at a.producer.0 (effect b (Drop n)).termini) ≡ true
      producer e = not_dropped Producer a.producer.0 (was.producer e)
          (opened (is_some (decision_by k.decides a.row.0)) e)
          (λ same. rw (same, e) refl)
        where
          opened : (p : Bool) → forgotten_by k.forgets a.row.0 ≡ false
              → not (p && forgotten_by k.forgets a.row.0) ≡ true
          opened true f = ap not f
          opened false f = refl

      consumer : decision_by k.decides a.row.0 ≡ None → (o : Option TerminusNumber) → a.consumer ≡ o
          → may_bind o b.termini ≡ true
          → may_bind o (effect b (Drop n)).termini ≡ true
      consumer e None its at = refl
      consumer e (Some c) its at = not_dropped Consumer c.0 at
          (ap (λ (o : Option DeliveryState). not (is_some o && forgotten_by k.forgets a.row.0)) e)
          (λ same. both (is_for_by n.0 a.consumer) (is_none (decision_by k.decides a.row.0))
          (ap (is_for_by n.0) its ∙ same) (ap is_none e))
        where
          both : (p q : Bool) → p ≡ true → q ≡ true → (p && q) ≡ true
          both p q e f = rw (e, f) refl
