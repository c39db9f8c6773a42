-- Acts that apply keep a book sound.
use Rattle.std.proofs.Common.{◌≡◌, ◌∙◌, sym, ap, refl, subst, ℕ, ◌+◌, ◌≤◌, ◌<◌, Bool, true, false, cond, not, ◌&&◌, ◌||◌, List, [], ◌∷◌, ◌++◌, arith, Option, Some, None}
use Rattle.std.specs.Prelude.{◌==◌, filter, is_none, count_by}
use Rattle.std.specs.List.{All, AllByRecursion, AllPairs, list_any}
use Rattle.std.proofs.lemmas.Bool.{eqb-true}
use Rattle.std.proofs.lemmas.List.Elements.{All-from_recursion, recursion_from_All, All-filter, All-push, All-weaker}
use Rattle.std.proofs.lemmas.List.Kept.{AllPairs-filter}
use Rattle.book_model.specs.declared.act.Act.{Act}
use Rattle.book_model.specs.declared.act.Act.TheVariants.{Make, Admit, Decide, Forget, Drop}
use Rattle.book_model.specs.declared.act.Admission.{Admission}
use Rattle.book_model.specs.declared.row.Row.{Row}
use Rattle.book_model.specs.declared.terminus.LinkRole.{LinkRole}
use Rattle.book_model.specs.declared.terminus.LinkRole.TheVariants.{Producer, Consumer}
use Rattle.book_model.specs.declared.terminus.Terminus.{Terminus}
use Rattle.book_model.specs.declared.terminus.TerminusNumber.{TerminusNumber}
use Rattle.book_model.specs.Book.{BookView, empty_book, refusal, effect, effects, first_fault, admitted, decided, forgotten, row_at, terminus_at, has_role, may_bind, has_tag, is_from, is_for_by, keeps, same_key, undecided_for}
use Rattle.book_model.specs.Sound.{IsSound, IsSoundTerminus}
use Rattle.book_laws.proofs.Conditions.{MayMake, MayAdmit, may_make, may_admit, may_decide}
use Rattle.book_laws.proofs.Joining.{first_none, rest_none}
use Rattle.book_laws.proofs.Keeping.{kept_role, free}
use Rattle.book_laws.proofs.Lists.{each_fails, each_both, at_most_filter}
use Rattle.book_laws.proofs.Making.{has_role_push, may_bind_push}
use Rattle.book_laws.proofs.Searching.{by_case, one_way, found_number, count_push}
use Rattle.book_laws.proofs.Says.{number_of_make}
use Rattle.book_laws.proofs.Sound.{IsOrderly, IsStanding, Stands, Became, orderly, standing, sound, fine_make, fine_admit, fine_change, standing_change, became_decided, became_forgotten, became_one, change_one}

none_of : {V : Type 0} (P : V → Type 0) → All P []
none_of P k d l = absurd (omega (arith, l))

no_pairs : {V : Type 0} (R : V → V → Type 0) → AllPairs R []
no_pairs R i j d less l = absurd (omega (arith, l))

pub empty_orderly : IsOrderly empty_book
empty_orderly = record {
  next_terminus = omega arith;
  next_row = omega arith;
  termini = none_of (IsSoundTerminus 1);
  rows = λ k d l. absurd (omega (arith, l));
  termini_rise = no_pairs (λ (t u : Terminus). t.number.0 < u.number.0);
  rows_rise = no_pairs (λ (r s : Row). r.number.0 < s.number.0);
  keys = no_pairs (λ (t u : Terminus). same_key t.key u.key ≡ false);
  tags = no_pairs (λ (r s : Row). has_tag s.producer.0 s.tag.items r ≡ false);
  few_termini = omega arith;
  few_rows = omega arith;
}

pub empty_sound : IsSound empty_book
empty_sound = sound empty_book empty_orderly (record {
  rows = λ k d l. absurd (omega (arith, l));
  few_from = λ n. omega arith;
  few_waiting = λ n. omega arith;
})

-- A Make: what stood stands.

standing_make : (b : BookView) (t : Terminus) (next : ℕ) → IsStanding b
    → IsStanding (record b { termini = b.termini ++ t ∷ []; next_terminus = next })
standing_make b t next s = record {
  rows = All-weaker (Stands b.termini) (Stands (b.termini ++ t ∷ [])) still b.rows s.rows;
  few_from = s.few_from;
  few_waiting = s.few_waiting;
}
  where
    still : (r : Row) → Stands b.termini r → Stands (b.termini ++ t ∷ []) r
    still r k = record {
      producer = λ e. has_role_push Producer r.producer.0 b.termini t (k.producer e);
      consumer = λ e. may_bind_push r.consumer b.termini t (k.consumer e);
    }

-- An Admit: its row's termini stand, and there was room.

one_more : (b : Bool) (n m : ℕ) → n ≤ 64 → (b ≡ true → n < 64) → m ≡ n + cond b 1 0 → m ≤ 64
one_more true n m few room is = omega (arith, room refl, is)
one_more false n m few room is = omega (arith, few, is)

pub waiting_of : (o : Option TerminusNumber) (n : ℕ) (rs : List Row) → is_for_by n o ≡ true
    → undecided_for o rs ≡ count_by (keeps Consumer n) rs
waiting_of None n rs h = absurd cc
waiting_of (Some c) n rs h = ap (λ (k : ℕ). count_by (keeps Consumer k) rs) (eqb-true c.0 n h)

first_true : (b c : Bool) → (b && c) ≡ true → b ≡ true
first_true true c h = refl
first_true false c h = absurd cc

standing_admit : (b : BookView) (a : Admission) (next : ℕ) → MayAdmit b a → IsStanding b
    → IsStanding (record b { rows = b.rows ++ admitted a ∷ []; next_row = next })
standing_admit b a next may s = record {
  rows = All-push (Stands b.termini) b.rows (admitted a) s.rows
      (record { producer = λ e. may.producer; consumer = λ e. may.consumer });
  few_from = λ n. one_more (is_from n (admitted a)) (count_by (is_from n) b.rows)
      (count_by (is_from n) (b.rows ++ admitted a ∷ [])) (s.few_from n)
      (λ e. subst (λ (k : ℕ). count_by (is_from k) b.rows < 64) (eqb-true a.producer.0 n e) may.few_from)
      (count_push (is_from n) b.rows (admitted a));
  few_waiting = λ n. one_more (keeps Consumer n (admitted a)) (count_by (keeps Consumer n) b.rows)
      (count_by (keeps Consumer n) (b.rows ++ admitted a ∷ [])) (s.few_waiting n)
      (λ e. subst (λ (k : ℕ). k < 64)
      (waiting_of a.consumer n b.rows (first_true (is_for_by n a.consumer) true e)) may.few_waiting)
      (count_push (keeps Consumer n) b.rows (admitted a));
}

-- A Drop: no row kept its terminus.

pub fine_drop : (b : BookView) (n : ℕ) → IsOrderly b
    → IsOrderly (record b { termini = filter (λ (t : Terminus). not (t.number.0 == n)) b.termini })
fine_drop b n o = record {
  next_terminus = o.next_terminus;
  next_row = o.next_row;
  termini = All-filter (λ (t : Terminus). not (t.number.0 == n)) (IsSoundTerminus b.next_terminus) b.termini o.termini;
  rows = o.rows;
  termini_rise = AllPairs-filter (λ (t u : Terminus). t.number.0 < u.number.0)
      (λ (t : Terminus). not (t.number.0 == n)) b.termini o.termini_rise;
  rows_rise = o.rows_rise;
  keys = AllPairs-filter (λ (t u : Terminus). same_key t.key u.key ≡ false)
      (λ (t : Terminus). not (t.number.0 == n)) b.termini o.keys;
  tags = o.tags;
  few_termini = omega
      (arith, o.few_termini, at_most_filter (λ (t : Terminus). not (t.number.0 == n)) b.termini);
  few_rows = o.few_rows;
}

-- a row that keeps none of a terminus's
Spares : ℕ → List Terminus → Row → Type 0
Spares n ts r = (role : LinkRole) → has_role role (terminus_at n ts) ≡ true → keeps role n r ≡ false

module _ (n : ℕ) (ts : List Terminus) where
  spares : (rs : List Row) → ((role : LinkRole) → has_role role (terminus_at n ts) ≡ true
      → list_any (keeps role n) rs ≡ false)
      → AllByRecursion (Spares n ts) rs
  unfolding Spares
  spares [] h = tt
  spares (r ∷ rs) h = (
    λ role at. (each_fails (keeps role n) (r ∷ rs) (h role at)).0,
    spares rs (λ role at. rest (keeps role n r) (list_any (keeps role n) rs) (h role at)),
  )
    where
      rest : (b c : Bool) → (b || c) ≡ false → c ≡ false
      rest true c e = absurd cc
      rest false c e = e

  kept_by : (role : LinkRole) (m : ℕ) (r : Row) → has_role role (terminus_at m ts) ≡ true
      → ((m == n) ≡ true → keeps role n r ≡ true) → Spares n ts r
      → has_role role (terminus_at m (filter (λ (t : Terminus). not (t.number.0 == n)) ts)) ≡ true
  unfolding Spares
  kept_by role m r at keeps_it spared = by_case (m == n)
      (λ e. absurd (one_way (sym (spared role
      (subst (λ (k : ℕ). has_role role (terminus_at k ts) ≡ true) (eqb-true m n e) at)) ∙ keeps_it e)))
      (λ e. kept_role role m n ts e at)

  still_stands : (r : Row) → Stands ts r → Spares n ts r
      → Stands (filter (λ (t : Terminus). not (t.number.0 == n)) ts) r
  still_stands r k spared = record {
    producer = λ e. kept_by Producer r.producer.0 r (k.producer e) (λ same. rw (same, e) refl) spared;
    consumer = λ e. consumer e r.consumer refl (k.consumer e);
  }
    where
      consumer : r.outcome ≡ None → (o : Option TerminusNumber) → r.consumer ≡ o → may_bind o ts ≡ true
          → may_bind o (filter (λ (t : Terminus). not (t.number.0 == n)) ts) ≡ true
      consumer e None its at = refl
      consumer e (Some c) its at = kept_by Consumer c.0 r at
          (λ same. both (is_for_by n r.consumer) (is_none r.outcome) (ap (is_for_by n) its ∙ same) (ap is_none e))
          spared
        where
          both : (p q : Bool) → p ≡ true → q ≡ true → (p && q) ≡ true
          both p q e f = rw (e, f) refl

standing_drop : (b : BookView) (n : ℕ)
    → ((role : LinkRole) → has_role role (terminus_at n b.termini) ≡ true → list_any (keeps role n) b.rows ≡ false)
    → IsStanding b → IsStanding (record b { termini = filter (λ (t : Terminus). not (t.number.0 == n)) b.termini })
standing_drop b n none s = record {
  rows = All-from_recursion (Stands (filter (λ (t : Terminus). not (t.number.0 == n)) b.termini)) b.rows
      (each_both (Stands b.termini) (Spares n b.termini)
      (Stands (filter (λ (t : Terminus). not (t.number.0 == n)) b.termini)) (still_stands n b.termini) b.rows
      (recursion_from_All (Stands b.termini) b.rows s.rows) (spares n b.termini b.rows none));
  few_from = s.few_from;
  few_waiting = s.few_waiting;
}

-- Each act.

pub act_keeps : (b : BookView) (act : Act) → refusal b act ≡ None → IsSound b → IsSound (effect b act)
act_keeps b (Make t) h s =
    let may : MayMake b t = may_make b t h in
    sound (effect b (Make t))
    (fine_make b t (b.next_terminus + 1) (omega (arith, may.next)) (omega (arith, may.next)) may.new may.few may.short
    (orderly b s))
    (standing_make b t (b.next_terminus + 1) (standing b s))
act_keeps b (Admit a) h s =
    let may : MayAdmit b a = may_admit b a h in
    sound (effect b (Admit a))
    (fine_admit b a (b.next_row + 1) (omega (arith, may.next)) (omega (arith, may.next)) may.new may.few may.short
    (orderly b s))
    (standing_admit b a (b.next_row + 1) may (standing b s))
act_keeps b (Decide d) h s =
    let there = may_decide (row_at d.row.0 b.rows) d.outcome h in
    let comes : (r t : Row) → change_one d.row.0 (decided d.outcome) r ≡ Some t → Became r t =
    became_one d.row.0 (decided d.outcome) (λ r t. became_decided d.outcome r t there.3) in
    sound (effect b (Decide d))
    (fine_change (change_one d.row.0 (decided d.outcome)) comes b (orderly b s))
    (standing_change (change_one d.row.0 (decided d.outcome)) comes b (standing b s))
act_keeps b (Forget n) h s =
    let comes : (r t : Row) → change_one n.0 forgotten r ≡ Some t → Became r t =
    became_one n.0 forgotten became_forgotten in
    sound (effect b (Forget n))
    (fine_change (change_one n.0 forgotten) comes b (orderly b s))
    (standing_change (change_one n.0 forgotten) comes b (standing b s))
act_keeps b (Drop n) h s =
    sound (effect b (Drop n)) (fine_drop b n.0 (orderly b s))
    (standing_drop b n.0
    (λ role at. free (terminus_at n.0 b.termini) b.rows role n.0 h
    (λ t e. found_number number_of_make n.0 b.termini t e) at)
    (standing b s))

pub acts_keep : (b : BookView) (acts : List Act) → first_fault b acts ≡ None → IsSound b → IsSound (effects b acts)
unfolding first_fault effects
acts_keep b [] h s = s
acts_keep b (act ∷ acts) h s =
    acts_keep (effect b act) acts (rest_none (refusal b act) (first_fault (effect b act) acts) h)
    (act_keeps b act (first_none (refusal b act) (first_fault (effect b act) acts) h) s)
