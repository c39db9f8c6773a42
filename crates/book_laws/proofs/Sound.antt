-- A sound book stays sound, act by act.
use Rattle.std.proofs.Common.{◌≡◌, ◌∙◌, sym, ap, refl, subst, ℕ, ◌≤◌, ◌<◌, Bool, true, false, cond, not, ◌&&◌, List, [], ◌∷◌, ◌++◌, length, arith, Option, Some, None}
use Rattle.std.specs.Prelude.{◌==◌, filter_map, is_some, is_none, count_by}
use Rattle.std.specs.List.{All, AllPairs, list_any}
use Rattle.std.proofs.lemmas.Bool.{and_parts}
use Rattle.std.proofs.lemmas.List.{length_push}
use Rattle.std.proofs.lemmas.List.Elements.{All-from_recursion, recursion_from_All, All-push, All-weaker}
use Rattle.amqp_model.specs.declared.state.DeliveryState.{DeliveryState}
use Rattle.amqp_model.specs.PerfSpelling.{state_spelling}
use Rattle.book_model.specs.declared.act.Admission.{Admission}
use Rattle.book_model.specs.declared.row.Row.{Row}
use Rattle.book_model.specs.declared.terminus.LinkRole.TheVariants.{Producer, Consumer}
use Rattle.book_model.specs.declared.terminus.Terminus.{Terminus}
use Rattle.book_model.specs.declared.terminus.TerminusNumber.{TerminusNumber}
use Rattle.book_model.specs.Book.{BookView, admitted, decided, forgotten, terminus_at, has_role, may_bind, has_tag, has_short_texts, is_from, is_for, is_for_by, is_undecided, keeps, same_bytes, same_key}
use Rattle.book_model.specs.Sound.{IsSound, IsSoundTerminus, IsSoundRow, IsShortOutcome}
use Rattle.book_laws.proofs.Lists.{pairs_of, all_pairs, pairs_push, each_changed, pairs_changed, count_changed, fewer, each_fails}
use Rattle.book_laws.proofs.Searching.{one_way, some_same}

-- What each book is whose acts were read so far, whether or not its termini stand.

pub record IsFineRow (next : ℕ) (r : Row) : Type 0 where
  pub above : 0 < r.number.0
  pub below : r.number.0 < next
  pub payload : length r.payload ≤ 65536
  pub outcome : IsShortOutcome r.outcome
  pub stays : (is_some r.outcome && r.forgotten) ≡ false

pub record IsOrderly (b : BookView) : Type 0 where
  pub next_terminus : 0 < b.next_terminus
  pub next_row : 0 < b.next_row
  pub termini : All (IsSoundTerminus b.next_terminus) b.termini
  pub rows : All (IsFineRow b.next_row) b.rows
  pub termini_rise : AllPairs (λ (t u : Terminus). t.number.0 < u.number.0) b.termini
  pub rows_rise : AllPairs (λ (r s : Row). r.number.0 < s.number.0) b.rows
  pub keys : AllPairs (λ (t u : Terminus). same_key t.key u.key ≡ false) b.termini
  pub tags : AllPairs (λ (r s : Row). has_tag s.producer.0 s.tag.items r ≡ false) b.rows
  pub few_termini : length b.termini ≤ 1024
  pub few_rows : length b.rows ≤ 4096

-- and what a book has besides

pub record Stands (ts : List Terminus) (r : Row) : Type 0 where
  pub producer : r.forgotten ≡ false → has_role Producer (terminus_at r.producer.0 ts) ≡ true
  pub consumer : r.outcome ≡ None → may_bind r.consumer ts ≡ true

pub record IsStanding (b : BookView) : Type 0 where
  pub rows : All (Stands b.termini) b.rows
  pub few_from : (n : ℕ) → count_by (is_from n) b.rows ≤ 64
  pub few_waiting : (n : ℕ) → count_by (keeps Consumer n) b.rows ≤ 64

module _ (ts : List Terminus) (next : ℕ) where
  fine_row : (r : Row) → IsSoundRow ts next r → IsFineRow next r
  fine_row r s = record { above = s.above; below = s.below; payload = s.payload; outcome = s.outcome; stays = s.stays }

  standing_row : (r : Row) → IsSoundRow ts next r → Stands ts r
  standing_row r s = record { producer = s.producer; consumer = s.consumer }

pub orderly : (b : BookView) → IsSound b → IsOrderly b
orderly b s = record {
  next_terminus = s.next_terminus;
  next_row = s.next_row;
  termini = s.termini;
  rows = All-weaker (IsSoundRow b.termini b.next_row) (IsFineRow b.next_row)
      (fine_row b.termini b.next_row) b.rows s.rows;
  termini_rise = s.termini_rise;
  rows_rise = s.rows_rise;
  keys = s.keys;
  tags = s.tags;
  few_termini = s.few_termini;
  few_rows = s.few_rows;
}

pub standing : (b : BookView) → IsSound b → IsStanding b
standing b s = record {
  rows = All-weaker (IsSoundRow b.termini b.next_row) (Stands b.termini)
      (standing_row b.termini b.next_row) b.rows s.rows;
  few_from = s.few_from;
  few_waiting = s.few_waiting;
}

pub sound : (b : BookView) → IsOrderly b → IsStanding b → IsSound b
sound b o s = record {
  next_terminus = o.next_terminus;
  next_row = o.next_row;
  termini = o.termini;
  rows = λ k d l. both (o.rows k d l) (s.rows k d l);
  termini_rise = o.termini_rise;
  rows_rise = o.rows_rise;
  keys = o.keys;
  tags = o.tags;
  few_termini = o.few_termini;
  few_rows = o.few_rows;
  few_from = s.few_from;
  few_waiting = s.few_waiting;
}
  where
    both : {r : Row} → IsFineRow b.next_row r → Stands b.termini r → IsSoundRow b.termini b.next_row r
    both f g = record {
      above = f.above;
      below = f.below;
      payload = f.payload;
      outcome = f.outcome;
      stays = f.stays;
      producer = g.producer;
      consumer = g.consumer;
    }

-- A terminus is made. Its number is the next one, or a later one.

module _ {V : Type 0} (number : V → ℕ) where
  pub later : (n m : ℕ) → n ≤ m → (v : V) → number v < n → number v < m
  later n m le v l = omega (arith, le, l)

pub fine_make : (b : BookView) (t : Terminus) (next : ℕ) → b.next_terminus ≤ t.number.0 → t.number.0 < next
    → list_any (λ u. same_key u.key t.key) b.termini ≡ false → length b.termini < 1024 → has_short_texts t ≡ true
    → IsOrderly b → IsOrderly (record b { termini = b.termini ++ t ∷ []; next_terminus = next })
fine_make b t next from low new few short o = record {
  next_terminus = omega (arith, low);
  next_row = o.next_row;
  termini = All-push (IsSoundTerminus next) b.termini t
      (All-weaker (IsSoundTerminus b.next_terminus) (IsSoundTerminus next) lower b.termini o.termini)
      (record { above = omega (arith, o.next_terminus, from); below = low; short = short });
  rows = o.rows;
  termini_rise = all_pairs (λ (t u : Terminus). t.number.0 < u.number.0) (b.termini ++ t ∷ [])
      (pairs_push (λ (t u : Terminus). t.number.0 < u.number.0) b.termini t
      (pairs_of (λ (t u : Terminus). t.number.0 < u.number.0) b.termini o.termini_rise)
      (recursion_from_All (λ (u : Terminus). u.number.0 < t.number.0) b.termini
      (All-weaker (IsSoundTerminus b.next_terminus) (λ (u : Terminus). u.number.0 < t.number.0) before b.termini
      o.termini)));
  rows_rise = o.rows_rise;
  keys = all_pairs (λ (t u : Terminus). same_key t.key u.key ≡ false) (b.termini ++ t ∷ [])
      (pairs_push (λ (t u : Terminus). same_key t.key u.key ≡ false) b.termini t
      (pairs_of (λ (t u : Terminus). same_key t.key u.key ≡ false) b.termini o.keys)
      (each_fails (λ (u : Terminus). same_key u.key t.key) b.termini new));
  tags = o.tags;
  few_termini = omega (arith, few, length_push b.termini t);
  few_rows = o.few_rows;
}
  where
    lower : (u : Terminus) → IsSoundTerminus b.next_terminus u → IsSoundTerminus next u
    lower u s = record { above = s.above; below = omega (arith, s.below, from, low); short = s.short }

    before : (u : Terminus) → IsSoundTerminus b.next_terminus u → u.number.0 < t.number.0
    before u s = omega (arith, s.below, from)

-- A row is admitted, likewise.

pub fine_admit : (b : BookView) (a : Admission) (next : ℕ) → b.next_row ≤ a.row.0 → a.row.0 < next
    → list_any (has_tag a.producer.0 a.tag.items) b.rows ≡ false → length b.rows < 4096 → length a.payload ≤ 65536
    → IsOrderly b → IsOrderly (record b { rows = b.rows ++ admitted a ∷ []; next_row = next })
fine_admit b a next from low new few short o = record {
  next_terminus = o.next_terminus;
  next_row = omega (arith, low);
  termini = o.termini;
  rows = All-push (IsFineRow next) b.rows (admitted a)
      (All-weaker (IsFineRow b.next_row) (IsFineRow next) lower b.rows o.rows)
      (record { above = omega (arith, o.next_row, from); below = low; payload = short; outcome = tt; stays = refl });
  termini_rise = o.termini_rise;
  rows_rise = all_pairs (λ (r s : Row). r.number.0 < s.number.0) (b.rows ++ admitted a ∷ [])
      (pairs_push (λ (r s : Row). r.number.0 < s.number.0) b.rows (admitted a)
      (pairs_of (λ (r s : Row). r.number.0 < s.number.0) b.rows o.rows_rise)
      (recursion_from_All (λ (r : Row). r.number.0 < a.row.0) b.rows
      (All-weaker (IsFineRow b.next_row) (λ (r : Row). r.number.0 < a.row.0) before b.rows o.rows)));
  keys = o.keys;
  tags = all_pairs (λ (r s : Row). has_tag s.producer.0 s.tag.items r ≡ false) (b.rows ++ admitted a ∷ [])
      (pairs_push (λ (r s : Row). has_tag s.producer.0 s.tag.items r ≡ false) b.rows (admitted a)
      (pairs_of (λ (r s : Row). has_tag s.producer.0 s.tag.items r ≡ false) b.rows o.tags)
      (each_fails (has_tag a.producer.0 a.tag.items) b.rows new));
  few_termini = o.few_termini;
  few_rows = omega (arith, few, length_push b.rows (admitted a));
}
  where
    lower : (r : Row) → IsFineRow b.next_row r → IsFineRow next r
    lower r s = record {
      above = s.above;
      below = omega (arith, s.below, from, low);
      payload = s.payload;
      outcome = s.outcome;
      stays = s.stays;
    }

    before : (r : Row) → IsFineRow b.next_row r → r.number.0 < a.row.0
    before r s = omega (arith, s.below, from)

-- A row is changed, or leaves.

pub record Became (r s : Row) : Type 0 where
  pub number : s.number ≡ r.number
  pub producer : s.producer ≡ r.producer
  pub tag : s.tag ≡ r.tag
  pub consumer : s.consumer ≡ r.consumer
  pub payload : s.payload ≡ r.payload
  pub forgotten : s.forgotten ≡ false → r.forgotten ≡ false
  pub undecided : s.outcome ≡ None → r.outcome ≡ None
  pub outcome : IsShortOutcome r.outcome → IsShortOutcome s.outcome
  pub stays : (is_some r.outcome && r.forgotten) ≡ false → (is_some s.outcome && s.forgotten) ≡ false

itself : (r s : Row) → Some r ≡ Some s → Became r s
itself r s e =
    let same : r ≡ s = some_same e in
    subst (Became r) same (record {
      number = refl;
      producer = refl;
      tag = refl;
      consumer = refl;
      payload = refl;
      forgotten = λ f. f;
      undecided = λ u. u;
      outcome = λ o. o;
      stays = λ k. k;
    })

-- a row that a Decide decides
pub became_decided : (outcome : DeliveryState) (r s : Row) → length (state_spelling outcome) ≤ 400
    → decided outcome r ≡ Some s
    → Became r s
became_decided outcome r s short = by r.forgotten refl
  where
    by : (f : Bool) → r.forgotten ≡ f → cond f None (Some (record r { outcome = Some outcome })) ≡ Some s → Became r s
    by true is e = absurd cc
    by false is e = subst (Became r) (some_same e) (record {
      number = refl;
      producer = refl;
      tag = refl;
      consumer = refl;
      payload = refl;
      forgotten = λ f. f;
      undecided = λ u. absurd cc;
      outcome = λ o. short;
      stays = λ k. is;
    })

-- a row that a Forget forgets
pub became_forgotten : (r s : Row) → forgotten r ≡ Some s → Became r s
became_forgotten r s = by r.outcome refl
  where
    by : (o : Option DeliveryState) → r.outcome ≡ o
        → cond (is_some o) None (Some (record r { forgotten = true })) ≡ Some s
        → Became r s
    by (Some outcome) is e = absurd cc
    by None is e = subst (Became r) (some_same e) (record {
      number = refl;
      producer = refl;
      tag = refl;
      consumer = refl;
      payload = refl;
      forgotten = λ f. absurd (one_way (sym f));
      undecided = λ u. u;
      outcome = λ o. o;
      stays = λ k. ap (λ (x : Option DeliveryState). is_some x && true) is;
    })

-- the one of a number is changed
abbrev pub change_one : ℕ → (Row → Option Row) → Row → Option Row
change_one n change r = cond (r.number.0 == n) (change r) (Some r)

pub became_one : (n : ℕ) (change : Row → Option Row) → ((r s : Row) → change r ≡ Some s → Became r s) → (r s : Row)
    → change_one n change r ≡ Some s → Became r s
became_one n change comes r s = by (r.number.0 == n)
  where
    by : (b : Bool) → cond b (change r) (Some r) ≡ Some s → Became r s
    by true e = comes r s e
    by false e = itself r s e

-- a tag that a row doesn't have isn't had by what it became
no_tag : (p : ℕ) (tag : List ℕ) (r s : Row) → Became r s → has_tag p tag r ≡ false → has_tag p tag s ≡ false
no_tag p tag r s was none =
    ap (λ (n : TerminusNumber). n.0 == p && not s.forgotten && same_bytes s.tag.items tag) was.producer
    ∙ ap (λ (bytes : List ℕ). r.producer.0 == p && not s.forgotten && same_bytes bytes tag) (λ i. (was.tag i).items)
    ∙ by (r.producer.0 == p) r.forgotten s.forgotten (same_bytes r.tag.items tag) was.forgotten none
  where
    by : (a f g c : Bool) → (g ≡ false → f ≡ false) → (a && not f && c) ≡ false → (a && not g && c) ≡ false
    by false f g c k h = refl
    by true f true c k h = refl
    by true false false c k h = h
    by true true false c k h = absurd (one_way (sym (k refl)))

module _ (change : Row → Option Row) (comes : (r s : Row) → change r ≡ Some s → Became r s) where
  pub fine_change : (b : BookView) → IsOrderly b → IsOrderly (record b { rows = filter_map change b.rows })
  fine_change b o = record {
    next_terminus = o.next_terminus;
    next_row = o.next_row;
    termini = o.termini;
    rows = All-from_recursion (IsFineRow b.next_row) (filter_map change b.rows)
        (each_changed (IsFineRow b.next_row) (IsFineRow b.next_row) change still b.rows
        (recursion_from_All (IsFineRow b.next_row) b.rows o.rows));
    termini_rise = o.termini_rise;
    rows_rise = all_pairs (λ (r s : Row). r.number.0 < s.number.0) (filter_map change b.rows)
        (pairs_changed (λ (r s : Row). r.number.0 < s.number.0) change rising b.rows
        (pairs_of (λ (r s : Row). r.number.0 < s.number.0) b.rows o.rows_rise));
    keys = o.keys;
    tags = all_pairs (λ (r s : Row). has_tag s.producer.0 s.tag.items r ≡ false) (filter_map change b.rows)
        (pairs_changed (λ (r s : Row). has_tag s.producer.0 s.tag.items r ≡ false) change apart b.rows
        (pairs_of (λ (r s : Row). has_tag s.producer.0 s.tag.items r ≡ false) b.rows o.tags));
    few_termini = o.few_termini;
    few_rows = omega (arith, o.few_rows, fewer change b.rows);
  }
    where
      still : (r s : Row) → change r ≡ Some s → IsFineRow b.next_row r → IsFineRow b.next_row s
      still r s e f =
          let was = comes r s e in
          let same : s.number.0 ≡ r.number.0 = λ i. (was.number i).0 in
          record {
            above = omega (arith, f.above, same);
            below = omega (arith, f.below, same);
            payload = omega (arith, f.payload, ap length was.payload);
            outcome = was.outcome f.outcome;
            stays = was.stays f.stays;
          }

      rising : (r s r' s' : Row) → change r ≡ Some r' → change s ≡ Some s' → r.number.0 < s.number.0
          → r'.number.0 < s'.number.0
      rising r s r' s' e g l =
          let one : r'.number.0 ≡ r.number.0 = λ i. ((comes r r' e).number i).0 in
          let other : s'.number.0 ≡ s.number.0 = λ i. ((comes s s' g).number i).0 in
          omega (arith, l, one, other)

      apart : (r s r' s' : Row) → change r ≡ Some r' → change s ≡ Some s' → has_tag s.producer.0 s.tag.items r ≡ false
          → has_tag s'.producer.0 s'.tag.items r' ≡ false
      apart r s r' s' e g none =
          let was = comes s s' g in
          (λ i. has_tag (was.producer i).0 (was.tag i).items r')
          ∙ no_tag s.producer.0 s.tag.items r r' (comes r r' e) none

  pub standing_change : (b : BookView) → IsStanding b → IsStanding (record b { rows = filter_map change b.rows })
  standing_change b s = record {
    rows = All-from_recursion (Stands b.termini) (filter_map change b.rows)
        (each_changed (Stands b.termini) (Stands b.termini) change still b.rows
        (recursion_from_All (Stands b.termini) b.rows s.rows));
    few_from = λ n. omega (arith, s.few_from n, count_changed (is_from n) change (from n) b.rows);
    few_waiting = λ n. omega
        (arith, s.few_waiting n, count_changed (keeps Consumer n) change (waits n) b.rows);
  }
    where
      still : (r t : Row) → change r ≡ Some t → Stands b.termini r → Stands b.termini t
      still r t e k =
          let was = comes r t e in
          record {
            producer = λ f. (λ i. has_role Producer (terminus_at (was.producer i).0 b.termini))
                ∙ k.producer (was.forgotten f);
            consumer = λ f. (λ i. may_bind (was.consumer i) b.termini) ∙ k.consumer (was.undecided f);
          }

      from : (n : ℕ) (r t : Row) → change r ≡ Some t → is_from n t ≡ true → is_from n r ≡ true
      from n r t e h = sym (λ i. ((comes r t e).producer i).0 == n) ∙ h

      unset : (o p : Option DeliveryState) → (o ≡ None → p ≡ None) → is_none o ≡ true → is_none p ≡ true
      unset None None k h = refl
      unset None (Some outcome) k h = absurd (let no : Some outcome ≡ None = k refl in cc)
      unset (Some outcome) p k h = absurd cc

      waits : (n : ℕ) (r t : Row) → change r ≡ Some t → keeps Consumer n t ≡ true → keeps Consumer n r ≡ true
      waits n r t e h =
          let was = comes r t e in
          let both = and_parts (is_for n t) (is_undecided t) h in
          rw ((sym (ap (is_for_by n) was.consumer) ∙ both.0), unset t.outcome r.outcome was.undecided both.1) refl
