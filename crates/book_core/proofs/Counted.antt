-- Counts of a table's values, through changes.
use Rattle.std.proofs.Common.{◌≡◌, ℕ, ◌<◌, ◌≤◌, ◌+◌, ◌-◌, Bool, true, false, cond, not, ◌&&◌, ◌||◌, List, [], ◌∷◌, ◌++◌, length, Option, Some, None, refl, arith, ap, ◌∙◌, sym}
use Rattle.std.specs.Prelude.{find, filter_map, count_by, is_some, is_none, nat_lt, ◌==◌}
use Rattle.std.specs.List.{cons_option}
use Rattle.std.specs.Option.{unwrap_or}
use Rattle.std.specs.Ordering.{nat_cmp, is_eq}
use Rattle.std.proofs.lemmas.Bool.Decides.{nat_tests}
use Rattle.std.proofs.lemmas.List.Sums.{sum_by-cons, sum_by_push}
use Rattle.amqp_model.specs.declared.state.DeliveryState.{DeliveryState}
use Rattle.book_model.specs.declared.row.Row.{Row}
use Rattle.book_model.specs.declared.terminus.LinkRole.TheVariants.{Producer, Consumer}
use Rattle.book_model.specs.declared.terminus.TerminusNumber.{TerminusNumber}
use Rattle.book_model.specs.Book.{is_from, is_for, is_for_by, keeps, decided, forgotten, admitted, has_tag, row_at, with_row}
use Rattle.std.specs.List.{list_any}
use Rattle.book_model.specs.declared.act.Admission.{Admission}
use Rattle.book_core.specs.declared.row_index.RowIndex.{RowIndex}
use Rattle.book_core.specs.declared.row_name.RowName.{RowName}
use Rattle.book_core.specs.Indexed.{one_for, left_by, IsIndexed}
use Rattle.book_core.specs.Named.{name_cmp, name_of}
use Rattle.book_core.specs.Numbers.{number_at}
use Rattle.book_core.proofs.Named.{named_more, named_set, named_here, named_decided, named_same, named_at, named_forgotten}
use Rattle.book_core.specs.Rising.{Rises, AllAbove}
use Rattle.book_core.proofs.Shown.{changed_none}

number_is : (a n : ℕ) → (a == n) ≡ true → a ≡ n
number_is a n h = grind (arith, nat_tests)

same_test : (k q : ℕ) → is_eq (nat_cmp k q) ≡ (k == q)
same_test k q = grind (arith, nat_tests)

set_to : (b : Bool) (x y one : ℕ) → (b ≡ true → x ≡ y + 1) → cond b x y ≡ y + cond b 1 0
set_to true x y one h = h refl
set_to false x y one h = omega arith

-- one more at k
pub one_more : (f g : ℕ → ℕ) (k more : ℕ) → ((q : ℕ) → g q ≡ cond (is_eq (nat_cmp k q)) more (f q)) → more ≡ f k + 1 → (q : ℕ) → g q ≡ f q + cond (k == q) 1 0
one_more f g k more set is q =
    set q ∙ ap (λ b. cond b more (f q)) (same_test k q) ∙ set_to (k == q) more (f q) 1 (λ t. is ∙ ap (λ n. f n + 1) (number_is k q t))

set_down : (b : Bool) (x y : ℕ) → (b ≡ true → x ≡ y - 1) → cond b x y ≡ y - cond b 1 0
set_down true x y h = h refl
set_down false x y h = omega arith

-- one less at k
pub one_less : (f g : ℕ → ℕ) (k less : ℕ) → ((q : ℕ) → g q ≡ cond (is_eq (nat_cmp k q)) less (f q)) → less ≡ f k - 1 → (q : ℕ) → g q ≡ f q - cond (k == q) 1 0
one_less f g k less set is q =
    set q ∙ ap (λ b. cond b less (f q)) (same_test k q) ∙ set_down (k == q) less (f q) (λ t. is ∙ ap (λ n. f n - 1) (number_is k q t))

swap : (x y o c g : ℕ) → x ≡ o + c → y ≡ g + c → x + g ≡ y + o
swap x y o c g a b = omega (arith, a, b)

carry : (x y w k l o g : ℕ) → x ≡ w + k → y ≡ w + l → k + g ≡ l + o → x + g ≡ y + o
carry x y w k l o g a b h = omega (arith, a, b, h)

module _ {V : Type 0} (name : V → ℕ) where
  -- one, where there is a value that passes
  abbrev pub one : (V → Bool) → Option V → ℕ
  one p None = 0
  one p (Some v) = cond (p v) 1 0

  count_option : (p : V → Bool) (o : Option V) (vs : List V) → count_by p (cons_option o vs) ≡ one p o + count_by p vs
  count_option p None vs = omega arith
  count_option p (Some v) vs = sum_by-cons (λ w. cond (p w) 1 0) v vs

  pub count_more : (p : V → Bool) (vs : List V) (v : V) → count_by p (vs ++ v ∷ []) ≡ count_by p vs + cond (p v) 1 0
  count_more p vs v = sum_by_push (λ w. cond (p w) 1 0) vs v

  none_above : (n m : ℕ) (vs : List V) → n ≤ m → AllAbove name m vs → find (λ v. name v == n) vs ≡ None
  none_above n m [] le above = refl
  none_above n m (v ∷ vs) le above = by_bool (name v == n) refl (none_above n m vs le above.1)
    where
      by_bool : (b : Bool) → (name v == n) ≡ b → find (λ v. name v == n) vs ≡ None → cond b (Some v) (find (λ v. name v == n) vs) ≡ None
      by_bool true e rest = absurd (let same = number_is (name v) n e in let higher : m < name v = above.0 in omega (arith, same, le, higher))
      by_bool false e rest = rest

  same_value : (v w : V) → Some v ≡ Some w → v ≡ w
  same_value v w h = ap (λ (o : Option V). unwrap_or o v) h

  -- how many pass when the value named n is changed
  pub count_changed : (p : V → Bool) (n : ℕ) (change : V → Option V) (vs : List V) (old : V) → Rises name vs → find (λ v. name v == n) vs ≡ Some old
      → count_by p (filter_map (λ v. cond (name v == n) (change v) (Some v)) vs) + cond (p old) 1 0 ≡ count_by p vs + one p (change old)
  count_changed p n change [] old up found = absurd cc
  count_changed p n change (v ∷ vs) old up found = by_bool (name v == n) refl found (λ h. count_changed p n change vs old up.1 h)
    where
      others : List V
      others = filter_map (λ v. cond (name v == n) (change v) (Some v)) vs

      by_bool : (b : Bool) → (name v == n) ≡ b → cond b (Some v) (find (λ v. name v == n) vs) ≡ Some old
          → (find (λ v. name v == n) vs ≡ Some old → count_by p others + cond (p old) 1 0 ≡ count_by p vs + one p (change old))
          → count_by p (cons_option (cond b (change v) (Some v)) others) + cond (p old) 1 0 ≡ count_by p (v ∷ vs) + one p (change old)
      by_bool true e h rest =
          let it = same_value v old h in
          let same = changed_none name n change vs (none_above n (name v) vs (let num = number_is (name v) n e in omega (arith, num)) up.0) in
          swap (count_by p (cons_option (change v) others)) (count_by p (v ∷ vs)) (one p (change old)) (count_by p vs) (cond (p old) 1 0)
          (count_option p (change v) others ∙ ap (λ o. one p (change o) + count_by p others) it ∙ ap (λ ws. one p (change old) + count_by p ws) same)
          (sum_by-cons (λ w. cond (p w) 1 0) v vs ∙ ap (λ w. cond (p w) 1 0 + count_by p vs) it)
      by_bool false e h rest =
          carry (count_by p (v ∷ others)) (count_by p (v ∷ vs)) (cond (p v) 1 0) (count_by p others) (count_by p vs) (one p (change old)) (cond (p old) 1 0)
          (sum_by-cons (λ w. cond (p w) 1 0) v others) (sum_by-cons (λ w. cond (p w) 1 0) v vs) (rest h)

  pub count_all : (vs : List V) → length vs ≡ count_by (λ _. true) vs
  count_all [] = refl
  count_all (v ∷ vs) = rw (sum_by-cons (λ _. cond true 1 0) v vs, ← count_all vs) (omega arith)

module _ {V : Type 0} (name : V → ℕ) where
  one_true : (o : Option V) → one name (λ _. true) o ≡ cond (is_some o) 1 0
  one_true None = refl
  one_true (Some v) = refl

  length_by : (b : Bool) (m k : ℕ) → m + 1 ≡ k + cond b 1 0 → cond b k (k - 1) ≡ m
  length_by true m k h = omega (arith, h)
  length_by false m k h = omega (arith, h)

  -- how many there are when the value named n is changed
  pub length_changed : (n : ℕ) (change : V → Option V) (vs : List V) (old : V) → Rises name vs → find (λ v. name v == n) vs ≡ Some old
      → cond (is_some (change old)) (length vs) (length vs - 1) ≡ length (filter_map (λ v. cond (name v == n) (change v) (Some v)) vs)
  length_changed n change vs old up found =
      let after = filter_map (λ v. cond (name v == n) (change v) (Some v)) vs in
      let counted = count_changed name (λ _. true) n change vs old up found in
      length_by (is_some (change old)) (length after) (length vs)
      (ap (λ m. m + 1) (count_all name after) ∙ counted ∙ ap (λ m. m + one name (λ _. true) (change old)) (sym (count_all name vs)) ∙ ap (λ m. length vs + m) (one_true (change old)))

  pub length_more : (vs : List V) (v : V) → length (vs ++ v ∷ []) ≡ length vs + 1
  length_more [] v = refl
  length_more (w ∷ vs) v = let more = length_more vs v in omega (arith, more)

zero_more : (n : ℕ) → n ≡ 0 + n
zero_more n = omega arith

-- whether any passes, by the number of those that do
pub any_counted : {V : Type 0} (p : V → Bool) (vs : List V) → list_any p vs ≡ nat_lt 0 (count_by p vs)
any_counted p [] = refl
any_counted p (v ∷ vs) = by_bool (p v) (any_counted p vs) ∙ ap (nat_lt 0) (sym (sum_by-cons (λ w. cond (p w) 1 0) v vs))
  where
    by_bool : (b : Bool) → list_any p vs ≡ nat_lt 0 (count_by p vs) → (b || list_any p vs) ≡ nat_lt 0 (cond b 1 0 + count_by p vs)
    by_bool true rest = grind (arith, nat_tests)
    by_bool false rest = rest ∙ ap (nat_lt 0) (zero_more (count_by p vs))

abbrev pub number_of_row : Row → ℕ
number_of_row r = r.number.0

not_both : (b : Bool) → (b && false) ≡ false
not_both true = refl
not_both false = refl

both : (b : Bool) → (b && true) ≡ b
both true = refl
both false = refl

-- what a row counts for a terminus, by the consumer's number
pub waits_one : (c : Option TerminusNumber) (n : ℕ) → cond (is_for_by n c && true) 1 0 ≡ one_for c n
waits_one None n = refl
waits_one (Some t) n = ap (λ b. cond b 1 0) (both (t.0 == n))

from_left : (n : ℕ) (r s : Row) (b : Bool) (m k : ℕ) → s.producer.0 ≡ r.producer.0 → m + cond (is_from n r) 1 0 ≡ k + one number_of_row (is_from n) (cond b None (Some s)) → m ≡ k - one_for (left_by b r) n
from_left n r s true m k same h = omega (arith, h)
from_left n r s false m k same h = let now : m + cond (r.producer.0 == n) 1 0 ≡ k + cond (r.producer.0 == n) 1 0 = rw same at h in omega (arith, now)

waits_decided : (n : ℕ) (outcome : DeliveryState) (r : Row) (b : Bool) → one number_of_row (keeps Consumer n) (cond b None (Some (record r { outcome = Some outcome }))) ≡ 0
waits_decided n outcome r true = refl
waits_decided n outcome r false = ap (λ t. cond t 1 0) (not_both (is_for n r))

waits_forgotten : (n : ℕ) (r : Row) (o : Option DeliveryState) → r.outcome ≡ o → one number_of_row (keeps Consumer n) (cond (is_some o) None (Some (record r { forgotten = true }))) ≡ cond (keeps Consumer n r) 1 0
waits_forgotten n r None e = refl
waits_forgotten n r (Some outcome) e = sym (ap (λ (x : Option DeliveryState). cond (is_for n r && is_none x) 1 0) e ∙ ap (λ t. cond t 1 0) (not_both (is_for n r)))

open_decided : (n : ℕ) (outcome : DeliveryState) (r : Row) (b : Bool) → r.forgotten ≡ b → one number_of_row (keeps Producer n) (cond b None (Some (record r { outcome = Some outcome }))) ≡ cond (keeps Producer n r) 1 0
open_decided n outcome r true e = sym (ap (λ b. cond (is_from n r && not b) 1 0) e ∙ ap (λ t. cond t 1 0) (not_both (is_from n r)))
open_decided n outcome r false e = refl

open_forgotten : (n : ℕ) (r : Row) (b : Bool) → one number_of_row (keeps Producer n) (cond b None (Some (record r { forgotten = true }))) ≡ 0
open_forgotten n r true = refl
open_forgotten n r false = ap (λ t. cond t 1 0) (not_both (is_from n r))

down : (m k a z one : ℕ) → m + a ≡ k + z → z ≡ 0 → a ≡ one → m ≡ k - one
down m k a z one h e f = omega (arith, h, e, f)

level : (m k a z : ℕ) → m + a ≡ k + z → z ≡ a → k ≡ m
level m k a z h e = omega (arith, h, e)

module _ (old new : RowIndex) (rs : List Row) (s : IsIndexed old rs) where
  pub indexed_admitted : (a : Admission) → list_any (has_tag a.producer.0 a.tag.items) rs ≡ false
      → ((q : RowName) → number_at name_cmp new.names q ≡ cond (is_eq (name_cmp (record { producer = a.producer.0; tag = a.tag }) q)) a.row.0 (number_at name_cmp old.names q))
      → ((n : ℕ) → number_at nat_cmp new.from n ≡ number_at nat_cmp old.from n + one_for (Some a.producer) n)
      → ((n : ℕ) → number_at nat_cmp new.unforgotten n ≡ number_at nat_cmp old.unforgotten n + one_for (Some a.producer) n)
      → ((n : ℕ) → number_at nat_cmp new.waiting n ≡ number_at nat_cmp old.waiting n + one_for a.consumer n)
      → IsIndexed new (rs ++ admitted a ∷ [])
  indexed_admitted a free set from unforgotten waiting = record {
    named = named_more new.names rs (admitted a)
        (named_set old.names new.names (record { producer = a.producer.0; tag = a.tag }) a.row.0 set rs free s.named)
        (named_here old.names new.names (record { producer = a.producer.0; tag = a.tag }) a.row.0 set (admitted a) refl refl);
    from = λ n. from n ∙ ap (λ m. m + one_for (Some a.producer) n) (s.from n) ∙ sym (count_more number_of_row (is_from n) rs (admitted a));
    unforgotten = λ n. unforgotten n ∙ ap (λ m. m + one_for (Some a.producer) n) (s.unforgotten n) ∙ ap (λ m. count_by (keeps Producer n) rs + m) (sym (waits_one (Some a.producer) n)) ∙ sym (count_more number_of_row (keeps Producer n) rs (admitted a));
    waiting = λ n. waiting n ∙ ap (λ m. m + one_for a.consumer n) (s.waiting n) ∙ ap (λ m. count_by (keeps Consumer n) rs + m) (sym (waits_one a.consumer n)) ∙ sym (count_more number_of_row (keeps Consumer n) rs (admitted a));
  }

  module _ (up : Rises (λ (r : Row). r.number.0) rs) (n : ℕ) (r : Row) (found : row_at n rs ≡ Some r) where
    pub indexed_decided : (outcome : DeliveryState) → r.outcome ≡ None → ((q : RowName) → number_at name_cmp new.names q ≡ number_at name_cmp old.names q)
        → ((m : ℕ) → number_at nat_cmp new.from m ≡ number_at nat_cmp old.from m - one_for (left_by r.forgotten r) m)
        → ((m : ℕ) → number_at nat_cmp new.unforgotten m ≡ number_at nat_cmp old.unforgotten m)
        → ((m : ℕ) → number_at nat_cmp new.waiting m ≡ number_at nat_cmp old.waiting m - one_for r.consumer m)
        → IsIndexed new (with_row n (decided outcome) rs)
    indexed_decided outcome undecided same from unforgotten waiting = record {
      named = named_decided new.names outcome n rs (named_same old.names new.names same rs s.named);
      from = λ m. from m ∙ ap (λ k. k - one_for (left_by r.forgotten r) m) (s.from m)
          ∙ sym (from_left m r (record r { outcome = Some outcome }) r.forgotten (count_by (is_from m) (with_row n (decided outcome) rs)) (count_by (is_from m) rs) refl (count_changed number_of_row (is_from m) n (decided outcome) rs r up found));
      unforgotten = λ m. unforgotten m ∙ s.unforgotten m
          ∙ level (count_by (keeps Producer m) (with_row n (decided outcome) rs)) (count_by (keeps Producer m) rs) (cond (keeps Producer m r) 1 0) (one number_of_row (keeps Producer m) (decided outcome r))
          (count_changed number_of_row (keeps Producer m) n (decided outcome) rs r up found) (open_decided m outcome r r.forgotten refl);
      waiting = λ m. waiting m ∙ ap (λ k. k - one_for r.consumer m) (s.waiting m)
          ∙ sym (down (count_by (keeps Consumer m) (with_row n (decided outcome) rs)) (count_by (keeps Consumer m) rs) (cond (keeps Consumer m r) 1 0) (one number_of_row (keeps Consumer m) (decided outcome r)) (one_for r.consumer m)
          (count_changed number_of_row (keeps Consumer m) n (decided outcome) rs r up found) (waits_decided m outcome r r.forgotten)
          (ap (λ (o : Option DeliveryState). cond (is_for m r && is_none o) 1 0) undecided ∙ waits_one r.consumer m));
    }

    pub indexed_forgotten : r.forgotten ≡ false
        → ((q : RowName) → number_at name_cmp new.names q ≡ cond (is_eq (name_cmp (name_of r) q)) 0 (number_at name_cmp old.names q))
        → ((m : ℕ) → number_at nat_cmp new.from m ≡ number_at nat_cmp old.from m - one_for (left_by (is_some r.outcome) r) m)
        → ((m : ℕ) → number_at nat_cmp new.unforgotten m ≡ number_at nat_cmp old.unforgotten m - one_for (Some r.producer) m)
        → ((m : ℕ) → number_at nat_cmp new.waiting m ≡ number_at nat_cmp old.waiting m)
        → IsIndexed new (with_row n forgotten rs)
    indexed_forgotten free set from unforgotten waiting = record {
      named = (let named = named_at old.names n rs r s.named found in named_forgotten old.names new.names (name_of r) 0 n set (named.0 free ∙ named.1) rs s.named);
      from = λ m. from m ∙ ap (λ k. k - one_for (left_by (is_some r.outcome) r) m) (s.from m)
          ∙ sym (from_left m r (record r { forgotten = true }) (is_some r.outcome) (count_by (is_from m) (with_row n forgotten rs)) (count_by (is_from m) rs) refl (count_changed number_of_row (is_from m) n forgotten rs r up found));
      unforgotten = λ m. unforgotten m ∙ ap (λ k. k - one_for (Some r.producer) m) (s.unforgotten m)
          ∙ sym (down (count_by (keeps Producer m) (with_row n forgotten rs)) (count_by (keeps Producer m) rs) (cond (keeps Producer m r) 1 0) (one number_of_row (keeps Producer m) (forgotten r)) (one_for (Some r.producer) m)
          (count_changed number_of_row (keeps Producer m) n forgotten rs r up found) (open_forgotten m r (is_some r.outcome))
          (ap (λ b. cond (is_from m r && not b) 1 0) free ∙ waits_one (Some r.producer) m));
      waiting = λ m. waiting m ∙ s.waiting m
          ∙ level (count_by (keeps Consumer m) (with_row n forgotten rs)) (count_by (keeps Consumer m) rs) (cond (keeps Consumer m r) 1 0) (one number_of_row (keeps Consumer m) (forgotten r))
          (count_changed number_of_row (keeps Consumer m) n forgotten rs r up found) (waits_forgotten m r r.outcome refl);
    }

  -- where the same numbers stand
  pub indexed_same : ((q : RowName) → number_at name_cmp new.names q ≡ number_at name_cmp old.names q)
      → ((n : ℕ) → number_at nat_cmp new.from n ≡ number_at nat_cmp old.from n)
      → ((n : ℕ) → number_at nat_cmp new.unforgotten n ≡ number_at nat_cmp old.unforgotten n)
      → ((n : ℕ) → number_at nat_cmp new.waiting n ≡ number_at nat_cmp old.waiting n) → IsIndexed new rs
  indexed_same names from unforgotten waiting = record {
    named = named_same old.names new.names names rs s.named;
    from = λ n. from n ∙ s.from n;
    unforgotten = λ n. unforgotten n ∙ s.unforgotten n;
    waiting = λ n. waiting n ∙ s.waiting n;
  }
