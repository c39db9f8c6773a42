-- What a book lists restores it.
use Rattle.std.proofs.Common.{◌≡◌, ◌∙◌, sym, ap, refl, subst, ℕ, ◌+◌, ◌≤◌, ◌<◌, Bool, true, false, not, ◌&&◌, ◌||◌, List, [], ◌∷◌, ◌++◌, length, map, append_assoc, arith, Option, Some, None}
use Rattle.std.specs.Prelude.{◌==◌, flat_map, nat_lt, nat_le, is_some, count_by}
use Rattle.std.specs.List.{AllByRecursion, list_any, list_all}
use Rattle.std.proofs.lemmas.Bool.Decides.{nat_tests}
use Rattle.std.proofs.lemmas.List.{length_push}
use Rattle.std.proofs.lemmas.List.Elements.{recursion_from_All}
use Rattle.amqp_model.specs.declared.state.DeliveryState.{DeliveryState}
use Rattle.amqp_model.specs.PerfSpelling.{state_spelling}
use Rattle.book_model.specs.declared.act.Act.{Act}
use Rattle.book_model.specs.declared.act.Act.TheVariants.{Make, Admit, Decide, Forget}
use Rattle.book_model.specs.declared.act.Decision.{Decision}
use Rattle.book_model.specs.declared.fault.BookFault.{BookFault}
use Rattle.book_model.specs.declared.fault.BookFault.TheVariants.{NoTerminus, NoRow, TagInUse, Limit}
use Rattle.book_model.specs.declared.row.Row.{Row}
use Rattle.book_model.specs.declared.terminus.LinkRole.TheVariants.{Producer}
use Rattle.book_model.specs.declared.terminus.Terminus.{Terminus}
use Rattle.book_model.specs.declared.terminus.TerminusNumber.{TerminusNumber}
use Rattle.book_model.specs.Book.{BookView, empty_book, unless, or_else, make_refusal, decide_refusal, forget_refusal, decided, forgotten, with_row, row_at, terminus_at, has_role, may_bind, has_tag, has_short_texts, is_from, same_key, undecided_for}
use Rattle.book_model.specs.Restoring.{is_between, raised, restore_refusal, restore_effect, first_unread, book_read, is_within, has_termini, closing_fault, restore_fault, restored, admission_of, decide_acts, forget_acts, row_acts, acts_of_book}
use Rattle.book_model.specs.Sound.{IsSound, IsSoundTerminus, IsSoundRow, IsShortOutcome}
use Rattle.book_laws.proofs.Lists.{Pairs, pairs_of, pairs_both, each, each_both, each_push, none_push, all_pass}
use Rattle.book_laws.proofs.Searching.{same_numbers, other_numbers}

-- tests that hold

is_true : (n m : ℕ) → n < m → nat_lt n m ≡ true
is_true n m l = grind (arith, nat_tests)

is_most : (n m : ℕ) → n ≤ m → nat_le n m ≡ true
is_most n m l = grind (arith, nat_tests)

comes_between : (low next n : ℕ) → low ≤ n → n < next → is_between low next n ≡ true
comes_between low next n l k = rw (is_most low n l, is_true n next k) refl

pass : (b : Bool) (f : BookFault) (next : Option BookFault) → b ≡ true → next ≡ None → unless b f next ≡ None
pass true f next e rest = rest
pass false f next e rest = absurd cc

turned_false : (b : Bool) → b ≡ false → not b ≡ true
turned_false false e = refl
turned_false true e = absurd cc

append_none : {X : Type 0} (xs : List X) → xs ++ [] ≡ xs
append_none [] = refl
append_none (x ∷ xs) = ap (λ ys. x ∷ ys) (append_none xs)

-- Acts that are read, and the book that they lead to.

module _ (nt nr : ℕ) where
  pub record Reads (b : BookView) (acts : List Act) (c : BookView) : Type 0 where
    pub all : first_unread nt nr b acts ≡ None
    pub book : book_read b acts ≡ c

  none_read : (b : BookView) → Reads b [] b
  unfolding first_unread book_read
  none_read b = record { all = refl; book = refl }

  -- one act, and those after it
  act_and : (b : BookView) (act : Act) (acts : List Act) (c : BookView) → restore_refusal nt nr b act ≡ None
      → Reads (restore_effect b act) acts c → Reads b (act ∷ acts) c
  unfolding first_unread book_read
  act_and b act acts c applies rest = record {
    all = ap (λ (o : Option BookFault). or_else o (first_unread nt nr (restore_effect b act) acts)) applies ∙ rest.all;
    book = rest.book;
  }

  -- two lists
  then_read : (b : BookView) (acts more : List Act) (c d : BookView) → Reads b acts c → Reads c more d
      → Reads b (acts ++ more) d
  unfolding first_unread book_read
  then_read b [] more c d first rest = subst (λ (x : BookView). Reads x more d) (sym first.book) rest
  then_read b (act ∷ acts) more c d first rest =
      let here : restore_refusal nt nr b act ≡ None = first_of (restore_refusal nt nr b act)
      (first_unread nt nr (restore_effect b act) acts) first.all in
      act_and b act (acts ++ more) d here
      (then_read (restore_effect b act) acts more c d
      (record {
        all = rest_of (restore_refusal nt nr b act) (first_unread nt nr (restore_effect b act) acts) first.all;
        book = first.book;
      }) rest)
    where
      first_of : (o p : Option BookFault) → or_else o p ≡ None → o ≡ None
      first_of None p h = refl
      first_of (Some f) p h = absurd cc

      rest_of : (o p : Option BookFault) → or_else o p ≡ None → p ≡ None
      rest_of None p h = h
      rest_of (Some f) p h = absurd cc

  -- Termini that are still to be read: each has a later number than those before it, and another key.

  record FollowsTerminus (b : BookView) (t : Terminus) : Type 0 where
    pub number : b.next_terminus ≤ t.number.0
    pub key : list_any (λ u. same_key u.key t.key) b.termini ≡ false

  record GoesBefore (t u : Terminus) : Type 0 where
    pub number : t.number.0 < u.number.0
    pub key : same_key t.key u.key ≡ false

  make_reads : (b : BookView) (t : Terminus) → FollowsTerminus b t → IsSoundTerminus nt t → length b.termini < 1024
      → restore_refusal nt nr b (Make t) ≡ None
  make_reads b t follows s few =
      pass (is_between b.next_terminus nt t.number.0) NoTerminus (make_refusal (raised b (Make t)) t)
      (comes_between b.next_terminus nt t.number.0 follows.number s.below)
      (pass (t.number.0 == t.number.0) NoTerminus
      (unless (not (list_any (λ (u : Terminus). same_key u.key t.key) b.termini)) NoTerminus
      (unless (nat_lt (length b.termini) 1024) Limit (unless (has_short_texts t) Limit None)))
      (same_numbers t.number.0 t.number.0 refl)
      (pass (not (list_any (λ (u : Terminus). same_key u.key t.key) b.termini)) NoTerminus
      (unless (nat_lt (length b.termini) 1024) Limit (unless (has_short_texts t) Limit None))
      (turned_false (list_any (λ (u : Terminus). same_key u.key t.key) b.termini) follows.key)
      (pass (nat_lt (length b.termini) 1024) Limit (unless (has_short_texts t) Limit None)
      (is_true (length b.termini) 1024 few) (pass (has_short_texts t) Limit None s.short refl))))

  termini_read : (b : BookView) (ts : List Terminus) → AllByRecursion (FollowsTerminus b) ts → Pairs GoesBefore ts
      → AllByRecursion (IsSoundTerminus nt) ts → length b.termini + length ts ≤ 1024
      → (n : ℕ) × Reads b (map Make ts) (record b { termini = b.termini ++ ts; next_terminus = n })
  termini_read b [] follow before fine few = (
    b.next_terminus,
    subst (Reads b []) (λ i. record b { termini = sym (append_none b.termini) i }) (none_read b),
  )
  termini_read b (t ∷ ts) follow before fine few =
      let after : BookView = restore_effect b (Make t) in
      let rest = termini_read after ts
      (each_both (FollowsTerminus b) (GoesBefore t) (FollowsTerminus after) still ts follow.1 before.0)
      before.1 fine.1 (omega (arith, few, length_push b.termini t)) in (
        rest.0,
        act_and b (Make t) (map Make ts) (record b { termini = b.termini ++ t ∷ ts; next_terminus = rest.0 })
            (make_reads b t follow.0 fine.0 (omega (arith, few)))
            (subst (Reads after (map Make ts))
            (λ i. record b { termini = append_assoc b.termini (t ∷ []) ts i; next_terminus = rest.0 }) rest.1),
      )
    where
      still : (u : Terminus) → FollowsTerminus b u → GoesBefore t u → FollowsTerminus (restore_effect b (Make t)) u
      still u f g = record {
        number = omega (arith, g.number);
        key = none_push (λ (v : Terminus). same_key v.key u.key) b.termini t f.key g.key;
      }

  -- The row that was read last.

  module _ (pre : List Row) (n : ℕ) (low : AllByRecursion (λ (r : Row). r.number.0 < n) pre) where
    last_at : (pre : List Row) → AllByRecursion (λ (r : Row). r.number.0 < n) pre → (x : Row) → x.number.0 ≡ n
        → row_at n (pre ++ x ∷ []) ≡ Some x
    last_at [] all x e = rw (same_numbers x.number.0 n e) refl
    last_at (r ∷ rs) all x e = rw (other_numbers r.number.0 n all.0) (last_at rs all.1 x e)

    last_changed : (pre : List Row) → AllByRecursion (λ (r : Row). r.number.0 < n) pre → (change : Row → Option Row)
        → (x y : Row) → x.number.0 ≡ n → change x ≡ Some y → with_row n change (pre ++ x ∷ []) ≡ pre ++ y ∷ []
    last_changed [] all change x y e is = rw (same_numbers x.number.0 n e, is) refl
    last_changed (r ∷ rs) all change x y e is =
        rw (other_numbers r.number.0 n all.0) (ap (λ ss. r ∷ ss) (last_changed rs all.1 change x y e is))

  -- a row with this outcome, and forgotten or not
  abbrev row_as : Row → Option DeliveryState → Bool → Row
  row_as r o f = record r { outcome = o; forgotten = f }

  -- what was done to a row after its Admit
  done_reads : (b : BookView) (pre : List Row) (r : Row) (o : Option DeliveryState) (f : Bool)
      → AllByRecursion (λ (s : Row). s.number.0 < r.number.0) pre → b.rows ≡ pre ++ row_as r None false ∷ []
      → IsShortOutcome o → (is_some o && f) ≡ false
      → Reads b (decide_acts r.number o ++ forget_acts r.number f) (record b { rows = pre ++ row_as r o f ∷ [] })
  done_reads b pre r None false low is short stays =
      subst (Reads b []) (λ i. record b { rows = is i }) (none_read b)
  done_reads b pre r (Some outcome) false low is short stays =
      let d : Decision = record { row = r.number; outcome = outcome } in
      let found : row_at r.number.0 b.rows ≡ Some (row_as r None false) =
      ap (row_at r.number.0) is ∙ last_at pre r.number.0 low pre low (row_as r None false) refl in
      act_and b (Decide d) [] (record b { rows = pre ++ row_as r (Some outcome) false ∷ [] })
      (ap (λ (p : Option Row). decide_refusal p outcome) found
      ∙ pass (nat_le (length (state_spelling outcome)) 400) Limit None
      (is_most (length (state_spelling outcome)) 400 short) refl)
      (subst (Reads (restore_effect b (Decide d)) [])
      (λ i. record b {
        rows = (ap (with_row r.number.0 (decided outcome)) is
            ∙ last_changed pre r.number.0 low pre low (decided outcome) (row_as r None false)
            (row_as r (Some outcome) false)
            refl refl) i;
      })
      (none_read (restore_effect b (Decide d))))
  done_reads b pre r None true low is short stays =
      let found : row_at r.number.0 b.rows ≡ Some (row_as r None false) =
      ap (row_at r.number.0) is ∙ last_at pre r.number.0 low pre low (row_as r None false) refl in
      act_and b (Forget r.number) [] (record b { rows = pre ++ row_as r None true ∷ [] })
      (ap forget_refusal found)
      (subst (Reads (restore_effect b (Forget r.number)) [])
      (λ i. record b {
        rows = (ap (with_row r.number.0 forgotten) is
            ∙ last_changed pre r.number.0 low pre low forgotten (row_as r None false) (row_as r None true) refl refl) i;
      })
      (none_read (restore_effect b (Forget r.number))))
  done_reads b pre r (Some outcome) true low is short stays = absurd cc

  -- Rows that are still to be read: each has a later number than those before it, which leave its tag free.

  record FollowsRow (b : BookView) (r : Row) : Type 0 where
    pub number : b.next_row ≤ r.number.0
    pub tag : list_any (has_tag r.producer.0 r.tag.items) b.rows ≡ false

  record RowBefore (r s : Row) : Type 0 where
    pub number : r.number.0 < s.number.0
    pub tag : has_tag s.producer.0 s.tag.items r ≡ false

  abbrev AreBelow : BookView → Type 0
  AreBelow b = AllByRecursion (λ (r : Row). r.number.0 < b.next_row) b.rows

  admit_reads : (b : BookView) (r : Row) → FollowsRow b r → r.number.0 < nr → length r.payload ≤ 65536
      → length b.rows < 4096 → restore_refusal nt nr b (Admit (admission_of r)) ≡ None
  admit_reads b r follows low short few =
      pass (is_between b.next_row nr r.number.0) NoRow
      (unless (not (list_any (has_tag r.producer.0 r.tag.items) b.rows)) TagInUse
      (unless (nat_lt (length b.rows) 4096) Limit (unless (nat_le (length r.payload) 65536) Limit None)))
      (comes_between b.next_row nr r.number.0 follows.number low)
      (pass (not (list_any (has_tag r.producer.0 r.tag.items) b.rows)) TagInUse
      (unless (nat_lt (length b.rows) 4096) Limit (unless (nat_le (length r.payload) 65536) Limit None))
      (turned_false (list_any (has_tag r.producer.0 r.tag.items) b.rows) follows.tag)
      (pass (nat_lt (length b.rows) 4096) Limit (unless (nat_le (length r.payload) 65536) Limit None)
      (is_true (length b.rows) 4096 few)
      (pass (nat_le (length r.payload) 65536) Limit None (is_most (length r.payload) 65536 short) refl)))

  row_reads : (ts : List Terminus) (b : BookView) (r : Row) → FollowsRow b r → IsSoundRow ts nr r → AreBelow b
      → length b.rows < 4096
      → Reads b (row_acts r) (record b { rows = b.rows ++ r ∷ []; next_row = r.number.0 + 1 })
  row_reads ts b r follows s below few =
      act_and b (Admit (admission_of r)) (decide_acts r.number r.outcome ++ forget_acts r.number r.forgotten)
      (record b { rows = b.rows ++ r ∷ []; next_row = r.number.0 + 1 })
      (admit_reads b r follows s.below s.payload few)
      (done_reads (restore_effect b (Admit (admission_of r))) b.rows r r.outcome r.forgotten
      (each (λ (q : Row). q.number.0 < b.next_row) (λ (q : Row). q.number.0 < r.number.0)
      (λ q l. omega (arith, l, follows.number)) b.rows below)
      refl s.outcome s.stays)

  rows_read : (ts : List Terminus) (b : BookView) (rs : List Row) → AllByRecursion (FollowsRow b) rs
      → Pairs RowBefore rs → AllByRecursion (IsSoundRow ts nr) rs → AreBelow b → length b.rows + length rs ≤ 4096
      → (n : ℕ) × Reads b (flat_map row_acts rs) (record b { rows = b.rows ++ rs; next_row = n })
  rows_read ts b [] follow before fine below few = (
    b.next_row,
    subst (Reads b []) (λ i. record b { rows = sym (append_none b.rows) i }) (none_read b),
  )
  rows_read ts b (r ∷ rs) follow before fine below few =
      let after : BookView = record b { rows = b.rows ++ r ∷ []; next_row = r.number.0 + 1 } in
      let rest = rows_read ts after rs
      (each_both (FollowsRow b) (RowBefore r) (FollowsRow after) still rs follow.1 before.0)
      before.1 fine.1
      (each_push (λ (q : Row). q.number.0 < r.number.0 + 1) b.rows r
      (each (λ (q : Row). q.number.0 < b.next_row) (λ (q : Row). q.number.0 < r.number.0 + 1)
      (λ q l. omega (arith, l, (follow.0).number)) b.rows below) (omega arith))
      (omega (arith, few, length_push b.rows r)) in (
        rest.0,
        then_read b (row_acts r) (flat_map row_acts rs) after (record b { rows = b.rows ++ r ∷ rs; next_row = rest.0 })
            (row_reads ts b r follow.0 fine.0 below (omega (arith, few)))
            (subst (Reads after (flat_map row_acts rs))
            (λ i. record b { rows = append_assoc b.rows (r ∷ []) rs i; next_row = rest.0 }) rest.1),
      )
    where
      still : (s : Row) → FollowsRow b s → RowBefore r s
          → FollowsRow (record b { rows = b.rows ++ r ∷ []; next_row = r.number.0 + 1 }) s
      still s f g = record {
        number = omega (arith, g.number);
        tag = none_push (has_tag s.producer.0 s.tag.items) b.rows r f.tag g.tag;
      }

-- The end.

module _ (b : BookView) (s : IsSound b) where
  within : (r : Row) → is_within b.rows r ≡ true
  within r = rw (
    is_most (count_by (is_from r.producer.0) b.rows) 64 (s.few_from r.producer.0),
    is_most (undecided_for r.consumer b.rows) 64 (waiting r.consumer),
  ) refl
    where
      waiting : (o : Option TerminusNumber) → undecided_for o b.rows ≤ 64
      waiting None = omega arith
      waiting (Some c) = s.few_waiting c.0

  stands : (r : Row) → IsSoundRow b.termini b.next_row r → has_termini b.termini r ≡ true
  stands r k = both (r.forgotten || has_role Producer (terminus_at r.producer.0 b.termini))
      (is_some r.outcome || may_bind r.consumer b.termini) (forgot r.forgotten refl) (set r.outcome refl)
    where
      both : (p q : Bool) → p ≡ true → q ≡ true → (p && q) ≡ true
      both p q e f = rw (e, f) refl

      forgot : (f : Bool) → r.forgotten ≡ f → (f || has_role Producer (terminus_at r.producer.0 b.termini)) ≡ true
      forgot true e = refl
      forgot false e = k.producer e

      set : (o : Option DeliveryState) → r.outcome ≡ o → (is_some o || may_bind r.consumer b.termini) ≡ true
      set None e = k.consumer e
      set (Some outcome) e = refl

  every : (rs : List Row) → AllByRecursion (λ (r : Row). is_within b.rows r ≡ true) rs
  every [] = tt
  every (r ∷ rs) = (within r, every rs)

  closes : closing_fault b ≡ None
  closes =
      pass (list_all (is_within b.rows) b.rows) Limit (unless (list_all (has_termini b.termini) b.rows) NoTerminus None)
      (all_pass (is_within b.rows) b.rows (every b.rows))
      (pass (list_all (has_termini b.termini) b.rows) NoTerminus None
      (all_pass (has_termini b.termini) b.rows
      (each (IsSoundRow b.termini b.next_row) (λ (r : Row). has_termini b.termini r ≡ true) stands b.rows
      (recursion_from_All (IsSoundRow b.termini b.next_row) b.rows s.rows)))
      refl)

  with_termini : ℕ → BookView
  with_termini n = record empty_book { termini = b.termini; next_terminus = n }

  listed : (n m : ℕ) × Reads b.next_terminus b.next_row empty_book (acts_of_book b)
      (record { termini = b.termini; rows = b.rows; next_terminus = n; next_row = m })
  unfolding with_termini
  listed =
      let made = termini_read b.next_terminus b.next_row empty_book b.termini
      (each (IsSoundTerminus b.next_terminus) (FollowsTerminus b.next_terminus b.next_row empty_book) first_terminus
      b.termini sound_termini)
      (pairs_both (λ (t u : Terminus). t.number.0 < u.number.0) (λ (t u : Terminus). same_key t.key u.key ≡ false)
      (GoesBefore b.next_terminus b.next_row) (λ t u l e. record { number = l; key = e }) b.termini
      (pairs_of (λ (t u : Terminus). t.number.0 < u.number.0) b.termini s.termini_rise)
      (pairs_of (λ (t u : Terminus). same_key t.key u.key ≡ false) b.termini s.keys))
      sound_termini (omega (arith, s.few_termini)) in
      let admitted = rows_read b.next_terminus b.next_row b.termini (with_termini made.0) b.rows
      (each (IsSoundRow b.termini b.next_row) (FollowsRow b.next_terminus b.next_row (with_termini made.0))
      (first_row made.0) b.rows sound_rows)
      (pairs_both (λ (r q : Row). r.number.0 < q.number.0)
      (λ (r q : Row). has_tag q.producer.0 q.tag.items r ≡ false)
      (RowBefore b.next_terminus b.next_row) (λ r q l e. record { number = l; tag = e }) b.rows
      (pairs_of (λ (r q : Row). r.number.0 < q.number.0) b.rows s.rows_rise)
      (pairs_of (λ (r q : Row). has_tag q.producer.0 q.tag.items r ≡ false) b.rows s.tags))
      sound_rows tt (omega (arith, s.few_rows)) in (
        made.0,
        admitted.0,
        then_read b.next_terminus b.next_row empty_book (map Make b.termini) (flat_map row_acts b.rows)
            (with_termini made.0)
            (record { termini = b.termini; rows = b.rows; next_terminus = made.0; next_row = admitted.0 }) made.1
            admitted.1,
      )
    where
      sound_termini : AllByRecursion (IsSoundTerminus b.next_terminus) b.termini
      sound_termini = recursion_from_All (IsSoundTerminus b.next_terminus) b.termini s.termini

      sound_rows : AllByRecursion (IsSoundRow b.termini b.next_row) b.rows
      sound_rows = recursion_from_All (IsSoundRow b.termini b.next_row) b.rows s.rows

      first_terminus : (t : Terminus) → IsSoundTerminus b.next_terminus t
          → FollowsTerminus b.next_terminus b.next_row empty_book t
      first_terminus t k = record { number = omega (arith, k.above); key = refl }

      first_row : (n : ℕ) (r : Row) → IsSoundRow b.termini b.next_row r
          → FollowsRow b.next_terminus b.next_row (with_termini n) r
      first_row n r k = record { number = omega (arith, k.above); tag = refl }

  pub list_reads : restore_fault b.next_terminus b.next_row (acts_of_book b) ≡ None
  list_reads =
      let it = listed.2 in
      let end : closing_fault (book_read empty_book (acts_of_book b)) ≡ None = ap closing_fault it.book ∙ closes in
      pass (nat_lt 0 b.next_terminus) NoTerminus
      (unless (nat_lt 0 b.next_row) NoRow
      (or_else (first_unread b.next_terminus b.next_row empty_book (acts_of_book b))
      (closing_fault (book_read empty_book (acts_of_book b)))))
      (is_true 0 b.next_terminus s.next_terminus)
      (pass (nat_lt 0 b.next_row) NoRow
      (or_else (first_unread b.next_terminus b.next_row empty_book (acts_of_book b))
      (closing_fault (book_read empty_book (acts_of_book b))))
      (is_true 0 b.next_row s.next_row)
      (ap (λ (o : Option BookFault). or_else o (closing_fault (book_read empty_book (acts_of_book b)))) it.all ∙ end))

  pub list_restores : restored b.next_terminus b.next_row (acts_of_book b) ≡ b
  list_restores =
      ap (λ (c : BookView). record c { next_terminus = b.next_terminus; next_row = b.next_row }) (listed.2).book
