-- Reading a book back.
use Rattle.std.proofs.Common.{◌≡◌, ◌∙◌, sym, ap, refl, ℕ, ◌+◌, ◌<◌, ◌≤◌, Bool, true, false, not, List, [], ◌∷◌, ◌++◌, length, drop, get_or, map, append_assoc, arith, Option, Some, None, Result, Ok, Err}
use Rattle.std.specs.Prelude.{nat_le, nat_lt}
use Rattle.std.specs.List.{cons_option, list_any}
use Rattle.std.proofs.lemmas.Bool.{not-true}
use Rattle.std.proofs.lemmas.Bool.Decides.{nat_tests}
use Rattle.std.proofs.lemmas.List.{at_drop_more, at_drop_all}
use Rattle.book_model.specs.declared.act.Act.{Act}
use Rattle.book_model.specs.declared.act.Act.TheVariants.{Make, Admit, Decide, Forget, Drop}
use Rattle.book_model.specs.declared.act.Admission.{Admission}
use Rattle.book_model.specs.declared.fault.BookFault.{BookFault}
use Rattle.book_model.specs.declared.fault.BookFault.TheVariants.{NoTerminus, NoRow, TagInUse, Limit}
use Rattle.book_model.specs.declared.terminus.Terminus.{Terminus}
use Rattle.book_model.specs.Book.{BookView, empty_book, refusal, effect, make_refusal, has_tag, unless, or_else}
use Rattle.book_model.specs.Restoring.{is_between, raised, restore_make_refusal, restore_admit_refusal, restore_refusal, restore_effect, first_unread, book_read, closing_fault, restore_fault, restored}
use Rattle.book_core.specs.declared.slot.TerminusSlot.{TerminusSlot}
use Rattle.book_core.specs.declared.tables.Tables.{Tables}
use Rattle.book_core.specs.Rising.{AllBelow}
use Rattle.book_core.specs.Slots.{termini_in}
use Rattle.book_core.specs.Tables.{Shows, IsNew, Stepped, WasRead, row_number, terminus_number}

-- Next numbers that are raised.

below_later : {S : Type 0} (number : S → ℕ) (n m : ℕ) (xs : List S) → n ≤ m → AllBelow number n xs
    → AllBelow number m xs
below_later number n m [] le low = tt
below_later number n m (x ∷ xs) le low = (
  let here : number x < n = low.0 in omega
      (arith, here, le),
  below_later number n m xs le low.1,
)

-- of tables, and of the book that they show
pub raise : (t : Tables) (b : BookView) (n m n' m' : ℕ) → Shows t b → t.counters.next_terminus ≤ n
    → t.counters.next_row ≤ m → n ≡ n' → m ≡ m'
    → Shows (record t { counters = record t.counters { next_terminus = n; next_row = m } })
    (record b { next_terminus = n'; next_row = m' })
raise t b n m n' m' s le le' e e' = record {
  termini = s.termini;
  rows = s.rows;
  next_terminus = e;
  next_row = e';
  termini_rise = s.termini_rise;
  rows_rise = s.rows_rise;
  termini_below = below_later terminus_number t.counters.next_terminus n t.termini.slots.items le s.termini_below;
  rows_below = below_later row_number t.counters.next_row m t.rows.slots.items le' s.rows_below;
  keyed = s.keyed;
  indexed = s.indexed;
  terminus_count = s.terminus_count;
  row_count = s.row_count;
}

from_last : (low next n : ℕ) → is_between low next n ≡ true → low ≤ n
from_last low next n h = grind (arith, nat_tests)

below_next : (low next n : ℕ) → is_between low next n ≡ true → n < next
below_next low next n h = grind (arith, nat_tests)

pub raise_terminus : (t : Tables) (b : BookView) (next n : ℕ) → Shows t b
    → is_between t.counters.next_terminus next n ≡ true
    → Shows (record t { counters = record t.counters { next_terminus = n } }) (record b { next_terminus = n })
raise_terminus t b next n s h = raise t b n t.counters.next_row n b.next_row s
    (from_last t.counters.next_terminus next n h) (omega arith) refl s.next_row

pub raise_row : (t : Tables) (b : BookView) (n : ℕ) → Shows t b → b.next_row ≤ n
    → Shows (record t { counters = record t.counters { next_row = n } }) (record b { next_row = n })
raise_row t b n s le = raise t b t.counters.next_terminus n b.next_terminus n s (omega arith)
    (omega (arith, s.next_row, le)) s.next_terminus refl

-- One act.

-- a terminus whose number comes between is refused for what else is asked of it
pub make_between : (t : Tables) (b : BookView) (next : ℕ) (u : Terminus) (o : Option BookFault) → Shows t b
    → is_between t.counters.next_terminus next u.number.0 ≡ true → o ≡ make_refusal (raised b (Make u)) u
    → restore_make_refusal next b u ≡ o
make_between t b next u o s h is =
    let between : is_between b.next_terminus next u.number.0
    ≡ true = sym (ap (λ k. is_between k next u.number.0) s.next_terminus) ∙ h in
    ap (λ x. unless x NoTerminus (make_refusal (raised b (Make u)) u)) between ∙ sym is

holds : (b : Bool) (f : BookFault) (next : Option BookFault) → unless b f next ≡ None → b ≡ true
holds true f next h = refl
holds false f next h = absurd cc

then_holds : (b : Bool) (f : BookFault) (next : Option BookFault) → unless b f next ≡ None → next ≡ None
then_holds true f next h = h
then_holds false f next h = absurd cc

-- a row that is read has a number from the next one on, and a free tag
pub row_from : (next : ℕ) (b : BookView) (a : Admission) → restore_admit_refusal next b a ≡ None → b.next_row ≤ a.row.0
row_from next b a h = from_last b.next_row next a.row.0 (holds (is_between b.next_row next a.row.0) NoRow _ h)

pub row_new : (next : ℕ) (b : BookView) (a : Admission) → restore_admit_refusal next b a ≡ None
    → IsNew (raised b (Admit a)) a
row_new next b a h =
    let few = unless (nat_lt (length b.rows) 4096) Limit (unless (nat_le (length a.payload) 65536) Limit None) in
    let free = unless (not (list_any (has_tag a.producer.0 a.tag.items) b.rows)) TagInUse few in
    record {
      next = refl;
      free = not-true (list_any (has_tag a.producer.0 a.tag.items) b.rows)
          (holds (not (list_any (has_tag a.producer.0 a.tag.items) b.rows)) TagInUse few
          (then_holds (is_between b.next_row next a.row.0) NoRow free h));
    }

-- a step of an act that neither makes nor admits
pub as_read : (r : Result (Unit {0}) BookFault) (t : Tables) (b : BookView) (act : Act) → Stepped r t b act
    → WasRead r t (refusal b act) (effect b act)
as_read (Ok done) t b act h = h
as_read (Err fault) t b act h = h

-- A walk over acts.

module _ (nt nr : ℕ) where
  unread_more : (m : BookView) (act : Act) (acts : List Act)
      → first_unread nt nr m (act ∷ acts)
      ≡ or_else (restore_refusal nt nr m act) (first_unread nt nr (restore_effect m act) acts)
  unfolding first_unread
  unread_more m act acts = refl

  unread_none : (m : BookView) → first_unread nt nr m [] ≡ None
  unfolding first_unread
  unread_none m = refl

  -- the acts from this one on
  unread_from : (m : BookView) (acts : List Act) (i : ℕ) (item : Act) → i < length acts → item ≡ get_or acts i item
      → first_unread nt nr m (drop i acts)
      ≡ or_else (restore_refusal nt nr m item) (first_unread nt nr (restore_effect m item) (drop (i + 1) acts))
  unread_from m acts i item l e =
      at_drop_more (first_unread nt nr m) acts i item l
      ∙ ap (λ a. first_unread nt nr m (a ∷ drop (i + 1) acts)) (sym e) ∙ unread_more m item (drop (i + 1) acts)

  pub unread_here : (b m : BookView) (acts : List Act) (i : ℕ) (item : Act) (fault : BookFault) → i < length acts
      → item ≡ get_or acts i item
      → first_unread nt nr m (drop i acts) ≡ first_unread nt nr b acts → restore_refusal nt nr m item ≡ Some fault
      → first_unread nt nr b acts ≡ Some fault
  unread_here b m acts i item fault l e so_far r =
      sym so_far ∙ unread_from m acts i item l e
      ∙ ap (λ o. or_else o (first_unread nt nr (restore_effect m item) (drop (i + 1) acts))) r

  pub unread_on : (b m : BookView) (acts : List Act) (i : ℕ) (item : Act) → i < length acts → item ≡ get_or acts i item
      → first_unread nt nr m (drop i acts) ≡ first_unread nt nr b acts → restore_refusal nt nr m item ≡ None
      → first_unread nt nr (restore_effect m item) (drop (i + 1) acts) ≡ first_unread nt nr b acts
  unread_on b m acts i item l e so_far r =
      sym (ap (λ o. or_else o (first_unread nt nr (restore_effect m item) (drop (i + 1) acts))) r)
      ∙ sym (unread_from m acts i item l e) ∙ so_far

  pub unread_done : (b m : BookView) (acts : List Act) (i : ℕ) → length acts ≤ i
      → first_unread nt nr m (drop i acts) ≡ first_unread nt nr b acts → first_unread nt nr b acts ≡ None
  unread_done b m acts i l so_far = sym so_far ∙ at_drop_all (first_unread nt nr m) acts i l ∙ unread_none m

read_more : (m : BookView) (act : Act) (acts : List Act)
    → book_read m (act ∷ acts) ≡ book_read (restore_effect m act) acts
unfolding book_read
read_more m act acts = refl

read_none : (m : BookView) → book_read m [] ≡ m
unfolding book_read
read_none m = refl

pub read_on : (b m : BookView) (acts : List Act) (i : ℕ) (item : Act) → i < length acts → item ≡ get_or acts i item
    → book_read m (drop i acts) ≡ book_read b acts
    → book_read (restore_effect m item) (drop (i + 1) acts) ≡ book_read b acts
read_on b m acts i item l e so_far =
    sym (at_drop_more (book_read m) acts i item l ∙ ap (λ a. book_read m (a ∷ drop (i + 1) acts)) (sym e)
    ∙ read_more m item (drop (i + 1) acts)) ∙ so_far

pub read_done : (b m : BookView) (acts : List Act) (i : ℕ) → length acts ≤ i
    → book_read m (drop i acts) ≡ book_read b acts → m ≡ book_read b acts
read_done b m acts i l so_far = sym (read_none m) ∙ sym (at_drop_all (book_read m) acts i l) ∙ so_far

-- The numbers of acts that are read stay below the next ones.

record Under (nt nr : ℕ) (b : BookView) : Type 0 where
  pub termini : b.next_terminus ≤ nt
  pub rows : b.next_row ≤ nr

up : (n m : ℕ) → n < m → n + 1 ≤ m
up n m h = omega (arith, h)

act_under : (nt nr : ℕ) (b : BookView) (act : Act) → restore_refusal nt nr b act ≡ None → Under nt nr b
    → Under nt nr (restore_effect b act)
act_under nt nr b (Make t) h u = record {
  termini = up t.number.0 nt (below_next b.next_terminus nt t.number.0 (holds
      (is_between b.next_terminus nt t.number.0) NoTerminus (make_refusal (raised b (Make t)) t) h));
  rows = u.rows;
}
act_under nt nr b (Admit a) h u = record {
  termini = u.termini;
  rows = up a.row.0 nr (below_next b.next_row nr a.row.0 (holds (is_between b.next_row nr a.row.0) NoRow _ h));
}
act_under nt nr b (Decide d) h u = record { termini = u.termini; rows = u.rows }
act_under nt nr b (Forget n) h u = record { termini = u.termini; rows = u.rows }
act_under nt nr b (Drop n) h u = record { termini = u.termini; rows = u.rows }

neither : (o p : Option BookFault) → or_else o p ≡ None → (o ≡ None) × (p ≡ None)
neither None p h = (refl, h)
neither (Some f) p h = absurd cc

acts_under : (nt nr : ℕ) (b : BookView) (acts : List Act) → first_unread nt nr b acts ≡ None → Under nt nr b
    → Under nt nr (book_read b acts)
unfolding first_unread book_read
acts_under nt nr b [] h u = u
acts_under nt nr b (act ∷ acts) h u =
    let both = neither (restore_refusal nt nr b act) (first_unread nt nr (restore_effect b act) acts) h in
    acts_under nt nr (restore_effect b act) acts both.1 (act_under nt nr b act both.0 u)

-- The end.

-- tables that show what was read, whose next numbers are those given
pub finished : (t : Tables) (nt nr : ℕ) (acts : List Act) → first_unread nt nr empty_book acts ≡ None → 0 < nt
    → 0 < nr → Shows t (book_read empty_book acts)
    → Shows (record t { counters = record t.counters { next_terminus = nt; next_row = nr } }) (restored nt nr acts)
finished t nt nr acts h above above' s =
    let under = acts_under nt nr empty_book acts h (record {
      termini = omega (arith, above);
      rows = omega
          (arith, above');
    }) in
    raise t (book_read empty_book acts) nt nr nt nr s (omega (arith, s.next_terminus, under.termini))
    (omega (arith, s.next_row, under.rows)) refl refl

from_one : (n : ℕ) → (n ≡ 0 → ⊥) → nat_lt 0 n ≡ true
from_one n h = grind (arith, nat_tests)

-- where all acts were read and the end was as it should be, there is no fault
pub no_fault : (nt nr : ℕ) (acts : List Act) → (nt ≡ 0 → ⊥) → (nr ≡ 0 → ⊥) → first_unread nt nr empty_book acts ≡ None
    → closing_fault (book_read empty_book acts) ≡ None → restore_fault nt nr acts ≡ None
no_fault nt nr acts above above' reads closes = rw (from_one nt above, from_one nr above', reads) closes

-- The list of a book: a slot's terminus, and then those of later slots.

pub termini_from : (slots : List TerminusSlot) (i : ℕ) (slot : TerminusSlot) → i < length slots
    → slot ≡ get_or slots i slot
    → termini_in (drop i slots) ≡ cons_option slot.terminus (termini_in (drop (i + 1) slots))
termini_from slots i slot l e = at_drop_more termini_in slots i slot l
    ∙ ap (λ (s : TerminusSlot). termini_in (s ∷ drop (i + 1) slots)) (sym e)

pub makes_on : (xs : List Act) (o : Option Terminus) (ts : List Terminus)
    → (xs ++ map Make (cons_option o [])) ++ map Make ts ≡ xs ++ map Make (cons_option o ts)
makes_on xs None ts = append_assoc xs [] (map Make ts)
makes_on xs (Some t) ts = append_assoc xs (Make t ∷ []) (map Make ts)

append_none : {X : Type 0} (xs : List X) → xs ++ [] ≡ xs
append_none [] = refl
append_none (x ∷ xs) = ap (λ ys. x ∷ ys) (append_none xs)

pub makes_done : (xs : List Act) (slots : List TerminusSlot) (i : ℕ) → length slots ≤ i
    → xs ++ map Make (termini_in (drop i slots)) ≡ xs
makes_done xs slots i l = at_drop_all (λ (s : List TerminusSlot). xs ++ map Make (termini_in s)) slots i l
    ∙ append_none xs
