-- How the tables show the book through a change.
use Rattle.std.proofs.Common.{◌≡◌, ℕ, ◌+◌, Bool, true, false, not, List, [], ◌∷◌, ◌++◌, get_or, set, Option, Some, None, ◌<◌, length, refl, ap, ◌∙◌, sym, subst, cond, arith}
use Rattle.std.specs.Prelude.{filter, is_some, is_none, ◌-◌, ◌==◌, nat_lt, nat_le, count_by}
use Rattle.std.specs.List.{list_any}
use Rattle.amqp_model.specs.declared.state.DeliveryState.{DeliveryState}
use Rattle.book_model.specs.declared.act.Act.TheVariants.{Admit}
use Rattle.book_model.specs.declared.fault.BookFault.TheVariants.{NoTerminus, NoRow, TagInUse, Limit}
use Rattle.book_model.specs.declared.terminus.LinkRole.TheVariants.{Producer}
use Rattle.book_core.specs.declared.row_name.RowName.{RowName}
use Rattle.std.specs.BTreeMap.{get}
use Rattle.book_core.specs.declared.numbers.Numbers.{Numbers}
use Rattle.book_model.specs.declared.terminus.LinkKey.{LinkKey}
use Rattle.book_core.specs.Keys.{AllKeyed}
use Rattle.book_model.specs.Keys.{key_cmp}
use Rattle.book_core.specs.Numbers.{or_zero, number_at, earlier}
use Rattle.std.specs.Ordering.{is_eq}
use Rattle.book_core.proofs.Keyed.{keyed_same, keyed_left, keyed_more, keyed_at}
use Rattle.book_core.specs.Indexed.{IsIndexed, IsIndexSettled, SameIndexBefore, IsIndexBack}
use Rattle.book_core.specs.declared.row_index.RowIndex.{RowIndex}
use Rattle.book_core.specs.declared.tables.Counters.{Counters}
use Rattle.book_core.proofs.Counted.{indexed_same, length_changed, length_more}
use Rattle.book_core.proofs.Named.{rises_rows}
use Rattle.book_model.specs.declared.row.Row.{Row}
use Rattle.book_core.specs.declared.slot.RowSlot.{RowSlot}
use Rattle.book_core.specs.declared.slot.TerminusSlot.{TerminusSlot}
use Rattle.book_model.specs.declared.terminus.Terminus.{Terminus}
use Rattle.book_model.specs.declared.fault.BookFault.{BookFault}
use Rattle.book_model.specs.declared.act.Admission.{Admission}
use Rattle.book_core.specs.declared.table.Table.{Table}
use Rattle.book_core.specs.declared.tables.Tables.{Tables}
use Rattle.book_model.specs.Book.{BookView, row_at, terminus_at, with_row, unless, make_refusal, admit_refusal, forget_refusal, decide_refusal, is_undecided, same_key, has_short_texts, admitted, decided, forgotten, has_tag, effect, is_from, undecided_for, may_bind, has_role}
use Rattle.book_model.specs.Sound.{IsSound}
use Rattle.book_core.specs.Rising.{Rises, IsAt}
use Rattle.book_core.specs.Slots.{rows_in, termini_in}
use Rattle.book_core.specs.Table.{before}
use Rattle.book_core.specs.Tables.{Shows, IsNew, row_number, terminus_number, shown_by, IsSettled, IsWhole, IsSwept, SameBefore}
use Rattle.book_core.proofs.Looked.{row_found, terminus_found}
use Rattle.book_core.proofs.Shown as shown
use Rattle.std.proofs.lemmas.Bool.Decides.{nat_tests}
use Rattle.std.proofs.lemmas.List.{get_or_default}

-- the rows of these places, one of them changed
pub row_changed : (xs : List RowSlot) (n at : ℕ) (s : RowSlot) (old : Row) (change : Row → Option Row)
    → Rises row_number xs → IsAt row_number n xs at → ((d : RowSlot) → (get_or xs at d).row ≡ Some old) → s.row ≡ change old
    → rows_in (set xs at s) ≡ with_row n change (rows_in xs)
row_changed xs n at s old change up h was now = shown.change_at row_number (λ s. s.row) (λ (r : Row). r.number.0) (λ s. s.same) n change xs at s old up h was now

-- there is no row of this number to change
pub row_unchanged : (xs : List RowSlot) (n : ℕ) (change : Row → Option Row) → row_at n (rows_in xs) ≡ None → with_row n change (rows_in xs) ≡ rows_in xs
row_unchanged xs n change none = shown.changed_none (λ (r : Row). r.number.0) n change (rows_in xs) none

pub terminus_removed : (xs : List TerminusSlot) (n at : ℕ) (s : TerminusSlot) (old : Terminus)
    → Rises terminus_number xs → IsAt terminus_number n xs at → ((d : TerminusSlot) → (get_or xs at d).terminus ≡ Some old) → s.terminus ≡ None
    → termini_in (set xs at s) ≡ filter (λ t. not (t.number.0 == n)) (termini_in xs)
terminus_removed xs n at s old up h was now =
    shown.change_at terminus_number (λ s. s.terminus) (λ (t : Terminus). t.number.0) (λ s. s.same) n (λ _. None) xs at s old up h was now
    ∙ shown.filter_as_change (λ (t : Terminus). t.number.0) n (termini_in xs)

pub terminus_unremoved : (xs : List TerminusSlot) (n : ℕ) → terminus_at n (termini_in xs) ≡ None → filter (λ t. not (t.number.0 == n)) (termini_in xs) ≡ termini_in xs
terminus_unremoved xs n none =
    sym (shown.filter_as_change (λ (t : Terminus). t.number.0) n (termini_in xs))
    ∙ shown.changed_none (λ (t : Terminus). t.number.0) n (λ _. None) (termini_in xs) none

-- an act that makes or admits has the next number
first_holds : (b : Bool) (f : BookFault) (next : Option BookFault) → unless b f next ≡ None → b ≡ true
first_holds true f next h = refl
first_holds false f next h = absurd cc

then_holds : (b : Bool) (f : BookFault) (next : Option BookFault) → unless b f next ≡ None → next ≡ None
then_holds true f next h = h
then_holds false f next h = absurd cc

is_open : (o : Option DeliveryState) → is_none o ≡ true → o ≡ None
is_open None h = refl
is_open (Some outcome) h = absurd cc

not_true : (b : Bool) → not b ≡ true → b ≡ false
not_true false h = refl
not_true true h = absurd cc

equal : (a b : ℕ) → (a == b) ≡ true → a ≡ b
equal a b h = grind (arith, nat_tests)

pub makes_next : (b : BookView) (t : Terminus) → make_refusal b t ≡ None → t.number.0 ≡ b.next_terminus
makes_next b t h = equal _ _ (first_holds (t.number.0 == b.next_terminus) _ _ h)

pub admits_new : (b : BookView) (a : Admission) → admit_refusal b a ≡ None → list_any (has_tag a.producer.0 a.tag.items) b.rows ≡ false
admits_new b a h =
    let full = unless (nat_lt (length b.rows) 4096) Limit (unless (nat_lt (count_by (is_from a.producer.0) b.rows) 64) Limit (unless (nat_lt (undecided_for a.consumer b.rows) 64) Limit (unless (nat_le (length a.payload) 65536) Limit None))) in
    let taken = unless (not (list_any (has_tag a.producer.0 a.tag.items) b.rows)) TagInUse full in
    let row = unless (a.row.0 == b.next_row) NoRow taken in
    let bound = unless (may_bind a.consumer b.termini) NoTerminus row in
    not_true _ (first_holds _ TagInUse full
    (then_holds (a.row.0 == b.next_row) NoRow taken
    (then_holds (may_bind a.consumer b.termini) NoTerminus row
    (then_holds (has_role Producer (terminus_at a.producer.0 b.termini)) NoTerminus bound h))))

-- a row that may be forgotten isn't forgotten yet
forgets_known : (r : Row) → forget_refusal (Some r) ≡ None → r.forgotten ≡ false
forgets_known r h = not_true r.forgotten (first_holds (not r.forgotten) _ _ h)

-- a row that may be decided isn't decided yet
decides_open : (r : Row) (outcome : DeliveryState) → decide_refusal (Some r) outcome ≡ None → r.outcome ≡ None
decides_open r outcome h = is_open r.outcome (first_holds (is_undecided r) _ _ h)

-- a terminus that may be made has a key of its own
makes_new : (b : BookView) (t : Terminus) → make_refusal b t ≡ None → list_any (λ u. same_key u.key t.key) b.termini ≡ false
makes_new b t h =
    let short = unless (nat_lt (length b.termini) 1024) Limit (unless (has_short_texts t) Limit None) in
    let new = unless (not (list_any (λ (u : Terminus). same_key u.key t.key) b.termini)) NoTerminus short in
    not_true _ (first_holds _ NoTerminus short (then_holds (t.number.0 == b.next_terminus) NoTerminus new h))

pub admits_next : (b : BookView) (a : Admission) → admit_refusal b a ≡ None → a.row.0 ≡ b.next_row
admits_next b a h = equal _ _ (first_holds (a.row.0 == b.next_row) _ _ (then_holds _ _ _ (then_holds _ _ _ h)))

pub admits : (b : BookView) (a : Admission) → admit_refusal b a ≡ None → IsNew b a
admits b a h = record { next = admits_next b a h; free = admits_new b a h }

-- a place that is read with one default reads the same with any
read_at : {S : Type 0} (xs : List S) (at : ℕ) (x d : S) → at < length xs → x ≡ get_or xs at x → get_or xs at d ≡ x
read_at xs at x d l e = get_or_default xs at d x l ∙ sym e

pub row_stays : (t : Tables) (b : BookView) (n : ℕ) (change : Row → Option Row) → Shows t b → row_at n (rows_in t.rows.slots.items) ≡ None
    → Shows t (record b { rows = with_row n change b.rows })
row_stays t b n change s none = record {
  termini = s.termini;
  rows = sym (row_unchanged t.rows.slots.items n change none) ∙ ap (with_row n change) s.rows;
  next_terminus = s.next_terminus;
  next_row = s.next_row;
  termini_rise = s.termini_rise;
  rows_rise = s.rows_rise;
  termini_below = s.termini_below;
  rows_below = s.rows_below;
  keyed = s.keyed;
  indexed = s.indexed;
  terminus_count = s.terminus_count;
  row_count = s.row_count;
}

-- a place that a row left shows none
pub row_gone : (xs : List RowSlot) (n at : ℕ) (x : RowSlot) → Rises row_number xs → IsAt row_number n xs at → x ≡ get_or xs at x → x.row ≡ None → row_at n (rows_in xs) ≡ None
row_gone xs n at x up h e none = row_found n xs at x up h ∙ ap (λ (s : RowSlot). s.row) (sym e) ∙ none

pub row_changes : (t : Tables) (index : RowIndex) (rows : Table RowSlot) (count : ℕ) (b : BookView) (n at : ℕ) (slot x : RowSlot) (old : Row) (change : Row → Option Row)
    → Shows t b → IsAt row_number n t.rows.slots.items at → x ≡ get_or t.rows.slots.items at x → x.row ≡ Some old
    → slot.row ≡ change old → slot.number ≡ n → rows.slots.items ≡ set t.rows.slots.items at slot
    → (Rises (λ (r : Row). r.number.0) (rows_in t.rows.slots.items) → row_at n (rows_in t.rows.slots.items) ≡ Some old → IsIndexed index (with_row n change (rows_in t.rows.slots.items)))
    → count ≡ cond (is_some slot.row) t.counters.rows (t.counters.rows - 1)
    → Shows (record t { rows = rows; index = index; counters = record t.counters { rows = count } }) (record b { rows = with_row n change b.rows })
row_changes t index rows count b n at slot x old change s h read was now number e indexed counted =
    let same : (d : RowSlot) → row_number (get_or t.rows.slots.items at d) ≡ row_number slot = λ d. h.is d ∙ sym number in
    let seen : rows_in rows.slots.items ≡ with_row n change (rows_in t.rows.slots.items) =
    ap rows_in e ∙ row_changed t.rows.slots.items n at slot old change s.rows_rise h (λ d. ap (λ (s : RowSlot). s.row) (read_at t.rows.slots.items at x d h.inside read) ∙ was) now in
    let here : row_at n (rows_in t.rows.slots.items) ≡ Some old = row_found n t.rows.slots.items at x s.rows_rise h ∙ ap (λ (s : RowSlot). s.row) (sym read) ∙ was in
    let up : Rises (λ (r : Row). r.number.0) (rows_in t.rows.slots.items) = rises_rows t.rows.slots.items s.rows_rise in
    record {
      termini = s.termini;
      rows = seen ∙ ap (with_row n change) s.rows;
      next_terminus = s.next_terminus;
      next_row = s.next_row;
      termini_rise = s.termini_rise;
      rows_rise = rw e (shown.rises_set row_number t.rows.slots.items at slot same s.rows_rise);
      termini_below = s.termini_below;
      rows_below = rw e (shown.below_set row_number t.counters.next_row t.rows.slots.items at slot same s.rows_below);
      keyed = s.keyed;
      indexed = let P : List Row → Type 0 = λ rs. IsIndexed index rs in subst P (sym seen) (indexed up here);
      terminus_count = s.terminus_count;
      row_count = counted ∙ ap (λ o. cond (is_some o) t.counters.rows (t.counters.rows - 1)) now
          ∙ ap (λ m. cond (is_some (change old)) m (m - 1)) s.row_count
          ∙ length_changed (λ (r : Row). r.number.0) n change (rows_in t.rows.slots.items) old up here ∙ sym (ap length seen);
    }

pub terminus_stays : (t : Tables) (b : BookView) (n : ℕ) → Shows t b → terminus_at n (termini_in t.termini.slots.items) ≡ None
    → Shows t (record b { termini = filter (λ t. not (t.number.0 == n)) b.termini })
terminus_stays t b n s none = record {
  termini = sym (terminus_unremoved t.termini.slots.items n none) ∙ ap (filter (λ (t : Terminus). not (t.number.0 == n))) s.termini;
  rows = s.rows;
  next_terminus = s.next_terminus;
  next_row = s.next_row;
  termini_rise = s.termini_rise;
  rows_rise = s.rows_rise;
  termini_below = s.termini_below;
  rows_below = s.rows_below;
  keyed = s.keyed;
  indexed = s.indexed;
  terminus_count = s.terminus_count;
  row_count = s.row_count;
}

pub terminus_gone : (xs : List TerminusSlot) (n at : ℕ) (x : TerminusSlot) → Rises terminus_number xs → IsAt terminus_number n xs at → x ≡ get_or xs at x → x.terminus ≡ None → terminus_at n (termini_in xs) ≡ None
terminus_gone xs n at x up h e none = terminus_found n xs at x up h ∙ ap (λ (s : TerminusSlot). s.terminus) (sym e) ∙ none

pub terminus_leaves : (t : Tables) (keys : Numbers LinkKey) (termini : Table TerminusSlot) (count : ℕ) (b : BookView) (n at : ℕ) (slot x : TerminusSlot) (old : Terminus)
    → Shows t b → IsAt terminus_number n t.termini.slots.items at → x ≡ get_or t.termini.slots.items at x → x.terminus ≡ Some old
    → slot.terminus ≡ None → slot.number ≡ n → termini.slots.items ≡ set t.termini.slots.items at slot → count ≡ t.counters.termini - 1
    → ((q : LinkKey) → number_at key_cmp keys q ≡ cond (is_eq (key_cmp old.key q)) 0 (number_at key_cmp t.keys q))
    → Shows (record t { termini = termini; keys = keys; counters = record t.counters { termini = count } }) (record b { termini = filter (λ t. not (t.number.0 == n)) b.termini })
terminus_leaves t keys termini count b n at slot x old s h read was now number e counted set =
    let same : (d : TerminusSlot) → terminus_number (get_or t.termini.slots.items at d) ≡ terminus_number slot = λ d. h.is d ∙ sym number in
    let ts = termini_in t.termini.slots.items in
    let seen : termini_in termini.slots.items ≡ filter (λ (t : Terminus). not (t.number.0 == n)) (termini_in t.termini.slots.items) =
    ap termini_in e ∙ terminus_removed t.termini.slots.items n at slot old s.termini_rise h (λ d. ap (λ (s : TerminusSlot). s.terminus) (read_at t.termini.slots.items at x d h.inside read) ∙ was) now in
    let here : terminus_at n (termini_in t.termini.slots.items) ≡ Some old = terminus_found n t.termini.slots.items at x s.termini_rise h ∙ ap (λ (s : TerminusSlot). s.terminus) (sym read) ∙ was in
    record {
      termini = seen ∙ ap (filter (λ (t : Terminus). not (t.number.0 == n))) s.termini;
      rows = s.rows;
      next_terminus = s.next_terminus;
      next_row = s.next_row;
      termini_rise = rw e (shown.rises_set terminus_number t.termini.slots.items at slot same s.termini_rise);
      rows_rise = s.rows_rise;
      termini_below = rw e (shown.below_set terminus_number t.counters.next_terminus t.termini.slots.items at slot same s.termini_below);
      rows_below = s.rows_below;
      keyed = let P : List Terminus → Type 0 = λ us. AllKeyed keys us in subst P (sym seen) (keyed_left t.keys keys old.key 0 n set (keyed_at t.keys n ts old s.keyed here) ts s.keyed);
      indexed = s.indexed;
      terminus_count = counted ∙ ap (λ m. m - 1) s.terminus_count
          ∙ length_changed (λ (t : Terminus). t.number.0) n (λ _. None) ts old (shown.rises_shown terminus_number (λ s. s.terminus) (λ (t : Terminus). t.number.0) (λ s. s.same) t.termini.slots.items s.termini_rise) here
          ∙ ap length (shown.filter_as_change (λ (t : Terminus). t.number.0) n ts) ∙ sym (ap length seen);
      row_count = s.row_count;
    }

pub terminus_comes : (t : Tables) (keys : Numbers LinkKey) (termini : Table TerminusSlot) (next count : ℕ) (b : BookView) (slot : TerminusSlot) (made : Terminus)
    → Shows t b → slot.terminus ≡ Some made → slot.number ≡ made.number.0 → make_refusal b made ≡ None → next ≡ t.counters.next_terminus + 1 → count ≡ t.counters.termini + 1 → termini.slots.items ≡ t.termini.slots.items ++ slot ∷ []
    → ((q : LinkKey) → number_at key_cmp keys q ≡ cond (is_eq (key_cmp made.key q)) made.number.0 (number_at key_cmp t.keys q))
    → Shows (record t { termini = termini; keys = keys; counters = record t.counters { next_terminus = next; termini = count } }) (record b { termini = b.termini ++ made ∷ []; next_terminus = b.next_terminus + 1 })
terminus_comes t keys termini next count b slot made s is number applies more counted e set =
    let same : terminus_number slot ≡ t.counters.next_terminus = number ∙ makes_next b made applies ∙ sym s.next_terminus in
    let free : list_any (λ u. same_key u.key made.key) (termini_in t.termini.slots.items) ≡ false = ap (list_any (λ (u : Terminus). same_key u.key made.key)) s.termini ∙ makes_new b made applies in
    let seen : termini_in termini.slots.items ≡ termini_in t.termini.slots.items ++ made ∷ [] = ap termini_in e ∙ shown.shown_more (λ (s : TerminusSlot). s.terminus) t.termini.slots.items slot made is in
    record {
      termini = seen ∙ ap (λ ts. ts ++ made ∷ []) s.termini;
      rows = s.rows;
      next_terminus = more ∙ ap (λ n. n + 1) s.next_terminus;
      next_row = s.next_row;
      termini_rise = rw e (shown.rises_more terminus_number t.counters.next_terminus t.termini.slots.items slot s.termini_rise s.termini_below same);
      rows_rise = s.rows_rise;
      termini_below = rw (e, more) (shown.below_more_number terminus_number t.counters.next_terminus t.termini.slots.items slot s.termini_below same);
      rows_below = s.rows_below;
      keyed = let P : List Terminus → Type 0 = λ us. AllKeyed keys us in subst P (sym seen) (keyed_more t.keys keys made.key made.number.0 set (termini_in t.termini.slots.items) made refl refl free s.keyed);
      indexed = s.indexed;
      terminus_count = counted ∙ ap (λ n. n + 1) s.terminus_count ∙ sym (length_more (λ (t : Terminus). t.number.0) (termini_in t.termini.slots.items) made) ∙ sym (ap length seen);
      row_count = s.row_count;
    }

-- a row that is admitted
pub row_admitted : (t : Tables) (index : RowIndex) (rows : Table RowSlot) (next count : ℕ) (b : BookView) (slot : RowSlot) (a : Admission)
    → Shows t b → slot.row ≡ Some (admitted a) → slot.number ≡ a.row.0 → next ≡ t.counters.next_row + 1 → count ≡ t.counters.rows + 1 → rows.slots.items ≡ t.rows.slots.items ++ slot ∷ []
    → IsNew b a
    → ((rs : List Row) → IsIndexed t.index rs → list_any (has_tag a.producer.0 a.tag.items) rs ≡ false → IsIndexed index (rs ++ admitted a ∷ []))
    → Shows (record t { index = index; rows = rows; counters = record t.counters { next_row = next; rows = count } }) (effect b (Admit a))
row_admitted t index rows next count b slot a s is number more counted e new indexed =
    let same : row_number slot ≡ t.counters.next_row = number ∙ new.next ∙ sym s.next_row in
    let free : list_any (has_tag a.producer.0 a.tag.items) (rows_in t.rows.slots.items) ≡ false = ap (list_any (has_tag a.producer.0 a.tag.items)) s.rows ∙ new.free in
    let seen : rows_in rows.slots.items ≡ rows_in t.rows.slots.items ++ admitted a ∷ [] = ap rows_in e ∙ shown.shown_more (λ (s : RowSlot). s.row) t.rows.slots.items slot (admitted a) is in
    record {
      termini = s.termini;
      rows = seen ∙ ap (λ rs. rs ++ admitted a ∷ []) s.rows;
      next_terminus = s.next_terminus;
      next_row = more ∙ ap (λ n. n + 1) s.next_row;
      termini_rise = s.termini_rise;
      rows_rise = rw e (shown.rises_more row_number t.counters.next_row t.rows.slots.items slot s.rows_rise s.rows_below same);
      termini_below = s.termini_below;
      rows_below = rw (e, more) (shown.below_more_number row_number t.counters.next_row t.rows.slots.items slot s.rows_below same);
      keyed = s.keyed;
      indexed = let P : List Row → Type 0 = λ rs. IsIndexed index rs in subst P (sym seen) (indexed (rows_in t.rows.slots.items) s.indexed free);
      terminus_count = s.terminus_count;
      row_count = counted ∙ ap (λ n. n + 1) s.row_count ∙ sym (length_more (λ (r : Row). r.number.0) (rows_in t.rows.slots.items) (admitted a)) ∙ sym (ap length seen);
    }

-- a row that is decided
pub row_decided : (t : Tables) (index : RowIndex) (rows : Table RowSlot) (count : ℕ) (b : BookView) (n at : ℕ) (slot x : RowSlot) (old : Row) (outcome : DeliveryState)
    → Shows t b → IsAt row_number n t.rows.slots.items at → x ≡ get_or t.rows.slots.items at x → x.row ≡ Some old
    → slot.row ≡ decided outcome old → slot.number ≡ n → rows.slots.items ≡ set t.rows.slots.items at slot
    → decide_refusal (row_at n b.rows) outcome ≡ None
    → ((rs : List Row) (n : ℕ) (outcome : DeliveryState) → Rises (λ (r : Row). r.number.0) rs → IsIndexed t.index rs → row_at n rs ≡ Some old → old.outcome ≡ None → IsIndexed index (with_row n (decided outcome) rs))
    → count ≡ cond (is_some slot.row) t.counters.rows (t.counters.rows - 1)
    → Shows (record t { rows = rows; index = index; counters = record t.counters { rows = count } }) (record b { rows = with_row n (decided outcome) b.rows })
row_decided t index rows count b n at slot x old outcome s h read was now number e applies indexed counted =
    row_changes t index rows count b n at slot x old (decided outcome) s h read was now number e
    (λ up here. indexed (rows_in t.rows.slots.items) n outcome up s.indexed here (decides_open old outcome (rw (← s.rows, here) at applies))) counted

-- a row that is forgotten
pub row_forgotten : (t : Tables) (index : RowIndex) (rows : Table RowSlot) (count : ℕ) (b : BookView) (n at : ℕ) (slot x : RowSlot) (old : Row)
    → Shows t b → IsAt row_number n t.rows.slots.items at → x ≡ get_or t.rows.slots.items at x → x.row ≡ Some old
    → slot.row ≡ forgotten old → slot.number ≡ n → rows.slots.items ≡ set t.rows.slots.items at slot
    → forget_refusal (row_at n b.rows) ≡ None
    → ((rs : List Row) (n : ℕ) → Rises (λ (r : Row). r.number.0) rs → IsIndexed t.index rs → row_at n rs ≡ Some old → old.forgotten ≡ false → IsIndexed index (with_row n forgotten rs))
    → count ≡ cond (is_some slot.row) t.counters.rows (t.counters.rows - 1)
    → Shows (record t { rows = rows; index = index; counters = record t.counters { rows = count } }) (record b { rows = with_row n forgotten b.rows })
row_forgotten t index rows count b n at slot x old s h read was now number e applies indexed counted =
    row_changes t index rows count b n at slot x old forgotten s h read was now number e
    (λ up here. indexed (rows_in t.rows.slots.items) n up s.indexed here (forgets_known old (rw (← s.rows, here) at applies))) counted

pub swept : (t : Tables) (termini : Table TerminusSlot) (rows : Table RowSlot) (keys : Numbers LinkKey) (index : RowIndex) (b : BookView) → Shows t b
    → IsSwept terminus_number (λ s. s.terminus) t.termini.slots.items termini.slots.items → IsSwept row_number (λ s. s.row) t.rows.slots.items rows.slots.items
    → ((q : LinkKey) → number_at key_cmp keys q ≡ number_at key_cmp t.keys q) → ((rs : List Row) → IsIndexed t.index rs → IsIndexed index rs)
    → Shows (record t { termini = termini; rows = rows; keys = keys; index = index }) b
swept t termini rows keys index b s e f alike same = record {
  termini = e.shown ∙ s.termini;
  rows = f.shown ∙ s.rows;
  next_terminus = s.next_terminus;
  next_row = s.next_row;
  termini_rise = e.rise s.termini_rise;
  rows_rise = f.rise s.rows_rise;
  termini_below = e.below t.counters.next_terminus s.termini_below;
  rows_below = f.below t.counters.next_row s.rows_below;
  keyed = let P : List Terminus → Type 0 = λ ts. AllKeyed keys ts in subst P (sym e.shown) (keyed_same t.keys keys alike (termini_in t.termini.slots.items) s.keyed);
  indexed = let P : List Row → Type 0 = λ rs. IsIndexed index rs in subst P (sym f.shown) (same (rows_in t.rows.slots.items) s.indexed);
  terminus_count = s.terminus_count ∙ sym (ap length e.shown);
  row_count = s.row_count ∙ sym (ap length f.shown);
}

pub swept_termini : (xs ys : List TerminusSlot) → ys ≡ filter (λ s. is_some s.terminus) xs → IsSwept terminus_number (λ s. s.terminus) xs ys
swept_termini xs ys e = rw e (record {
  shown = shown.shown_kept (λ (s : TerminusSlot). s.terminus) xs;
  rise = shown.rises_filter terminus_number (λ s. is_some s.terminus) xs;
  below = λ n. shown.below_filter terminus_number n (λ s. is_some s.terminus) xs;
})

pub swept_rows : (xs ys : List RowSlot) → ys ≡ filter (λ s. is_some s.row) xs → IsSwept row_number (λ s. s.row) xs ys
swept_rows xs ys e = rw e (record {
  shown = shown.shown_kept (λ (s : RowSlot). s.row) xs;
  rise = shown.rises_filter row_number (λ s. is_some s.row) xs;
  below = λ n. shown.below_filter row_number n (λ s. is_some s.row) xs;
})

-- tables that show a book show only that one
pub shown_is : (t : Tables) (b : BookView) → Shows t b → shown_by t ≡ b
shown_is t b s = λ i. record { termini = s.termini i; rows = s.rows i; next_terminus = s.next_terminus i; next_row = s.next_row i }

pub whole : (t : Tables) (b : BookView) → Shows t b → IsSettled t → IsSound b → IsWhole t
whole t b s settled sound = record {
  shows = record {
    termini = refl;
    rows = refl;
    next_terminus = refl;
    next_row = refl;
    termini_rise = s.termini_rise;
    rows_rise = s.rows_rise;
    termini_below = s.termini_below;
    rows_below = s.rows_below;
    keyed = s.keyed;
    indexed = s.indexed;
    terminus_count = s.terminus_count;
    row_count = s.row_count;
  };
  settled = settled;
  sound = subst IsSound (sym (shown_is t b s)) sound;
}

-- an index whose changes since it was settled are undone
index_back : (i ran u : RowIndex) (rs : List Row) → IsIndexSettled i → SameIndexBefore i ran → IsIndexBack ran u → IsIndexed i rs → IsIndexed u rs
index_back i ran u rs settled same back indexed =
    let names = back.names ∙ same.names ∙ settled.names in
    let from = back.from ∙ same.from ∙ settled.from in
    let unforgotten = back.unforgotten ∙ same.unforgotten ∙ settled.unforgotten in
    let waiting = back.waiting ∙ same.waiting ∙ settled.waiting in
    indexed_same i u rs indexed
    (λ q. ap (λ (h : RowName → Option ℕ). or_zero (h q)) names)
    (λ n. ap (λ (h : ℕ → Option ℕ). or_zero (h n)) from)
    (λ n. ap (λ (h : ℕ → Option ℕ). or_zero (h n)) unforgotten)
    (λ n. ap (λ (h : ℕ → Option ℕ). or_zero (h n)) waiting)

-- tables whose changes since they were whole are undone
pub undone_whole : (t ran u : Tables) → IsWhole t → SameBefore t ran
    → u.termini.slots.items ≡ before ran.termini.log.items ran.termini.slots.items → u.rows.slots.items ≡ before ran.rows.log.items ran.rows.slots.items
    → get key_cmp u.keys.numbers ≡ earlier key_cmp ran.keys.log.items (get key_cmp ran.keys.numbers)
    → IsIndexBack ran.index u.index → u.counters ≡ t.counters → IsSettled u → IsWhole u
undone_whole t ran u w same termini rows keys index counters settled =
    let e = termini ∙ same.termini ∙ w.settled.termini in
    let f = rows ∙ same.rows ∙ w.settled.rows in
    let s = w.shows in
    whole u (shown_by t) (record {
      termini = ap termini_in e;
      rows = ap rows_in f;
      next_terminus = ap (λ (c : Counters). c.next_terminus) counters;
      next_row = ap (λ (c : Counters). c.next_row) counters;
      termini_rise = rw e s.termini_rise;
      rows_rise = rw f s.rows_rise;
      termini_below = rw (e, counters) s.termini_below;
      rows_below = rw (f, counters) s.rows_below;
      keyed = rw e (keyed_same t.keys u.keys (λ q. ap (λ (h : LinkKey → Option ℕ). or_zero (h q)) (keys ∙ same.keys ∙ w.settled.keys)) (termini_in t.termini.slots.items) s.keyed);
      indexed = rw f (index_back t.index ran.index u.index (rows_in t.rows.slots.items) w.settled.index same.index index s.indexed);
      terminus_count = rw (e, counters) s.terminus_count;
      row_count = rw (f, counters) s.row_count;
    }) settled w.sound
