-- Rows that are found by name, through look-ups and changes.
use Rattle.std.proofs.Common.{◌≡◌, ℕ, Bool, true, false, cond, not, ◌&&◌, List, [], ◌∷◌, ◌++◌, Option, Some, None, refl, ap, ◌∙◌, sym}
use Rattle.std.specs.Prelude.{◌==◌, is_some}
use Rattle.std.specs.List.{list_any, cons_option}
use Rattle.std.specs.Option.{unwrap_or}
use Rattle.std.specs.Cmp.{IsTotalOrder}
use Rattle.std.proofs.lemmas.Cmp.{then_total, on_total, nat_cmp_total, nat_list_cmp_total, tied_itself}
use Rattle.amqp_model.specs.declared.state.DeliveryState.{DeliveryState}
use Rattle.std.specs.Cmp.Lexicographic.{slice_cmp}
use Rattle.std.specs.Ordering.{nat_cmp, is_eq}
use Rattle.std.proofs.lemmas.Map.Lookups.{exact_pairs, exact_unsigned, exact_bytes}
use Rattle.std.proofs.lemmas.Slice.Eq.{bytes_eq-Decides}
use Rattle.book_core.specs.declared.numbers.Numbers.{Numbers}
use Rattle.book_model.specs.declared.row.Row.{Row}
use Rattle.book_core.specs.declared.row_name.RowName.{RowName}
use Rattle.book_core.specs.declared.slot.RowSlot.{RowSlot}
use Rattle.book_model.specs.Book.{has_tag, row_at, row_named, with_row, decided, forgotten, same_bytes}
use Rattle.book_core.specs.Named.{name_cmp, name_of, IsNamed, AllNamed}
use Rattle.book_core.specs.Numbers.{number_at}
use Rattle.book_core.specs.Rising.{Rises}
use Rattle.book_core.specs.Slots.{rows_in}
use Rattle.book_core.specs.Tables.{row_number}
use Rattle.book_core.proofs.Changes.{by_test, equal}
use Rattle.book_core.proofs.Found.{number_of, not_number, none_of, none_behind, passing, found_by, AllHaveIt}
use Rattle.book_core.proofs.Shown.{same_number}
use Rattle.book_core.proofs.Shown as shown

names_total : IsTotalOrder name_cmp
names_total = then_total (on_total (λ (a : RowName). a.producer) nat_cmp_total) (on_total (λ (a : RowName). a.tag.items) nat_list_cmp_total)

some_same : (x y : Row) → Some x ≡ Some y → x ≡ y
some_same x y h = ap (λ (o : Option Row). unwrap_or o x) h

-- names that compare alike are one
exact : (a b : RowName) → is_eq (name_cmp a b) ≡ true → a ≡ b
exact a b h =
    ap (λ (p : ℕ × List ℕ). record { producer = p.0; tag = record { items = p.1 } })
    (exact_pairs nat_cmp (slice_cmp nat_cmp) exact_unsigned exact_bytes (a.producer, a.tag.items) (b.producer, b.tag.items) (equal (name_cmp a b) h))

first_of : (a b c : Bool) → (a && b && c) ≡ true → a ≡ true
first_of true b c h = refl
first_of false b c h = absurd cc

second_of : (a b c : Bool) → (a && not b && c) ≡ true → b ≡ false
second_of true false c h = refl
second_of true true c h = absurd cc
second_of false b c h = absurd cc

third_of : (a b c : Bool) → (a && b && c) ≡ true → c ≡ true
third_of true true c h = h
third_of true false c h = absurd cc
third_of false b c h = absurd cc

all_of : (a b c : Bool) → a ≡ true → b ≡ false → c ≡ true → (a && not b && c) ≡ true
all_of a b c e f g = rw (e, f, g) refl

-- a row with this name has the number that is there
tagged : (names : Numbers RowName) (k : RowName) (r : Row) → IsNamed names r → has_tag k.producer k.tag.items r ≡ true → (r.number.0 == number_at name_cmp names k) ≡ true
tagged names k r named h =
    let from = number_of r.producer.0 k.producer (first_of (r.producer.0 == k.producer) (not r.forgotten) (same_bytes r.tag.items k.tag.items) h) in
    let tag = (bytes_eq-Decides r.tag.items k.tag.items).0 (third_of (r.producer.0 == k.producer) (not r.forgotten) (same_bytes r.tag.items k.tag.items) h) in
    let name : name_of r ≡ k = λ i. record { producer = from i; tag = record { items = tag i } } in
    same_number r.number.0 (number_at name_cmp names k) (sym (named (second_of (r.producer.0 == k.producer) r.forgotten (same_bytes r.tag.items k.tag.items) h)) ∙ ap (number_at name_cmp names) name)

-- a row of this name has the tag
has_it : (k : RowName) (r : Row) → k ≡ name_of r → r.forgotten ≡ false → has_tag k.producer k.tag.items r ≡ true
has_it k r e f = all_of (r.producer.0 == k.producer) r.forgotten (same_bytes r.tag.items k.tag.items)
    (same_number r.producer.0 k.producer (sym (ap (λ (a : RowName). a.producer) e))) f
    ((bytes_eq-Decides r.tag.items k.tag.items).1 (sym (ap (λ (a : RowName). a.tag.items) e)))

-- rows are in the order of their places
pub rises_rows : (xs : List RowSlot) → Rises row_number xs → Rises (λ (r : Row). r.number.0) (rows_in xs)
rises_rows xs up = shown.rises_shown row_number (λ s. s.row) (λ (r : Row). r.number.0) (λ s. s.same) xs up

all_tagged : (names : Numbers RowName) (k : RowName) (rs : List Row) → AllNamed names rs → AllHaveIt (λ (r : Row). r.number.0) (has_tag k.producer k.tag.items) (number_at name_cmp names k) rs
all_tagged names k [] named = tt
all_tagged names k (r ∷ rs) named = (tagged names k r named.0, all_tagged names k rs named.1)

module _ (old new : Numbers RowName) (k : RowName) (n : ℕ) (set : (q : RowName) → number_at name_cmp new q ≡ cond (is_eq (name_cmp k q)) n (number_at name_cmp old q)) where
  -- a name that no row has takes a number
  pub named_set : (rs : List Row) → list_any (has_tag k.producer k.tag.items) rs ≡ false → AllNamed old rs → AllNamed new rs
  named_set [] none named = tt
  named_set (r ∷ rs) none named = (
    λ f. by_test (is_eq (name_cmp k (name_of r)))
        (λ t. absurd (let has = has_it k r (exact k (name_of r) t) f in let hasn't = none_of (has_tag k.producer k.tag.items r) (list_any (has_tag k.producer k.tag.items) rs) none in let no : true ≡ false = sym has ∙ hasn't in cc))
        (λ t. set (name_of r) ∙ rw t (named.0 f)),
    named_set rs (none_behind (has_tag k.producer k.tag.items r) (list_any (has_tag k.producer k.tag.items) rs) none) named.1,
  )

  -- the row that took it
  pub named_here : (r : Row) → name_of r ≡ k → r.number.0 ≡ n → IsNamed new r
  named_here r e number f = set (name_of r) ∙ rw (ap is_eq (ap (name_cmp k) e ∙ tied_itself names_total k)) (sym number)

-- the name of a row that is forgotten is free
module _ (old new : Numbers RowName) (k : RowName) (m n : ℕ) (set : (q : RowName) → number_at name_cmp new q ≡ cond (is_eq (name_cmp k q)) m (number_at name_cmp old q)) (stood : number_at name_cmp old k ≡ n) where
  other : (r : Row) → (r.number.0 == n) ≡ false → IsNamed old r → IsNamed new r
  other r differs named f =
      by_test (is_eq (name_cmp k (name_of r)))
      (λ t. absurd (not_number r.number.0 n differs (sym (named f) ∙ sym (ap (number_at name_cmp old) (exact k (name_of r) t)) ∙ stood)))
      (λ t. set (name_of r) ∙ rw t (named f))

  pub named_forgotten : (rs : List Row) → AllNamed old rs → AllNamed new (with_row n forgotten rs)
  named_forgotten [] named = tt
  named_forgotten (r ∷ rs) named = by_bool (r.number.0 == n) refl (named_forgotten rs named.1)
    where
      by_outcome : (b : Bool) (more : List Row) → AllNamed new more → AllNamed new (cons_option (cond b None (Some (record r { forgotten = true }))) more)
      by_outcome true more rest = rest
      by_outcome false more rest = (λ (f : true ≡ false). absurd cc, rest)

      by_bool : (b : Bool) → (r.number.0 == n) ≡ b → AllNamed new (with_row n forgotten rs) → AllNamed new (cons_option (cond b (forgotten r) (Some r)) (with_row n forgotten rs))
      by_bool true e rest = by_outcome (is_some r.outcome) (with_row n forgotten rs) rest
      by_bool false e rest = (other r e named.0, rest)

-- a row that is decided keeps its name
pub named_decided : (names : Numbers RowName) (outcome : DeliveryState) (n : ℕ) (rs : List Row) → AllNamed names rs → AllNamed names (with_row n (decided outcome) rs)
named_decided names outcome n [] named = tt
named_decided names outcome n (r ∷ rs) named = by_bool (r.number.0 == n) (named_decided names outcome n rs named.1)
  where
    by_forgotten : (b : Bool) → r.forgotten ≡ b → AllNamed names (with_row n (decided outcome) rs) → AllNamed names (cons_option (cond b None (Some (record r { outcome = Some outcome }))) (with_row n (decided outcome) rs))
    by_forgotten true e rest = rest
    by_forgotten false e rest = (named.0, rest)

    by_bool : (b : Bool) → AllNamed names (with_row n (decided outcome) rs) → AllNamed names (cons_option (cond b (decided outcome r) (Some r)) (with_row n (decided outcome) rs))
    by_bool true rest = by_forgotten r.forgotten refl rest
    by_bool false rest = (named.0, rest)

pub named_more : (names : Numbers RowName) (rs : List Row) (r : Row) → AllNamed names rs → IsNamed names r → AllNamed names (rs ++ r ∷ [])
named_more names [] r named h = (h, tt)
named_more names (x ∷ rs) r named h = (named.0, named_more names rs r named.1 h)

-- a row that is there is named
pub named_at : (names : Numbers RowName) (n : ℕ) (rs : List Row) (r : Row) → AllNamed names rs → row_at n rs ≡ Some r → IsNamed names r × (r.number.0 ≡ n)
named_at names n [] r named h = absurd cc
named_at names n (x ∷ rs) r named h =
    by_test (x.number.0 == n)
    (λ t. let found : cond (x.number.0 == n) (Some x) (row_at n rs) ≡ Some r = h in let same : x ≡ r = some_same x r (rw t at found) in rw (← same) (named.0, number_of x.number.0 n t))
    (λ t. let found : cond (x.number.0 == n) (Some x) (row_at n rs) ≡ Some r = h in named_at names n rs r named.1 (rw t at found))

-- where the same numbers are
pub named_same : (old new : Numbers RowName) → ((q : RowName) → number_at name_cmp new q ≡ number_at name_cmp old q) → (rs : List Row) → AllNamed old rs → AllNamed new rs
named_same old new same [] named = tt
named_same old new same (r ∷ rs) named = (λ f. same (name_of r) ∙ named.0 f, named_same old new same rs named.1)

-- a look-up by name: the row whose number is there, if it has that name
pub looked : (names : Numbers RowName) (k : RowName) (p : ℕ) (tag : List ℕ) (xs : List RowSlot) (o : Option Row) (n : ℕ) → k.producer ≡ p → k.tag.items ≡ tag → n ≡ number_at name_cmp names k
    → (Rises row_number xs → o ≡ row_at n (rows_in xs)) → Rises row_number xs → AllNamed names (rows_in xs) → row_named p tag (rows_in xs) ≡ passing (has_tag p tag) o
looked names k p tag xs o n producer same stands found up named =
    rw (← producer, ← same, found up, stands) (found_by (λ (r : Row). r.number.0) (has_tag k.producer k.tag.items) (number_at name_cmp names k) (rows_in xs) (rises_rows xs up) (all_tagged names k (rows_in xs) named))
