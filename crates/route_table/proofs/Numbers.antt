-- Ports and lists of mechanisms, read from the front.
use Rattle.std.proofs.Common.{◌≡◌, ℕ, suc, zero, ◌+◌, ◌-◌, ◌*◌, ◌<◌, ◌≤◌, Bool, true, false, cond, ◌&&◌, List, [], ◌∷◌, ◌++◌, length, drop, get_or, filter, Option, Some, None, option_map, refl, sym, ◌∙◌, ap, subst, arith, nat_lt}
use Rattle.std.specs.Prelude.{fold}
use Rattle.std.specs.List.{slice_split}
use Rattle.std.proofs.Common.{append_assoc, add-one, map, Bor, ◌==◌}
use Rattle.std.proofs.lemmas.List.{length-map}
use Rattle.route_table.specs.Lines.{is_blank}
use Rattle.std.specs.Char.{is_ascii_digit}
use Rattle.std.specs.Str.{all_ascii_digits}
use Rattle.std.proofs.lemmas.Bool.Decides.{nat_tests}
use Rattle.std.proofs.Math.Seq.{drop-cons}
use Rattle.std.proofs.lemmas.List.{drop_all}
use Rattle.route_table.specs.declared.sections.Mechanism.{Mechanism}
use Rattle.route_table.specs.Values.{decimal, port_of, mechanisms_named, both, mechanism_named, mechanisms_of}

-- a number whose first digits are read
abbrev pub decimal_from : ℕ → List ℕ → ℕ
decimal_from n digits = fold (λ m digit. 10 * m + (digit - 48)) n digits

pub grows : (n most : ℕ) (digits : List ℕ) → most ≤ n → most ≤ decimal_from n digits
grows n most [] h = h
grows n most (d ∷ digits) h = grows (10 * n + (d - 48)) most digits (omega arith)

pub not_digit : (value : List ℕ) (i : ℕ) → i < length value → is_ascii_digit (get_or value i 0) ≡ false → all_ascii_digits (drop i value) ≡ all_ascii_digits value → None ≡ port_of value
unfolding port_of
not_digit value i below other digits =
    let none : all_ascii_digits value ≡ false = sym digits ∙ ap all_ascii_digits (drop-cons value i 0 below) ∙ rw other refl in
    rw none refl

pub too_large : (value : List ℕ) → 65536 ≤ decimal value → None ≡ port_of value
unfolding port_of
too_large value bound =
    let test : nat_lt (decimal value) 65536 ≡ false = grind (arith, nat_tests) in
    by_test (all_ascii_digits value) (nat_lt 0 (decimal value)) (nat_lt (decimal value) 65536) test
  where
    by_test : (a b c : Bool) → c ≡ false → None ≡ cond (a && b && c) (Some (decimal value)) None
    by_test true true true h = absurd cc
    by_test true true false h = refl
    by_test true false c h = refl
    by_test false b c h = refl

-- what was found, in front of the others
abbrev pub behind : List Mechanism → Option (List Mechanism) → Option (List Mechanism)
behind found others = option_map (λ ms. found ++ ms) others

abbrev pub words_in : List (List ℕ) → List (List ℕ)
words_in parts = filter (λ word. nat_lt 0 (length word)) parts

pub zero_port : (value : List ℕ) (n i : ℕ) → length value ≤ i → n ≡ 0 → decimal_from n (drop i value) ≡ decimal value → None ≡ port_of value
unfolding port_of
zero_port value n i all is same =
    let none : decimal value ≡ 0 = sym same ∙ ap (decimal_from n) (drop_all i value all) ∙ is in
    rw none (by_test (all_ascii_digits value))
  where
    by_test : (a : Bool) → ◌≡◌ {A = Option ℕ} None (cond (a && false && true) (Some 0) None)
    by_test true = refl
    by_test false = refl

pub whole_port : (value : List ℕ) (n i : ℕ) → length value ≤ i → (n ≡ 0 → ⊥) → n < 65536 → decimal_from n (drop i value) ≡ decimal value → all_ascii_digits (drop i value) ≡ all_ascii_digits value → Some n ≡ port_of value
unfolding port_of
whole_port value n i all some small same digits =
    let is : n ≡ decimal value = sym (ap (decimal_from n) (drop_all i value all)) ∙ same in
    let digit : all_ascii_digits value ≡ true = sym digits ∙ ap all_ascii_digits (drop_all i value all) in
    let low : nat_lt 0 n ≡ true = grind (arith, nat_tests) in
    let high : nat_lt n 65536 ≡ true = grind (arith, nat_tests) in
    rw (digit, ← is, low, high) refl

mechanisms_behind : (ms : Option (List Mechanism)) → behind [] ms ≡ ms
mechanisms_behind None = refl
mechanisms_behind (Some ms) = refl

pub mechanisms_start : (parts : List (List ℕ)) (value : List ℕ) → parts ≡ slice_split is_blank value → behind [] (mechanisms_named (words_in (drop 0 parts))) ≡ mechanisms_of value
unfolding mechanisms_of
mechanisms_start parts value is = mechanisms_behind (mechanisms_named (words_in parts)) ∙ ap (λ ps. mechanisms_named (words_in ps)) is

one_part : (found : List Mechanism) (word : List ℕ) (rest : List (List ℕ)) (m : Option Mechanism) → mechanism_named word ≡ m → nat_lt 0 (length word) ≡ true
    → behind found (mechanisms_named (words_in (word ∷ rest))) ≡ behind found (both m (mechanisms_named (words_in rest)))
one_part found word rest m is some = rw (some, is) refl

both_behind : (found : List Mechanism) (m : Mechanism) (r : Option (List Mechanism)) → behind found (both (Some m) r) ≡ behind (found ++ m ∷ []) r
both_behind found m None = refl
both_behind found m (Some ms) = ap (λ x. Some x) (sym (append_assoc found (m ∷ []) ms))

module _ (found : List Mechanism) (parts : List (List ℕ)) (i : ℕ) (word value : List ℕ) (below : i < length parts) (item : word ≡ get_or parts i []) (so_far : behind found (mechanisms_named (words_in (drop i parts))) ≡ mechanisms_of value) where
  split : drop i parts ≡ word ∷ drop (i + 1) parts
  split = drop-cons parts i [] below ∙ ap (λ w. w ∷ drop (suc i) parts) (sym item) ∙ ap (λ n. word ∷ drop n parts) (sym (add-one i))

  pub mechanisms_stop : nat_lt 0 (length word) ≡ true → mechanism_named word ≡ None → None ≡ mechanisms_of value
  mechanisms_stop some none = sym (one_part found word (drop (i + 1) parts) None none some) ∙ ap (λ ps. behind found (mechanisms_named (words_in ps))) (sym split) ∙ so_far

  pub mechanisms_more : (m : Mechanism) → nat_lt 0 (length word) ≡ true → mechanism_named word ≡ Some m → behind (found ++ m ∷ []) (mechanisms_named (words_in (drop (i + 1) parts))) ≡ mechanisms_of value
  mechanisms_more m some is = sym (both_behind found m (mechanisms_named (words_in (drop (i + 1) parts)))) ∙ sym (one_part found word (drop (i + 1) parts) (Some m) is some) ∙ ap (λ ps. behind found (mechanisms_named (words_in ps))) (sym split) ∙ so_far

  pub mechanisms_skip : nat_lt 0 (length word) ≡ false → behind found (mechanisms_named (words_in (drop (i + 1) parts))) ≡ mechanisms_of value
  mechanisms_skip none = sym (ap (λ ps. behind found (mechanisms_named (words_in ps))) split ∙ rw none refl) ∙ so_far

pub number_grows : (value items : List ℕ) (i n most : ℕ) → items ≡ value → i < length items → most ≤ 10 * n + (get_or items i 0 - 48) → decimal_from n (drop i value) ≡ decimal value → most ≤ decimal value
number_grows value items i n most same below large is =
    let P : List ℕ → Type 0 = λ v. decimal_from n (drop i v) ≡ decimal v → most ≤ decimal v in
    subst P same (λ whole. let next : decimal_from (10 * n + (get_or items i 0 - 48)) (drop (suc i) items) ≡ decimal items = sym (ap (decimal_from n) (drop-cons items i 0 below)) ∙ whole in omega (arith, grows (10 * n + (get_or items i 0 - 48)) most (drop (suc i) items) large, next)) is

abbrev pub nowhere : Bor (List ℕ)
nowhere = record { ref_ptr = (0, 0); now = [] }

abbrev pub part_at : List (Bor (List ℕ)) → ℕ → List ℕ
part_at items i = (get_or items i nowhere).now

part_is : (items : List (Bor (List ℕ))) (i : ℕ) → part_at items i ≡ get_or (map (λ part. part.now) items) i []
part_is [] i = refl
part_is (x ∷ items) zero = refl
part_is (x ∷ items) (suc i) = part_is items i

some_part : (word : List ℕ) → (length word == 0) ≡ false → nat_lt 0 (length word) ≡ true
some_part word h = grind (arith, nat_tests)

no_part : (word : List ℕ) → (length word == 0) ≡ true → nat_lt 0 (length word) ≡ false
no_part word h = grind (arith, nat_tests)

-- the same of a slice of parts
module _ (found : List Mechanism) (items : List (Bor (List ℕ))) (i : ℕ) (value : List ℕ) (below : i < length items) (so_far : behind found (mechanisms_named (words_in (drop i (map (λ part. part.now) items)))) ≡ mechanisms_of value) where
  within : i < length (map (λ (part : Bor (List ℕ)). part.now) items)
  within = rw length-map below

  pub part_stops : (length (part_at items i) == 0) ≡ false → mechanism_named (part_at items i) ≡ None → None ≡ mechanisms_of value
  part_stops some none = mechanisms_stop found (map (λ part. part.now) items) i (part_at items i) value within (part_is items i) so_far (some_part (part_at items i) some) none

  pub part_found : (m : Mechanism) (more : List Mechanism) → (length (part_at items i) == 0) ≡ false → mechanism_named (part_at items i) ≡ Some m → more ≡ found ++ m ∷ []
      → behind more (mechanisms_named (words_in (drop (i + 1) (map (λ part. part.now) items)))) ≡ mechanisms_of value
  part_found m more some is put = rw put (mechanisms_more found (map (λ part. part.now) items) i (part_at items i) value within (part_is items i) so_far m (some_part (part_at items i) some) is)

  pub part_skipped : (length (part_at items i) == 0) ≡ true → behind found (mechanisms_named (words_in (drop (i + 1) (map (λ part. part.now) items)))) ≡ mechanisms_of value
  part_skipped none = mechanisms_skip found (map (λ part. part.now) items) i (part_at items i) value within (part_is items i) so_far (no_part (part_at items i) none)
