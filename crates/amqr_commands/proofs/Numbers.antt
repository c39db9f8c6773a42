-- The number that a word is, from the answer of `parse`.
use Rattle.std.proofs.Common.{◌≡◌, ◌≢◌, ℕ, ◌<◌, ◌^◌, ◌&&◌, nat_lt, [], ◌∷◌, length, get_or, refl, Some, None, Result, Ok, Err, Bool, true, false, cond, lt-ltb, ltb-true}
use Rattle.std.specs.Str.{all_ascii_digits}
use Rattle.std.specs.Str.Parse.{digits_value, ParsesUnsigned}
use Rattle.std.specs.Result.{OkIff, result_ok}
use Rattle.std.proofs.lemmas.Str.Parse.{parse_plain, numerals_by_value, tells_all_ascii_digits, IsNumeralModel}
use Rattle.amqr_commands.specs.Words.{Text, number_of}

digits : IsNumeralModel (λ ds. all_ascii_digits ds ≡ true) (digits_value 10)
digits = numerals_by_value (λ ds. all_ascii_digits ds ≡ true) tells_all_ascii_digits

no_number : (a b c : Bool) (v : ℕ) → (a ≡ true → b ≡ true → c ≡ true → ⊥) → None ≡ cond ((a && b) && c) (Some v) None
no_number true true true v h = absurd (h refl refl refl)
no_number true true false v h = refl
no_number true false c v h = refl
no_number false b c v h = refl

some_number : (a b c : Bool) (v x : ℕ) → a ≡ true → b ≡ true → c ≡ true → x ≡ v → Some x ≡ cond ((a && b) && c) (Some v) None
some_number a b c v x h k l e = rw (h, k, l, e) refl

number_by : {E : Type 0} (word : Text) (r : Result ℕ E) → OkIff r ((all_ascii_digits word ≡ true) × (0 < length word) × (digits_value 10 word < 2 ^ 64)) (digits_value 10 word) → result_ok r ≡ number_of word
number_by word (Ok x) h = some_number (all_ascii_digits word) (nat_lt 0 (length word)) (nat_lt (digits_value 10 word) (2 ^ 64)) (digits_value 10 word) x h.0.0 (lt-ltb 0 (length word) h.0.1) (lt-ltb (digits_value 10 word) (2 ^ 64) h.0.2) h.1
number_by word (Err e) h = no_number (all_ascii_digits word) (nat_lt 0 (length word)) (nat_lt (digits_value 10 word) (2 ^ 64)) (digits_value 10 word) (λ a b c. h (a, ltb-true 0 (length word) b, ltb-true (digits_value 10 word) (2 ^ 64) c))

-- without a plus in front, `parse` reads what the word is
pub number_parsed : {E : Type 0} (word : Text) (r : Result ℕ E) → ParsesUnsigned 64 10 word r → get_or word 0 0 ≢ 43 → result_ok r ≡ number_of word
number_parsed word r h plain = number_by word r (parse_plain digits 64 word r h plain)

-- with one, the word is no number
pub number_plus : (word : Text) → get_or word 0 0 ≡ 43 → None ≡ number_of word
number_plus [] h = cc
number_plus (b ∷ bs) h = rw h refl
