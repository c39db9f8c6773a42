-- Lines and blanks: what the methods of texts give, in the words of the definitions.
use Rattle.std.proofs.Common.{◌≡◌, ◌≢◌, ℕ, suc, ◌+◌, ◌-◌, ◌<◌, Bool, true, false, not, cond, ◌==◌, List, [], ◌∷◌, ◌++◌, length, take, drop, reverse, Option, Some, None, MatchOption, Bor, refl, sym, ◌∙◌, ap, subst, arith}
use Rattle.std.specs.List.{position_or_len, before_first, after_first}
use Rattle.std.specs.Prelude.{slice_index}
use Rattle.std.proofs.Common.{get_or, length-append}
use Rattle.std.proofs.lemmas.Bool.Decides.{nat_tests}
use Rattle.std.proofs.lemmas.List.{reverse-append, reverse-reverse, take_more, take_all}
use Rattle.route_table.specs.Lines.{lines, onto_first, is_blank, trim_front, trim_back, plain_form, wrong}

abbrev pub is_feed : ℕ → Bool
is_feed byte = byte == 10

take_one : (n byte : ℕ) (bytes : List ℕ) → take (1 + n) (byte ∷ bytes) ≡ byte ∷ take n bytes
take_one n byte bytes = let e : 1 + n ≡ suc n = omega arith in rw e refl

drop_one : (n byte : ℕ) (bytes : List ℕ) → drop (1 + n + 1) (byte ∷ bytes) ≡ drop (n + 1) bytes
drop_one n byte bytes = let e : 1 + n + 1 ≡ suc (n + 1) = omega arith in rw e refl

-- the lines of a text with a line feed, and of one without
pub lines_cut : (text : List ℕ) → position_or_len is_feed text < length text → lines text ≡ before_first is_feed text ∷ lines (after_first is_feed text)
lines_cut [] h = absurd (omega arith)
lines_cut (byte ∷ bytes) h = by_test (byte == 10) refl h (lines_cut bytes)
  where
    by_test : (b : Bool) → (byte == 10) ≡ b → cond (not b) (1 + position_or_len is_feed bytes) 0 < length (byte ∷ bytes)
        → (position_or_len is_feed bytes < length bytes → lines bytes ≡ before_first is_feed bytes ∷ lines (after_first is_feed bytes))
        → cond b ([] ∷ lines bytes) (onto_first byte (lines bytes)) ≡ take (cond (not b) (1 + position_or_len is_feed bytes) 0) (byte ∷ bytes) ∷ lines (drop (cond (not b) (1 + position_or_len is_feed bytes) 0 + 1) (byte ∷ bytes))
    by_test true is h more = refl
    by_test false is h more =
        rw (more (omega arith), take_one (position_or_len is_feed bytes) byte bytes, drop_one (position_or_len is_feed bytes) byte bytes) refl

pub lines_last : (text : List ℕ) → 0 < length text → position_or_len is_feed text ≡ length text → lines text ≡ text ∷ []
lines_last [] some h = absurd (omega arith)
lines_last (byte ∷ []) some h = by_test (byte == 10) h
  where
    by_test : (b : Bool) → cond (not b) (1 + 0) 0 ≡ length (byte ∷ []) → cond b ([] ∷ []) (onto_first byte []) ≡ (byte ∷ []) ∷ []
    by_test true h = absurd (omega arith)
    by_test false h = refl
lines_last (byte ∷ next ∷ bytes) some h = by_test (byte == 10) h (lines_last (next ∷ bytes) (omega arith))
  where
    by_test : (b : Bool) → cond (not b) (1 + position_or_len is_feed (next ∷ bytes)) 0 ≡ length (byte ∷ next ∷ bytes) → (position_or_len is_feed (next ∷ bytes) ≡ length (next ∷ bytes) → lines (next ∷ bytes) ≡ (next ∷ bytes) ∷ [])
        → cond b ([] ∷ lines (next ∷ bytes)) (onto_first byte (lines (next ∷ bytes))) ≡ (byte ∷ next ∷ bytes) ∷ []
    by_test true h more = absurd (omega arith)
    by_test false h more = rw (more (omega arith)) refl

-- a text that begins with no space: the tab in front is removed, or nothing is
pub front_tab : (text : List ℕ) (r : Option (Bor (List ℕ))) → ((rest : List ℕ) → text ≢ 32 ∷ rest) → MatchOption r ((rest : List ℕ) → text ≢ 9 ∷ rest) (λ x. text ≡ 9 ∷ x.now)
    → MatchOption r (trim_front text ≡ text) (λ rest. (trim_front text ≡ trim_front rest.now) × (length rest.now < length text))
front_tab [] (Some x) space tab = absurd cc
front_tab [] None space tab = refl
front_tab (byte ∷ bytes) (Some x) space tab = let P : List ℕ → Type 0 = λ t. (trim_front t ≡ trim_front x.now) × (length x.now < length t) in subst P (sym tab) (refl, omega arith)
front_tab (byte ∷ bytes) None space tab =
    let no_space : byte ≢ 32 = λ e. space bytes (ap (λ b. b ∷ bytes) e) in
    let no_tab : byte ≢ 9 = λ e. tab bytes (ap (λ b. b ∷ bytes) e) in
    let other : is_blank byte ≡ false = grind (arith, nat_tests) in
    rw other refl

back_cut : (text : List ℕ) (c : ℕ) (front : List ℕ) → is_blank c ≡ true → text ≡ front ++ c ∷ [] → (trim_back text ≡ trim_back front) × (length front < length text)
back_cut text c front blank is = let P : List ℕ → Type 0 = λ t. (trim_back t ≡ trim_back front) × (length front < length t) in subst P (sym is) (rw (reverse-append front (c ∷ []), blank) refl, rw length-append (omega arith))

-- the same at the end
pub back_tab : (text : List ℕ) (r : Option (Bor (List ℕ))) → ((front : List ℕ) → text ≢ front ++ 32 ∷ []) → MatchOption r ((front : List ℕ) → text ≢ front ++ 9 ∷ []) (λ x. text ≡ x.now ++ 9 ∷ [])
    → MatchOption r (trim_back text ≡ text) (λ rest. (trim_back text ≡ trim_back rest.now) × (length rest.now < length text))
back_tab text (Some x) space tab = back_cut text 9 x.now refl tab
back_tab text None space tab =
    let turned : (c : ℕ) (rest : List ℕ) → reverse text ≡ c ∷ rest → text ≡ reverse rest ++ c ∷ [] = λ c rest e. sym (reverse-reverse text) ∙ ap reverse e ∙ reverse-append (c ∷ []) rest in
    let kept : trim_front (reverse text) ≡ reverse text = front_tab (reverse text) None (λ rest e. space (reverse rest) (turned 32 rest e)) (λ rest e. tab (reverse rest) (turned 9 rest e)) in
    ap reverse kept ∙ reverse-reverse text

pub back_space : (text : List ℕ) (x : Bor (List ℕ)) → text ≡ x.now ++ 32 ∷ [] → (trim_back text ≡ trim_back x.now) × (length x.now < length text)
back_space text x is = back_cut text 32 x.now refl is

-- a text that doesn't end with a brace
no_brace : (text : List ℕ) → 0 < length text → ((front : List ℕ) → text ≢ front ++ 123 ∷ []) → (slice_index text (length text - 1) == 123) ≡ false
no_brace text some none = by_test (slice_index text (length text - 1) == 123) refl
  where
    by_test : (b : Bool) → (slice_index text (length text - 1) == 123) ≡ b → b ≡ false
    by_test false is = refl
    by_test true is =
        let last : get_or text (length text - 1) 0 ≡ 123 = grind (arith, nat_tests) in
        let whole : length text - 1 + 1 ≡ length text = omega arith in
        let cut : take (length text - 1 + 1) text ≡ take (length text - 1) text ++ get_or text (length text - 1) 0 ∷ [] = take_more text (length text - 1) 0 (omega arith) in
        let ends : text ≡ take (length text - 1) text ++ 123 ∷ [] = sym (take_all (length text) text (omega arith)) ∙ sym (ap (λ n. take n text) whole) ∙ cut ∙ ap (λ b. take (length text - 1) text ++ b ∷ []) last in
        absurd (none (take (length text - 1) text) ends)

pub wrong_form : (text : List ℕ) → 0 < length text → ((front : List ℕ) → text ≢ front ++ 123 ∷ []) → wrong ≡ plain_form text
wrong_form text some ends = rw (no_brace text some ends) refl
