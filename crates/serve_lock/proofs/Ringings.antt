-- One bell of some, as a bit of a word.
use Rattle.std.proofs.Common.{◌≡◌, ◌≢◌, ◌∙◌, sym, ap, refl, ℕ, zero, suc, ◌+◌, ◌-◌, ◌*◌, ◌/◌, ◌%◌, ◌^◌, ◌<◌, ◌==◌, ◌&&◌, ◌||◌, not, true, false, List, [], ◌∷◌, length, ◌⊎◌, inl, inr, get_or, set, bit_and, bit_or, arith, w64}
use Rattle.std.specs.Int.{bit_at}
use Rattle.std.proofs.lemmas.Bool.Decides.{eqb_tells}
use Rattle.std.proofs.lemmas.List.{get_or-set_same, get_or-set_other}
use Rattle.std.proofs.lemmas.Nat.Bits.{bit_at-zero, bit_at_ones, shr_and_one, bit_at_set_same, bit_at_set_other, bit_at_clear_same, bit_at_clear_other}
use Rattle.serve_lock.specs.Ringing.{is_set}

-- the bit of a bell in a list of words
abbrev bit_in : List ℕ → ℕ → ℕ
bit_in words b = bit_at (get_or words (b / 64) 0) (b % 64)

zeros : (k : ℕ) → get_or {A = ℕ} (0 ∷ 0 ∷ 0 ∷ 0 ∷ []) k 0 ≡ 0
zeros zero = refl
zeros (suc zero) = refl
zeros (suc (suc zero)) = refl
zeros (suc (suc (suc zero))) = refl
zeros (suc (suc (suc (suc k)))) = refl

pub none_rings : (b : ℕ) → is_set (0 ∷ 0 ∷ 0 ∷ 0 ∷ []) b ≡ false
unfolding is_set
none_rings b = ap (λ w. bit_at w (b % 64) == 1) (zeros (b / 64)) ∙ ap (λ n. n == 1) (bit_at-zero (b % 64))

ones : (m : ℕ) (k : ℕ) → k < 4 → get_or (m ∷ m ∷ m ∷ m ∷ []) k 0 ≡ m
ones m zero below = refl
ones m (suc zero) below = refl
ones m (suc (suc zero)) below = refl
ones m (suc (suc (suc zero))) below = refl
ones m (suc (suc (suc (suc k)))) below = absurd (omega (arith, below))

pub all_ring : (b : ℕ) → b < 256 → is_set (18446744073709551615 ∷ 18446744073709551615 ∷ 18446744073709551615 ∷ 18446744073709551615 ∷ []) b ≡ true
unfolding is_set
all_ring b below = ap (λ w. bit_at w (b % 64) == 1) (ones 18446744073709551615 (b / 64) (omega (arith, below))) ∙ ap (λ n. n == 1) (bit_at_ones 64 (b % 64) (omega arith))

pub bit_tells : (words : List ℕ) (bell : ℕ) → (bit_and (get_or words (bell / 64) 0 / 2 ^ (bell % 64)) 1 == 1) ≡ is_set words bell
unfolding is_set
bit_tells words bell = ap (λ n. n == 1) (shr_and_one (get_or words (bell / 64) 0) (bell % 64))

apart_in_word : (bell b : ℕ) → bell ≢ b → bell / 64 ≡ b / 64 → b % 64 ≢ bell % 64
apart_in_word bell b other same = λ is. other (omega (arith, same, is))

added : (words : List ℕ) → length words ≡ 4 → (bell : ℕ) → bell < 256 → (b : ℕ)
    → (bit_in (set words (bell / 64) (bit_or (get_or words (bell / 64) 0) (1 * 2 ^ (bell % 64) % 18446744073709551616))) b == 1) ≡ (bell == b || bit_in words b == 1)
added words four bell below b = by_bell (eqb_tells bell b)
  where
    word : ℕ
    word = get_or words (bell / 64) 0

    new : ℕ
    new = bit_or word (1 * 2 ^ (bell % 64) % 18446744073709551616)

    within : bell / 64 < length words
    within = omega (arith, four, below)

    low : bell % 64 < 64
    low = omega arith

    there : get_or (set words (bell / 64) new) (bell / 64) 0 ≡ new
    there = get_or-set_same words (bell / 64) new 0 within

    by_word : bell ≢ b → (((bell / 64 == b / 64) ≡ true) × (bell / 64 ≡ b / 64)) ⊎ (((bell / 64 == b / 64) ≡ false) × (bell / 64 ≢ b / 64))
        → bit_in (set words (bell / 64) new) b ≡ bit_in words b
    by_word other (inl (e, same)) =
        let here : get_or (set words (bell / 64) new) (b / 64) 0 ≡ new = ap (λ k. get_or (set words (bell / 64) new) k 0) (sym same) ∙ there in
        ap (λ w. bit_at w (b % 64)) here ∙ bit_at_set_other w64 word (bell % 64) low (b % 64) (apart_in_word bell b other same)
        ∙ ap (λ k. bit_at (get_or words k 0) (b % 64)) same
    by_word other (inr (e, elsewhere)) = ap (λ w. bit_at w (b % 64)) (get_or-set_other words (bell / 64) (b / 64) new 0 (λ is. elsewhere (sym is)))

    by_bell : (((bell == b) ≡ true) × (bell ≡ b)) ⊎ (((bell == b) ≡ false) × (bell ≢ b))
        → (bit_in (set words (bell / 64) new) b == 1) ≡ (bell == b || bit_in words b == 1)
    by_bell (inl (e, same)) = rw e
        (ap (λ k. bit_in (set words (bell / 64) new) k == 1) (sym same)
        ∙ ap (λ w. bit_at w (bell % 64) == 1) there ∙ ap (λ n. n == 1) (bit_at_set_same w64 word (bell % 64) low))
    by_bell (inr (e, other)) = rw e (ap (λ n. n == 1) (by_word other (eqb_tells (bell / 64) (b / 64))))

removed : (words : List ℕ) → length words ≡ 4 → (bell : ℕ) → bell < 256 → (b : ℕ)
    → (bit_in (set words (bell / 64) (bit_and (get_or words (bell / 64) 0) (18446744073709551615 - 1 * 2 ^ (bell % 64) % 18446744073709551616))) b == 1) ≡ (not (bell == b) && bit_in words b == 1)
removed words four bell below b = by_bell (eqb_tells bell b)
  where
    word : ℕ
    word = get_or words (bell / 64) 0

    new : ℕ
    new = bit_and word (18446744073709551615 - 1 * 2 ^ (bell % 64) % 18446744073709551616)

    within : bell / 64 < length words
    within = omega (arith, four, below)

    low : bell % 64 < 64
    low = omega arith

    there : get_or (set words (bell / 64) new) (bell / 64) 0 ≡ new
    there = get_or-set_same words (bell / 64) new 0 within

    by_word : bell ≢ b → (((bell / 64 == b / 64) ≡ true) × (bell / 64 ≡ b / 64)) ⊎ (((bell / 64 == b / 64) ≡ false) × (bell / 64 ≢ b / 64))
        → bit_in (set words (bell / 64) new) b ≡ bit_in words b
    by_word other (inl (e, same)) =
        let here : get_or (set words (bell / 64) new) (b / 64) 0 ≡ new = ap (λ k. get_or (set words (bell / 64) new) k 0) (sym same) ∙ there in
        ap (λ w. bit_at w (b % 64)) here ∙ bit_at_clear_other w64 word (bell % 64) low (b % 64) (omega arith) (apart_in_word bell b other same)
        ∙ ap (λ k. bit_at (get_or words k 0) (b % 64)) same
    by_word other (inr (e, elsewhere)) = ap (λ w. bit_at w (b % 64)) (get_or-set_other words (bell / 64) (b / 64) new 0 (λ is. elsewhere (sym is)))

    by_bell : (((bell == b) ≡ true) × (bell ≡ b)) ⊎ (((bell == b) ≡ false) × (bell ≢ b))
        → (bit_in (set words (bell / 64) new) b == 1) ≡ (not (bell == b) && bit_in words b == 1)
    by_bell (inl (e, same)) = rw e
        (ap (λ k. bit_in (set words (bell / 64) new) k == 1) (sym same)
        ∙ ap (λ w. bit_at w (bell % 64) == 1) there ∙ ap (λ n. n == 1) (bit_at_clear_same w64 word (bell % 64) low))
    by_bell (inr (e, other)) = rw e (ap (λ n. n == 1) (by_word other (eqb_tells (bell / 64) (b / 64))))

-- a bit more
pub one_more : (words : List ℕ) (bell : ℕ) → length words ≡ 4 → bell < 256 → (b : ℕ)
    → is_set (set words (bell / 64) (bit_or (get_or words (bell / 64) 0) (1 * 2 ^ (bell % 64) % 18446744073709551616))) b ≡ (bell == b || is_set words b)
unfolding is_set
one_more words bell four below b = added words four bell below b

-- a bit less
pub one_less : (words : List ℕ) (bell : ℕ) → length words ≡ 4 → bell < 256 → (b : ℕ)
    → is_set (set words (bell / 64) (bit_and (get_or words (bell / 64) 0) (18446744073709551615 - 1 * 2 ^ (bell % 64) % 18446744073709551616))) b ≡ (not (bell == b) && is_set words b)
unfolding is_set
one_less words bell four below b = removed words four bell below b

-- four words of nothing
pub empty_rings : (words : List ℕ) → words ≡ (0 ∷ 0 ∷ 0 ∷ 0 ∷ []) → (b : ℕ) → is_set words b ≡ false
unfolding is_set
empty_rings words is b = ap (λ (ws : List ℕ). bit_at (get_or ws (b / 64) 0) (b % 64) == 1) is ∙ ap (λ w. bit_at w (b % 64) == 1) (zeros (b / 64)) ∙ ap (λ n. n == 1) (bit_at-zero (b % 64))

-- a bit of the word at a place is a bell
pub bell_of_bit : (words : List ℕ) (place bit : ℕ) → bit < 64 → bit_at (get_or words place 0) bit ≡ 1 → is_set words (place * 64 + bit) ≡ true
unfolding is_set
bell_of_bit words place bit low is =
    let word : (place * 64 + bit) / 64 ≡ place = omega (arith, low) in
    let rest : (place * 64 + bit) % 64 ≡ bit = omega (arith, low) in
    rw (word, rest) (ap (λ n. n == 1) is)

-- words that are nothing have no bell
pub no_bell : (words : List ℕ) (b : ℕ) → get_or words (b / 64) 0 ≡ 0 → is_set words b ≡ false
unfolding is_set
no_bell words b is = ap (λ w. bit_at w (b % 64) == 1) is ∙ ap (λ n. n == 1) (bit_at-zero (b % 64))
