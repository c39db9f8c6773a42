-- Numbers as bytes.
use Rattle.std.proofs.Common.{◌≡◌, ℕ, ◌+◌, ◌<◌, ◌≤◌, ◌^◌, List, ◌++◌, length, take, drop, refl, sym, ap, ◌∙◌, arith, length-append, length-drop, take-append-drop, false}
use Rattle.std.specs.Prelude.{nat_lt}
use Rattle.std.proofs.lemmas.Bool.Decides.{nat_tests}
use Rattle.std.specs.Int.{w32, w64, to_be_bytes, from_be_bytes}
use Rattle.std.proofs.lemmas.List.{length-take-le}
use Rattle.std.proofs.lemmas.Nat.{be_bytes_4, be_bytes_8}
use Rattle.journal_codec.specs.Format.{in_4, in_8}
use Rattle.journal_codec.specs.Reading.{number_at}
use Rattle.journal_codec.proofs.Tools.{AreBytes, bytes_take, done, same_read, same_rest, back_4, back_8, forth_4, forth_8}
use Rattle.journal_codec.proofs.Spelled.{length-in_8}
use Rattle.twin_journal.specs.Format.{largest}

not_less : (a b : ℕ) → b ≤ a → nat_lt a b ≡ false
not_less a b le = grind (arith, nat_tests)

pub in_4_is : (n : ℕ) → to_be_bytes w32 n ≡ in_4 n
unfolding in_4
in_4_is n = refl

pub in_8_is : (n : ℕ) → to_be_bytes w64 n ≡ in_8 n
unfolding in_8
in_8_is n = refl

spelled_4 : (bytes : List ℕ) (n : ℕ) → length bytes ≡ 4 → AreBytes bytes → n ≡ from_be_bytes w32 bytes → in_4 n ≡ bytes
unfolding in_4
spelled_4 bytes n len are is = be_bytes_4 bytes n len are.each is

spelled_8 : (bytes : List ℕ) (n : ℕ) → length bytes ≡ 8 → AreBytes bytes → n ≡ from_be_bytes w64 bytes → in_8 n ≡ bytes
unfolding in_8
spelled_8 bytes n len are is = be_bytes_8 bytes n len are.each is

-- what is read at the front
pub read_4 : (bytes field rest : List ℕ) (n : ℕ) → AreBytes bytes → field ≡ take 4 bytes → rest ≡ drop 4 bytes → length rest + 4 ≡ length bytes → n ≡ from_be_bytes w32 field → bytes ≡ in_4 n ++ rest
read_4 bytes field rest n are front back len is =
    let long : length (take 4 bytes) ≡ 4 = length-take-le 4 bytes (omega (arith, len)) in
    sym (take-append-drop 4 bytes) ∙ ap (λ (l : List ℕ). l ++ drop 4 bytes) (sym (spelled_4 (take 4 bytes) n long (bytes_take 4 bytes are) (is ∙ ap (from_be_bytes w32) front))) ∙ ap (λ (l : List ℕ). in_4 n ++ l) (sym back)

pub read_8 : (bytes field rest : List ℕ) (n : ℕ) → AreBytes bytes → field ≡ take 8 bytes → rest ≡ drop 8 bytes → length rest + 8 ≡ length bytes → n ≡ from_be_bytes w64 field → bytes ≡ in_8 n ++ rest
read_8 bytes field rest n are front back len is =
    let long : length (take 8 bytes) ≡ 8 = length-take-le 8 bytes (omega (arith, len)) in
    sym (take-append-drop 8 bytes) ∙ ap (λ (l : List ℕ). l ++ drop 8 bytes) (sym (spelled_8 (take 8 bytes) n long (bytes_take 8 bytes are) (is ∙ ap (from_be_bytes w64) front))) ∙ ap (λ (l : List ℕ). in_8 n ++ l) (sym back)

-- the number at the front of enough bytes
pub front_4 : (bytes : List ℕ) → AreBytes bytes → 4 ≤ length bytes → bytes ≡ in_4 (from_be_bytes w32 (take 4 bytes)) ++ drop 4 bytes
front_4 bytes are long = read_4 bytes (take 4 bytes) (drop 4 bytes) (from_be_bytes w32 (take 4 bytes)) are refl refl (omega (arith, long, length-drop 4 bytes)) refl

pub front_8 : (bytes : List ℕ) → AreBytes bytes → 8 ≤ length bytes → bytes ≡ in_8 (from_be_bytes w64 (take 8 bytes)) ++ drop 8 bytes
front_8 bytes are long = read_8 bytes (take 8 bytes) (drop 8 bytes) (from_be_bytes w64 (take 8 bytes)) are refl refl (omega (arith, long, length-drop 8 bytes)) refl

pub fits_4 : (bytes : List ℕ) → AreBytes bytes → 4 ≤ length bytes → from_be_bytes w32 (take 4 bytes) < 2 ^ 32
fits_4 bytes are long = (forth_4 bytes (drop 4 bytes) (from_be_bytes w32 (take 4 bytes)) are (rw (not_less (length bytes) 4 long) refl)).fits

pub fits_8 : (bytes : List ℕ) → AreBytes bytes → 8 ≤ length bytes → from_be_bytes w64 (take 8 bytes) < 2 ^ 64
fits_8 bytes are long = (forth_8 bytes (drop 8 bytes) (from_be_bytes w64 (take 8 bytes)) are (rw (not_less (length bytes) 8 long) refl)).fits

-- Bytes at the front are those of one number only.
pub record Same (a b : ℕ) (r s : List ℕ) : Type 0 where
  pub numbers : a ≡ b
  pub rests : r ≡ s

pub same_8 : (a b : ℕ) (r s : List ℕ) → a < 2 ^ 64 → b < 2 ^ 64 → in_8 a ++ r ≡ in_8 b ++ s → Same a b r s
same_8 a b r s l m e =
    let both : done a r ≡ done b s = sym (back_8 a r l) ∙ ap (number_at w64) e ∙ back_8 b s m in
    record { numbers = same_read a b r s both; rests = same_rest a b r s both }

pub same_4 : (a b : ℕ) (r s : List ℕ) → a < 2 ^ 32 → b < 2 ^ 32 → in_4 a ++ r ≡ in_4 b ++ s → Same a b r s
same_4 a b r s l m e =
    let both : done a r ≡ done b s = sym (back_4 a r l) ∙ ap (number_at w32) e ∙ back_4 b s m in
    record { numbers = same_read a b r s both; rests = same_rest a b r s both }

pub small_fits : (n : ℕ) → n ≤ largest → n < 2 ^ 64
small_fits n l = omega (arith, l)

-- no number of at most 2 ^ 62
pub too_short : (bytes : List ℕ) → length bytes < 8 → (n : ℕ) (rest : List ℕ) → n ≤ largest → bytes ≡ in_8 n ++ rest → ⊥
too_short bytes short n rest l e = omega (arith, short, ap length e, length-append (in_8 n) rest, length-in_8 n)

pub too_large : (bytes behind : List ℕ) (m : ℕ) → m < 2 ^ 64 → largest < m → bytes ≡ in_8 m ++ behind → (n : ℕ) (rest : List ℕ) → n ≤ largest → bytes ≡ in_8 n ++ rest → ⊥
too_large bytes behind m fits large is n rest l e =
    let same = same_8 m n behind rest fits (small_fits n l) (sym is ∙ e) in
    omega (arith, large, l, same.numbers)
