-- Tools of the laws of reading.
use Rattle.std.proofs.Common.{◌≡◌, ℕ, ◌+◌, ◌<◌, ◌≤◌, ◌^◌, Bool, true, false, List, [], ◌∷◌, ◌++◌, length, take, drop, get_or, Result, Ok, Err, refl, sym, ap, ◌∙◌, subst, arith, length-append, length-take, take-append-drop}
use Rattle.std.specs.Prelude.{nat_lt}
use Rattle.std.specs.Int.{w16, w32, w64, from_be_bytes}
use Rattle.std.proofs.lemmas.Bool.Decides.{nat_tests}
use Rattle.std.proofs.lemmas.List.{take_at, drop_at, get_or-drop, get_or-take, get_or_past, length-take-le}
use Rattle.std.proofs.lemmas.Nat.{be_bytes_2, be_bytes_4, be_bytes_8, from_be_bytes-to_be_bytes_2, from_be_bytes-to_be_bytes_4, from_be_bytes-to_be_bytes_8}
use Rattle.journal_codec.specs.declared.read.ReadFault.{ReadFault}
use Rattle.journal_codec.specs.Format.{in_2, in_4, in_8}
use Rattle.journal_codec.specs.Reading.{◌>>=◌, number_at, chunk_at}
use Rattle.journal_codec.proofs.Spelled.{length-in_2, length-in_4, length-in_8}

-- what was read, and what follows it
abbrev pub done : {A : Type 0} → A → List ℕ → Result (A × List ℕ) ReadFault
done x rest = Ok (x, rest)

abbrev pub paired : {A : Type 0} → A → List ℕ → A × List ℕ
paired x rest = (x, rest)

same_pair : {A : Type 0} (p q : A × List ℕ) (r s : Result (A × List ℕ) ReadFault) → r ≡ Ok p → s ≡ Ok q → r ≡ s → p ≡ q
same_pair p q r s e f g = cc

-- both parts
pub same_both : {A : Type 0} (x y : A) (a b : List ℕ) → done x a ≡ done y b → paired x a ≡ paired y b
same_both x y a b e = same_pair (x, a) (y, b) (done x a) (done y b) refl refl e

pub same_read : {A : Type 0} (x y : A) (a b : List ℕ) → done x a ≡ done y b → x ≡ y
same_read x y a b e = ap (λ p. p.0) (same_pair (x, a) (y, b) (done x a) (done y b) refl refl e)

pub same_rest : {A : Type 0} (x y : A) (a b : List ℕ) → done x a ≡ done y b → a ≡ b
same_rest x y a b e = ap (λ p. p.1) (same_pair (x, a) (y, b) (done x a) (done y b) refl refl e)

-- what was read first, and what was made of it
pub record Both {A B : Type 0} (first : Result A ReadFault) (next : A → Result B ReadFault) (y : B) : Type 0 where
  pub read : A
  pub is : first ≡ Ok read
  pub gives : next read ≡ Ok y

pub bind_ok : {A B : Type 0} (r : Result A ReadFault) (f : A → Result B ReadFault) (y : B) → (r >>= f) ≡ Ok y → Both r f y
bind_ok (Ok x) f y e = record { read = x; is = refl; gives = e }
bind_ok (Err x) f y e = absurd cc

-- what was read goes on
pub goes : {A B : Type 0} (r : Result A ReadFault) (f : A → Result B ReadFault) (x : A) → r ≡ Ok x → (r >>= f) ≡ f x
goes r f x e = ap (λ (s : Result _ ReadFault). s >>= f) e

pub by_test : {P : Type 0} (b : Bool) → ((b ≡ true) → P) → ((b ≡ false) → P) → P
by_test true f g = f refl
by_test false f g = g refl

not_less : (a b : ℕ) → b ≤ a → nat_lt a b ≡ false
not_less a b h = grind (arith, nat_tests)

pub is_less : (a b : ℕ) → nat_lt a b ≡ true → a < b
is_less a b h = grind (arith, nat_tests)

pub is_not_less : (a b : ℕ) → nat_lt a b ≡ false → b ≤ a
is_not_less a b h = grind (arith, nat_tests)

-- Back from their encoding.
pub chunk_back : (chunk rest : List ℕ) → chunk_at (length chunk) (chunk ++ rest) ≡ Ok (chunk, rest)
chunk_back chunk rest =
    rw (not_less (length (chunk ++ rest)) (length chunk) (omega (arith, length-append chunk rest)), take_at chunk rest (length chunk) refl, drop_at chunk rest (length chunk) refl) refl

number_2 : (n : ℕ) → n < 2 ^ 16 → from_be_bytes w16 (in_2 n) ≡ n
unfolding in_2
number_2 n l = from_be_bytes-to_be_bytes_2 n l

pub back_2 : (n : ℕ) (rest : List ℕ) → n < 2 ^ 16 → number_at w16 (in_2 n ++ rest) ≡ Ok (n, rest)
back_2 n rest l =
    rw (not_less (length (in_2 n ++ rest)) 2 (omega (arith, length-append (in_2 n) rest, length-in_2 n)), take_at (in_2 n) rest 2 (length-in_2 n), drop_at (in_2 n) rest 2 (length-in_2 n)) (ap (λ (m : ℕ). Ok (m, rest)) (number_2 n l))

number_4 : (n : ℕ) → n < 2 ^ 32 → from_be_bytes w32 (in_4 n) ≡ n
unfolding in_4
number_4 n l = from_be_bytes-to_be_bytes_4 n l

pub back_4 : (n : ℕ) (rest : List ℕ) → n < 2 ^ 32 → number_at w32 (in_4 n ++ rest) ≡ Ok (n, rest)
back_4 n rest l =
    rw (not_less (length (in_4 n ++ rest)) 4 (omega (arith, length-append (in_4 n) rest, length-in_4 n)), take_at (in_4 n) rest 4 (length-in_4 n), drop_at (in_4 n) rest 4 (length-in_4 n)) (ap (λ (m : ℕ). Ok (m, rest)) (number_4 n l))

number_8 : (n : ℕ) → n < 2 ^ 64 → from_be_bytes w64 (in_8 n) ≡ n
unfolding in_8
number_8 n l = from_be_bytes-to_be_bytes_8 n l

pub back_8 : (n : ℕ) (rest : List ℕ) → n < 2 ^ 64 → number_at w64 (in_8 n ++ rest) ≡ Ok (n, rest)
back_8 n rest l =
    rw (not_less (length (in_8 n ++ rest)) 8 (omega (arith, length-append (in_8 n) rest, length-in_8 n)), take_at (in_8 n) rest 8 (length-in_8 n), drop_at (in_8 n) rest 8 (length-in_8 n)) (ap (λ (m : ℕ). Ok (m, rest)) (number_8 n l))

-- Forth: what is read is encoded that way.
pub record AreBytes (bytes : List ℕ) : Type 0 where
  pub each : (i : ℕ) → get_or bytes i 0 < 256

pub bytes_drop : (n : ℕ) (bytes : List ℕ) → AreBytes bytes → AreBytes (drop n bytes)
bytes_drop n bytes h = record { each = λ i. rw (get_or-drop n bytes i 0) (h.each (n + i)) }

pub bytes_take : (n : ℕ) (bytes : List ℕ) → AreBytes bytes → AreBytes (take n bytes)
bytes_take n bytes h = record { each = λ i. by_test (nat_lt i n) (λ t. rw (get_or-take n bytes i 0 (is_less i n t)) (h.each i)) (λ t. rw (get_or_past (take n bytes) i 0 (let short : n ≤ i = is_not_less i n t in omega (arith, length-take n bytes))) (omega arith)) }

pub bytes_behind : (front rest : List ℕ) → AreBytes (front ++ rest) → AreBytes rest
bytes_behind front rest h = let P : List ℕ → Type 0 = λ l. AreBytes l in subst P (drop_at front rest (length front) refl) (bytes_drop (length front) (front ++ rest) h)

pub record IsChunk (size : ℕ) (bytes chunk rest : List ℕ) : Type 0 where
  pub is : bytes ≡ chunk ++ rest
  pub size_is : length chunk ≡ size

pub chunk_forth : (size : ℕ) (bytes chunk rest : List ℕ) → chunk_at size bytes ≡ Ok (chunk, rest) → IsChunk size bytes chunk rest
chunk_forth size bytes chunk rest e =
    by_test (nat_lt (length bytes) size)
    (λ t. absurd (let no = rw t at e in cc))
    (λ t.
    let so = rw t at e in
    let front = same_read (take size bytes) chunk (drop size bytes) rest so in
    let back = same_rest (take size bytes) chunk (drop size bytes) rest so in
    record {
      is = sym (take-append-drop size bytes) ∙ ap (λ (l : List ℕ). l ++ drop size bytes) front ∙ ap (λ (l : List ℕ). chunk ++ l) back;
      size_is = ap length (sym front) ∙ length-take-le size bytes (is_not_less (length bytes) size t);
    })

-- a number that was read
pub record IsRead (most : ℕ) (bytes spelled rest : List ℕ) (n : ℕ) : Type 0 where
  pub is : bytes ≡ spelled ++ rest
  pub fits : n < most
  pub bytes_left : AreBytes rest

fits_2 : (bytes : List ℕ) → length bytes ≡ 2 → AreBytes bytes → from_be_bytes w16 bytes < 2 ^ 16
fits_2 [] len are = absurd (omega (arith, len))
fits_2 (a ∷ []) len are = absurd (omega (arith, len))
fits_2 (a ∷ b ∷ []) len are = omega (arith, are.each 0, are.each 1)
fits_2 (a ∷ b ∷ z ∷ rest) len are = absurd (omega (arith, len))

number_forth_2 : (bytes : List ℕ) (n : ℕ) → length bytes ≡ 2 → AreBytes bytes → from_be_bytes w16 bytes ≡ n → (in_2 n ≡ bytes) × (n < 2 ^ 16)
unfolding in_2
number_forth_2 bytes n l h e = (be_bytes_2 bytes n l h.each (sym e), subst (λ m. m < 2 ^ 16) e (fits_2 bytes l h))

pub forth_2 : (bytes rest : List ℕ) (n : ℕ) → AreBytes bytes → number_at w16 bytes ≡ Ok (n, rest) → IsRead (2 ^ 16) bytes (in_2 n) rest n
forth_2 bytes rest n h e =
    by_test (nat_lt (length bytes) 2)
    (λ t. absurd (let no = rw t at e in cc))
    (λ t.
    let so = rw t at e in
    let number = same_read (from_be_bytes w16 (take 2 bytes)) n (drop 2 bytes) rest so in
    let back = same_rest (from_be_bytes w16 (take 2 bytes)) n (drop 2 bytes) rest so in
    let field = number_forth_2 (take 2 bytes) n (length-take-le 2 bytes (is_not_less (length bytes) 2 t)) (bytes_take 2 bytes h) number in
    let P : List ℕ → Type 0 = λ l. AreBytes l in
    record {
      is = sym (take-append-drop 2 bytes) ∙ ap (λ (l : List ℕ). l ++ drop 2 bytes) (sym field.0) ∙ ap (λ (l : List ℕ). in_2 n ++ l) back;
      fits = field.1;
      bytes_left = subst P back (bytes_drop 2 bytes h);
    })

fits_4 : (bytes : List ℕ) → length bytes ≡ 4 → AreBytes bytes → from_be_bytes w32 bytes < 2 ^ 32
fits_4 [] len are = absurd (omega (arith, len))
fits_4 (a ∷ []) len are = absurd (omega (arith, len))
fits_4 (a ∷ b ∷ []) len are = absurd (omega (arith, len))
fits_4 (a ∷ b ∷ c ∷ []) len are = absurd (omega (arith, len))
fits_4 (a ∷ b ∷ c ∷ d ∷ []) len are = omega (arith, are.each 0, are.each 1, are.each 2, are.each 3)
fits_4 (a ∷ b ∷ c ∷ d ∷ z ∷ rest) len are = absurd (omega (arith, len))

number_forth_4 : (bytes : List ℕ) (n : ℕ) → length bytes ≡ 4 → AreBytes bytes → from_be_bytes w32 bytes ≡ n → (in_4 n ≡ bytes) × (n < 2 ^ 32)
unfolding in_4
number_forth_4 bytes n l h e = (be_bytes_4 bytes n l h.each (sym e), subst (λ m. m < 2 ^ 32) e (fits_4 bytes l h))

pub forth_4 : (bytes rest : List ℕ) (n : ℕ) → AreBytes bytes → number_at w32 bytes ≡ Ok (n, rest) → IsRead (2 ^ 32) bytes (in_4 n) rest n
forth_4 bytes rest n h e =
    by_test (nat_lt (length bytes) 4)
    (λ t. absurd (let no = rw t at e in cc))
    (λ t.
    let so = rw t at e in
    let number = same_read (from_be_bytes w32 (take 4 bytes)) n (drop 4 bytes) rest so in
    let back = same_rest (from_be_bytes w32 (take 4 bytes)) n (drop 4 bytes) rest so in
    let field = number_forth_4 (take 4 bytes) n (length-take-le 4 bytes (is_not_less (length bytes) 4 t)) (bytes_take 4 bytes h) number in
    let P : List ℕ → Type 0 = λ l. AreBytes l in
    record {
      is = sym (take-append-drop 4 bytes) ∙ ap (λ (l : List ℕ). l ++ drop 4 bytes) (sym field.0) ∙ ap (λ (l : List ℕ). in_4 n ++ l) back;
      fits = field.1;
      bytes_left = subst P back (bytes_drop 4 bytes h);
    })

fits_8 : (bytes : List ℕ) → length bytes ≡ 8 → AreBytes bytes → from_be_bytes w64 bytes < 2 ^ 64
fits_8 [] len are = absurd (omega (arith, len))
fits_8 (a ∷ []) len are = absurd (omega (arith, len))
fits_8 (a ∷ b ∷ []) len are = absurd (omega (arith, len))
fits_8 (a ∷ b ∷ c ∷ []) len are = absurd (omega (arith, len))
fits_8 (a ∷ b ∷ c ∷ d ∷ []) len are = absurd (omega (arith, len))
fits_8 (a ∷ b ∷ c ∷ d ∷ e ∷ []) len are = absurd (omega (arith, len))
fits_8 (a ∷ b ∷ c ∷ d ∷ e ∷ f ∷ []) len are = absurd (omega (arith, len))
fits_8 (a ∷ b ∷ c ∷ d ∷ e ∷ f ∷ g ∷ []) len are = absurd (omega (arith, len))
fits_8 (a ∷ b ∷ c ∷ d ∷ e ∷ f ∷ g ∷ h ∷ []) len are = omega (arith, are.each 0, are.each 1, are.each 2, are.each 3, are.each 4, are.each 5, are.each 6, are.each 7)
fits_8 (a ∷ b ∷ c ∷ d ∷ e ∷ f ∷ g ∷ h ∷ z ∷ rest) len are = absurd (omega (arith, len))

number_forth_8 : (bytes : List ℕ) (n : ℕ) → length bytes ≡ 8 → AreBytes bytes → from_be_bytes w64 bytes ≡ n → (in_8 n ≡ bytes) × (n < 2 ^ 64)
unfolding in_8
number_forth_8 bytes n l h e = (be_bytes_8 bytes n l h.each (sym e), subst (λ m. m < 2 ^ 64) e (fits_8 bytes l h))

pub forth_8 : (bytes rest : List ℕ) (n : ℕ) → AreBytes bytes → number_at w64 bytes ≡ Ok (n, rest) → IsRead (2 ^ 64) bytes (in_8 n) rest n
forth_8 bytes rest n h e =
    by_test (nat_lt (length bytes) 8)
    (λ t. absurd (let no = rw t at e in cc))
    (λ t.
    let so = rw t at e in
    let number = same_read (from_be_bytes w64 (take 8 bytes)) n (drop 8 bytes) rest so in
    let back = same_rest (from_be_bytes w64 (take 8 bytes)) n (drop 8 bytes) rest so in
    let field = number_forth_8 (take 8 bytes) n (length-take-le 8 bytes (is_not_less (length bytes) 8 t)) (bytes_take 8 bytes h) number in
    let P : List ℕ → Type 0 = λ l. AreBytes l in
    record {
      is = sym (take-append-drop 8 bytes) ∙ ap (λ (l : List ℕ). l ++ drop 8 bytes) (sym field.0) ∙ ap (λ (l : List ℕ). in_8 n ++ l) back;
      fits = field.1;
      bytes_left = subst P back (bytes_drop 8 bytes h);
    })
