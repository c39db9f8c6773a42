-- Values in their usual spellings are read as the reader of all values reads them.
use Rattle.std.proofs.Common.{◌≡◌, ℕ, ◌+◌, ◌-◌, ◌*◌, ◌≤◌, List, [], ◌∷◌, length, get_or, take, drop, refl, sym, ap, ◌∙◌, arith, true, false, Ok}
use Rattle.std.proofs.lemmas.Bool.{le-ltb}
use Rattle.std.proofs.lemmas.Grind.{common_steps}
use Rattle.amqp_model.specs.Codes.{code_of}
use Rattle.amqp_model.specs.Data as d
use Rattle.amqp_types.specs.Reading.{bytes_at, sized_at, leaf_at, body_at, value_at}
use Rattle.amqp_types.proofs.Complete.{bytes_complete}
use Rattle.amqp_frames.specs.Shorts.{Begins}

pub no_byte : (rest : List ℕ) → bytes_at 0 rest ≡ Ok ([], rest)
no_byte rest = bytes_complete 0 [] rest refl

-- all bytes after the first
pub rest_is : (n : ℕ) (rest : List ℕ) → n ≡ length rest → take n rest ≡ rest
rest_is n rest h = grind (arith, common_steps)

pub null_begins : (bytes : List ℕ) → 1 ≤ length bytes → get_or bytes 0 0 ≡ 0x40 → Begins bytes d.null (take (length bytes - 1) (drop 1 bytes))
unfolding value_at body_at leaf_at code_of
null_begins [] h is = absurd (omega arith)
null_begins (b ∷ rest) h is = rw (is, rest_is (length (b ∷ rest) - 1) rest (omega arith), no_byte rest) refl

pub true_begins : (bytes : List ℕ) → 1 ≤ length bytes → get_or bytes 0 0 ≡ 0x41 → Begins bytes (d.boolean true) (take (length bytes - 1) (drop 1 bytes))
unfolding value_at body_at leaf_at code_of
true_begins [] h is = absurd (omega arith)
true_begins (b ∷ rest) h is = rw (is, rest_is (length (b ∷ rest) - 1) rest (omega arith), no_byte rest) refl

pub false_begins : (bytes : List ℕ) → 1 ≤ length bytes → get_or bytes 0 0 ≡ 0x42 → Begins bytes (d.boolean false) (take (length bytes - 1) (drop 1 bytes))
unfolding value_at body_at leaf_at code_of
false_begins [] h is = absurd (omega arith)
false_begins (b ∷ rest) h is = rw (is, rest_is (length (b ∷ rest) - 1) rest (omega arith), no_byte rest) refl

pub zero_begins : (bytes : List ℕ) → 1 ≤ length bytes → get_or bytes 0 0 ≡ 0x43 → Begins bytes (d.uint 0) (take (length bytes - 1) (drop 1 bytes))
unfolding value_at body_at leaf_at code_of
zero_begins [] h is = absurd (omega arith)
zero_begins (b ∷ rest) h is = rw (is, rest_is (length (b ∷ rest) - 1) rest (omega arith), no_byte rest) refl

pub one_byte : (n : ℕ) (rest : List ℕ) → bytes_at 1 (n ∷ rest) ≡ Ok (n ∷ [], rest)
one_byte n rest = bytes_complete 1 (n ∷ []) rest refl

four_bytes : (a b c e : ℕ) (rest : List ℕ) → bytes_at 4 (a ∷ b ∷ c ∷ e ∷ rest) ≡ Ok (a ∷ b ∷ c ∷ e ∷ [], rest)
four_bytes a b c e rest = bytes_complete 4 (a ∷ b ∷ c ∷ e ∷ []) rest refl

small_is : (n : ℕ) (rest : List ℕ) → Begins (0x52 ∷ n ∷ rest) (d.uint n) rest
unfolding value_at body_at leaf_at code_of
small_is n rest = rw (one_byte n rest) refl

pub small_begins : (bytes : List ℕ) → 2 ≤ length bytes → get_or bytes 0 0 ≡ 0x52 → Begins bytes (d.uint (get_or bytes 1 0)) (take (length bytes - 2) (drop 2 bytes))
small_begins [] h is = absurd (omega arith)
small_begins (b ∷ []) h is = absurd (omega arith)
small_begins (b ∷ n ∷ rest) h is = rw (is, rest_is (length (b ∷ n ∷ rest) - 2) rest (omega arith)) (small_is n rest)

uint_is : (a b c e : ℕ) (rest : List ℕ) → Begins (0x70 ∷ a ∷ b ∷ c ∷ e ∷ rest) (d.uint (a * 16777216 + b * 65536 + c * 256 + e)) rest
unfolding value_at body_at leaf_at code_of
uint_is a b c e rest = rw (four_bytes a b c e rest) refl

pub uint_begins : (bytes : List ℕ) → 5 ≤ length bytes → get_or bytes 0 0 ≡ 0x70
    → Begins bytes (d.uint (get_or bytes 1 0 * 16777216 + get_or bytes 2 0 * 65536 + get_or bytes 3 0 * 256 + get_or bytes 4 0)) (take (length bytes - 5) (drop 5 bytes))
uint_begins [] h is = absurd (omega arith)
uint_begins (k ∷ []) h is = absurd (omega arith)
uint_begins (k ∷ a ∷ []) h is = absurd (omega arith)
uint_begins (k ∷ a ∷ b ∷ []) h is = absurd (omega arith)
uint_begins (k ∷ a ∷ b ∷ c ∷ []) h is = absurd (omega arith)
uint_begins (k ∷ a ∷ b ∷ c ∷ e ∷ rest) h is = rw (is, rest_is (length (k ∷ a ∷ b ∷ c ∷ e ∷ rest) - 5) rest (omega arith)) (uint_is a b c e rest)

-- the bytes of a binary after its length
binary_is : (n : ℕ) (rest : List ℕ) → n ≤ length rest → Begins (0xa0 ∷ n ∷ rest) (d.binary (take n rest)) (drop n rest)
unfolding value_at body_at leaf_at sized_at code_of
binary_is n rest fits = rw (one_byte n rest, le-ltb (length rest) n fits) refl

pub binary_begins : (bytes : List ℕ) (rest : List ℕ) → 2 ≤ length bytes → get_or bytes 0 0 ≡ 0xa0 → rest ≡ take (length bytes - 2) (drop 2 bytes)
    → get_or bytes 1 0 ≤ length rest → Begins bytes (d.binary (take (get_or bytes 1 0) rest)) (drop (get_or bytes 1 0) rest)
binary_begins [] rest h is there fits = absurd (omega arith)
binary_begins (b ∷ []) rest h is there fits = absurd (omega arith)
binary_begins (b ∷ n ∷ behind) rest h is there fits =
    let same : rest ≡ behind = there ∙ rest_is (length (b ∷ n ∷ behind) - 2) behind (omega arith) in
    rw (is, same) (binary_is n behind (rw same at fits))

pub first_and_rest : (bytes : List ℕ) → 1 ≤ length bytes → bytes ≡ get_or bytes 0 0 ∷ take (length bytes - 1) (drop 1 bytes)
first_and_rest [] h = absurd (omega arith)
first_and_rest (b ∷ rest) h = ap (λ (l : List ℕ). b ∷ l) (sym (rest_is (length (b ∷ rest) - 1) rest (omega arith)))

pub four_and_rest : (bytes : List ℕ) → 4 ≤ length bytes → bytes ≡ get_or bytes 0 0 ∷ get_or bytes 1 0 ∷ get_or bytes 2 0 ∷ get_or bytes 3 0 ∷ take (length bytes - 4) (drop 4 bytes)
four_and_rest [] h = absurd (omega arith)
four_and_rest (a ∷ []) h = absurd (omega arith)
four_and_rest (a ∷ b ∷ []) h = absurd (omega arith)
four_and_rest (a ∷ b ∷ c ∷ []) h = absurd (omega arith)
four_and_rest (a ∷ b ∷ c ∷ e ∷ rest) h = ap (λ (l : List ℕ). a ∷ b ∷ c ∷ e ∷ l) (sym (rest_is (length (a ∷ b ∷ c ∷ e ∷ rest) - 4) rest (omega arith)))
