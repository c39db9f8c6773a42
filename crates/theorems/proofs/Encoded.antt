-- A value that bytes encode is within the limits of its types, if its canonical encoding is short.
use Rattle.std.proofs.Common.{◌≡◌, ◌∙◌, refl, ap, subst, ℕ, zero, suc, ◌+◌, ◌*◌, ◌^◌, ◌<◌, ◌≤◌, Bool, true, false, cond, ◌&&◌, nat_lt, ◌==◌, List, [], ◌∷◌, ◌++◌, length, length-append, get_or, Some, Ok, Err, FitsSigned, ℤ, arith}
use Rattle.std.specs.Int.{w8, w16, w32, w64, from_be_bytes, cast_signed, cast_unsigned, to_be_bytes}
use Rattle.std.specs.Str.{is_utf8}
use Rattle.std.proofs.Math.Facts.{sfits_to_z}
use Rattle.std.proofs.Math.Dec.{eqb-suc-zero}
use Rattle.std.proofs.lemmas.Int.{ints}
use Rattle.amqp_model.specs.declared.type_fault.TypeFault.TheVariants as fault
use Rattle.amqp_model.specs.declared.code.Size.{Size}
use Rattle.amqp_model.specs.declared.code.Size.TheVariants as size
use Rattle.amqp_model.specs.declared.code.Leaf.{Leaf}
use Rattle.amqp_model.specs.declared.code.Leaf.TheVariants as leaf
use Rattle.amqp_model.specs.declared.code.Code.{Code}
use Rattle.amqp_model.specs.declared.code.Code.TheVariants as code
use Rattle.amqp_model.specs.declared.code.Kind.{Kind}
use Rattle.amqp_model.specs.declared.code.Kind.TheVariants as kind
use Rattle.amqp_model.specs.Codes.{narrow_code, wide_code, kind_of, is_without_bytes}
use Rattle.amqp_model.specs.Data as d
use Rattle.amqp_model.specs.Data.{Data, Items, no_items, item, Pairs, no_pairs, pair, count, pair_count}
use Rattle.amqp_model.specs.ValueSpelling.{constructed, piece_by, wide_sizes, compound_piece, sized_piece, list_text, is_small, spelling, spellings, pair_spellings, piece, pieces}
use Rattle.amqp_types.specs.Reading.{is_scalar, all_ascii, boolean_of}
use Rattle.amqp_types.specs.Spells.{Spelling, IsNumber, IsLeaf, Constructed, AreItems, ArePairs, BodyBy, Behind, Spells}
use Rattle.amqp_types.specs.Fitting.{value_kind, AllItems, AllPairs, AreOf, FitsBy, FitsIn, TypedBy, IsTyped}
use Rattle.amqp_types.proofs.Tools.{done, ok_is, choice_ok}
use Rattle.amqp_types.proofs.Typed.{spelled_typed}

-- Bytes, one by one.
abbrev pub AllBytes : List ℕ → Type 0
AllBytes [] = Unit {0}
AllBytes (b ∷ bs) = (b < 2 ^ 8) × AllBytes bs

pub all_bytes : (bytes : List ℕ) → ((i : ℕ) → get_or bytes i 0 < 2 ^ 8) → AllBytes bytes
all_bytes [] each = tt
all_bytes (b ∷ bs) each = (each 0, all_bytes bs (λ i. each (suc i)))

pub front_bytes : (xs ys : List ℕ) → AllBytes (xs ++ ys) → AllBytes xs
front_bytes [] ys all = tt
front_bytes (x ∷ xs) ys all = (all.0, front_bytes xs ys all.1)

pub back_bytes : (xs ys : List ℕ) → AllBytes (xs ++ ys) → AllBytes ys
back_bytes [] ys all = all
back_bytes (x ∷ xs) ys all = back_bytes xs ys all.1

pub same_bytes : (xs ys : List ℕ) → xs ≡ ys → AllBytes xs → AllBytes ys
same_bytes xs ys e all = (let P : List ℕ → Type 0 = λ l. AllBytes l in subst P e all)

-- Numbers.
in_1 : (bytes : List ℕ) → length bytes ≡ 1 → AllBytes bytes → from_be_bytes w8 bytes < 2 ^ 8
in_1 [] len all = absurd (omega (arith, len))
in_1 (a ∷ []) len all = omega (arith, all.0)
in_1 (a ∷ z ∷ rest) len all = absurd (omega (arith, len))

in_2 : (bytes : List ℕ) → length bytes ≡ 2 → AllBytes bytes → from_be_bytes w16 bytes < 2 ^ 16
in_2 [] len all = absurd (omega (arith, len))
in_2 (a ∷ []) len all = absurd (omega (arith, len))
in_2 (a ∷ b ∷ []) len all = omega (arith, all.0, all.1.0)
in_2 (a ∷ b ∷ z ∷ rest) len all = absurd (omega (arith, len))

in_4 : (bytes : List ℕ) → length bytes ≡ 4 → AllBytes bytes → from_be_bytes w32 bytes < 2 ^ 32
in_4 [] len all = absurd (omega (arith, len))
in_4 (a ∷ []) len all = absurd (omega (arith, len))
in_4 (a ∷ b ∷ []) len all = absurd (omega (arith, len))
in_4 (a ∷ b ∷ c ∷ []) len all = absurd (omega (arith, len))
in_4 (a ∷ b ∷ c ∷ e ∷ []) len all = omega (arith, all.0, all.1.0, all.1.1.0, all.1.1.1.0)
in_4 (a ∷ b ∷ c ∷ e ∷ z ∷ rest) len all = absurd (omega (arith, len))

in_8 : (bytes : List ℕ) → length bytes ≡ 8 → AllBytes bytes → from_be_bytes w64 bytes < 2 ^ 64
in_8 [] len all = absurd (omega (arith, len))
in_8 (a ∷ []) len all = absurd (omega (arith, len))
in_8 (a ∷ b ∷ []) len all = absurd (omega (arith, len))
in_8 (a ∷ b ∷ c ∷ []) len all = absurd (omega (arith, len))
in_8 (a ∷ b ∷ c ∷ e ∷ []) len all = absurd (omega (arith, len))
in_8 (a ∷ b ∷ c ∷ e ∷ f ∷ []) len all = absurd (omega (arith, len))
in_8 (a ∷ b ∷ c ∷ e ∷ f ∷ g ∷ []) len all = absurd (omega (arith, len))
in_8 (a ∷ b ∷ c ∷ e ∷ f ∷ g ∷ h ∷ []) len all = absurd (omega (arith, len))
in_8 (a ∷ b ∷ c ∷ e ∷ f ∷ g ∷ h ∷ i ∷ []) len all =
    omega (arith, all.0, all.1.0, all.1.1.0, all.1.1.1.0, all.1.1.1.1.0, all.1.1.1.1.1.0, all.1.1.1.1.1.1.0, all.1.1.1.1.1.1.1.0)
in_8 (a ∷ b ∷ c ∷ e ∷ f ∷ g ∷ h ∷ i ∷ z ∷ rest) len all = absurd (omega (arith, len))

-- a signed number of one byte is one of more
one_in_four : (z : ℤ) → FitsSigned w8 z → FitsSigned w32 z
one_in_four z fits = grind (arith, ints, fits.sfits)

one_in_eight : (z : ℤ) → FitsSigned w8 z → FitsSigned w64 z
one_in_eight z fits = grind (arith, ints, fits.sfits)

-- a size or a count
number_fits : (s : Size) (field : List ℕ) (n : ℕ) → IsNumber s field n → AllBytes field → n < 2 ^ 32
number_fits size.One field n is all = subst (λ m. m < 2 ^ 32) is.number (let low = in_1 field is.wide all in omega (arith, low))
number_fits size.Four field n is all = subst (λ m. m < 2 ^ 32) is.number (in_4 field is.wide all)

-- Canonical encodings that are short.
abbrev pub Short : Data → Type 0
Short v = length (spelling v) ≤ 512

text_short : (k : Kind) (b : Bool) (bytes : List ℕ) → length (constructed k (piece_by b (length bytes ∷ bytes) (to_be_bytes w32 (length bytes) ++ bytes))) ≤ 512 → length bytes < 2 ^ 32
text_short k true bytes few = omega (arith, few)
text_short k false bytes few = omega (arith, few)

compound_short : (k : Kind) (b : Bool) (n : ℕ) (inside : List ℕ)
    → length (constructed k (piece_by b ((length inside + 1) ∷ n ∷ inside) (wide_sizes n (length inside) ++ inside))) ≤ 512 → length inside + 3 ≤ 512
compound_short k true n inside few = omega (arith, few)
compound_short k false n inside few = omega (arith, few)

list_short : (n : ℕ) (inside : List ℕ) → length (list_text (suc n) inside) ≤ 512 → length inside + 3 ≤ 512
list_short n inside few =
    compound_short kind.List (nat_lt (length inside) 255 && nat_lt (suc n) 256) (suc n) inside
    (subst (λ b. length (cond b (0x45 ∷ []) (constructed kind.List (compound_piece (suc n) inside))) ≤ 512) (eqb-suc-zero n) few)

items_short : (vs : Items) → length (spellings vs) ≤ 512 → AllItems Short vs
unfolding spellings
items_short no_items few = tt
items_short (item v vs) few =
    let both = length-append (spelling v) (spellings vs) in
    (omega (arith, few, both), items_short vs (omega (arith, few, both)))

pairs_short : (ps : Pairs) → length (pair_spellings ps) ≤ 512 → AllPairs Short ps
unfolding pair_spellings
pairs_short no_pairs few = tt
pairs_short (pair k v ps) few =
    let rest = length-append (spelling v) (pair_spellings ps) in
    let all = length-append (spelling k) (spelling v ++ pair_spellings ps) in
    (omega (arith, few, rest, all), omega (arith, few, rest, all), pairs_short ps (omega (arith, few, rest, all)))

-- As an element of an array a value has at most one byte less than it has alone.
either_wide : (k : Kind) (b : Bool) (narrow wide : List ℕ) → length narrow ≤ length wide → length (constructed k (piece_by b narrow wide)) ≤ suc (length wide)
either_wide k true narrow wide less = omega (arith, less)
either_wide k false narrow wide less = omega arith

text_wide : (k : Kind) (bytes : List ℕ) → length (constructed k (sized_piece bytes)) ≤ suc (length (sized_piece bytes).wide)
text_wide k bytes = either_wide k (nat_lt (length bytes) 256) (length bytes ∷ bytes) (to_be_bytes w32 (length bytes) ++ bytes) (omega arith)

compound_wide : (k : Kind) (n : ℕ) (inside : List ℕ) → length (constructed k (compound_piece n inside)) ≤ suc (length (compound_piece n inside).wide)
compound_wide k n inside = either_wide k (nat_lt (length inside) 255 && nat_lt n 256) ((length inside + 1) ∷ n ∷ inside) (wide_sizes n (length inside) ++ inside) (omega arith)

or_one : (b : Bool) (byte n : ℕ) (text : List ℕ) → length text ≤ suc n → length (cond b (byte ∷ []) text) ≤ suc n
or_one true byte n text less = omega arith
or_one false byte n text less = less

bool_wide : (b : Bool) → length {A = ℕ} (cond b (0x41 ∷ []) (0x42 ∷ [])) ≤ 2
bool_wide true = omega arith
bool_wide false = omega arith

wide_element : (k : Kind) (v : Data) → value_kind v ≡ Some k → length (spelling v) ≤ suc (length (piece v).wide)
unfolding spelling piece
wide_element k d.null of = omega arith
wide_element k (d.boolean b) of = bool_wide b
wide_element k (d.ubyte n) of = omega arith
wide_element k (d.ushort n) of = omega arith
wide_element k (d.uint n) of = or_one (n == 0) 0x43 4 _ (either_wide kind.Uint (nat_lt n 256) (n ∷ []) (to_be_bytes w32 n) (omega arith))
wide_element k (d.ulong n) of = or_one (n == 0) 0x44 8 _ (either_wide kind.Ulong (nat_lt n 256) (n ∷ []) (to_be_bytes w64 n) (omega arith))
wide_element k (d.byte z) of = omega arith
wide_element k (d.short z) of = omega arith
wide_element k (d.int z) of = either_wide kind.Int (is_small z) (cast_unsigned w8 z ∷ []) (to_be_bytes w32 (cast_unsigned w32 z)) (omega arith)
wide_element k (d.long z) of = either_wide kind.Long (is_small z) (cast_unsigned w8 z ∷ []) (to_be_bytes w64 (cast_unsigned w64 z)) (omega arith)
wide_element k (d.float bytes) of = omega arith
wide_element k (d.double bytes) of = omega arith
wide_element k (d.decimal32 bytes) of = omega arith
wide_element k (d.decimal64 bytes) of = omega arith
wide_element k (d.decimal128 bytes) of = omega arith
wide_element k (d.char n) of = omega arith
wide_element k (d.timestamp z) of = omega arith
wide_element k (d.uuid bytes) of = omega arith
wide_element k (d.binary bytes) of = text_wide kind.Binary bytes
wide_element k (d.string bytes) of = text_wide kind.String bytes
wide_element k (d.symbol bytes) of = text_wide kind.Symbol bytes
wide_element k (d.list vs) of = or_one (count vs == 0) 0x45 _ _ (compound_wide kind.List (count vs) (spellings vs))
wide_element k (d.map ps) of = compound_wide kind.Map (2 * pair_count ps) (pair_spellings ps)
wide_element k (d.array of_kind vs) of = compound_wide kind.Array (count vs) (constructed of_kind (pieces vs))
wide_element k (d.described a b) of = absurd cc

either_narrow : (k : Kind) (b : Bool) (narrow wide : List ℕ) → b ≡ true → length (constructed k (piece_by b narrow wide)) ≤ suc (length (piece_by b narrow wide).narrow)
either_narrow k true narrow wide fits = omega arith
either_narrow k false narrow wide fits = absurd cc

narrow_element : (v : Data) → (piece v).fits ≡ true → length (spelling v) ≤ suc (length (piece v).narrow)
unfolding spelling piece
narrow_element (d.uint n) fits = or_one (n == 0) 0x43 _ _ (either_narrow kind.Uint (nat_lt n 256) (n ∷ []) (to_be_bytes w32 n) fits)
narrow_element (d.ulong n) fits = or_one (n == 0) 0x44 _ _ (either_narrow kind.Ulong (nat_lt n 256) (n ∷ []) (to_be_bytes w64 n) fits)
narrow_element (d.int z) fits = either_narrow kind.Int (is_small z) (cast_unsigned w8 z ∷ []) (to_be_bytes w32 (cast_unsigned w32 z)) fits
narrow_element (d.long z) fits = either_narrow kind.Long (is_small z) (cast_unsigned w8 z ∷ []) (to_be_bytes w64 (cast_unsigned w64 z)) fits
narrow_element (d.binary bytes) fits = either_narrow kind.Binary (nat_lt (length bytes) 256) (length bytes ∷ bytes) (to_be_bytes w32 (length bytes) ++ bytes) fits
narrow_element (d.string bytes) fits = either_narrow kind.String (nat_lt (length bytes) 256) (length bytes ∷ bytes) (to_be_bytes w32 (length bytes) ++ bytes) fits
narrow_element (d.symbol bytes) fits = either_narrow kind.Symbol (nat_lt (length bytes) 256) (length bytes ∷ bytes) (to_be_bytes w32 (length bytes) ++ bytes) fits
narrow_element (d.list vs) fits =
    let inside = spellings vs in
    or_one (count vs == 0) 0x45 _ _ (either_narrow kind.List (nat_lt (length inside) 255 && nat_lt (count vs) 256) ((length inside + 1) ∷ count vs ∷ inside) (wide_sizes (count vs) (length inside) ++ inside) fits)
narrow_element (d.map ps) fits =
    let n = 2 * pair_count ps in
    let inside = pair_spellings ps in
    either_narrow kind.Map (nat_lt (length inside) 255 && nat_lt n 256) ((length inside + 1) ∷ n ∷ inside) (wide_sizes n (length inside) ++ inside) fits
narrow_element (d.array k vs) fits =
    let inside = constructed k (pieces vs) in
    either_narrow kind.Array (nat_lt (length inside) 255 && nat_lt (count vs) 256) ((length inside + 1) ∷ count vs ∷ inside) (wide_sizes (count vs) (length inside) ++ inside) fits
narrow_element d.null fits = absurd cc
narrow_element (d.boolean b) fits = absurd cc
narrow_element (d.ubyte n) fits = absurd cc
narrow_element (d.ushort n) fits = absurd cc
narrow_element (d.byte z) fits = absurd cc
narrow_element (d.short z) fits = absurd cc
narrow_element (d.float bytes) fits = absurd cc
narrow_element (d.double bytes) fits = absurd cc
narrow_element (d.decimal32 bytes) fits = absurd cc
narrow_element (d.decimal64 bytes) fits = absurd cc
narrow_element (d.decimal128 bytes) fits = absurd cc
narrow_element (d.char n) fits = absurd cc
narrow_element (d.timestamp z) fits = absurd cc
narrow_element (d.uuid bytes) fits = absurd cc
narrow_element (d.described a b) fits = absurd cc

both_true : (a b : Bool) → (a && b) ≡ true → (a ≡ true) × (b ≡ true)
both_true true b e = (refl, e)
both_true false b e = absurd cc

wide_items : (k : Kind) (vs : Items) → AreOf k vs → length (pieces vs).wide + 1 ≤ 512 → AllItems Short vs
unfolding pieces
wide_items k no_items of few = tt
wide_items k (item v vs) of few =
    let both = length-append (piece v).wide (pieces vs).wide in
    (omega (arith, wide_element k v of.0, few, both), wide_items k vs of.1 (omega (arith, few, both)))

narrow_items : (vs : Items) → (pieces vs).fits ≡ true → length (pieces vs).narrow + 1 ≤ 512 → AllItems Short vs
unfolding pieces
narrow_items no_items fits few = tt
narrow_items (item v vs) fits few =
    let each = both_true (piece v).fits (pieces vs).fits fits in
    let both = length-append (piece v).narrow (pieces vs).narrow in
    (omega (arith, narrow_element v each.0, few, both), narrow_items vs each.1 (omega (arith, few, both)))

elements_short : (k : Kind) (vs : Items) → AreOf k vs → length (constructed k (pieces vs)) ≤ 512 → AllItems Short vs
elements_short k vs of few = by_test (pieces vs).fits refl few
  where
    by_test : (b : Bool) → (pieces vs).fits ≡ b → length (cond b (narrow_code k ∷ (pieces vs).narrow) (wide_code k ∷ (pieces vs).wide)) ≤ 512 → AllItems Short vs
    by_test true e low = narrow_items vs e (omega (arith, low))
    by_test false e low = wide_items k vs of (omega (arith, low))

-- One level. Of a value inside, all that is known of it is asked: its bytes, the kinds of its arrays and its length.
boolean_fits : (One : Data → Type 0) (n : ℕ) (v : Data) → boolean_of n ≡ Ok v → FitsBy One v
boolean_fits One n v e = by_test (n == 0) (n == 1) e
  where
    by_test : (a b : Bool) → cond a (done (d.boolean false)) (cond b (done (d.boolean true)) (Err fault.BadBool)) ≡ Ok v → FitsBy One v
    by_test true b e = subst (FitsBy One) (ok_is (d.boolean false) v e) tt
    by_test false true e = subst (FitsBy One) (ok_is (d.boolean true) v e) tt
    by_test false false e = absurd cc

signed_1 : (n : ℕ) → n < 2 ^ 8 → FitsSigned w8 (cast_signed w8 n)
signed_1 n low = sfits_to_z {w = w8} record { fits = low }

signed_2 : (n : ℕ) → n < 2 ^ 16 → FitsSigned w16 (cast_signed w16 n)
signed_2 n low = sfits_to_z {w = w16} record { fits = low }

signed_4 : (n : ℕ) → n < 2 ^ 32 → FitsSigned w32 (cast_signed w32 n)
signed_4 n low = sfits_to_z {w = w32} record { fits = low }

signed_8 : (n : ℕ) → n < 2 ^ 64 → FitsSigned w64 (cast_signed w64 n)
signed_8 n low = sfits_to_z {w = w64} record { fits = low }

leaf_fits : (One : Data → Type 0) (l : Leaf) (bytes : List ℕ) (v : Data) → IsLeaf l bytes v → AllBytes bytes → Short v → FitsBy One v
unfolding spelling
leaf_fits One leaf.Null bytes v h all few = subst (FitsBy One) (ok_is d.null v h.meant) tt
leaf_fits One leaf.True bytes v h all few = subst (FitsBy One) (ok_is (d.boolean true) v h.meant) tt
leaf_fits One leaf.False bytes v h all few = subst (FitsBy One) (ok_is (d.boolean false) v h.meant) tt
leaf_fits One leaf.Boolean bytes v h all few = boolean_fits One (from_be_bytes w8 h.chunk) v h.meant
leaf_fits One leaf.Ubyte bytes v h all few = subst (FitsBy One) (ok_is (d.ubyte (from_be_bytes w8 h.chunk)) v h.meant) (in_1 h.chunk h.laid.1 (same_bytes bytes h.chunk h.laid.0 all))
leaf_fits One leaf.Ushort bytes v h all few = subst (FitsBy One) (ok_is (d.ushort (from_be_bytes w16 h.chunk)) v h.meant) (in_2 h.chunk h.laid.1 (same_bytes bytes h.chunk h.laid.0 all))
leaf_fits One leaf.Uint bytes v h all few = subst (FitsBy One) (ok_is (d.uint (from_be_bytes w32 h.chunk)) v h.meant) (in_4 h.chunk h.laid.1 (same_bytes bytes h.chunk h.laid.0 all))
leaf_fits One leaf.SmallUint bytes v h all few =
    subst (FitsBy One) (ok_is (d.uint (from_be_bytes w8 h.chunk)) v h.meant) (let low = in_1 h.chunk h.laid.1 (same_bytes bytes h.chunk h.laid.0 all) in omega (arith, low))
leaf_fits One leaf.ZeroUint bytes v h all few = subst (FitsBy One) (ok_is (d.uint 0) v h.meant) (omega arith)
leaf_fits One leaf.Ulong bytes v h all few = subst (FitsBy One) (ok_is (d.ulong (from_be_bytes w64 h.chunk)) v h.meant) (in_8 h.chunk h.laid.1 (same_bytes bytes h.chunk h.laid.0 all))
leaf_fits One leaf.SmallUlong bytes v h all few =
    subst (FitsBy One) (ok_is (d.ulong (from_be_bytes w8 h.chunk)) v h.meant) (let low = in_1 h.chunk h.laid.1 (same_bytes bytes h.chunk h.laid.0 all) in omega (arith, low))
leaf_fits One leaf.ZeroUlong bytes v h all few = subst (FitsBy One) (ok_is (d.ulong 0) v h.meant) (omega arith)
leaf_fits One leaf.Byte bytes v h all few =
    let n = from_be_bytes w8 h.chunk in
    subst (FitsBy One) (ok_is (d.byte (cast_signed w8 n)) v h.meant) (signed_1 n (in_1 h.chunk h.laid.1 (same_bytes bytes h.chunk h.laid.0 all)))
leaf_fits One leaf.Short bytes v h all few =
    let n = from_be_bytes w16 h.chunk in
    subst (FitsBy One) (ok_is (d.short (cast_signed w16 n)) v h.meant) (signed_2 n (in_2 h.chunk h.laid.1 (same_bytes bytes h.chunk h.laid.0 all)))
leaf_fits One leaf.Int bytes v h all few =
    let n = from_be_bytes w32 h.chunk in
    subst (FitsBy One) (ok_is (d.int (cast_signed w32 n)) v h.meant) (signed_4 n (in_4 h.chunk h.laid.1 (same_bytes bytes h.chunk h.laid.0 all)))
leaf_fits One leaf.SmallInt bytes v h all few =
    let n = from_be_bytes w8 h.chunk in
    subst (FitsBy One) (ok_is (d.int (cast_signed w8 n)) v h.meant) (one_in_four (cast_signed w8 n) (signed_1 n (in_1 h.chunk h.laid.1 (same_bytes bytes h.chunk h.laid.0 all))))
leaf_fits One leaf.Long bytes v h all few =
    let n = from_be_bytes w64 h.chunk in
    subst (FitsBy One) (ok_is (d.long (cast_signed w64 n)) v h.meant) (signed_8 n (in_8 h.chunk h.laid.1 (same_bytes bytes h.chunk h.laid.0 all)))
leaf_fits One leaf.SmallLong bytes v h all few =
    let n = from_be_bytes w8 h.chunk in
    subst (FitsBy One) (ok_is (d.long (cast_signed w8 n)) v h.meant) (one_in_eight (cast_signed w8 n) (signed_1 n (in_1 h.chunk h.laid.1 (same_bytes bytes h.chunk h.laid.0 all))))
leaf_fits One leaf.Float bytes v h all few = subst (FitsBy One) (ok_is (d.float h.chunk) v h.meant) h.laid.1
leaf_fits One leaf.Double bytes v h all few = subst (FitsBy One) (ok_is (d.double h.chunk) v h.meant) h.laid.1
leaf_fits One leaf.Decimal32 bytes v h all few = subst (FitsBy One) (ok_is (d.decimal32 h.chunk) v h.meant) h.laid.1
leaf_fits One leaf.Decimal64 bytes v h all few = subst (FitsBy One) (ok_is (d.decimal64 h.chunk) v h.meant) h.laid.1
leaf_fits One leaf.Decimal128 bytes v h all few = subst (FitsBy One) (ok_is (d.decimal128 h.chunk) v h.meant) h.laid.1
leaf_fits One leaf.Char bytes v h all few =
    let n = from_be_bytes w32 h.chunk in
    let so = choice_ok (is_scalar n) (d.char n) fault.BadChar v h.meant in
    subst (FitsBy One) so.1 (in_4 h.chunk h.laid.1 (same_bytes bytes h.chunk h.laid.0 all), so.0)
leaf_fits One leaf.Timestamp bytes v h all few =
    let n = from_be_bytes w64 h.chunk in
    subst (FitsBy One) (ok_is (d.timestamp (cast_signed w64 n)) v h.meant) (signed_8 n (in_8 h.chunk h.laid.1 (same_bytes bytes h.chunk h.laid.0 all)))
leaf_fits One leaf.Uuid bytes v h all few = subst (FitsBy One) (ok_is (d.uuid h.chunk) v h.meant) h.laid.1
leaf_fits One (leaf.Binary s) bytes v h all few =
    subst (λ w. Short w → FitsBy One w) (ok_is (d.binary h.chunk) v h.meant) (text_short kind.Binary (nat_lt (length h.chunk) 256) h.chunk) few
leaf_fits One (leaf.String s) bytes v h all few =
    let so = choice_ok (is_utf8 h.chunk) (d.string h.chunk) fault.BadUtf8 v h.meant in
    subst (λ w. Short w → FitsBy One w) so.1 (λ low. (text_short kind.String (nat_lt (length h.chunk) 256) h.chunk low, so.0)) few
leaf_fits One (leaf.Symbol s) bytes v h all few =
    let so = choice_ok (all_ascii h.chunk) (d.symbol h.chunk) fault.BadSymbol v h.meant in
    subst (λ w. Short w → FitsBy One w) so.1 (λ low. (text_short kind.Symbol (nat_lt (length h.chunk) 256) h.chunk low, so.0)) few

null_without : (c : Code) → kind_of c ≡ Some kind.Null → is_without_bytes c ≡ true
null_without (code.Leaf leaf.Null) e = refl
null_without (code.Leaf leaf.True) e = refl
null_without (code.Leaf leaf.False) e = refl
null_without (code.Leaf leaf.ZeroUint) e = refl
null_without (code.Leaf leaf.ZeroUlong) e = refl
null_without code.EmptyList e = refl
null_without (code.List s) e = absurd cc
null_without (code.Map s) e = absurd cc
null_without (code.Array s) e = absurd cc
null_without code.Described e = absurd cc
null_without (code.Leaf leaf.Boolean) e = absurd cc
null_without (code.Leaf leaf.Ubyte) e = absurd cc
null_without (code.Leaf leaf.Ushort) e = absurd cc
null_without (code.Leaf leaf.Uint) e = absurd cc
null_without (code.Leaf leaf.SmallUint) e = absurd cc
null_without (code.Leaf leaf.Ulong) e = absurd cc
null_without (code.Leaf leaf.SmallUlong) e = absurd cc
null_without (code.Leaf leaf.Byte) e = absurd cc
null_without (code.Leaf leaf.Short) e = absurd cc
null_without (code.Leaf leaf.Int) e = absurd cc
null_without (code.Leaf leaf.SmallInt) e = absurd cc
null_without (code.Leaf leaf.Long) e = absurd cc
null_without (code.Leaf leaf.SmallLong) e = absurd cc
null_without (code.Leaf leaf.Float) e = absurd cc
null_without (code.Leaf leaf.Double) e = absurd cc
null_without (code.Leaf leaf.Decimal32) e = absurd cc
null_without (code.Leaf leaf.Decimal64) e = absurd cc
null_without (code.Leaf leaf.Decimal128) e = absurd cc
null_without (code.Leaf leaf.Char) e = absurd cc
null_without (code.Leaf leaf.Timestamp) e = absurd cc
null_without (code.Leaf leaf.Uuid) e = absurd cc
null_without (code.Leaf (leaf.Binary s)) e = absurd cc
null_without (code.Leaf (leaf.String s)) e = absurd cc
null_without (code.Leaf (leaf.Symbol s)) e = absurd cc

-- what holds of a value that bytes encode so, if it is typed and short
abbrev Gives : Spelling → (Data → Type 0) → (Data → Type 0) → Type 0
Gives One Typed P = (bytes : List ℕ) (v : Data) → One bytes v → AllBytes bytes → Typed v → Short v → P v

items_fit : (One : Spelling) (Typed P : Data → Type 0) → Gives One Typed P → (bytes : List ℕ) (vs : Items) → AreItems One bytes vs → AllBytes bytes → AllItems Typed vs → AllItems Short vs → AllItems P vs
items_fit One Typed P holds bytes no_items h all typed few = tt
items_fit One Typed P holds bytes (item v vs) h all typed few =
    let there = same_bytes bytes (h.0 ++ h.1) h.2 all in
    (holds h.0 v h.3 (front_bytes h.0 h.1 there) typed.0 few.0, items_fit One Typed P holds h.1 vs h.4 (back_bytes h.0 h.1 there) typed.1 few.1)

pairs_fit : (One : Spelling) (Typed P : Data → Type 0) → Gives One Typed P → (bytes : List ℕ) (ps : Pairs) → ArePairs One bytes ps → AllBytes bytes → AllPairs Typed ps → AllPairs Short ps → AllPairs P ps
pairs_fit One Typed P holds bytes no_pairs h all typed few = tt
pairs_fit One Typed P holds bytes (pair k v ps) h all typed few =
    let there = same_bytes bytes (h.0 ++ (h.1 ++ h.2)) h.3 all in
    let behind = back_bytes h.0 (h.1 ++ h.2) there in (
      holds h.0 k h.4 (front_bytes h.0 (h.1 ++ h.2) there) typed.0 few.0,
      holds h.1 v h.5 (front_bytes h.1 h.2 behind) typed.1 few.1,
      pairs_fit One Typed P holds h.2 ps h.6 (back_bytes h.1 h.2 behind) typed.2 few.2,
    )

one_fits : (depth : ℕ) (Typed P : Data → Type 0) → ((c : Code) → Gives (Behind depth c) Typed P) → Gives (Constructed (Behind depth)) Typed P
one_fits depth Typed P holds bytes v h all typed few = holds h.constructor h.body v h.spelled (same_bytes bytes (h.byte ∷ h.body) h.parts all).1 typed few

described_short : (a b : Data) → Short (d.described a b) → Short a × Short b
unfolding spelling
described_short a b few = (let both = length-append (spelling a) (spelling b) in (omega (arith, few, both), omega (arith, few, both)))

list_fits : (depth : ℕ) (Typed P : Data → Type 0) → ((c : Code) → Gives (Behind depth c) Typed P) → (bytes : List ℕ) (vs : Items)
    → AreItems (Constructed (Behind depth)) bytes vs → AllBytes bytes → count vs < 2 ^ 32 → AllItems Typed vs → Short (d.list vs) → FitsBy P (d.list vs)
unfolding spelling spellings
list_fits depth Typed P holds bytes no_items h all counted typed few = (omega arith, omega arith, tt)
list_fits depth Typed P holds bytes (item v vs) h all counted typed few =
    let low = list_short (count vs) (spellings (item v vs)) few in (
      counted,
      omega (arith, low),
      items_fit (Constructed (Behind depth)) Typed P (one_fits depth Typed P holds) bytes (item v vs) h all typed (items_short (item v vs) (omega (arith, low))),
    )

map_fits : (depth : ℕ) (Typed P : Data → Type 0) → ((c : Code) → Gives (Behind depth c) Typed P) → (bytes : List ℕ) (ps : Pairs)
    → ArePairs (Constructed (Behind depth)) bytes ps → AllBytes bytes → 2 * pair_count ps < 2 ^ 32 → AllPairs Typed ps → Short (d.map ps) → FitsBy P (d.map ps)
unfolding spelling
map_fits depth Typed P holds bytes ps h all counted typed few =
    let inside = pair_spellings ps in
    let n = 2 * pair_count ps in
    let low = compound_short kind.Map (nat_lt (length inside) 255 && nat_lt n 256) n inside few in (
      counted,
      omega (arith, low),
      pairs_fit (Constructed (Behind depth)) Typed P (one_fits depth Typed P holds) bytes ps h all typed (pairs_short ps (omega (arith, low))),
    )

array_fits : (depth : ℕ) (Typed P : Data → Type 0) → ((c : Code) → Gives (Behind depth c) Typed P) → (c : Code) (k : Kind) (bytes : List ℕ) (vs : Items)
    → AreItems (Behind depth c) bytes vs → AllBytes bytes → count vs < 2 ^ 32 → (k ≡ kind.Null → count vs ≤ 1024) → AllItems Typed vs × AreOf k vs
    → Short (d.array k vs) → FitsBy P (d.array k vs)
unfolding spelling
array_fits depth Typed P holds c k bytes vs h all counted none typed few =
    let inside = constructed k (pieces vs) in
    let low = compound_short kind.Array (nat_lt (length inside) 255 && nat_lt (count vs) 256) (count vs) inside few in (
      counted,
      omega (arith, low),
      items_fit (Behind depth c) Typed P (holds c) bytes vs h all typed.0 (elements_short k vs typed.1 (omega (arith, low))),
      typed.1,
      none,
    )

empty_fits : (P : Data → Type 0) → FitsBy P (d.list no_items)
unfolding spellings
empty_fits P = (omega arith, omega arith, tt)

body_fits : (depth : ℕ) (Typed P : Data → Type 0) → ((c : Code) → Gives (Behind depth c) Typed P) → (c : Code) → Gives (BodyBy (Behind depth) c) (TypedBy Typed) (FitsBy P)
body_fits depth Typed P holds (code.Leaf l) bytes v h all typed few = leaf_fits P l bytes v h all few
body_fits depth Typed P holds code.EmptyList bytes v h all typed few = subst (FitsBy P) h.1 (empty_fits P)
body_fits depth Typed P holds (code.List s) bytes v h all typed few =
    let i = h.spelled in
    let inside = back_bytes h.sized.field h.inside (same_bytes bytes (h.sized.field ++ h.inside) h.sized.parts all) in
    let there = same_bytes h.inside (i.field ++ i.bytes) i.parts inside in
    let counted = number_fits s i.field (count i.values) i.counted (front_bytes i.field i.bytes there) in
    let G : Data → Type 0 = λ w. TypedBy Typed w → Short w → FitsBy P w in
    subst G i.is (list_fits depth Typed P holds i.bytes i.values i.spelled (back_bytes i.field i.bytes there) counted) typed few
body_fits depth Typed P holds (code.Map s) bytes v h all typed few =
    let i = h.spelled in
    let inside = back_bytes h.sized.field h.inside (same_bytes bytes (h.sized.field ++ h.inside) h.sized.parts all) in
    let there = same_bytes h.inside (i.field ++ i.bytes) i.parts inside in
    let counted = number_fits s i.field (2 * pair_count i.pairs) i.counted (front_bytes i.field i.bytes there) in
    let G : Data → Type 0 = λ w. TypedBy Typed w → Short w → FitsBy P w in
    subst G i.is (map_fits depth Typed P holds i.bytes i.pairs i.spelled (back_bytes i.field i.bytes there) counted) typed few
body_fits depth Typed P holds (code.Array s) bytes v h all typed few =
    let i = h.spelled in
    let inside = back_bytes h.sized.field h.inside (same_bytes bytes (h.sized.field ++ h.inside) h.sized.parts all) in
    let there = same_bytes h.inside (i.field ++ i.byte ∷ i.bytes) i.parts inside in
    let counted = number_fits s i.field (count i.values) i.counted (front_bytes i.field (i.byte ∷ i.bytes) there) in
    let none : i.kind ≡ kind.Null → count i.values ≤ 1024 = λ e. i.few (null_without i.constructor (i.typed ∙ ap (λ k. Some k) e)) in
    let G : Data → Type 0 = λ w. TypedBy Typed w → Short w → FitsBy P w in
    subst G i.is (array_fits depth Typed P holds i.constructor i.kind i.bytes i.values i.spelled (back_bytes i.field (i.byte ∷ i.bytes) there).1 counted none) typed few
body_fits depth Typed P holds code.Described bytes v h all typed few =
    let there = same_bytes bytes (h.first ++ h.second) h.parts all in
    let G : Data → Type 0 = λ w. TypedBy Typed w → Short w → FitsBy P w in
    subst G h.is (λ of low. (
      one_fits depth Typed P holds h.first h.descriptor h.describes (front_bytes h.first h.second there) of.0 (described_short h.descriptor h.value low).0,
      one_fits depth Typed P holds h.second h.value h.spelled (back_bytes h.first h.second there) of.1 (described_short h.descriptor h.value low).1,
    )) typed few

-- All levels.
behind_fits : (depth : ℕ) (c : Code) → Gives (Behind depth c) (IsTyped depth) (FitsIn depth)
unfolding Behind IsTyped FitsIn
behind_fits zero c bytes v h all typed few = absurd h
behind_fits (suc depth) c bytes v h all typed few = body_fits depth (IsTyped depth) (FitsIn depth) (behind_fits depth) c bytes v h all typed few

pub spelled_fits : (depth : ℕ) (bytes : List ℕ) (v : Data) → Spells depth bytes v → AllBytes bytes → Short v → FitsIn depth v
spelled_fits depth bytes v h all few = one_fits depth (IsTyped depth) (FitsIn depth) (behind_fits depth) bytes v h all (spelled_typed depth bytes v h) few

-- What fits with so many levels fits with one more.
all_more : (P Q : Data → Type 0) → ((v : Data) → P v → Q v) → (vs : Items) → AllItems P vs → AllItems Q vs
all_more P Q holds no_items h = tt
all_more P Q holds (item v vs) h = (holds v h.0, all_more P Q holds vs h.1)

pairs_more : (P Q : Data → Type 0) → ((v : Data) → P v → Q v) → (ps : Pairs) → AllPairs P ps → AllPairs Q ps
pairs_more P Q holds no_pairs h = tt
pairs_more P Q holds (pair k v ps) h = (holds k h.0, holds v h.1, pairs_more P Q holds ps h.2)

level_more : (P Q : Data → Type 0) → ((v : Data) → P v → Q v) → (v : Data) → FitsBy P v → FitsBy Q v
level_more P Q holds d.null h = h
level_more P Q holds (d.boolean b) h = h
level_more P Q holds (d.ubyte n) h = h
level_more P Q holds (d.ushort n) h = h
level_more P Q holds (d.uint n) h = h
level_more P Q holds (d.ulong n) h = h
level_more P Q holds (d.byte z) h = h
level_more P Q holds (d.short z) h = h
level_more P Q holds (d.int z) h = h
level_more P Q holds (d.long z) h = h
level_more P Q holds (d.float bytes) h = h
level_more P Q holds (d.double bytes) h = h
level_more P Q holds (d.decimal32 bytes) h = h
level_more P Q holds (d.decimal64 bytes) h = h
level_more P Q holds (d.decimal128 bytes) h = h
level_more P Q holds (d.char n) h = h
level_more P Q holds (d.timestamp z) h = h
level_more P Q holds (d.uuid bytes) h = h
level_more P Q holds (d.binary bytes) h = h
level_more P Q holds (d.string bytes) h = h
level_more P Q holds (d.symbol bytes) h = h
level_more P Q holds (d.list vs) h = (h.0, h.1, all_more P Q holds vs h.2)
level_more P Q holds (d.map ps) h = (h.0, h.1, pairs_more P Q holds ps h.2)
level_more P Q holds (d.array k vs) h = (h.0, h.1, all_more P Q holds vs h.2, h.3, h.4)
level_more P Q holds (d.described a b) h = (holds a h.0, holds b h.1)

pub fits_deeper : (depth : ℕ) (v : Data) → FitsIn depth v → FitsIn (suc depth) v
unfolding FitsIn
fits_deeper zero v h = absurd h
fits_deeper (suc depth) v h = level_more (FitsIn depth) (FitsIn (suc depth)) (fits_deeper depth) v h
