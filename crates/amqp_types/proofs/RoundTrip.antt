-- What is written is an encoding, and so it is read again.
use Rattle.std.proofs.Common.{◌≡◌, ℕ, zero, suc, ◌+◌, ◌*◌, ◌^◌, ◌<◌, ◌≤◌, ℤ, pos, negsuc, int_le, Bool, true, false, cond, ◌&&◌, nat_lt, ◌==◌, List, [], ◌∷◌, ◌++◌, length, Option, Some, None, Ok, Err, refl, sym, ap, subst, ◌∙◌, append_assoc, arith, FitsSigned}
use Rattle.std.specs.Int.{Width, w8, w16, w32, w64, to_be_bytes, from_be_bytes, cast_signed, cast_unsigned}
use Rattle.std.proofs.lemmas.Bool.{eqb-true}
use Rattle.std.proofs.Math.Dec.{eqb-suc-zero}
use Rattle.std.proofs.lemmas.List.{length-append}
use Rattle.std.proofs.lemmas.Nat.{from_be_bytes-to_be_bytes_2, from_be_bytes-to_be_bytes_4, from_be_bytes-to_be_bytes_8}
use Rattle.std.proofs.Math.Facts.{Fits-of_z, to_z-of_z}
use Rattle.std.proofs.lemmas.Int.{ints}
use Rattle.amqp_model.specs.declared.code.Size.{Size}
use Rattle.amqp_model.specs.declared.code.Size.TheVariants as size
use Rattle.amqp_model.specs.declared.code.Leaf.{Leaf}
use Rattle.amqp_model.specs.declared.code.Leaf.TheVariants as leaf
use Rattle.amqp_model.specs.declared.code.Code.{Code}
use Rattle.amqp_model.specs.declared.code.Code.TheVariants as code
use Rattle.amqp_model.specs.declared.code.Kind.{Kind}
use Rattle.amqp_model.specs.declared.code.Kind.TheVariants as kind
use Rattle.amqp_model.specs.Codes.{narrow_code, wide_code, code_of, layout_of, kind_of, is_without_bytes}
use Rattle.amqp_model.specs.Data as d
use Rattle.amqp_model.specs.Data.{Data, Items, no_items, item, Pairs, no_pairs, pair}
use Rattle.amqp_types.specs.Reading.{char_of, content_of, value_at}
use Rattle.amqp_model.specs.declared.type_fault.TypeFault.TheVariants as fault
use Rattle.amqp_types.specs.Spells.{Spelling, IsNumber, IsSized, IsChunk, IsLeaf, Constructed, AreItems, ArePairs, IsListInside, IsMapInside, IsArrayInside, Fills, BodyBy, Behind, Spells}
use Rattle.amqp_model.specs.Data.{count, pair_count}
use Rattle.amqp_model.specs.ValueSpelling.{Piece, constructed, single, piece_by, number_piece, signed_piece, is_small, sized_piece, wide_sizes, compound_piece, list_text, boolean_byte, spelling, spellings, pair_spellings, piece, pieces}
use Rattle.amqp_types.specs.Fitting.{value_kind, AllItems, AllPairs, AreOf, FitsBy, FitsIn}
use Rattle.amqp_types.proofs.Tools.{done}
use Rattle.amqp_types.proofs.Complete.{value_at-Spells}

-- ---- the constructors that are written

abbrev narrow_at : Kind → Code
narrow_at kind.Null = code.Leaf leaf.Null
narrow_at kind.Boolean = code.Leaf leaf.Boolean
narrow_at kind.Ubyte = code.Leaf leaf.Ubyte
narrow_at kind.Ushort = code.Leaf leaf.Ushort
narrow_at kind.Uint = code.Leaf leaf.SmallUint
narrow_at kind.Ulong = code.Leaf leaf.SmallUlong
narrow_at kind.Byte = code.Leaf leaf.Byte
narrow_at kind.Short = code.Leaf leaf.Short
narrow_at kind.Int = code.Leaf leaf.SmallInt
narrow_at kind.Long = code.Leaf leaf.SmallLong
narrow_at kind.Float = code.Leaf leaf.Float
narrow_at kind.Double = code.Leaf leaf.Double
narrow_at kind.Decimal32 = code.Leaf leaf.Decimal32
narrow_at kind.Decimal64 = code.Leaf leaf.Decimal64
narrow_at kind.Decimal128 = code.Leaf leaf.Decimal128
narrow_at kind.Char = code.Leaf leaf.Char
narrow_at kind.Timestamp = code.Leaf leaf.Timestamp
narrow_at kind.Uuid = code.Leaf leaf.Uuid
narrow_at kind.Binary = code.Leaf (leaf.Binary size.One)
narrow_at kind.String = code.Leaf (leaf.String size.One)
narrow_at kind.Symbol = code.Leaf (leaf.Symbol size.One)
narrow_at kind.List = code.List size.One
narrow_at kind.Map = code.Map size.One
narrow_at kind.Array = code.Array size.One

abbrev wide_at : Kind → Code
wide_at kind.Null = code.Leaf leaf.Null
wide_at kind.Boolean = code.Leaf leaf.Boolean
wide_at kind.Ubyte = code.Leaf leaf.Ubyte
wide_at kind.Ushort = code.Leaf leaf.Ushort
wide_at kind.Uint = code.Leaf leaf.Uint
wide_at kind.Ulong = code.Leaf leaf.Ulong
wide_at kind.Byte = code.Leaf leaf.Byte
wide_at kind.Short = code.Leaf leaf.Short
wide_at kind.Int = code.Leaf leaf.Int
wide_at kind.Long = code.Leaf leaf.Long
wide_at kind.Float = code.Leaf leaf.Float
wide_at kind.Double = code.Leaf leaf.Double
wide_at kind.Decimal32 = code.Leaf leaf.Decimal32
wide_at kind.Decimal64 = code.Leaf leaf.Decimal64
wide_at kind.Decimal128 = code.Leaf leaf.Decimal128
wide_at kind.Char = code.Leaf leaf.Char
wide_at kind.Timestamp = code.Leaf leaf.Timestamp
wide_at kind.Uuid = code.Leaf leaf.Uuid
wide_at kind.Binary = code.Leaf (leaf.Binary size.Four)
wide_at kind.String = code.Leaf (leaf.String size.Four)
wide_at kind.Symbol = code.Leaf (leaf.Symbol size.Four)
wide_at kind.List = code.List size.Four
wide_at kind.Map = code.Map size.Four
wide_at kind.Array = code.Array size.Four

narrow_known : (k : Kind) → code_of (narrow_code k) ≡ Some (narrow_at k)
unfolding code_of
narrow_known kind.Null = refl
narrow_known kind.Boolean = refl
narrow_known kind.Ubyte = refl
narrow_known kind.Ushort = refl
narrow_known kind.Uint = refl
narrow_known kind.Ulong = refl
narrow_known kind.Byte = refl
narrow_known kind.Short = refl
narrow_known kind.Int = refl
narrow_known kind.Long = refl
narrow_known kind.Float = refl
narrow_known kind.Double = refl
narrow_known kind.Decimal32 = refl
narrow_known kind.Decimal64 = refl
narrow_known kind.Decimal128 = refl
narrow_known kind.Char = refl
narrow_known kind.Timestamp = refl
narrow_known kind.Uuid = refl
narrow_known kind.Binary = refl
narrow_known kind.String = refl
narrow_known kind.Symbol = refl
narrow_known kind.List = refl
narrow_known kind.Map = refl
narrow_known kind.Array = refl

wide_known : (k : Kind) → code_of (wide_code k) ≡ Some (wide_at k)
unfolding code_of
wide_known kind.Null = refl
wide_known kind.Boolean = refl
wide_known kind.Ubyte = refl
wide_known kind.Ushort = refl
wide_known kind.Uint = refl
wide_known kind.Ulong = refl
wide_known kind.Byte = refl
wide_known kind.Short = refl
wide_known kind.Int = refl
wide_known kind.Long = refl
wide_known kind.Float = refl
wide_known kind.Double = refl
wide_known kind.Decimal32 = refl
wide_known kind.Decimal64 = refl
wide_known kind.Decimal128 = refl
wide_known kind.Char = refl
wide_known kind.Timestamp = refl
wide_known kind.Uuid = refl
wide_known kind.Binary = refl
wide_known kind.String = refl
wide_known kind.Symbol = refl
wide_known kind.List = refl
wide_known kind.Map = refl
wide_known kind.Array = refl

narrow_typed : (k : Kind) → kind_of (narrow_at k) ≡ Some k
narrow_typed kind.Null = refl
narrow_typed kind.Boolean = refl
narrow_typed kind.Ubyte = refl
narrow_typed kind.Ushort = refl
narrow_typed kind.Uint = refl
narrow_typed kind.Ulong = refl
narrow_typed kind.Byte = refl
narrow_typed kind.Short = refl
narrow_typed kind.Int = refl
narrow_typed kind.Long = refl
narrow_typed kind.Float = refl
narrow_typed kind.Double = refl
narrow_typed kind.Decimal32 = refl
narrow_typed kind.Decimal64 = refl
narrow_typed kind.Decimal128 = refl
narrow_typed kind.Char = refl
narrow_typed kind.Timestamp = refl
narrow_typed kind.Uuid = refl
narrow_typed kind.Binary = refl
narrow_typed kind.String = refl
narrow_typed kind.Symbol = refl
narrow_typed kind.List = refl
narrow_typed kind.Map = refl
narrow_typed kind.Array = refl

wide_typed : (k : Kind) → kind_of (wide_at k) ≡ Some k
wide_typed kind.Null = refl
wide_typed kind.Boolean = refl
wide_typed kind.Ubyte = refl
wide_typed kind.Ushort = refl
wide_typed kind.Uint = refl
wide_typed kind.Ulong = refl
wide_typed kind.Byte = refl
wide_typed kind.Short = refl
wide_typed kind.Int = refl
wide_typed kind.Long = refl
wide_typed kind.Float = refl
wide_typed kind.Double = refl
wide_typed kind.Decimal32 = refl
wide_typed kind.Decimal64 = refl
wide_typed kind.Decimal128 = refl
wide_typed kind.Char = refl
wide_typed kind.Timestamp = refl
wide_typed kind.Uuid = refl
wide_typed kind.Binary = refl
wide_typed kind.String = refl
wide_typed kind.Symbol = refl
wide_typed kind.List = refl
wide_typed kind.Map = refl
wide_typed kind.Array = refl

-- only null has no bytes as an element of a written array
narrow_empty : (k : Kind) → is_without_bytes (narrow_at k) ≡ true → k ≡ kind.Null
narrow_empty kind.Null e = refl
narrow_empty kind.Boolean e = absurd cc
narrow_empty kind.Ubyte e = absurd cc
narrow_empty kind.Ushort e = absurd cc
narrow_empty kind.Uint e = absurd cc
narrow_empty kind.Ulong e = absurd cc
narrow_empty kind.Byte e = absurd cc
narrow_empty kind.Short e = absurd cc
narrow_empty kind.Int e = absurd cc
narrow_empty kind.Long e = absurd cc
narrow_empty kind.Float e = absurd cc
narrow_empty kind.Double e = absurd cc
narrow_empty kind.Decimal32 e = absurd cc
narrow_empty kind.Decimal64 e = absurd cc
narrow_empty kind.Decimal128 e = absurd cc
narrow_empty kind.Char e = absurd cc
narrow_empty kind.Timestamp e = absurd cc
narrow_empty kind.Uuid e = absurd cc
narrow_empty kind.Binary e = absurd cc
narrow_empty kind.String e = absurd cc
narrow_empty kind.Symbol e = absurd cc
narrow_empty kind.List e = absurd cc
narrow_empty kind.Map e = absurd cc
narrow_empty kind.Array e = absurd cc

wide_empty : (k : Kind) → is_without_bytes (wide_at k) ≡ true → k ≡ kind.Null
wide_empty kind.Null e = refl
wide_empty kind.Boolean e = absurd cc
wide_empty kind.Ubyte e = absurd cc
wide_empty kind.Ushort e = absurd cc
wide_empty kind.Uint e = absurd cc
wide_empty kind.Ulong e = absurd cc
wide_empty kind.Byte e = absurd cc
wide_empty kind.Short e = absurd cc
wide_empty kind.Int e = absurd cc
wide_empty kind.Long e = absurd cc
wide_empty kind.Float e = absurd cc
wide_empty kind.Double e = absurd cc
wide_empty kind.Decimal32 e = absurd cc
wide_empty kind.Decimal64 e = absurd cc
wide_empty kind.Decimal128 e = absurd cc
wide_empty kind.Char e = absurd cc
wide_empty kind.Timestamp e = absurd cc
wide_empty kind.Uuid e = absurd cc
wide_empty kind.Binary e = absurd cc
wide_empty kind.String e = absurd cc
wide_empty kind.Symbol e = absurd cc
wide_empty kind.List e = absurd cc
wide_empty kind.Map e = absurd cc
wide_empty kind.Array e = absurd cc

-- a piece is the encoding after both constructors, where it fits
record IsPiece (Body : Code → Spelling) (k : Kind) (p : Piece) (v : Data) : Type 0 where
  wide : Body (wide_at k) p.wide v
  narrow : p.fits ≡ true → Body (narrow_at k) p.narrow v

-- a value after the shortest constructor that fits it
constructed_is : (Body : Code → Spelling) (k : Kind) (p : Piece) (v : Data) → IsPiece Body k p v → Constructed Body (constructed k p) v
constructed_is Body k p v h = by_test p.fits refl
  where
    by_test : (b : Bool) → p.fits ≡ b → Constructed Body (cond b (narrow_code k ∷ p.narrow) (wide_code k ∷ p.wide)) v
    by_test true e = record { byte = narrow_code k; body = p.narrow; parts = refl; constructor = narrow_at k; known = narrow_known k; spelled = h.narrow e }
    by_test false e = record { byte = wide_code k; body = p.wide; parts = refl; constructor = wide_at k; known = wide_known k; spelled = h.wide }

-- ---- plain values

abbrev again : Width → ℕ → ℕ
again w n = from_be_bytes w (to_be_bytes w n)

byte_signed : (z : ℤ) → FitsSigned w8 z → cast_signed w8 (cast_unsigned w8 z) ≡ z
byte_signed z h = to_z-of_z h

short_again : (z : ℤ) → FitsSigned w16 z → cast_signed w16 (again w16 (cast_unsigned w16 z)) ≡ z
short_again z h = ap (cast_signed w16) (from_be_bytes-to_be_bytes_2 (cast_unsigned w16 z) (omega (arith, Fits-of_z h))) ∙ to_z-of_z h

int_again : (z : ℤ) → FitsSigned w32 z → cast_signed w32 (again w32 (cast_unsigned w32 z)) ≡ z
int_again z h = ap (cast_signed w32) (from_be_bytes-to_be_bytes_4 (cast_unsigned w32 z) (omega (arith, Fits-of_z h))) ∙ to_z-of_z h

long_again : (z : ℤ) → FitsSigned w64 z → cast_signed w64 (again w64 (cast_unsigned w64 z)) ≡ z
long_again z h = ap (cast_signed w64) (from_be_bytes-to_be_bytes_8 (cast_unsigned w64 z) (omega (arith, Fits-of_z h))) ∙ to_z-of_z h

fixed : (l : Leaf) (bytes : List ℕ) (v : Data) → IsChunk (layout_of l) bytes bytes → content_of l bytes ≡ Ok v → IsLeaf l bytes v
fixed l bytes v laid meant = record { chunk = bytes; laid = laid; meant = meant }

-- a type with one constructor
single_is : (Body : Code → Spelling) (k : Kind) (bytes : List ℕ) (v : Data) → Body (wide_at k) bytes v → IsPiece Body k (single bytes) v
single_is Body k bytes v h = record { wide = h; narrow = λ e. absurd cc }

-- one that may fit the shorter of two
either_is : (Body : Code → Spelling) (k : Kind) (fits : Bool) (narrow wide : List ℕ) (v : Data) → Body (wide_at k) wide v → (fits ≡ true → Body (narrow_at k) narrow v) → IsPiece Body k (piece_by fits narrow wide) v
either_is Body k true narrow wide v h n = record { wide = h; narrow = n }
either_is Body k false narrow wide v h n = record { wide = h; narrow = λ e. absurd cc }

-- bytes after their length
sized_wide : (bytes : List ℕ) → length bytes < 2 ^ 32 → IsSized size.Four (to_be_bytes w32 (length bytes) ++ bytes) bytes
sized_wide bytes lt = record { field = to_be_bytes w32 (length bytes); parts = refl; size = record { wide = refl; number = from_be_bytes-to_be_bytes_4 (length bytes) lt } }

sized_narrow : (bytes : List ℕ) → IsSized size.One (length bytes ∷ bytes) bytes
sized_narrow bytes = record { field = length bytes ∷ []; parts = refl; size = record { wide = refl; number = refl } }

-- ---- values that hold others

-- what fills its size, by what follows any field of its count
pub compound_wide : (n : ℕ) (inside : List ℕ) (v : Data) (Inside : Spelling) → n < 2 ^ 32 → length inside + 4 < 2 ^ 32
    → ((field : List ℕ) → IsNumber size.Four field n → Inside (field ++ inside) v) → Fills size.Four (wide_sizes n (length inside) ++ inside) v Inside
compound_wide n inside v Inside few short is =
    let number : IsNumber size.Four (to_be_bytes w32 n) n = record { wide = refl; number = from_be_bytes-to_be_bytes_4 n few } in
    let len : length inside + 4 ≡ length (to_be_bytes w32 n ++ inside) = omega (arith, length-append (to_be_bytes w32 n) inside) in
    record {
      inside = to_be_bytes w32 n ++ inside;
      sized = record {
        field = to_be_bytes w32 (length inside + 4);
        parts = append_assoc (to_be_bytes w32 (length inside + 4)) (to_be_bytes w32 n) inside;
        size = record { wide = refl; number = from_be_bytes-to_be_bytes_4 (length inside + 4) short ∙ len };
      };
      spelled = is (to_be_bytes w32 n) number;
    }

pub compound_narrow : (n : ℕ) (inside : List ℕ) (v : Data) (Inside : Spelling)
    → ((field : List ℕ) → IsNumber size.One field n → Inside (field ++ inside) v) → Fills size.One ((length inside + 1) ∷ n ∷ inside) v Inside
compound_narrow n inside v Inside is =
    let number : IsNumber size.One (n ∷ []) n = record { wide = refl; number = refl } in
    let len : length inside + 1 ≡ length (n ∷ inside) = omega arith in
    record {
      inside = n ∷ inside;
      sized = record { field = (length inside + 1) ∷ []; parts = refl; size = record { wide = refl; number = len } };
      spelled = is (n ∷ []) number;
    }

-- what is known of each value inside: it is encoded, and it is an element of an array of its type
abbrev PieceIn : (Code → Spelling) → Option Kind → Data → Type 0
PieceIn Body None v = Unit {0}
PieceIn Body (Some k) v = IsPiece Body k (piece v) v

record IsWritten (Body : Code → Spelling) (v : Data) : Type 0 where
  alone : Constructed Body (spelling v) v
  element : PieceIn Body (value_kind v) v

written_items : (Body : Code → Spelling) (One : Data → Type 0) → ((v : Data) → One v → IsWritten Body v) → (vs : Items) → AllItems One vs → AreItems (Constructed Body) (spellings vs) vs
unfolding spellings
written_items Body One is no_items fits = refl
written_items Body One is (item v vs) fits = (spelling v, spellings vs, refl, (is v fits.0).alone, written_items Body One is vs fits.1)

written_pairs : (Body : Code → Spelling) (One : Data → Type 0) → ((v : Data) → One v → IsWritten Body v) → (ps : Pairs) → AllPairs One ps → ArePairs (Constructed Body) (pair_spellings ps) ps
unfolding pair_spellings
written_pairs Body One is no_pairs fits = refl
written_pairs Body One is (pair k v ps) fits = (spelling k, spelling v, pair_spellings ps, refl, (is k fits.0).alone, (is v fits.1).alone, written_pairs Body One is ps fits.2)

element_is : (Body : Code → Spelling) (k : Kind) (v : Data) → IsWritten Body v → value_kind v ≡ Some k → IsPiece Body k (piece v) v
element_is Body k v h e = subst (λ o. PieceIn Body o v) e h.element

-- the elements after both constructors
wide_items : (Body : Code → Spelling) (k : Kind) (One : Data → Type 0) → ((v : Data) → One v → IsWritten Body v) → (vs : Items) → AllItems One vs → AreOf k vs → AreItems (Body (wide_at k)) (pieces vs).wide vs
unfolding pieces
wide_items Body k One is no_items fits of = refl
wide_items Body k One is (item v vs) fits of = ((piece v).wide, (pieces vs).wide, refl, (element_is Body k v (is v fits.0) of.0).wide, wide_items Body k One is vs fits.1 of.1)

both : (a b : Bool) → (a && b) ≡ true → (a ≡ true) × (b ≡ true)
both true b e = (refl, e)
both false b e = absurd cc

narrow_items : (Body : Code → Spelling) (k : Kind) (One : Data → Type 0) → ((v : Data) → One v → IsWritten Body v) → (vs : Items) → AllItems One vs → AreOf k vs → (pieces vs).fits ≡ true → AreItems (Body (narrow_at k)) (pieces vs).narrow vs
unfolding pieces
narrow_items Body k One is no_items fits of e = refl
narrow_items Body k One is (item v vs) fits of e =
    let t = both (piece v).fits (pieces vs).fits e in
    ((piece v).narrow, (pieces vs).narrow, refl, (element_is Body k v (is v fits.0) of.0).narrow t.0, narrow_items Body k One is vs fits.1 of.1 t.1)

list_inside : (Body : Code → Spelling) (s : Size) (vs : Items) → AreItems (Constructed Body) (spellings vs) vs → (field : List ℕ) → IsNumber s field (count vs) → IsListInside Body s (field ++ spellings vs) (d.list vs)
list_inside Body s vs spelled field number = record { field = field; bytes = spellings vs; parts = refl; values = vs; is = refl; counted = number; spelled = spelled }

map_inside : (Body : Code → Spelling) (s : Size) (ps : Pairs) → ArePairs (Constructed Body) (pair_spellings ps) ps → (field : List ℕ) → IsNumber s field (2 * pair_count ps) → IsMapInside Body s (field ++ pair_spellings ps) (d.map ps)
map_inside Body s ps spelled field number = record { field = field; bytes = pair_spellings ps; parts = refl; pairs = ps; is = refl; counted = number; spelled = spelled }

array_inside : (Body : Code → Spelling) (One : Data → Type 0) → ((v : Data) → One v → IsWritten Body v) → (s : Size) (k : Kind) (vs : Items) → AllItems One vs → AreOf k vs → (k ≡ kind.Null → count vs ≤ 1024)
    → (field : List ℕ) → IsNumber s field (count vs) → IsArrayInside Body s (field ++ constructed k (pieces vs)) (d.array k vs)
array_inside Body One is s k vs fits of few field number = by_test (pieces vs).fits refl
  where
    by_test : (b : Bool) → (pieces vs).fits ≡ b → IsArrayInside Body s (field ++ cond b (narrow_code k ∷ (pieces vs).narrow) (wide_code k ∷ (pieces vs).wide)) (d.array k vs)
    by_test true e = record {
      field = field;
      byte = narrow_code k;
      bytes = (pieces vs).narrow;
      parts = refl;
      values = vs;
      kind = k;
      is = refl;
      counted = number;
      constructor = narrow_at k;
      known = narrow_known k;
      typed = narrow_typed k;
      few = λ h. few (narrow_empty k h);
      spelled = narrow_items Body k One is vs fits of e;
    }
    by_test false e = record {
      field = field;
      byte = wide_code k;
      bytes = (pieces vs).wide;
      parts = refl;
      values = vs;
      kind = k;
      is = refl;
      counted = number;
      constructor = wide_at k;
      known = wide_known k;
      typed = wide_typed k;
      few = λ h. few (wide_empty k h);
      spelled = wide_items Body k One is vs fits of;
    }

small_fits : (z : ℤ) → is_small z ≡ true → FitsSigned w8 z
small_fits z e = let t = both (int_le (negsuc 127) z) (int_le z (pos 127)) e in grind (arith, ints, t.0, t.1)

-- ---- one level

chars_below : (n : ℕ) → n < 2 ^ 32 → from_be_bytes w32 (to_be_bytes w32 n) ≡ n
chars_below n lt = from_be_bytes-to_be_bytes_4 n lt

boolean_content : (b : Bool) → content_of leaf.Boolean (boolean_byte b ∷ []) ≡ Ok (d.boolean b)
boolean_content true = refl
boolean_content false = refl

-- a value as an element
piece_is : (Body : Code → Spelling) (One : Data → Type 0) → ((v : Data) → One v → IsWritten Body v) → (v : Data) → FitsBy One v → PieceIn (BodyBy Body) (value_kind v) v
unfolding piece
piece_is Body One is d.null h = single_is (BodyBy Body) kind.Null [] d.null (fixed leaf.Null [] d.null (refl, refl) refl)
piece_is Body One is (d.boolean b) h = single_is (BodyBy Body) kind.Boolean (boolean_byte b ∷ []) (d.boolean b) (fixed leaf.Boolean (boolean_byte b ∷ []) (d.boolean b) (refl, refl) (boolean_content b))
piece_is Body One is (d.ubyte n) h = single_is (BodyBy Body) kind.Ubyte (n ∷ []) (d.ubyte n) (fixed leaf.Ubyte (n ∷ []) (d.ubyte n) (refl, refl) refl)
piece_is Body One is (d.ushort n) h = single_is (BodyBy Body) kind.Ushort (to_be_bytes w16 n) (d.ushort n) (fixed leaf.Ushort (to_be_bytes w16 n) (d.ushort n) (refl, refl) (ap (λ m. done (d.ushort m)) (from_be_bytes-to_be_bytes_2 n h)))
piece_is Body One is (d.uint n) h = either_is (BodyBy Body) kind.Uint (nat_lt n 256) (n ∷ []) (to_be_bytes w32 n) (d.uint n)
    (fixed leaf.Uint (to_be_bytes w32 n) (d.uint n) (refl, refl) (ap (λ m. done (d.uint m)) (from_be_bytes-to_be_bytes_4 n h)))
    (λ e. fixed leaf.SmallUint (n ∷ []) (d.uint n) (refl, refl) refl)
piece_is Body One is (d.ulong n) h = either_is (BodyBy Body) kind.Ulong (nat_lt n 256) (n ∷ []) (to_be_bytes w64 n) (d.ulong n)
    (fixed leaf.Ulong (to_be_bytes w64 n) (d.ulong n) (refl, refl) (ap (λ m. done (d.ulong m)) (from_be_bytes-to_be_bytes_8 n h)))
    (λ e. fixed leaf.SmallUlong (n ∷ []) (d.ulong n) (refl, refl) refl)
piece_is Body One is (d.byte z) h = single_is (BodyBy Body) kind.Byte (cast_unsigned w8 z ∷ []) (d.byte z) (fixed leaf.Byte (cast_unsigned w8 z ∷ []) (d.byte z) (refl, refl) (ap (λ m. done (d.byte m)) (byte_signed z h)))
piece_is Body One is (d.short z) h = single_is (BodyBy Body) kind.Short (to_be_bytes w16 (cast_unsigned w16 z)) (d.short z) (fixed leaf.Short (to_be_bytes w16 (cast_unsigned w16 z)) (d.short z) (refl, refl) (ap (λ m. done (d.short m)) (short_again z h)))
piece_is Body One is (d.int z) h = either_is (BodyBy Body) kind.Int (is_small z) (cast_unsigned w8 z ∷ []) (to_be_bytes w32 (cast_unsigned w32 z)) (d.int z)
    (fixed leaf.Int (to_be_bytes w32 (cast_unsigned w32 z)) (d.int z) (refl, refl) (ap (λ m. done (d.int m)) (int_again z h)))
    (λ e. fixed leaf.SmallInt (cast_unsigned w8 z ∷ []) (d.int z) (refl, refl) (ap (λ m. done (d.int m)) (byte_signed z (small_fits z e))))
piece_is Body One is (d.long z) h = either_is (BodyBy Body) kind.Long (is_small z) (cast_unsigned w8 z ∷ []) (to_be_bytes w64 (cast_unsigned w64 z)) (d.long z)
    (fixed leaf.Long (to_be_bytes w64 (cast_unsigned w64 z)) (d.long z) (refl, refl) (ap (λ m. done (d.long m)) (long_again z h)))
    (λ e. fixed leaf.SmallLong (cast_unsigned w8 z ∷ []) (d.long z) (refl, refl) (ap (λ m. done (d.long m)) (byte_signed z (small_fits z e))))
piece_is Body One is (d.float bytes) h = single_is (BodyBy Body) kind.Float bytes (d.float bytes) (fixed leaf.Float bytes (d.float bytes) (refl, h) refl)
piece_is Body One is (d.double bytes) h = single_is (BodyBy Body) kind.Double bytes (d.double bytes) (fixed leaf.Double bytes (d.double bytes) (refl, h) refl)
piece_is Body One is (d.decimal32 bytes) h = single_is (BodyBy Body) kind.Decimal32 bytes (d.decimal32 bytes) (fixed leaf.Decimal32 bytes (d.decimal32 bytes) (refl, h) refl)
piece_is Body One is (d.decimal64 bytes) h = single_is (BodyBy Body) kind.Decimal64 bytes (d.decimal64 bytes) (fixed leaf.Decimal64 bytes (d.decimal64 bytes) (refl, h) refl)
piece_is Body One is (d.decimal128 bytes) h = single_is (BodyBy Body) kind.Decimal128 bytes (d.decimal128 bytes) (fixed leaf.Decimal128 bytes (d.decimal128 bytes) (refl, h) refl)
piece_is Body One is (d.char n) h = single_is (BodyBy Body) kind.Char (to_be_bytes w32 n) (d.char n) (fixed leaf.Char (to_be_bytes w32 n) (d.char n) (refl, refl) (ap char_of (chars_below n h.0) ∙ ap (λ b. cond b (done (d.char n)) (Err fault.BadChar)) h.1))
piece_is Body One is (d.timestamp z) h = single_is (BodyBy Body) kind.Timestamp (to_be_bytes w64 (cast_unsigned w64 z)) (d.timestamp z) (fixed leaf.Timestamp (to_be_bytes w64 (cast_unsigned w64 z)) (d.timestamp z) (refl, refl) (ap (λ m. done (d.timestamp m)) (long_again z h)))
piece_is Body One is (d.uuid bytes) h = single_is (BodyBy Body) kind.Uuid bytes (d.uuid bytes) (fixed leaf.Uuid bytes (d.uuid bytes) (refl, h) refl)
piece_is Body One is (d.binary bytes) h = either_is (BodyBy Body) kind.Binary (nat_lt (length bytes) 256) (length bytes ∷ bytes) (to_be_bytes w32 (length bytes) ++ bytes) (d.binary bytes)
    (record { chunk = bytes; laid = sized_wide bytes h; meant = refl }) (λ e. record { chunk = bytes; laid = sized_narrow bytes; meant = refl })
piece_is Body One is (d.string bytes) h =
    let meant : content_of (leaf.String size.One) bytes ≡ Ok (d.string bytes) = ap (λ b. cond b (done (d.string bytes)) (Err fault.BadUtf8)) h.1 in
    either_is (BodyBy Body) kind.String (nat_lt (length bytes) 256) (length bytes ∷ bytes) (to_be_bytes w32 (length bytes) ++ bytes) (d.string bytes)
    (record { chunk = bytes; laid = sized_wide bytes h.0; meant = meant }) (λ e. record { chunk = bytes; laid = sized_narrow bytes; meant = meant })
piece_is Body One is (d.symbol bytes) h =
    let meant : content_of (leaf.Symbol size.One) bytes ≡ Ok (d.symbol bytes) = ap (λ b. cond b (done (d.symbol bytes)) (Err fault.BadSymbol)) h.1 in
    either_is (BodyBy Body) kind.Symbol (nat_lt (length bytes) 256) (length bytes ∷ bytes) (to_be_bytes w32 (length bytes) ++ bytes) (d.symbol bytes)
    (record { chunk = bytes; laid = sized_wide bytes h.0; meant = meant }) (λ e. record { chunk = bytes; laid = sized_narrow bytes; meant = meant })
piece_is Body One is (d.list vs) h =
    let spelled = written_items Body One is vs h.2 in
    let n = count vs in
    let inside = spellings vs in
    either_is (BodyBy Body) kind.List (nat_lt (length inside) 255 && nat_lt n 256) ((length inside + 1) ∷ n ∷ inside) (wide_sizes n (length inside) ++ inside) (d.list vs)
    (compound_wide n inside (d.list vs) (IsListInside Body size.Four) h.0 h.1 (list_inside Body size.Four vs spelled))
    (λ e. compound_narrow n inside (d.list vs) (IsListInside Body size.One) (list_inside Body size.One vs spelled))
piece_is Body One is (d.map ps) h =
    let spelled = written_pairs Body One is ps h.2 in
    let n = 2 * pair_count ps in
    let inside = pair_spellings ps in
    either_is (BodyBy Body) kind.Map (nat_lt (length inside) 255 && nat_lt n 256) ((length inside + 1) ∷ n ∷ inside) (wide_sizes n (length inside) ++ inside) (d.map ps)
    (compound_wide n inside (d.map ps) (IsMapInside Body size.Four) h.0 h.1 (map_inside Body size.Four ps spelled))
    (λ e. compound_narrow n inside (d.map ps) (IsMapInside Body size.One) (map_inside Body size.One ps spelled))
piece_is Body One is (d.array k vs) h =
    let n = count vs in
    let inside = constructed k (pieces vs) in
    either_is (BodyBy Body) kind.Array (nat_lt (length inside) 255 && nat_lt n 256) ((length inside + 1) ∷ n ∷ inside) (wide_sizes n (length inside) ++ inside) (d.array k vs)
    (compound_wide n inside (d.array k vs) (IsArrayInside Body size.Four) h.0 h.1 (array_inside Body One is size.Four k vs h.2 h.3 h.4))
    (λ e. compound_narrow n inside (d.array k vs) (IsArrayInside Body size.One) (array_inside Body One is size.One k vs h.2 h.3 h.4))
piece_is Body One is (d.described a b) h = tt

-- ---- a value alone

byte_spelled : (Body : Code → Spelling) (byte : ℕ) (l : Leaf) (bytes : List ℕ) (v : Data) → code_of byte ≡ Some (code.Leaf l) → IsLeaf l bytes v → Constructed (BodyBy Body) (byte ∷ bytes) v
byte_spelled Body byte l bytes v known h = record { byte = byte; body = bytes; parts = refl; constructor = code.Leaf l; known = known; spelled = h }

single_spelled : (Body : Code → Spelling) (k : Kind) (bytes : List ℕ) (v : Data) → IsPiece (BodyBy Body) k (single bytes) v → Constructed (BodyBy Body) (wide_code k ∷ bytes) v
single_spelled Body k bytes v h = constructed_is (BodyBy Body) k (single bytes) v h

uint_spelled : (Body : Code → Spelling) (n : ℕ) → IsPiece (BodyBy Body) kind.Uint (number_piece w32 n) (d.uint n) → Constructed (BodyBy Body) (cond (n == 0) (0x43 ∷ []) (constructed kind.Uint (number_piece w32 n))) (d.uint n)
unfolding code_of
uint_spelled Body n h = by_test (n == 0) refl
  where
    zero_meant : (n == 0) ≡ true → done (d.uint 0) ≡ Ok (d.uint n)
    zero_meant e = ap (λ m. done (d.uint m)) (sym (eqb-true n 0 e))

    by_test : (b : Bool) → (n == 0) ≡ b → Constructed (BodyBy Body) (cond b (0x43 ∷ []) (constructed kind.Uint (number_piece w32 n))) (d.uint n)
    by_test true e = byte_spelled Body 0x43 leaf.ZeroUint [] (d.uint n) refl (fixed leaf.ZeroUint [] (d.uint n) (refl, refl) (zero_meant e))
    by_test false e = constructed_is (BodyBy Body) kind.Uint (number_piece w32 n) (d.uint n) h

ulong_spelled : (Body : Code → Spelling) (n : ℕ) → IsPiece (BodyBy Body) kind.Ulong (number_piece w64 n) (d.ulong n) → Constructed (BodyBy Body) (cond (n == 0) (0x44 ∷ []) (constructed kind.Ulong (number_piece w64 n))) (d.ulong n)
unfolding code_of
ulong_spelled Body n h = by_test (n == 0) refl
  where
    zero_meant : (n == 0) ≡ true → done (d.ulong 0) ≡ Ok (d.ulong n)
    zero_meant e = ap (λ m. done (d.ulong m)) (sym (eqb-true n 0 e))

    by_test : (b : Bool) → (n == 0) ≡ b → Constructed (BodyBy Body) (cond b (0x44 ∷ []) (constructed kind.Ulong (number_piece w64 n))) (d.ulong n)
    by_test true e = byte_spelled Body 0x44 leaf.ZeroUlong [] (d.ulong n) refl (fixed leaf.ZeroUlong [] (d.ulong n) (refl, refl) (zero_meant e))
    by_test false e = constructed_is (BodyBy Body) kind.Ulong (number_piece w64 n) (d.ulong n) h

boolean_spelled : (Body : Code → Spelling) (b : Bool) → Constructed (BodyBy Body) (cond b (0x41 ∷ []) (0x42 ∷ [])) (d.boolean b)
unfolding code_of
boolean_spelled Body true = byte_spelled Body 0x41 leaf.True [] (d.boolean true) refl (fixed leaf.True [] (d.boolean true) (refl, refl) refl)
boolean_spelled Body false = byte_spelled Body 0x42 leaf.False [] (d.boolean false) refl (fixed leaf.False [] (d.boolean false) (refl, refl) refl)

list_spelled : (Body : Code → Spelling) (vs : Items) → IsPiece (BodyBy Body) kind.List (compound_piece (count vs) (spellings vs)) (d.list vs) → Constructed (BodyBy Body) (list_text (count vs) (spellings vs)) (d.list vs)
unfolding code_of
list_spelled Body no_items h = record { byte = 0x45; body = []; parts = refl; constructor = code.EmptyList; known = refl; spelled = (refl, refl) }
list_spelled Body (item v vs) h =
    let inside = spellings (item v vs) in
    let p = compound_piece (suc (count vs)) inside in
    subst (λ b. Constructed (BodyBy Body) (cond b (0x45 ∷ []) (constructed kind.List p)) (d.list (item v vs))) (sym (eqb-suc-zero (count vs))) (constructed_is (BodyBy Body) kind.List p (d.list (item v vs)) h)

described_spelled : (Body : Code → Spelling) (a b : Data) → Constructed Body (spelling a) a → Constructed Body (spelling b) b → Constructed (BodyBy Body) (0x00 ∷ (spelling a ++ spelling b)) (d.described a b)
unfolding code_of
described_spelled Body a b h g = record {
  byte = 0x00;
  body = spelling a ++ spelling b;
  parts = refl;
  constructor = code.Described;
  known = refl;
  spelled = record { first = spelling a; second = spelling b; parts = refl; descriptor = a; value = b; is = refl; describes = h; spelled = g };
}

alone_is : (Body : Code → Spelling) (One : Data → Type 0) → ((v : Data) → One v → IsWritten Body v) → (v : Data) → FitsBy One v → PieceIn (BodyBy Body) (value_kind v) v → Constructed (BodyBy Body) (spelling v) v
unfolding spelling
alone_is Body One is d.null h p = single_spelled Body kind.Null [] d.null p
alone_is Body One is (d.boolean b) h p = boolean_spelled Body b
alone_is Body One is (d.uint n) h p = uint_spelled Body n p
alone_is Body One is (d.ulong n) h p = ulong_spelled Body n p
alone_is Body One is (d.int z) h p = constructed_is (BodyBy Body) kind.Int (signed_piece w32 z) (d.int z) p
alone_is Body One is (d.long z) h p = constructed_is (BodyBy Body) kind.Long (signed_piece w64 z) (d.long z) p
alone_is Body One is (d.binary bytes) h p = constructed_is (BodyBy Body) kind.Binary (sized_piece bytes) (d.binary bytes) p
alone_is Body One is (d.string bytes) h p = constructed_is (BodyBy Body) kind.String (sized_piece bytes) (d.string bytes) p
alone_is Body One is (d.symbol bytes) h p = constructed_is (BodyBy Body) kind.Symbol (sized_piece bytes) (d.symbol bytes) p
alone_is Body One is (d.list vs) h p = list_spelled Body vs p
alone_is Body One is (d.map ps) h p = constructed_is (BodyBy Body) kind.Map (compound_piece (2 * pair_count ps) (pair_spellings ps)) (d.map ps) p
alone_is Body One is (d.array k vs) h p = constructed_is (BodyBy Body) kind.Array (compound_piece (count vs) (constructed k (pieces vs))) (d.array k vs) p
alone_is Body One is (d.described a b) h p = described_spelled Body a b (is a h.0).alone (is b h.1).alone
alone_is Body One is (d.ubyte n) h p = single_spelled Body kind.Ubyte (n ∷ []) (d.ubyte n) p
alone_is Body One is (d.ushort n) h p = single_spelled Body kind.Ushort (to_be_bytes w16 n) (d.ushort n) p
alone_is Body One is (d.byte z) h p = single_spelled Body kind.Byte (cast_unsigned w8 z ∷ []) (d.byte z) p
alone_is Body One is (d.short z) h p = single_spelled Body kind.Short (to_be_bytes w16 (cast_unsigned w16 z)) (d.short z) p
alone_is Body One is (d.float bytes) h p = single_spelled Body kind.Float bytes (d.float bytes) p
alone_is Body One is (d.double bytes) h p = single_spelled Body kind.Double bytes (d.double bytes) p
alone_is Body One is (d.decimal32 bytes) h p = single_spelled Body kind.Decimal32 bytes (d.decimal32 bytes) p
alone_is Body One is (d.decimal64 bytes) h p = single_spelled Body kind.Decimal64 bytes (d.decimal64 bytes) p
alone_is Body One is (d.decimal128 bytes) h p = single_spelled Body kind.Decimal128 bytes (d.decimal128 bytes) p
alone_is Body One is (d.char n) h p = single_spelled Body kind.Char (to_be_bytes w32 n) (d.char n) p
alone_is Body One is (d.timestamp z) h p = single_spelled Body kind.Timestamp (to_be_bytes w64 (cast_unsigned w64 z)) (d.timestamp z) p
alone_is Body One is (d.uuid bytes) h p = single_spelled Body kind.Uuid bytes (d.uuid bytes) p

-- ---- all levels

written_is : (depth : ℕ) (v : Data) → FitsIn depth v → IsWritten (Behind depth) v
unfolding FitsIn Behind
written_is zero v h = absurd h
written_is (suc depth) v h =
    let p = piece_is (Behind depth) (FitsIn depth) (written_is depth) v h in
    record { alone = alone_is (Behind depth) (FitsIn depth) (written_is depth) v h p; element = p }

-- what is written encodes the value
pub Spells-spelling : (depth : ℕ) (v : Data) → FitsIn depth v → Spells depth (spelling v) v
Spells-spelling depth v h = (written_is depth v h).alone

-- what is written is read again, whatever follows
pub value_at-spelling : (depth : ℕ) (v : Data) (rest : List ℕ) → FitsIn depth v → value_at depth (spelling v ++ rest) ≡ Ok (v, rest)
value_at-spelling depth v rest h = value_at-Spells depth (spelling v) v rest (Spells-spelling depth v h)

-- the elements of an array as they are written: one constructor, and each element after it
pub record WrittenElements (depth : ℕ) (k : Kind) (vs : Items) : Type 0 where
  pub byte : ℕ
  pub bytes : List ℕ
  pub constructor : Code
  pub parts : constructed k (pieces vs) ≡ byte ∷ bytes
  pub known : code_of byte ≡ Some constructor
  pub typed : kind_of constructor ≡ Some k
  pub empty : is_without_bytes constructor ≡ true → k ≡ kind.Null
  pub spelled : AreItems (Behind depth constructor) bytes vs

pub elements_written : (depth : ℕ) (k : Kind) (vs : Items) → AllItems (FitsIn depth) vs → AreOf k vs → WrittenElements depth k vs
elements_written depth k vs fits of = by_test (pieces vs).fits refl
  where
    by_test : (b : Bool) → (pieces vs).fits ≡ b → WrittenElements depth k vs
    by_test true e = record {
      byte = narrow_code k;
      bytes = (pieces vs).narrow;
      constructor = narrow_at k;
      parts = ap (λ b. cond b (narrow_code k ∷ (pieces vs).narrow) (wide_code k ∷ (pieces vs).wide)) e;
      known = narrow_known k;
      typed = narrow_typed k;
      empty = narrow_empty k;
      spelled = narrow_items (Behind depth) k (FitsIn depth) (written_is depth) vs fits of e;
    }
    by_test false e = record {
      byte = wide_code k;
      bytes = (pieces vs).wide;
      constructor = wide_at k;
      parts = ap (λ b. cond b (narrow_code k ∷ (pieces vs).narrow) (wide_code k ∷ (pieces vs).wide)) e;
      known = wide_known k;
      typed = wide_typed k;
      empty = wide_empty k;
      spelled = wide_items (Behind depth) k (FitsIn depth) (written_is depth) vs fits of;
    }
