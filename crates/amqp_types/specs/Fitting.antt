-- Which values have an encoding: those within the ranges of their types, with sizes and counts below
-- 2 ^ 32, whose arrays have elements of their type.
use Rattle.std.specs.Prelude.{◌≡◌, ℕ, zero, suc, ◌+◌, ◌*◌, ◌^◌, ◌<◌, ◌≤◌, true, length, Option, Some, None, FitsSigned}
use Rattle.std.specs.Int.{w8, w16, w32, w64}
use Rattle.std.specs.Str.{is_utf8}
use Rattle.amqp_model.specs.declared.code.Kind.{Kind}
use Rattle.amqp_model.specs.declared.code.Kind.TheVariants as kind
use Rattle.amqp_model.specs.Data as d
use Rattle.amqp_model.specs.Data.{Data, Items, no_items, item, Pairs, no_pairs, pair}
use Rattle.amqp_types.specs.Reading.{is_scalar, all_ascii}
use Rattle.amqp_model.specs.Data.{count, pair_count}
use Rattle.amqp_model.specs.ValueSpelling.{spellings, pair_spellings, pieces, constructed}

-- the type of a value; a described value has none of its own
abbrev pub value_kind : Data → Option Kind
value_kind d.null = Some kind.Null
value_kind (d.boolean b) = Some kind.Boolean
value_kind (d.ubyte n) = Some kind.Ubyte
value_kind (d.ushort n) = Some kind.Ushort
value_kind (d.uint n) = Some kind.Uint
value_kind (d.ulong n) = Some kind.Ulong
value_kind (d.byte z) = Some kind.Byte
value_kind (d.short z) = Some kind.Short
value_kind (d.int z) = Some kind.Int
value_kind (d.long z) = Some kind.Long
value_kind (d.float bytes) = Some kind.Float
value_kind (d.double bytes) = Some kind.Double
value_kind (d.decimal32 bytes) = Some kind.Decimal32
value_kind (d.decimal64 bytes) = Some kind.Decimal64
value_kind (d.decimal128 bytes) = Some kind.Decimal128
value_kind (d.char n) = Some kind.Char
value_kind (d.timestamp z) = Some kind.Timestamp
value_kind (d.uuid bytes) = Some kind.Uuid
value_kind (d.binary bytes) = Some kind.Binary
value_kind (d.string bytes) = Some kind.String
value_kind (d.symbol bytes) = Some kind.Symbol
value_kind (d.list vs) = Some kind.List
value_kind (d.map ps) = Some kind.Map
value_kind (d.array k vs) = Some kind.Array
value_kind (d.described a b) = None

abbrev pub AllItems : (Data → Type 0) → Items → Type 0
AllItems One no_items = Unit {0}
AllItems One (item v vs) = One v × AllItems One vs

abbrev pub AllPairs : (Data → Type 0) → Pairs → Type 0
AllPairs One no_pairs = Unit {0}
AllPairs One (pair k v ps) = One k × One v × AllPairs One ps

-- the elements of an array are of its type
abbrev pub AreOf : Kind → Items → Type 0
AreOf k vs = AllItems (λ v. value_kind v ≡ Some k) vs

-- a value fits, where One holds of the values inside
abbrev pub FitsBy : (Data → Type 0) → Data → Type 0
FitsBy One d.null = Unit {0}
FitsBy One (d.boolean b) = Unit {0}
FitsBy One (d.ubyte n) = n < 2 ^ 8
FitsBy One (d.ushort n) = n < 2 ^ 16
FitsBy One (d.uint n) = n < 2 ^ 32
FitsBy One (d.ulong n) = n < 2 ^ 64
FitsBy One (d.byte z) = FitsSigned w8 z
FitsBy One (d.short z) = FitsSigned w16 z
FitsBy One (d.int z) = FitsSigned w32 z
FitsBy One (d.long z) = FitsSigned w64 z
FitsBy One (d.float bytes) = length bytes ≡ 4
FitsBy One (d.double bytes) = length bytes ≡ 8
FitsBy One (d.decimal32 bytes) = length bytes ≡ 4
FitsBy One (d.decimal64 bytes) = length bytes ≡ 8
FitsBy One (d.decimal128 bytes) = length bytes ≡ 16
FitsBy One (d.char n) = (n < 2 ^ 32) × (is_scalar n ≡ true)
FitsBy One (d.timestamp z) = FitsSigned w64 z
FitsBy One (d.uuid bytes) = length bytes ≡ 16
FitsBy One (d.binary bytes) = length bytes < 2 ^ 32
FitsBy One (d.string bytes) = (length bytes < 2 ^ 32) × (is_utf8 bytes ≡ true)
FitsBy One (d.symbol bytes) = (length bytes < 2 ^ 32) × (all_ascii bytes ≡ true)
FitsBy One (d.list vs) = (count vs < 2 ^ 32) × (length (spellings vs) + 4 < 2 ^ 32) × AllItems One vs
FitsBy One (d.map ps) = (2 * pair_count ps < 2 ^ 32) × (length (pair_spellings ps) + 4 < 2 ^ 32) × AllPairs One ps
FitsBy One (d.array k vs) = (count vs < 2 ^ 32) × (length (constructed k (pieces vs)) + 4 < 2 ^ 32) × AllItems One vs × AreOf k vs × (k ≡ kind.Null → count vs ≤ 1024)
FitsBy One (d.described a b) = One a × One b

-- a value fits, with at most this many levels of nesting: 32 for a whole value
unfoldable pub FitsIn : ℕ → Data → Type 0
FitsIn zero v = ⊥
FitsIn (suc depth) v = FitsBy (FitsIn depth) v

-- the elements of each array in a value are of its type
abbrev pub TypedBy : (Data → Type 0) → Data → Type 0
TypedBy One (d.list vs) = AllItems One vs
TypedBy One (d.map ps) = AllPairs One ps
TypedBy One (d.array k vs) = AllItems One vs × AreOf k vs
TypedBy One (d.described a b) = One a × One b
TypedBy One v = Unit {0}

unfoldable pub IsTyped : ℕ → Data → Type 0
IsTyped zero v = ⊥
IsTyped (suc depth) v = TypedBy (IsTyped depth) v
