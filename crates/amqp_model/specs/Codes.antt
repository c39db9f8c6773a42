-- Which byte is which constructor, and what follows it (AMQP 1.0 part 1, section 1.6).
use Rattle.std.specs.Prelude.{ℕ, Bool, true, false, List, length, ◌≡◌, Option, Some, None, ◌==◌, if◌then◌else◌}
use Rattle.std.specs.Int.{Width, w8, w32}
use Rattle.amqp_model.specs.declared.code.Size.{Size}
use Rattle.amqp_model.specs.declared.code.Size.TheVariants as size
use Rattle.amqp_model.specs.declared.code.Leaf.{Leaf}
use Rattle.amqp_model.specs.declared.code.Leaf.TheVariants as leaf
use Rattle.amqp_model.specs.declared.code.Code.{Code}
use Rattle.amqp_model.specs.declared.code.Code.TheVariants as code
use Rattle.amqp_model.specs.declared.code.Layout.{Layout}
use Rattle.amqp_model.specs.declared.code.Layout.TheVariants as layout
use Rattle.amqp_model.specs.declared.code.Kind.{Kind}
use Rattle.amqp_model.specs.declared.code.Kind.TheVariants as kind

-- the constructor that a byte is
unfoldable pub code_of : ℕ → Option Code
code_of byte =
    if byte == 0x00 then Some code.Described
    else if byte == 0x40 then Some (code.Leaf (leaf.Null))
    else if byte == 0x41 then Some (code.Leaf (leaf.True))
    else if byte == 0x42 then Some (code.Leaf (leaf.False))
    else if byte == 0x43 then Some (code.Leaf (leaf.ZeroUint))
    else if byte == 0x44 then Some (code.Leaf (leaf.ZeroUlong))
    else if byte == 0x45 then Some code.EmptyList
    else if byte == 0x50 then Some (code.Leaf (leaf.Ubyte))
    else if byte == 0x51 then Some (code.Leaf (leaf.Byte))
    else if byte == 0x52 then Some (code.Leaf (leaf.SmallUint))
    else if byte == 0x53 then Some (code.Leaf (leaf.SmallUlong))
    else if byte == 0x54 then Some (code.Leaf (leaf.SmallInt))
    else if byte == 0x55 then Some (code.Leaf (leaf.SmallLong))
    else if byte == 0x56 then Some (code.Leaf (leaf.Boolean))
    else if byte == 0x60 then Some (code.Leaf (leaf.Ushort))
    else if byte == 0x61 then Some (code.Leaf (leaf.Short))
    else if byte == 0x70 then Some (code.Leaf (leaf.Uint))
    else if byte == 0x71 then Some (code.Leaf (leaf.Int))
    else if byte == 0x72 then Some (code.Leaf (leaf.Float))
    else if byte == 0x73 then Some (code.Leaf (leaf.Char))
    else if byte == 0x74 then Some (code.Leaf (leaf.Decimal32))
    else if byte == 0x80 then Some (code.Leaf (leaf.Ulong))
    else if byte == 0x81 then Some (code.Leaf (leaf.Long))
    else if byte == 0x82 then Some (code.Leaf (leaf.Double))
    else if byte == 0x83 then Some (code.Leaf (leaf.Timestamp))
    else if byte == 0x84 then Some (code.Leaf (leaf.Decimal64))
    else if byte == 0x94 then Some (code.Leaf (leaf.Decimal128))
    else if byte == 0x98 then Some (code.Leaf (leaf.Uuid))
    else if byte == 0xa0 then Some (code.Leaf (leaf.Binary size.One))
    else if byte == 0xa1 then Some (code.Leaf (leaf.String size.One))
    else if byte == 0xa3 then Some (code.Leaf (leaf.Symbol size.One))
    else if byte == 0xb0 then Some (code.Leaf (leaf.Binary size.Four))
    else if byte == 0xb1 then Some (code.Leaf (leaf.String size.Four))
    else if byte == 0xb3 then Some (code.Leaf (leaf.Symbol size.Four))
    else if byte == 0xc0 then Some (code.List size.One)
    else if byte == 0xc1 then Some (code.Map size.One)
    else if byte == 0xd0 then Some (code.List size.Four)
    else if byte == 0xd1 then Some (code.Map size.Four)
    else if byte == 0xe0 then Some (code.Array size.One)
    else if byte == 0xf0 then Some (code.Array size.Four)
    else None

-- the width of a size and of a count
abbrev pub width : Size → Width
width size.One = w8
width size.Four = w32

-- how many bytes a plain value has after its constructor, or the size that gives their number
abbrev pub layout_of : Leaf → Layout
layout_of leaf.Null = layout.Fixed 0
layout_of leaf.True = layout.Fixed 0
layout_of leaf.False = layout.Fixed 0
layout_of leaf.Boolean = layout.Fixed 1
layout_of leaf.Ubyte = layout.Fixed 1
layout_of leaf.Ushort = layout.Fixed 2
layout_of leaf.Uint = layout.Fixed 4
layout_of leaf.SmallUint = layout.Fixed 1
layout_of leaf.ZeroUint = layout.Fixed 0
layout_of leaf.Ulong = layout.Fixed 8
layout_of leaf.SmallUlong = layout.Fixed 1
layout_of leaf.ZeroUlong = layout.Fixed 0
layout_of leaf.Byte = layout.Fixed 1
layout_of leaf.Short = layout.Fixed 2
layout_of leaf.Int = layout.Fixed 4
layout_of leaf.SmallInt = layout.Fixed 1
layout_of leaf.Long = layout.Fixed 8
layout_of leaf.SmallLong = layout.Fixed 1
layout_of leaf.Float = layout.Fixed 4
layout_of leaf.Double = layout.Fixed 8
layout_of leaf.Decimal32 = layout.Fixed 4
layout_of leaf.Decimal64 = layout.Fixed 8
layout_of leaf.Decimal128 = layout.Fixed 16
layout_of leaf.Char = layout.Fixed 4
layout_of leaf.Timestamp = layout.Fixed 8
layout_of leaf.Uuid = layout.Fixed 16
layout_of (leaf.Binary s) = layout.Sized s
layout_of (leaf.String s) = layout.Sized s
layout_of (leaf.Symbol s) = layout.Sized s

-- there are as many bytes as the layout wants
abbrev pub IsLaid : Layout → List ℕ → Type 0
IsLaid (layout.Fixed n) bytes = length bytes ≡ n
IsLaid (layout.Sized s) bytes = Unit {0}

-- the type of a plain value
abbrev pub leaf_kind : Leaf → Kind
leaf_kind leaf.Null = kind.Null
leaf_kind leaf.True = kind.Boolean
leaf_kind leaf.False = kind.Boolean
leaf_kind leaf.Boolean = kind.Boolean
leaf_kind leaf.Ubyte = kind.Ubyte
leaf_kind leaf.Ushort = kind.Ushort
leaf_kind leaf.Uint = kind.Uint
leaf_kind leaf.SmallUint = kind.Uint
leaf_kind leaf.ZeroUint = kind.Uint
leaf_kind leaf.Ulong = kind.Ulong
leaf_kind leaf.SmallUlong = kind.Ulong
leaf_kind leaf.ZeroUlong = kind.Ulong
leaf_kind leaf.Byte = kind.Byte
leaf_kind leaf.Short = kind.Short
leaf_kind leaf.Int = kind.Int
leaf_kind leaf.SmallInt = kind.Int
leaf_kind leaf.Long = kind.Long
leaf_kind leaf.SmallLong = kind.Long
leaf_kind leaf.Float = kind.Float
leaf_kind leaf.Double = kind.Double
leaf_kind leaf.Decimal32 = kind.Decimal32
leaf_kind leaf.Decimal64 = kind.Decimal64
leaf_kind leaf.Decimal128 = kind.Decimal128
leaf_kind leaf.Char = kind.Char
leaf_kind leaf.Timestamp = kind.Timestamp
leaf_kind leaf.Uuid = kind.Uuid
leaf_kind (leaf.Binary s) = kind.Binary
leaf_kind (leaf.String s) = kind.String
leaf_kind (leaf.Symbol s) = kind.Symbol

-- the type of a value; none for a described one
abbrev pub kind_of : Code → Option Kind
kind_of (code.Leaf l) = Some (leaf_kind l)
kind_of code.EmptyList = Some kind.List
kind_of (code.List s) = Some kind.List
kind_of (code.Map s) = Some kind.Map
kind_of (code.Array s) = Some kind.Array
kind_of code.Described = None

-- nothing follows the constructor
abbrev pub has_no_bytes : Layout → Bool
has_no_bytes (layout.Fixed n) = n == 0
has_no_bytes (layout.Sized s) = false

abbrev pub is_without_bytes : Code → Bool
is_without_bytes (code.Leaf l) = has_no_bytes (layout_of l)
is_without_bytes code.EmptyList = true
is_without_bytes (code.List s) = false
is_without_bytes (code.Map s) = false
is_without_bytes (code.Array s) = false
is_without_bytes code.Described = false

-- The shorter and the longer constructor of each type that has bytes after it; the same one where
-- there is only one. Null has only its own.
abbrev pub narrow_code : Kind → ℕ
narrow_code kind.Null = 0x40
narrow_code kind.Boolean = 0x56
narrow_code kind.Ubyte = 0x50
narrow_code kind.Ushort = 0x60
narrow_code kind.Uint = 0x52
narrow_code kind.Ulong = 0x53
narrow_code kind.Byte = 0x51
narrow_code kind.Short = 0x61
narrow_code kind.Int = 0x54
narrow_code kind.Long = 0x55
narrow_code kind.Float = 0x72
narrow_code kind.Double = 0x82
narrow_code kind.Decimal32 = 0x74
narrow_code kind.Decimal64 = 0x84
narrow_code kind.Decimal128 = 0x94
narrow_code kind.Char = 0x73
narrow_code kind.Timestamp = 0x83
narrow_code kind.Uuid = 0x98
narrow_code kind.Binary = 0xA0
narrow_code kind.String = 0xA1
narrow_code kind.Symbol = 0xA3
narrow_code kind.List = 0xC0
narrow_code kind.Map = 0xC1
narrow_code kind.Array = 0xE0

abbrev pub wide_code : Kind → ℕ
wide_code kind.Null = 0x40
wide_code kind.Boolean = 0x56
wide_code kind.Ubyte = 0x50
wide_code kind.Ushort = 0x60
wide_code kind.Uint = 0x70
wide_code kind.Ulong = 0x80
wide_code kind.Byte = 0x51
wide_code kind.Short = 0x61
wide_code kind.Int = 0x71
wide_code kind.Long = 0x81
wide_code kind.Float = 0x72
wide_code kind.Double = 0x82
wide_code kind.Decimal32 = 0x74
wide_code kind.Decimal64 = 0x84
wide_code kind.Decimal128 = 0x94
wide_code kind.Char = 0x73
wide_code kind.Timestamp = 0x83
wide_code kind.Uuid = 0x98
wide_code kind.Binary = 0xB0
wide_code kind.String = 0xB1
wide_code kind.Symbol = 0xB3
wide_code kind.List = 0xD0
wide_code kind.Map = 0xD1
wide_code kind.Array = 0xF0
