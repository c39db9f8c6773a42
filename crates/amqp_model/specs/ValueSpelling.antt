-- The one encoding that is written for each value, the canonical one: the shortest code that fits (AMQP 1.0 part 1, section 1.6).
use Rattle.std.specs.Prelude.{ℕ, ℤ, pos, negsuc, int_le, ◌+◌, ◌*◌, Bool, true, false, List, [], ◌∷◌, ◌++◌, length, nat_lt, ◌&&◌, ◌==◌, if◌then◌else◌}
use Rattle.std.specs.Int.{Width, w8, w16, w32, w64, to_be_bytes, cast_unsigned}
use Rattle.amqp_model.specs.Codes.{narrow_code, wide_code}
use Rattle.amqp_model.specs.declared.code.Kind.{Kind}
use Rattle.amqp_model.specs.declared.code.Kind.TheVariants as kind
use Rattle.amqp_model.specs.Data as d
use Rattle.amqp_model.specs.Data.{Data, Items, no_items, item, Pairs, no_pairs, pair}
use Rattle.amqp_model.specs.Data.{count, pair_count}

-- The bytes of values of one type after their constructor: after the longer one always, and
-- after the shorter one where each of them fits it.
pub record Piece : Type 0 where
  pub fits : Bool
  pub narrow : List ℕ
  pub wide : List ℕ

-- no values, and values before others
abbrev pub no_piece : Piece
no_piece = record { fits = true; narrow = []; wide = [] }

abbrev pub join : Piece → Piece → Piece
join p q = record { fits = p.fits && q.fits; narrow = p.narrow ++ q.narrow; wide = p.wide ++ q.wide }

-- values after the shortest constructor that fits each of them
abbrev pub constructed : Kind → Piece → List ℕ
constructed k p = if p.fits then narrow_code k ∷ p.narrow else wide_code k ∷ p.wide

-- a value of a type with one constructor, and one that may fit the shorter of two
abbrev pub single : List ℕ → Piece
single bytes = record { fits = false; narrow = []; wide = bytes }

abbrev pub piece_by : Bool → List ℕ → List ℕ → Piece
piece_by fits narrow wide = record { fits = fits; narrow = (if fits then narrow else []); wide = wide }

-- a number: one byte, or as many as its type has
abbrev pub number_piece : Width → ℕ → Piece
number_piece w n = piece_by (nat_lt n 256) (n ∷ []) (to_be_bytes w n)

abbrev pub is_small : ℤ → Bool
is_small z = int_le (negsuc 127) z && int_le z (pos 127)

-- a signed number: one byte from -128 to 127, in the two's complement
abbrev pub signed_piece : Width → ℤ → Piece
signed_piece w z = piece_by (is_small z) (cast_unsigned w8 z ∷ []) (to_be_bytes w (cast_unsigned w z))

-- bytes after their length
abbrev pub sized_piece : List ℕ → Piece
sized_piece bytes = piece_by (nat_lt (length bytes) 256) (length bytes ∷ bytes) (to_be_bytes w32 (length bytes) ++ bytes)

-- what a list, a map or an array holds, after its size and its count
abbrev pub wide_sizes : ℕ → ℕ → List ℕ
wide_sizes n len = to_be_bytes w32 (len + 4) ++ to_be_bytes w32 n

abbrev pub compound_piece : ℕ → List ℕ → Piece
compound_piece n inside = piece_by (nat_lt (length inside) 255 && nat_lt n 256) ((length inside + 1) ∷ n ∷ inside) (wide_sizes n (length inside) ++ inside)

-- a list, by how many values it has and their encodings
abbrev pub list_text : ℕ → List ℕ → List ℕ
list_text n inside = if n == 0 then 0x45 ∷ [] else constructed kind.List (compound_piece n inside)

abbrev pub boolean_byte : Bool → ℕ
boolean_byte b = if b then 1 else 0

unfoldable mutual
  pub spelling : Data → List ℕ
  spelling d.null = 0x40 ∷ []
  spelling (d.boolean b) = if b then 0x41 ∷ [] else 0x42 ∷ []
  spelling (d.ubyte n) = 0x50 ∷ n ∷ []
  spelling (d.ushort n) = 0x60 ∷ to_be_bytes w16 n
  spelling (d.uint n) = if n == 0 then 0x43 ∷ [] else constructed kind.Uint (number_piece w32 n)
  spelling (d.ulong n) = if n == 0 then 0x44 ∷ [] else constructed kind.Ulong (number_piece w64 n)
  spelling (d.byte z) = 0x51 ∷ cast_unsigned w8 z ∷ []
  spelling (d.short z) = 0x61 ∷ to_be_bytes w16 (cast_unsigned w16 z)
  spelling (d.int z) = constructed kind.Int (signed_piece w32 z)
  spelling (d.long z) = constructed kind.Long (signed_piece w64 z)
  spelling (d.float bytes) = 0x72 ∷ bytes
  spelling (d.double bytes) = 0x82 ∷ bytes
  spelling (d.decimal32 bytes) = 0x74 ∷ bytes
  spelling (d.decimal64 bytes) = 0x84 ∷ bytes
  spelling (d.decimal128 bytes) = 0x94 ∷ bytes
  spelling (d.char n) = 0x73 ∷ to_be_bytes w32 n
  spelling (d.timestamp z) = 0x83 ∷ to_be_bytes w64 (cast_unsigned w64 z)
  spelling (d.uuid bytes) = 0x98 ∷ bytes
  spelling (d.binary bytes) = constructed kind.Binary (sized_piece bytes)
  spelling (d.string bytes) = constructed kind.String (sized_piece bytes)
  spelling (d.symbol bytes) = constructed kind.Symbol (sized_piece bytes)
  spelling (d.list vs) = list_text (count vs) (spellings vs)
  spelling (d.map ps) = constructed kind.Map (compound_piece (2 * pair_count ps) (pair_spellings ps))
  spelling (d.array k vs) = constructed kind.Array (compound_piece (count vs) (constructed k (pieces vs)))
  spelling (d.described a b) = 0x00 ∷ (spelling a ++ spelling b)

  -- values one after another
  pub spellings : Items → List ℕ
  spellings no_items = []
  spellings (item v vs) = spelling v ++ spellings vs

  pub pair_spellings : Pairs → List ℕ
  pair_spellings no_pairs = []
  pair_spellings (pair k v ps) = spelling k ++ (spelling v ++ pair_spellings ps)

  -- A value as an element of an array. A described value can't be one, and gives no bytes here.
  pub piece : Data → Piece
  piece d.null = single []
  piece (d.boolean b) = single (boolean_byte b ∷ [])
  piece (d.ubyte n) = single (n ∷ [])
  piece (d.ushort n) = single (to_be_bytes w16 n)
  piece (d.uint n) = number_piece w32 n
  piece (d.ulong n) = number_piece w64 n
  piece (d.byte z) = single (cast_unsigned w8 z ∷ [])
  piece (d.short z) = single (to_be_bytes w16 (cast_unsigned w16 z))
  piece (d.int z) = signed_piece w32 z
  piece (d.long z) = signed_piece w64 z
  piece (d.float bytes) = single bytes
  piece (d.double bytes) = single bytes
  piece (d.decimal32 bytes) = single bytes
  piece (d.decimal64 bytes) = single bytes
  piece (d.decimal128 bytes) = single bytes
  piece (d.char n) = single (to_be_bytes w32 n)
  piece (d.timestamp z) = single (to_be_bytes w64 (cast_unsigned w64 z))
  piece (d.uuid bytes) = single bytes
  piece (d.binary bytes) = sized_piece bytes
  piece (d.string bytes) = sized_piece bytes
  piece (d.symbol bytes) = sized_piece bytes
  piece (d.list vs) = compound_piece (count vs) (spellings vs)
  piece (d.map ps) = compound_piece (2 * pair_count ps) (pair_spellings ps)
  piece (d.array k vs) = compound_piece (count vs) (constructed k (pieces vs))
  piece (d.described a b) = single []

  pub pieces : Items → Piece
  pieces no_items = no_piece
  pieces (item v vs) = join (piece v) (pieces vs)
