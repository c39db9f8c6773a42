-- Reading a value from the front of bytes, and the first fault that is met (AMQP 1.0 part 1, section 1.2).
-- A reader answers what it read, and the bytes after it.
use Rattle.std.specs.Prelude.{◌≡◌, ℕ, zero, suc, ◌-◌, ◌/◌, ◌%◌, Bool, true, false, List, [], ◌∷◌, length, take, drop, Option, Some, None, Result, Ok, Err, nat_lt, nat_le, ◌&&◌, ◌||◌, ◌==◌, if◌then◌else◌}
use Rattle.std.specs.Int.{w8, w16, w32, w64, byte_len, from_be_bytes, cast_signed}
use Rattle.std.specs.Str.{is_utf8}
use Rattle.std.specs.List.{list_all}
use Rattle.amqp_model.specs.declared.type_fault.TypeFault.{TypeFault}
use Rattle.amqp_model.specs.declared.type_fault.TypeFault.TheVariants as fault
use Rattle.amqp_model.specs.declared.code.Size.{Size}
use Rattle.amqp_model.specs.declared.code.Leaf.{Leaf}
use Rattle.amqp_model.specs.declared.code.Leaf.TheVariants as leaf
use Rattle.amqp_model.specs.declared.code.Code.{Code}
use Rattle.amqp_model.specs.declared.code.Code.TheVariants as code
use Rattle.amqp_model.specs.declared.code.Layout.{Layout}
use Rattle.amqp_model.specs.declared.code.Layout.TheVariants as layout
use Rattle.amqp_model.specs.declared.code.Kind.{Kind}
use Rattle.amqp_model.specs.Codes.{code_of, width, layout_of, kind_of, is_without_bytes}
use Rattle.amqp_model.specs.TypeFaults.{inner}
use Rattle.amqp_model.specs.Data as d
use Rattle.amqp_model.specs.Data.{Data, Items, no_items, item, Pairs, no_pairs, pair}

infixl 10 ◌>>=◌
abbrev pub ◌>>=◌ : {A B : Type 0} → Result A TypeFault → (A → Result B TypeFault) → Result B TypeFault
(Ok x) >>= f = f x
(Err e) >>= f = Err e

abbrev pub Reads : Type 0 → Type 0
Reads A = List ℕ → Result (A × List ℕ) TypeFault

-- what was read, seen as another thing
abbrev pub to : {A B : Type 0} → (A → B) → Result (A × List ℕ) TypeFault → Result (B × List ℕ) TypeFault
to f read = read >>= λ x. Ok (f x.0, x.1)

-- what was read, made into another thing, which may be faulty
abbrev pub made : {A B : Type 0} → (A → Result B TypeFault) → Result (A × List ℕ) TypeFault → Result (B × List ℕ) TypeFault
made f read = read >>= λ x. f x.0 >>= λ y. Ok (y, x.1)

-- the bytes after what was read
abbrev pub after : {A : Type 0} → Result (A × List ℕ) TypeFault → Result (List ℕ) TypeFault
after read = read >>= λ x. Ok x.1

-- the bytes after a compound whose inside was read
abbrev pub behind : {A : Type 0} → Result A TypeFault → List ℕ → Result (List ℕ) TypeFault
behind read rest = read >>= λ x. Ok rest

-- what a function returned, seen by see, is what reading gives
abbrev pub Same : {X Y : Type 0} → (X → Y) → Result X TypeFault → Result Y TypeFault → Type 0
Same see (Ok x) read = read ≡ Ok (see x)
Same see (Err e) read = read ≡ Err e

-- the same, unless memory ran out
abbrev pub Gives : {X Y : Type 0} → (X → Y) → Result X TypeFault → Result Y TypeFault → Type 0
Gives see (Ok x) read = read ≡ Ok (see x)
Gives see (Err e) read = (e ≡ fault.Memory → ⊥) → read ≡ Err e

-- this many bytes
abbrev pub bytes_at : ℕ → Reads (List ℕ)
bytes_at n bytes = if nat_lt (length bytes) n then Err fault.Truncated else Ok (take n bytes, drop n bytes)

-- a size or a count
abbrev pub size_at : Size → Reads ℕ
size_at s bytes = to (from_be_bytes (width s)) (bytes_at (byte_len (width s)) bytes)

-- a size, and as many bytes
unfoldable pub sized_at : Size → Reads (List ℕ)
sized_at s bytes = do
  n ← size_at s bytes
  bytes_at n.0 n.1

-- a constructor
abbrev pub known : Option Code → List ℕ → Result (Code × List ℕ) TypeFault
known (Some c) rest = Ok (c, rest)
known None rest = Err fault.UnknownCode

abbrev pub code_at : Reads Code
code_at [] = Err fault.Truncated
code_at (b ∷ rest) = known (code_of b) rest

-- the bytes of a plain value
abbrev pub chunk_at : Layout → Reads (List ℕ)
chunk_at (layout.Fixed n) bytes = bytes_at n bytes
chunk_at (layout.Sized s) bytes = sized_at s bytes

-- values that only some bytes encode (section 1.6.2, 1.6.16, 1.6.20 and 1.6.21)
abbrev pub boolean_of : ℕ → Result Data TypeFault
boolean_of n = if n == 0 then Ok (d.boolean false) else if n == 1 then Ok (d.boolean true) else Err fault.BadBool

abbrev pub is_scalar : ℕ → Bool
is_scalar n = nat_lt n 0xD800 || (nat_le 0xE000 n && nat_le n 0x10_FFFF)

abbrev pub char_of : ℕ → Result Data TypeFault
char_of n = if is_scalar n then Ok (d.char n) else Err fault.BadChar

abbrev pub string_of : List ℕ → Result Data TypeFault
string_of bytes = if is_utf8 bytes then Ok (d.string bytes) else Err fault.BadUtf8

abbrev pub all_ascii : List ℕ → Bool
all_ascii bytes = list_all (λ b. nat_lt b 128) bytes

abbrev pub symbol_of : List ℕ → Result Data TypeFault
symbol_of bytes = if all_ascii bytes then Ok (d.symbol bytes) else Err fault.BadSymbol

-- what the bytes of a plain value mean
abbrev pub content_of : Leaf → List ℕ → Result Data TypeFault
content_of leaf.Null bytes = Ok d.null
content_of leaf.True bytes = Ok (d.boolean true)
content_of leaf.False bytes = Ok (d.boolean false)
content_of leaf.Boolean bytes = boolean_of (from_be_bytes w8 bytes)
content_of leaf.Ubyte bytes = Ok (d.ubyte (from_be_bytes w8 bytes))
content_of leaf.Ushort bytes = Ok (d.ushort (from_be_bytes w16 bytes))
content_of leaf.Uint bytes = Ok (d.uint (from_be_bytes w32 bytes))
content_of leaf.SmallUint bytes = Ok (d.uint (from_be_bytes w8 bytes))
content_of leaf.ZeroUint bytes = Ok (d.uint 0)
content_of leaf.Ulong bytes = Ok (d.ulong (from_be_bytes w64 bytes))
content_of leaf.SmallUlong bytes = Ok (d.ulong (from_be_bytes w8 bytes))
content_of leaf.ZeroUlong bytes = Ok (d.ulong 0)
content_of leaf.Byte bytes = Ok (d.byte (cast_signed w8 (from_be_bytes w8 bytes)))
content_of leaf.Short bytes = Ok (d.short (cast_signed w16 (from_be_bytes w16 bytes)))
content_of leaf.Int bytes = Ok (d.int (cast_signed w32 (from_be_bytes w32 bytes)))
content_of leaf.SmallInt bytes = Ok (d.int (cast_signed w8 (from_be_bytes w8 bytes)))
content_of leaf.Long bytes = Ok (d.long (cast_signed w64 (from_be_bytes w64 bytes)))
content_of leaf.SmallLong bytes = Ok (d.long (cast_signed w8 (from_be_bytes w8 bytes)))
content_of leaf.Float bytes = Ok (d.float bytes)
content_of leaf.Double bytes = Ok (d.double bytes)
content_of leaf.Decimal32 bytes = Ok (d.decimal32 bytes)
content_of leaf.Decimal64 bytes = Ok (d.decimal64 bytes)
content_of leaf.Decimal128 bytes = Ok (d.decimal128 bytes)
content_of leaf.Char bytes = char_of (from_be_bytes w32 bytes)
content_of leaf.Timestamp bytes = Ok (d.timestamp (cast_signed w64 (from_be_bytes w64 bytes)))
content_of leaf.Uuid bytes = Ok (d.uuid bytes)
content_of (leaf.Binary s) bytes = Ok (d.binary bytes)
content_of (leaf.String s) bytes = string_of bytes
content_of (leaf.Symbol s) bytes = symbol_of bytes

unfoldable pub leaf_at : Leaf → Reads Data
leaf_at l bytes = made (content_of l) (chunk_at (layout_of l) bytes)

-- All of the inside of a compound has to be read.
abbrev pub within : {A : Type 0} → Result A TypeFault → Result A TypeFault
within (Ok x) = Ok x
within (Err e) = Err (inner e)

abbrev pub ended : {A : Type 0} → A × List ℕ → Result A TypeFault
ended x = if length x.1 == 0 then Ok x.0 else Err fault.SizeMismatch

unfoldable pub whole : {A : Type 0} → Result (A × List ℕ) TypeFault → Result A TypeFault
whole read = within read >>= ended

-- a constructor, and what follows it
abbrev pub value_by : (Code → Reads Data) → Reads Data
value_by body bytes = code_at bytes >>= λ c. body c.0 c.1

-- a value after its own constructor, or after the one that an array's elements share
abbrev pub one_by : (Code → Reads Data) → Option Code → Reads Data
one_by body None bytes = value_by body bytes
one_by body (Some c) bytes = body c bytes

-- this many values, one after another
unfoldable pub items_at : Reads Data → ℕ → Reads Items
items_at one zero bytes = Ok (no_items, bytes)
items_at one (suc n) bytes = do
  first ← one bytes
  others ← items_at one n first.1
  Ok (item first.0 others.0, others.1)

-- a key with its value, and this many of them
unfoldable pub pair_at : Reads Data → Reads (Data × Data)
pair_at one bytes = do
  key ← one bytes
  value ← one key.1
  Ok ((key.0, value.0), value.1)

unfoldable pub pairs_at : Reads Data → ℕ → Reads Pairs
pairs_at one zero bytes = Ok (no_pairs, bytes)
pairs_at one (suc n) bytes = do
  first ← pair_at one bytes
  others ← pairs_at one n first.1
  Ok (pair first.0.0 first.0.1 others.0, others.1)

-- The inside of a list, a map and an array (section 1.6.22 to 1.6.24): a count, and as many values.
-- An array has one constructor before its elements.
unfoldable pub list_in : (Code → Reads Data) → Size → Reads Data
list_in body s inside = do
  n ← size_at s inside
  to d.list (items_at (one_by body None) n.0 n.1)

unfoldable pub map_in : (Code → Reads Data) → Size → Reads Data
map_in body s inside = do
  n ← size_at s inside
  if n.0 % 2 == 1 then Err fault.OddMap else to d.map (pairs_at (value_by body) (n.0 / 2) n.1)

-- The type of an array's elements. Described elements are refused, and so are more than 1,024
-- elements without bytes.
abbrev pub elements_of : Bool → Option Kind → Result Kind TypeFault
elements_of many None = Err fault.DescribedArray
elements_of true (Some k) = Err fault.SizeMismatch
elements_of false (Some k) = Ok k

abbrev pub element_kind : ℕ → Code → Result Kind TypeFault
element_kind count c = elements_of (is_without_bytes c && nat_lt 1024 count) (kind_of c)

unfoldable pub array_in : (Code → Reads Data) → Size → Reads Data
array_in body s inside = do
  n ← size_at s inside
  c ← code_at n.1
  k ← element_kind n.0 c.0
  to (d.array k) (items_at (one_by body (Some c.0)) n.0 c.1)

-- a descriptor, and the value that it describes (section 1.2)
unfoldable pub described_at : (Code → Reads Data) → Reads Data
described_at body bytes = do
  descriptor ← value_by body bytes
  value ← value_by body descriptor.1
  Ok (d.described descriptor.0 value.0, value.1)

-- what follows a constructor, where body reads a level further in
abbrev pub body_by : (Code → Reads Data) → Code → Reads Data
body_by body (code.Leaf l) bytes = leaf_at l bytes
body_by body code.EmptyList bytes = Ok (d.list no_items, bytes)
body_by body (code.List s) bytes = made (λ inside. whole (list_in body s inside)) (sized_at s bytes)
body_by body (code.Map s) bytes = made (λ inside. whole (map_in body s inside)) (sized_at s bytes)
body_by body (code.Array s) bytes = made (λ inside. whole (array_in body s inside)) (sized_at s bytes)
body_by body code.Described bytes = described_at body bytes

-- what follows a constructor, with at most this many levels
unfoldable pub body_at : ℕ → Code → Reads Data
body_at zero c bytes = Err fault.TooDeep
body_at (suc depth) c bytes = body_by (body_at depth) c bytes

-- the value at the front, with at most this many levels: 32 where no other is around it
unfoldable pub value_at : ℕ → Reads Data
value_at depth bytes = value_by (body_at depth) bytes

-- a value, and the bytes after it
abbrev pub found_before : Data → List ℕ → Result (Data × List ℕ) TypeFault
found_before v rest = Ok (v, rest)

-- a value, and how many bytes encode it
abbrev pub found_at : Data → ℕ → Result (Data × ℕ) TypeFault
found_at v n = Ok (v, n)

-- what was read at the front of bytes, and how many of them encode it
abbrev pub measured : {A : Type 0} → List ℕ → Result (A × List ℕ) TypeFault → Result (A × ℕ) TypeFault
measured bytes read = read >>= λ x. Ok (x.0, length bytes - length x.1)

abbrev pub length_of : {A : Type 0} → List ℕ → Result (A × List ℕ) TypeFault → Result ℕ TypeFault
length_of bytes read = after read >>= λ rest. Ok (length bytes - length rest)
