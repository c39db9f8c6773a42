-- What a `Value` stands for.
use Rattle.std.specs.Prelude.{List, [], ◌∷◌, map, string_bytes, Option, Some, None}
use Rattle.amqp_model.specs.Data as d
use Rattle.amqp_model.specs.Data.{Data, Items, no_items, item, Pairs, no_pairs, pair}
use Rattle.amqp_model.specs.declared.value.Value.{Value, fold-Value}
use Rattle.amqp_model.specs.declared.value.Value.TheOpen.{Value-F}
use Rattle.amqp_model.specs.declared.plain.Plain.{Plain}
use Rattle.amqp_model.specs.declared.plain.Plain.TheVariants as plain

abbrev pub items_of : List Data → Items
items_of [] = no_items
items_of (v ∷ vs) = item v (items_of vs)

abbrev pub pairs_of : List (Data × Data) → Pairs
pairs_of [] = no_pairs
pairs_of (p ∷ ps) = pair p.0 p.1 (pairs_of ps)

-- one level, with each value inside already seen
abbrev pub view_step : Value-F Data → Data
view_step Value-F.Null = d.null
view_step (Value-F.Boolean b) = d.boolean b
view_step (Value-F.Ubyte n) = d.ubyte n
view_step (Value-F.Ushort n) = d.ushort n
view_step (Value-F.Uint n) = d.uint n
view_step (Value-F.Ulong n) = d.ulong n
view_step (Value-F.Byte n) = d.byte n
view_step (Value-F.Short n) = d.short n
view_step (Value-F.Int n) = d.int n
view_step (Value-F.Long n) = d.long n
view_step (Value-F.Float bytes) = d.float bytes
view_step (Value-F.Double bytes) = d.double bytes
view_step (Value-F.Decimal32 bytes) = d.decimal32 bytes
view_step (Value-F.Decimal64 bytes) = d.decimal64 bytes
view_step (Value-F.Decimal128 bytes) = d.decimal128 bytes
view_step (Value-F.Char c) = d.char c
view_step (Value-F.Timestamp n) = d.timestamp n
view_step (Value-F.Uuid bytes) = d.uuid bytes
view_step (Value-F.Binary v) = d.binary v.items
view_step (Value-F.String s) = d.string (string_bytes s)
view_step (Value-F.Symbol s) = d.symbol (string_bytes s)
view_step (Value-F.List v) = d.list (items_of v.items)
view_step (Value-F.Map v) = d.map (pairs_of v.items)
view_step (Value-F.Array k v) = d.array k (items_of v.items)
view_step (Value-F.Described a b) = d.described a.value b.value

abbrev pub view : Value → Data
view = fold-Value Data view_step

abbrev pub items_view : List Value → Items
items_view vs = items_of (map view vs)

abbrev pub pairs_view : List (Value × Value) → Pairs
pairs_view ps = pairs_of (map (λ p. (view p.0, view p.1)) ps)

abbrev pub plain_view : Plain → Data
plain_view plain.Null = d.null
plain_view (plain.Boolean b) = d.boolean b
plain_view (plain.Ubyte n) = d.ubyte n
plain_view (plain.Ushort n) = d.ushort n
plain_view (plain.Uint n) = d.uint n
plain_view (plain.Ulong n) = d.ulong n
plain_view (plain.Byte n) = d.byte n
plain_view (plain.Short n) = d.short n
plain_view (plain.Int n) = d.int n
plain_view (plain.Long n) = d.long n
plain_view (plain.Float bytes) = d.float bytes
plain_view (plain.Double bytes) = d.double bytes
plain_view (plain.Decimal32 bytes) = d.decimal32 bytes
plain_view (plain.Decimal64 bytes) = d.decimal64 bytes
plain_view (plain.Decimal128 bytes) = d.decimal128 bytes
plain_view (plain.Char c) = d.char c
plain_view (plain.Timestamp n) = d.timestamp n
plain_view (plain.Uuid bytes) = d.uuid bytes
plain_view (plain.Binary bytes) = d.binary bytes.now
plain_view (plain.String text) = d.string text.now
plain_view (plain.Symbol text) = d.symbol text.now

-- a value that holds no others; none where it does
abbrev pub plain_part : Data → Option Data
plain_part (d.list vs) = None
plain_part (d.map ps) = None
plain_part (d.array k vs) = None
plain_part (d.described a b) = None
plain_part v = Some v
