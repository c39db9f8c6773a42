-- Fields: values that stand one after the other in a list. A field that is absent at the end, or null, has none (AMQP 1.0
-- part 1, section 1.4). A reader answers what it read, and the place after it.
use Rattle.std.specs.Prelude.{ℕ, ◌-◌, Bool, false, List, [], ◌∷◌, length, Option, Some, None, Result, Ok, Err, nat_lt, ◌==◌, if◌then◌else◌, unwrap_or}
use Rattle.arrayvec.specs.ArrayVec.{ArrayVec}
use Rattle.amqp_model.specs.declared.type_fault.TypeFault.TheVariants as type_fault
use Rattle.amqp_model.specs.declared.code.Leaf.TheVariants as leaf
use Rattle.amqp_model.specs.declared.code.Code.{Code}
use Rattle.amqp_model.specs.declared.code.Code.TheVariants as code
use Rattle.amqp_model.specs.declared.code.Kind.TheVariants as kind
use Rattle.amqp_model.specs.Data as d
use Rattle.amqp_model.specs.Data.{Data, Items, no_items, item}
use Rattle.amqp_model.specs.View.{plain_part}
use Rattle.amqp_types.specs.Reading.{to, after, code_at, size_at, sized_at, value_at}
use Rattle.amqp_model.specs.ValueSpelling.{spelling}
use Rattle.amqp_model.specs.declared.perf_fault.PerfFault.{PerfFault}
use Rattle.amqp_model.specs.declared.perf_fault.PerfFault.TheVariants as fault
use Rattle.amqp_model.specs.declared.descriptor.Descriptor.{Descriptor}
use Rattle.amqp_perf.specs.declared.opening.Opening.{Opening}
use Rattle.amqp_perf.specs.declared.opening.Opening.TheVariants as opening
use Rattle.amqp_model.specs.declared.terminus.Address.{Address}
use Rattle.amqp_model.specs.declared.terminus.Address.TheVariants as address
use Rattle.amqp_model.specs.Descriptors.{named, symbol_named}
use Rattle.amqp_perf.specs.Faults.{inner, within, by_fault, ◌>>=◌}
use Rattle.amqp_model.specs.PerfFaults.{outer}

-- a place among the fields of a list: how many levels a field's value may have, how many items are left, and the bytes
-- from there on
pub record At : Type 0 where
  pub depth : ℕ
  pub left : ℕ
  pub bytes : List ℕ

abbrev pub Takes : Type 0 → Type 0
Takes A = At → Result (A × At) PerfFault

-- after the last item nothing is left of the list's bytes
unfoldable pub ended : At → Result (Unit {0}) PerfFault
ended at = if length at.bytes == 0 then Ok tt else Err (fault.Spelling type_fault.SizeMismatch)

abbrev pub absent : {A : Type 0} → At → Result (Option A × At) PerfFault
absent at = ended at >>= λ _. Ok (None, at)

-- the place after the item at the front
abbrev pub next : At → List ℕ → At
next at rest = record { depth = at.depth; left = at.left - 1; bytes = rest }

-- a value; none where it is null
abbrev pub unless_null : Data → Option Data
unless_null d.null = None
unless_null v = Some v

unfoldable pub value : Takes (Option Data)
value at =
    if at.left == 0 then absent at
    else (by_fault inner (value_at at.depth at.bytes) >>= λ x. Ok (unless_null x.0, next at x.1))

-- a value that holds no others
abbrev pub plain_only : At → Option Data × List ℕ → Result (Option Data × At) PerfFault
plain_only at (None, rest) = Err fault.WrongKind
plain_only at (Some v, rest) = Ok (unless_null v, next at rest)

unfoldable pub plain : Takes (Option Data)
plain at =
    if at.left == 0 then absent at
    else (by_fault inner (to plain_part (value_at at.depth at.bytes)) >>= plain_only at)

-- what a field holds, where it holds anything
abbrev pub judged : {A : Type 0} → (Data → Result A PerfFault) → Option Data × At → Result (Option A × At) PerfFault
judged is (None, at) = Ok (None, at)
judged is (Some v, at) = is v >>= λ x. Ok (Some x, at)

-- a field that must hold something
abbrev pub required : {A : Type 0} → Option A × At → Result (A × At) PerfFault
required (None, at) = Err fault.MissingField
required (Some x, at) = Ok (x, at)

-- a field with a default
abbrev pub or_else : {A : Type 0} → A → Option A × At → Result (A × At) PerfFault
or_else default x = Ok (unwrap_or x.0 default, x.1)

-- The kinds of fields, in the standard's names (AMQP 1.0 part 1, section 1.6)
abbrev pub is_boolean : Data → Result Bool PerfFault
is_boolean (d.boolean b) = Ok b
is_boolean _ = Err fault.WrongKind

abbrev pub is_ubyte : Data → Result ℕ PerfFault
is_ubyte (d.ubyte n) = Ok n
is_ubyte _ = Err fault.WrongKind

abbrev pub is_ushort : Data → Result ℕ PerfFault
is_ushort (d.ushort n) = Ok n
is_ushort _ = Err fault.WrongKind

abbrev pub is_uint : Data → Result ℕ PerfFault
is_uint (d.uint n) = Ok n
is_uint _ = Err fault.WrongKind

abbrev pub is_ulong : Data → Result ℕ PerfFault
is_ulong (d.ulong n) = Ok n
is_ulong _ = Err fault.WrongKind

abbrev pub is_text : Data → Result (List ℕ) PerfFault
is_text (d.string s) = Ok s
is_text _ = Err fault.WrongKind

abbrev pub is_symbol : Data → Result (List ℕ) PerfFault
is_symbol (d.symbol s) = Ok s
is_symbol _ = Err fault.WrongKind

abbrev pub is_binary : Data → Result (List ℕ) PerfFault
is_binary (d.binary s) = Ok s
is_binary _ = Err fault.WrongKind

-- a map is carried as its canonical encoding
abbrev pub is_map : Data → Result (List ℕ) PerfFault
is_map (d.map ps) = Ok (spelling (d.map ps))
is_map _ = Err fault.WrongKind

-- one symbol, or an array of them (AMQP 1.0 part 1, section 1.4, `multiple`)
abbrev pub are_symbols : Items → Result (List (List ℕ)) PerfFault
are_symbols no_items = Ok []
are_symbols (item v vs) = is_symbol v >>= λ s. are_symbols vs >>= λ others. Ok (s ∷ others)

abbrev pub is_symbols : Data → Result (List (List ℕ)) PerfFault
is_symbols (d.symbol s) = Ok (s ∷ [])
is_symbols (d.array kind.Symbol vs) = are_symbols vs
is_symbols _ = Err fault.WrongKind

unfoldable pub flag : Takes Bool
flag at = plain at >>= judged is_boolean >>= or_else false

unfoldable pub required_flag : Takes Bool
required_flag at = plain at >>= judged is_boolean >>= required

unfoldable pub ubyte : Takes (Option ℕ)
ubyte at = plain at >>= judged is_ubyte

unfoldable pub required_ubyte : Takes ℕ
required_ubyte at = plain at >>= judged is_ubyte >>= required

unfoldable pub ushort : Takes (Option ℕ)
ushort at = plain at >>= judged is_ushort

unfoldable pub uint : Takes (Option ℕ)
uint at = plain at >>= judged is_uint

unfoldable pub required_uint : Takes ℕ
required_uint at = plain at >>= judged is_uint >>= required

unfoldable pub ulong : Takes (Option ℕ)
ulong at = plain at >>= judged is_ulong

unfoldable pub required_ulong : Takes ℕ
required_ulong at = plain at >>= judged is_ulong >>= required

unfoldable pub text : Takes (Option (List ℕ))
text at = plain at >>= judged is_text

unfoldable pub required_text : Takes (List ℕ)
required_text at = plain at >>= judged is_text >>= required

unfoldable pub symbol : Takes (Option (List ℕ))
symbol at = plain at >>= judged is_symbol

unfoldable pub required_symbol : Takes (List ℕ)
required_symbol at = plain at >>= judged is_symbol >>= required

unfoldable pub binary : Takes (Option (List ℕ))
binary at = plain at >>= judged is_binary

unfoldable pub required_binary : Takes (List ℕ)
required_binary at = plain at >>= judged is_binary >>= required

-- at most 32 bytes (AMQP 1.0 part 2, section 2.8.7)
abbrev pub tag_of : List ℕ → Result (ArrayVec ℕ) PerfFault
tag_of bytes = if nat_lt 32 (length bytes) then Err fault.TagTooLong else Ok (record { items = bytes })

abbrev pub is_tag : Data → Result (ArrayVec ℕ) PerfFault
is_tag (d.binary bytes) = tag_of bytes
is_tag _ = Err fault.WrongKind

unfoldable pub tag : Takes (Option (ArrayVec ℕ))
tag at = plain at >>= judged is_tag

unfoldable pub map : Takes (Option (List ℕ))
map at = value at >>= judged is_map

unfoldable pub symbols : Takes (List (List ℕ))
symbols at = value at >>= judged is_symbols >>= or_else []

-- at least one
abbrev pub some_symbols : List (List ℕ) × At → Result (List (List ℕ) × At) PerfFault
some_symbols ([], at) = Err fault.MissingField
some_symbols (s ∷ ss, at) = Ok (s ∷ ss, at)

-- the address of a terminus: a string, or any other value, carried as its canonical encoding
abbrev pub address_of : Data → Address
address_of (d.string s) = address.Text s
address_of v = address.Other (spelling v)

unfoldable pub address_at : Takes (Option Address)
address_at at = value at >>= judged (λ v. Ok (address_of v))

unfoldable pub required_symbols : Takes (List (List ℕ))
required_symbols at = symbols at >>= some_symbols

-- which list a descriptor names; a value that holds others names none
abbrev pub name_of : Option Data → Option Descriptor
name_of (Some (d.ulong n)) = named n
name_of (Some (d.symbol s)) = symbol_named s
name_of _ = None

-- how a value begins: null, a descriptor, or another constructor
abbrev pub opened : ℕ → Code × List ℕ → Result (Opening × List ℕ) PerfFault
opened depth (code.Leaf leaf.Null, rest) = Ok (opening.Null, rest)
opened depth (code.Described, rest) =
    by_fault outer (to plain_part (value_at (depth - 1) rest)) >>= λ x. Ok (opening.Described (name_of x.0), x.1)
opened depth (_, rest) = Ok (opening.Other, rest)

unfoldable pub opening_at : ℕ → List ℕ → Result (Opening × List ℕ) PerfFault
opening_at depth bytes = by_fault outer (code_at bytes) >>= opened depth

-- a value that is no list, decoded whole first
abbrev pub no_list : ℕ → PerfFault → List ℕ → Result (At × List ℕ) PerfFault
no_list depth wrong bytes = by_fault outer (after (value_at depth bytes)) >>= λ _. Err wrong

-- the fields of a list, with a limit to their number
abbrev pub counted : ℕ → ℕ → List ℕ → ℕ × List ℕ → Result (At × List ℕ) PerfFault
counted depth limit behind n =
    if nat_lt limit n.0 then Err fault.TooManyFields
    else Ok (record { depth = depth - 1; left = n.0; bytes = n.1 }, behind)

abbrev pub listed_by : ℕ → ℕ → PerfFault → List ℕ → Code × List ℕ → Result (At × List ℕ) PerfFault
listed_by depth limit wrong bytes (code.EmptyList, rest) = Ok (record { depth = depth - 1; left = 0; bytes = [] }, rest)
listed_by depth limit wrong bytes (code.List s, rest) =
    by_fault outer (sized_at s rest) >>= λ x. by_fault inner (size_at s x.0) >>= counted depth limit x.1
listed_by depth limit wrong bytes (_, rest) = no_list depth wrong bytes

-- the list at the front: the place of its first field, and the bytes after it; what is wrong where no list stands there
unfoldable pub listed : ℕ → ℕ → PerfFault → List ℕ → Result (At × List ℕ) PerfFault
listed depth limit wrong bytes = by_fault outer (code_at bytes) >>= listed_by depth limit wrong bytes

-- a field that read reads, and the place after it; within a list, the end of the bytes is the list's end
abbrev pub in_place : {A : Type 0} → (ℕ → List ℕ → Result (Option A × List ℕ) PerfFault) → Takes (Option A)
in_place read at =
    if at.left == 0 then absent at
    else (within (read at.depth at.bytes) >>= λ x. Ok (x.0, next at x.1))

-- a value of the wrong kind, decoded whole first
abbrev pub refused : {A : Type 0} → ℕ → List ℕ → Result A PerfFault
refused depth bytes = by_fault outer (after (value_at depth bytes)) >>= λ _. Err fault.WrongKind

-- a value that is carried unread, as its canonical encoding
abbrev pub carried : ℕ → List ℕ → Result (List ℕ × List ℕ) PerfFault
carried depth bytes = by_fault outer (value_at depth bytes) >>= λ x. Ok (spelling x.0, x.1)
