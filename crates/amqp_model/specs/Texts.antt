-- The canonical encoding of a described list: its descriptor as a smallulong, then its fields without the nulls at its end
-- (AMQP 1.0 part 1, sections 1.4 and 1.6.22). A field's text is none where the field is null.
use Rattle.std.specs.Prelude.{ℕ, Bool, true, List, [], ◌∷◌, ◌++◌, length, Option, Some, None, ◌==◌, if◌then◌else◌}
use Rattle.amqp_model.specs.declared.code.Kind.TheVariants as kind
use Rattle.amqp_model.specs.Data as d
use Rattle.amqp_model.specs.Data.{Data, Items, no_items, item}
use Rattle.amqp_model.specs.ValueSpelling.{spelling, list_text}
use Rattle.amqp_model.specs.declared.descriptor.Descriptor.{Descriptor}
use Rattle.amqp_model.specs.Descriptors.{code_of}

abbrev pub FieldText : Type 0
FieldText = Option (List ℕ)

-- fields without the nulls at their end
abbrev pub given_by : FieldText → List FieldText → List FieldText
given_by None [] = []
given_by None (g ∷ gs) = None ∷ g ∷ gs
given_by (Some text) gs = Some text ∷ gs

unfoldable pub given : List FieldText → List FieldText
given [] = []
given (f ∷ fs) = given_by f (given fs)

abbrev pub field_bytes : FieldText → List ℕ
field_bytes None = 0x40 ∷ []
field_bytes (Some text) = text

-- fields, one after another
abbrev pub joined : List FieldText → List ℕ
joined [] = []
joined (f ∷ fs) = field_bytes f ++ joined fs

unfoldable pub described_text : Descriptor → List FieldText → List ℕ
described_text name fs = 0x00 ∷ 0x53 ∷ code_of name ∷ list_text (length (given fs)) (joined (given fs))

-- The kinds of fields
abbrev pub spelt : Data → FieldText
spelt v = Some (spelling v)

-- a field with a default: null where it has it
abbrev pub ubyte_unless : ℕ → ℕ → FieldText
ubyte_unless default n = if n == default then None else spelt (d.ubyte n)

abbrev pub uint_unless : ℕ → ℕ → FieldText
uint_unless default n = if n == default then None else spelt (d.uint n)

abbrev pub ushort_unless : ℕ → ℕ → FieldText
ushort_unless default n = if n == default then None else spelt (d.ushort n)

abbrev pub flag_text : Bool → FieldText
flag_text b = if b then spelt (d.boolean true) else None

-- symbols of a field that may hold several: always an array, null where there are none
abbrev pub symbol_items : List (List ℕ) → Items
symbol_items [] = no_items
symbol_items (s ∷ ss) = item (d.symbol s) (symbol_items ss)

abbrev pub symbols_text : List (List ℕ) → FieldText
symbols_text [] = None
symbols_text (s ∷ ss) = spelt (d.array kind.Symbol (symbol_items (s ∷ ss)))

-- a field that may hold nothing
abbrev pub mapped : {A : Type 0} → (A → Data) → Option A → FieldText
mapped kind_of None = None
mapped kind_of (Some x) = spelt (kind_of x)
