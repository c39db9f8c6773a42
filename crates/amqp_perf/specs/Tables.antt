-- A described list by its table: a line for each field, with its kind, and whether it must be there, may be absent or has a
-- default (AMQP 1.0 part 1, section 1.4). The fields hold by the table where each value is one that its line allows.
use Rattle.std.specs.Prelude.{◌≡◌, ◌⊎◌, ℕ, ◌≤◌, Bool, true, false, List, [], ◌∷◌, length, Option, Some, None, codes}
use Rattle.arrayvec.specs.ArrayVec.{ArrayVec}
use Rattle.amqp_model.specs.declared.code.Kind.TheVariants as kind
use Rattle.amqp_model.specs.Data as d
use Rattle.amqp_model.specs.Data.{Data, Items, no_items, item, Pairs}
use Rattle.amqp_types.specs.Spells.{Spells}
use Rattle.amqp_model.specs.ValueSpelling.{spelling}
use Rattle.amqp_model.specs.declared.descriptor.Descriptor.{Descriptor}
use Rattle.amqp_model.specs.declared.descriptor.Descriptor.TheVariants as is
use Rattle.amqp_model.specs.declared.perf.Role.{Role}
use Rattle.amqp_model.specs.declared.perf.Role.TheVariants as role
use Rattle.amqp_model.specs.declared.terminus.Address.{Address}
use Rattle.amqp_model.specs.declared.terminus.Address.TheVariants as address
use Rattle.amqp_model.specs.Descriptors.{code_of}
use Rattle.amqp_model.specs.Texts.{symbol_items}
use Rattle.amqp_perf.specs.Fitting.{is_address_value}

-- a kind: which values mean x
abbrev pub Kind : Type 0 → Type 1
Kind A = A → Data → Type 0

-- a line, for what its field holds: the values that may stand there. An absent field is null.
abbrev pub Field : Type 1
Field = Data → Type 0

abbrev pub mandatory : {A : Type 0} → Kind A → A → Field
mandatory of x = of x

abbrev pub optional : {A : Type 0} → Kind A → Option A → Field
optional of None = λ v. v ≡ d.null
optional of (Some x) = of x

abbrev pub defaulted : {A : Type 0} → Kind A → A → A → Field
defaulted of default x = λ v. of x v ⊎ ((v ≡ d.null) × (x ≡ default))

-- The fields hold: each item is one that its line allows, fields behind the last item are null, and there are no more
-- items than lines.
abbrev pub Holds : List Field → Items → Type 0
Holds [] no_items = Unit {0}
Holds [] (item v vs) = ⊥
Holds (f ∷ fs) no_items = f d.null × Holds fs no_items
Holds (f ∷ fs) (item v vs) = f v × Holds fs vs

-- the symbol of each list of the standard
abbrev pub symbol_of : Descriptor → List ℕ
symbol_of is.Open = codes "amqp:open:list"
symbol_of is.Begin = codes "amqp:begin:list"
symbol_of is.Attach = codes "amqp:attach:list"
symbol_of is.Flow = codes "amqp:flow:list"
symbol_of is.Transfer = codes "amqp:transfer:list"
symbol_of is.Disposition = codes "amqp:disposition:list"
symbol_of is.Detach = codes "amqp:detach:list"
symbol_of is.End = codes "amqp:end:list"
symbol_of is.Close = codes "amqp:close:list"
symbol_of is.Error = codes "amqp:error:list"
symbol_of is.Received = codes "amqp:received:list"
symbol_of is.Accepted = codes "amqp:accepted:list"
symbol_of is.Rejected = codes "amqp:rejected:list"
symbol_of is.Released = codes "amqp:released:list"
symbol_of is.Modified = codes "amqp:modified:list"
symbol_of is.Source = codes "amqp:source:list"
symbol_of is.Target = codes "amqp:target:list"
symbol_of is.SaslMechanisms = codes "amqp:sasl-mechanisms:list"
symbol_of is.SaslInit = codes "amqp:sasl-init:list"
symbol_of is.SaslChallenge = codes "amqp:sasl-challenge:list"
symbol_of is.SaslResponse = codes "amqp:sasl-response:list"
symbol_of is.SaslOutcome = codes "amqp:sasl-outcome:list"

-- a list's descriptor is its number or its symbol
abbrev pub Names : Descriptor → Data → Type 0
Names name v = (v ≡ d.ulong (code_of name)) ⊎ (v ≡ d.symbol (symbol_of name))

-- a list of these fields, described by its name
pub record IsList (name : Descriptor) (fields : List Field) (v : Data) : Type 0 where
  pub descriptor : Data
  pub items : Items
  pub is : v ≡ d.described descriptor (d.list items)
  pub named : Names name descriptor
  pub holds : Holds fields items

abbrev pub NoneNames : List Descriptor → Data → Type 0
NoneNames [] v = Unit {0}
NoneNames (name ∷ names) v = (Names name v → ⊥) × NoneNames names v

-- a described value that is carried as its canonical encoding, whose descriptor is of none of these lists
pub record IsCarried (known : List Descriptor) (bytes : List ℕ) (v : Data) : Type 0 where
  pub descriptor : Data
  pub value : Data
  pub is : v ≡ d.described descriptor value
  pub others : NoneNames known descriptor
  pub carried : bytes ≡ spelling v

-- ---- the kinds (part 1, section 1.6)

abbrev pub boolean : Kind Bool
boolean b v = v ≡ d.boolean b

abbrev pub ubyte : Kind ℕ
ubyte n v = v ≡ d.ubyte n

abbrev pub ushort : Kind ℕ
ushort n v = v ≡ d.ushort n

abbrev pub uint : Kind ℕ
uint n v = v ≡ d.uint n

abbrev pub ulong : Kind ℕ
ulong n v = v ≡ d.ulong n

abbrev pub string : Kind (List ℕ)
string s v = v ≡ d.string s

abbrev pub symbol : Kind (List ℕ)
symbol s v = v ≡ d.symbol s

abbrev pub binary : Kind (List ℕ)
binary bytes v = v ≡ d.binary bytes

-- any map, carried as its canonical encoding
abbrev pub map : Kind (List ℕ)
map bytes v = (pairs : Pairs) × (v ≡ d.map pairs) × (bytes ≡ spelling v)

-- several symbols: an array of them; one may stand alone (part 1, section 1.4)
abbrev pub symbols : Kind (List (List ℕ))
symbols ss v = (v ≡ d.array kind.Symbol (symbol_items ss)) ⊎ ((s : List ℕ) × (ss ≡ s ∷ []) × (v ≡ d.symbol s))

-- a field that may hold several, or none
abbrev pub multiple : List (List ℕ) → Field
multiple ss = defaulted symbols [] ss

-- at least one symbol
abbrev pub some_symbols : Kind (List (List ℕ))
some_symbols [] v = ⊥
some_symbols (s ∷ ss) v = symbols (s ∷ ss) v

-- a delivery's tag, of at most 32 bytes (part 2, section 2.8.7)
abbrev pub tag : Kind (ArrayVec ℕ)
tag t v = (v ≡ d.binary t.items) × (length t.items ≤ 32)

-- false is a sender (part 2, section 2.8.1)
abbrev pub role_kind : Kind Role
role_kind role.Sender v = v ≡ d.boolean false
role_kind role.Receiver v = v ≡ d.boolean true

-- the address of a terminus (part 3, section 3.5.3): a string; any other value is carried as its canonical encoding
abbrev pub node_address : Kind Address
node_address (address.Text s) v = v ≡ d.string s
node_address (address.Other bytes) v = (is_address_value v ≡ true) × (bytes ≡ spelling v)

-- the bytes encode a list of these fields, with at most this many levels of nesting
pub record SpellsList (depth : ℕ) (name : Descriptor) (fields : List Field) (bytes : List ℕ) : Type 0 where
  pub value : Data
  pub spelled : Spells depth bytes value
  pub list : IsList name fields value
