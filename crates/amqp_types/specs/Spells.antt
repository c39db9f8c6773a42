-- Which bytes encode which value: one case for each constructor (AMQP 1.0 part 1, sections 1.2 and 1.6).
use Rattle.std.specs.Prelude.{◌≡◌, ℕ, zero, suc, ◌*◌, ◌≤◌, true, List, [], ◌∷◌, ◌++◌, length, Some, Ok}
use Rattle.std.specs.Int.{byte_len, from_be_bytes}
use Rattle.amqp_model.specs.declared.code.Size.{Size}
use Rattle.amqp_model.specs.declared.code.Leaf.{Leaf}
use Rattle.amqp_model.specs.declared.code.Code.{Code}
use Rattle.amqp_model.specs.declared.code.Code.TheVariants as code
use Rattle.amqp_model.specs.declared.code.Layout.{Layout}
use Rattle.amqp_model.specs.declared.code.Layout.TheVariants as layout
use Rattle.amqp_model.specs.declared.code.Kind.{Kind}
use Rattle.amqp_model.specs.Codes.{code_of, width, layout_of, kind_of, is_without_bytes}
use Rattle.amqp_model.specs.Data as d
use Rattle.amqp_model.specs.Data.{Data, Items, no_items, item, Pairs, no_pairs, pair, count, pair_count}
use Rattle.amqp_types.specs.Reading.{content_of}

abbrev pub Spelling : Type 1
Spelling = List ℕ → Data → Type 0

-- a size or a count (section 1.6): a number of its width, the highest byte first
pub record IsNumber (s : Size) (field : List ℕ) (n : ℕ) : Type 0 where
  pub wide : length field ≡ byte_len (width s)
  pub number : from_be_bytes (width s) field ≡ n

-- bytes after a size that gives their number
pub record IsSized (s : Size) (bytes inside : List ℕ) : Type 0 where
  pub field : List ℕ
  pub parts : bytes ≡ field ++ inside
  pub size : IsNumber s field (length inside)

-- the bytes of a plain value, after its constructor
abbrev pub IsChunk : Layout → List ℕ → List ℕ → Type 0
IsChunk (layout.Fixed n) bytes chunk = (bytes ≡ chunk) × (length chunk ≡ n)
IsChunk (layout.Sized s) bytes chunk = IsSized s bytes chunk

pub record IsLeaf (l : Leaf) (bytes : List ℕ) (v : Data) : Type 0 where
  pub chunk : List ℕ
  pub laid : IsChunk (layout_of l) bytes chunk
  pub meant : content_of l chunk ≡ Ok v

-- a constructor, and what follows it
pub record Constructed (Body : Code → Spelling) (bytes : List ℕ) (v : Data) : Type 0 where
  pub byte : ℕ
  pub body : List ℕ
  pub parts : bytes ≡ byte ∷ body
  pub constructor : Code
  pub known : code_of byte ≡ Some constructor
  pub spelled : Body constructor body v

-- values one after another, and keys each with its value
abbrev pub AreItems : Spelling → List ℕ → Items → Type 0
AreItems One bytes no_items = bytes ≡ []
AreItems One bytes (item v vs) = (first : List ℕ) × (more : List ℕ) × (bytes ≡ first ++ more) × One first v × AreItems One more vs

abbrev pub ArePairs : Spelling → List ℕ → Pairs → Type 0
ArePairs One bytes no_pairs = bytes ≡ []
ArePairs One bytes (pair k v ps) = (first : List ℕ) × (second : List ℕ) × (more : List ℕ) × (bytes ≡ first ++ (second ++ more)) × One first k × One second v × ArePairs One more ps

-- the inside of a list (section 1.6.22): how many values, and the values
pub record IsListInside (Body : Code → Spelling) (s : Size) (inside : List ℕ) (v : Data) : Type 0 where
  pub field : List ℕ
  pub bytes : List ℕ
  pub parts : inside ≡ field ++ bytes
  pub values : Items
  pub is : d.list values ≡ v
  pub counted : IsNumber s field (count values)
  pub spelled : AreItems (Constructed Body) bytes values

-- the inside of a map (section 1.6.23): how many keys and values, and the keys with their values
pub record IsMapInside (Body : Code → Spelling) (s : Size) (inside : List ℕ) (v : Data) : Type 0 where
  pub field : List ℕ
  pub bytes : List ℕ
  pub parts : inside ≡ field ++ bytes
  pub pairs : Pairs
  pub is : d.map pairs ≡ v
  pub counted : IsNumber s field (2 * pair_count pairs)
  pub spelled : ArePairs (Constructed Body) bytes pairs

-- The inside of an array (section 1.6.24): how many elements, their one constructor, and the elements without it.
-- Described elements have no encoding here; at most 1,024 elements may have no bytes.
pub record IsArrayInside (Body : Code → Spelling) (s : Size) (inside : List ℕ) (v : Data) : Type 0 where
  pub field : List ℕ
  pub byte : ℕ
  pub bytes : List ℕ
  pub parts : inside ≡ field ++ byte ∷ bytes
  pub values : Items
  pub kind : Kind
  pub is : d.array kind values ≡ v
  pub counted : IsNumber s field (count values)
  pub constructor : Code
  pub known : code_of byte ≡ Some constructor
  pub typed : kind_of constructor ≡ Some kind
  pub few : is_without_bytes constructor ≡ true → count values ≤ 1024
  pub spelled : AreItems (Body constructor) bytes values

-- a descriptor, and what it describes (section 1.2)
pub record IsDescribed (Body : Code → Spelling) (bytes : List ℕ) (v : Data) : Type 0 where
  pub first : List ℕ
  pub second : List ℕ
  pub parts : bytes ≡ first ++ second
  pub descriptor : Data
  pub value : Data
  pub is : d.described descriptor value ≡ v
  pub describes : Constructed Body first descriptor
  pub spelled : Constructed Body second value

-- what fills its size exactly
pub record Fills (s : Size) (bytes : List ℕ) (v : Data) (Inside : Spelling) : Type 0 where
  pub inside : List ℕ
  pub sized : IsSized s bytes inside
  pub spelled : Inside inside v

-- what follows a constructor, where Body says it of the values inside
abbrev pub BodyBy : (Code → Spelling) → Code → Spelling
BodyBy Body (code.Leaf l) bytes v = IsLeaf l bytes v
BodyBy Body code.EmptyList bytes v = (bytes ≡ []) × (d.list no_items ≡ v)
BodyBy Body (code.List s) bytes v = Fills s bytes v (IsListInside Body s)
BodyBy Body (code.Map s) bytes v = Fills s bytes v (IsMapInside Body s)
BodyBy Body (code.Array s) bytes v = Fills s bytes v (IsArrayInside Body s)
BodyBy Body code.Described bytes v = IsDescribed Body bytes v

-- what follows a constructor, with at most this many levels of nesting
unfoldable pub Behind : ℕ → Code → Spelling
Behind zero c bytes v = ⊥
Behind (suc depth) c bytes v = BodyBy (Behind depth) c bytes v

-- the bytes encode the value, with at most this many levels of nesting: 32 for a whole value
abbrev pub Spells : ℕ → Spelling
Spells depth bytes v = Constructed (Behind depth) bytes v
