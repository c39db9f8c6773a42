-- An encoded value has arrays whose elements are of their type.
use Rattle.std.proofs.Common.{◌≡◌, ℕ, zero, suc, Bool, true, false, cond, ◌==◌, List, Some, Ok, Err, refl, sym, ap, subst, ◌∙◌}
use Rattle.std.specs.Int.{w8, w16, w32, w64, from_be_bytes, cast_signed}
use Rattle.std.specs.Str.{is_utf8}
use Rattle.amqp_model.specs.declared.type_fault.TypeFault.TheVariants as fault
use Rattle.amqp_model.specs.declared.code.Leaf.{Leaf}
use Rattle.amqp_model.specs.declared.code.Leaf.TheVariants as leaf
use Rattle.amqp_model.specs.declared.code.Code.{Code}
use Rattle.amqp_model.specs.declared.code.Code.TheVariants as code
use Rattle.amqp_model.specs.declared.code.Kind.{Kind}
use Rattle.amqp_model.specs.declared.code.Kind.TheVariants as kind
use Rattle.amqp_model.specs.Codes.{leaf_kind, kind_of}
use Rattle.amqp_model.specs.Data as d
use Rattle.amqp_model.specs.Data.{Data, Items, no_items, item, Pairs, no_pairs, pair}
use Rattle.amqp_types.specs.Reading.{is_scalar, all_ascii, boolean_of, content_of}
use Rattle.amqp_types.specs.Spells.{Spelling, Constructed, AreItems, ArePairs, BodyBy, Behind, Spells}
use Rattle.amqp_types.specs.Fitting.{value_kind, AllItems, AllPairs, TypedBy, IsTyped}
use Rattle.amqp_types.proofs.Tools.{done, ok_is, choice_ok}

boolean_meant : (n : ℕ) (v : Data) → boolean_of n ≡ Ok v → value_kind v ≡ Some kind.Boolean
boolean_meant n v e = by_test (n == 0) (n == 1) e
  where
    by_test : (a b : Bool) → cond a (done (d.boolean false)) (cond b (done (d.boolean true)) (Err fault.BadBool)) ≡ Ok v → value_kind v ≡ Some kind.Boolean
    by_test true b e = sym (ap value_kind (ok_is (d.boolean false) v e))
    by_test false true e = sym (ap value_kind (ok_is (d.boolean true) v e))
    by_test false false e = absurd cc

-- a plain value is of its constructor's type
pub leaf_meant : (l : Leaf) (bytes : List ℕ) (v : Data) → content_of l bytes ≡ Ok v → value_kind v ≡ Some (leaf_kind l)
leaf_meant leaf.Null bytes v e = sym (ap value_kind (ok_is d.null v e))
leaf_meant leaf.True bytes v e = sym (ap value_kind (ok_is (d.boolean true) v e))
leaf_meant leaf.False bytes v e = sym (ap value_kind (ok_is (d.boolean false) v e))
leaf_meant leaf.Boolean bytes v e = boolean_meant (from_be_bytes w8 bytes) v e
leaf_meant leaf.Ubyte bytes v e = sym (ap value_kind (ok_is (d.ubyte (from_be_bytes w8 bytes)) v e))
leaf_meant leaf.Ushort bytes v e = sym (ap value_kind (ok_is (d.ushort (from_be_bytes w16 bytes)) v e))
leaf_meant leaf.Uint bytes v e = sym (ap value_kind (ok_is (d.uint (from_be_bytes w32 bytes)) v e))
leaf_meant leaf.SmallUint bytes v e = sym (ap value_kind (ok_is (d.uint (from_be_bytes w8 bytes)) v e))
leaf_meant leaf.ZeroUint bytes v e = sym (ap value_kind (ok_is (d.uint 0) v e))
leaf_meant leaf.Ulong bytes v e = sym (ap value_kind (ok_is (d.ulong (from_be_bytes w64 bytes)) v e))
leaf_meant leaf.SmallUlong bytes v e = sym (ap value_kind (ok_is (d.ulong (from_be_bytes w8 bytes)) v e))
leaf_meant leaf.ZeroUlong bytes v e = sym (ap value_kind (ok_is (d.ulong 0) v e))
leaf_meant leaf.Byte bytes v e = sym (ap value_kind (ok_is (d.byte (cast_signed w8 (from_be_bytes w8 bytes))) v e))
leaf_meant leaf.Short bytes v e = sym (ap value_kind (ok_is (d.short (cast_signed w16 (from_be_bytes w16 bytes))) v e))
leaf_meant leaf.Int bytes v e = sym (ap value_kind (ok_is (d.int (cast_signed w32 (from_be_bytes w32 bytes))) v e))
leaf_meant leaf.SmallInt bytes v e = sym (ap value_kind (ok_is (d.int (cast_signed w8 (from_be_bytes w8 bytes))) v e))
leaf_meant leaf.Long bytes v e = sym (ap value_kind (ok_is (d.long (cast_signed w64 (from_be_bytes w64 bytes))) v e))
leaf_meant leaf.SmallLong bytes v e = sym (ap value_kind (ok_is (d.long (cast_signed w8 (from_be_bytes w8 bytes))) v e))
leaf_meant leaf.Float bytes v e = sym (ap value_kind (ok_is (d.float bytes) v e))
leaf_meant leaf.Double bytes v e = sym (ap value_kind (ok_is (d.double bytes) v e))
leaf_meant leaf.Decimal32 bytes v e = sym (ap value_kind (ok_is (d.decimal32 bytes) v e))
leaf_meant leaf.Decimal64 bytes v e = sym (ap value_kind (ok_is (d.decimal64 bytes) v e))
leaf_meant leaf.Decimal128 bytes v e = sym (ap value_kind (ok_is (d.decimal128 bytes) v e))
leaf_meant leaf.Char bytes v e = let n = from_be_bytes w32 bytes in sym (ap value_kind (choice_ok (is_scalar n) (d.char n) fault.BadChar v e).1)
leaf_meant leaf.Timestamp bytes v e = sym (ap value_kind (ok_is (d.timestamp (cast_signed w64 (from_be_bytes w64 bytes))) v e))
leaf_meant leaf.Uuid bytes v e = sym (ap value_kind (ok_is (d.uuid bytes) v e))
leaf_meant (leaf.Binary s) bytes v e = sym (ap value_kind (ok_is (d.binary bytes) v e))
leaf_meant (leaf.String s) bytes v e = sym (ap value_kind (choice_ok (is_utf8 bytes) (d.string bytes) fault.BadUtf8 v e).1)
leaf_meant (leaf.Symbol s) bytes v e = sym (ap value_kind (choice_ok (all_ascii bytes) (d.symbol bytes) fault.BadSymbol v e).1)

-- and so is any value
kind_meant : (Body : Code → Spelling) (c : Code) (k : Kind) (bytes : List ℕ) (v : Data) → kind_of c ≡ Some k → BodyBy Body c bytes v → value_kind v ≡ Some k
kind_meant Body (code.Leaf l) k bytes v e h = leaf_meant l h.chunk v h.meant ∙ e
kind_meant Body code.EmptyList k bytes v e h = sym (ap value_kind h.1) ∙ e
kind_meant Body (code.List s) k bytes v e h = sym (ap value_kind h.spelled.is) ∙ e
kind_meant Body (code.Map s) k bytes v e h = sym (ap value_kind h.spelled.is) ∙ e
kind_meant Body (code.Array s) k bytes v e h = sym (ap value_kind h.spelled.is) ∙ e
kind_meant Body code.Described k bytes v e h = absurd cc

behind_kind : (depth : ℕ) (c : Code) (k : Kind) (bytes : List ℕ) (v : Data) → kind_of c ≡ Some k → Behind depth c bytes v → value_kind v ≡ Some k
unfolding Behind
behind_kind zero c k bytes v e h = absurd h
behind_kind (suc depth) c k bytes v e h = kind_meant (Behind depth) c k bytes v e h

all_items : (One : Spelling) (P : Data → Type 0) → ((bytes : List ℕ) (v : Data) → One bytes v → P v) → (bytes : List ℕ) (vs : Items) → AreItems One bytes vs → AllItems P vs
all_items One P holds bytes no_items h = tt
all_items One P holds bytes (item v vs) h = (holds h.0 v h.3, all_items One P holds h.1 vs h.4)

all_pairs : (One : Spelling) (P : Data → Type 0) → ((bytes : List ℕ) (v : Data) → One bytes v → P v) → (bytes : List ℕ) (ps : Pairs) → ArePairs One bytes ps → AllPairs P ps
all_pairs One P holds bytes no_pairs h = tt
all_pairs One P holds bytes (pair k v ps) h = (holds h.0 k h.4, holds h.1 v h.5, all_pairs One P holds h.2 ps h.6)

-- the types of values that hold no others
abbrev is_plain : Kind → Bool
is_plain kind.List = false
is_plain kind.Map = false
is_plain kind.Array = false
is_plain k = true

leaf_plain : (l : Leaf) → is_plain (leaf_kind l) ≡ true
leaf_plain leaf.Null = refl
leaf_plain leaf.True = refl
leaf_plain leaf.False = refl
leaf_plain leaf.Boolean = refl
leaf_plain leaf.Ubyte = refl
leaf_plain leaf.Ushort = refl
leaf_plain leaf.Uint = refl
leaf_plain leaf.SmallUint = refl
leaf_plain leaf.ZeroUint = refl
leaf_plain leaf.Ulong = refl
leaf_plain leaf.SmallUlong = refl
leaf_plain leaf.ZeroUlong = refl
leaf_plain leaf.Byte = refl
leaf_plain leaf.Short = refl
leaf_plain leaf.Int = refl
leaf_plain leaf.SmallInt = refl
leaf_plain leaf.Long = refl
leaf_plain leaf.SmallLong = refl
leaf_plain leaf.Float = refl
leaf_plain leaf.Double = refl
leaf_plain leaf.Decimal32 = refl
leaf_plain leaf.Decimal64 = refl
leaf_plain leaf.Decimal128 = refl
leaf_plain leaf.Char = refl
leaf_plain leaf.Timestamp = refl
leaf_plain leaf.Uuid = refl
leaf_plain (leaf.Binary s) = refl
leaf_plain (leaf.String s) = refl
leaf_plain (leaf.Symbol s) = refl

some_is : (k l : Kind) → Some k ≡ Some l → k ≡ l
some_is k l e = cc

not_leaf : (k : Kind) (l : Leaf) → is_plain k ≡ false → Some k ≡ Some (leaf_kind l) → ⊥
not_leaf k l compound e = let f : is_plain (leaf_kind l) ≡ false = subst (λ x. is_plain x ≡ false) (some_is k (leaf_kind l) e) compound in let t = leaf_plain l in absurd cc

leaf_typed : (P : Data → Type 0) (l : Leaf) (v : Data) → value_kind v ≡ Some (leaf_kind l) → TypedBy P v
leaf_typed P l (d.list vs) e = absurd (not_leaf kind.List l refl e)
leaf_typed P l (d.map ps) e = absurd (not_leaf kind.Map l refl e)
leaf_typed P l (d.array k vs) e = absurd (not_leaf kind.Array l refl e)
leaf_typed P l (d.described a b) e = absurd cc
leaf_typed P l d.null e = tt
leaf_typed P l (d.boolean b) e = tt
leaf_typed P l (d.ubyte n) e = tt
leaf_typed P l (d.ushort n) e = tt
leaf_typed P l (d.uint n) e = tt
leaf_typed P l (d.ulong n) e = tt
leaf_typed P l (d.byte n) e = tt
leaf_typed P l (d.short n) e = tt
leaf_typed P l (d.int n) e = tt
leaf_typed P l (d.long n) e = tt
leaf_typed P l (d.float x) e = tt
leaf_typed P l (d.double x) e = tt
leaf_typed P l (d.decimal32 x) e = tt
leaf_typed P l (d.decimal64 x) e = tt
leaf_typed P l (d.decimal128 x) e = tt
leaf_typed P l (d.char n) e = tt
leaf_typed P l (d.timestamp n) e = tt
leaf_typed P l (d.uuid x) e = tt
leaf_typed P l (d.binary x) e = tt
leaf_typed P l (d.string x) e = tt
leaf_typed P l (d.symbol x) e = tt

-- one level
body_typed : (depth : ℕ) (P : Data → Type 0) → ((c : Code) (bytes : List ℕ) (v : Data) → Behind depth c bytes v → P v) → (c : Code) (bytes : List ℕ) (v : Data) → BodyBy (Behind depth) c bytes v → TypedBy P v
body_typed depth P holds (code.Leaf l) bytes v h = leaf_typed P l v (leaf_meant l h.chunk v h.meant)
body_typed depth P holds code.EmptyList bytes v h = subst (λ w. TypedBy P w) h.1 tt
body_typed depth P holds (code.List s) bytes v h = subst (λ w. TypedBy P w) h.spelled.is (all_items (Constructed (Behind depth)) P (λ bytes v c. holds c.constructor c.body v c.spelled) h.spelled.bytes h.spelled.values h.spelled.spelled)
body_typed depth P holds (code.Map s) bytes v h = subst (λ w. TypedBy P w) h.spelled.is (all_pairs (Constructed (Behind depth)) P (λ bytes v c. holds c.constructor c.body v c.spelled) h.spelled.bytes h.spelled.pairs h.spelled.spelled)
body_typed depth P holds (code.Array s) bytes v h =
    let c = h.spelled.constructor in
    let typed = all_items (Behind depth c) P (λ bytes v b. holds c bytes v b) h.spelled.bytes h.spelled.values h.spelled.spelled in
    let of = all_items (Behind depth c) (λ v. value_kind v ≡ Some h.spelled.kind) (λ bytes v b. behind_kind depth c h.spelled.kind bytes v h.spelled.typed b) h.spelled.bytes h.spelled.values h.spelled.spelled in
    subst (λ w. TypedBy P w) h.spelled.is (typed, of)
body_typed depth P holds code.Described bytes v h =
    subst (λ w. TypedBy P w) h.is (holds h.describes.constructor h.describes.body h.descriptor h.describes.spelled, holds h.spelled.constructor h.spelled.body h.value h.spelled.spelled)

behind_typed : (depth : ℕ) (c : Code) (bytes : List ℕ) (v : Data) → Behind depth c bytes v → IsTyped depth v
unfolding Behind IsTyped
behind_typed zero c bytes v h = absurd h
behind_typed (suc depth) c bytes v h = body_typed depth (IsTyped depth) (behind_typed depth) c bytes v h

pub spelled_typed : (depth : ℕ) (bytes : List ℕ) (v : Data) → Spells depth bytes v → IsTyped depth v
spelled_typed depth bytes v h = behind_typed depth h.constructor h.body v h.spelled
