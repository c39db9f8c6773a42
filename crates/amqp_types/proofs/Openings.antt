-- Values that hold others, distinguished by their constructors.
use Rattle.std.proofs.Common.{◌≡◌, ℕ, zero, suc, ◌-◌, ◌/◌, ◌%◌, ◌<◌, cond, List, [], Result, Ok, Err, Option, Some, None, refl, sym, ap, subst, ◌∙◌, arith, ◌==◌}
use Rattle.amqp_model.specs.declared.type_fault.TypeFault.{TypeFault}
use Rattle.amqp_model.specs.declared.type_fault.TypeFault.TheVariants as fault
use Rattle.amqp_model.specs.declared.code.Code.{Code}
use Rattle.amqp_model.specs.declared.code.Code.TheVariants as code
use Rattle.amqp_model.specs.declared.code.Leaf.{Leaf}
use Rattle.amqp_model.specs.declared.code.Size.{Size}
use Rattle.amqp_model.specs.declared.plain.Plain.{Plain}
use Rattle.amqp_model.specs.declared.plain.Plain.TheVariants as plain
use Rattle.amqp_model.specs.Data as d
use Rattle.amqp_model.specs.Data.{Data, Items, no_items, Pairs}
use Rattle.amqp_model.specs.View.{plain_view, plain_part}
use Rattle.amqp_types.specs.Reading.{◌>>=◌, Reads, to, after, size_at, sized_at, code_at, element_kind, leaf_at, whole, value_by, one_by, items_at, pairs_at, list_in, map_in, array_in, described_at, body_by, body_at}
use Rattle.amqp_types.specs.Opening.{opening_by}
use Rattle.amqp_types.proofs.Tools.{bind_ok, ok_is, to_ok, made_ok, whole_ok, guard_ok}
use Rattle.amqp_types.proofs.Loops.{body_at_deeper}

plain_part-plain_view : (p : Plain) → plain_part (plain_view p) ≡ Some (plain_view p)
plain_part-plain_view plain.Null = refl
plain_part-plain_view (plain.Boolean b) = refl
plain_part-plain_view (plain.Ubyte n) = refl
plain_part-plain_view (plain.Ushort n) = refl
plain_part-plain_view (plain.Uint n) = refl
plain_part-plain_view (plain.Ulong n) = refl
plain_part-plain_view (plain.Byte n) = refl
plain_part-plain_view (plain.Short n) = refl
plain_part-plain_view (plain.Int n) = refl
plain_part-plain_view (plain.Long n) = refl
plain_part-plain_view (plain.Float bytes) = refl
plain_part-plain_view (plain.Double bytes) = refl
plain_part-plain_view (plain.Decimal32 bytes) = refl
plain_part-plain_view (plain.Decimal64 bytes) = refl
plain_part-plain_view (plain.Decimal128 bytes) = refl
plain_part-plain_view (plain.Char c) = refl
plain_part-plain_view (plain.Timestamp n) = refl
plain_part-plain_view (plain.Uuid bytes) = refl
plain_part-plain_view (plain.Binary bytes) = refl
plain_part-plain_view (plain.String text) = refl
plain_part-plain_view (plain.Symbol name) = refl

-- what is read this way holds other values
abbrev Holding : Result (Data × List ℕ) TypeFault → Type 0
Holding read = (v : Data) (rest : List ℕ) → read ≡ Ok (v, rest) → plain_part v ≡ None

Holding-list : (body : Code → Reads Data) (s : Size) (bytes : List ℕ) → Holding (body_by body (code.List s) bytes)
unfolding list_in
Holding-list body s bytes v rest e =
    let m = made_ok (λ inside. whole (list_in body s inside)) (sized_at s bytes) v rest e in
    let n = bind_ok (size_at s m.0) (λ n. to d.list (items_at (one_by body None) n.0 n.1)) (v, []) (whole_ok (list_in body s m.0) v m.2) in
    let t = to_ok d.list (items_at (one_by body None) n.0.0 n.0.1) v [] n.2 in
    subst (λ w. plain_part w ≡ None) t.2 refl

Holding-map : (body : Code → Reads Data) (s : Size) (bytes : List ℕ) → Holding (body_by body (code.Map s) bytes)
unfolding map_in
Holding-map body s bytes v rest e =
    let m = made_ok (λ inside. whole (map_in body s inside)) (sized_at s bytes) v rest e in
    let n = bind_ok (size_at s m.0) (λ n. cond (n.0 % 2 == 1) (Err fault.OddMap) (to d.map (pairs_at (value_by body) (n.0 / 2) n.1))) (v, []) (whole_ok (map_in body s m.0) v m.2) in
    let g = guard_ok (n.0.0 % 2 == 1) fault.OddMap (to d.map (pairs_at (value_by body) (n.0.0 / 2) n.0.1)) (v, []) n.2 in
    let t = to_ok d.map (pairs_at (value_by body) (n.0.0 / 2) n.0.1) v [] g.1 in
    subst (λ w. plain_part w ≡ None) {x = d.map t.0} t.2 refl

Holding-array : (body : Code → Reads Data) (s : Size) (bytes : List ℕ) → Holding (body_by body (code.Array s) bytes)
unfolding array_in
Holding-array body s bytes v rest e =
    let m = made_ok (λ inside. whole (array_in body s inside)) (sized_at s bytes) v rest e in
    let n = bind_ok (size_at s m.0) (λ n. code_at n.1 >>= λ c. element_kind n.0 c.0 >>= λ k. to (d.array k) (items_at (one_by body (Some c.0)) n.0 c.1)) (v, []) (whole_ok (array_in body s m.0) v m.2) in
    let c = bind_ok (code_at n.0.1) (λ c. element_kind n.0.0 c.0 >>= λ k. to (d.array k) (items_at (one_by body (Some c.0)) n.0.0 c.1)) (v, []) n.2 in
    let k = bind_ok (element_kind n.0.0 c.0.0) (λ k. to (d.array k) (items_at (one_by body (Some c.0.0)) n.0.0 c.0.1)) (v, []) c.2 in
    let t = to_ok (d.array k.0) (items_at (one_by body (Some c.0.0)) n.0.0 c.0.1) v [] k.2 in
    subst (λ w. plain_part w ≡ None) {x = d.array k.0 t.0} t.2 refl

Holding-described : (body : Code → Reads Data) (bytes : List ℕ) → Holding (described_at body bytes)
unfolding described_at
Holding-described body bytes v rest e =
    let a = bind_ok (value_by body bytes) (λ x. value_by body x.1 >>= λ y. Ok (d.described x.0 y.0, y.1)) (v, rest) e in
    let b = bind_ok (value_by body a.0.1) (λ y. Ok (d.described a.0.0 y.0, y.1)) (v, rest) a.2 in
    subst (λ w. plain_part w ≡ None) (ap (λ q. q.0) (ok_is (d.described a.0.0 b.0.0, b.0.1) (v, rest) b.2)) refl

to-holding : (read : Result (Data × List ℕ) TypeFault) → Holding read → to plain_part read ≡ (after read >>= λ rest. Ok (None, rest))
to-holding (Ok x) holds = ap (λ p. Ok (p, x.1)) (holds x.0 x.1 refl)
to-holding (Err e) holds = refl

others : (body : Code → Reads Data) (c : Code) (bytes : List ℕ) → ((l : Leaf) → c ≡ code.Leaf l → ⊥) → Holding (body_by body c bytes)
others body (code.Leaf l) bytes h = absurd (h l refl)
others body code.EmptyList bytes h = λ v rest e. subst (λ w. plain_part w ≡ None) (ap (λ q. q.0) (ok_is (d.list no_items, bytes) (v, rest) e)) refl
others body (code.List s) bytes h = Holding-list body s bytes
others body (code.Map s) bytes h = Holding-map body s bytes
others body (code.Array s) bytes h = Holding-array body s bytes
others body code.Described bytes h = Holding-described body bytes

pub to_others : (depth : ℕ) (c : Code) (bytes : List ℕ) → 0 < depth → ((l : Leaf) → c ≡ code.Leaf l → ⊥) → to plain_part (body_at depth c bytes) ≡ (after (body_at depth c bytes) >>= λ rest. Ok (None, rest))
to_others depth c bytes h other = to-holding (body_at depth c bytes) (λ v rest e. others (body_at (depth - 1)) c bytes other v rest (sym (body_at_deeper depth c bytes h) ∙ e))

abbrev none_before : Result (List ℕ) TypeFault → Result (Option Data × List ℕ) TypeFault
none_before r = r >>= λ rest. Ok (None, rest)

pub to_others_ok : (depth : ℕ) (c : Code) (bytes : List ℕ) → 0 < depth → ((l : Leaf) → c ≡ code.Leaf l → ⊥) → (rest : List ℕ) → after (body_at depth c bytes) ≡ Ok rest → to plain_part (body_at depth c bytes) ≡ Ok (None, rest)
to_others_ok depth c bytes h other rest e = to_others depth c bytes h other ∙ ap none_before e

pub to_leaf : (depth : ℕ) (l : Leaf) (bytes : List ℕ) → 0 < depth → to plain_part (body_at depth (code.Leaf l) bytes) ≡ to plain_part (leaf_at l bytes)
to_leaf depth l bytes h = ap (λ r. to plain_part r) (body_at_deeper depth (code.Leaf l) bytes h)

pub to_leaf_ok : (l : Leaf) (bytes : List ℕ) (p : Plain) (rest : List ℕ) → leaf_at l bytes ≡ Ok (plain_view p, rest) → to plain_part (leaf_at l bytes) ≡ Ok (Some (plain_view p), rest)
to_leaf_ok l bytes p rest e = ap (λ r. to plain_part r) e ∙ ap (λ v. Ok (v, rest)) (plain_part-plain_view p)

pub to_value_at : (body : Code → Reads Data) (bytes : List ℕ) → to plain_part (value_by body bytes) ≡ (code_at bytes >>= λ c. to plain_part (body c.0 c.1))
to_value_at body bytes = through (code_at bytes)
  where
    through : (r : Result (Code × List ℕ) TypeFault) → to plain_part (r >>= λ c. body c.0 c.1) ≡ (r >>= λ c. to plain_part (body c.0 c.1))
    through (Ok c) = refl
    through (Err e) = refl

-- one level of an opening
pub opening_by_deeper : (depth : ℕ) (c : Code) (bytes : List ℕ) → 0 < depth → opening_by depth c bytes ≡ opening_by (suc 0) c bytes
unfolding opening_by
opening_by_deeper zero c bytes h = absurd (omega arith)
opening_by_deeper (suc depth) (code.Leaf l) bytes h = refl
opening_by_deeper (suc depth) code.EmptyList bytes h = refl
opening_by_deeper (suc depth) (code.List s) bytes h = refl
opening_by_deeper (suc depth) (code.Map s) bytes h = refl
opening_by_deeper (suc depth) (code.Array s) bytes h = refl
opening_by_deeper (suc depth) code.Described bytes h = refl
