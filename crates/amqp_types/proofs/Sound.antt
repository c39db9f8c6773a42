-- What reading gives is encoded by the bytes that it took.
use Rattle.std.proofs.Common.{◌≡◌, ℕ, zero, suc, ◌*◌, ◌/◌, ◌%◌, ◌≤◌, Bool, true, false, cond, ◌&&◌, nat_lt, ◌==◌, List, [], ◌∷◌, ◌++◌, length, take, drop, Option, Some, None, Ok, Err, refl, sym, ap, subst, ◌∙◌, append_assoc, arith}
use Rattle.std.specs.Int.{byte_len, from_be_bytes}
use Rattle.std.proofs.lemmas.Bool.{ltb-false, eqb-false}
use Rattle.std.proofs.lemmas.List.{take-append-drop, length-take-le, append-nil}
use Rattle.amqp_model.specs.declared.type_fault.TypeFault.TheVariants as fault
use Rattle.amqp_model.specs.declared.code.Size.{Size}
use Rattle.amqp_model.specs.declared.code.Leaf.{Leaf}
use Rattle.amqp_model.specs.declared.code.Code.{Code}
use Rattle.amqp_model.specs.declared.code.Code.TheVariants as code
use Rattle.amqp_model.specs.declared.code.Layout.{Layout}
use Rattle.amqp_model.specs.declared.code.Layout.TheVariants as layout
use Rattle.amqp_model.specs.declared.code.Kind.{Kind}
use Rattle.amqp_model.specs.Codes.{code_of, width, layout_of, kind_of, is_without_bytes}
use Rattle.amqp_model.specs.Data as d
use Rattle.amqp_model.specs.Data.{Data, Items, no_items, item, Pairs, no_pairs, pair}
use Rattle.amqp_types.specs.Reading.{◌>>=◌, Reads, to, made, bytes_at, size_at, sized_at, known, code_at, chunk_at, content_of, leaf_at, whole, elements_of, element_kind, value_by, one_by, items_at, pair_at, pairs_at, list_in, map_in, array_in, described_at, body_by, body_at, value_at}
use Rattle.amqp_types.specs.Spells.{Spelling, IsNumber, IsSized, IsChunk, IsLeaf, Constructed, AreItems, ArePairs, IsListInside, IsMapInside, IsArrayInside, IsDescribed, Fills, BodyBy, Behind, Spells}
use Rattle.amqp_model.specs.Data.{count, pair_count}
use Rattle.amqp_types.proofs.Tools.{done, bind_ok, guard_ok, ok_is, to_ok, made_ok, whole_ok}

abbrev pub Sound : {A : Type 0} → Reads A → (List ℕ → A → Type 0) → Type 0
Sound {A = A} read P = (bytes : List ℕ) (x : A) (rest : List ℕ) → read bytes ≡ Ok (x, rest) → (text : List ℕ) × (bytes ≡ text ++ rest) × P text x

bytes_sound : (n : ℕ) (bytes x rest : List ℕ) → bytes_at n bytes ≡ Ok (x, rest) → (bytes ≡ x ++ rest) × (length x ≡ n)
bytes_sound n bytes x rest e =
    let g = guard_ok (nat_lt (length bytes) n) fault.Truncated (done (take n bytes, drop n bytes)) (x, rest) e in
    let p = ok_is (take n bytes, drop n bytes) (x, rest) g.1 in
    let le : n ≤ length bytes = ltb-false (length bytes) n g.0 in
    let first : take n bytes ≡ x = ap (λ q. q.0) p in
    let second : drop n bytes ≡ rest = ap (λ q. q.1) p in (
      subst (λ a. bytes ≡ a ++ rest) first (subst (λ b. bytes ≡ take n bytes ++ b) second (sym (take-append-drop n bytes))),
      subst (λ a. length a ≡ n) first (length-take-le n bytes le),
    )

pub size_sound : (s : Size) → Sound (size_at s) (IsNumber s)
size_sound s bytes n rest e =
    let t = to_ok (from_be_bytes (width s)) (bytes_at (byte_len (width s)) bytes) n rest e in
    let b = bytes_sound (byte_len (width s)) bytes t.0 rest t.1 in
    (t.0, b.0, record { wide = b.1; number = t.2 })

pub sized_sound : (s : Size) (bytes inside rest : List ℕ) → sized_at s bytes ≡ Ok (inside, rest) → (text : List ℕ) × (bytes ≡ text ++ rest) × IsSized s text inside
unfolding sized_at
sized_sound s bytes inside rest e =
    let n = bind_ok (size_at s bytes) (λ n. bytes_at n.0 n.1) (inside, rest) e in
    let a = size_sound s bytes n.0.0 n.0.1 n.1 in
    let b = bytes_sound n.0.0 n.0.1 inside rest n.2 in (
      a.0 ++ inside,
      a.1 ∙ ap (λ (t : List ℕ). a.0 ++ t) b.0 ∙ sym (append_assoc a.0 inside rest),
      record { field = a.0; parts = refl; size = record { wide = a.2.wide; number = a.2.number ∙ sym b.1 } },
    )

chunk_sound : (l : Layout) (bytes chunk rest : List ℕ) → chunk_at l bytes ≡ Ok (chunk, rest) → (text : List ℕ) × (bytes ≡ text ++ rest) × IsChunk l text chunk
chunk_sound (layout.Fixed n) bytes chunk rest e =
    let b = bytes_sound n bytes chunk rest e in
    (chunk, b.0, (refl, b.1))
chunk_sound (layout.Sized s) bytes chunk rest e = sized_sound s bytes chunk rest e

leaf_sound : (l : Leaf) → Sound (leaf_at l) (IsLeaf l)
unfolding leaf_at
leaf_sound l bytes v rest e =
    let m = made_ok (content_of l) (chunk_at (layout_of l) bytes) v rest e in
    let c = chunk_sound (layout_of l) bytes m.0 rest m.1 in
    (c.0, c.1, record { chunk = m.0; laid = c.2; meant = m.2 })

pub code_sound : (bytes : List ℕ) (c : Code) (rest : List ℕ) → code_at bytes ≡ Ok (c, rest) → (b : ℕ) × (bytes ≡ b ∷ rest) × (code_of b ≡ Some c)
code_sound [] c rest e = absurd cc
code_sound (b ∷ bytes) c rest e =
    let k = known_ok (code_of b) e in
    (b, ap (λ (t : List ℕ). b ∷ t) k.1, k.0)
  where
    known_ok : (o : Option Code) → known o bytes ≡ Ok (c, rest) → (o ≡ Some c) × (bytes ≡ rest)
    known_ok (Some x) e = let p = ok_is (x, bytes) (c, rest) e in (ap (λ q. Some q.0) p, ap (λ q. q.1) p)
    known_ok None e = absurd cc

value_sound : (body : Code → Reads Data) (Body : Code → Spelling) → ((c : Code) → Sound (body c) (Body c)) → Sound (value_by body) (Constructed Body)
value_sound body Body sound bytes v rest e =
    let b = bind_ok (code_at bytes) (λ c. body c.0 c.1) (v, rest) e in
    let c = code_sound bytes b.0.0 b.0.1 b.1 in
    let s = sound b.0.0 b.0.1 v rest b.2 in
    (c.0 ∷ s.0, c.1 ∙ ap (λ (t : List ℕ). c.0 ∷ t) s.1, record { byte = c.0; body = s.0; parts = refl; constructor = b.0.0; known = c.2; spelled = s.2 })

items_sound : (one : Reads Data) (One : Spelling) → Sound one One → (n : ℕ) (bytes : List ℕ) (vs : Items) (rest : List ℕ) → items_at one n bytes ≡ Ok (vs, rest) → (text : List ℕ) × (bytes ≡ text ++ rest) × AreItems One text vs × (count vs ≡ n)
unfolding items_at
items_sound one One sound zero bytes vs rest e =
    let p = ok_is (no_items, bytes) (vs, rest) e in
    ([], ap (λ q. q.1) p, subst (λ w. AreItems One [] w) (ap (λ q. q.0) p) refl, subst (λ w. count w ≡ 0) (ap (λ q. q.0) p) refl)
items_sound one One sound (suc n) bytes vs rest e =
    let a = bind_ok (one bytes) (λ x. items_at one n x.1 >>= λ y. Ok (item x.0 y.0, y.1)) (vs, rest) e in
    let b = bind_ok (items_at one n a.0.1) (λ y. Ok (item a.0.0 y.0, y.1)) (vs, rest) a.2 in
    let p = ok_is (item a.0.0 b.0.0, b.0.1) (vs, rest) b.2 in
    let f = sound bytes a.0.0 a.0.1 a.1 in
    let o = items_sound one One sound n a.0.1 b.0.0 b.0.1 b.1 in
    let last : b.0.1 ≡ rest = ap (λ q. q.1) p in
    let whole_is : bytes ≡ (f.0 ++ o.0) ++ b.0.1 = f.1 ∙ ap (λ (t : List ℕ). f.0 ++ t) o.1 ∙ sym (append_assoc f.0 o.0 b.0.1) in (
      f.0 ++ o.0,
      subst (λ t. bytes ≡ (f.0 ++ o.0) ++ t) last whole_is,
      subst (λ w. AreItems One (f.0 ++ o.0) w) (ap (λ q. q.0) p) (f.0, o.0, refl, f.2, o.2),
      subst (λ w. count w ≡ suc n) (ap (λ q. q.0) p) (ap suc o.3),
    )

pairs_sound : (one : Reads Data) (One : Spelling) → Sound one One → (n : ℕ) (bytes : List ℕ) (ps : Pairs) (rest : List ℕ) → pairs_at one n bytes ≡ Ok (ps, rest) → (text : List ℕ) × (bytes ≡ text ++ rest) × ArePairs One text ps × (pair_count ps ≡ n)
unfolding pairs_at pair_at
pairs_sound one One sound zero bytes ps rest e =
    let p = ok_is (no_pairs, bytes) (ps, rest) e in
    ([], ap (λ q. q.1) p, subst (λ w. ArePairs One [] w) (ap (λ q. q.0) p) refl, subst (λ w. pair_count w ≡ 0) (ap (λ q. q.0) p) refl)
pairs_sound one One sound (suc n) bytes ps rest e =
    let a = bind_ok (pair_at one bytes) (λ x. pairs_at one n x.1 >>= λ y. Ok (pair x.0.0 x.0.1 y.0, y.1)) (ps, rest) e in
    let b = bind_ok (pairs_at one n a.0.1) (λ y. Ok (pair a.0.0.0 a.0.0.1 y.0, y.1)) (ps, rest) a.2 in
    let p = ok_is (pair a.0.0.0 a.0.0.1 b.0.0, b.0.1) (ps, rest) b.2 in
    let two = pair_sound bytes a.0.0 a.0.1 a.1 in
    let o = pairs_sound one One sound n a.0.1 b.0.0 b.0.1 b.1 in
    let last : b.0.1 ≡ rest = ap (λ q. q.1) p in
    let text = two.0 ++ (two.1 ++ o.0) in
    let whole_is : bytes ≡ text ++ b.0.1 =
    two.2 ∙ ap (λ (t : List ℕ). two.0 ++ (two.1 ++ t)) o.1 ∙ ap (λ (t : List ℕ). two.0 ++ t) (sym (append_assoc two.1 o.0 b.0.1)) ∙ sym (append_assoc two.0 (two.1 ++ o.0) b.0.1) in (
      text,
      subst (λ t. bytes ≡ text ++ t) last whole_is,
      subst (λ w. ArePairs One text w) (ap (λ q. q.0) p) (two.0, two.1, o.0, refl, two.3, two.4, o.2),
      subst (λ w. pair_count w ≡ suc n) (ap (λ q. q.0) p) (ap suc o.3),
    )
  where
    pair_sound : (bytes : List ℕ) (x : Data × Data) (rest : List ℕ) → pair_at one bytes ≡ Ok (x, rest) → (first : List ℕ) × (second : List ℕ) × (bytes ≡ first ++ (second ++ rest)) × One first x.0 × One second x.1
    pair_sound bytes x rest e =
        let a = bind_ok (one bytes) (λ k. one k.1 >>= λ v. done ((k.0, v.0), v.1)) (x, rest) e in
        let b = bind_ok (one a.0.1) (λ v. done ((a.0.0, v.0), v.1)) (x, rest) a.2 in
        let p = ok_is ((a.0.0, b.0.0), b.0.1) (x, rest) b.2 in
        let f = sound bytes a.0.0 a.0.1 a.1 in
        let g = sound a.0.1 b.0.0 b.0.1 b.1 in
        let last : b.0.1 ≡ rest = ap (λ q. q.1) p in
        let whole_is : bytes ≡ f.0 ++ (g.0 ++ b.0.1) = f.1 ∙ ap (λ (t : List ℕ). f.0 ++ t) g.1 in
        (f.0, g.0, subst (λ t. bytes ≡ f.0 ++ (g.0 ++ t)) last whole_is, subst (λ w. One f.0 w) (ap (λ q. q.0.0) p) f.2, subst (λ w. One g.0 w) (ap (λ q. q.0.1) p) g.2)

-- ---- one level

abbrev AllSound : (Code → Reads Data) → (Code → Spelling) → Type 0
AllSound body Body = (c : Code) → Sound (body c) (Body c)

-- what fills its size exactly
fills_sound : (s : Size) (read : Reads Data) (Inside : Spelling) → ((inside : List ℕ) (v : Data) → read inside ≡ Ok (v, []) → Inside inside v)
    → (bytes : List ℕ) (v : Data) (rest : List ℕ) → made (λ inside. whole (read inside)) (sized_at s bytes) ≡ Ok (v, rest) → (text : List ℕ) × (bytes ≡ text ++ rest) × Fills s text v Inside
fills_sound s read Inside sound bytes v rest e =
    let m = made_ok (λ inside. whole (read inside)) (sized_at s bytes) v rest e in
    let c = sized_sound s bytes m.0 rest m.1 in
    (c.0, c.1, record { inside = m.0; sized = c.2; spelled = sound m.0 v (whole_ok (read m.0) v m.2) })

list_sound : (body : Code → Reads Data) (Body : Code → Spelling) → AllSound body Body → (s : Size) (inside : List ℕ) (v : Data) → list_in body s inside ≡ Ok (v, []) → IsListInside Body s inside v
unfolding list_in
list_sound body Body sound s inside v e =
    let n = bind_ok (size_at s inside) (λ n. to d.list (items_at (one_by body None) n.0 n.1)) (v, []) e in
    let t = to_ok d.list (items_at (one_by body None) n.0.0 n.0.1) v [] n.2 in
    let f = size_sound s inside n.0.0 n.0.1 n.1 in
    let i = items_sound (value_by body) (Constructed Body) (value_sound body Body sound) n.0.0 n.0.1 t.0 [] t.1 in
    record {
      field = f.0;
      bytes = i.0;
      parts = f.1 ∙ ap (λ (x : List ℕ). f.0 ++ x) (i.1 ∙ append-nil i.0);
      values = t.0;
      is = t.2;
      counted = record { wide = f.2.wide; number = f.2.number ∙ sym i.3 };
      spelled = i.2;
    }

halves : (n : ℕ) → (n % 2 == 1) ≡ false → 2 * (n / 2) ≡ n
halves n e = let ne = eqb-false (n % 2) 1 e in omega arith

map_sound : (body : Code → Reads Data) (Body : Code → Spelling) → AllSound body Body → (s : Size) (inside : List ℕ) (v : Data) → map_in body s inside ≡ Ok (v, []) → IsMapInside Body s inside v
unfolding map_in
map_sound body Body sound s inside v e =
    let n = bind_ok (size_at s inside) (λ n. cond (n.0 % 2 == 1) (Err fault.OddMap) (to d.map (pairs_at (value_by body) (n.0 / 2) n.1))) (v, []) e in
    let g = guard_ok (n.0.0 % 2 == 1) fault.OddMap (to d.map (pairs_at (value_by body) (n.0.0 / 2) n.0.1)) (v, []) n.2 in
    let t = to_ok d.map (pairs_at (value_by body) (n.0.0 / 2) n.0.1) v [] g.1 in
    let f = size_sound s inside n.0.0 n.0.1 n.1 in
    let i = pairs_sound (value_by body) (Constructed Body) (value_sound body Body sound) (n.0.0 / 2) n.0.1 t.0 [] t.1 in
    record {
      field = f.0;
      bytes = i.0;
      parts = f.1 ∙ ap (λ (x : List ℕ). f.0 ++ x) (i.1 ∙ append-nil i.0);
      pairs = t.0;
      is = t.2;
      counted = record { wide = f.2.wide; number = f.2.number ∙ sym (halves n.0.0 g.0) ∙ ap (λ k. 2 * k) (sym i.3) };
      spelled = i.2;
    }

-- what is known of the elements of an array that was read
element_sound : (n : ℕ) (c : Code) (k : Kind) → element_kind n c ≡ Ok k → (kind_of c ≡ Some k) × (is_without_bytes c ≡ true → n ≤ 1024)
element_sound n c k e = by_test (is_without_bytes c) (nat_lt 1024 n) refl (kind_of c) e
  where
    by_test : (w many : Bool) → nat_lt 1024 n ≡ many → (o : Option Kind) → elements_of (w && many) o ≡ Ok k → (o ≡ Some k) × (w ≡ true → n ≤ 1024)
    by_test true true is (Some x) e = absurd cc
    by_test true false is (Some x) e = (ap (λ y. Some y) (ok_is x k e), λ h. ltb-false 1024 n is)
    by_test false many is (Some x) e = (ap (λ y. Some y) (ok_is x k e), λ h. absurd cc)
    by_test w many is None e = absurd cc

array_sound : (body : Code → Reads Data) (Body : Code → Spelling) → AllSound body Body → (s : Size) (inside : List ℕ) (v : Data) → array_in body s inside ≡ Ok (v, []) → IsArrayInside Body s inside v
unfolding array_in
array_sound body Body sound s inside v e =
    let n = bind_ok (size_at s inside) (λ n. code_at n.1 >>= λ c. element_kind n.0 c.0 >>= λ k. to (d.array k) (items_at (one_by body (Some c.0)) n.0 c.1)) (v, []) e in
    let c = bind_ok (code_at n.0.1) (λ c. element_kind n.0.0 c.0 >>= λ k. to (d.array k) (items_at (one_by body (Some c.0)) n.0.0 c.1)) (v, []) n.2 in
    let k = bind_ok (element_kind n.0.0 c.0.0) (λ k. to (d.array k) (items_at (one_by body (Some c.0.0)) n.0.0 c.0.1)) (v, []) c.2 in
    let t = to_ok (d.array k.0) (items_at (one_by body (Some c.0.0)) n.0.0 c.0.1) v [] k.2 in
    let f = size_sound s inside n.0.0 n.0.1 n.1 in
    let b = code_sound n.0.1 c.0.0 c.0.1 c.1 in
    let i = items_sound (body c.0.0) (Body c.0.0) (sound c.0.0) n.0.0 c.0.1 t.0 [] t.1 in
    let known = element_sound n.0.0 c.0.0 k.0 k.1 in
    record {
      field = f.0;
      byte = b.0;
      bytes = i.0;
      parts = f.1 ∙ ap (λ (x : List ℕ). f.0 ++ x) (b.1 ∙ ap (λ (x : List ℕ). b.0 ∷ x) (i.1 ∙ append-nil i.0));
      values = t.0;
      kind = k.0;
      is = t.2;
      counted = record { wide = f.2.wide; number = f.2.number ∙ sym i.3 };
      constructor = c.0.0;
      known = b.2;
      typed = known.0;
      few = λ h. subst (λ (m : ℕ). m ≤ 1024) (sym i.3) (known.1 h);
      spelled = i.2;
    }

described_sound : (body : Code → Reads Data) (Body : Code → Spelling) → AllSound body Body → Sound (described_at body) (IsDescribed Body)
unfolding described_at
described_sound body Body sound bytes v rest e =
    let a = bind_ok (value_by body bytes) (λ x. value_by body x.1 >>= λ y. Ok (d.described x.0 y.0, y.1)) (v, rest) e in
    let b = bind_ok (value_by body a.0.1) (λ y. Ok (d.described a.0.0 y.0, y.1)) (v, rest) a.2 in
    let p = ok_is (d.described a.0.0 b.0.0, b.0.1) (v, rest) b.2 in
    let f = value_sound body Body sound bytes a.0.0 a.0.1 a.1 in
    let g = value_sound body Body sound a.0.1 b.0.0 b.0.1 b.1 in
    let last : b.0.1 ≡ rest = ap (λ q. q.1) p in
    let whole_is : bytes ≡ (f.0 ++ g.0) ++ b.0.1 = f.1 ∙ ap (λ (t : List ℕ). f.0 ++ t) g.1 ∙ sym (append_assoc f.0 g.0 b.0.1) in (
      f.0 ++ g.0,
      subst (λ t. bytes ≡ (f.0 ++ g.0) ++ t) last whole_is,
      record { first = f.0; second = g.0; parts = refl; descriptor = a.0.0; value = b.0.0; is = ap (λ q. q.0) p; describes = f.2; spelled = g.2 },
    )

body_sound : (body : Code → Reads Data) (Body : Code → Spelling) → AllSound body Body → (c : Code) → Sound (body_by body c) (BodyBy Body c)
body_sound body Body sound (code.Leaf l) = leaf_sound l
body_sound body Body sound code.EmptyList = λ bytes v rest e.
    let p = ok_is (d.list no_items, bytes) (v, rest) e in
    ([], ap (λ q. q.1) p, (refl, ap (λ q. q.0) p))
body_sound body Body sound (code.List s) = fills_sound s (list_in body s) (IsListInside Body s) (list_sound body Body sound s)
body_sound body Body sound (code.Map s) = fills_sound s (map_in body s) (IsMapInside Body s) (map_sound body Body sound s)
body_sound body Body sound (code.Array s) = fills_sound s (array_in body s) (IsArrayInside Body s) (array_sound body Body sound s)
body_sound body Body sound code.Described = described_sound body Body sound

-- ---- all levels

pub behind_sound : (depth : ℕ) (c : Code) → Sound (body_at depth c) (Behind depth c)
unfolding body_at Behind
behind_sound zero c bytes v rest e = absurd cc
behind_sound (suc depth) c bytes v rest e = body_sound (body_at depth) (Behind depth) (behind_sound depth) c bytes v rest e

pub Spells-value_at : (depth : ℕ) → Sound (value_at depth) (Spells depth)
unfolding value_at
Spells-value_at depth = value_sound (body_at depth) (Behind depth) (behind_sound depth)
