-- What is encoded is read, whatever follows.
use Rattle.std.proofs.Common.{◌≡◌, ℕ, zero, suc, ◌*◌, ◌/◌, ◌%◌, ◌≤◌, Bool, true, false, cond, ◌&&◌, nat_lt, ◌==◌, List, [], ◌∷◌, ◌++◌, length, Some, None, Ok, Err, refl, sym, ap, subst, ◌∙◌, append_assoc, arith}
use Rattle.std.specs.Int.{byte_len, from_be_bytes}
use Rattle.std.proofs.lemmas.Bool.{le-ltb, ne_eqb}
use Rattle.std.proofs.lemmas.List.{length-append, append-nil}
use Rattle.std.proofs.Math.Seq.{take-append_seam, drop-append_seam}
use Rattle.amqp_model.specs.declared.type_fault.TypeFault.TheVariants as fault
use Rattle.amqp_model.specs.declared.code.Size.{Size}
use Rattle.amqp_model.specs.declared.code.Leaf.{Leaf}
use Rattle.amqp_model.specs.declared.code.Code.{Code}
use Rattle.amqp_model.specs.declared.code.Code.TheVariants as code
use Rattle.amqp_model.specs.declared.code.Layout.{Layout}
use Rattle.amqp_model.specs.declared.code.Layout.TheVariants as layout
use Rattle.amqp_model.specs.declared.code.Kind.{Kind}
use Rattle.amqp_model.specs.Codes.{code_of, width, layout_of, kind_of, is_without_bytes}
use Rattle.amqp_model.specs.Data as d
use Rattle.amqp_model.specs.Data.{Data, Items, no_items, item, Pairs, no_pairs, pair}
use Rattle.amqp_types.specs.Reading.{◌>>=◌, Reads, to, made, bytes_at, size_at, sized_at, known, code_at, chunk_at, content_of, leaf_at, whole, elements_of, element_kind, value_by, one_by, items_at, pair_at, pairs_at, list_in, map_in, array_in, described_at, body_by, body_at, value_at}
use Rattle.amqp_types.specs.Spells.{Spelling, IsNumber, IsSized, IsChunk, IsLeaf, Constructed, AreItems, ArePairs, IsListInside, IsMapInside, IsArrayInside, IsDescribed, Fills, BodyBy, Behind, Spells}
use Rattle.amqp_model.specs.Data.{count, pair_count}
use Rattle.amqp_types.proofs.Tools.{done, whole-all}

abbrev pub Complete : {A : Type 0} → Reads A → (List ℕ → A → Type 0) → Type 0
Complete {A = A} read P = (text : List ℕ) (x : A) (rest : List ℕ) → P text x → read (text ++ rest) ≡ Ok (x, rest)

pub bytes_complete : (n : ℕ) (text rest : List ℕ) → length text ≡ n → bytes_at n (text ++ rest) ≡ Ok (text, rest)
bytes_complete n text rest e =
    let le : length text ≤ length (text ++ rest) = omega (arith, length-append text rest) in
    subst (λ m. bytes_at m (text ++ rest) ≡ Ok (text, rest)) e (rw (le-ltb (length (text ++ rest)) (length text) le, take-append_seam text rest, drop-append_seam text rest) refl)

pub size_complete : (s : Size) → Complete (size_at s) (IsNumber s)
size_complete s text n rest h =
    ap (λ r. to (from_be_bytes (width s)) r) (bytes_complete (byte_len (width s)) text rest h.wide) ∙ ap (λ m. Ok (m, rest)) h.number

pub sized_complete : (s : Size) (text inside rest : List ℕ) → IsSized s text inside → sized_at s (text ++ rest) ≡ Ok (inside, rest)
unfolding sized_at
sized_complete s text inside rest h =
    let parts : text ++ rest ≡ h.field ++ (inside ++ rest) = ap (λ (t : List ℕ). t ++ rest) h.parts ∙ append_assoc h.field inside rest in
    ap (λ (t : List ℕ). size_at s t >>= λ n. bytes_at n.0 n.1) parts
    ∙ rw (size_complete s h.field (length inside) (inside ++ rest) h.size) (bytes_complete (length inside) inside rest refl)

chunk_complete : (l : Layout) (text chunk rest : List ℕ) → IsChunk l text chunk → chunk_at l (text ++ rest) ≡ Ok (chunk, rest)
chunk_complete (layout.Fixed n) text chunk rest h =
    ap (λ (t : List ℕ). bytes_at n (t ++ rest)) h.0 ∙ bytes_complete n chunk rest h.1
chunk_complete (layout.Sized s) text chunk rest h = sized_complete s text chunk rest h

leaf_complete : (l : Leaf) → Complete (leaf_at l) (IsLeaf l)
unfolding leaf_at
leaf_complete l text v rest h =
    ap (λ r. made (content_of l) r) (chunk_complete (layout_of l) text h.chunk rest h.laid) ∙ ap (λ r. r >>= λ y. done (y, rest)) h.meant

pub code_complete : (b : ℕ) (c : Code) (rest : List ℕ) → code_of b ≡ Some c → code_at (b ∷ rest) ≡ Ok (c, rest)
code_complete b c rest e = ap (λ o. known o rest) e

value_complete : (body : Code → Reads Data) (Body : Code → Spelling) → ((c : Code) → Complete (body c) (Body c)) → Complete (value_by body) (Constructed Body)
value_complete body Body complete text v rest h =
    ap (λ (t : List ℕ). value_by body (t ++ rest)) h.parts
    ∙ ap (λ r. r >>= λ c. body c.0 c.1) (code_complete h.byte h.constructor (h.body ++ rest) h.known)
    ∙ complete h.constructor h.body v rest h.spelled

pub items_complete : (one : Reads Data) (One : Spelling) → Complete one One → (vs : Items) (text rest : List ℕ) → AreItems One text vs → items_at one (count vs) (text ++ rest) ≡ Ok (vs, rest)
unfolding items_at
items_complete one One complete no_items text rest h = ap (λ (t : List ℕ). done (no_items, t ++ rest)) h
items_complete one One complete (item v vs) text rest h =
    let parts : text ++ rest ≡ h.0 ++ (h.1 ++ rest) = ap (λ (t : List ℕ). t ++ rest) h.2 ∙ append_assoc h.0 h.1 rest in
    ap (λ (t : List ℕ). items_at one (suc (count vs)) t) parts
    ∙ rw (complete h.0 v (h.1 ++ rest) h.3, items_complete one One complete vs h.1 rest h.4) refl

pairs_complete : (one : Reads Data) (One : Spelling) → Complete one One → (ps : Pairs) (text rest : List ℕ) → ArePairs One text ps → pairs_at one (pair_count ps) (text ++ rest) ≡ Ok (ps, rest)
unfolding pairs_at pair_at
pairs_complete one One complete no_pairs text rest h = ap (λ (t : List ℕ). done (no_pairs, t ++ rest)) h
pairs_complete one One complete (pair k v ps) text rest h =
    let parts : text ++ rest ≡ h.0 ++ (h.1 ++ (h.2 ++ rest)) = ap (λ (t : List ℕ). t ++ rest) h.3 ∙ append_assoc h.0 (h.1 ++ h.2) rest ∙ ap (λ (t : List ℕ). h.0 ++ t) (append_assoc h.1 h.2 rest) in
    ap (λ (t : List ℕ). pairs_at one (suc (pair_count ps)) t) parts
    ∙ rw (complete h.0 k (h.1 ++ (h.2 ++ rest)) h.4, complete h.1 v (h.2 ++ rest) h.5, pairs_complete one One complete ps h.2 rest h.6) refl

-- ---- one level

abbrev AllComplete : (Code → Reads Data) → (Code → Spelling) → Type 0
AllComplete body Body = (c : Code) → Complete (body c) (Body c)

fills_complete : (s : Size) (read : Reads Data) (Inside : Spelling) → ((inside : List ℕ) (v : Data) → Inside inside v → read inside ≡ Ok (v, []))
    → (text : List ℕ) (v : Data) (rest : List ℕ) → Fills s text v Inside → made (λ inside. whole (read inside)) (sized_at s (text ++ rest)) ≡ Ok (v, rest)
fills_complete s read Inside complete text v rest h =
    let inside : whole (read h.inside) ≡ Ok v = ap (λ r. whole r) (complete h.inside v h.spelled) ∙ whole-all v in
    ap (λ r. made (λ inside. whole (read inside)) r) (sized_complete s text h.inside rest h.sized) ∙ ap (λ r. r >>= λ y. done (y, rest)) inside

list_complete : (body : Code → Reads Data) (Body : Code → Spelling) → AllComplete body Body → (s : Size) (inside : List ℕ) (v : Data) → IsListInside Body s inside v → list_in body s inside ≡ Ok (v, [])
unfolding list_in
list_complete body Body complete s inside v h =
    let items : items_at (value_by body) (count h.values) h.bytes ≡ Ok (h.values, []) = ap (λ (t : List ℕ). items_at (value_by body) (count h.values) t) (sym (append-nil h.bytes)) ∙ items_complete (value_by body) (Constructed Body) (value_complete body Body complete) h.values h.bytes [] h.spelled in
    ap (λ (t : List ℕ). size_at s t >>= λ n. to d.list (items_at (one_by body None) n.0 n.1)) h.parts
    ∙ ap (λ r. r >>= λ n. to d.list (items_at (one_by body None) n.0 n.1)) (size_complete s h.field (count h.values) h.bytes h.counted)
    ∙ ap (λ r. to d.list r) items
    ∙ ap (λ w. done (w, [])) h.is

even : (n : ℕ) → ((2 * n) % 2 == 1) ≡ false
even n = ne_eqb ((2 * n) % 2) 1 (omega arith)

half : (n : ℕ) → (2 * n) / 2 ≡ n
half n = omega arith

map_complete : (body : Code → Reads Data) (Body : Code → Spelling) → AllComplete body Body → (s : Size) (inside : List ℕ) (v : Data) → IsMapInside Body s inside v → map_in body s inside ≡ Ok (v, [])
unfolding map_in
map_complete body Body complete s inside v h =
    let n = pair_count h.pairs in
    let pairs : pairs_at (value_by body) n h.bytes ≡ Ok (h.pairs, []) = ap (λ (t : List ℕ). pairs_at (value_by body) n t) (sym (append-nil h.bytes)) ∙ pairs_complete (value_by body) (Constructed Body) (value_complete body Body complete) h.pairs h.bytes [] h.spelled in
    ap (λ (t : List ℕ). size_at s t >>= λ n. cond (n.0 % 2 == 1) (Err fault.OddMap) (to d.map (pairs_at (value_by body) (n.0 / 2) n.1))) h.parts
    ∙ ap (λ r. r >>= λ n. cond (n.0 % 2 == 1) (Err fault.OddMap) (to d.map (pairs_at (value_by body) (n.0 / 2) n.1))) (size_complete s h.field (2 * n) h.bytes h.counted)
    ∙ ap (λ b. cond b (Err fault.OddMap) (to d.map (pairs_at (value_by body) ((2 * n) / 2) h.bytes))) (even n)
    ∙ ap (λ k. to d.map (pairs_at (value_by body) k h.bytes)) (half n)
    ∙ ap (λ r. to d.map r) pairs
    ∙ ap (λ w. done (w, [])) h.is

pub element_complete : (n : ℕ) (c : Code) (k : Kind) → kind_of c ≡ Some k → (is_without_bytes c ≡ true → n ≤ 1024) → element_kind n c ≡ Ok k
element_complete n c k typed few = by_test (is_without_bytes c) few ∙ ap (λ o. elements_of false o) typed
  where
    by_test : (w : Bool) → (w ≡ true → n ≤ 1024) → elements_of (w && nat_lt 1024 n) (kind_of c) ≡ elements_of false (kind_of c)
    by_test true few = ap (λ b. elements_of b (kind_of c)) (le-ltb 1024 n (few refl))
    by_test false few = refl

array_complete : (body : Code → Reads Data) (Body : Code → Spelling) → AllComplete body Body → (s : Size) (inside : List ℕ) (v : Data) → IsArrayInside Body s inside v → array_in body s inside ≡ Ok (v, [])
unfolding array_in
array_complete body Body complete s inside v h =
    let one = body h.constructor in
    let items : items_at one (count h.values) h.bytes ≡ Ok (h.values, []) = ap (λ (t : List ℕ). items_at one (count h.values) t) (sym (append-nil h.bytes)) ∙ items_complete one (Body h.constructor) (complete h.constructor) h.values h.bytes [] h.spelled in
    ap (λ (t : List ℕ). size_at s t >>= λ n. code_at n.1 >>= λ c. element_kind n.0 c.0 >>= λ k. to (d.array k) (items_at (one_by body (Some c.0)) n.0 c.1)) h.parts
    ∙ ap (λ r. r >>= λ n. code_at n.1 >>= λ c. element_kind n.0 c.0 >>= λ k. to (d.array k) (items_at (one_by body (Some c.0)) n.0 c.1)) (size_complete s h.field (count h.values) (h.byte ∷ h.bytes) h.counted)
    ∙ ap (λ r. r >>= λ c. element_kind (count h.values) c.0 >>= λ k. to (d.array k) (items_at (one_by body (Some c.0)) (count h.values) c.1)) (code_complete h.byte h.constructor h.bytes h.known)
    ∙ ap (λ r. r >>= λ k. to (d.array k) (items_at one (count h.values) h.bytes)) (element_complete (count h.values) h.constructor h.kind h.typed h.few)
    ∙ ap (λ r. to (d.array h.kind) r) items
    ∙ ap (λ w. done (w, [])) h.is

described_complete : (body : Code → Reads Data) (Body : Code → Spelling) → AllComplete body Body → Complete (described_at body) (IsDescribed Body)
unfolding described_at
described_complete body Body complete text v rest h =
    let parts : text ++ rest ≡ h.first ++ (h.second ++ rest) = ap (λ (t : List ℕ). t ++ rest) h.parts ∙ append_assoc h.first h.second rest in
    ap (λ (t : List ℕ). value_by body t >>= λ x. value_by body x.1 >>= λ y. done (d.described x.0 y.0, y.1)) parts
    ∙ ap (λ r. r >>= λ x. value_by body x.1 >>= λ y. done (d.described x.0 y.0, y.1)) (value_complete body Body complete h.first h.descriptor (h.second ++ rest) h.describes)
    ∙ ap (λ r. r >>= λ y. done (d.described h.descriptor y.0, y.1)) (value_complete body Body complete h.second h.value rest h.spelled)
    ∙ ap (λ w. done (w, rest)) h.is

body_complete : (body : Code → Reads Data) (Body : Code → Spelling) → AllComplete body Body → (c : Code) → Complete (body_by body c) (BodyBy Body c)
body_complete body Body complete (code.Leaf l) = leaf_complete l
body_complete body Body complete code.EmptyList = λ text v rest h. ap (λ (t : List ℕ). done (d.list no_items, t ++ rest)) h.0 ∙ ap (λ w. done (w, rest)) h.1
body_complete body Body complete (code.List s) = fills_complete s (list_in body s) (IsListInside Body s) (list_complete body Body complete s)
body_complete body Body complete (code.Map s) = fills_complete s (map_in body s) (IsMapInside Body s) (map_complete body Body complete s)
body_complete body Body complete (code.Array s) = fills_complete s (array_in body s) (IsArrayInside Body s) (array_complete body Body complete s)
body_complete body Body complete code.Described = described_complete body Body complete

-- ---- all levels

pub behind_complete : (depth : ℕ) (c : Code) → Complete (body_at depth c) (Behind depth c)
unfolding body_at Behind
behind_complete zero c text v rest h = absurd h
behind_complete (suc depth) c text v rest h = body_complete (body_at depth) (Behind depth) (behind_complete depth) c text v rest h

pub value_at-Spells : (depth : ℕ) → Complete (value_at depth) (Spells depth)
unfolding value_at
value_at-Spells depth = value_complete (body_at depth) (Behind depth) (behind_complete depth)
