-- The bytes after a value, given without the value.
use Rattle.std.proofs.Common.{◌≡◌, ℕ, suc, ◌-◌, ◌+◌, ◌/◌, ◌%◌, ◌≤◌, ◌<◌, cond, List, Result, Ok, Err, Some, None, refl, sym, ap, ◌∙◌, arith, ◌==◌, true, false, Bool}
use Rattle.amqp_model.specs.declared.type_fault.TypeFault.{TypeFault}
use Rattle.amqp_model.specs.declared.type_fault.TypeFault.TheVariants as fault
use Rattle.amqp_model.specs.declared.code.Code.{Code}
use Rattle.amqp_model.specs.declared.code.Code.TheVariants as code
use Rattle.amqp_model.specs.declared.code.Size.{Size}
use Rattle.amqp_model.specs.Data as d
use Rattle.amqp_model.specs.Data.{Data, Items, item, Pairs, pair}
use Rattle.amqp_types.specs.Reading.{◌>>=◌, Reads, to, made, after, size_at, sized_at, code_at, element_kind, leaf_at, whole, value_by, one_by, items_at, pair_at, pairs_at, list_in, map_in, array_in, described_at, body_by, body_at}
use Rattle.amqp_types.proofs.Loops.{body_at_deeper}

after-to : {A B : Type 0} (f : A → B) (r : Result (A × List ℕ) TypeFault) → after (to f r) ≡ after r
after-to f (Ok x) = refl
after-to f (Err e) = refl

after-bind : {A B : Type 0} (r : Result A TypeFault) (f : A → Result (B × List ℕ) TypeFault) → after (r >>= f) ≡ (r >>= λ x. after (f x))
after-bind (Ok x) f = refl
after-bind (Err e) f = refl

bind-same : {A B : Type 0} (r : Result A TypeFault) (f g : A → Result B TypeFault) → ((x : A) → f x ≡ g x) → (r >>= f) ≡ (r >>= g)
bind-same (Ok x) f g same = same x
bind-same (Err e) f g same = refl

after-done : {A : Type 0} (r : Result A TypeFault) (rest : List ℕ) → after (r >>= λ y. Ok (y, rest)) ≡ (r >>= λ y. Ok rest)
after-done (Ok y) rest = refl
after-done (Err e) rest = refl

after-made : {A B : Type 0} (f : A → Result B TypeFault) (r : Result (A × List ℕ) TypeFault) → after (made f r) ≡ (r >>= λ x. f x.0 >>= λ y. Ok x.1)
after-made f (Ok x) = after-done (f x.0) x.1
after-made f (Err e) = refl

-- passing over what follows a constructor
abbrev pub pass_by : (Code → Reads Data) → Code → List ℕ → Result (List ℕ) TypeFault
pass_by body (code.Leaf l) bytes = after (leaf_at l bytes)
pass_by body code.EmptyList bytes = Ok bytes
pass_by body (code.List s) bytes = sized_at s bytes >>= λ x. whole (list_in body s x.0) >>= λ v. Ok x.1
pass_by body (code.Map s) bytes = sized_at s bytes >>= λ x. whole (map_in body s x.0) >>= λ v. Ok x.1
pass_by body (code.Array s) bytes = sized_at s bytes >>= λ x. whole (array_in body s x.0) >>= λ v. Ok x.1
pass_by body code.Described bytes = after (described_at body bytes)

after-body_by : (body : Code → Reads Data) (c : Code) (bytes : List ℕ) → after (body_by body c bytes) ≡ pass_by body c bytes
after-body_by body (code.Leaf l) bytes = refl
after-body_by body code.EmptyList bytes = refl
after-body_by body (code.List s) bytes = after-made (λ inside. whole (list_in body s inside)) (sized_at s bytes)
after-body_by body (code.Map s) bytes = after-made (λ inside. whole (map_in body s inside)) (sized_at s bytes)
after-body_by body (code.Array s) bytes = after-made (λ inside. whole (array_in body s inside)) (sized_at s bytes)
after-body_by body code.Described bytes = refl

pub after_body_at : (depth : ℕ) (c : Code) (bytes : List ℕ) → 0 < depth → after (body_at depth c bytes) ≡ pass_by (body_at (depth - 1)) c bytes
after_body_at depth c bytes h = ap (λ r. after r) (body_at_deeper depth c bytes h) ∙ after-body_by (body_at (depth - 1)) c bytes

pub after_value_by : (body : Code → Reads Data) (bytes : List ℕ) → after (value_by body bytes) ≡ (code_at bytes >>= λ c. after (body c.0 c.1))
after_value_by body bytes = after-bind (code_at bytes) (λ c. body c.0 c.1)

pub after_list_in : (body : Code → Reads Data) (s : Size) (inside : List ℕ) → after (list_in body s inside) ≡ (size_at s inside >>= λ n. after (items_at (one_by body None) n.0 n.1))
unfolding list_in
after_list_in body s inside =
    after-bind (size_at s inside) (λ n. to d.list (items_at (one_by body None) n.0 n.1))
    ∙ bind-same (size_at s inside) (λ n. after (to d.list (items_at (one_by body None) n.0 n.1))) (λ n. after (items_at (one_by body None) n.0 n.1)) (λ n. after-to d.list (items_at (one_by body None) n.0 n.1))

pub after_map_in : (body : Code → Reads Data) (s : Size) (inside : List ℕ)
    → after (map_in body s inside) ≡ (size_at s inside >>= λ n. cond (n.0 % 2 == 1) (Err fault.OddMap) (after (pairs_at (value_by body) (n.0 / 2) n.1)))
unfolding map_in
after_map_in body s inside =
    after-bind (size_at s inside) (λ n. cond (n.0 % 2 == 1) (Err fault.OddMap) (to d.map (pairs_at (value_by body) (n.0 / 2) n.1)))
    ∙ bind-same (size_at s inside) (λ n. after (cond (n.0 % 2 == 1) (Err fault.OddMap) (to d.map (pairs_at (value_by body) (n.0 / 2) n.1)))) (λ n. cond (n.0 % 2 == 1) (Err fault.OddMap) (after (pairs_at (value_by body) (n.0 / 2) n.1))) (λ n. either (n.0 % 2 == 1) (pairs_at (value_by body) (n.0 / 2) n.1))
  where
    either : (b : Bool) (r : Result (Pairs × List ℕ) TypeFault) → after (cond b (Err fault.OddMap) (to d.map r)) ≡ cond b (Err fault.OddMap) (after r)
    either true r = refl
    either false r = after-to d.map r

pub after_array_in : (body : Code → Reads Data) (s : Size) (inside : List ℕ)
    → after (array_in body s inside) ≡ (size_at s inside >>= λ n. code_at n.1 >>= λ c. element_kind n.0 c.0 >>= λ k. after (items_at (one_by body (Some c.0)) n.0 c.1))
unfolding array_in
after_array_in body s inside =
    after-bind (size_at s inside) (λ n. code_at n.1 >>= λ c. element_kind n.0 c.0 >>= λ k. to (d.array k) (items_at (one_by body (Some c.0)) n.0 c.1))
    ∙ bind-same (size_at s inside) _ _ (λ n. after-bind (code_at n.1) (λ c. element_kind n.0 c.0 >>= λ k. to (d.array k) (items_at (one_by body (Some c.0)) n.0 c.1))
    ∙ bind-same (code_at n.1) _ _ (λ c. after-bind (element_kind n.0 c.0) (λ k. to (d.array k) (items_at (one_by body (Some c.0)) n.0 c.1))
    ∙ bind-same (element_kind n.0 c.0) _ _ (λ k. after-to (d.array k) (items_at (one_by body (Some c.0)) n.0 c.1))))

pub after_described_at : (body : Code → Reads Data) (bytes : List ℕ) → after (described_at body bytes) ≡ (after (value_by body bytes) >>= λ rest. after (value_by body rest))
unfolding described_at
after_described_at body bytes = first (value_by body bytes)
  where
    second : (x : Data × List ℕ) (r : Result (Data × List ℕ) TypeFault) → after (r >>= λ y. Ok (d.described x.0 y.0, y.1)) ≡ after r
    second x (Ok y) = refl
    second x (Err e) = refl

    first : (r : Result (Data × List ℕ) TypeFault) → after (r >>= λ x. value_by body x.1 >>= λ y. Ok (d.described x.0 y.0, y.1)) ≡ (after r >>= λ rest. after (value_by body rest))
    first (Ok x) = second x (value_by body x.1)
    first (Err e) = refl

pub after_pair_at : (one : Reads Data) (bytes : List ℕ) → after (pair_at one bytes) ≡ (after (one bytes) >>= λ rest. after (one rest))
unfolding pair_at
after_pair_at one bytes = first (one bytes)
  where
    second : (x : Data × List ℕ) (r : Result (Data × List ℕ) TypeFault) → after {A = Data × Data} (r >>= λ y. Ok ((x.0, y.0), y.1)) ≡ after r
    second x (Ok y) = refl
    second x (Err e) = refl

    first : (r : Result (Data × List ℕ) TypeFault) → after {A = Data × Data} (r >>= λ x. one x.1 >>= λ y. Ok ((x.0, y.0), y.1)) ≡ (after r >>= λ rest. after (one rest))
    first (Ok x) = second x (one x.1)
    first (Err e) = refl

-- ---- loops

after_items : (one : Reads Data) (n : ℕ) (bytes : List ℕ) → after (items_at one (suc n) bytes) ≡ (after (one bytes) >>= λ rest. after (items_at one n rest))
unfolding items_at
after_items one n bytes = first (one bytes)
  where
    second : (x : Data × List ℕ) (r : Result (Items × List ℕ) TypeFault) → after (r >>= λ y. Ok (item x.0 y.0, y.1)) ≡ after r
    second x (Ok y) = refl
    second x (Err e) = refl

    first : (r : Result (Data × List ℕ) TypeFault) → after (r >>= λ x. items_at one n x.1 >>= λ y. Ok (item x.0 y.0, y.1)) ≡ (after r >>= λ rest. after (items_at one n rest))
    first (Ok x) = second x (items_at one n x.1)
    first (Err e) = refl

after_pairs : (one : Reads Data) (n : ℕ) (bytes : List ℕ) → after (pairs_at one (suc n) bytes) ≡ (after (pair_at one bytes) >>= λ rest. after (pairs_at one n rest))
unfolding pairs_at
after_pairs one n bytes = first (pair_at one bytes)
  where
    second : (x : (Data × Data) × List ℕ) (r : Result (Pairs × List ℕ) TypeFault) → after (r >>= λ y. Ok (pair x.0.0 x.0.1 y.0, y.1)) ≡ after r
    second x (Ok y) = refl
    second x (Err e) = refl

    first : (r : Result ((Data × Data) × List ℕ) TypeFault) → after (r >>= λ x. pairs_at one n x.1 >>= λ y. Ok (pair x.0.0 x.0.1 y.0, y.1)) ≡ (after r >>= λ rest. after (pairs_at one n rest))
    first (Ok x) = second x (pairs_at one n x.1)
    first (Err e) = refl

pub pass_items_more : (one : Reads Data) (count i : ℕ) (bytes behind : List ℕ) (total : Result (List ℕ) TypeFault) → i < count → after (one bytes) ≡ Ok behind
    → after (items_at one (count - i) bytes) ≡ total → after (items_at one (count - (i + 1)) behind) ≡ total
pass_items_more one count i bytes behind total lt h so_far =
    let k : count - i ≡ suc (count - (i + 1)) = omega arith in
    let step : after (items_at one (count - i) bytes) ≡ after (items_at one (count - (i + 1)) behind) = rw k (after_items one (count - (i + 1)) bytes ∙ rw h refl) in
    sym step ∙ so_far

pub pass_items_fail : (one : Reads Data) (e : TypeFault) (count i : ℕ) (bytes : List ℕ) (total : Result (List ℕ) TypeFault) → i < count → after (one bytes) ≡ Err e
    → after (items_at one (count - i) bytes) ≡ total → total ≡ Err e
pass_items_fail one e count i bytes total lt h so_far =
    let k : count - i ≡ suc (count - (i + 1)) = omega arith in
    let step : after (items_at one (count - i) bytes) ≡ Err e = rw k (after_items one (count - (i + 1)) bytes ∙ rw h refl) in
    sym so_far ∙ step

pub pass_items_done : (one : Reads Data) (count i : ℕ) (bytes : List ℕ) (total : Result (List ℕ) TypeFault) → count ≤ i → after (items_at one (count - i) bytes) ≡ total → total ≡ Ok bytes
unfolding items_at
pass_items_done one count i bytes total le so_far =
    let k : count - i ≡ 0 = omega arith in
    let step : after (items_at one (count - i) bytes) ≡ Ok bytes = rw k refl in
    sym so_far ∙ step

pub pass_pairs_more : (one : Reads Data) (count i : ℕ) (bytes behind : List ℕ) (total : Result (List ℕ) TypeFault) → i < count → after (pair_at one bytes) ≡ Ok behind
    → after (pairs_at one (count - i) bytes) ≡ total → after (pairs_at one (count - (i + 1)) behind) ≡ total
pass_pairs_more one count i bytes behind total lt h so_far =
    let k : count - i ≡ suc (count - (i + 1)) = omega arith in
    let step : after (pairs_at one (count - i) bytes) ≡ after (pairs_at one (count - (i + 1)) behind) = rw k (after_pairs one (count - (i + 1)) bytes ∙ rw h refl) in
    sym step ∙ so_far

pub pass_pairs_fail : (one : Reads Data) (e : TypeFault) (count i : ℕ) (bytes : List ℕ) (total : Result (List ℕ) TypeFault) → i < count → after (pair_at one bytes) ≡ Err e
    → after (pairs_at one (count - i) bytes) ≡ total → total ≡ Err e
pass_pairs_fail one e count i bytes total lt h so_far =
    let k : count - i ≡ suc (count - (i + 1)) = omega arith in
    let step : after (pairs_at one (count - i) bytes) ≡ Err e = rw k (after_pairs one (count - (i + 1)) bytes ∙ rw h refl) in
    sym so_far ∙ step

pub pass_pairs_done : (one : Reads Data) (count i : ℕ) (bytes : List ℕ) (total : Result (List ℕ) TypeFault) → count ≤ i → after (pairs_at one (count - i) bytes) ≡ total → total ≡ Ok bytes
unfolding pairs_at
pass_pairs_done one count i bytes total le so_far =
    let k : count - i ≡ 0 = omega arith in
    let step : after (pairs_at one (count - i) bytes) ≡ Ok bytes = rw k refl in
    sym so_far ∙ step
