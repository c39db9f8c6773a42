-- Reading one value after another, as a loop does; and one level of reading.
use Rattle.std.proofs.Common.{◌≡◌, ℕ, zero, suc, ◌-◌, ◌+◌, ◌≤◌, ◌<◌, List, [], ◌∷◌, ◌++◌, Result, Ok, Err, refl, sym, ap, ◌∙◌, arith}
use Rattle.amqp_model.specs.declared.type_fault.TypeFault.{TypeFault}
use Rattle.amqp_model.specs.declared.type_fault.TypeFault.TheVariants as fault
use Rattle.amqp_model.specs.declared.code.Code.{Code}
use Rattle.amqp_model.specs.declared.value.Value.{Value}
use Rattle.amqp_model.specs.Data.{Data, Items, no_items, item, Pairs, no_pairs, pair}
use Rattle.amqp_model.specs.View.{view, items_view, pairs_view}
use Rattle.amqp_types.specs.Reading.{◌>>=◌, Reads, to, body_by, body_at, items_at, pair_at, pairs_at}

pub body_at_deeper : (depth : ℕ) (c : Code) (bytes : List ℕ) → 0 < depth → body_at depth c bytes ≡ body_by (body_at (depth - 1)) c bytes
unfolding body_at
body_at_deeper zero c bytes h = absurd (omega arith)
body_at_deeper (suc depth) c bytes h = let e : suc depth - 1 ≡ depth = omega arith in rw e refl

-- ---- values one after another

-- what was read before, and what follows it
abbrev pub items_before : List Value → Items → Items
items_before [] vs = vs
items_before (x ∷ xs) vs = item (view x) (items_before xs vs)

items_before-push : (xs : List Value) (x : Value) (vs : Items) → items_before (xs ++ x ∷ []) vs ≡ items_before xs (item (view x) vs)
items_before-push [] x vs = refl
items_before-push (y ∷ xs) x vs = ap (λ ws. item (view y) ws) (items_before-push xs x vs)

items_before-none : (xs : List Value) → items_before xs no_items ≡ items_view xs
items_before-none [] = refl
items_before-none (x ∷ xs) = ap (λ ws. item (view x) ws) (items_before-none xs)

items_regroup : (xs : List Value) (x : Value) (read : Result (Items × List ℕ) TypeFault) → to (items_before xs) (read >>= λ others. Ok (item (view x) others.0, others.1)) ≡ to (items_before (xs ++ x ∷ [])) read
items_regroup xs x (Ok o) = ap (λ ws. Ok (ws, o.1)) (sym (items_before-push xs x o.0))
items_regroup xs x (Err e) = refl

pub items_more : (one : Reads Data) (xs : List Value) (x : Value) (count i : ℕ) (bytes behind : List ℕ) (total : Result (Items × List ℕ) TypeFault) → i < count → one bytes ≡ Ok (view x, behind)
    → to (items_before xs) (items_at one (count - i) bytes) ≡ total → to (items_before (xs ++ x ∷ [])) (items_at one (count - (i + 1)) behind) ≡ total
unfolding items_at
items_more one xs x count i bytes behind total lt h so_far =
    let k : count - i ≡ suc (count - (i + 1)) = omega arith in
    let step : to (items_before xs) (items_at one (count - i) bytes) ≡ to (items_before (xs ++ x ∷ [])) (items_at one (count - (i + 1)) behind) = rw (k, h) (items_regroup xs x (items_at one (count - (i + 1)) behind)) in
    sym step ∙ so_far

pub items_fail : (one : Reads Data) (e : TypeFault) (xs : List Value) (count i : ℕ) (bytes : List ℕ) (total : Result (Items × List ℕ) TypeFault) → i < count → ((e ≡ fault.Memory → ⊥) → one bytes ≡ Err e)
    → to (items_before xs) (items_at one (count - i) bytes) ≡ total → (e ≡ fault.Memory → ⊥) → total ≡ Err e
unfolding items_at
items_fail one e xs count i bytes total lt h so_far other =
    let k : count - i ≡ suc (count - (i + 1)) = omega arith in
    let step : to (items_before xs) (items_at one (count - i) bytes) ≡ Err e = rw (k, h other) refl in
    sym so_far ∙ step

pub items_done : (one : Reads Data) (xs : List Value) (count i : ℕ) (bytes : List ℕ) (total : Result (Items × List ℕ) TypeFault) → count ≤ i
    → to (items_before xs) (items_at one (count - i) bytes) ≡ total → total ≡ Ok (items_view xs, bytes)
unfolding items_at
items_done one xs count i bytes total le so_far =
    let k : count - i ≡ 0 = omega arith in
    let step : to (items_before xs) (items_at one (count - i) bytes) ≡ Ok (items_view xs, bytes) = rw k (ap (λ ws. Ok (ws, bytes)) (items_before-none xs)) in
    sym so_far ∙ step

-- ---- keys with their values, one after another

abbrev pub pairs_before : List (Value × Value) → Pairs → Pairs
pairs_before [] ps = ps
pairs_before (x ∷ xs) ps = pair (view x.0) (view x.1) (pairs_before xs ps)

pairs_before-push : (xs : List (Value × Value)) (x : Value × Value) (ps : Pairs) → pairs_before (xs ++ x ∷ []) ps ≡ pairs_before xs (pair (view x.0) (view x.1) ps)
pairs_before-push [] x ps = refl
pairs_before-push (y ∷ xs) x ps = ap (λ ws. pair (view y.0) (view y.1) ws) (pairs_before-push xs x ps)

pairs_before-none : (xs : List (Value × Value)) → pairs_before xs no_pairs ≡ pairs_view xs
pairs_before-none [] = refl
pairs_before-none (x ∷ xs) = ap (λ ws. pair (view x.0) (view x.1) ws) (pairs_before-none xs)

pairs_regroup : (xs : List (Value × Value)) (x : Value × Value) (read : Result (Pairs × List ℕ) TypeFault) → to (pairs_before xs) (read >>= λ others. Ok (pair (view x.0) (view x.1) others.0, others.1)) ≡ to (pairs_before (xs ++ x ∷ [])) read
pairs_regroup xs x (Ok o) = ap (λ ws. Ok (ws, o.1)) (sym (pairs_before-push xs x o.0))
pairs_regroup xs x (Err e) = refl

pub pairs_more : (one : Reads Data) (xs : List (Value × Value)) (x : Value × Value) (count i : ℕ) (bytes behind : List ℕ) (total : Result (Pairs × List ℕ) TypeFault) → i < count → pair_at one bytes ≡ Ok ((view x.0, view x.1), behind)
    → to (pairs_before xs) (pairs_at one (count - i) bytes) ≡ total → to (pairs_before (xs ++ x ∷ [])) (pairs_at one (count - (i + 1)) behind) ≡ total
unfolding pairs_at
pairs_more one xs x count i bytes behind total lt h so_far =
    let k : count - i ≡ suc (count - (i + 1)) = omega arith in
    let step : to (pairs_before xs) (pairs_at one (count - i) bytes) ≡ to (pairs_before (xs ++ x ∷ [])) (pairs_at one (count - (i + 1)) behind) = rw (k, h) (pairs_regroup xs x (pairs_at one (count - (i + 1)) behind)) in
    sym step ∙ so_far

pub pairs_fail : (one : Reads Data) (e : TypeFault) (xs : List (Value × Value)) (count i : ℕ) (bytes : List ℕ) (total : Result (Pairs × List ℕ) TypeFault) → i < count → ((e ≡ fault.Memory → ⊥) → pair_at one bytes ≡ Err e)
    → to (pairs_before xs) (pairs_at one (count - i) bytes) ≡ total → (e ≡ fault.Memory → ⊥) → total ≡ Err e
unfolding pairs_at
pairs_fail one e xs count i bytes total lt h so_far other =
    let k : count - i ≡ suc (count - (i + 1)) = omega arith in
    let step : to (pairs_before xs) (pairs_at one (count - i) bytes) ≡ Err e = rw (k, h other) refl in
    sym so_far ∙ step

pub pairs_done : (one : Reads Data) (xs : List (Value × Value)) (count i : ℕ) (bytes : List ℕ) (total : Result (Pairs × List ℕ) TypeFault) → count ≤ i
    → to (pairs_before xs) (pairs_at one (count - i) bytes) ≡ total → total ≡ Ok (pairs_view xs, bytes)
unfolding pairs_at
pairs_done one xs count i bytes total le so_far =
    let k : count - i ≡ 0 = omega arith in
    let step : to (pairs_before xs) (pairs_at one (count - i) bytes) ≡ Ok (pairs_view xs, bytes) = rw k (ap (λ ws. Ok (ws, bytes)) (pairs_before-none xs)) in
    sym so_far ∙ step
