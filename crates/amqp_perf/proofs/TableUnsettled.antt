-- An unsettled map against its line in the table of attach.
use Rattle.std.proofs.Common.{◌≡◌, ℕ, suc, ◌*◌, ◌-◌, ◌/◌, Bool, true, false, cond, inl, inr, List, [], ◌∷◌, ◌++◌, Option, Some, None, Ok, Err, refl, sym, ap, subst, ◌∙◌, append_assoc, arith}
use Rattle.std.proofs.lemmas.List.{append-nil}
use Rattle.arrayvec.specs.ArrayVec.{ArrayVec}
use Rattle.amqp_model.specs.declared.code.Leaf.{Leaf}
use Rattle.amqp_model.specs.declared.code.Leaf.TheVariants as leaf
use Rattle.amqp_model.specs.declared.code.Code.{Code}
use Rattle.amqp_model.specs.declared.code.Code.TheVariants as code
use Rattle.amqp_model.specs.declared.code.Size.{Size}
use Rattle.amqp_model.specs.declared.code.Kind.{Kind}
use Rattle.amqp_model.specs.declared.code.Kind.TheVariants as kind
use Rattle.amqp_model.specs.Codes.{leaf_kind}
use Rattle.amqp_model.specs.Data as d
use Rattle.amqp_model.specs.Data.{Data, Items, no_items, item, Pairs, no_pairs, pair}
use Rattle.amqp_types.specs.Reading.{after, code_at, size_at, value_at, found_before}
use Rattle.amqp_types.specs.Spells.{Spelling, Spells, Behind, AreItems, ArePairs, Fills, IsMapInside}
use Rattle.amqp_model.specs.Data.{count, pair_count}
use Rattle.amqp_types.proofs.Tools.{bind_ok as type_bind_ok, ok_is as type_ok_is}
use Rattle.amqp_types.proofs.Typed.{leaf_meant}
use Rattle.amqp_types.proofs.Sound.{Spells-value_at}
use Rattle.amqp_types.proofs.Complete.{code_complete, size_complete, sized_complete, value_at-Spells}
use Rattle.amqp_model.specs.declared.perf_fault.PerfFault.TheVariants as fault
use Rattle.amqp_model.specs.declared.state.UnsettledDelivery.{UnsettledDelivery}
use Rattle.amqp_perf.specs.Faults.{inner, by_fault, ◌>>=◌}
use Rattle.amqp_model.specs.PerfFaults.{outer}
use Rattle.amqp_perf.specs.Fields as read
use Rattle.amqp_perf.specs.Fields.{At}
use Rattle.amqp_perf.specs.States.{state_at, some_tag, tag_key, is_among, not_among, deliveries_at, unsettled_by, unsettled_in, unsettled_at}
use Rattle.amqp_perf.specs.Tables.{Field, Holds, mandatory, optional, tag}
use Rattle.amqp_perf.specs.ListTables.{AreDeliveries, deliveries, delivery_state}
use Rattle.amqp_perf.proofs.TablePlaces.{found, bind_ok, found_is, by_fault_ok, Ready, Moves, Agrees, instead, moved_deep, taken}
use Rattle.amqp_perf.proofs.TableFields.{optional_tag}
use Rattle.amqp_perf.proofs.TableNested.{Found, ReadsKind, in_place_agrees}
use Rattle.amqp_perf.proofs.TableStates.{Four, optional_state}

-- ---- a tag that must be there

key_agrees : (n : ℕ) → Agrees n tag_key (mandatory tag)
unfolding tag_key
key_agrees n = record {
  moves = λ at x behind deep e.
      let b = bind_ok (read.tag at) some_tag (x, behind) e in
      by_given at x behind b.0.0 b.0.1 ((optional_tag n).moves at b.0.0 b.0.1 deep b.1) b.2;
  ready = λ at x fs deep r.
      let t = (optional_tag n).ready at (Some x) fs deep (instead (mandatory tag x) (optional tag (Some x)) fs at (λ v h. h) r) in
      record { behind = t.behind; took = ap (λ r. r >>= some_tag) t.took; deep = t.deep; ready = t.ready };
}
  where
    by_given : (at : At) (x : ArrayVec ℕ) (behind : At) (o : Option (ArrayVec ℕ)) (a : At) → Moves at (optional tag o) a → some_tag (o, a) ≡ Ok (x, behind) → Moves at (mandatory tag x) behind
    by_given at x behind None a m e = absurd cc
    by_given at x behind (Some y) a m e =
        let p = found_is (y, a) (x, behind) e in
        subst (λ b. Moves at (mandatory tag x) b) (ap (λ q. q.1) p) (subst (λ z. Moves at (mandatory tag z) a) (ap (λ q. q.0) p) m)

-- ---- the item at the front is the one that is known

record ItemIs (at : At) (P : Data → Type 0) (v : Data) (more : List ℕ) (behind : At) : Type 0 where
  pub holds : P v
  pub bytes : behind.bytes ≡ more
  pub left : at.left ≡ suc behind.left

same_item : (n m : ℕ) (at : At) (P : Data → Type 0) (behind : At) (first more : List ℕ) (v : Data) → Moves at P behind → at.depth ≡ n → at.left ≡ suc m → at.bytes ≡ first ++ more → Spells n first v → ItemIs at P v more behind
same_item n m at P behind first more v (inl t) deep left parts spelled =
    let there : value_at n at.bytes ≡ found_before t.value behind.bytes =
    ap (λ (b : List ℕ). value_at n b) t.parts ∙ value_at-Spells n t.text t.value behind.bytes (subst (λ k. Spells k t.text t.value) deep t.spelled) in
    let here : value_at n at.bytes ≡ found_before v more = ap (λ (b : List ℕ). value_at n b) parts ∙ value_at-Spells n first v more spelled in
    let p : (t.value, behind.bytes) ≡ (v, more) = type_ok_is (t.value, behind.bytes) (v, more) (sym there ∙ here) in
    record { holds = subst P (ap (λ q. q.0) p) t.holds; bytes = ap (λ q. q.1) p; left = t.left }
same_item n m at P behind first more v (inr t) deep left parts spelled = absurd (not_none at.left m t.none left)
  where
    not_none : (a m : ℕ) → a ≡ 0 → a ≡ suc m → ⊥
    not_none a m e h = omega arith

one_pair : (l k : ℕ) → l ≡ 2 * suc k → l ≡ suc (suc (2 * k))
one_pair l k e = omega arith

less : (a b c k : ℕ) → a ≡ suc (suc (2 * k)) → a ≡ suc b → b ≡ suc c → c ≡ 2 * k
less a b c k e f g = omega arith

second_left : (a b k : ℕ) → a ≡ suc (suc k) → a ≡ suc b → b ≡ suc k
second_left a b k e f = omega arith

fresh : (before : List UnsettledDelivery) (t : ArrayVec ℕ) (u : Unit {0}) → not_among before t ≡ Ok u → is_among before t ≡ false
fresh before t u e = by_test (is_among before t) refl e
  where
    by_test : (b : Bool) → is_among before t ≡ b → cond b (Err fault.DuplicateTag) (found tt) ≡ Ok u → is_among before t ≡ false
    by_test true is e = absurd cc
    by_test false is e = is

-- what was read of a map's pairs
record Delivered (before all : List UnsettledDelivery) (ps : Pairs) : Type 0 where
  pub us : List UnsettledDelivery
  pub is : all ≡ before ++ us
  pub are : AreDeliveries before us ps

deliveries_sound : (n : ℕ) (ps : Pairs) (before all : List UnsettledDelivery) (at : At) → at.depth ≡ Four n → ArePairs (Spells (Four n)) at.bytes ps → at.left ≡ 2 * pair_count ps
    → deliveries_at before (pair_count ps) at ≡ Ok all → Delivered before all ps
unfolding deliveries_at
deliveries_sound n no_pairs before all at deep s left e = record { us = []; is = sym (found_is before all e) ∙ sym (append-nil before); are = tt }
deliveries_sound n (pair k v ps) before all at deep s left e =
    let two = one_pair at.left (pair_count ps) left in
    taken (tag_key at) _ all e (λ key is1 e1.
    taken (not_among before key.0) _ all e1 (λ u is2 e2.
    taken (state_at key.1) _ all e2 (λ st is3 e3.
    let m1 = (key_agrees (Four n)).moves at key.0 key.1 deep is1 in
    let i1 = same_item (Four n) (suc (2 * pair_count ps)) at (mandatory tag key.0) key.1 s.0 (s.1 ++ s.2) k m1 deep two s.3 s.4 in
    let deep1 : key.1.depth ≡ Four n = moved_deep at (mandatory tag key.0) key.1 m1 ∙ deep in
    let m2 = (optional_state n).moves key.1 st.0 st.1 deep1 is3 in
    let i2 = same_item (Four n) (2 * pair_count ps) key.1 (optional delivery_state st.0) st.1 s.1 s.2 v m2 deep1 (second_left at.left key.1.left (2 * pair_count ps) two i1.left) i1.bytes s.5 in
    let deep2 : st.1.depth ≡ Four n = moved_deep key.1 (optional delivery_state st.0) st.1 m2 ∙ deep1 in
    let u : UnsettledDelivery = record { tag = key.0; state = st.0 } in
    let r = deliveries_sound n ps (before ++ u ∷ []) all st.1 deep2 (subst (λ (b : List ℕ). ArePairs (Spells (Four n)) b ps) (sym i2.bytes) s.6) (less at.left key.1.left st.1.left (pair_count ps) two i1.left i2.left) e3 in
    record { us = u ∷ r.us; is = r.is ∙ append_assoc before (u ∷ []) r.us; are = (i1.holds, fresh before key.0 tt is2, i2.holds, r.are) })))

-- ---- the pairs as items

flat : Pairs → Items
flat no_pairs = no_items
flat (pair k v ps) = item k (item v (flat ps))

lines : List UnsettledDelivery → List Field
lines [] = []
lines (u ∷ us) = mandatory tag u.tag ∷ optional delivery_state u.state ∷ lines us

flat_spelled : (One : Spelling) (bytes : List ℕ) (ps : Pairs) → ArePairs One bytes ps → AreItems One bytes (flat ps)
unfolding flat
flat_spelled One bytes no_pairs s = s
flat_spelled One bytes (pair k v ps) s = (s.0, s.1 ++ s.2, s.3, s.4, (s.1, s.2, refl, s.5, flat_spelled One s.2 ps s.6))

flat_count : (ps : Pairs) → count (flat ps) ≡ 2 * pair_count ps
unfolding flat
flat_count no_pairs = refl
flat_count (pair k v ps) = let e = flat_count ps in omega (arith, e)

flat_holds : (ps : Pairs) (before us : List UnsettledDelivery) → AreDeliveries before us ps → Holds (lines us) (flat ps)
unfolding flat lines
flat_holds no_pairs before [] h = tt
flat_holds (pair k v ps) before [] h = absurd h
flat_holds no_pairs before (u ∷ us) h = absurd h
flat_holds (pair k v ps) before (u ∷ us) h = (h.0, (h.2, flat_holds ps (before ++ u ∷ []) us h.3))

deliveries_complete : (n : ℕ) (ps : Pairs) (before us : List UnsettledDelivery) (at : At) → at.depth ≡ Four n → AreDeliveries before us ps → Ready at (lines us) → deliveries_at before (pair_count ps) at ≡ Ok (before ++ us)
unfolding deliveries_at lines
deliveries_complete n no_pairs before [] at deep h r = ap (λ ds. found ds) (sym (append-nil before))
deliveries_complete n (pair k v ps) before [] at deep h r = absurd h
deliveries_complete n no_pairs before (u ∷ us) at deep h r = absurd h
deliveries_complete n (pair k v ps) before (u ∷ us) at deep h r =
    let t1 = (key_agrees (Four n)).ready at u.tag _ deep r in
    let t2 = (optional_state n).ready t1.behind u.state _ t1.deep t1.ready in
    step t1.behind t2.behind t1.took t2.took (deliveries_complete n ps (before ++ u ∷ []) us t2.behind t2.deep h.3 t2.ready)
  where
    step : (at1 at2 : At) → tag_key at ≡ Ok (u.tag, at1) → state_at at1 ≡ Ok (u.state, at2) → deliveries_at (before ++ u ∷ []) (pair_count ps) at2 ≡ Ok ((before ++ u ∷ []) ++ us)
        → deliveries_at before (suc (pair_count ps)) at ≡ Ok (before ++ u ∷ us)
    step at1 at2 e1 e2 e3 =
        ap (λ r. r >>= λ key. not_among before key.0 >>= λ none. state_at key.1 >>= λ st. deliveries_at (before ++ record { tag = key.0; state = st.0 } ∷ []) (pair_count ps) st.1) e1
        ∙ ap (λ b. cond b (Err fault.DuplicateTag) (found tt) >>= λ none. state_at at1 >>= λ st. deliveries_at (before ++ record { tag = u.tag; state = st.0 } ∷ []) (pair_count ps) st.1) h.1
        ∙ ap (λ r. r >>= λ st. deliveries_at (before ++ record { tag = u.tag; state = st.0 } ∷ []) (pair_count ps) st.1) e2
        ∙ e3
        ∙ ap (λ ds. found ds) (append_assoc before (u ∷ []) us)

-- ---- the map

half : (n : ℕ) → (2 * n) / 2 ≡ n
half n = omega arith

less_one : (n : ℕ) → suc n - 1 ≡ n
less_one n = omega arith

abbrev Deliveries : Type 0
Deliveries = Option (List UnsettledDelivery)

abbrev place_in : ℕ → ℕ → List ℕ → At
place_in n k bytes = record { depth = n; left = 2 * k; bytes = bytes }

-- what is read behind the constructor of a map
map_reads : (n : ℕ) (bytes body rest : List ℕ) (z : Size) (v : Data) (s : Fills z body v (IsMapInside (Behind n) z))
    → unsettled_by (suc n) bytes (code.Map z, body ++ rest) ≡ (deliveries_at [] (pair_count s.spelled.pairs) (place_in n (pair_count s.spelled.pairs) s.spelled.bytes) >>= λ ds. found (Some ds))
map_reads n bytes body rest z v s =
    let i = s.spelled in
    let k = pair_count i.pairs in
    ap (λ r. by_fault outer r >>= λ x. by_fault inner (size_at z x.0) >>= λ c. deliveries_at [] (c.0 / 2) (record { depth = suc n - 1; left = c.0; bytes = c.1 }) >>= λ ds. found (Some ds)) (sized_complete z body s.inside rest s.sized)
    ∙ ap (λ (t : List ℕ). by_fault inner (size_at z t) >>= λ c. deliveries_at [] (c.0 / 2) (record { depth = suc n - 1; left = c.0; bytes = c.1 }) >>= λ ds. found (Some ds)) i.parts
    ∙ ap (λ r. by_fault inner r >>= λ c. deliveries_at [] (c.0 / 2) (record { depth = suc n - 1; left = c.0; bytes = c.1 }) >>= λ ds. found (Some ds)) (size_complete z i.field (2 * k) i.bytes i.counted)
    ∙ ap (λ m. deliveries_at [] m (record { depth = suc n - 1; left = 2 * k; bytes = i.bytes }) >>= λ ds. found (Some ds)) (half k)
    ∙ ap (λ m. deliveries_at [] k (place_in m k i.bytes) >>= λ ds. found (Some ds)) (less_one n)

abbrev Five : ℕ → ℕ
Five n = suc (Four n)

-- how the value begins, as it is read
code_reads : (n : ℕ) (bytes text rest : List ℕ) (v : Data) (h : Spells n text v) → bytes ≡ text ++ rest → code_at bytes ≡ Ok (h.constructor, h.body ++ rest)
code_reads n bytes text rest v h parts =
    ap (λ (t : List ℕ). code_at t) (parts ∙ ap (λ (t : List ℕ). t ++ rest) h.parts) ∙ code_complete h.byte h.constructor (h.body ++ rest) h.known

map_sound : (n : ℕ) (bytes body rest : List ℕ) (z : Size) (v : Data) (u : Deliveries) → Fills z body v (IsMapInside (Behind (Four n)) z) → unsettled_by (Five n) bytes (code.Map z, body ++ rest) ≡ Ok u → optional deliveries u v
map_sound n bytes body rest z v u s e =
    let i = s.spelled in
    let k = pair_count i.pairs in
    let b = bind_ok (deliveries_at [] k (place_in (Four n) k i.bytes)) (λ ds. found (Some ds)) u (sym (map_reads (Four n) bytes body rest z v s) ∙ e) in
    let r = deliveries_sound n i.pairs [] b.0 (place_in (Four n) k i.bytes) refl i.spelled refl b.1 in
    subst (λ o. optional deliveries o v) (ap (λ ds. Some ds) (sym r.is) ∙ found_is (Some b.0) u b.2) (i.pairs, sym i.is, r.are)

unsettled_sound : (n : ℕ) (bytes : List ℕ) (o : Deliveries) (rest : List ℕ) → unsettled_in (Five n) bytes ≡ Ok (o, rest) → Found (Five n) bytes rest (optional deliveries o)
unfolding unsettled_in Behind
unsettled_sound n bytes o rest e =
    taken (by_fault outer (after (value_at (Five n) bytes))) _ (o, rest) e (λ behind is1 e1.
    taken (by_fault outer (code_at bytes)) _ (o, rest) e1 (λ opened is2 e2.
    taken (unsettled_by (Five n) bytes opened) _ (o, rest) e2 (λ u is3 e3.
    let a = type_bind_ok (value_at (Five n) bytes) (λ x. Ok x.1) behind (by_fault_ok outer (after (value_at (Five n) bytes)) behind is1) in
    let s = Spells-value_at (Five n) bytes a.0.0 a.0.1 a.1 in
    let h = s.2 in
    let opens = type_ok_is opened (h.constructor, h.body ++ a.0.1) (sym (by_fault_ok outer (code_at bytes) opened is2) ∙ code_reads (Five n) bytes s.0 a.0.1 a.0.0 h s.1) in
    let last = type_ok_is a.0.1 behind a.2 in
    let p = found_is {A = Deliveries × List ℕ} (u, behind) (o, rest) e3 in
    record {
      text = s.0;
      value = a.0.0;
      parts = s.1 ∙ ap (λ (t : List ℕ). s.0 ++ t) (last ∙ ap (λ q. q.1) p);
      spelled = h;
      holds = subst (λ z. optional deliveries z a.0.0) (ap (λ q. q.0) p) (by_code h.constructor h.body a.0.0 a.0.1 u h.spelled (ap (λ q. unsettled_by (Five n) bytes q) (sym opens) ∙ is3));
    })))
  where
    by_code : (c : Code) (body : List ℕ) (v : Data) (more : List ℕ) (u : Deliveries) → Behind (Five n) c body v → unsettled_by (Five n) bytes (c, body ++ more) ≡ Ok u → optional deliveries u v
    by_code (code.Leaf leaf.Null) body v more u s e = subst (λ z. optional deliveries z v) (found_is None u e) (sym (type_ok_is d.null v s.meant))
    by_code (code.Map z) body v more u s e = map_sound n bytes body more z v u s e
    by_code c body v more u s e = absurd cc

unsettled_complete : (n : ℕ) (text rest : List ℕ) (v : Data) (o : Deliveries) → Spells (Five n) text v → optional deliveries o v → unsettled_in (Five n) (text ++ rest) ≡ Ok (o, rest)
unfolding unsettled_in Behind
unsettled_complete n text rest v o h means =
    ap (λ r. by_fault outer (after r) >>= λ behind. by_fault outer (code_at (text ++ rest)) >>= λ opened. unsettled_by (Five n) (text ++ rest) opened >>= λ u. found {A = Deliveries × List ℕ} (u, behind)) (value_at-Spells (Five n) text v rest h)
    ∙ ap (λ r. by_fault outer r >>= λ opened. unsettled_by (Five n) (text ++ rest) opened >>= λ u. found {A = Deliveries × List ℕ} (u, rest)) (code_reads (Five n) (text ++ rest) text rest v h refl)
    ∙ ap (λ r. r >>= λ u. found {A = Deliveries × List ℕ} (u, rest)) (by_given o means)
  where
    kind_is : (a b : Kind) → Some a ≡ Some b → a ≡ b
    kind_is a b e = cc

    by_leaf : (l : Leaf) → kind.Null ≡ leaf_kind l → unsettled_by (Five n) (text ++ rest) (code.Leaf l, h.body ++ rest) ≡ Ok None
    by_leaf leaf.Null e = refl
    by_leaf l e = absurd cc

    null_code : (c : Code) → Behind (Five n) c h.body d.null → unsettled_by (Five n) (text ++ rest) (c, h.body ++ rest) ≡ Ok None
    null_code (code.Leaf l) s = by_leaf l (kind_is _ _ (leaf_meant l s.chunk d.null s.meant))
    null_code code.EmptyList s = let e = s.1 in absurd cc
    null_code (code.List z) s = let e = s.spelled.is in absurd cc
    null_code (code.Map z) s = let e = s.spelled.is in absurd cc
    null_code (code.Array z) s = let e = s.spelled.is in absurd cc
    null_code code.Described s = let e = s.is in absurd cc

    not_map : (l : Leaf) → kind.Map ≡ leaf_kind l → ⊥
    not_map leaf.Null e = absurd cc
    not_map l e = absurd cc

    map_code : (c : Code) (ps : Pairs) (us : List UnsettledDelivery) → Behind (Five n) c h.body (d.map ps) → AreDeliveries [] us ps → unsettled_by (Five n) (text ++ rest) (c, h.body ++ rest) ≡ Ok (Some us)
    map_code (code.Leaf l) ps us s are = absurd (not_map l (kind_is _ _ (leaf_meant l s.chunk (d.map ps) s.meant)))
    map_code code.EmptyList ps us s are = let e = s.1 in absurd cc
    map_code (code.List z) ps us s are = let e = s.spelled.is in absurd cc
    map_code (code.Map z) ps us s are =
        let i = s.spelled in
        let e = i.is in
        let same : ps ≡ i.pairs = cc in
        let h2 = subst (λ q. AreDeliveries [] us q) same are in
        let k = pair_count i.pairs in
        map_reads (Four n) (text ++ rest) h.body rest z (d.map ps) s
        ∙ ap (λ r. r >>= λ ds. found (Some ds))
        (deliveries_complete n i.pairs [] us (place_in (Four n) k i.bytes) refl h2 (record { items = flat i.pairs; spelled = flat_spelled (Spells (Four n)) i.bytes i.pairs i.spelled; counted = flat_count i.pairs; holds = flat_holds i.pairs [] us h2 }))
    map_code (code.Array z) ps us s are = let e = s.spelled.is in absurd cc
    map_code code.Described ps us s are = let e = s.is in absurd cc

    by_given : (o : Deliveries) → optional deliveries o v → unsettled_by (Five n) (text ++ rest) (h.constructor, h.body ++ rest) ≡ Ok o
    by_given None m = null_code h.constructor (subst (λ w. Behind (Five n) h.constructor h.body w) m h.spelled)
    by_given (Some us) m = map_code h.constructor m.0 us (subst (λ w. Behind (Five n) h.constructor h.body w) m.1 h.spelled) m.2

unsettled_reads : (n : ℕ) → ReadsKind (Five n) unsettled_in deliveries
unsettled_reads n = record { sound = unsettled_sound n; complete = unsettled_complete n; never = λ x h. let e = h.1 in absurd cc }

pub optional_unsettled : (n : ℕ) → Agrees (suc (Four n)) unsettled_at (optional deliveries)
unfolding unsettled_at
optional_unsettled n = in_place_agrees (Five n) unsettled_in deliveries (unsettled_reads n)
