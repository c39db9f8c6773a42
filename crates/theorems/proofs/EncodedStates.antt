-- A delivery state that bytes encode, as the router keeps it, is within the limits of its types.
use Rattle.std.proofs.Common.{◌≡◌, ◌∙◌, refl, sym, ap, subst, ◌⊎◌, inl, inr, ℕ, zero, suc, ◌≤◌, Bool, true, false, nat_lt, List, [], ◌∷◌, ◌++◌, length, Option, Some, None, IsSomeAnd, arith}
use Rattle.std.specs.Int.{w32, to_be_bytes}
use Rattle.amqp_model.specs.declared.code.Code.{Code}
use Rattle.amqp_model.specs.declared.code.Code.TheVariants as code
use Rattle.amqp_model.specs.declared.code.Leaf.{Leaf}
use Rattle.amqp_model.specs.declared.code.Leaf.TheVariants as leaf
use Rattle.amqp_model.specs.declared.code.Kind.{Kind}
use Rattle.amqp_model.specs.declared.code.Kind.TheVariants as kind
use Rattle.amqp_model.specs.Codes.{leaf_kind}
use Rattle.amqp_model.specs.Data as d
use Rattle.amqp_model.specs.Data.{Data, Items, no_items, item, Pairs, no_pairs, pair}
use Rattle.amqp_model.specs.ValueSpelling.{constructed, piece_by, spelling as value_spelling}
use Rattle.amqp_model.specs.declared.descriptor.Descriptor.{Descriptor}
use Rattle.amqp_model.specs.declared.descriptor.Descriptor.TheVariants as is
use Rattle.amqp_model.specs.declared.perf.Attach.{Attach}
use Rattle.amqp_model.specs.declared.perf.Perf.{Perf}
use Rattle.amqp_model.specs.declared.perf.Perf.TheVariants as perf
use Rattle.amqp_model.specs.declared.state.DeliveryState.{DeliveryState}
use Rattle.amqp_model.specs.declared.state.DeliveryState.TheVariants as state
use Rattle.amqp_model.specs.declared.state.Fault.{Fault}
use Rattle.amqp_model.specs.declared.state.UnsettledDelivery.{UnsettledDelivery}
use Rattle.amqp_types.specs.Spells.{AreItems, ArePairs, Behind, Spells}
use Rattle.amqp_types.specs.Fitting.{AllItems, AllPairs, FitsIn}
use Rattle.amqp_types.proofs.Typed.{leaf_meant}
use Rattle.amqp_perf.specs.Fitting.{Each, IsSymbol, IsMap}
use Rattle.amqp_perf.specs.Tables.{Field, Holds, IsList, optional, map, symbol}
use Rattle.amqp_perf.specs.ListTables.{error_table, rejected_table, modified_table, delivery_state, AreDeliveries, attach_table, disposition_table, SpellsPerf}
use Rattle.amqp_perf.proofs.TableLists.{described_parts}
use Rattle.journal_codec.specs.Batches.{IsTerminal}
use Rattle.theorems.specs.AsTold.{HasEntry, GivesState}
use Rattle.theorems.proofs.Encoded.{AllBytes, front_bytes, back_bytes, same_bytes, Short, spelled_fits, fits_deeper}

-- A value that bytes encode, with at most this many levels of nesting, and what is inside it.
pub record Encoded (depth : ℕ) (v : Data) : Type 0 where
  pub bytes : List ℕ
  pub spelled : Spells depth bytes v
  pub all : AllBytes bytes

in_described : (n : ℕ) (a v : Data) → Encoded (suc n) (d.described a v) → Encoded n v
in_described n a v e =
    let p = described_parts n e.bytes a v e.spelled in
    record {
      bytes = p.second;
      spelled = p.value;
      all = back_bytes p.first p.second (same_bytes e.bytes (p.byte ∷ (p.first ++ p.second)) p.parts e.all).1;
    }

items_encoded : (n : ℕ) (bytes : List ℕ) (vs : Items) → AreItems (Spells n) bytes vs → AllBytes bytes → AllItems (Encoded n) vs
items_encoded n bytes no_items h all = tt
items_encoded n bytes (item v vs) h all =
    let there = same_bytes bytes (h.0 ++ h.1) h.2 all in
    (record { bytes = h.0; spelled = h.3; all = front_bytes h.0 h.1 there }, items_encoded n h.1 vs h.4 (back_bytes h.0 h.1 there))

pairs_encoded : (n : ℕ) (bytes : List ℕ) (ps : Pairs) → ArePairs (Spells n) bytes ps → AllBytes bytes → AllPairs (Encoded n) ps
pairs_encoded n bytes no_pairs h all = tt
pairs_encoded n bytes (pair k v ps) h all =
    let there = same_bytes bytes (h.0 ++ (h.1 ++ h.2)) h.3 all in
    let behind = back_bytes h.0 (h.1 ++ h.2) there in (
      record { bytes = h.0; spelled = h.4; all = front_bytes h.0 (h.1 ++ h.2) there },
      record { bytes = h.1; spelled = h.5; all = front_bytes h.1 h.2 behind },
      pairs_encoded n h.2 ps h.6 (back_bytes h.1 h.2 behind),
    )

kind_is : (a b : Kind) → Some a ≡ Some b → a ≡ b
kind_is a b e = cc

leaf_no_list : (l : Leaf) → kind.List ≡ leaf_kind l → ⊥
leaf_no_list leaf.Null e = absurd cc
leaf_no_list l e = absurd cc

leaf_no_map : (l : Leaf) → kind.Map ≡ leaf_kind l → ⊥
leaf_no_map leaf.Null e = absurd cc
leaf_no_map l e = absurd cc

in_list : (n : ℕ) (vs : Items) → Encoded (suc n) (d.list vs) → AllItems (Encoded n) vs
unfolding Behind
in_list n vs e = by_code e.spelled.constructor e.spelled.body e.spelled.spelled (same_bytes e.bytes (e.spelled.byte ∷ e.spelled.body) e.spelled.parts e.all).1
  where
    by_code : (c : Code) (bytes : List ℕ) → Behind (suc n) c bytes (d.list vs) → AllBytes bytes → AllItems (Encoded n) vs
    by_code (code.Leaf l) bytes s all = absurd (leaf_no_list l (kind_is _ _ (leaf_meant l s.chunk (d.list vs) s.meant)))
    by_code code.EmptyList bytes s all = let e = s.1 in let none : no_items ≡ vs = cc in subst (λ w. AllItems (Encoded n) w) none tt
    by_code (code.List z) bytes s all =
        let i = s.spelled in
        let e = i.is in
        let same : i.values ≡ vs = cc in
        let inside = back_bytes s.sized.field s.inside (same_bytes bytes (s.sized.field ++ s.inside) s.sized.parts all) in
        subst (λ w. AllItems (Encoded n) w) same (items_encoded n i.bytes i.values i.spelled (back_bytes i.field i.bytes (same_bytes s.inside (i.field ++ i.bytes) i.parts inside)))
    by_code (code.Map z) bytes s all = let e = s.spelled.is in absurd cc
    by_code (code.Array z) bytes s all = let e = s.spelled.is in absurd cc
    by_code code.Described bytes s all = let e = s.is in absurd cc

in_map : (n : ℕ) (ps : Pairs) → Encoded (suc n) (d.map ps) → AllPairs (Encoded n) ps
unfolding Behind
in_map n ps e = by_code e.spelled.constructor e.spelled.body e.spelled.spelled (same_bytes e.bytes (e.spelled.byte ∷ e.spelled.body) e.spelled.parts e.all).1
  where
    by_code : (c : Code) (bytes : List ℕ) → Behind (suc n) c bytes (d.map ps) → AllBytes bytes → AllPairs (Encoded n) ps
    by_code (code.Leaf l) bytes s all = absurd (leaf_no_map l (kind_is _ _ (leaf_meant l s.chunk (d.map ps) s.meant)))
    by_code code.EmptyList bytes s all = let e = s.1 in absurd cc
    by_code (code.List z) bytes s all = let e = s.spelled.is in absurd cc
    by_code (code.Map z) bytes s all =
        let i = s.spelled in
        let e = i.is in
        let same : i.pairs ≡ ps = cc in
        let inside = back_bytes s.sized.field s.inside (same_bytes bytes (s.sized.field ++ s.inside) s.sized.parts all) in
        subst (λ w. AllPairs (Encoded n) w) same (pairs_encoded n i.bytes i.pairs i.spelled (back_bytes i.field i.bytes (same_bytes s.inside (i.field ++ i.bytes) i.parts inside)))
    by_code (code.Array z) bytes s all = let e = s.spelled.is in absurd cc
    by_code code.Described bytes s all = let e = s.is in absurd cc

-- What stands in each field of a list: null, or a value two levels further in.
abbrev Inside : ℕ → Data → Type 0
Inside n v = (v ≡ d.null) ⊎ Encoded n v

record Held (n : ℕ) (f : Field) : Type 0 where
  value : Data
  holds : f value
  inside : Inside n value

abbrev AreHeld : ℕ → List Field → Type 0
AreHeld n [] = Unit {0}
AreHeld n (f ∷ fs) = Held n f × AreHeld n fs

are_held : (n : ℕ) (fs : List Field) (vs : Items) → Holds fs vs → AllItems (Encoded n) vs → AreHeld n fs
are_held n [] vs h e = tt
are_held n (f ∷ fs) no_items h e = (record { value = d.null; holds = h.0; inside = inl refl }, are_held n fs no_items h.1 tt)
are_held n (f ∷ fs) (item v vs) h e = (record { value = v; holds = h.0; inside = inr e.0 }, are_held n fs vs h.1 e.1)

list_held : (n : ℕ) (name : Descriptor) (fs : List Field) (v : Data) → IsList name fs v → Encoded (suc (suc n)) v → AreHeld n fs
list_held n name fs v l e =
    let G : Data → Type 0 = λ w. Encoded (suc (suc n)) w in
    are_held n fs l.items l.holds (in_list n l.items (in_described (suc n) l.descriptor (d.list l.items) (subst G l.is e)))

-- a list isn't null
list_inside : (n : ℕ) (name : Descriptor) (fs : List Field) (v : Data) → IsList name fs v → Inside n v → Encoded n v
list_inside n name fs v l (inl null) = (let e = sym null ∙ l.is in absurd cc)
list_inside n name fs v l (inr e) = e

-- A map that is carried is one of its levels, if it is short.
abbrev pub ShortMap : ℕ → List ℕ → Type 0
ShortMap n bytes = length bytes ≤ 512 → IsMap n bytes

abbrev pub ShortMaps : ℕ → Option (List ℕ) → Type 0
ShortMaps n o = Each (ShortMap n) o

map_is : (n : ℕ) (bytes : List ℕ) (v : Data) → map bytes v → Inside n v → ShortMap n bytes
map_is n bytes v m (inl null) few = (let e = sym null ∙ m.1 in absurd cc)
map_is n bytes v m (inr e) few =
    let G : Data → Type 0 = λ w. Encoded n w in
    let there = subst G m.1 e in
    let canonical : bytes ≡ value_spelling (d.map m.0) = m.2 ∙ ap (λ w. value_spelling w) m.1 in
    record { pairs = m.0; canonical = canonical; fits = spelled_fits n there.bytes (d.map m.0) there.spelled there.all (subst (λ (l : List ℕ). length l ≤ 512) canonical few) }

maps_are : (n : ℕ) (o : Option (List ℕ)) → Held n (optional map o) → ShortMaps n o
maps_are n None h = tt
maps_are n (Some bytes) h = map_is n bytes h.value h.holds h.inside

map_deeper : (n : ℕ) (o : Option (List ℕ)) → ShortMaps n o → ShortMaps (suc n) o
map_deeper n None h = tt
map_deeper n (Some bytes) h = λ few. (let m = h few in record { pairs = m.pairs; canonical = m.canonical; fits = fits_deeper n (d.map m.pairs) m.fits })

-- A condition that is short is a symbol.
symbol_text : (b : Bool) (s : List ℕ) → length s ≤ 128 → length (constructed kind.Symbol (piece_by b (length s ∷ s) (to_be_bytes w32 (length s) ++ s))) ≤ 512
symbol_text true s few = omega (arith, few)
symbol_text false s few = omega (arith, few)

symbol_short : (s : List ℕ) → length s ≤ 128 → Short (d.symbol s)
unfolding value_spelling
symbol_short s few = symbol_text (nat_lt (length s) 256) s few

symbol_is : (n : ℕ) (s : List ℕ) → FitsIn n (d.symbol s) → IsSymbol s
unfolding FitsIn
symbol_is zero s h = absurd h
symbol_is (suc n) s h = h

condition_is : (n : ℕ) (s : List ℕ) → Held n (symbol s) → length s ≤ 128 → IsSymbol s
condition_is n s h few = by h.inside
  where
    by : Inside n h.value → IsSymbol s
    by (inl null) = (let e = sym null ∙ h.holds in absurd cc)
    by (inr e) =
        let G : Data → Type 0 = λ w. Encoded n w in
        let there = subst G h.holds e in
        symbol_is n s (spelled_fits n there.bytes (d.symbol s) there.spelled there.all (symbol_short s few))

-- What is known of a state that bytes encode: of an error inside it, and of its annotations.
pub record FitFault (n : ℕ) (f : Fault) : Type 0 where
  pub condition : length f.condition ≤ 128 → IsSymbol f.condition
  pub info : ShortMaps n f.info

abbrev pub FitParts : ℕ → DeliveryState → Type 0
FitParts n (state.Rejected r) = Each (FitFault n) r.error
FitParts n (state.Modified m) = ShortMaps (suc (suc n)) m.message_annotations
FitParts n _ = Unit {0}

abbrev Four : ℕ → ℕ
Four n = suc (suc (suc (suc n)))

fault_fits : (n : ℕ) (o : Option Fault) → Held (suc (suc n)) (optional (λ f. IsList is.Error (error_table f)) o) → Each (FitFault n) o
fault_fits n None h = tt
fault_fits n (Some f) h =
    let fields = list_held n is.Error (error_table f) h.value h.holds (list_inside (suc (suc n)) is.Error (error_table f) h.value h.holds h.inside) in
    record { condition = condition_is n f.condition fields.0; info = maps_are n f.info fields.1.1.0 }

state_fits : (n : ℕ) (s : DeliveryState) (v : Data) → IsTerminal s → delivery_state s v → Inside (Four n) v → FitParts n s
state_fits n (state.Received r) v terminal means e = absurd terminal
state_fits n (state.Other bytes) v terminal means e = absurd terminal
state_fits n state.Accepted v terminal means e = tt
state_fits n state.Released v terminal means e = tt
state_fits n (state.Rejected r) v terminal means e =
    fault_fits n r.error (list_held (suc (suc n)) is.Rejected (rejected_table r) v means (list_inside (Four n) is.Rejected (rejected_table r) v means e)).0
state_fits n (state.Modified m) v terminal means e =
    maps_are (suc (suc n)) m.message_annotations (list_held (suc (suc n)) is.Modified (modified_table m) v means (list_inside (Four n) is.Modified (modified_table m) v means e)).1.1.0

parts_deeper : (n : ℕ) (s : DeliveryState) → FitParts n s → FitParts (suc n) s
parts_deeper n (state.Received r) h = tt
parts_deeper n (state.Other bytes) h = tt
parts_deeper n state.Accepted h = tt
parts_deeper n state.Released h = tt
parts_deeper n (state.Rejected r) h = by r.error h
  where
    by : (o : Option Fault) → Each (FitFault n) o → Each (FitFault (suc n)) o
    by None h = tt
    by (Some f) h = record { condition = h.condition; info = map_deeper n f.info h.info }
parts_deeper n (state.Modified m) h = map_deeper (suc (suc n)) m.message_annotations h

-- The state that a performative gives deliveries stands four levels inside it, or five.
given_state : (n : ℕ) (o : Option DeliveryState) (s : DeliveryState) → IsTerminal s → o ≡ Some s → Held (Four n) (optional delivery_state o) → FitParts n s
given_state n o s terminal is h =
    let G : Option DeliveryState → Type 0 = λ x. optional delivery_state x h.value in
    state_fits n s h.value terminal (subst G is h.holds) h.inside

entry_fits : (n : ℕ) (before us : List UnsettledDelivery) (ps : Pairs) (s : DeliveryState) → IsTerminal s → AreDeliveries before us ps → AllPairs (Encoded (Four n)) ps → HasEntry us s → FitParts n s
entry_fits n before [] no_pairs s terminal are e has = absurd has
entry_fits n before [] (pair k v ps) s terminal are e has = absurd has
entry_fits n before (u ∷ us) no_pairs s terminal are e has = absurd are
entry_fits n before (u ∷ us) (pair k v ps) s terminal are e (inl is) = given_state n u.state s terminal is (record { value = v; holds = are.2; inside = inr e.1 })
entry_fits n before (u ∷ us) (pair k v ps) s terminal are e (inr more) = entry_fits n (before ++ u ∷ []) us ps s terminal are.3 e.2 more

map_fits : (us : List UnsettledDelivery) (v : Data) (s : DeliveryState) → IsTerminal s → (ps : Pairs) → v ≡ d.map ps → AreDeliveries [] us ps → Inside 30 v → HasEntry us s → FitParts 25 s
map_fits us v s terminal ps is are (inl null) has = (let e = sym null ∙ is in absurd cc)
map_fits us v s terminal ps is are (inr e) has = (let G : Data → Type 0 = λ w. Encoded 30 w in entry_fits 25 [] us ps s terminal are (in_map 29 ps (subst G is e)) has)

attach_fits : (x : Attach) (s : DeliveryState) → IsTerminal s → AreHeld 30 (attach_table x) → IsSomeAnd x.unsettled (λ us. HasEntry us s) → FitParts 25 s
attach_fits x s terminal fields has = by x.unsettled fields.1.1.1.1.1.1.1.0 has
  where
    by : (o : Option (List UnsettledDelivery)) → Held 30 (optional (λ us v. (pairs : Pairs) × (v ≡ d.map pairs) × AreDeliveries [] us pairs) o) → IsSomeAnd o (λ us. HasEntry us s) → FitParts 25 s
    by None h has = absurd has
    by (Some us) h has = map_fits us h.value s terminal h.holds.0 h.holds.1 h.holds.2 h.inside has

pub perf_fits : (p : Perf) (s : DeliveryState) (bytes : List ℕ) → IsTerminal s → SpellsPerf bytes p → AllBytes bytes → GivesState p s → FitParts 28 s
perf_fits (perf.Disposition x) s bytes terminal h all gives =
    let fields = list_held 30 is.Disposition (disposition_table x) h.value h.list (record { bytes = bytes; spelled = h.spelled; all = all }) in
    parts_deeper 27 s (parts_deeper 26 s (given_state 26 x.state s terminal gives fields.1.1.1.1.0))
perf_fits (perf.Attach x) s bytes terminal h all gives =
    let fields = list_held 30 is.Attach (attach_table x) h.value h.list (record { bytes = bytes; spelled = h.spelled; all = all }) in
    parts_deeper 27 s (parts_deeper 26 s (parts_deeper 25 s (attach_fits x s terminal fields gives)))
perf_fits (perf.Open x) s bytes terminal h all gives = absurd gives
perf_fits (perf.Begin x) s bytes terminal h all gives = absurd gives
perf_fits (perf.Flow x) s bytes terminal h all gives = absurd gives
perf_fits (perf.Transfer x) s bytes terminal h all gives = absurd gives
perf_fits (perf.Detach x) s bytes terminal h all gives = absurd gives
perf_fits (perf.End x) s bytes terminal h all gives = absurd gives
perf_fits (perf.Close x) s bytes terminal h all gives = absurd gives
perf_fits (perf.SaslMechanisms x) s bytes terminal h all gives = absurd gives
perf_fits (perf.SaslInit x) s bytes terminal h all gives = absurd gives
perf_fits (perf.SaslChallenge x) s bytes terminal h all gives = absurd gives
perf_fits (perf.SaslResponse x) s bytes terminal h all gives = absurd gives
perf_fits (perf.SaslOutcome x) s bytes terminal h all gives = absurd gives
