-- Described lists: what is spelled so is opened so, and what was opened is spelled so.
use Rattle.std.proofs.Common.{◌≡◌, ℕ, suc, ◌-◌, ◌≤◌, Bool, true, false, cond, nat_lt, List, [], ◌∷◌, ◌++◌, length, Option, Some, None, Result, Ok, Err, refl, sym, ap, subst, ◌∙◌, append_assoc, arith}
use Rattle.std.proofs.lemmas.Bool.{ltb-false}
use Rattle.amqp_model.specs.declared.code.Leaf.{Leaf}
use Rattle.amqp_model.specs.declared.code.Leaf.TheVariants as leaf
use Rattle.amqp_model.specs.declared.code.Code.{Code}
use Rattle.amqp_model.specs.declared.code.Code.TheVariants as code
use Rattle.amqp_model.specs.declared.code.Size.{Size}
use Rattle.amqp_model.specs.Codes.{code_of as constructor_of, leaf_kind}
use Rattle.amqp_model.specs.declared.code.Kind.TheVariants as kind
use Rattle.amqp_model.specs.declared.code.Kind.{Kind}
use Rattle.amqp_model.specs.Data as d
use Rattle.amqp_model.specs.Data.{Data, Items, no_items, item}
use Rattle.amqp_model.specs.View.{plain_part}
use Rattle.amqp_types.specs.Reading.{to, code_at, size_at, sized_at, value_at}
use Rattle.amqp_types.specs.Spells.{Spells, Behind, AreItems}
use Rattle.amqp_model.specs.Data.{count}
use Rattle.amqp_types.proofs.Typed.{leaf_meant}
use Rattle.amqp_types.proofs.Sound.{code_sound, size_sound, sized_sound, Spells-value_at}
use Rattle.amqp_types.proofs.Complete.{code_complete, value_at-Spells}
use Rattle.amqp_types.proofs.Tools.{to_ok}
use Rattle.amqp_model.specs.declared.perf_fault.PerfFault.{PerfFault}
use Rattle.amqp_model.specs.declared.perf_fault.PerfFault.TheVariants as fault
use Rattle.amqp_model.specs.declared.descriptor.Descriptor.{Descriptor}
use Rattle.amqp_perf.specs.declared.opening.Opening.{Opening}
use Rattle.amqp_perf.specs.declared.opening.Opening.TheVariants as opening
use Rattle.amqp_perf.specs.Faults.{inner, by_fault, ◌>>=◌}
use Rattle.amqp_model.specs.PerfFaults.{outer}
use Rattle.amqp_perf.specs.Fields.{At, name_of, opened, opening_at, counted, listed_by, listed}
use Rattle.amqp_perf.specs.Tables.{Field, Holds, SpellsList}
use Rattle.amqp_perf.proofs.TablePlaces.{bind_ok, found_is, by_fault_ok, Ready, Read}
use Rattle.amqp_perf.proofs.WrittenLists.{listed_sized}
use Rattle.amqp_perf.proofs.TableNames.{name_sound, name_complete}

abbrev pub opened_as : Opening → List ℕ → Result (Opening × List ℕ) PerfFault
opened_as o rest = Ok (o, rest)

abbrev pub listed_as : At → List ℕ → Result (At × List ℕ) PerfFault
listed_as at rest = Ok (at, rest)

-- which list a descriptor names, of its plain part
pub name_of_part : (v : Data) → name_of (plain_part v) ≡ name_of (Some v)
name_of_part (d.list vs) = refl
name_of_part (d.map ps) = refl
name_of_part (d.array k vs) = refl
name_of_part (d.described a b) = refl
name_of_part v = refl

-- no plain value is a list
leaf_no_list : (l : Leaf) → kind.List ≡ leaf_kind l → ⊥
leaf_no_list l e = by_leaf l (subst (λ k. is_list k ≡ true) e refl)
  where
    is_list : Kind → Bool
    is_list kind.List = true
    is_list k = false

    by_leaf : (l : Leaf) → is_list (leaf_kind l) ≡ true → ⊥
    by_leaf leaf.Null e = absurd cc
    by_leaf l e = absurd cc

-- ---- the parts of what is spelled

pub record DescribedParts (n : ℕ) (text : List ℕ) (a v : Data) : Type 0 where
  pub byte : ℕ
  pub first : List ℕ
  pub second : List ℕ
  pub parts : text ≡ byte ∷ (first ++ second)
  pub known : constructor_of byte ≡ Some code.Described
  pub descriptor : Spells n first a
  pub value : Spells n second v

pub described_parts : (n : ℕ) (text : List ℕ) (a v : Data) → Spells (suc n) text (d.described a v) → DescribedParts n text a v
unfolding Behind
described_parts n text a v h = by_code h.constructor h.known h.spelled
  where
    by_code : (c : Code) → constructor_of h.byte ≡ Some c → Behind (suc n) c h.body (d.described a v) → DescribedParts n text a v
    by_code (code.Leaf l) k s = let e = leaf_meant l s.chunk (d.described a v) s.meant in absurd cc
    by_code code.EmptyList k s = let e = s.1 in absurd cc
    by_code (code.List z) k s = let e = s.spelled.is in absurd cc
    by_code (code.Map z) k s = let e = s.spelled.is in absurd cc
    by_code (code.Array z) k s = let e = s.spelled.is in absurd cc
    by_code code.Described k s =
        let e = s.is in
        let p : s.descriptor ≡ a = cc in
        let q : s.value ≡ v = cc in
        record {
          byte = h.byte;
          first = s.first;
          second = s.second;
          parts = h.parts ∙ ap (λ (t : List ℕ). h.byte ∷ t) s.parts;
          known = k;
          descriptor = subst (λ w. Spells n s.first w) p s.describes;
          value = subst (λ w. Spells n s.second w) q s.spelled;
        }

pub less_one : (n : ℕ) → n ≡ suc n - 1
less_one n = omega arith

-- a described value opens by its descriptor
pub opening_ready : (n : ℕ) (text rest : List ℕ) (a v : Data) (name : Option Descriptor) (p : DescribedParts n text a v) → name_of (Some a) ≡ name → opening_at (suc n) (text ++ rest) ≡ Ok (opening.Described name, p.second ++ rest)
unfolding opening_at
opening_ready n text rest a v name p named =
    ap (λ (t : List ℕ). by_fault outer (code_at (t ++ rest)) >>= opened (suc n)) p.parts
    ∙ ap (λ r. by_fault outer r >>= opened (suc n)) (code_complete p.byte code.Described ((p.first ++ p.second) ++ rest) p.known)
    ∙ ap (λ m. by_fault outer (to plain_part (value_at m ((p.first ++ p.second) ++ rest))) >>= λ x. opened_as (opening.Described (name_of x.0)) x.1) (sym (less_one n))
    ∙ ap (λ (t : List ℕ). by_fault outer (to plain_part (value_at n t)) >>= λ x. opened_as (opening.Described (name_of x.0)) x.1) (append_assoc p.first p.second rest)
    ∙ ap (λ r. by_fault outer (to plain_part r) >>= λ x. opened_as (opening.Described (name_of x.0)) x.1) (value_at-Spells n p.first a (p.second ++ rest) p.descriptor)
    ∙ ap (λ o. opened_as (opening.Described o) (p.second ++ rest)) (name_of_part a ∙ named)

-- the list of items is the place before them
pub record ListReady (n limit : ℕ) (wrong : PerfFault) (text rest : List ℕ) (fs : List Field) : Type 0 where
  pub at : At
  pub deep : at.depth ≡ n
  pub is : listed (suc n) limit wrong (text ++ rest) ≡ Ok (at, rest)
  pub ready : Ready at fs

pub few_items : (fs : List Field) (vs : Items) → Holds fs vs → count vs ≤ length fs
few_items [] no_items h = omega arith
few_items [] (item v vs) h = absurd h
few_items (f ∷ fs) no_items h = omega arith
few_items (f ∷ fs) (item v vs) h = let e = few_items fs vs h.1 in omega (arith, e)

pub list_ready : (n limit : ℕ) (wrong : PerfFault) (text rest : List ℕ) (vs : Items) (fs : List Field) → Spells (suc n) text (d.list vs) → Holds fs vs → length fs ≤ limit → ListReady n limit wrong text rest fs
unfolding Behind listed
list_ready n limit wrong text rest vs fs h holds short = by_code h.constructor h.known h.spelled
  where
    by_code : (c : Code) → constructor_of h.byte ≡ Some c → Behind (suc n) c h.body (d.list vs) → ListReady n limit wrong text rest fs
    by_code (code.Leaf l) k s = absurd (leaf_no_list l (some_is _ _ (leaf_meant l s.chunk (d.list vs) s.meant)))
      where
        some_is : (a b : Kind) → Some a ≡ Some b → a ≡ b
        some_is a b e = cc
    by_code code.EmptyList k s =
        let e = s.1 in
        let none : no_items ≡ vs = cc in
        record {
          at = record { depth = suc n - 1; left = 0; bytes = [] };
          deep = sym (less_one n);
          is =
              ap (λ (t : List ℕ). listed (suc n) limit wrong (t ++ rest)) (h.parts ∙ ap (λ (t : List ℕ). h.byte ∷ t) s.0)
              ∙ ap (λ r. by_fault outer r >>= listed_by (suc n) limit wrong (h.byte ∷ rest)) (code_complete h.byte code.EmptyList rest k);
          ready = record { items = no_items; spelled = refl; counted = refl; holds = subst (λ w. Holds fs w) (sym none) holds };
        }
    by_code (code.List z) k s =
        let i = s.spelled in
        let e = i.is in
        let same : i.values ≡ vs = cc in
        let few = few_items fs vs holds in
        let fewer : count vs ≤ limit = omega (arith, few, short) in
        record {
          at = record { depth = suc n - 1; left = count i.values; bytes = i.bytes };
          deep = sym (less_one n);
          is =
              ap (λ (t : List ℕ). listed (suc n) limit wrong (t ++ rest)) h.parts
              ∙ listed_sized (suc n) limit wrong h.byte z (count i.values) i.bytes h.body rest d.null k (record { inside = s.inside; sized = s.sized; spelled = (i.field, i.parts, i.counted) }) (subst (λ w. count w ≤ limit) (sym same) fewer);
          ready = record { items = i.values; spelled = subst (λ m. AreItems (Spells m) i.bytes i.values) (less_one n) i.spelled; counted = refl; holds = subst (λ w. Holds fs w) (sym same) holds };
        }
    by_code (code.Map z) k s = let e = s.spelled.is in absurd cc
    by_code (code.Array z) k s = let e = s.spelled.is in absurd cc
    by_code code.Described k s = let e = s.is in absurd cc

-- ---- what was opened and listed

abbrev pub IsDescribed : Opening → Type 0
IsDescribed (opening.Described o) = Unit {0}
IsDescribed opening.Null = ⊥
IsDescribed opening.Other = ⊥

abbrev pub name_in : Opening → Option Descriptor
name_in (opening.Described o) = o
name_in opening.Null = None
name_in opening.Other = None

pub not_described : (o : Opening) (more rest : List ℕ) (name : Option Descriptor) → opened_as o more ≡ Ok (opening.Described name, rest) → IsDescribed o
not_described o more rest name e = subst IsDescribed (sym (ap (λ q. q.0) (found_is (o, more) (opening.Described name, rest) e))) tt

pub record OpenedParts (n : ℕ) (bytes rest : List ℕ) (name : Option Descriptor) : Type 0 where
  pub byte : ℕ
  pub first : List ℕ
  pub descriptor : Data
  pub parts : bytes ≡ byte ∷ (first ++ rest)
  pub known : constructor_of byte ≡ Some code.Described
  pub spelled : Spells n first descriptor
  pub named : name_of (Some descriptor) ≡ name

pub opened_parts : (n : ℕ) (bytes rest : List ℕ) (name : Option Descriptor) → opening_at n bytes ≡ Ok (opening.Described name, rest) → OpenedParts (n - 1) bytes rest name
unfolding opening_at
opened_parts n bytes rest name e =
    let x = bind_ok (by_fault outer (code_at bytes)) (opened n) (opening.Described name, rest) e in
    by_code x.0.0 x.0.1 (code_sound bytes x.0.0 x.0.1 (by_fault_ok outer (code_at bytes) x.0 x.1)) x.2
  where
    by_code : (c : Code) (more : List ℕ) → ((b : ℕ) × (bytes ≡ b ∷ more) × (constructor_of b ≡ Some c)) → opened n (c, more) ≡ Ok (opening.Described name, rest) → OpenedParts (n - 1) bytes rest name
    by_code (code.Leaf leaf.Null) more b e = absurd (not_described opening.Null more rest name e)
    by_code code.Described more b e =
        let x = bind_ok (by_fault outer (to plain_part (value_at (n - 1) more))) (λ x. opened_as (opening.Described (name_of x.0)) x.1) (opening.Described name, rest) e in
        let t = to_ok plain_part (value_at (n - 1) more) x.0.0 x.0.1 (by_fault_ok outer (to plain_part (value_at (n - 1) more)) x.0 x.1) in
        let s = Spells-value_at (n - 1) more t.0 x.0.1 t.1 in
        let same = pair_is (name_of x.0.0) x.0.1 x.2 in
        record {
          byte = b.0;
          first = s.0;
          descriptor = t.0;
          parts = b.1 ∙ ap (λ (t : List ℕ). b.0 ∷ t) (s.1 ∙ ap (λ (t : List ℕ). s.0 ++ t) same.1);
          known = b.2;
          spelled = s.2;
          named = sym (name_of_part t.0) ∙ ap name_of t.2 ∙ same.0;
        }
      where
        pair_is : (o : Option Descriptor) (r : List ℕ) → opened_as (opening.Described o) r ≡ Ok (opening.Described name, rest) → (o ≡ name) × (r ≡ rest)
        pair_is o r e = let p = found_is (opening.Described o, r) (opening.Described name, rest) e in (ap (λ q. name_in q.0) p, ap (λ q. q.1) p)
    by_code c more b e = absurd (not_described opening.Other more rest name e)

-- What was listed: as many items as there may be, and what they spell is a list.
pub record ListedParts (n limit : ℕ) (bytes rest : List ℕ) (at : At) : Type 0 where
  pub few : at.left ≤ limit
  pub deep : at.depth ≡ n
  pub spelled : (vs : Items) → AreItems (Spells at.depth) at.bytes vs → count vs ≡ at.left → (text : List ℕ) × (bytes ≡ text ++ rest) × Spells (suc n) text (d.list vs)

none_of : (vs : Items) → count vs ≡ 0 → vs ≡ no_items
none_of no_items e = refl
none_of (item v vs) e = absurd (not_zero (count vs) e)
  where
    not_zero : (n : ℕ) → suc n ≡ 0 → ⊥
    not_zero n e = omega arith

abbrev empty_at : ℕ → At
empty_at n = record { depth = suc n - 1; left = 0; bytes = [] }

abbrev items_at : ℕ → ℕ → List ℕ → At
items_at n left bytes = record { depth = suc n - 1; left = left; bytes = bytes }

pub listed_parts : (n limit : ℕ) (wrong : PerfFault) (bytes rest : List ℕ) (at : At) → listed (suc n) limit wrong bytes ≡ Ok (at, rest) → ListedParts n limit bytes rest at
unfolding listed Behind
listed_parts n limit wrong bytes rest at e =
    let x = bind_ok (by_fault outer (code_at bytes)) (listed_by (suc n) limit wrong bytes) (at, rest) e in
    by_code x.0.0 x.0.1 (code_sound bytes x.0.0 x.0.1 (by_fault_ok outer (code_at bytes) x.0 x.1)) x.2
  where
    no_list_ok : (r : Result (List ℕ) PerfFault) → (r >>= λ _. Err wrong) ≡ listed_as at rest → ⊥
    no_list_ok (Ok x) e = absurd cc
    no_list_ok (Err f) e = absurd cc

    by_count : (z : Size) (b : ℕ) (more inside : List ℕ) (behind : List ℕ) (m : ℕ) (items : List ℕ) → (bytes ≡ b ∷ more) → constructor_of b ≡ Some (code.List z)
        → sized_at z more ≡ Ok (inside, behind) → size_at z inside ≡ Ok (m, items)
        → (test : Bool) → nat_lt limit m ≡ test → cond test (Err fault.TooManyFields) (listed_as (items_at n m items) behind) ≡ Ok (at, rest) → ListedParts n limit bytes rest at
    by_count z b more inside behind m items parts known sized number true is e = absurd cc
    by_count z b more inside behind m items parts known sized number false is e =
        let p = found_is (items_at n m items, behind) (at, rest) e in
        let s = sized_sound z more inside behind sized in
        let c = size_sound z inside m items number in
        subst (λ a. ListedParts n limit bytes rest a) (ap (λ q. q.0) p) (record {
          few = ltb-false limit m is;
          deep = sym (less_one n);
          spelled = λ vs spelled counted. (
            b ∷ s.0,
            parts ∙ ap (λ (t : List ℕ). b ∷ t) (s.1 ∙ ap (λ (t : List ℕ). s.0 ++ t) (ap (λ q. q.1) p)),
            record {
              byte = b;
              body = s.0;
              parts = refl;
              constructor = code.List z;
              known = known;
              spelled = record {
                inside = inside;
                sized = s.2;
                spelled = record {
                  field = c.0;
                  bytes = items;
                  parts = c.1;
                  values = vs;
                  is = refl;
                  counted = record { wide = c.2.wide; number = c.2.number ∙ sym counted };
                  spelled = subst (λ k. AreItems (Spells k) items vs) (sym (less_one n)) spelled;
                };
              };
            },
          );
        })

    by_code : (c : Code) (more : List ℕ) → ((b : ℕ) × (bytes ≡ b ∷ more) × (constructor_of b ≡ Some c)) → listed_by (suc n) limit wrong bytes (c, more) ≡ Ok (at, rest) → ListedParts n limit bytes rest at
    by_code code.EmptyList more b e =
        let p = found_is (empty_at n, more) (at, rest) e in
        subst (λ a. ListedParts n limit bytes rest a) (ap (λ q. q.0) p) (record {
          few = omega arith;
          deep = sym (less_one n);
          spelled = λ vs spelled counted. (
            b.0 ∷ [],
            b.1 ∙ ap (λ (t : List ℕ). b.0 ∷ t) (ap (λ q. q.1) p),
            record { byte = b.0; body = []; parts = refl; constructor = code.EmptyList; known = b.2; spelled = (refl, ap d.list (sym (none_of vs counted))) },
          );
        })
    by_code (code.List z) more b e =
        let x = bind_ok (by_fault outer (sized_at z more)) (λ x. by_fault inner (size_at z x.0) >>= counted (suc n) limit x.1) (at, rest) e in
        let m = bind_ok (by_fault inner (size_at z x.0.0)) (counted (suc n) limit x.0.1) (at, rest) x.2 in
        by_count z b.0 more x.0.0 x.0.1 m.0.0 m.0.1 b.1 b.2 (by_fault_ok outer (sized_at z more) x.0 x.1) (by_fault_ok inner (size_at z x.0.0) m.0 m.1) (nat_lt limit m.0.0) refl m.2
    by_code c more b e = absurd (no_list_ok _ e)

-- ---- a whole list, by the reader of its fields

pub list_sound : {X : Type 0} (n limit : ℕ) (wrong : PerfFault) (name : Descriptor) (fields : At → Result X PerfFault) (table : X → List Field)
    → ((at : At) (x : X) → at.depth ≡ n → fields at ≡ Ok x → Read at (table x)) → ((x : X) → length (table x) ≡ limit)
    → (bytes behind rest : List ℕ) (at : At) (x : X) → OpenedParts (suc n) bytes behind (Some name) → listed (suc n) limit wrong behind ≡ Ok (at, rest) → fields at ≡ Ok x
    → (text : List ℕ) × (bytes ≡ text ++ rest) × SpellsList (suc (suc n)) name (table x) text
unfolding Behind
list_sound n limit wrong name fields table sound size bytes behind rest at x o listed_is read =
    let l = listed_parts n limit wrong behind rest at listed_is in
    let r = sound at x l.deep read (subst (λ m. at.left ≤ m) (sym (size x)) l.few) in
    let s = l.spelled r.items r.spelled r.counted in (
      o.byte ∷ (o.first ++ s.0),
      o.parts ∙ ap (λ (t : List ℕ). o.byte ∷ t) (ap (λ (t : List ℕ). o.first ++ t) s.1 ∙ sym (append_assoc o.first s.0 rest)),
      record {
        value = d.described o.descriptor (d.list r.items);
        spelled = record {
          byte = o.byte;
          body = o.first ++ s.0;
          parts = refl;
          constructor = code.Described;
          known = o.known;
          spelled = record { first = o.first; second = s.0; parts = refl; descriptor = o.descriptor; value = d.list r.items; is = refl; describes = o.spelled; spelled = s.2 };
        };
        list = record { descriptor = o.descriptor; items = r.items; is = refl; named = name_sound o.descriptor name o.named; holds = r.holds };
      },
    )

pub record ListRead {X : Type 0} (n limit : ℕ) (wrong : PerfFault) (name : Descriptor) (fields : At → Result X PerfFault) (x : X) (bytes rest : List ℕ) : Type 0 where
  pub behind : List ℕ
  pub at : At
  pub opened : opening_at (suc (suc n)) bytes ≡ Ok (opening.Described (Some name), behind)
  pub listed : listed (suc n) limit wrong behind ≡ Ok (at, rest)
  pub read : fields at ≡ Ok x

pub list_complete : {X : Type 0} (n limit : ℕ) (wrong : PerfFault) (name : Descriptor) (fields : At → Result X PerfFault) (table : X → List Field)
    → ((at : At) (x : X) → at.depth ≡ n → Ready at (table x) → fields at ≡ Ok x) → ((x : X) → length (table x) ≡ limit)
    → (text rest : List ℕ) (x : X) → SpellsList (suc (suc n)) name (table x) text → ListRead n limit wrong name fields x (text ++ rest) rest
list_complete n limit wrong name fields table complete size text rest x h =
    let p = described_parts (suc n) text h.list.descriptor (d.list h.list.items) (subst (λ v. Spells (suc (suc n)) text v) h.list.is h.spelled) in
    let l = list_ready n limit wrong p.second rest h.list.items (table x) p.value h.list.holds (subst (λ m. length (table x) ≤ m) (size x) (least (length (table x)))) in
    record {
      behind = p.second ++ rest;
      at = l.at;
      opened = opening_ready (suc n) text rest h.list.descriptor (d.list h.list.items) (Some name) p (name_complete h.list.descriptor name h.list.named);
      listed = l.is;
      read = complete l.at x l.deep l.ready;
    }
  where
    least : (m : ℕ) → m ≤ m
    least m = omega arith
