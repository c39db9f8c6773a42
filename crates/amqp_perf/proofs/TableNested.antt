-- A field whose value holds others, against its line in a table: null, a described list, a described value that is carried.
use Rattle.std.proofs.Common.{◌≡◌, ℕ, suc, ◌-◌, Bool, true, false, cond, ◌==◌, inl, inr, List, [], ◌∷◌, ◌++◌, length, Option, Some, None, Result, Ok, Err, refl, sym, ap, subst, ◌∙◌, true≢false}
use Rattle.std.proofs.lemmas.Bool.{eqb-true}
use Rattle.std.proofs.lemmas.List.{nil_from_length}
use Rattle.amqp_model.specs.declared.code.Leaf.{Leaf}
use Rattle.amqp_model.specs.declared.code.Leaf.TheVariants as leaf
use Rattle.amqp_model.specs.declared.code.Code.{Code}
use Rattle.amqp_model.specs.declared.code.Code.TheVariants as code
use Rattle.amqp_model.specs.declared.code.Kind.{Kind}
use Rattle.amqp_model.specs.declared.code.Kind.TheVariants as kind
use Rattle.amqp_model.specs.Codes.{code_of as constructor_of, leaf_kind}
use Rattle.amqp_model.specs.Data as d
use Rattle.amqp_model.specs.Data.{Data, Items, no_items, item}
use Rattle.amqp_model.specs.View.{plain_part}
use Rattle.amqp_types.specs.Reading.{to, after, code_at, value_at}
use Rattle.amqp_model.specs.ValueSpelling.{spelling}
use Rattle.amqp_types.specs.Spells.{Spells, Behind, AreItems}
use Rattle.amqp_model.specs.Data.{count}
use Rattle.amqp_types.proofs.Typed.{leaf_meant}
use Rattle.amqp_types.proofs.Sound.{code_sound, Spells-value_at}
use Rattle.amqp_types.proofs.Complete.{code_complete}
use Rattle.amqp_model.specs.declared.perf_fault.PerfFault.{PerfFault}
use Rattle.amqp_model.specs.declared.perf_fault.PerfFault.TheVariants as fault
use Rattle.amqp_model.specs.declared.descriptor.Descriptor.{Descriptor}
use Rattle.amqp_perf.specs.declared.opening.Opening.{Opening}
use Rattle.amqp_perf.specs.declared.opening.Opening.TheVariants as opening
use Rattle.amqp_perf.specs.Faults.{within, by_fault, ◌>>=◌}
use Rattle.amqp_model.specs.PerfFaults.{outer}
use Rattle.amqp_perf.specs.Fields.{At, ended, absent, next, in_place, name_of, opened, opening_at, listed, refused, carried}
use Rattle.amqp_perf.specs.Tables.{Kind as FieldKind, Field, Holds, IsList, Names, optional}
use Rattle.amqp_perf.proofs.TableNames.{name_complete}
use Rattle.amqp_perf.proofs.TablePlaces.{found, found_at, bind_ok, found_is, by_fault_ok, ended_ok, one_less, some_left, counted_less, absent_taken, Ready, Read, Moves, TakesFirst, Agrees}
use Rattle.amqp_perf.proofs.TableLists.{opened_as, less_one, not_described, name_in, OpenedParts, opened_parts, described_parts, opening_ready, list_sound, list_complete}

-- what was read at the front is a value for which P holds
pub record Found (n : ℕ) (bytes rest : List ℕ) (P : Data → Type 0) : Type 0 where
  pub text : List ℕ
  pub value : Data
  pub parts : bytes ≡ text ++ rest
  pub spelled : Spells n text value
  pub holds : P value

pub found_other : (n : ℕ) (bytes rest : List ℕ) (P Q : Data → Type 0) → ((v : Data) → P v → Q v) → Found n bytes rest P → Found n bytes rest Q
found_other n bytes rest P Q turn f = record { text = f.text; value = f.value; parts = f.parts; spelled = f.spelled; holds = turn f.value f.holds }

abbrev pub NestedReader : Type 0 → Type 0
NestedReader A = ℕ → List ℕ → Result (Option A × List ℕ) PerfFault

-- a reader of a field's whole value, where it may have n levels
pub record ReadsKind (n : ℕ) {A : Type 0} (read : NestedReader A) (k : FieldKind A) : Type 0 where
  pub sound : (bytes : List ℕ) (o : Option A) (rest : List ℕ) → read n bytes ≡ Ok (o, rest) → Found n bytes rest (optional k o)
  pub complete : (text rest : List ℕ) (v : Data) (o : Option A) → Spells n text v → optional k o v → read n (text ++ rest) ≡ Ok (o, rest)
  pub never : (x : A) → k x d.null → ⊥

within_ok : {A : Type 0} (r : Result A PerfFault) (x : A) → within r ≡ Ok x → r ≡ Ok x
within_ok (Ok y) x e = e
within_ok (Err f) x e = absurd cc

in_place_moves : (n : ℕ) {A : Type 0} (read : NestedReader A) (k : FieldKind A) → ReadsKind n read k → (at : At) (o : Option A) (behind : At) → at.depth ≡ n → in_place read at ≡ Ok (o, behind) → Moves at (optional k o) behind
in_place_moves n {A = A} read k reads at o behind deep e = by_test (at.left == 0) refl e
  where
    by_test : (b : Bool) → (at.left == 0) ≡ b → cond b (absent at) (within (read at.depth at.bytes) >>= λ x. found_at x.0 (next at x.1)) ≡ Ok (o, behind) → Moves at (optional k o) behind
    by_test true is e =
        let b = bind_ok (ended at) (λ _. found_at {A = Option A} None at) (o, behind) e in
        let p = found_is {A = Option A × At} (None, at) (o, behind) b.2 in
        inr (record { none = eqb-true at.left 0 is; empty = ended_ok at b.0 b.1; same = ap (λ q. q.1) p; holds = subst (λ z. optional k z d.null) (ap (λ q. q.0) p) refl })
    by_test false is e =
        let x = bind_ok (within (read at.depth at.bytes)) (λ x. found_at x.0 (next at x.1)) (o, behind) e in
        let p = found_is (x.0.0, next at x.0.1) (o, behind) x.2 in
        let f = reads.sound at.bytes x.0.0 x.0.1 (ap (λ m. read m at.bytes) (sym deep) ∙ within_ok (read at.depth at.bytes) x.0 x.1) in
        subst (λ b. Moves at (optional k o) b) (ap (λ q. q.1) p) (inl (record {
          value = f.value;
          text = f.text;
          parts = f.parts;
          spelled = subst (λ m. Spells m f.text f.value) (sym deep) f.spelled;
          holds = subst (λ z. optional k z f.value) (ap (λ q. q.0) p) f.holds;
          left = one_less at.left is;
          depth = refl;
        }))

in_place_ready : (n : ℕ) {A : Type 0} (read : NestedReader A) (k : FieldKind A) → ReadsKind n read k → (at : At) (o : Option A) (fs : List Field) → at.depth ≡ n → Ready at (optional k o ∷ fs) → TakesFirst n (in_place read) o fs at
in_place_ready n {A = A} read k reads at o fs deep r = by_items r.items r.spelled r.counted r.holds
  where
    nothing : (o : Option A) → optional k o d.null → o ≡ None
    nothing None h = refl
    nothing (Some x) h = absurd (reads.never x h)

    by_items : (vs : Items) → AreItems (Spells at.depth) at.bytes vs → count vs ≡ at.left → Holds (optional k o ∷ fs) vs → TakesFirst n (in_place read) o fs at
    by_items no_items s c h = record {
      behind = at;
      took =
          ap (λ m. cond (m == 0) (absent at) (within (read at.depth at.bytes) >>= λ x. found_at x.0 (next at x.1))) (sym c)
          ∙ absent_taken {A = A} at s
          ∙ ap (λ z. found_at z at) (sym (nothing o h.0));
      deep = deep;
      ready = record { items = no_items; spelled = s; counted = c; holds = h.1 };
    }
    by_items (item v vs) s c h = record {
      behind = next at s.1;
      took =
          ap (λ b. cond b (absent at) (within (read at.depth at.bytes) >>= λ x. found_at x.0 (next at x.1))) (some_left (count vs) at.left c)
          ∙ ap (λ m. within (read m at.bytes) >>= λ x. found_at x.0 (next at x.1)) deep
          ∙ ap (λ r. within r >>= λ x. found_at x.0 (next at x.1)) (ap (λ (t : List ℕ). read n t) s.2 ∙ reads.complete s.0 s.1 v o (subst (λ m. Spells m s.0 v) deep s.3) h.0);
      deep = deep;
      ready = record { items = vs; spelled = s.4; counted = counted_less (count vs) at.left c; holds = h.1 };
    }

pub in_place_agrees : (n : ℕ) {A : Type 0} (read : NestedReader A) (k : FieldKind A) → ReadsKind n read k → Agrees n (in_place read) (optional k)
in_place_agrees n read k reads = record { moves = in_place_moves n read k reads; ready = in_place_ready n read k reads }

-- ---- null

abbrev IsNull : Opening → Type 0
IsNull opening.Null = Unit {0}
IsNull opening.Other = ⊥
IsNull (opening.Described o) = ⊥

not_null : (o : Opening) (more rest : List ℕ) → opened_as o more ≡ Ok (opening.Null, rest) → IsNull o
not_null o more rest e = subst IsNull (sym (ap (λ q. q.0) (found_is (o, more) (opening.Null, rest) e))) tt

pub null_opened : (n : ℕ) (bytes rest : List ℕ) → opening_at (suc n) bytes ≡ Ok (opening.Null, rest) → Found (suc n) bytes rest (λ v. v ≡ d.null)
unfolding opening_at Behind
null_opened n bytes rest e =
    let x = bind_ok (by_fault outer (code_at bytes)) (opened (suc n)) (opening.Null, rest) e in
    by_code x.0.0 x.0.1 (code_sound bytes x.0.0 x.0.1 (by_fault_ok outer (code_at bytes) x.0 x.1)) x.2
  where
    by_code : (c : Code) (more : List ℕ) → ((b : ℕ) × (bytes ≡ b ∷ more) × (constructor_of b ≡ Some c)) → opened (suc n) (c, more) ≡ Ok (opening.Null, rest) → Found (suc n) bytes rest (λ v. v ≡ d.null)
    by_code (code.Leaf leaf.Null) more b e =
        let p = found_is (opening.Null, more) (opening.Null, rest) e in
        record {
          text = b.0 ∷ [];
          value = d.null;
          parts = b.1 ∙ ap (λ (t : List ℕ). b.0 ∷ t) (ap (λ q. q.1) p);
          spelled = record { byte = b.0; body = []; parts = refl; constructor = code.Leaf leaf.Null; known = b.2; spelled = record { chunk = []; laid = (refl, refl); meant = refl } };
          holds = refl;
        }
    by_code code.Described more b e =
        let x = bind_ok (by_fault outer (to plain_part (value_at (suc n - 1) more))) (λ x. opened_as (opening.Described (name_of x.0)) x.1) (opening.Null, rest) e in
        absurd (not_null (opening.Described (name_of x.0.0)) x.0.1 rest x.2)
    by_code c more b e = absurd (not_null opening.Other more rest e)

pub null_opens : (n : ℕ) (text rest : List ℕ) (v : Data) → Spells (suc n) text v → v ≡ d.null → opening_at (suc n) (text ++ rest) ≡ Ok (opening.Null, rest)
unfolding opening_at Behind
null_opens n text rest v h null = by_code h.constructor h.known (subst (λ w. Behind (suc n) h.constructor h.body w) null h.spelled)
  where
    opens : (c : Code) → constructor_of h.byte ≡ Some c → opening_at (suc n) (text ++ rest) ≡ opened (suc n) (c, h.body ++ rest)
    opens c k =
        ap (λ (t : List ℕ). by_fault outer (code_at (t ++ rest)) >>= opened (suc n)) h.parts
        ∙ ap (λ r. by_fault outer r >>= opened (suc n)) (code_complete h.byte c (h.body ++ rest) k)

    kind_is : (a b : Kind) → Some a ≡ Some b → a ≡ b
    kind_is a b e = cc

    by_leaf : (l : Leaf) → constructor_of h.byte ≡ Some (code.Leaf l) → kind.Null ≡ leaf_kind l → Behind (suc n) (code.Leaf l) h.body d.null → opening_at (suc n) (text ++ rest) ≡ Ok (opening.Null, rest)
    by_leaf leaf.Null k e s =
        let none : h.body ≡ [] = s.laid.0 ∙ nil_from_length s.chunk s.laid.1 in
        opens (code.Leaf leaf.Null) k ∙ ap (λ (t : List ℕ). opened_as opening.Null (t ++ rest)) none
    by_leaf l k e s = absurd cc

    by_code : (c : Code) → constructor_of h.byte ≡ Some c → Behind (suc n) c h.body d.null → opening_at (suc n) (text ++ rest) ≡ Ok (opening.Null, rest)
    by_code (code.Leaf l) k s = by_leaf l k (kind_is _ _ (leaf_meant l s.chunk d.null s.meant)) s
    by_code code.EmptyList k s = let e = s.1 in absurd cc
    by_code (code.List z) k s = let e = s.spelled.is in absurd cc
    by_code (code.Map z) k s = let e = s.spelled.is in absurd cc
    by_code (code.Array z) k s = let e = s.spelled.is in absurd cc
    by_code code.Described k s = let e = s.is in absurd cc

pub null_found : (n : ℕ) {A : Type 0} (k : FieldKind A) (bytes more rest : List ℕ) (o : Option A) → opening_at (suc n) bytes ≡ Ok (opening.Null, more) → found {A = Option A × List ℕ} (None, more) ≡ Ok (o, rest) → Found (suc n) bytes rest (optional k o)
null_found n {A = A} k bytes more rest o opens e =
    let p = found_is {A = Option A × List ℕ} (None, more) (o, rest) e in
    let f = null_opened n bytes more opens in
    record { text = f.text; value = f.value; parts = f.parts ∙ ap (λ (t : List ℕ). f.text ++ t) (ap (λ q. q.1) p); spelled = f.spelled; holds = subst (λ z. optional k z f.value) (ap (λ q. q.0) p) f.holds }

pub never_refused : {A : Type 0} (n : ℕ) (bytes : List ℕ) (x : A) → refused n bytes ≡ Ok x → ⊥
never_refused {A = A} n bytes x e = by_read (by_fault outer (after (value_at n bytes))) e
  where
    by_read : (r : Result (List ℕ) PerfFault) → ◌>>=◌ {B = A} r (λ _. Err fault.WrongKind) ≡ Ok x → ⊥
    by_read (Ok y) e = absurd cc
    by_read (Err f) e = absurd cc

-- ---- a described list

abbrev pub read_list : {X A : Type 0} → ℕ → ℕ → (At → Result X PerfFault) → (X → A) → List ℕ → Result (Option A × List ℕ) PerfFault
read_list n limit fields see more = listed (n - 1) limit fault.WrongKind more >>= λ list. fields list.0 >>= λ y. found (Some (see y), list.1)

pub list_found : {X A : Type 0} (n limit : ℕ) (name : Descriptor) (fields : At → Result X PerfFault) (table : X → List Field) (see : X → A) (k : FieldKind A)
    → ((at : At) (x : X) → at.depth ≡ n → fields at ≡ Ok x → Read at (table x)) → ((x : X) → length (table x) ≡ limit) → ((x : X) (v : Data) → IsList name (table x) v → k (see x) v)
    → (bytes more rest : List ℕ) (o : Option A) → opening_at (suc (suc n)) bytes ≡ Ok (opening.Described (Some name), more) → read_list (suc (suc n)) limit fields see more ≡ Ok (o, rest)
    → Found (suc (suc n)) bytes rest (optional k o)
list_found {X = X} {A = A} n limit name fields table see k sound size means bytes more rest o opens e =
    let l = bind_ok (listed (suc (suc n) - 1) limit fault.WrongKind more) (λ list. fields list.0 >>= λ y. found {A = Option A × List ℕ} (Some (see y), list.1)) (o, rest) e in
    let x = bind_ok (fields l.0.0) (λ y. found {A = Option A × List ℕ} (Some (see y), l.0.1)) (o, rest) l.2 in
    let q = found_is {A = Option A × List ℕ} (Some (see x.0), l.0.1) (o, rest) x.2 in
    let parts = subst (λ m. OpenedParts m bytes more (Some name)) (sym (less_one (suc n))) (opened_parts (suc (suc n)) bytes more (Some name) opens) in
    let listed_is = ap (λ m. listed m limit fault.WrongKind more) (less_one (suc n)) ∙ l.1 in
    let s = list_sound n limit fault.WrongKind name fields table sound size bytes more l.0.1 l.0.0 x.0 parts listed_is x.1 in
    record {
      text = s.0;
      value = s.2.value;
      parts = s.1 ∙ ap (λ (t : List ℕ). s.0 ++ t) (ap (λ q. q.1) q);
      spelled = s.2.spelled;
      holds = subst (λ z. optional k z s.2.value) (ap (λ q. q.0) q) (means x.0 s.2.value s.2.list);
    }

pub record ListReads {A : Type 0} (n : ℕ) (name : Descriptor) (read : List ℕ → Result (Option A × List ℕ) PerfFault) (x : A) (bytes rest : List ℕ) : Type 0 where
  pub behind : List ℕ
  pub opens : opening_at n bytes ≡ Ok (opening.Described (Some name), behind)
  pub reads : read behind ≡ Ok (Some x, rest)

pub list_reads : {X A : Type 0} (n limit : ℕ) (name : Descriptor) (fields : At → Result X PerfFault) (table : X → List Field) (see : X → A)
    → ((at : At) (x : X) → at.depth ≡ n → Ready at (table x) → fields at ≡ Ok x) → ((x : X) → length (table x) ≡ limit)
    → (text rest : List ℕ) (v : Data) (x : X) → Spells (suc (suc n)) text v → IsList name (table x) v
    → ListReads (suc (suc n)) name (read_list (suc (suc n)) limit fields see) (see x) (text ++ rest) rest
list_reads {X = X} {A = A} n limit name fields table see complete size text rest v x s h =
    let r = list_complete n limit fault.WrongKind name fields table complete size text rest x (record { value = v; spelled = s; list = h }) in
    record {
      behind = r.behind;
      opens = r.opened;
      reads =
          ap (λ m. listed m limit fault.WrongKind r.behind >>= λ list. fields list.0 >>= λ y. found {A = Option A × List ℕ} (Some (see y), list.1)) (sym (less_one (suc n)))
          ∙ ap (λ l. l >>= λ list. fields list.0 >>= λ y. found {A = Option A × List ℕ} (Some (see y), list.1)) r.listed
          ∙ ap (λ q. q >>= λ y. found {A = Option A × List ℕ} (Some (see y), rest)) r.read;
    }

-- ---- a described value that is carried

pub record CarriedParts (n : ℕ) (bytes rest : List ℕ) (name : Option Descriptor) (carries : List ℕ) : Type 0 where
  pub text : List ℕ
  pub descriptor : Data
  pub value : Data
  pub parts : bytes ≡ text ++ rest
  pub spelled : Spells n text (d.described descriptor value)
  pub named : name_of (Some descriptor) ≡ name
  pub is : carries ≡ spelling (d.described descriptor value)

abbrev Parted : Data → Type 0
Parted v = (a : Data) × (w : Data) × (v ≡ d.described a w)

parted : (n : ℕ) (bytes text more rest : List ℕ) (v : Data) (name : Option Descriptor) → bytes ≡ text ++ rest → Spells (suc n) text v → opening_at (suc n) bytes ≡ Ok (opening.Described name, more) → Parted v
unfolding opening_at Behind
parted n bytes text more rest v name parts h opens = by_code h.constructor h.known h.spelled (sym (opened_is h.constructor h.known) ∙ opens)
  where
    opened_is : (c : Code) → constructor_of h.byte ≡ Some c → opening_at (suc n) bytes ≡ opened (suc n) (c, h.body ++ rest)
    opened_is c k =
        ap (λ (t : List ℕ). by_fault outer (code_at t) >>= opened (suc n)) (parts ∙ ap (λ (t : List ℕ). t ++ rest) h.parts)
        ∙ ap (λ r. by_fault outer r >>= opened (suc n)) (code_complete h.byte c (h.body ++ rest) k)

    by_code : (c : Code) → constructor_of h.byte ≡ Some c → Behind (suc n) c h.body v → opened (suc n) (c, h.body ++ rest) ≡ Ok (opening.Described name, more) → Parted v
    by_code (code.Leaf leaf.Null) k s e = absurd (not_described opening.Null (h.body ++ rest) more name e)
    by_code code.Described k s e = (s.descriptor, s.value, sym s.is)
    by_code c k s e = absurd (not_described opening.Other (h.body ++ rest) more name e)

pub carried_parts : (n : ℕ) (bytes more rest carries : List ℕ) (name : Option Descriptor) → opening_at (suc n) bytes ≡ Ok (opening.Described name, more) → carried (suc n) bytes ≡ Ok (carries, rest) → CarriedParts (suc n) bytes rest name carries
carried_parts n bytes more rest carries name opens e =
    let x = bind_ok (by_fault outer (value_at (suc n) bytes)) (λ x. found {A = List ℕ × List ℕ} (spelling x.0, x.1)) (carries, rest) e in
    let p = found_is {A = List ℕ × List ℕ} (spelling x.0.0, x.0.1) (carries, rest) x.2 in
    let s = Spells-value_at (suc n) bytes x.0.0 x.0.1 (by_fault_ok outer (value_at (suc n) bytes) x.0 x.1) in
    let v = parted n bytes s.0 more x.0.1 x.0.0 name s.1 s.2 opens in
    let spelled = subst (λ w. Spells (suc n) s.0 w) v.2 s.2 in
    let two = described_parts n s.0 v.0 v.1 spelled in
    let again = opening_ready n s.0 x.0.1 v.0 v.1 (name_of (Some v.0)) two refl in
    let same = found_is (opening.Described name, more) (opening.Described (name_of (Some v.0)), two.second ++ x.0.1) (sym opens ∙ ap (λ (t : List ℕ). opening_at (suc n) t) s.1 ∙ again) in
    record {
      text = s.0;
      descriptor = v.0;
      value = v.1;
      parts = s.1 ∙ ap (λ (t : List ℕ). s.0 ++ t) (ap (λ q. q.1) p);
      spelled = spelled;
      named = sym (ap (λ q. name_in q.0) same);
      is = sym (ap (λ q. q.0) p) ∙ ap spelling v.2;
    }

-- a descriptor that is another's
pub apart : (names : Option Descriptor → Bool) (v : Data) (name : Option Descriptor) (known : Descriptor) → names name ≡ false → name_of (Some v) ≡ name → names (Some known) ≡ true → Names known v → ⊥
apart names v name known other is hit h = true≢false (sym hit ∙ ap names (sym (name_complete v known h)) ∙ ap names is ∙ other)
