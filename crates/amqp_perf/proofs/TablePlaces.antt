-- Places among items: what a reader of a field takes, and what it takes where the items are known.
use Rattle.std.proofs.Common.{◌≡◌, ℕ, suc, ◌-◌, ◌≤◌, Bool, true, false, cond, ◌==◌, ◌⊎◌, inl, inr, List, [], ◌∷◌, ◌++◌, length, Option, Some, None, Result, Ok, Err, refl, sym, ap, subst, ◌∙◌, arith}
use Rattle.std.proofs.Math.Dec.{eqb-suc-zero}
use Rattle.std.proofs.lemmas.Bool.{eqb-true, eqb-false}
use Rattle.std.proofs.lemmas.List.{nil_from_length}
use Rattle.amqp_model.specs.declared.type_fault.TypeFault.{TypeFault}
use Rattle.amqp_model.specs.Data as d
use Rattle.amqp_model.specs.Data.{Data, Items, no_items, item}
use Rattle.amqp_model.specs.View.{plain_part}
use Rattle.amqp_types.specs.Reading.{to, value_at}
use Rattle.amqp_types.specs.Spells.{Spells, AreItems}
use Rattle.amqp_model.specs.Data.{count}
use Rattle.amqp_types.proofs.Sound.{Spells-value_at}
use Rattle.amqp_types.proofs.Complete.{value_at-Spells}
use Rattle.amqp_types.proofs.Tools.{to_ok}
use Rattle.amqp_model.specs.declared.perf_fault.PerfFault.{PerfFault}
use Rattle.amqp_model.specs.declared.perf_fault.PerfFault.TheVariants as fault
use Rattle.amqp_model.specs.declared.type_fault.TypeFault.TheVariants as type_fault
use Rattle.amqp_perf.specs.Faults.{inner, by_fault, ◌>>=◌}
use Rattle.amqp_perf.specs.Fields.{At, Takes, ended, absent, next, value, plain, plain_only, unless_null}
use Rattle.amqp_perf.specs.Tables.{Field, Holds}

abbrev pub found : {A : Type 0} → A → Result A PerfFault
found x = Ok x

abbrev nothing : Result (Unit {0}) PerfFault
nothing = Ok tt

abbrev pub found_at : {A : Type 0} → A → At → Result (A × At) PerfFault
found_at x at = Ok (x, at)

-- ---- steps that did not fail

pub bind_ok : {A B : Type 0} (r : Result A PerfFault) (f : A → Result B PerfFault) (y : B) → (r >>= f) ≡ Ok y → (x : A) × (r ≡ Ok x) × (f x ≡ Ok y)
bind_ok (Ok x) f y e = (x, refl, e)
bind_ok (Err e) f y h = absurd cc

pub found_is : {A : Type 0} (x y : A) → found x ≡ found y → x ≡ y
found_is x y e = cc

pub by_fault_ok : {A : Type 0} (see : TypeFault → PerfFault) (r : Result A TypeFault) (x : A) → by_fault see r ≡ Ok x → r ≡ Ok x
by_fault_ok see (Ok y) x e = ap (λ z. Ok z) (found_is y x e)
by_fault_ok see (Err f) x e = absurd cc

pub ended_ok : (at : At) (u : Unit {0}) → ended at ≡ Ok u → at.bytes ≡ []
unfolding ended
ended_ok at u e = by_test (length at.bytes == 0) refl e
  where
    by_test : (b : Bool) → (length at.bytes == 0) ≡ b → cond b nothing (Err (fault.Spelling type_fault.SizeMismatch)) ≡ Ok u → at.bytes ≡ []
    by_test true is e = nil_from_length at.bytes (eqb-true _ _ is)
    by_test false is e = absurd cc

-- ---- forward: what a reader took

pub record TakesItem (at : At) (P : Data → Type 0) (behind : At) : Type 0 where
  pub value : Data
  pub text : List ℕ
  pub parts : at.bytes ≡ text ++ behind.bytes
  pub spelled : Spells at.depth text value
  pub holds : P value
  pub left : at.left ≡ suc behind.left
  pub depth : behind.depth ≡ at.depth

pub record TakesNone (at : At) (P : Data → Type 0) (behind : At) : Type 0 where
  pub none : at.left ≡ 0
  pub empty : at.bytes ≡ []
  pub same : at ≡ behind
  pub holds : P d.null

abbrev pub Moves : At → (Data → Type 0) → At → Type 0
Moves at P behind = TakesItem at P behind ⊎ TakesNone at P behind

-- the items from here on, which hold by these fields
pub record Ready (at : At) (fs : List Field) : Type 0 where
  pub items : Items
  pub spelled : AreItems (Spells at.depth) at.bytes items
  pub counted : count items ≡ at.left
  pub holds : Holds fs items

abbrev pub Read : At → List Field → Type 0
Read at fs = at.left ≤ length fs → Ready at fs

pub weaker : (at : At) (P Q : Data → Type 0) (behind : At) → ((v : Data) → P v → Q v) → Moves at P behind → Moves at Q behind
weaker at P Q behind f (inl m) = inl (record { value = m.value; text = m.text; parts = m.parts; spelled = m.spelled; holds = f m.value m.holds; left = m.left; depth = m.depth })
weaker at P Q behind f (inr m) = inr (record { none = m.none; empty = m.empty; same = m.same; holds = f d.null m.holds })

no_more : (f : Field) (fs : List Field) (vs : Items) → count vs ≡ 0 → f d.null → Holds fs vs → Holds (f ∷ fs) vs
no_more f fs no_items e h hs = (h, hs)
no_more f fs (item v vs) e h hs = absurd (not_zero (count vs) e)
  where
    not_zero : (n : ℕ) → suc n ≡ 0 → ⊥
    not_zero n e = omega arith

pub moved : (at : At) (f : Field) (fs : List Field) (behind : At) → Moves at f behind → Read behind fs → Read at (f ∷ fs)
moved at f fs behind (inl m) read few =
    let r = read (fewer at.left behind.left (length fs) m.left few) in
    record {
      items = item m.value r.items;
      spelled = (m.text, behind.bytes, m.parts, m.spelled, subst (λ n. AreItems (Spells n) behind.bytes r.items) m.depth r.spelled);
      counted = ap suc r.counted ∙ sym m.left;
      holds = (m.holds, r.holds);
    }
  where
    fewer : (a b n : ℕ) → a ≡ suc b → a ≤ suc n → b ≤ n
    fewer a b n e h = omega arith
moved at f fs behind (inr m) read few =
    let none : behind.left ≡ 0 = ap (λ (a : At). a.left) (sym m.same) ∙ m.none in
    let r = read (least behind.left (length fs) none) in
    subst (λ a. Ready a (f ∷ fs)) (sym m.same) (record {
      items = r.items;
      spelled = r.spelled;
      counted = r.counted;
      holds = no_more f fs r.items (r.counted ∙ none) m.holds r.holds;
    })
  where
    least : (a n : ℕ) → a ≡ 0 → a ≤ n
    least a n e = omega arith

pub finished : (at : At) (u : Unit {0}) → ended at ≡ Ok u → Read at []
finished at u e few = record { items = no_items; spelled = ended_ok at u e; counted = sym (none at.left few); holds = tt }
  where
    none : (n : ℕ) → n ≤ 0 → n ≡ 0
    none n h = omega arith

-- what a reader of values tells of the item
abbrev pub Sees : Option Data → Data → Type 0
Sees o v = o ≡ unless_null v

absent_moves : (at : At) (o : Option Data) (behind : At) → at.left ≡ 0 → absent at ≡ Ok (o, behind) → Moves at (Sees o) behind
absent_moves at o behind none e =
    let b = bind_ok (ended at) (λ _. found_at None at) (o, behind) e in
    let p = found_is (None, at) (o, behind) b.2 in
    inr (record { none = none; empty = ended_ok at b.0 b.1; same = ap (λ q. q.1) p; holds = sym (ap (λ q. q.0) p) })

pub one_less : (n : ℕ) → (n == 0) ≡ false → n ≡ suc (n - 1)
one_less n e = let ne = eqb-false n 0 e in omega arith

item_moves : (at : At) (v : Data) (o : Option Data) (rest : List ℕ) (behind : At) → (at.left == 0) ≡ false → value_at at.depth at.bytes ≡ Ok (v, rest) → found_at (unless_null v) (next at rest) ≡ Ok (o, behind) → Moves at (Sees o) behind
item_moves at v o rest behind some e is =
    let p = found_is (unless_null v, next at rest) (o, behind) is in
    let s = Spells-value_at at.depth at.bytes v rest e in
    subst (λ b. Moves at (Sees o) b) (ap (λ q. q.1) p) (inl (record {
      value = v;
      text = s.0;
      parts = s.1;
      spelled = s.2;
      holds = sym (ap (λ q. q.0) p);
      left = one_less at.left some;
      depth = refl;
    }))

pub value_moves : (at : At) (o : Option Data) (behind : At) → value at ≡ Ok (o, behind) → Moves at (Sees o) behind
unfolding value
value_moves at o behind e = by_test (at.left == 0) refl e
  where
    by_test : (b : Bool) → (at.left == 0) ≡ b → cond b (absent at) (by_fault inner (value_at at.depth at.bytes) >>= λ x. found_at (unless_null x.0) (next at x.1)) ≡ Ok (o, behind) → Moves at (Sees o) behind
    by_test true is e = absent_moves at o behind (eqb-true at.left 0 is) e
    by_test false is e =
        let x = bind_ok (by_fault inner (value_at at.depth at.bytes)) (λ x. found_at (unless_null x.0) (next at x.1)) (o, behind) e in
        item_moves at x.0.0 o x.0.1 behind is (by_fault_ok inner (value_at at.depth at.bytes) x.0 x.1) x.2

part_is : (v w : Data) → plain_part v ≡ Some w → v ≡ w
part_is (d.list vs) w e = absurd cc
part_is (d.map ps) w e = absurd cc
part_is (d.array k vs) w e = absurd cc
part_is (d.described a b) w e = absurd cc
part_is v w e = cc

pub plain_moves : (at : At) (o : Option Data) (behind : At) → plain at ≡ Ok (o, behind) → Moves at (Sees o) behind
unfolding plain
plain_moves at o behind e = by_test (at.left == 0) refl e
  where
    by_part : (v : Data) (part : Option Data) (rest : List ℕ) → plain_part v ≡ part → plain_only at (part, rest) ≡ Ok (o, behind) → found_at (unless_null v) (next at rest) ≡ Ok (o, behind)
    by_part v None rest is e = absurd cc
    by_part v (Some w) rest is e = ap (λ u. found_at (unless_null u) (next at rest)) (part_is v w is) ∙ e

    by_test : (b : Bool) → (at.left == 0) ≡ b → cond b (absent at) (by_fault inner (to plain_part (value_at at.depth at.bytes)) >>= plain_only at) ≡ Ok (o, behind) → Moves at (Sees o) behind
    by_test true is e = absent_moves at o behind (eqb-true at.left 0 is) e
    by_test false is e =
        let x = bind_ok (by_fault inner (to plain_part (value_at at.depth at.bytes))) (plain_only at) (o, behind) e in
        let t = to_ok plain_part (value_at at.depth at.bytes) x.0.0 x.0.1 (by_fault_ok inner (to plain_part (value_at at.depth at.bytes)) x.0 x.1) in
        item_moves at t.0 o x.0.1 behind is t.1 (by_part t.0 x.0.0 x.0.1 t.2 x.2)

-- ---- backward: what a reader takes where the items are known

pub record TakesFirst (n : ℕ) {A : Type 0} (take : Takes A) (x : A) (fs : List Field) (at : At) : Type 0 where
  pub behind : At
  pub took : take at ≡ Ok (x, behind)
  pub deep : behind.depth ≡ n
  pub ready : Ready behind fs

abbrev pub front : Items → Data
front no_items = d.null
front (item v vs) = v

abbrev pub others : Items → Items
others no_items = no_items
others (item v vs) = vs

pub first_holds : (f : Field) (fs : List Field) (vs : Items) → Holds (f ∷ fs) vs → f (front vs) × Holds fs (others vs)
first_holds f fs no_items h = h
first_holds f fs (item v vs) h = h

pub holds_first : (f : Field) (fs : List Field) (vs : Items) → f (front vs) → Holds fs (others vs) → Holds (f ∷ fs) vs
holds_first f fs no_items h hs = (h, hs)
holds_first f fs (item v vs) h hs = (h, hs)

pub ended_ready : (at : At) → Ready at [] → ended at ≡ nothing
unfolding ended
ended_ready at r = none r.items r.spelled r.holds
  where
    none : (vs : Items) → AreItems (Spells at.depth) at.bytes vs → Holds [] vs → cond (length at.bytes == 0) nothing (Err (fault.Spelling type_fault.SizeMismatch)) ≡ nothing
    none no_items e h = ap (λ (b : List ℕ). cond (length b == 0) nothing (Err (fault.Spelling type_fault.SizeMismatch))) e
    none (item v vs) e h = absurd h

-- no item is left
pub absent_taken : {A : Type 0} (at : At) → at.bytes ≡ [] → absent {A = A} at ≡ Ok (None, at)
unfolding ended
absent_taken at e = ap (λ (b : List ℕ). cond (length b == 0) nothing (Err (fault.Spelling type_fault.SizeMismatch)) >>= λ _. found_at None at) e

record First (at : At) (vs : Items) (take : Takes (Option Data)) : Type 0 where
  pub behind : At
  pub took : take at ≡ Ok (unless_null (front vs), behind)
  pub spelled : AreItems (Spells behind.depth) behind.bytes (others vs)
  pub counted : count (others vs) ≡ behind.left
  pub deep : behind.depth ≡ at.depth

pub counted_less : (n m : ℕ) → suc n ≡ m → n ≡ m - 1
counted_less n m e = omega arith

pub some_left : (n m : ℕ) → suc n ≡ m → (m == 0) ≡ false
some_left n m e = subst (λ k. (k == 0) ≡ false) e (eqb-suc-zero n)

value_first : (at : At) (vs : Items) → AreItems (Spells at.depth) at.bytes vs → count vs ≡ at.left → First at vs value
unfolding value
value_first at no_items s c = record {
  behind = at;
  took = ap (λ n. cond (n == 0) (absent at) (by_fault inner (value_at at.depth at.bytes) >>= λ x. found_at (unless_null x.0) (next at x.1))) (sym c) ∙ absent_taken at s;
  spelled = s;
  counted = c;
  deep = refl;
}
value_first at (item v vs) s c =
    let read : value_at at.depth at.bytes ≡ Ok (v, s.1) = ap (λ (t : List ℕ). value_at at.depth t) s.2 ∙ value_at-Spells at.depth s.0 v s.1 s.3 in
    record {
      behind = next at s.1;
      took =
          ap (λ b. cond b (absent at) (by_fault inner (value_at at.depth at.bytes) >>= λ x. found_at (unless_null x.0) (next at x.1))) (some_left (count vs) at.left c)
          ∙ ap (λ r. by_fault inner r >>= λ x. found_at (unless_null x.0) (next at x.1)) read;
      spelled = s.4;
      counted = counted_less (count vs) at.left c;
      deep = refl;
    }

plain_first : (at : At) (vs : Items) → AreItems (Spells at.depth) at.bytes vs → count vs ≡ at.left → plain_part (front vs) ≡ Some (front vs) → First at vs plain
unfolding plain
plain_first at no_items s c part = record {
  behind = at;
  took = ap (λ n. cond (n == 0) (absent at) (by_fault inner (to plain_part (value_at at.depth at.bytes)) >>= plain_only at)) (sym c) ∙ absent_taken at s;
  spelled = s;
  counted = c;
  deep = refl;
}
plain_first at (item v vs) s c part =
    let read : value_at at.depth at.bytes ≡ Ok (v, s.1) = ap (λ (t : List ℕ). value_at at.depth t) s.2 ∙ value_at-Spells at.depth s.0 v s.1 s.3 in
    record {
      behind = next at s.1;
      took =
          ap (λ b. cond b (absent at) (by_fault inner (to plain_part (value_at at.depth at.bytes)) >>= plain_only at)) (some_left (count vs) at.left c)
          ∙ ap (λ r. by_fault inner (to plain_part r) >>= plain_only at) read
          ∙ ap (λ o. plain_only at (o, s.1)) part;
      spelled = s.4;
      counted = counted_less (count vs) at.left c;
      deep = refl;
    }

-- what a reader of values takes for a field
pub record TakesFront (read : Takes (Option Data)) (f : Field) (fs : List Field) (at : At) : Type 0 where
  pub value : Data
  pub holds : f value
  pub behind : At
  pub took : read at ≡ Ok (unless_null value, behind)
  pub deep : behind.depth ≡ at.depth
  pub ready : Ready behind fs

-- A reader of values, of those for which P holds.
pub record ReadsValues (read : Takes (Option Data)) (P : Data → Type 0) : Type 1 where
  pub moves : (at : At) (o : Option Data) (behind : At) → read at ≡ Ok (o, behind) → Moves at (Sees o) behind
  pub null : P d.null
  pub front : (f : Field) (fs : List Field) (at : At) → ((v : Data) → f v → P v) → Ready at (f ∷ fs) → TakesFront read f fs at

pub reads_value : ReadsValues value (λ v. Unit {0})
reads_value = record {
  moves = value_moves;
  null = tt;
  front = λ f fs at proper r.
      let h = first_holds f fs r.items r.holds in
      let t = value_first at r.items r.spelled r.counted in
      record { value = front r.items; holds = h.0; behind = t.behind; took = t.took; deep = t.deep; ready = record { items = others r.items; spelled = t.spelled; counted = t.counted; holds = h.1 } };
}

abbrev pub IsPlain : Data → Type 0
IsPlain v = plain_part v ≡ Some v

pub reads_plain : ReadsValues plain IsPlain
reads_plain = record {
  moves = plain_moves;
  null = refl;
  front = λ f fs at proper r.
      let h = first_holds f fs r.items r.holds in
      let t = plain_first at r.items r.spelled r.counted (proper (front r.items) h.0) in
      record { value = front r.items; holds = h.0; behind = t.behind; took = t.took; deep = t.deep; ready = record { items = others r.items; spelled = t.spelled; counted = t.counted; holds = h.1 } };
}

-- ---- a field's reader, both ways

-- where a field's value may have n levels
pub record Agrees (n : ℕ) {A : Type 0} (take : Takes A) (F : A → Field) : Type 1 where
  pub moves : (at : At) (x : A) (behind : At) → at.depth ≡ n → take at ≡ Ok (x, behind) → Moves at (F x) behind
  pub ready : (at : At) (x : A) (fs : List Field) → at.depth ≡ n → Ready at (F x ∷ fs) → TakesFirst n take x fs at

-- a field that holds for the same values by another line
pub instead : (f g : Field) (fs : List Field) (at : At) → ((v : Data) → f v → g v) → Ready at (f ∷ fs) → Ready at (g ∷ fs)
instead f g fs at turn r = record { items = r.items; spelled = r.spelled; counted = r.counted; holds = by_items r.items r.holds }
  where
    by_items : (vs : Items) → Holds (f ∷ fs) vs → Holds (g ∷ fs) vs
    by_items no_items h = (turn d.null h.0, h.1)
    by_items (item v vs) h = (turn v h.0, h.1)

pub moved_deep : (at : At) (P : Data → Type 0) (behind : At) → Moves at P behind → behind.depth ≡ at.depth
moved_deep at P behind (inl m) = m.depth
moved_deep at P behind (inr m) = ap (λ (a : At). a.depth) (sym m.same)

-- one field, and what follows
pub field : {n : ℕ} {A B : Type 0} {take : Takes A} {F : A → Field} {Goal : Type 0} → Agrees n take F → (at : At) (then : A × At → Result B PerfFault) (y : B) → at.depth ≡ n → (take at >>= then) ≡ Ok y
    → ((x : A) (behind : At) → behind.depth ≡ n → Moves at (F x) behind → then (x, behind) ≡ Ok y → Goal) → Goal
field {take = take} {F = F} agrees at then y deep e go =
    let b = bind_ok (take at) then y e in
    let m = agrees.moves at b.0.0 b.0.1 deep b.1 in
    go b.0.0 b.0.1 (moved_deep at (F b.0.0) b.0.1 m ∙ deep) m b.2

pub last : {B : Type 0} {Goal : Type 0} (at : At) (then : Unit {0} → Result B PerfFault) (y : B) → (ended at >>= then) ≡ Ok y → (Read at [] → then tt ≡ Ok y → Goal) → Goal
last at then y e go = let b = bind_ok (ended at) then y e in go (finished at b.0 b.1) b.2

-- any step, and what follows
pub taken : {A B : Type 0} {Goal : Type 0} (r : Result A PerfFault) (then : A → Result B PerfFault) (y : B) → (r >>= then) ≡ Ok y → ((x : A) → r ≡ Ok x → then x ≡ Ok y → Goal) → Goal
taken r then y e go = let b = bind_ok r then y e in go b.0 b.1 b.2

-- a reader of several fields before others: the lines before theirs
abbrev pub Part : ℕ → At → At → List Field → List Field → Type 0
Part n at behind fs lines = (behind.depth ≡ n) × (Read behind fs → Read at lines)

-- one field that is known, and what follows
pub given : {n : ℕ} {A : Type 0} {take : Takes A} {F : A → Field} {Goal : Type 0} → Agrees n take F → (at : At) (x : A) (fs : List Field) → at.depth ≡ n → Ready at (F x ∷ fs)
    → ((behind : At) → behind.depth ≡ n → take at ≡ Ok (x, behind) → Ready behind fs → Goal) → Goal
given agrees at x fs deep r go = let t = agrees.ready at x fs deep r in go t.behind t.deep t.took t.ready
