-- The readers of fields against their lines in a table.
use Rattle.std.proofs.Common.{◌≡◌, ℕ, ◌≤◌, Bool, true, false, cond, nat_lt, inl, inr, List, [], ◌∷◌, length, Option, Some, None, Result, Ok, Err, refl, sym, ap, subst, ◌∙◌}
use Rattle.std.specs.Option.{unwrap_or}
use Rattle.std.proofs.lemmas.Bool.{ltb-false, le-ltb}
use Rattle.arrayvec.specs.ArrayVec.{ArrayVec}
use Rattle.amqp_model.specs.declared.code.Kind.TheVariants as kind
use Rattle.amqp_model.specs.Data as d
use Rattle.amqp_model.specs.Data.{Data, Items, no_items, item}
use Rattle.amqp_model.specs.ValueSpelling.{spelling}
use Rattle.amqp_model.specs.declared.perf_fault.PerfFault.{PerfFault}
use Rattle.amqp_model.specs.declared.perf_fault.PerfFault.TheVariants as fault
use Rattle.amqp_model.specs.declared.perf.Role.{Role}
use Rattle.amqp_model.specs.declared.perf.Role.TheVariants as role
use Rattle.amqp_model.specs.declared.terminus.Address.{Address}
use Rattle.amqp_model.specs.declared.terminus.Address.TheVariants as address
use Rattle.amqp_perf.specs.Faults.{◌>>=◌}
use Rattle.amqp_perf.specs.Fields as read
use Rattle.amqp_perf.specs.Fields.{At, Takes, unless_null, judged, required, or_else, is_boolean, is_ubyte, is_ushort, is_uint, is_ulong, is_text, is_binary, is_tag, is_map, is_symbol, is_symbols, are_symbols, some_symbols, address_of}
use Rattle.amqp_perf.specs.Performative.{role_of, required_role}
use Rattle.amqp_model.specs.Texts.{symbol_items}
use Rattle.amqp_perf.specs.Fitting.{is_address_value}
use Rattle.amqp_perf.specs.Tables as t
use Rattle.amqp_perf.specs.Tables.{Kind, Field, mandatory, optional, defaulted, multiple}
use Rattle.amqp_perf.proofs.TablePlaces.{found, found_at, bind_ok, found_is, Moves, Ready, weaker, Sees, TakesFirst, ReadsValues, reads_value, reads_plain, IsPlain, Agrees, instead, first_holds, holds_first, front}

-- ---- what a reader of values answered

unseen : (v : Data) → None ≡ unless_null v → v ≡ d.null
unseen d.null e = refl
unseen v e = absurd cc

seen : (v w : Data) → Some w ≡ unless_null v → v ≡ w
seen d.null w e = absurd cc
seen v w e = cc

-- ---- a kind, and the function that judges a value that is not null

abbrev pub IsThere : Data → Type 0
IsThere v = unless_null v ≡ Some v

is_there : (v w : Data) → Some w ≡ unless_null v → IsThere w
is_there v w e = subst (λ u. unless_null u ≡ Some w) (seen v w e) (sym e)

pub record Judges {A : Type 0} (P : Data → Type 0) (k : Kind A) (is : Data → Result A PerfFault) : Type 0 where
  pub sound : (v : Data) (x : A) → IsThere v → is v ≡ Ok x → k x v
  pub complete : (v : Data) (x : A) → k x v → is v ≡ Ok x
  pub some : (v : Data) (x : A) → k x v → IsThere v
  pub proper : (v : Data) (x : A) → k x v → P v

-- a field that may be absent
abbrev may : {A : Type 0} → Takes (Option Data) → (Data → Result A PerfFault) → Takes (Option A)
may R is at = R at >>= judged is

may_moves : {A : Type 0} (R : Takes (Option Data)) (P : Data → Type 0) → ReadsValues R P → (k : Kind A) (is : Data → Result A PerfFault) → Judges P k is
    → (at : At) (o : Option A) (behind : At) → may R is at ≡ Ok (o, behind) → Moves at (optional k o) behind
may_moves R P reads k is judges at o behind e =
    let b = bind_ok (R at) (judged is) (o, behind) e in
    by_seen b.0.0 b.0.1 (reads.moves at b.0.0 b.0.1 b.1) b.2
  where
    by_seen : (s : Option Data) (a : At) → Moves at (Sees s) a → judged is (s, a) ≡ Ok (o, behind) → Moves at (optional k o) behind
    by_seen None a m e =
        let p = found_is (None, a) (o, behind) e in
        subst (λ b. Moves at (optional k o) b) (ap (λ q. q.1) p)
        (weaker at (Sees None) (optional k o) a (λ v s. subst (λ z. optional k z v) (ap (λ q. q.0) p) (unseen v s)) m)
    by_seen (Some w) a m e =
        let x = bind_ok (is w) (λ x. found_at (Some x) a) (o, behind) e in
        let p = found_is (Some x.0, a) (o, behind) x.2 in
        subst (λ b. Moves at (optional k o) b) (ap (λ q. q.1) p)
        (weaker at (Sees (Some w)) (optional k o) a (λ v s. subst (λ z. optional k z v) (ap (λ q. q.0) p) (subst (λ u. k x.0 u) (sym (seen v w s)) (judges.sound w x.0 (is_there v w s) x.1))) m)

may_ready : {A : Type 0} (n : ℕ) (R : Takes (Option Data)) (P : Data → Type 0) → ReadsValues R P → (k : Kind A) (is : Data → Result A PerfFault) → Judges P k is
    → (at : At) (o : Option A) (fs : List Field) → at.depth ≡ n → Ready at (optional k o ∷ fs) → TakesFirst n (may R is) o fs at
may_ready n R P reads k is judges at None fs deep r =
    let t = reads.front (optional k None) fs at (λ v h. subst P (sym h) reads.null) r in
    record { behind = t.behind; took = ap (λ r. r >>= judged is) t.took ∙ ap (λ v. judged is (unless_null v, t.behind)) t.holds; deep = t.deep ∙ deep; ready = t.ready }
may_ready n R P reads k is judges at (Some x) fs deep r =
    let t = reads.front (optional k (Some x)) fs at (λ v h. judges.proper v x h) r in
    record {
      behind = t.behind;
      took =
          ap (λ r. r >>= judged is) t.took
          ∙ ap (λ s. judged is (s, t.behind)) (judges.some t.value x t.holds)
          ∙ ap (λ r. r >>= λ y. found_at (Some y) t.behind) (judges.complete t.value x t.holds);
      deep = t.deep ∙ deep;
      ready = t.ready;
    }

may_agrees : {A : Type 0} (n : ℕ) (R : Takes (Option Data)) (P : Data → Type 0) → ReadsValues R P → (k : Kind A) (is : Data → Result A PerfFault) → Judges P k is → Agrees n (may R is) (optional k)
may_agrees n R P reads k is judges = record { moves = λ at x behind deep e. may_moves R P reads k is judges at x behind e; ready = may_ready n R P reads k is judges }

-- a field that must be there
must_agrees : {A : Type 0} (n : ℕ) (k : Kind A) (take : Takes (Option A)) → Agrees n take (optional k) → Agrees n (λ at. take at >>= required) (mandatory k)
must_agrees {A = A} n k take agrees = record {
  moves = λ at x behind deep e.
      let b = bind_ok (take at) required (x, behind) e in
      by_given at x behind b.0.0 b.0.1 (agrees.moves at b.0.0 b.0.1 deep b.1) b.2;
  ready = λ at x fs deep r.
      let t = agrees.ready at (Some x) fs deep (instead (mandatory k x) (optional k (Some x)) fs at (λ v h. h) r) in
      record { behind = t.behind; took = ap (λ r. r >>= required) t.took; deep = t.deep; ready = t.ready };
}
  where
    by_given : (at : At) (x : A) (behind : At) (o : Option A) (a : At) → Moves at (optional k o) a → required (o, a) ≡ Ok (x, behind) → Moves at (mandatory k x) behind
    by_given at x behind None a m e = absurd cc
    by_given at x behind (Some y) a m e =
        let p = found_is (y, a) (x, behind) e in
        subst (λ b. Moves at (mandatory k x) b) (ap (λ q. q.1) p) (subst (λ z. Moves at (mandatory k z) a) (ap (λ q. q.0) p) m)

-- a field with a default
by_default : {A : Type 0} (k : Kind A) (default : A) (o : Option A) (v : Data) → optional k o v → defaulted k default (unwrap_or o default) v
by_default k default None v h = inr (h, refl)
by_default k default (Some x) v h = inl h

pub defaulted_moves : {A : Type 0} (k : Kind A) (default : A) (o : Option A) (at behind : At) → Moves at (optional k o) behind → Moves at (defaulted k default (unwrap_or o default)) behind
defaulted_moves k default o at behind m = weaker at (optional k o) (defaulted k default (unwrap_or o default)) behind (by_default k default o) m

record Given {A : Type 0} (k : Kind A) (default x : A) (fs : List Field) (at : At) : Type 0 where
  pub given : Option A
  pub is : unwrap_or given default ≡ x
  pub ready : Ready at (optional k given ∷ fs)

defaulted_ready : {A : Type 0} (k : Kind A) (default x : A) (fs : List Field) (at : At) → Ready at (defaulted k default x ∷ fs) → Given k default x fs at
defaulted_ready {A = A} k default x fs at r =
    let h = first_holds (defaulted k default x) fs r.items r.holds in
    let g = by_value (front r.items) h.0 in
    record { given = g.0; is = g.1; ready = record { items = r.items; spelled = r.spelled; counted = r.counted; holds = holds_first (optional k g.0) fs r.items g.2 h.1 } }
  where
    by_value : (v : Data) → defaulted k default x v → (o : Option A) × (unwrap_or o default ≡ x) × optional k o v
    by_value v (inl h) = (Some x, refl, h)
    by_value v (inr h) = (None, sym h.1, h.0)

-- one field with a default that is known, and what follows
pub given_or : {n : ℕ} {A : Type 0} {take : Takes (Option A)} {Goal : Type 0} (k : Kind A) (default : A) → Agrees n take (optional k) → (at : At) (x : A) (fs : List Field) → at.depth ≡ n → Ready at (defaulted k default x ∷ fs)
    → ((o : Option A) (behind : At) → unwrap_or o default ≡ x → behind.depth ≡ n → take at ≡ Ok (o, behind) → Ready behind fs → Goal) → Goal
given_or k default agrees at x fs deep r go =
    let g = defaulted_ready k default x fs at r in
    let t = agrees.ready at g.given fs deep g.ready in
    go g.given t.behind g.is t.deep t.took t.ready

or_agrees : {A : Type 0} (n : ℕ) (k : Kind A) (default : A) (take : Takes (Option A)) → Agrees n take (optional k) → Agrees n (λ at. take at >>= or_else default) (defaulted k default)
or_agrees n k default take agrees = record {
  moves = λ at x behind deep e.
      let b = bind_ok (take at) (or_else default) (x, behind) e in
      let p = found_is (unwrap_or b.0.0 default, b.0.1) (x, behind) b.2 in
      subst (λ b. Moves at (defaulted k default x) b) (ap (λ q. q.1) p) (subst (λ z. Moves at (defaulted k default z) b.0.1) (ap (λ q. q.0) p) (defaulted_moves k default b.0.0 at b.0.1 (agrees.moves at b.0.0 b.0.1 deep b.1)));
  ready = λ at x fs deep r.
      let g = defaulted_ready k default x fs at r in
      let t = agrees.ready at g.given fs deep g.ready in
      record { behind = t.behind; took = ap (λ r. r >>= or_else default) t.took ∙ ap (λ z. found_at z t.behind) g.is; deep = t.deep; ready = t.ready };
}

-- ---- the kinds

equal_judges : {A : Type 0} (of : A → Data) (is : Data → Result A PerfFault) → ((v : Data) (x : A) → is v ≡ Ok x → v ≡ of x) → ((x : A) → is (of x) ≡ Ok x)
    → ((x : A) → IsThere (of x)) → ((x : A) → IsPlain (of x)) → Judges IsPlain (λ x v. v ≡ of x) is
equal_judges of is sound complete some proper = record {
  sound = λ v x there e. sound v x e;
  complete = λ v x e. ap is e ∙ complete x;
  some = λ v x e. subst IsThere (sym e) (some x);
  proper = λ v x e. subst IsPlain (sym e) (proper x);
}

boolean_judges : Judges IsPlain t.boolean is_boolean
boolean_judges = equal_judges d.boolean is_boolean sound (λ x. refl) (λ x. refl) (λ x. refl)
  where
    sound : (v : Data) (x : Bool) → is_boolean v ≡ Ok x → v ≡ d.boolean x
    sound (d.boolean y) x e = ap d.boolean (found_is y x e)
    sound v x e = absurd cc

ubyte_judges : Judges IsPlain t.ubyte is_ubyte
ubyte_judges = equal_judges d.ubyte is_ubyte sound (λ x. refl) (λ x. refl) (λ x. refl)
  where
    sound : (v : Data) (x : ℕ) → is_ubyte v ≡ Ok x → v ≡ d.ubyte x
    sound (d.ubyte y) x e = ap d.ubyte (found_is y x e)
    sound v x e = absurd cc

ushort_judges : Judges IsPlain t.ushort is_ushort
ushort_judges = equal_judges d.ushort is_ushort sound (λ x. refl) (λ x. refl) (λ x. refl)
  where
    sound : (v : Data) (x : ℕ) → is_ushort v ≡ Ok x → v ≡ d.ushort x
    sound (d.ushort y) x e = ap d.ushort (found_is y x e)
    sound v x e = absurd cc

uint_judges : Judges IsPlain t.uint is_uint
uint_judges = equal_judges d.uint is_uint sound (λ x. refl) (λ x. refl) (λ x. refl)
  where
    sound : (v : Data) (x : ℕ) → is_uint v ≡ Ok x → v ≡ d.uint x
    sound (d.uint y) x e = ap d.uint (found_is y x e)
    sound v x e = absurd cc

ulong_judges : Judges IsPlain t.ulong is_ulong
ulong_judges = equal_judges d.ulong is_ulong sound (λ x. refl) (λ x. refl) (λ x. refl)
  where
    sound : (v : Data) (x : ℕ) → is_ulong v ≡ Ok x → v ≡ d.ulong x
    sound (d.ulong y) x e = ap d.ulong (found_is y x e)
    sound v x e = absurd cc

string_judges : Judges IsPlain t.string is_text
string_judges = equal_judges d.string is_text sound (λ x. refl) (λ x. refl) (λ x. refl)
  where
    sound : (v : Data) (x : List ℕ) → is_text v ≡ Ok x → v ≡ d.string x
    sound (d.string y) x e = ap d.string (found_is y x e)
    sound v x e = absurd cc

symbol_judges : Judges IsPlain t.symbol is_symbol
symbol_judges = equal_judges d.symbol is_symbol sound (λ x. refl) (λ x. refl) (λ x. refl)
  where
    sound : (v : Data) (x : List ℕ) → is_symbol v ≡ Ok x → v ≡ d.symbol x
    sound (d.symbol y) x e = ap d.symbol (found_is y x e)
    sound v x e = absurd cc

binary_judges : Judges IsPlain t.binary is_binary
binary_judges = equal_judges d.binary is_binary sound (λ x. refl) (λ x. refl) (λ x. refl)
  where
    sound : (v : Data) (x : List ℕ) → is_binary v ≡ Ok x → v ≡ d.binary x
    sound (d.binary y) x e = ap d.binary (found_is y x e)
    sound v x e = absurd cc

tag_judges : Judges IsPlain t.tag is_tag
tag_judges = record { sound = sound; complete = complete; some = λ v x h. subst IsThere (sym h.0) refl; proper = λ v x h. subst IsPlain (sym h.0) refl }
  where
    by_length : (bytes : List ℕ) (x : ArrayVec ℕ) (b : Bool) → nat_lt 32 (length bytes) ≡ b → cond b (Err fault.TagTooLong) (found (record { items = bytes })) ≡ Ok x → t.tag x (d.binary bytes)
    by_length bytes x true is e = absurd cc
    by_length bytes x false is e =
        let p : record { items = bytes } ≡ x = found_is (record { items = bytes }) x e in
        (ap (λ (t : ArrayVec ℕ). d.binary t.items) p, subst (λ (t : ArrayVec ℕ). length t.items ≤ 32) p (ltb-false 32 (length bytes) is))

    sound : (v : Data) (x : ArrayVec ℕ) → IsThere v → is_tag v ≡ Ok x → t.tag x v
    sound (d.binary bytes) x there e = by_length bytes x (nat_lt 32 (length bytes)) refl e
    sound v x there e = absurd cc

    complete : (v : Data) (x : ArrayVec ℕ) → t.tag x v → is_tag v ≡ Ok x
    complete v x h = ap is_tag h.0 ∙ ap (λ b. cond b (Err fault.TagTooLong) (found x)) (le-ltb 32 (length x.items) h.1)

map_judges : Judges (λ v. Unit {0}) t.map is_map
map_judges = record {
  sound = sound;
  complete = λ v x h. ap is_map h.1 ∙ ap (λ w. found (spelling w)) (sym h.1) ∙ ap (λ y. found y) (sym h.2);
  some = λ v x h. subst IsThere (sym h.1) refl;
  proper = λ v x h. tt;
}
  where
    sound : (v : Data) (x : List ℕ) → IsThere v → is_map v ≡ Ok x → t.map x v
    sound (d.map ps) x there e = (ps, refl, sym (found_is _ x e))
    sound v x there e = absurd cc

symbols_judges : Judges (λ v. Unit {0}) t.symbols is_symbols
symbols_judges = record { sound = sound; complete = complete; some = some; proper = λ v x h. tt }
  where
    symbol_is : (v : Data) (x : List ℕ) → is_symbol v ≡ Ok x → v ≡ d.symbol x
    symbol_is (d.symbol y) x e = ap d.symbol (found_is y x e)
    symbol_is v x e = absurd cc

    items_are : (vs : Items) (xs : List (List ℕ)) → are_symbols vs ≡ Ok xs → vs ≡ symbol_items xs
    items_are no_items xs e = ap symbol_items (found_is [] xs e)
    items_are (item v vs) xs e =
        let a = bind_ok (is_symbol v) (λ s. are_symbols vs >>= λ others. found (s ∷ others)) xs e in
        let b = bind_ok (are_symbols vs) (λ others. found (a.0 ∷ others)) xs a.2 in
        ap (λ w. item w vs) (symbol_is v a.0 a.1) ∙ ap (λ w. item (d.symbol a.0) w) (items_are vs b.0 b.1) ∙ ap symbol_items (found_is (a.0 ∷ b.0) xs b.2)

    sound : (v : Data) (xs : List (List ℕ)) → IsThere v → is_symbols v ≡ Ok xs → t.symbols xs v
    sound (d.symbol s) xs there e = inr (s, sym (found_is (s ∷ []) xs e), refl)
    sound (d.array kind.Symbol vs) xs there e = inl (ap (λ w. d.array kind.Symbol w) (items_are vs xs e))
    sound v xs there e = absurd cc

    items_again : (xs : List (List ℕ)) → are_symbols (symbol_items xs) ≡ Ok xs
    items_again [] = refl
    items_again (x ∷ xs) = ap (λ r. r >>= λ others. found (x ∷ others)) (items_again xs)

    complete : (v : Data) (xs : List (List ℕ)) → t.symbols xs v → is_symbols v ≡ Ok xs
    complete v xs (inl h) = ap is_symbols h ∙ items_again xs
    complete v xs (inr h) = ap is_symbols h.2 ∙ ap (λ y. found y) (sym h.1)

    some : (v : Data) (xs : List (List ℕ)) → t.symbols xs v → IsThere v
    some v xs (inl h) = subst IsThere (sym h) refl
    some v xs (inr h) = subst IsThere (sym h.2) refl

address_judges : Judges (λ v. Unit {0}) t.node_address (λ v. found (address_of v))
address_judges = record { sound = sound; complete = complete; some = some; proper = λ v x h. tt }
  where
    sound : (v : Data) (x : Address) → IsThere v → found (address_of v) ≡ Ok x → t.node_address x v
    sound d.null x there e = absurd cc
    sound (d.string s) x there e = subst (λ a. t.node_address a (d.string s)) (found_is (address.Text s) x e) refl
    sound v x there e = subst (λ a. t.node_address a v) (found_is (address.Other (spelling v)) x e) (refl, refl)

    other : (v : Data) (bytes : List ℕ) → is_address_value v ≡ true → bytes ≡ spelling v → found (address_of v) ≡ Ok (address.Other bytes)
    other d.null bytes h e = absurd cc
    other (d.string s) bytes h e = absurd cc
    other v bytes h e = ap (λ b. found (address.Other b)) (sym e)

    complete : (v : Data) (x : Address) → t.node_address x v → found (address_of v) ≡ Ok x
    complete v (address.Text s) h = ap (λ w. found (address_of w)) h
    complete v (address.Other bytes) h = other v bytes h.0 h.1

    there : (v : Data) → is_address_value v ≡ true → IsThere v
    there d.null h = absurd cc
    there v h = refl

    some : (v : Data) (x : Address) → t.node_address x v → IsThere v
    some v (address.Text s) h = subst IsThere (sym h) refl
    some v (address.Other bytes) h = there v h.0

-- ---- the readers

pub optional_ubyte : (n : ℕ) → Agrees n read.ubyte (optional t.ubyte)
unfolding read.ubyte
optional_ubyte n = may_agrees n read.plain IsPlain reads_plain t.ubyte is_ubyte ubyte_judges

pub mandatory_ubyte : (n : ℕ) → Agrees n read.required_ubyte (mandatory t.ubyte)
unfolding read.required_ubyte
mandatory_ubyte n = must_agrees n t.ubyte (may read.plain is_ubyte) (may_agrees n read.plain IsPlain reads_plain t.ubyte is_ubyte ubyte_judges)

pub optional_ushort : (n : ℕ) → Agrees n read.ushort (optional t.ushort)
unfolding read.ushort
optional_ushort n = may_agrees n read.plain IsPlain reads_plain t.ushort is_ushort ushort_judges

pub optional_uint : (n : ℕ) → Agrees n read.uint (optional t.uint)
unfolding read.uint
optional_uint n = may_agrees n read.plain IsPlain reads_plain t.uint is_uint uint_judges

pub mandatory_uint : (n : ℕ) → Agrees n read.required_uint (mandatory t.uint)
unfolding read.required_uint
mandatory_uint n = must_agrees n t.uint (may read.plain is_uint) (may_agrees n read.plain IsPlain reads_plain t.uint is_uint uint_judges)

pub optional_ulong : (n : ℕ) → Agrees n read.ulong (optional t.ulong)
unfolding read.ulong
optional_ulong n = may_agrees n read.plain IsPlain reads_plain t.ulong is_ulong ulong_judges

pub mandatory_ulong : (n : ℕ) → Agrees n read.required_ulong (mandatory t.ulong)
unfolding read.required_ulong
mandatory_ulong n = must_agrees n t.ulong (may read.plain is_ulong) (may_agrees n read.plain IsPlain reads_plain t.ulong is_ulong ulong_judges)

pub optional_string : (n : ℕ) → Agrees n read.text (optional t.string)
unfolding read.text
optional_string n = may_agrees n read.plain IsPlain reads_plain t.string is_text string_judges

pub mandatory_string : (n : ℕ) → Agrees n read.required_text (mandatory t.string)
unfolding read.required_text
mandatory_string n = must_agrees n t.string (may read.plain is_text) (may_agrees n read.plain IsPlain reads_plain t.string is_text string_judges)

pub optional_symbol : (n : ℕ) → Agrees n read.symbol (optional t.symbol)
unfolding read.symbol
optional_symbol n = may_agrees n read.plain IsPlain reads_plain t.symbol is_symbol symbol_judges

pub mandatory_symbol : (n : ℕ) → Agrees n read.required_symbol (mandatory t.symbol)
unfolding read.required_symbol
mandatory_symbol n = must_agrees n t.symbol (may read.plain is_symbol) (may_agrees n read.plain IsPlain reads_plain t.symbol is_symbol symbol_judges)

pub optional_binary : (n : ℕ) → Agrees n read.binary (optional t.binary)
unfolding read.binary
optional_binary n = may_agrees n read.plain IsPlain reads_plain t.binary is_binary binary_judges

pub mandatory_binary : (n : ℕ) → Agrees n read.required_binary (mandatory t.binary)
unfolding read.required_binary
mandatory_binary n = must_agrees n t.binary (may read.plain is_binary) (may_agrees n read.plain IsPlain reads_plain t.binary is_binary binary_judges)

pub optional_tag : (n : ℕ) → Agrees n read.tag (optional t.tag)
unfolding read.tag
optional_tag n = may_agrees n read.plain IsPlain reads_plain t.tag is_tag tag_judges

pub optional_map : (n : ℕ) → Agrees n read.map (optional t.map)
unfolding read.map
optional_map n = may_agrees n read.value (λ v. Unit {0}) reads_value t.map is_map map_judges

pub optional_address : (n : ℕ) → Agrees n read.address_at (optional t.node_address)
unfolding read.address_at
optional_address n = may_agrees n read.value (λ v. Unit {0}) reads_value t.node_address (λ v. found (address_of v)) address_judges

pub flag_agrees : (n : ℕ) → Agrees n read.flag (defaulted t.boolean false)
unfolding read.flag
flag_agrees n = or_agrees n t.boolean false (may read.plain is_boolean) (may_agrees n read.plain IsPlain reads_plain t.boolean is_boolean boolean_judges)

mandatory_boolean : (n : ℕ) → Agrees n read.required_flag (mandatory t.boolean)
unfolding read.required_flag
mandatory_boolean n = must_agrees n t.boolean (may read.plain is_boolean) (may_agrees n read.plain IsPlain reads_plain t.boolean is_boolean boolean_judges)

pub mandatory_role : (n : ℕ) → Agrees n required_role (mandatory t.role_kind)
unfolding required_role
mandatory_role n = record { moves = moves; ready = ready }
  where
    role_means : (b : Bool) (v : Data) → t.boolean b v → t.role_kind (role_of b) v
    role_means true v h = h
    role_means false v h = h

    moves : (at : At) (x : Role) (behind : At) → at.depth ≡ n → required_role at ≡ Ok (x, behind) → Moves at (mandatory t.role_kind x) behind
    moves at x behind deep e =
        let b = bind_ok (read.required_flag at) (λ y. found_at (role_of y.0) y.1) (x, behind) e in
        let p = found_is (role_of b.0.0, b.0.1) (x, behind) b.2 in
        let m = (mandatory_boolean n).moves at b.0.0 b.0.1 deep b.1 in
        subst (λ a. Moves at (t.role_kind x) a) (ap (λ q. q.1) p) (subst (λ r. Moves at (t.role_kind r) b.0.1) (ap (λ q. q.0) p) (weaker at (t.boolean b.0.0) (t.role_kind (role_of b.0.0)) b.0.1 (role_means b.0.0) m))

    by_flag : (b : Bool) (at : At) (fs : List Field) → at.depth ≡ n → Ready at (mandatory t.boolean b ∷ fs) → TakesFirst n required_role (role_of b) fs at
    by_flag b at fs deep r =
        let t = (mandatory_boolean n).ready at b fs deep r in
        record { behind = t.behind; took = ap (λ r. r >>= λ y. found_at (role_of y.0) y.1) t.took; deep = t.deep; ready = t.ready }

    ready : (at : At) (x : Role) (fs : List Field) → at.depth ≡ n → Ready at (mandatory t.role_kind x ∷ fs) → TakesFirst n required_role x fs at
    ready at role.Sender fs deep r = by_flag false at fs deep (instead (t.role_kind role.Sender) (t.boolean false) fs at (λ v h. h) r)
    ready at role.Receiver fs deep r = by_flag true at fs deep (instead (t.role_kind role.Receiver) (t.boolean true) fs at (λ v h. h) r)

pub multiple_agrees : (n : ℕ) → Agrees n read.symbols multiple
unfolding read.symbols
multiple_agrees n = or_agrees n t.symbols [] (may read.value is_symbols) (may_agrees n read.value (λ v. Unit {0}) reads_value t.symbols is_symbols symbols_judges)

pub some_agree : (n : ℕ) → Agrees n read.required_symbols (mandatory t.some_symbols)
unfolding read.required_symbols
some_agree n = record { moves = moves; ready = ready }
  where
    means : (s : List ℕ) (ss : List (List ℕ)) (v : Data) → multiple (s ∷ ss) v → t.some_symbols (s ∷ ss) v
    means s ss v (inl h) = h
    means s ss v (inr h) = let e = h.1 in absurd cc

    by_symbols : (at : At) (x ss : List (List ℕ)) (a behind : At) → Moves at (multiple ss) a → some_symbols (ss, a) ≡ Ok (x, behind) → Moves at (t.some_symbols x) behind
    by_symbols at x [] a behind m e = absurd cc
    by_symbols at x (s ∷ ss) a behind m e =
        let p = found_is (s ∷ ss, a) (x, behind) e in
        subst (λ b. Moves at (t.some_symbols x) b) (ap (λ q. q.1) p) (subst (λ z. Moves at (t.some_symbols z) a) (ap (λ q. q.0) p) (weaker at (multiple (s ∷ ss)) (t.some_symbols (s ∷ ss)) a (means s ss) m))

    moves : (at : At) (x : List (List ℕ)) (behind : At) → at.depth ≡ n → read.required_symbols at ≡ Ok (x, behind) → Moves at (mandatory t.some_symbols x) behind
    moves at x behind deep e =
        let b = bind_ok (read.symbols at) some_symbols (x, behind) e in
        by_symbols at x b.0.0 b.0.1 behind ((multiple_agrees n).moves at b.0.0 b.0.1 deep b.1) b.2

    ready : (at : At) (x : List (List ℕ)) (fs : List Field) → at.depth ≡ n → Ready at (mandatory t.some_symbols x ∷ fs) → TakesFirst n read.required_symbols x fs at
    ready at [] fs deep r = let h = first_holds (t.some_symbols []) fs r.items r.holds in absurd h.0
    ready at (s ∷ ss) fs deep r =
        let t = (multiple_agrees n).ready at (s ∷ ss) fs deep (instead (t.some_symbols (s ∷ ss)) (multiple (s ∷ ss)) fs at (λ v h. inl h) r) in
        record { behind = t.behind; took = ap (λ r. r >>= some_symbols) t.took; deep = t.deep; ready = t.ready }
