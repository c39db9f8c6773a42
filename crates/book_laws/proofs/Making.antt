-- A Make and a Drop: what the acts say of the termini after it.
use Rattle.std.proofs.Common.{◌≡◌, ◌∙◌, sym, ap, refl, subst, ℕ, ◌+◌, ◌≤◌, ◌<◌, Bool, true, false, not, ◌&&◌, ◌||◌, List, [], ◌∷◌, ◌++◌, arith, Option, Some, None}
use Rattle.std.specs.Prelude.{◌==◌, filter, count_by}
use Rattle.std.specs.List.{list_any}
use Rattle.std.specs.Option.{option_or}
use Rattle.std.proofs.lemmas.Bool.{and_parts}
use Rattle.std.proofs.lemmas.List.Folds.{find-append}
use Rattle.book_model.specs.declared.act.Act.TheVariants.{Make, Drop}
use Rattle.book_model.specs.declared.act.Admission.{Admission}
use Rattle.book_model.specs.declared.act.Decision.{Decision}
use Rattle.book_model.specs.declared.row.RowNumber.{RowNumber}
use Rattle.book_model.specs.declared.terminus.LinkKey.{LinkKey}
use Rattle.book_model.specs.declared.terminus.LinkRole.{LinkRole}
use Rattle.book_model.specs.declared.terminus.LinkRole.TheVariants.{Producer, Consumer}
use Rattle.book_model.specs.declared.terminus.Terminus.{Terminus}
use Rattle.book_model.specs.declared.terminus.TerminusNumber.{TerminusNumber}
use Rattle.book_model.specs.Book.{BookView, refusal, effect, same_key, has_role, may_bind, terminus_at}
use Rattle.book_laws.proofs.Conditions.{MayMake, may_make, may_drop}
use Rattle.book_laws.proofs.Keeping.{kept_drop}
use Rattle.book_laws.proofs.Keys.{key_of}
use Rattle.book_laws.proofs.Numbers.{once_later, once_push, found_low, rises_push}
use Rattle.book_laws.proofs.Searching.{turned, count_kept, count_implied, none_passes, none_counted, one_more, filter_push, filter_twice}
use Rattle.book_laws.proofs.Says.{Kinds, put, Says, IsBetween, IsKept, FoundTerminus, terminus_found, number_of_make, number_of_drop, stays_by, holds_key, dropped_by, dropped_push}

-- a search that finds something still does

has_role_more : (role : LinkRole) (o more : Option Terminus) → has_role role o ≡ true
    → has_role role (option_or o more) ≡ true
has_role_more role None more is = absurd cc
has_role_more role (Some t) more is = is

pub has_role_push : (role : LinkRole) (n : ℕ) (ts : List Terminus) (t : Terminus) → has_role role (terminus_at n ts) ≡ true
    → has_role role (terminus_at n (ts ++ t ∷ [])) ≡ true
has_role_push role n ts t is =
    ap (has_role role) (find-append (λ (t : Terminus). t.number.0 == n) ts (t ∷ []))
    ∙ has_role_more role (terminus_at n ts) (terminus_at n (t ∷ [])) is

pub may_bind_push : (o : Option TerminusNumber) (ts : List Terminus) (t : Terminus) → may_bind o ts ≡ true
    → may_bind o (ts ++ t ∷ []) ≡ true
may_bind_push None ts t is = refl
may_bind_push (Some n) ts t is = has_role_push Consumer n.0 ts t is

between_push : (ts : List Terminus) (t : Terminus) (a : Admission) → IsBetween ts a → IsBetween (ts ++ t ∷ []) a
between_push ts t a is = record {
  producer = has_role_push Producer a.producer.0 ts t is.producer;
  consumer =
      may_bind_push a.consumer ts t is.consumer;
}

kept_push : (ds : List Decision) (ns : List RowNumber) (ts : List Terminus) (t : Terminus) (a : Admission)
    → IsKept ds ns ts a → IsKept ds ns (ts ++ t ∷ []) a
kept_push ds ns ts t a is = record {
  producer = λ e. has_role_push Producer a.producer.0 ts t (is.producer e);
  consumer = λ e. may_bind_push a.consumer ts t (is.consumer e);
}

-- a key that no terminus of the book has: no Make of it stands
none_at_key : (k : Kinds) (b : BookView) (key : LinkKey) → Says k b
    → list_any (λ u. same_key u.key key) b.termini ≡ false → count_by (holds_key k.drops key) k.makes ≡ 0
none_at_key k b key says none =
    sym (count_kept (λ (t : Terminus). same_key t.key key) (stays_by k.drops) k.makes)
    ∙ none_counted (λ (t : Terminus). same_key t.key key) (filter (stays_by k.drops) k.makes)
    (subst (λ (ts : List Terminus). list_any (λ u. same_key u.key key) ts ≡ false) says.termini none)

pub says_make : (k : Kinds) (b : BookView) (t : Terminus) → refusal b (Make t) ≡ None → Says k b
    → Says (put k (Make t)) (effect b (Make t))
says_make k b t applies says = record {
  rows = says.rows;
  termini = ap (λ (ts : List Terminus). ts ++ t ∷ []) says.termini
      ∙ sym (filter_push (stays_by k.drops) k.makes t stays);
  makes = once_push number_of_make b.next_terminus (b.next_terminus + 1) k.makes t says.makes
      (says.makes.above t.number.0 (omega (arith, may.next))) (omega (arith, may.next)) (omega arith);
  admits = says.admits;
  decides = says.decides;
  forgets = says.forgets;
  drops = once_later number_of_drop b.next_terminus (b.next_terminus + 1) k.drops (omega arith) says.drops;
  makes_rise = rises_push number_of_make b.next_terminus k.makes t says.makes_rise says.makes.above may.next;
  admits_rise = says.admits_rise;
  tags = says.tags;
  keys = λ key. one_more (holds_key k.drops key) k.makes t (says.keys key) (new key);
  between = λ n a is. between_push k.makes t a (says.between n a is);
  kept = λ n a is. kept_push k.decides k.forgets b.termini t a (says.kept n a is);
}
  where
    may : MayMake b t
    may = may_make b t applies

    dropped : dropped_by k.drops t.number.0 ≡ false
    dropped = none_passes (λ (m : TerminusNumber). m.0 == t.number.0) k.drops
        (says.drops.above t.number.0 (omega (arith, may.next)))

    stays : stays_by k.drops t ≡ true
    stays = ap not dropped

    new : (key : LinkKey) → holds_key k.drops key t ≡ true → count_by (holds_key k.drops key) k.makes ≡ 0
    new key e =
        let same : t.key ≡ key = key_of t.key key (and_parts (stays_by k.drops t) (same_key t.key key) e).1 in
        subst (λ (q : LinkKey). count_by (holds_key k.drops q) k.makes ≡ 0) same (none_at_key k b t.key says may.new)

-- a Drop

both_stay : (p q : Bool) → (not p && not q) ≡ not (p || (q || false))
both_stay true q = refl
both_stay false true = refl
both_stay false false = refl

was_kept : (p q : Bool) → not (p || q) ≡ true → not p ≡ true
was_kept true q e = e
was_kept false q e = refl

pub says_drop : (k : Kinds) (b : BookView) (n : TerminusNumber) → refusal b (Drop n) ≡ None → Says k b
    → Says (put k (Drop n)) (effect b (Drop n))
says_drop k b n applies says = record {
  rows = says.rows;
  termini = ap (filter (λ (t : Terminus). not (t.number.0 == n.0))) says.termini
      ∙ filter_twice (stays_by k.drops) (λ (t : Terminus). not (t.number.0 == n.0))
      (stays_by (k.drops ++ n ∷ [])) left k.makes;
  makes = says.makes;
  admits = says.admits;
  decides = says.decides;
  forgets = says.forgets;
  drops = once_push number_of_drop b.next_terminus b.next_terminus k.drops n says.drops new low (omega arith);
  makes_rise = says.makes_rise;
  admits_rise = says.admits_rise;
  tags = says.tags;
  keys = λ key. fewer (count_implied (holds_key (k.drops ++ n ∷ []) key) (holds_key k.drops key) (stood key) k.makes)
      (says.keys key);
  between = says.between;
  kept = λ m a is. kept_drop k b n m a applies says is (says.kept m a is);
}
  where
    fewer : {i j : ℕ} → i ≤ j → j ≤ 1 → i ≤ 1
    fewer h l = omega (arith, h, l)

    there : (t : Terminus) × (terminus_at n.0 b.termini ≡ Some t)
    there = may_drop (terminus_at n.0 b.termini) b.rows applies

    found : FoundTerminus k n.0 there.0
    found = terminus_found k b n.0 there.0 says there.1

    new : count_by (λ (m : TerminusNumber). m.0 == n.0) k.drops ≡ 0
    new = none_counted (λ (m : TerminusNumber). m.0 == n.0) k.drops found.stays

    low : n.0 < b.next_terminus
    low = found_low number_of_make b.next_terminus n.0 k.makes there.0 says.makes found.is

    left : (t : Terminus) → (stays_by k.drops t && not (t.number.0 == n.0)) ≡ stays_by (k.drops ++ n ∷ []) t
    left t = ap (λ (q : Bool). stays_by k.drops t && not q) (turned t.number.0 n.0)
        ∙ both_stay (dropped_by k.drops t.number.0) (n.0 == t.number.0)
        ∙ sym (ap not (dropped_push k.drops n t.number.0))

    stood : (key : LinkKey) (t : Terminus) → holds_key (k.drops ++ n ∷ []) key t ≡ true → holds_key k.drops key t ≡ true
    stood key t e =
        let both = and_parts (stays_by (k.drops ++ n ∷ []) t) (same_key t.key key) e in
        let was : stays_by k.drops t ≡ true =
        was_kept (dropped_by k.drops t.number.0) (n.0 == t.number.0 || false)
        (sym (ap not (dropped_push k.drops n t.number.0)) ∙ both.0) in
        rw was both.1
