-- What a table has at each place after a value that it lent was written.
use Rattle.std.proofs.Common.{◌≡◌, ◌∙◌, ℕ, Bool, true, false, refl, sym, ap, arith, cond, List, [], ◌∷◌, Option, Some, None}
use Rattle.std.specs.Prelude.{◌==◌, ◌<◌, if◌then◌else◌, nat_lt}
use Rattle.std.specs.Map.{lookup, set_value}
use Rattle.std.specs.Option.{option_map}
use Rattle.std.specs.Ordering.{nat_cmp}
use Rattle.std.specs.BTreeMap.{BTreeMap, get, is_at, WritesThrough}
use Rattle.std.proofs.lemmas.Bool.{eqb-true, ltb-true}

pub by_test : {P : Type 0} (b : Bool) → (b ≡ true → P) → (b ≡ false → P) → P
by_test true f g = f refl
by_test false f g = g refl

pub same_test : (a b : ℕ) → is_at (nat_cmp a) b ≡ (a == b)
same_test a b =
    by_test (nat_lt a b)
    (λ e. by_test (a == b)
    (λ f. let l : a < b = ltb-true a b e in let s : a ≡ b = eqb-true a b f in absurd (omega (arith, l, s)))
    (λ f. rw (e, f) refl))
    (λ e. by_test (a == b) (λ f. rw (e, f) refl) (λ f. rw (e, f) refl))

set_nowhere : {X : Type 0} (test : ℕ → Bool) (es : List (ℕ × X)) (w : X) → lookup test es ≡ None → set_value test es w ≡ es
set_nowhere test [] w none = refl
set_nowhere {X} test (e ∷ es) w none = by_head (test e.0) (set_nowhere test es w) none
  where
    clash : Some e.1 ≡ None → ⊥
    clash h = cc

    by_head : (b : Bool) → (lookup test es ≡ None → set_value test es w ≡ es) → cond b (Some e.1) (lookup test es) ≡ None
        → cond b ((e.0, w) ∷ es) (e ∷ set_value test es w) ≡ e ∷ es
    by_head true rest is = absurd (clash is)
    by_head false rest is = ap (λ xs. e ∷ xs) (rest is)

pub written : {X : Type 0} (m n : BTreeMap ℕ X) (key : ℕ) (w : X) → WritesThrough nat_cmp (nat_cmp key) m w n
    → (q : ℕ) → get nat_cmp n q ≡ (if key == q then option_map (λ _. w) (get nat_cmp m q) else get nat_cmp m q)
written {X} m n key w through q = by_found (get nat_cmp m key) refl
  where
    by_found : (found : Option X) → get nat_cmp m key ≡ found → get nat_cmp n q ≡ (if key == q then option_map (λ _. w) (get nat_cmp m q) else get nat_cmp m q)
    by_found None is =
        let same : get nat_cmp n q ≡ get nat_cmp m q = ap (lookup (is_at (nat_cmp q))) (through.0 ∙ set_nowhere (is_at (nat_cmp key)) m.entries w is) in
        by_test (key == q)
        (λ e. let none : get nat_cmp m q ≡ None = ap (get nat_cmp m) (sym (eqb-true key q e)) ∙ is in rw e (same ∙ none ∙ sym (ap (option_map (λ _. w)) none)))
        (λ e. rw e same)
    by_found (Some x) is =
        let now : get nat_cmp n q ≡ cond (key == q) (Some w) (get nat_cmp m q) =
        (through.3 (rw is refl)).0 q ∙ ap (λ b. cond b (Some w) (get nat_cmp m q)) (same_test key q) in
        by_test (key == q)
        (λ e. let some : get nat_cmp m q ≡ Some x = ap (get nat_cmp m) (sym (eqb-true key q e)) ∙ is in
        rw e (now ∙ ap (λ b. cond b (Some w) (get nat_cmp m q)) e ∙ sym (ap (option_map (λ _. w)) some)))
        (λ e. rw e (now ∙ ap (λ b. cond b (Some w) (get nat_cmp m q)) e))

-- at a key whose value was lent is what was written
there : {X : Type 0} (m n : ℕ → Option X) (key : ℕ) (x w : X) → m key ≡ Some x → ((q : ℕ) → n q ≡ (if key == q then option_map (λ _. w) (m q) else m q))
    → (q : ℕ) → (key == q) ≡ true → n q ≡ Some w
there m n key x w is through q e =
    through q
    ∙ ap (λ b. if b then option_map (λ _. w) (m q) else m q) e
    ∙ ap (option_map (λ _. w)) (ap m (sym (eqb-true key q e)) ∙ is)

elsewhere : {X : Type 0} (m n : ℕ → Option X) (key : ℕ) (w : X) → ((q : ℕ) → n q ≡ (if key == q then option_map (λ _. w) (m q) else m q))
    → (q : ℕ) → (key == q) ≡ false → n q ≡ m q
elsewhere m n key w through q e = through q ∙ ap (λ b. if b then option_map (λ _. w) (m q) else m q) e

-- three levels: connections are any function, and sessions and their values are any that are looked up so
module _ {S H V : Type 0} (find : Option S → ℕ → Option H) (look : Option H → ℕ → Option V) (rows new : ℕ → Option S) (sessions changed : S) (last after : H) (conn own : ℕ)
    (in_conn : rows conn ≡ Some sessions) (in_session : find (Some sessions) own ≡ Some last)
    (at_conn : (q : ℕ) → new q ≡ (if conn == q then option_map (λ _. changed) (rows q) else rows q))
    (at_own : (q : ℕ) → find (Some changed) q ≡ (if own == q then option_map (λ _. after) (find (Some sessions) q) else find (Some sessions) q)) where
  -- the session's values are the changed ones, and all others what they were
  behind : (c o h : ℕ) (x : Option V) → ((conn == c) ≡ true → (own == o) ≡ true → look (find (rows c) o) h ≡ look (Some last) h → look (Some after) h ≡ x)
      → look (find (new c) o) h
      ≡ (if conn == c then (if own == o then x else look (find (rows c) o) h) else look (find (rows c) o) h)
  behind c o h x is =
      by_test (conn == c)
      (λ e. let old : rows c ≡ Some sessions = ap rows (sym (eqb-true conn c e)) ∙ in_conn in
      let now : new c ≡ Some changed = there rows new conn sessions changed in_conn at_conn c e in
      by_test (own == o)
      (λ f. rw (e, f) (ap (λ m. look (find m o) h) now ∙ ap (λ m. look m h) (there (find (Some sessions)) (find (Some changed)) own last after in_session at_own o f)
      ∙ is e f (ap (λ m. look (find m o) h) old ∙ ap (λ m. look m h) (ap (find (Some sessions)) (sym (eqb-true own o f)) ∙ in_session))))
      (λ f. rw (e, f) (ap (λ m. look (find m o) h) now ∙ ap (λ m. look m h) (elsewhere (find (Some sessions)) (find (Some changed)) own after at_own o f) ∙ sym (ap (λ m. look (find m o) h) old))))
      (λ e. rw e (ap (λ m. look (find m o) h) (elsewhere rows new conn changed at_conn c e)))

  pub placed : (handle : ℕ) (w : V)
      → ((h : ℕ) → look (Some after) h ≡ (if handle == h then option_map (λ _. w) (look (Some last) h) else look (Some last) h))
      → (c o h : ℕ) → look (find (new c) o) h
      ≡ (if conn == c then (if own == o then (if handle == h then option_map (λ _. w) (look (find (rows c) o) h) else look (find (rows c) o) h) else look (find (rows c) o) h) else look (find (rows c) o) h)
  placed handle w at_handle c o h =
      behind c o h (if handle == h then option_map (λ _. w) (look (find (rows c) o) h) else look (find (rows c) o) h)
      (λ e f old. at_handle h ∙ ap (λ v. if handle == h then option_map (λ _. w) v else v) (sym old))

  pub unplaced : ((h : ℕ) → look (Some after) h ≡ look (Some last) h) → (c o h : ℕ) → look (find (new c) o) h ≡ look (find (rows c) o) h
  unplaced same c o h =
      behind c o h (look (find (rows c) o) h) (λ e f old. same h ∙ sym old)
      ∙ by_test (conn == c) (λ e. by_test (own == o) (λ f. rw (e, f) refl) (λ f. rw (e, f) refl)) (λ e. rw e refl)
