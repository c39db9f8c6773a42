-- What is known of links after a change of one.
use Rattle.std.proofs.Common.{◌≡◌, ◌∙◌, sym, ap, refl, ℕ, Bool, true, false, true≢false, not, cond, Option, Some, None, is_some, List, [], ◌∷◌}
use Rattle.std.specs.Prelude.{◌==◌, filter}
use Rattle.std.specs.BTreeMap.{is_at}
use Rattle.std.specs.Map.{remove_entry}
use Rattle.std.specs.Ordering.{nat_cmp, match_ordering, is_eq}
use Rattle.std.specs.declared.cmp.Ordering.{Ordering}
use Rattle.std.specs.declared.cmp.Ordering.TheVariants.{Less, Equal, Greater}
use Rattle.std.proofs.lemmas.Bool.{eqb-true, eq-eqb}
use Rattle.route_credit.specs.Links.{link_at, with_link, without_link}
use Rattle.route_credit.proofs.Indices.{same_test}
use Rattle.route_credit.proofs.Moved.{by_test}

pub test_sym : (a b : ℕ) → (a == b) ≡ (b == a)
test_sym a b = by_test (b == a) (λ e. rw e (eq-eqb a b (sym (eqb-true b a e)))) (λ e. by_test (a == b) (λ f. absurd (true≢false (sym (eq-eqb b a (sym (eqb-true a b f))) ∙ e))) (λ f. f ∙ sym e))

is_test : (a b : ℕ) (o : Ordering) → nat_cmp a b ≡ o → is_eq o ≡ (a == b)
is_test a b o is = ap is_eq (sym is) ∙ same_test a b

-- what is known after a change of one link
pub link_with : {X : Type 0} (links : List (ℕ × X)) (id : ℕ) (x : X) (q : ℕ) → link_at (with_link links id x) q ≡ cond (id == q) (Some x) (link_at links q)
link_with [] id x q = ap (λ b. cond b (Some x) None) (same_test q id ∙ test_sym q id)
link_with {X} (e ∷ es) id x q = by_order (nat_cmp id e.0) refl (link_with es id x q)
  where
    by_order : (o : Ordering) → nat_cmp id e.0 ≡ o → link_at (with_link es id x) q ≡ cond (id == q) (Some x) (link_at es q)
        → link_at (match_ordering o ((id, x) ∷ e ∷ es) ((e.0, x) ∷ es) (e ∷ with_link es id x)) q ≡ cond (id == q) (Some x) (link_at (e ∷ es) q)
    by_order Less is rest = ap (λ b. cond b (Some x) (link_at (e ∷ es) q)) (same_test q id ∙ test_sym q id)
    by_order Equal is rest =
        let same : id ≡ e.0 = eqb-true id e.0 (sym (is_test id e.0 Equal is)) in
        let test : is_at (nat_cmp q) e.0 ≡ (id == q) = same_test q e.0 ∙ ap (λ n. q == n) (sym same) ∙ test_sym q id in
        by_test (id == q) (λ f. rw (test, f) refl) (λ f. rw (test, f) refl)
    by_order Greater is rest =
        by_test (id == q)
        (λ f. let other : is_at (nat_cmp q) e.0 ≡ false = same_test q e.0 ∙ ap (λ n. n == e.0) (sym (eqb-true id q f)) ∙ sym (is_test id e.0 Greater is) in
        rw (other, f) (rest ∙ ap (λ b. cond b (Some x) (link_at es q)) f))
        (λ f. rw f (ap (λ l. cond (is_at (nat_cmp q) e.0) (Some e.1) l) (rest ∙ ap (λ b. cond b (Some x) (link_at es q)) f)))

-- what is known where one link is gone
pub link_without : {X : Type 0} (links : List (ℕ × X)) (id q : ℕ) → link_at (without_link links id) q ≡ cond (id == q) None (link_at links q)
link_without [] id q = by_test (id == q) (λ f. rw f refl) (λ f. rw f refl)
link_without {X} (e ∷ es) id q = by_head (id == e.0) refl (link_without es id q)
  where
    by_head : (b : Bool) → (id == e.0) ≡ b → link_at (without_link es id) q ≡ cond (id == q) None (link_at es q)
        → link_at (cond (not b) (e ∷ without_link es id) (without_link es id)) q ≡ cond (id == q) None (link_at (e ∷ es) q)
    by_head true is rest =
        by_test (id == q)
        (λ f. rw f (rest ∙ ap (λ b. cond b None (link_at es q)) f))
        (λ f. let other : is_at (nat_cmp q) e.0 ≡ false = same_test q e.0 ∙ ap (λ n. q == n) (sym (eqb-true id e.0 is)) ∙ test_sym q id ∙ f in
        rw (f, other) (rest ∙ ap (λ b. cond b None (link_at es q)) f))
    by_head false is rest =
        by_test (id == q)
        (λ f. let other : is_at (nat_cmp q) e.0 ≡ false = same_test q e.0 ∙ ap (λ n. n == e.0) (sym (eqb-true id q f)) ∙ is in
        rw (f, other) (rest ∙ ap (λ b. cond b None (link_at es q)) f))
        (λ f. rw f (ap (λ l. cond (is_at (nat_cmp q) e.0) (Some e.1) l) (rest ∙ ap (λ b. cond b None (link_at es q)) f)))

none_gone : {X : Type 0} (links : List (ℕ × X)) (id : ℕ) → link_at links id ≡ None → filter (λ link. not (id == link.0)) links ≡ links
none_gone [] id none = refl
none_gone {X} (e ∷ es) id none = by_head (is_at (nat_cmp id) e.0) (same_test id e.0) none (none_gone es id)
  where
    by_head : (b : Bool) → b ≡ (id == e.0) → cond b (Some e.1) (link_at es id) ≡ None → (link_at es id ≡ None → without_link es id ≡ es) → without_link (e ∷ es) id ≡ e ∷ es
    by_head true is none rest = absurd cc
    by_head false is none rest = rw (sym is) (ap (λ l. e ∷ l) (rest none))

-- where the link isn't there nothing goes
pub absent_gone : {X : Type 0} (links : List (ℕ × X)) (id : ℕ) → not (is_some (link_at links id)) ≡ true → links ≡ without_link links id
absent_gone {X} links id absent = sym (none_gone links id (nothing (link_at links id) absent))
  where
    nothing : (x : Option X) → not (is_some x) ≡ true → x ≡ None
    nothing None e = refl
    nothing (Some x) e = absurd cc

-- the first of a number is the only one where none is left
pub without_first : {X : Type 0} (links : List (ℕ × X)) (id : ℕ) → link_at (remove_entry (is_at (nat_cmp id)) links) id ≡ None → remove_entry (is_at (nat_cmp id)) links ≡ without_link links id
without_first [] id none = refl
without_first {X} (e ∷ es) id none = by_head (is_at (nat_cmp id) e.0) (same_test id e.0) refl none (without_first es id)
  where
    by_head : (b : Bool) → b ≡ (id == e.0) → is_at (nat_cmp id) e.0 ≡ b → link_at (cond b es (e ∷ remove_entry (is_at (nat_cmp id)) es)) id ≡ None
        → (link_at (remove_entry (is_at (nat_cmp id)) es) id ≡ None → remove_entry (is_at (nat_cmp id)) es ≡ without_link es id)
        → cond b es (e ∷ remove_entry (is_at (nat_cmp id)) es) ≡ without_link (e ∷ es) id
    by_head true is test none rest = rw (sym is) (sym (none_gone es id none))
    by_head false is test none rest = rw (sym is) (ap (λ l. e ∷ l) (rest (sym (ap (λ b. cond b (Some e.1) (link_at (remove_entry (is_at (nat_cmp id)) es) id)) test) ∙ none)))
