-- What a look-up finds in a list of entries with one more entry.
use Rattle.std.proofs.Common.{◌≡◌, ℕ, Bool, true, false, cond, List, [], ◌∷◌, ◌++◌, Option, Some, None, map, filter, take, length, get_or, ◌+◌, ◌<◌, append-nil, is_some, refl, sym, ◌∙◌, ap, subst}
use Rattle.std.specs.Str.{bytes_eq}
use Rattle.std.specs.Map.{lookup}
use Rattle.std.specs.Ordering.{nat_cmp, is_eq, match_ordering}
use Rattle.std.specs.declared.cmp.Ordering.{Ordering}
use Rattle.std.specs.declared.cmp.Ordering.TheVariants.{Less, Equal, Greater}
use Rattle.std.specs.Cmp.Lexicographic.{slice_cmp}
use Rattle.std.specs.BTreeMap.{insert_entry}
use Rattle.std.proofs.lemmas.Slice.Eq.{bytes_eq-Decides}
use Rattle.std.proofs.lemmas.Map.Text.{is_eq-slice_cmp}
use Rattle.std.proofs.lemmas.List.{take_more, map-append}
use Rattle.std.proofs.lemmas.List.Elements.{filter_more}
use Rattle.route_table.specs.Prefixes.{FindSame}

module _ {V : Type 0} where
  -- the first, or the second where there is none
  abbrev pub or_else : Option V → Option V → Option V
  or_else None y = y
  or_else (Some x) y = Some x

  pub or_else-none : (x : Option V) → or_else x None ≡ x
  or_else-none None = refl
  or_else-none (Some x) = refl

  step : (b : Bool) (v : V) (l r z : Option V) → r ≡ or_else l z → cond b (Some v) r ≡ or_else (cond b (Some v) l) z
  step true v l r z h = refl
  step false v l r z h = h

  -- one more entry at the end
  pub lookup_end : (q : List ℕ) (xs : List (List ℕ × V)) (e : List ℕ × V) → lookup (bytes_eq q) (xs ++ e ∷ []) ≡ or_else (lookup (bytes_eq q) xs) (cond (bytes_eq q e.0) (Some e.1) None)
  lookup_end q [] e = refl
  lookup_end q (x ∷ xs) e = step (bytes_eq q x.0) x.1 (lookup (bytes_eq q) xs) (lookup (bytes_eq q) (xs ++ e ∷ [])) (cond (bytes_eq q e.0) (Some e.1) None) (lookup_end q xs e)

  present_by : (b : Bool) (v w : V) (l : Option V) → (b ≡ true → l ≡ Some w) → or_else l (cond b (Some v) None) ≡ l
  present_by true v w l h = rw (h refl) refl
  present_by false v w l h = or_else-none l

  -- an entry whose key is there already changes nothing at the end
  pub present : (xs : List (List ℕ × V)) (k : List ℕ) (v w : V) → lookup (bytes_eq k) xs ≡ Some w → FindSame xs (xs ++ (k, v) ∷ [])
  present xs k v w h = λ q. sym (lookup_end q xs (k, v) ∙ present_by (bytes_eq q k) v w (lookup (bytes_eq q) xs) (λ same. let P : List ℕ → Type 0 = λ p. lookup (bytes_eq p) xs ≡ Some w in subst P (sym ((bytes_eq-Decides q k).0 same)) h))

  absent_by : (b : Bool) (v : V) (l : Option V) → (b ≡ true → l ≡ None) → cond b (Some v) l ≡ or_else l (cond b (Some v) None)
  absent_by true v l h = rw (h refl) refl
  absent_by false v l h = sym (or_else-none l)

  -- an entry whose key isn't there is found in front as at the end
  pub moved : (xs : List (List ℕ × V)) (k : List ℕ) (v : V) → lookup (bytes_eq k) xs ≡ None → FindSame ((k, v) ∷ xs) (xs ++ (k, v) ∷ [])
  moved xs k v h = λ q. absent_by (bytes_eq q k) v (lookup (bytes_eq q) xs) (λ same. let P : List ℕ → Type 0 = λ p. lookup (bytes_eq p) xs ≡ None in subst P (sym ((bytes_eq-Decides q k).0 same)) h) ∙ sym (lookup_end q xs (k, v))

  after_head : (b : Bool) (v : V) (l : Option V) → b ≡ false → cond b (Some v) l ≡ None → l ≡ None
  after_head true v l h n = absurd cc
  after_head false v l h n = n

  -- the entries with their keys' bytes
  abbrev pub seen : {K : Type 0} → (K → List ℕ) → List (K × V) → List (List ℕ × V)
  seen read es = map (λ e. (read e.0, e.1)) es

-- the comparison of keys finds those equal whose bytes are
same : {K : Type 0} (read : K → List ℕ) (compare : K → K → Ordering) (reads : (x y : K) → compare x y ≡ slice_cmp nat_cmp (read x) (read y)) (x y : K) → is_eq (compare x y) ≡ bytes_eq (read x) (read y)
same read compare reads x y = ap is_eq (reads x y) ∙ is_eq-slice_cmp (read x) (read y)

module _ {K V : Type 0} (read : K → List ℕ) (compare : K → K → Ordering) (reads : (x y : K) → compare x y ≡ slice_cmp nat_cmp (read x) (read y)) where
  by_order : (o : Ordering) (e : K × V) (es : List (K × V)) (k : K) (v : V) → compare k e.0 ≡ o → lookup (bytes_eq (read k)) (seen read (e ∷ es)) ≡ None
      → (lookup (bytes_eq (read k)) (seen read es) ≡ None → FindSame (seen read (insert_entry compare es k v)) (seen read es ++ (read k, v) ∷ []))
      → FindSame (seen read (match_ordering o ((k, v) ∷ e ∷ es) ((e.0, v) ∷ es) (e ∷ insert_entry compare es k v))) (seen read (e ∷ es) ++ (read k, v) ∷ [])
  by_order Less e es k v is h more = moved (seen read (e ∷ es)) (read k) v h
  by_order Equal e es k v is h more = let there : bytes_eq (read k) (read e.0) ≡ true = sym (same read compare reads k e.0) ∙ ap is_eq is in let found : cond true (Some e.1) (lookup (bytes_eq (read k)) (seen read es)) ≡ None = rw there at h in absurd cc
  by_order Greater e es k v is h more =
      let differs : bytes_eq (read k) (read e.0) ≡ false = sym (same read compare reads k e.0) ∙ ap is_eq is in
      let rest : lookup (bytes_eq (read k)) (seen read es) ≡ None = after_head (bytes_eq (read k) (read e.0)) e.1 (lookup (bytes_eq (read k)) (seen read es)) differs h in
      λ q. ap (λ r. cond (bytes_eq q (read e.0)) (Some e.1) r) (more rest q)

  -- an entry put among others whose keys differ is found as at their end
  pub inserted : (es : List (K × V)) (k : K) (v : V) → lookup (bytes_eq (read k)) (seen read es) ≡ None → FindSame (seen read (insert_entry compare es k v)) (seen read es ++ (read k, v) ∷ [])
  inserted [] k v h = λ q. refl
  inserted (e ∷ es) k v h = by_order (compare k e.0) e es k v refl h (inserted es k v)

-- a look-up by bytes among keys is one among their bytes
pub lookup_seen : {K V : Type 0} (read : K → List ℕ) (q : List ℕ) (es : List (K × V)) → lookup (λ k. is_eq (slice_cmp nat_cmp q (read k))) es ≡ lookup (bytes_eq q) (seen read es)
lookup_seen read q [] = refl
lookup_seen read q (e ∷ es) = rw (is_eq-slice_cmp q (read e.0), lookup_seen read q es) refl

present_test : (r : Bool) {V : Type 0} (xs : List (List ℕ × V)) (k : List ℕ) (v : V) (l : Option V) → lookup (bytes_eq k) xs ≡ l → r ≡ is_some l → r ≡ true → FindSame xs (xs ++ (k, v) ∷ [])
present_test r xs k v (Some w) is s t = present xs k v w is
present_test r xs k v None is s t = absurd cc

absent_test : (r : Bool) {V : Type 0} (l : Option V) → r ≡ is_some l → r ≡ false → l ≡ None
absent_test r None s t = refl
absent_test r (Some w) s t = absurd cc

module _ {K V : Type 0} (read : K → List ℕ) (es : List (K × V)) (prefix : List ℕ) (v : V) (r : Bool) (test : r ≡ is_some (lookup (λ k. is_eq (slice_cmp nat_cmp prefix (read k))) es)) where
  -- a prefix that is there: nothing changes
  pub stays : r ≡ true → FindSame (seen read es) (seen read es ++ (prefix, v) ∷ [])
  stays is = present_test r (seen read es) prefix v (lookup (bytes_eq prefix) (seen read es)) refl (test ∙ ap is_some (lookup_seen read prefix es)) is

  -- a prefix that isn't there is put in
  pub joins : r ≡ false → (compare : K → K → Ordering) → ((x y : K) → compare x y ≡ slice_cmp nat_cmp (read x) (read y)) → (key : K) → read key ≡ prefix → FindSame (seen read (insert_entry compare es key v)) (seen read es ++ (prefix, v) ∷ [])
  joins is compare reads key same =
      let P : List ℕ → Type 0 = λ q. lookup (bytes_eq q) (seen read es) ≡ None → FindSame (seen read (insert_entry compare es key v)) (seen read es ++ (q, v) ∷ []) in
      subst P same (λ h. inserted read compare reads es key v h) (absent_test r (lookup (bytes_eq prefix) (seen read es)) (test ∙ ap is_some (lookup_seen read prefix es)) is)

-- one more at the end of both
pub same_end : {V : Type 0} (xs ys : List (List ℕ × V)) (e : List ℕ × V) → FindSame xs ys → FindSame (xs ++ e ∷ []) (ys ++ e ∷ [])
same_end xs ys e same = λ q. lookup_end q xs e ∙ ap (λ r. or_else r (cond (bytes_eq q e.0) (Some e.1) None)) (same q) ∙ sym (lookup_end q ys e)

module _ {T V : Type 0} (pair : T → List ℕ × V) (xs : List T) (i : ℕ) (x : T) (below : i < length xs) (item : x ≡ get_or xs i x) (old new : List (List ℕ × V)) where
  -- the entries of one more section
  pub one_more : FindSame old (map pair (take i xs)) → FindSame new (old ++ pair x ∷ []) → FindSame new (map pair (take (i + 1) xs))
  one_more before added =
      let longer : take (i + 1) xs ≡ take i xs ++ x ∷ [] = take_more xs i x below ∙ ap (λ y. take i xs ++ y ∷ []) (sym item) in
      let both : map pair (take (i + 1) xs) ≡ map pair (take i xs) ++ pair x ∷ [] = ap (map pair) longer ∙ map-append pair (take i xs) (x ∷ []) in
      λ q. added q ∙ same_end old (map pair (take i xs)) (pair x) before q ∙ ap (lookup (bytes_eq q)) (sym both)

  kept_more : (keep : T → Bool) (b : Bool) → keep x ≡ b → filter keep (take (i + 1) xs) ≡ filter keep (take i xs) ++ cond b (x ∷ []) []
  kept_more keep b is = filter_more keep xs i x below ∙ ap (λ y. filter keep (take i xs) ++ cond (keep y) (y ∷ []) []) (sym item) ∙ ap (λ t. filter keep (take i xs) ++ cond t (x ∷ []) []) is

  -- the same of the sections that pass
  pub one_more_kept : (keep : T → Bool) → keep x ≡ true → FindSame old (map pair (filter keep (take i xs))) → FindSame new (old ++ pair x ∷ []) → FindSame new (map pair (filter keep (take (i + 1) xs)))
  one_more_kept keep is before added =
      let both : map pair (filter keep (take (i + 1) xs)) ≡ map pair (filter keep (take i xs)) ++ pair x ∷ [] = ap (map pair) (kept_more keep true is) ∙ map-append pair (filter keep (take i xs)) (x ∷ []) in
      λ q. added q ∙ same_end old (map pair (filter keep (take i xs))) (pair x) before q ∙ ap (lookup (bytes_eq q)) (sym both)

  pub one_more_left : (keep : T → Bool) → keep x ≡ false → FindSame old (map pair (filter keep (take i xs))) → FindSame old (map pair (filter keep (take (i + 1) xs)))
  one_more_left keep is before = λ q. before q ∙ ap (λ ys. lookup (bytes_eq q) (map pair ys)) (sym (kept_more keep false is ∙ append-nil (filter keep (take i xs))))
