-- Termini that are found by key, through look-ups and changes.
use Rattle.std.proofs.Common.{◌≡◌, ℕ, Bool, true, false, cond, not, ◌&&◌, List, [], ◌∷◌, ◌++◌, Option, Some, refl, ap, ◌∙◌, sym}
use Rattle.std.specs.Prelude.{filter, ◌==◌}
use Rattle.std.specs.List.{list_any}
use Rattle.std.specs.Option.{unwrap_or}
use Rattle.std.specs.Ordering.{nat_cmp, is_eq, ordering_then}
use Rattle.std.specs.Cmp.Lexicographic.{slice_cmp}
use Rattle.std.specs.declared.cmp.Ordering.{Ordering}
use Rattle.std.specs.declared.cmp.Ordering.TheVariants.{Less, Equal, Greater}
use Rattle.std.proofs.lemmas.Cmp.{tied_itself}
use Rattle.std.proofs.lemmas.Map.Lookups.{exact_unsigned, exact_bytes}
use Rattle.std.proofs.lemmas.Slice.Eq.{bytes_eq-Decides}
use Rattle.book_core.specs.declared.numbers.Numbers.{Numbers}
use Rattle.book_core.specs.declared.slot.TerminusSlot.{TerminusSlot}
use Rattle.book_model.specs.declared.terminus.LinkKey.{LinkKey}
use Rattle.book_model.specs.declared.terminus.LinkRole.{LinkRole}
use Rattle.book_model.specs.declared.terminus.LinkRole.TheVariants.{Producer, Consumer}
use Rattle.book_model.specs.declared.terminus.Terminus.{Terminus}
use Rattle.book_model.specs.Book.{same_key, same_role, same_bytes, terminus_at, terminus_of}
use Rattle.book_core.specs.Keys.{AllKeyed}
use Rattle.book_model.specs.Keys.{rank, key_cmp, keys_total}
use Rattle.book_core.specs.Numbers.{number_at}
use Rattle.book_core.specs.Rising.{Rises}
use Rattle.book_core.specs.Slots.{termini_in}
use Rattle.book_core.specs.Tables.{terminus_number}
use Rattle.book_core.proofs.Changes.{by_test, equal}
use Rattle.book_core.proofs.Found.{number_of, not_number, none_of, none_behind, passing, found_by, AllHaveIt}
use Rattle.book_core.proofs.Shown.{same_number}
use Rattle.book_core.proofs.Shown as shown

both_equal : (x y : Ordering) → is_eq (ordering_then x y) ≡ true → (is_eq x ≡ true) × (is_eq y ≡ true)
both_equal Less y h = absurd cc
both_equal Equal y h = (refl, h)
both_equal Greater y h = absurd cc

same_rank : (a b : LinkRole) → rank a ≡ rank b → a ≡ b
same_rank Producer Producer h = refl
same_rank Producer Consumer h = absurd cc
same_rank Consumer Producer h = absurd cc
same_rank Consumer Consumer h = refl

same_text : (a b : List ℕ) → is_eq (slice_cmp nat_cmp a b) ≡ true → a ≡ b
same_text a b h = exact_bytes a b (equal (slice_cmp nat_cmp a b) h)

-- keys that compare alike are one
exact : (a b : LinkKey) → is_eq (key_cmp a b) ≡ true → a ≡ b
exact a b h =
    let names = both_equal (slice_cmp nat_cmp a.name b.name) (ordering_then (slice_cmp nat_cmp a.container b.container) (ordering_then (slice_cmp nat_cmp a.user b.user) (nat_cmp (rank a.role) (rank b.role)))) h in
    let containers = both_equal (slice_cmp nat_cmp a.container b.container) (ordering_then (slice_cmp nat_cmp a.user b.user) (nat_cmp (rank a.role) (rank b.role))) names.1 in
    let users = both_equal (slice_cmp nat_cmp a.user b.user) (nat_cmp (rank a.role) (rank b.role)) containers.1 in
    let role = same_rank a.role b.role (exact_unsigned (rank a.role) (rank b.role) (equal (nat_cmp (rank a.role) (rank b.role)) users.1)) in
    let name = same_text a.name b.name names.0 in
    let container = same_text a.container b.container containers.0 in
    let user = same_text a.user b.user users.0 in
    λ i. record { role = role i; user = user i; container = container i; name = name i }

and_of : (a b : Bool) → (a && b) ≡ true → (a ≡ true) × (b ≡ true)
and_of true b h = (refl, h)
and_of false b h = absurd cc

and_both : (a b : Bool) → a ≡ true → b ≡ true → (a && b) ≡ true
and_both a b e f = rw (e, f) refl

role_of : (a b : LinkRole) → same_role a b ≡ true → a ≡ b
role_of Producer Producer h = refl
role_of Producer Consumer h = absurd cc
role_of Consumer Producer h = absurd cc
role_of Consumer Consumer h = refl

role_itself : (a : LinkRole) → same_role a a ≡ true
role_itself Producer = refl
role_itself Consumer = refl

itself : (text : List ℕ) → same_bytes text text ≡ true
itself text = (bytes_eq-Decides text text).1 refl

-- the test of keys shows whether they are one
key_of : (a b : LinkKey) → same_key a b ≡ true → a ≡ b
key_of a b h =
    let names = and_of (same_role a.role b.role && same_bytes a.user b.user && same_bytes a.container b.container) (same_bytes a.name b.name) h in
    let containers = and_of (same_role a.role b.role && same_bytes a.user b.user) (same_bytes a.container b.container) names.0 in
    let users = and_of (same_role a.role b.role) (same_bytes a.user b.user) containers.0 in
    let role = role_of a.role b.role users.0 in
    let user = (bytes_eq-Decides a.user b.user).0 users.1 in
    let container = (bytes_eq-Decides a.container b.container).0 containers.1 in
    let name = (bytes_eq-Decides a.name b.name).0 names.1 in
    λ i. record { role = role i; user = user i; container = container i; name = name i }

key_itself : (k : LinkKey) → same_key k k ≡ true
key_itself k =
    and_both (same_role k.role k.role && same_bytes k.user k.user && same_bytes k.container k.container) (same_bytes k.name k.name)
    (and_both (same_role k.role k.role && same_bytes k.user k.user) (same_bytes k.container k.container)
    (and_both (same_role k.role k.role) (same_bytes k.user k.user) (role_itself k.role) (itself k.user)) (itself k.container)) (itself k.name)

has_it : (keys : Numbers LinkKey) (k : LinkKey) (ts : List Terminus) → AllKeyed keys ts → AllHaveIt (λ (t : Terminus). t.number.0) (λ t. same_key t.key k) (number_at key_cmp keys k) ts
has_it keys k [] keyed = tt
has_it keys k (t ∷ ts) keyed =
    ((λ h. same_number t.number.0 (number_at key_cmp keys k) (sym keyed.0 ∙ ap (number_at key_cmp keys) (key_of t.key k h))), has_it keys k ts keyed.1)

-- a look-up by key: the terminus whose number is there, if it has that key
pub looked : (keys : Numbers LinkKey) (k : LinkKey) (xs : List TerminusSlot) (o : Option Terminus) (n : ℕ) → n ≡ number_at key_cmp keys k
    → (Rises terminus_number xs → o ≡ terminus_at n (termini_in xs)) → Rises terminus_number xs → AllKeyed keys (termini_in xs) → terminus_of k (termini_in xs) ≡ passing (λ t. same_key t.key k) o
looked keys k xs o n stands found up keyed =
    rw (found up, stands)
    (found_by (λ (t : Terminus). t.number.0) (λ t. same_key t.key k) (number_at key_cmp keys k) (termini_in xs)
    (shown.rises_shown terminus_number (λ s. s.terminus) (λ (t : Terminus). t.number.0) (λ s. s.same) xs up) (has_it keys k (termini_in xs) keyed))

module _ (old new : Numbers LinkKey) (k : LinkKey) (n : ℕ) (set : (q : LinkKey) → number_at key_cmp new q ≡ cond (is_eq (key_cmp k q)) n (number_at key_cmp old q)) where
  -- a key that no terminus has takes a number
  keyed_set : (ts : List Terminus) → list_any (λ u. same_key u.key k) ts ≡ false → AllKeyed old ts → AllKeyed new ts
  keyed_set [] none keyed = tt
  keyed_set (t ∷ ts) none keyed = (
    by_test (is_eq (key_cmp k t.key))
        (λ e. absurd (let has : same_key t.key k ≡ true = ap (λ l. same_key l k) (sym (exact k t.key e)) ∙ key_itself k in let hasn't = none_of (same_key t.key k) (list_any (λ u. same_key u.key k) ts) none in let no : true ≡ false = sym has ∙ hasn't in cc))
        (λ e. set t.key ∙ rw e keyed.0),
    keyed_set ts (none_behind (same_key t.key k) (list_any (λ u. same_key u.key k) ts) none) keyed.1,
  )

  -- with the terminus that took it
  pub keyed_more : (ts : List Terminus) (t : Terminus) → t.key ≡ k → t.number.0 ≡ n → list_any (λ u. same_key u.key k) ts ≡ false → AllKeyed old ts → AllKeyed new (ts ++ t ∷ [])
  keyed_more ts t e number none keyed = join ts (keyed_set ts none keyed)
    where
      last : number_at key_cmp new t.key ≡ t.number.0
      last = set t.key ∙ rw (ap is_eq (ap (key_cmp k) e ∙ tied_itself keys_total k)) (sym number)

      join : (us : List Terminus) → AllKeyed new us → AllKeyed new (us ++ t ∷ [])
      join [] all = (last, tt)
      join (u ∷ us) all = (all.0, join us all.1)

-- the key of a terminus that is dropped is free
module _ (old new : Numbers LinkKey) (k : LinkKey) (m n : ℕ) (set : (q : LinkKey) → number_at key_cmp new q ≡ cond (is_eq (key_cmp k q)) m (number_at key_cmp old q)) (stood : number_at key_cmp old k ≡ n) where
  other : (t : Terminus) → (t.number.0 == n) ≡ false → number_at key_cmp old t.key ≡ t.number.0 → number_at key_cmp new t.key ≡ t.number.0
  other t differs keyed =
      by_test (is_eq (key_cmp k t.key))
      (λ e. absurd (not_number t.number.0 n differs (sym keyed ∙ sym (ap (number_at key_cmp old) (exact k t.key e)) ∙ stood)))
      (λ e. set t.key ∙ rw e keyed)

  pub keyed_left : (ts : List Terminus) → AllKeyed old ts → AllKeyed new (filter (λ t. not (t.number.0 == n)) ts)
  keyed_left [] keyed = tt
  keyed_left (t ∷ ts) keyed = by_bool (t.number.0 == n) refl (keyed_left ts keyed.1)
    where
      by_bool : (b : Bool) → (t.number.0 == n) ≡ b → AllKeyed new (filter (λ t. not (t.number.0 == n)) ts)
          → AllKeyed new (cond (not b) (t ∷ filter (λ t. not (t.number.0 == n)) ts) (filter (λ t. not (t.number.0 == n)) ts))
      by_bool true e rest = rest
      by_bool false e rest = (other t e keyed.0, rest)

same_terminus : (t u : Terminus) → Some t ≡ Some u → t ≡ u
same_terminus t u h = ap (λ (o : Option Terminus). unwrap_or o t) h

-- a terminus that is there is keyed
pub keyed_at : (keys : Numbers LinkKey) (n : ℕ) (ts : List Terminus) (t : Terminus) → AllKeyed keys ts → terminus_at n ts ≡ Some t → number_at key_cmp keys t.key ≡ n
keyed_at keys n [] t keyed h = absurd cc
keyed_at keys n (u ∷ ts) t keyed h =
    by_test (u.number.0 == n)
    (λ e. let found : cond (u.number.0 == n) (Some u) (terminus_at n ts) ≡ Some t = h in let same : u ≡ t = same_terminus u t (rw e at found) in rw (← same) (keyed.0 ∙ number_of u.number.0 n e))
    (λ e. let found : cond (u.number.0 == n) (Some u) (terminus_at n ts) ≡ Some t = h in keyed_at keys n ts t keyed.1 (rw e at found))

-- where the same numbers are
pub keyed_same : (old new : Numbers LinkKey) → ((q : LinkKey) → number_at key_cmp new q ≡ number_at key_cmp old q) → (ts : List Terminus) → AllKeyed old ts → AllKeyed new ts
keyed_same old new same [] keyed = tt
keyed_same old new same (t ∷ ts) keyed = (same t.key ∙ keyed.0, keyed_same old new same ts keyed.1)
