-- The laws of prefixes.
use Rattle.std.proofs.Common.{◌≡◌, ℕ, Bool, true, false, cond, List, [], ◌∷◌, ◌++◌, ◌≤◌, length, filter, Option, Some, None, option_map, suc, refl, sym, ◌∙◌, ap, arith, nat_lt, true≢false}
use Rattle.std.specs.Prelude.{All, Contains, MatchOption, unwrap_or}
use Rattle.std.proofs.lemmas.Bool.Decides.{nat_tests}
use Rattle.std.proofs.lemmas.List.{map-append}
use Rattle.std.proofs.lemmas.List.Elements.{filter-append, All-cons, All-nil}
use Rattle.route_table.specs.declared.sections.Address.{Address}
use Rattle.route_table.specs.declared.sections.Direction.{Direction}
use Rattle.route_table.specs.declared.sections.Direction.TheVariants.{In, Out}
use Rattle.route_table.specs.declared.sections.Distribution.TheVariants.{Balanced}
use Rattle.route_table.specs.declared.sections.Distribution.{Distribution}
use Rattle.route_table.specs.declared.sections.LinkRoute.{LinkRoute}
use Rattle.route_table.specs.Laws.{BestIsLongest, OtherAddressChangesNothing, OtherRouteChangesNothing}
use Rattle.route_table.specs.Places.{address_pairs, route_pairs}
use Rattle.route_table.specs.Prefixes.{best, candidate, longer, matches}
use Rattle.route_table.specs.Sections.{is_direction}

module _ {V : Type 0} where
  pub other_entry : (before after : List (List ℕ × V)) (e : List ℕ × V) (address : List ℕ) → matches e.0 address ≡ false → best (before ++ e ∷ after) address ≡ best (before ++ after) address
  other_entry [] after e address other = rw other refl
  other_entry (x ∷ before) after e address other = ap (λ r. longer (candidate x address) r) (other_entry before after e address other)

kept : {X : Type 0} (keep : X → Bool) (before after : List X) (x : X) (b : Bool) → keep x ≡ b → filter keep (before ++ x ∷ after) ≡ filter keep before ++ cond b (x ∷ filter keep after) (filter keep after)
kept keep before after x b is = filter-append keep before (x ∷ after) ∙ ap (λ t. filter keep before ++ cond t (x ∷ filter keep after) (filter keep after)) is

routes_between : (direction : Direction) (b : Bool) (before after : List LinkRoute) (section : LinkRoute) (address : List ℕ) → is_direction section.direction direction ≡ b → matches section.prefix address ≡ false
    → best (route_pairs direction (before ++ section ∷ after)) address ≡ best (route_pairs direction (before ++ after)) address
routes_between direction true before after section address is other =
    let keep : LinkRoute → Bool = λ s. is_direction s.direction direction in
    let pair : LinkRoute → List ℕ × List ℕ = λ s. (s.prefix, s.container_id) in
    rw (kept keep before after section true is, filter-append keep before after, map-append pair (filter keep before) (section ∷ filter keep after), map-append pair (filter keep before) (filter keep after))
    (other_entry (route_pairs direction before) (route_pairs direction after) (section.prefix, section.container_id) address other)
routes_between direction false before after section address is other =
    let keep : LinkRoute → Bool = λ s. is_direction s.direction direction in
    rw (kept keep before after section false is, filter-append keep before after) refl

pub other_route : OtherRouteChangesNothing
other_route settings before after section address other = (
  ap (option_map (λ e. e.1)) (routes_between In (is_direction section.direction In) before after section address refl other),
  ap (option_map (λ e. e.1)) (routes_between Out (is_direction section.direction Out) before after section address refl other),
)

pub other_address : OtherAddressChangesNothing
other_address settings before after section address other =
    let pair : Address → List ℕ × Distribution = λ s. (s.prefix, s.distribution) in
    rw (map-append pair before (section ∷ after), map-append pair before after)
    (ap (λ r. unwrap_or (option_map (λ e. e.1) r) Balanced) (other_entry (address_pairs before) (address_pairs after) (section.prefix, section.distribution) address other))

module _ {V : Type 0} (address : List ℕ) where
  Says : List (List ℕ × V) → Option (List ℕ × V) → Type 0
  Says entries r = MatchOption r
      (All (λ e. matches e.0 address ≡ false) entries)
      (λ b. (matches b.0 address ≡ true) × Contains entries b × All (λ e. matches e.0 address ≡ true → length e.0 ≤ length b.0) entries)

  later : (e b : List ℕ × V) (es : List (List ℕ × V)) → Contains es b → Contains (e ∷ es) b
  later e b es c = (suc c.0, omega (arith, c.1), c.2)

  one_more : (e : List ℕ × V) (es : List (List ℕ × V)) (m : Bool) (r : Option (List ℕ × V)) → matches e.0 address ≡ m → Says es r → Says (e ∷ es) (longer (cond m (Some e) None) r)
  unfolding Says
  one_more e es false None is said = All-cons (λ f. matches f.0 address ≡ false) e es is said
  one_more e es false (Some b) is said = (said.0, later e b es said.1, All-cons (λ f. matches f.0 address ≡ true → length f.0 ≤ length b.0) e es (λ t. absurd (true≢false (sym t ∙ is))) said.2)
  one_more e es true None is said = (is, (0, omega arith, refl), All-cons (λ f. matches f.0 address ≡ true → length f.0 ≤ length e.0) e es (λ _. omega arith) (λ k d h t. absurd (true≢false (sym t ∙ said k d h))))
  one_more e es true (Some b) is said = by_length (nat_lt (length e.0) (length b.0)) refl
    where
      by_length : (t : Bool) → nat_lt (length e.0) (length b.0) ≡ t → Says (e ∷ es) (cond t (Some b) (Some e))
      by_length true t = let shorter : length e.0 ≤ length b.0 = grind (arith, nat_tests) in (said.0, later e b es said.1, All-cons (λ f. matches f.0 address ≡ true → length f.0 ≤ length b.0) e es (λ _. shorter) said.2)
      by_length false t =
          let longer_first : length b.0 ≤ length e.0 = grind (arith, nat_tests) in
          (is, (0, omega arith, refl), All-cons (λ f. matches f.0 address ≡ true → length f.0 ≤ length e.0) e es (λ _. omega arith) (λ k d h t'. let l = said.2 k d h t' in omega (arith, l, longer_first)))

  longest : (entries : List (List ℕ × V)) → Says entries (best entries address)
  unfolding Says
  longest [] = All-nil (λ e. matches e.0 address ≡ false)
  longest (e ∷ es) = one_more e es (matches e.0 address) (best es address) refl (longest es)

pub best_longest : BestIsLongest
unfolding Says
best_longest = (λ entries address. longest address entries, λ entries address. longest address entries)
