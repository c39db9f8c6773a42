-- How a sum over links follows one link.
use Rattle.std.proofs.Common.{◌≡◌, ap, refl, ℕ, Bool, true, false, cond, ◌+◌, ◌≤◌, Some, List, [], ◌∷◌, arith}
use Rattle.std.specs.BTreeMap.{is_at}
use Rattle.std.specs.Map.{keys_of, remove_entry}
use Rattle.std.specs.List.Sorted.{IsStrictlySortedBy}
use Rattle.std.proofs.lemmas.Cmp.{nat_cmp_total}
use Rattle.std.proofs.lemmas.Map.{lookup-none}
use Rattle.std.proofs.lemmas.Map.Entries.{none_below_head}
use Rattle.std.proofs.lemmas.Map.Keys.{sorted_tail}
use Rattle.std.specs.Ordering.{nat_cmp, match_ordering, is_eq}
use Rattle.std.specs.declared.cmp.Ordering.{Ordering}
use Rattle.std.specs.declared.cmp.Ordering.TheVariants.{Less, Equal, Greater}
use Rattle.route_credit.specs.Links.{amount_at, link_at, with_link, total}

module _ {X : Type 0} (amount : X → ℕ) where
  -- what a link has is part of the sum
  pub part_of_total : (links : List (ℕ × X)) (id : ℕ) → amount_at amount (link_at links id) ≤ total amount links
  part_of_total [] id = omega arith
  part_of_total (e ∷ es) id = by_cases (is_at (nat_cmp id) e.0) (part_of_total es id)
    where
      by_cases : (b : Bool) → amount_at amount (link_at es id) ≤ total amount es → amount_at amount (cond b (Some e.1) (link_at es id)) ≤ amount e.1 + total amount es
      by_cases true rest = omega arith
      by_cases false rest = omega (arith, rest)

  -- what is known of a link is replaced
  pub total_set : (links : List (ℕ × X)) (id : ℕ) (link : X) → IsStrictlySortedBy nat_cmp (keys_of links)
      → total amount (with_link links id link) + amount_at amount (link_at links id) ≡ total amount links + amount link
  total_set [] id link sorted = omega arith
  total_set (e ∷ es) id link sorted = by_order (nat_cmp id e.0) refl (total_set es id link (sorted_tail nat_cmp e.0 (keys_of es) sorted))
    where
      by_order : (o : Ordering) → nat_cmp id e.0 ≡ o → total amount (with_link es id link) + amount_at amount (link_at es id) ≡ total amount es + amount link
          → total amount (match_ordering o ((id, link) ∷ e ∷ es) ((e.0, link) ∷ es) (e ∷ with_link es id link)) + amount_at amount (cond (is_eq o) (Some e.1) (link_at es id)) ≡ amount e.1 + total amount es + amount link
      by_order Less is rest =
          let none : amount_at amount (link_at es id) ≡ 0 = ap (amount_at amount) (lookup-none (is_at (nat_cmp id)) es (none_below_head nat_cmp_total id e es sorted is).1) in
          omega (arith, none)
      by_order Equal is rest = omega arith
      by_order Greater is rest = omega (arith, rest)

  -- a link that is gone
  pub total_less : (links : List (ℕ × X)) (id : ℕ) → total amount (remove_entry (is_at (nat_cmp id)) links) + amount_at amount (link_at links id) ≡ total amount links
  total_less [] id = refl
  total_less (e ∷ es) id = by_cases (is_at (nat_cmp id) e.0) (total_less es id)
    where
      by_cases : (b : Bool) → total amount (remove_entry (is_at (nat_cmp id)) es) + amount_at amount (link_at es id) ≡ total amount es
          → total amount (cond b es (e ∷ remove_entry (is_at (nat_cmp id)) es)) + amount_at amount (cond b (Some e.1) (link_at es id)) ≡ amount e.1 + total amount es
      by_cases true rest = omega arith
      by_cases false rest = omega (arith, rest)
