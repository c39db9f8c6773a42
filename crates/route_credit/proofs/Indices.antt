-- How the index of links follows what is known of one.
use Rattle.std.proofs.Common.{◌≡◌, ◌∙◌, sym, ap, refl, subst, ℕ, Bool, true, false, cond, ◌+◌, ◌-◌, ◌<◌, ◌≤◌, Option, Some, None, arith}
use Rattle.std.specs.Prelude.{◌==◌, nat_lt, if◌then◌else◌, option_and_then}
use Rattle.std.specs.BTreeMap.{BTreeMap, get, is_at}
use Rattle.std.specs.Map.{keys_of, remove_entry}
use Rattle.std.specs.List.Sorted.{IsStrictlySortedBy}
use Rattle.std.specs.Ordering.{nat_cmp}
use Rattle.std.proofs.lemmas.Bool.{eqb-true, eq-eqb, ltb-true}
use Rattle.route_credit.specs.Few.{once}
use Rattle.route_credit.specs.Indexed.{IsIndexed}
use Rattle.route_credit.specs.Links.{amount_at, link_at, with_link, total}
use Rattle.route_credit.specs.Ranks.{is_rank, rank_at, ranked, Ranks}
use Rattle.route_credit.specs.declared.links.Links.{Links}
use Rattle.route_credit.specs.declared.ranking.Ranking.{Ranking}
use Rattle.route_credit.proofs.Moved.{by_test}
use Rattle.route_credit.proofs.Sums.{part_of_total, total_set, total_less}

pub same_test : (a b : ℕ) → is_at (nat_cmp a) b ≡ (a == b)
same_test a b =
    by_test (nat_lt a b)
    (λ e. by_test (a == b)
    (λ f. let l : a < b = ltb-true a b e in let s : a ≡ b = eqb-true a b f in absurd (omega (arith, l, s)))
    (λ f. rw (e, f) refl))
    (λ e. by_test (a == b) (λ f. rw (e, f) refl) (λ f. rw (e, f) refl))

-- ranks that are the same everywhere
pub ranks_agree : (ranking : Ranking) (one other : ℕ → Option ℕ) → Ranks ranking one → ((id : ℕ) → one id ≡ other id) → Ranks ranking other
ranks_agree ranking one other fits same place = fits place ∙ ap (λ r. once (is_rank r place.rank)) (same place.id)

module _ {X : Type 0} (rank : X → Option ℕ) (amount : X → ℕ) where
  pub indexed_set : (old new : Links X) (id : ℕ) (link : X) (after : Option ℕ) → after ≡ rank link → IsStrictlySortedBy nat_cmp (keys_of old.rows.entries) → IsIndexed rank amount old
      → Ranks new.ranking (ranked (rank_at rank old.rows.entries) id after)
      → new.rows.entries ≡ with_link old.rows.entries id link
      → ((q : ℕ) → get nat_cmp new.rows q ≡ cond (is_at (nat_cmp id) q) (Some link) (get nat_cmp old.rows q))
      → new.total ≡ old.total - amount_at amount (link_at old.rows.entries id) + amount link
      → IsStrictlySortedBy nat_cmp (keys_of new.rows.entries)
      → IsIndexed rank amount new
  indexed_set old new id link after is_after sorted is ranks rows found sum ordered = record {
    ranks = ranks_agree new.ranking _ _ ranks (λ q. sym (ap (option_and_then rank) (found q ∙ ap (λ b. cond b (Some link) (get nat_cmp old.rows q)) (same_test id q)) ∙ inside (id == q) (get nat_cmp old.rows q)));
    total = summed;
    ordered = ordered;
  }
    where
      inside : (b : Bool) (x : Option X) → option_and_then rank (cond b (Some link) x) ≡ (if b then after else option_and_then rank x)
      inside true x = sym is_after
      inside false x = refl

      summed : new.total ≡ total amount new.rows.entries
      summed =
          let part : amount_at amount (link_at old.rows.entries id) ≤ total amount old.rows.entries = part_of_total amount old.rows.entries id in
          let set : total amount (with_link old.rows.entries id link) + amount_at amount (link_at old.rows.entries id) ≡ total amount old.rows.entries + amount link = total_set amount old.rows.entries id link sorted in
          let now : total amount new.rows.entries ≡ total amount (with_link old.rows.entries id link) = ap (total amount) rows in
          let before : old.total ≡ total amount old.rows.entries = is.total in
          omega (arith, part, set, now, before, sum)

  pub indexed_less : (old new : Links X) (id : ℕ) → IsIndexed rank amount old
      → Ranks new.ranking (ranked (rank_at rank old.rows.entries) id None)
      → new.rows.entries ≡ remove_entry (is_at (nat_cmp id)) old.rows.entries
      → ((q : ℕ) → get nat_cmp new.rows q ≡ cond (is_at (nat_cmp id) q) None (get nat_cmp old.rows q))
      → new.total ≡ old.total - amount_at amount (link_at old.rows.entries id)
      → IsStrictlySortedBy nat_cmp (keys_of new.rows.entries)
      → IsIndexed rank amount new
  indexed_less old new id is ranks rows found sum ordered = record {
    ranks = ranks_agree new.ranking _ _ ranks (λ q. sym (ap (option_and_then rank) (found q ∙ ap (λ b. cond b None (get nat_cmp old.rows q)) (same_test id q)) ∙ inside (id == q) (get nat_cmp old.rows q)));
    total = summed;
    ordered = ordered;
  }
    where
      inside : (b : Bool) (x : Option X) → option_and_then rank (cond b None x) ≡ (if b then None else option_and_then rank x)
      inside true x = refl
      inside false x = refl

      summed : new.total ≡ total amount new.rows.entries
      summed =
          let less : total amount (remove_entry (is_at (nat_cmp id)) old.rows.entries) + amount_at amount (link_at old.rows.entries id) ≡ total amount old.rows.entries = total_less amount old.rows.entries id in
          let now : total amount new.rows.entries ≡ total amount (remove_entry (is_at (nat_cmp id)) old.rows.entries) = ap (total amount) rows in
          let before : old.total ≡ total amount old.rows.entries = is.total in
          omega (arith, less, now, before, sum)

  -- entries that are the same
  pub indexed_same : (links : Links X) (rows : BTreeMap ℕ X) → rows.entries ≡ links.rows.entries → IsIndexed rank amount links → IsIndexed rank amount (record links { rows = rows })
  indexed_same links rows same is = record {
    ranks = ranks_agree links.ranking _ _ is.ranks (λ q. sym (ap (λ es. rank_at rank es q) same));
    total = is.total ∙ ap (total amount) (sym same);
    ordered = subst (λ es. IsStrictlySortedBy nat_cmp (keys_of es)) (sym same) is.ordered;
  }

  -- a link that came and went
  pub indexed_back : (old new : Links X) (id : ℕ) (after : Option ℕ) → IsIndexed rank amount old → link_at old.rows.entries id ≡ None
      → Ranks new.ranking (ranked (ranked (rank_at rank old.rows.entries) id after) id None)
      → new.rows.entries ≡ old.rows.entries → new.total ≡ old.total → IsIndexed rank amount new
  indexed_back old new id after is none ranks rows sum = record {
    ranks = ranks_agree new.ranking _ _ ranks (λ q. by_test (id == q)
        (λ e. rw e (sym (ap (λ es. rank_at rank es q) rows ∙ ap (λ k. rank_at rank old.rows.entries k) (sym (eqb-true id q e)) ∙ ap (option_and_then rank) none)))
        (λ e. rw e (sym (ap (λ es. rank_at rank es q) rows))));
    total = sum ∙ is.total ∙ ap (total amount) (sym rows);
    ordered = subst (λ es. IsStrictlySortedBy nat_cmp (keys_of es)) (sym rows) is.ordered;
  }

pub ranked_here : (ranks : ℕ → Option ℕ) (id : ℕ) (rank : Option ℕ) → ranked ranks id rank id ≡ rank
ranked_here ranks id rank = rw (eq-eqb id id refl) refl
