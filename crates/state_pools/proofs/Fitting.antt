-- How the pools follow what each link has.
use Rattle.std.proofs.Common.{◌≡◌, ◌∙◌, sym, ap, refl, subst, ℕ, Bool, true, false, true≢false, not, ◌&&◌, ◌||◌, ◌<◌, ◌⊎◌, inl, inr, ⊎_elim, cond, if◌then◌else◌, Option, Some, None, option_map, is_some, List, []}
use Rattle.std.specs.Prelude.{◌==◌, unwrap_or}
use Rattle.std.specs.Str.{bytes_eq}
use Rattle.std.specs.List.Sorted.{IsStrictlySortedBy}
use Rattle.std.specs.BTreeMap.{is_at}
use Rattle.std.specs.List.{list_any}
use Rattle.std.specs.Ordering.{nat_cmp}
use Rattle.std.proofs.lemmas.Bool.{eqb-true, eq-eqb}
use Rattle.std.proofs.lemmas.Map.Made.{is_some-lookup}
use Rattle.route_credit.specs.Granting.{all_granted, grants_of}
use Rattle.route_credit.specs.Links.{link_at}
use Rattle.route_credit.specs.Pool.{chose, has_no_links, no_links, offered, Sharing, wanted, without_consumer, without_producer}
use Rattle.route_credit.specs.declared.demand.Demand.{Demand}
use Rattle.route_credit.specs.declared.offer.Offer.{Offer}
use Rattle.route_credit.proofs.Entries.{InOrder, with_ordered, without_ordered}
use Rattle.route_credit.proofs.Gains.{grants_but_last, kept_producer, no_more_grants}
use Rattle.route_credit.proofs.Grants.{all_consumers, all_distribution, all_keys, all_last, all_ordered, none_by_all}
use Rattle.route_credit.proofs.Lookups.{link_with, link_without}
use Rattle.state_pools.specs.Addresses.{rested, with_pool, without}
use Rattle.state_pools.specs.Due.{is_place}
use Rattle.state_pools.specs.Fits.{chosen_at, Fits, has_link, HasNoted, offers, or_last}
use Rattle.route_table.specs.declared.sections.Distribution.{Distribution}
use Rattle.state_pools.specs.Sharing.{address_in, demand_at, Figure, offer_at}
use Rattle.state_pools.specs.Sharing.Figure.{consumer, producer}
use Rattle.state_pools.proofs.AtAddress.{by_test, equal_bytes, same_bytes}
use Rattle.state_pools.proofs.Written.{no_consumers}

-- a pool that has noted a consumer, where its links change
noted_as : (pool new : Sharing) (last : ℕ) → new.last ≡ pool.last → ((n : ℕ) → is_some (link_at new.consumers n) ≡ true → (is_some (link_at pool.consumers n) ≡ true) ⊎ (last < n))
    → HasNoted pool last → HasNoted new last
noted_as pool new last same more noted = ⊎_elim (λ e. inl (same ∙ e)) (λ e. inr (same ∙ e.0, λ n there. ⊎_elim (λ old. e.1 n old) (λ above. above) (more n there))) noted

-- one without links may note none
rest_noted : (pool : Sharing) (last : ℕ) → HasNoted pool last → HasNoted (rested pool) last
rest_noted pool last noted = by_test (has_no_links pool)
    (λ e. inr (ap (λ b. if b then 0 else pool.last) e, λ n there. absurd (true≢false (sym there ∙ ap (λ es. is_some (link_at es n)) (no_consumers pool e)))))
    (λ e. noted_as pool (rested pool) last (ap (λ b. if b then 0 else pool.last) e) (λ n there. inl there) noted)

-- one that has noted a consumer, after a choice
chosen_noted : (b : Bool) (r : Option ℕ) (pool : Sharing) (last : ℕ) → HasNoted pool last → HasNoted (if b then chose pool r else pool) (if b then or_last r last else last)
chosen_noted true None pool last noted = noted
chosen_noted true (Some id) pool last noted = inl refl
chosen_noted false r pool last noted = noted

some_of_cond : {X : Type 0} (b : Bool) (x : Option X) → is_some (cond b None x) ≡ true → is_some x ≡ true
some_of_cond true x e = absurd cc
some_of_cond false x e = e

some_or_none : {X : Type 0} (x : Option X) → (is_some x ≡ true) ⊎ (x ≡ None)
some_or_none None = inr refl
some_or_none (Some x) = inl refl

-- a pool has a link if another one has the same of it
both : (x y : Option Offer) (v w : Option Demand) → x ≡ y → v ≡ w → (is_some x || is_some v) ≡ (is_some y || is_some w)
both x y v w e f = ap (λ o. is_some o || is_some v) e ∙ ap (λ d. is_some y || is_some d) f

-- after all grants it has the same links
all_have : (pool : Sharing) (n : ℕ) → InOrder pool.producers → has_link (all_granted pool) n ≡ has_link pool n
all_have pool n rise =
    ap (λ es. is_some (link_at es n) || is_some (link_at (all_granted pool).producers n)) (all_consumers pool rise)
    ∙ ap (λ b. is_some (link_at pool.consumers n) || b) (
    is_some-lookup (is_at (nat_cmp n)) (all_granted pool).producers
    ∙ ap (λ ids. list_any (is_at (nat_cmp n)) ids) (all_keys pool rise)
    ∙ sym (is_some-lookup (is_at (nat_cmp n)) pool.producers))

module _ (apart : ℕ → Bool) (table share : List ℕ → Distribution) (pools : List ℕ → Sharing) (place : ℕ → Option (List ℕ)) (due : List ℕ → Bool) (known actual : ℕ → Option Figure) (last : List ℕ → ℕ) (fits : Fits apart table share pools place due known actual last) where
  -- more links may be apart, with other figures known of them, and more addresses may be due
  pub widened : (apart' : ℕ → Bool) (due' : List ℕ → Bool) (known' : ℕ → Option Figure)
      → ((n : ℕ) → apart' n ≡ false → (apart n ≡ false) × (known' n ≡ known n)) → ((a : List ℕ) → due' a ≡ false → due a ≡ false)
      → Fits apart' table share pools place due' known' actual last
  widened apart' due' known' more later = record {
    consumers = λ n a is. fits.consumers n a (more n is).0 ∙ ap (offer_at a) (sym (more n is).1);
    producers = λ n a is. fits.producers n a (more n is).0 ∙ ap (demand_at a) (sym (more n is).1);
    no_consumer = fits.no_consumer;
    no_producer = fits.no_producer;
    seated = fits.seated;
    same = fits.same;
    distribution = fits.distribution;
    chosen = fits.chosen;
    later = fits.later;
    consumers_rise = fits.consumers_rise;
    producers_rise = fits.producers_rise;
    quiet = λ a is. fits.quiet a (later a is);
  }

  -- places may be given by another function that is the same
  pub placed_as : (place' : ℕ → Option (List ℕ)) → ((n : ℕ) → place n ≡ place' n) → Fits apart table share pools place' due known actual last
  placed_as place' same = subst (λ p. Fits apart table share pools p due known actual last) (λ i n. same n i) fits

  -- a link is at the address that is known of it
  pub at_place : (n : ℕ) (a : List ℕ) → apart n ≡ false → address_in (known n) ≡ Some a → is_place (place n) a ≡ true
  at_place n a is_known e = by_figure (known n) refl e
    where
      there : (at : List ℕ) → Some at ≡ Some a → bytes_eq at a ≡ true
      there at e = equal_bytes at a (ap (λ (v : Option (List ℕ)). unwrap_or v a) e)

      by_figure : (v : Option Figure) → known n ≡ v → address_in v ≡ Some a → is_place (place n) a ≡ true
      by_figure None is e = absurd cc
      by_figure (Some (consumer at free undecided)) is e = by_test (is_place (place n) a) (λ t. t)
          (λ none.
          let offer : Offer = record { free = free; undecided = undecided } in
          absurd (true≢false (ap (λ b. is_some (cond b (Some offer) None)) (sym (there at e)) ∙ ap (λ v. is_some (offer_at a v)) (sym is) ∙ ap is_some (sym (fits.consumers n a is_known) ∙ fits.no_consumer n a none))))
      by_figure (Some (producer at unused owed held)) is e = by_test (is_place (place n) a) (λ t. t)
          (λ none.
          let demand : Demand = record { unused = unused; due = owed; held = held } in
          absurd (true≢false (ap (λ b. is_some (cond b (Some demand) None)) (sym (there at e)) ∙ ap (λ v. is_some (demand_at a v)) (sym is) ∙ ap is_some (sym (fits.producers n a is_known) ∙ fits.no_producer n a none))))

  -- One pool changes, and with it one link. The pool's address is due.
  module _ (pools' : List ℕ → Sharing) (q : List ℕ) (change : Sharing → Sharing) (changes : (a : List ℕ) → pools' a ≡ with_pool pools q change a) where
    -- a property of the pools that the change keeps
    keeps : (P : List ℕ → Sharing → Type 0) → ((a : List ℕ) → bytes_eq q a ≡ true → P a (change (pools a))) → ((a : List ℕ) → bytes_eq q a ≡ false → P a (pools a)) → (a : List ℕ) → P a (pools' a)
    keeps P one other a = subst (P a) (sym (changes a)) (by_test (bytes_eq q a)
        (λ e. subst (λ b. P a (if b then change (pools a) else pools a)) (sym e) (one a e))
        (λ e. subst (λ b. P a (if b then change (pools a) else pools a)) (sym e) (other a e)))

    -- another address keeps its pool
    elsewhere : (a : List ℕ) → bytes_eq q a ≡ false → pools' a ≡ pools a
    elsewhere a e = changes a ∙ ap (λ b. if b then change (pools a) else pools a) e

    quiet_still : (due' : List ℕ → Bool) → due' q ≡ true → ((a : List ℕ) → due' a ≡ false → due a ≡ false) → (a : List ℕ) → due' a ≡ false → grants_of (pools' a) ≡ []
    quiet_still due' is_due later a none = by_test (bytes_eq q a)
        (λ e. absurd (true≢false (sym is_due ∙ ap due' (same_bytes q a e) ∙ none)))
        (λ e. ap grants_of (elsewhere a e) ∙ fits.quiet a (later a none))

    -- A link is removed from its pool.
    module _ (n : ℕ) (change_is : (pool : Sharing) → change pool ≡ without pool n) (at : place n ≡ Some q) (is_apart : apart n ≡ true)
        (place' : ℕ → Option (List ℕ)) (moves : (m : ℕ) → place' m ≡ (if n == m then None else place m))
        (due' : List ℕ → Bool) (is_due : due' q ≡ true) (later : (a : List ℕ) → due' a ≡ false → due a ≡ false) (no_offer : offers (actual n) q ≡ false) where
      consumer_out : (m : ℕ) (a : List ℕ) → link_at (change (pools a)).consumers m ≡ cond (n == m) None (link_at (pools a).consumers m)
      consumer_out m a = ap (λ p. link_at p.consumers m) (change_is (pools a)) ∙ link_without (pools a).consumers n m

      producer_out : (m : ℕ) (a : List ℕ) → link_at (change (pools a)).producers m ≡ cond (n == m) None (link_at (pools a).producers m)
      producer_out m a = ap (λ p. link_at p.producers m) (change_is (pools a)) ∙ link_without (pools a).producers n m

      not_n : (m : ℕ) → apart m ≡ false → (n == m) ≡ false
      not_n m is = by_test (n == m) (λ e. absurd (true≢false (sym is_apart ∙ ap apart (eqb-true n m e) ∙ is))) (λ e. e)

      place_before : (m : ℕ) (a : List ℕ) → is_place (place' m) a ≡ false → (n == m) ≡ false → is_place (place m) a ≡ false
      place_before m a none e = sym (ap (λ p. is_place p a) (moves m ∙ ap (λ b. if b then None else place m) e)) ∙ none

      place_here : (m : ℕ) (a : List ℕ) → bytes_eq q a ≡ false → (n == m) ≡ true → is_place (place m) a ≡ false
      place_here m a other e = ap (λ k. is_place (place k) a) (sym (eqb-true n m e)) ∙ ap (λ p. is_place p a) at ∙ other

      stood : (m : ℕ) (a : List ℕ) → is_place (place' m) a ≡ true → (n == m) ≡ false → is_place (place m) a ≡ true
      stood m a there e = sym (ap (λ p. is_place p a) (moves m ∙ ap (λ b. if b then None else place m) e)) ∙ there

      left : (m : ℕ) (a : List ℕ) → is_place (place' m) a ≡ true → (n == m) ≡ false
      left m a there = by_test (n == m) (λ e. absurd (true≢false (sym there ∙ ap (λ p. is_place p a) (moves m ∙ ap (λ b. if b then None else place m) e)))) (λ e. e)

      pub taken : Fits apart table share pools' place' due' known actual last
      taken = record {
        consumers = λ m a is. keeps (λ a p. link_at p.consumers m ≡ offer_at a (known m))
            (λ a e. consumer_out m a ∙ ap (λ b. cond b None (link_at (pools a).consumers m)) (not_n m is) ∙ fits.consumers m a is) (λ a e. fits.consumers m a is) a;
        producers = λ m a is. keeps (λ a p. link_at p.producers m ≡ demand_at a (known m))
            (λ a e. producer_out m a ∙ ap (λ b. cond b None (link_at (pools a).producers m)) (not_n m is) ∙ fits.producers m a is) (λ a e. fits.producers m a is) a;
        no_consumer = λ m a none. by_test (n == m)
            (λ e. keeps (λ a p. link_at p.consumers m ≡ None) (λ a f. consumer_out m a ∙ ap (λ b. cond b None (link_at (pools a).consumers m)) e) (λ a f. fits.no_consumer m a (place_here m a f e)) a)
            (λ e. by_test (bytes_eq q a)
            (λ f. ap (λ p. link_at p.consumers m) (changes a ∙ ap (λ b. if b then change (pools a) else pools a) f) ∙ consumer_out m a ∙ ap (λ b. cond b None (link_at (pools a).consumers m)) e ∙ fits.no_consumer m a (place_before m a none e))
            (λ f. ap (λ p. link_at p.consumers m) (elsewhere a f) ∙ fits.no_consumer m a (place_before m a none e)));
        no_producer = λ m a none. by_test (n == m)
            (λ e. keeps (λ a p. link_at p.producers m ≡ None) (λ a f. producer_out m a ∙ ap (λ b. cond b None (link_at (pools a).producers m)) e) (λ a f. fits.no_producer m a (place_here m a f e)) a)
            (λ e. by_test (bytes_eq q a)
            (λ f. ap (λ p. link_at p.producers m) (changes a ∙ ap (λ b. if b then change (pools a) else pools a) f) ∙ producer_out m a ∙ ap (λ b. cond b None (link_at (pools a).producers m)) e ∙ fits.no_producer m a (place_before m a none e))
            (λ f. ap (λ p. link_at p.producers m) (elsewhere a f) ∙ fits.no_producer m a (place_before m a none e)));
        seated = λ m. keeps (λ a p. is_place (place' m) a ≡ true → has_link p m ≡ true)
            (λ a f there. both (link_at (change (pools a)).consumers m) (link_at (pools a).consumers m) (link_at (change (pools a)).producers m) (link_at (pools a).producers m)
            (consumer_out m a ∙ ap (λ b. cond b None (link_at (pools a).consumers m)) (left m a there))
            (producer_out m a ∙ ap (λ b. cond b None (link_at (pools a).producers m)) (left m a there))
            ∙ fits.seated m a (stood m a there (left m a there)))
            (λ a f there. fits.seated m a (stood m a there (left m a there)));
        same = fits.same;
        distribution = keeps (λ a p. p.distribution ≡ share a) (λ a e. ap (λ p. p.distribution) (change_is (pools a)) ∙ fits.distribution a) (λ a e. fits.distribution a);
        chosen = keeps (λ a p. HasNoted p (last a))
            (λ a e. noted_as (pools a) (change (pools a)) (last a) (ap (λ p. p.last) (change_is (pools a)))
            (λ m there. inl (some_of_cond (n == m) (link_at (pools a).consumers m) (sym (ap is_some (consumer_out m a)) ∙ there))) (fits.chosen a)) (λ a e. fits.chosen a);
        later = λ m. keeps (λ a p. link_at p.consumers m ≡ None → offers (actual m) a ≡ true → last a < m)
            (λ a f none comes. by_test (n == m)
            (λ e. absurd (true≢false (sym comes ∙ ap (λ k. offers (actual k) a) (sym (eqb-true n m e)) ∙ ap (offers (actual n)) (sym (same_bytes q a f)) ∙ no_offer)))
            (λ e. fits.later m a (sym (consumer_out m a ∙ ap (λ b. cond b None (link_at (pools a).consumers m)) e) ∙ none) comes))
            (λ a f. fits.later m a);
        consumers_rise = keeps (λ a p. InOrder p.consumers) (λ a e. subst (λ p. InOrder p.consumers) (sym (change_is (pools a))) (without_ordered (pools a).consumers n (fits.consumers_rise a))) (λ a e. fits.consumers_rise a);
        producers_rise = keeps (λ a p. InOrder p.producers) (λ a e. subst (λ p. InOrder p.producers) (sym (change_is (pools a))) (without_ordered (pools a).producers n (fits.producers_rise a))) (λ a e. fits.producers_rise a);
        quiet = quiet_still due' is_due later;
      }

    -- A link gets other figures at its place, where it may have come just now. The place is due then, or has no grants.
    module _ (n : ℕ) (place' : ℕ → Option (List ℕ)) (moves : (m : ℕ) → place' m ≡ (if n == m then Some q else place m))
        (not_there : (a : List ℕ) → bytes_eq q a ≡ false → is_place (place n) a ≡ false)
        (due' : List ℕ → Bool) (still_due : (a : List ℕ) → due' a ≡ false → due a ≡ false) (quiet_here : due' q ≡ false → grants_of (pools' q) ≡ [])
        (apart' : ℕ → Bool) (less : (m : ℕ) → apart' m ≡ false → (n == m) ≡ false → apart m ≡ false)
        (known' : ℕ → Option Figure) (others : (m : ℕ) → (n == m) ≡ false → known' m ≡ known m) (is_actual : actual n ≡ known' n)
        (is_there : (is_some (offer_at q (known' n)) || is_some (demand_at q (known' n))) ≡ true)
        (consumer_there : (m : ℕ) (a : List ℕ) → link_at (change (pools a)).consumers m ≡ cond (n == m) (offer_at q (known' n)) (link_at (pools a).consumers m))
        (producer_there : (m : ℕ) (a : List ℕ) → link_at (change (pools a)).producers m ≡ cond (n == m) (demand_at q (known' n)) (link_at (pools a).producers m))
        (offer_elsewhere : (a : List ℕ) → bytes_eq q a ≡ false → offer_at a (known' n) ≡ None) (demand_elsewhere : (a : List ℕ) → bytes_eq q a ≡ false → demand_at a (known' n) ≡ None)
        (same_distribution : (a : List ℕ) → (change (pools a)).distribution ≡ (pools a).distribution) (same_last : (a : List ℕ) → (change (pools a)).last ≡ (pools a).last)
        (consumers_ordered : (a : List ℕ) → InOrder (pools a).consumers → InOrder (change (pools a)).consumers)
        (producers_ordered : (a : List ℕ) → InOrder (pools a).producers → InOrder (change (pools a)).producers) where
      here : (m : ℕ) (a : List ℕ) → (n == m) ≡ true → is_place (place' m) a ≡ bytes_eq q a
      here m a e = ap (λ p. is_place p a) (moves m ∙ ap (λ b. if b then Some q else place m) e)

      same_place : (m : ℕ) (a : List ℕ) → (n == m) ≡ false → is_place (place' m) a ≡ is_place (place m) a
      same_place m a e = ap (λ p. is_place p a) (moves m ∙ ap (λ b. if b then Some q else place m) e)

      not_place : (m : ℕ) (a : List ℕ) → is_place (place' m) a ≡ false → bytes_eq q a ≡ true → (n == m) ≡ false
      not_place m a none at = by_test (n == m) (λ e. absurd (true≢false (sym at ∙ sym (here m a e) ∙ none))) (λ e. e)

      -- where it isn't, it wasn't before
      was_not : (m : ℕ) (a : List ℕ) → is_place (place' m) a ≡ false → bytes_eq q a ≡ false → is_place (place m) a ≡ false
      was_not m a none other = by_test (n == m)
          (λ e. ap (λ k. is_place (place k) a) (sym (eqb-true n m e)) ∙ not_there a other)
          (λ e. sym (same_place m a e) ∙ none)

      -- what it offers now is in the pool
      offer_is : (m : ℕ) (a : List ℕ) → bytes_eq q a ≡ true → (n == m) ≡ true → link_at (change (pools a)).consumers m ≡ offer_at a (actual m)
      offer_is m a f e =
          consumer_there m a ∙ ap (λ b. cond b (offer_at q (known' n)) (link_at (pools a).consumers m)) e ∙ ap (offer_at q) (sym is_actual)
          ∙ ap (λ k. offer_at q (actual k)) (eqb-true n m e) ∙ ap (λ b. offer_at b (actual m)) (same_bytes q a f)

      other_is : (m : ℕ) (a : List ℕ) → (n == m) ≡ false → link_at (change (pools a)).consumers m ≡ link_at (pools a).consumers m
      other_is m a e = consumer_there m a ∙ ap (λ b. cond b (offer_at q (known' n)) (link_at (pools a).consumers m)) e

      pub changed : Fits apart' table share pools' place' due' known' actual last
      changed = record {
        consumers = λ m a is. by_test (n == m)
            (λ e. let same : n ≡ m = eqb-true n m e in keeps (λ a p. link_at p.consumers m ≡ offer_at a (known' m))
            (λ a f. consumer_there m a ∙ ap (λ b. cond b (offer_at q (known' n)) (link_at (pools a).consumers m)) e ∙ ap (λ k. offer_at q (known' k)) same ∙ ap (λ b. offer_at b (known' m)) (same_bytes q a f))
            (λ a f. ap (link_at (pools a).consumers) (sym same) ∙ fits.no_consumer n a (not_there a f) ∙ sym (offer_elsewhere a f) ∙ ap (λ k. offer_at a (known' k)) same) a)
            (λ e. keeps (λ a p. link_at p.consumers m ≡ offer_at a (known' m))
            (λ a f. consumer_there m a ∙ ap (λ b. cond b (offer_at q (known' n)) (link_at (pools a).consumers m)) e ∙ fits.consumers m a (less m is e) ∙ ap (offer_at a) (sym (others m e)))
            (λ a f. fits.consumers m a (less m is e) ∙ ap (offer_at a) (sym (others m e))) a);
        producers = λ m a is. by_test (n == m)
            (λ e. let same : n ≡ m = eqb-true n m e in keeps (λ a p. link_at p.producers m ≡ demand_at a (known' m))
            (λ a f. producer_there m a ∙ ap (λ b. cond b (demand_at q (known' n)) (link_at (pools a).producers m)) e ∙ ap (λ k. demand_at q (known' k)) same ∙ ap (λ b. demand_at b (known' m)) (same_bytes q a f))
            (λ a f. ap (link_at (pools a).producers) (sym same) ∙ fits.no_producer n a (not_there a f) ∙ sym (demand_elsewhere a f) ∙ ap (λ k. demand_at a (known' k)) same) a)
            (λ e. keeps (λ a p. link_at p.producers m ≡ demand_at a (known' m))
            (λ a f. producer_there m a ∙ ap (λ b. cond b (demand_at q (known' n)) (link_at (pools a).producers m)) e ∙ fits.producers m a (less m is e) ∙ ap (demand_at a) (sym (others m e)))
            (λ a f. fits.producers m a (less m is e) ∙ ap (demand_at a) (sym (others m e))) a);
        no_consumer = λ m a none. by_test (bytes_eq q a)
            (λ f. ap (λ p. link_at p.consumers m) (changes a ∙ ap (λ b. if b then change (pools a) else pools a) f) ∙ consumer_there m a
            ∙ ap (λ b. cond b (offer_at q (known' n)) (link_at (pools a).consumers m)) (not_place m a none f) ∙ fits.no_consumer m a (sym (same_place m a (not_place m a none f)) ∙ none))
            (λ f. ap (λ p. link_at p.consumers m) (elsewhere a f) ∙ fits.no_consumer m a (was_not m a none f));
        no_producer = λ m a none. by_test (bytes_eq q a)
            (λ f. ap (λ p. link_at p.producers m) (changes a ∙ ap (λ b. if b then change (pools a) else pools a) f) ∙ producer_there m a
            ∙ ap (λ b. cond b (demand_at q (known' n)) (link_at (pools a).producers m)) (not_place m a none f) ∙ fits.no_producer m a (sym (same_place m a (not_place m a none f)) ∙ none))
            (λ f. ap (λ p. link_at p.producers m) (elsewhere a f) ∙ fits.no_producer m a (was_not m a none f));
        seated = λ m. keeps (λ a p. is_place (place' m) a ≡ true → has_link p m ≡ true)
            (λ a f there. by_test (n == m)
            (λ e. both (link_at (change (pools a)).consumers m) (offer_at q (known' n)) (link_at (change (pools a)).producers m) (demand_at q (known' n))
            (consumer_there m a ∙ ap (λ b. cond b (offer_at q (known' n)) (link_at (pools a).consumers m)) e)
            (producer_there m a ∙ ap (λ b. cond b (demand_at q (known' n)) (link_at (pools a).producers m)) e)
            ∙ is_there)
            (λ e. both (link_at (change (pools a)).consumers m) (link_at (pools a).consumers m) (link_at (change (pools a)).producers m) (link_at (pools a).producers m)
            (consumer_there m a ∙ ap (λ b. cond b (offer_at q (known' n)) (link_at (pools a).consumers m)) e)
            (producer_there m a ∙ ap (λ b. cond b (demand_at q (known' n)) (link_at (pools a).producers m)) e)
            ∙ fits.seated m a (sym (same_place m a e) ∙ there)))
            (λ a f there. by_test (n == m)
            (λ e. absurd (true≢false (sym there ∙ here m a e ∙ f)))
            (λ e. fits.seated m a (sym (same_place m a e) ∙ there)));
        same = fits.same;
        distribution = keeps (λ a p. p.distribution ≡ share a) (λ a e. same_distribution a ∙ fits.distribution a) (λ a e. fits.distribution a);
        chosen = keeps (λ a p. HasNoted p (last a))
            (λ a f. noted_as (pools a) (change (pools a)) (last a) (same_last a)
            (λ m there. by_test (n == m)
            (λ e. ⊎_elim (λ old. inl old) (λ none. inr (fits.later m a none (sym (ap is_some (offer_is m a f e)) ∙ there))) (some_or_none (link_at (pools a).consumers m)))
            (λ e. inl (sym (ap is_some (other_is m a e)) ∙ there)))
            (fits.chosen a))
            (λ a f. fits.chosen a);
        later = λ m. keeps (λ a p. link_at p.consumers m ≡ None → offers (actual m) a ≡ true → last a < m)
            (λ a f none comes. by_test (n == m)
            (λ e. absurd (true≢false (sym comes ∙ ap is_some (sym (offer_is m a f e) ∙ none))))
            (λ e. fits.later m a (sym (other_is m a e) ∙ none) comes))
            (λ a f. fits.later m a);
        consumers_rise = keeps (λ a p. InOrder p.consumers) (λ a e. consumers_ordered a (fits.consumers_rise a)) (λ a e. fits.consumers_rise a);
        producers_rise = keeps (λ a p. InOrder p.producers) (λ a e. producers_ordered a (fits.producers_rise a)) (λ a e. fits.producers_rise a);
        quiet = λ a none. by_test (bytes_eq q a)
            (λ f. subst (λ b. grants_of (pools' b) ≡ []) (same_bytes q a f) (quiet_here (ap due' (same_bytes q a f) ∙ none)))
            (λ f. ap grants_of (elsewhere a f) ∙ fits.quiet a (still_due a none));
      }

  -- a pool may be removed if it has no links
  pub rested_fits : (pools' : List ℕ → Sharing) (q : List ℕ) → ((a : List ℕ) → pools' a ≡ with_pool pools q rested a) → Fits apart table share pools' place due known actual last
  rested_fits pools' q changes = record {
    consumers = λ n a is. keep (λ a p. link_at p.consumers n ≡ offer_at a (known n)) (λ a e. fits.consumers n a is) (λ a e. fits.consumers n a is) a;
    producers = λ n a is. keep (λ a p. link_at p.producers n ≡ demand_at a (known n)) (λ a e. fits.producers n a is) (λ a e. fits.producers n a is) a;
    no_consumer = λ n. keep (λ a p. is_place (place n) a ≡ false → link_at p.consumers n ≡ None) (λ a e. fits.no_consumer n a) (λ a e. fits.no_consumer n a);
    no_producer = λ n. keep (λ a p. is_place (place n) a ≡ false → link_at p.producers n ≡ None) (λ a e. fits.no_producer n a) (λ a e. fits.no_producer n a);
    seated = λ n. keep (λ a p. is_place (place n) a ≡ true → has_link p n ≡ true) (λ a e. fits.seated n a) (λ a e. fits.seated n a);
    same = fits.same;
    distribution = keep (λ a p. p.distribution ≡ share a) (λ a e. fits.distribution a) (λ a e. fits.distribution a);
    chosen = keep (λ a p. HasNoted p (last a)) (λ a e. rest_noted (pools a) (last a) (fits.chosen a)) (λ a e. fits.chosen a);
    later = λ n. keep (λ a p. link_at p.consumers n ≡ None → offers (actual n) a ≡ true → last a < n) (λ a e. fits.later n a) (λ a e. fits.later n a);
    consumers_rise = keep (λ a p. InOrder p.consumers) (λ a e. fits.consumers_rise a) (λ a e. fits.consumers_rise a);
    producers_rise = keep (λ a p. InOrder p.producers) (λ a e. fits.producers_rise a) (λ a e. fits.producers_rise a);
    quiet = keep (λ a p. due a ≡ false → grants_of p ≡ []) (λ a e none. grants_but_last (pools a) (rested (pools a)).last ∙ fits.quiet a none) (λ a e. fits.quiet a);
  }
    where
      keep : (P : List ℕ → Sharing → Type 0) → ((a : List ℕ) → bytes_eq q a ≡ true → P a (rested (pools a))) → ((a : List ℕ) → bytes_eq q a ≡ false → P a (pools a)) → (a : List ℕ) → P a (pools' a)
      keep = keeps pools' q rested changes

  -- a link without a place has nothing
  pub gone : (n : ℕ) → place n ≡ None → (apart' : ℕ → Bool) → ((m : ℕ) → apart' m ≡ false → (n == m) ≡ false → apart m ≡ false)
      → (known' : ℕ → Option Figure) → known' n ≡ None → ((m : ℕ) → (n == m) ≡ false → known' m ≡ known m) → Fits apart' table share pools place due known' actual last
  gone n none apart' less known' nothing others = record {
    consumers = λ m a is. by_test (n == m)
        (λ e. let same : n ≡ m = eqb-true n m e in ap (link_at (pools a).consumers) (sym same) ∙ fits.no_consumer n a (ap (λ p. is_place p a) none) ∙ sym (ap (offer_at a) (ap known' (sym same) ∙ nothing)))
        (λ e. fits.consumers m a (less m is e) ∙ ap (offer_at a) (sym (others m e)));
    producers = λ m a is. by_test (n == m)
        (λ e. let same : n ≡ m = eqb-true n m e in ap (link_at (pools a).producers) (sym same) ∙ fits.no_producer n a (ap (λ p. is_place p a) none) ∙ sym (ap (demand_at a) (ap known' (sym same) ∙ nothing)))
        (λ e. fits.producers m a (less m is e) ∙ ap (demand_at a) (sym (others m e)));
    no_consumer = fits.no_consumer;
    no_producer = fits.no_producer;
    seated = fits.seated;
    same = fits.same;
    distribution = fits.distribution;
    chosen = fits.chosen;
    later = fits.later;
    consumers_rise = fits.consumers_rise;
    producers_rise = fits.producers_rise;
    quiet = fits.quiet;
  }

  -- a consumer was chosen
  pub chosen_fits : (pools' : List ℕ → Sharing) (q : List ℕ) (r : Option ℕ) → ((a : List ℕ) → pools' a ≡ with_pool pools q (λ pool. chose pool r) a)
      → ((n : ℕ) (a : List ℕ) → link_at (pools a).consumers n ≡ offer_at a (actual n)) → Fits apart table share pools' place due known actual (chosen_at q r last)
  chosen_fits pools' q r changes settled = record {
    consumers = λ n a is. ap (link_at_of n) (same_consumers a) ∙ fits.consumers n a is;
    producers = λ n a is. ap (link_at_of n) (same_producers a) ∙ fits.producers n a is;
    no_consumer = λ n a is. ap (link_at_of n) (same_consumers a) ∙ fits.no_consumer n a is;
    no_producer = λ n a is. ap (link_at_of n) (same_producers a) ∙ fits.no_producer n a is;
    seated = λ n a there. both (link_at (pools' a).consumers n) (link_at (pools a).consumers n) (link_at (pools' a).producers n) (link_at (pools a).producers n) (ap (link_at_of n) (same_consumers a)) (ap (link_at_of n) (same_producers a)) ∙ fits.seated n a there;
    same = fits.same;
    distribution = λ a. ap (λ p. p.distribution) (changes a) ∙ distribution_kept (bytes_eq q a) (pools a) r ∙ fits.distribution a;
    chosen = λ a. subst (λ p. HasNoted p (chosen_at q r last a)) (sym (changes a)) (chosen_noted (bytes_eq q a) r (pools a) (last a) (fits.chosen a));
    later = λ n a none comes. absurd (true≢false (sym comes ∙ ap is_some (sym (settled n a) ∙ sym (ap (link_at_of n) (same_consumers a)) ∙ none)));
    consumers_rise = λ a. subst (λ es. InOrder es) (sym (same_consumers a)) (fits.consumers_rise a);
    producers_rise = λ a. subst (λ es. InOrder es) (sym (same_producers a)) (fits.producers_rise a);
    quiet = λ a none. ap grants_of (changes a) ∙ quiet_kept (bytes_eq q a) (pools a) r ∙ fits.quiet a none;
  }
    where
      link_at_of : {X : Type 0} → ℕ → List (ℕ × X) → Option X
      link_at_of n es = link_at es n

      consumers_kept : (b : Bool) (pool : Sharing) (r : Option ℕ) → (if b then chose pool r else pool).consumers ≡ pool.consumers
      consumers_kept true pool None = refl
      consumers_kept true pool (Some id) = refl
      consumers_kept false pool r = refl

      producers_kept : (b : Bool) (pool : Sharing) (r : Option ℕ) → (if b then chose pool r else pool).producers ≡ pool.producers
      producers_kept true pool None = refl
      producers_kept true pool (Some id) = refl
      producers_kept false pool r = refl

      distribution_kept : (b : Bool) (pool : Sharing) (r : Option ℕ) → (if b then chose pool r else pool).distribution ≡ pool.distribution
      distribution_kept true pool None = refl
      distribution_kept true pool (Some id) = refl
      distribution_kept false pool r = refl

      quiet_kept : (b : Bool) (pool : Sharing) (r : Option ℕ) → grants_of (if b then chose pool r else pool) ≡ grants_of pool
      quiet_kept true pool None = refl
      quiet_kept true pool (Some id) = grants_but_last pool id
      quiet_kept false pool r = refl

      same_consumers : (a : List ℕ) → (pools' a).consumers ≡ (pools a).consumers
      same_consumers a = ap (λ p. p.consumers) (changes a) ∙ consumers_kept (bytes_eq q a) (pools a) r

      same_producers : (a : List ℕ) → (pools' a).producers ≡ (pools a).producers
      same_producers a = ap (λ p. p.producers) (changes a) ∙ producers_kept (bytes_eq q a) (pools a) r

  -- the grants of an address were given, and the producers that got some are apart
  pub granted_fits : (pools' : List ℕ → Sharing) (q : List ℕ) → ((a : List ℕ) → pools' a ≡ with_pool pools q all_granted a)
      → (apart' : ℕ → Bool) → ((n : ℕ) → apart' n ≡ false → (apart n ≡ false) × (link_at (grants_of (pools q)) n ≡ None))
      → (due' : List ℕ → Bool) → ((a : List ℕ) → bytes_eq q a ≡ false → due' a ≡ false → due a ≡ false)
      → Fits apart' table share pools' place due' known actual last
  granted_fits pools' q changes apart' more due' later = record {
    consumers = λ n a is. keep (λ a p. link_at p.consumers n ≡ offer_at a (known n)) (λ a e. ap (λ es. link_at es n) (all_consumers (pools a) (rise a)) ∙ fits.consumers n a (more n is).0) (λ a e. fits.consumers n a (more n is).0) a;
    producers = λ n a is. keep (λ a p. link_at p.producers n ≡ demand_at a (known n))
        (λ a e. kept_producer (pools a) n (rise a) (ap (λ b. link_at (grants_of (pools b)) n) (sym (same_bytes q a e)) ∙ (more n is).1) ∙ fits.producers n a (more n is).0) (λ a e. fits.producers n a (more n is).0) a;
    no_consumer = λ n a is. by_test (bytes_eq q a)
        (λ e. ap (λ p. link_at p.consumers n) (here a e) ∙ ap (λ es. link_at es n) (all_consumers (pools a) (rise a)) ∙ fits.no_consumer n a is)
        (λ e. ap (λ p. link_at p.consumers n) (elsewhere pools' q all_granted changes a e) ∙ fits.no_consumer n a is);
    no_producer = λ n a is. by_test (bytes_eq q a)
        (λ e. ap (λ p. link_at p.producers n) (here a e) ∙ none_by_all (pools a) n (rise a) (fits.no_producer n a is))
        (λ e. ap (λ p. link_at p.producers n) (elsewhere pools' q all_granted changes a e) ∙ fits.no_producer n a is);
    seated = λ n. keep (λ a p. is_place (place n) a ≡ true → has_link p n ≡ true) (λ a e there. all_have (pools a) n (rise a) ∙ fits.seated n a there) (λ a e. fits.seated n a);
    same = fits.same;
    distribution = keep (λ a p. p.distribution ≡ share a) (λ a e. all_distribution (pools a) (rise a) ∙ fits.distribution a) (λ a e. fits.distribution a);
    chosen = keep (λ a p. HasNoted p (last a))
        (λ a e. noted_as (pools a) (all_granted (pools a)) (last a) (all_last (pools a) (rise a)) (λ n there. inl (sym (ap (λ es. is_some (link_at es n)) (all_consumers (pools a) (rise a))) ∙ there)) (fits.chosen a))
        (λ a e. fits.chosen a);
    later = λ n. keep (λ a p. link_at p.consumers n ≡ None → offers (actual n) a ≡ true → last a < n)
        (λ a e none comes. fits.later n a (sym (ap (λ es. link_at es n) (all_consumers (pools a) (rise a))) ∙ none) comes) (λ a e. fits.later n a);
    consumers_rise = keep (λ a p. InOrder p.consumers) (λ a e. subst (λ es. InOrder es) (sym (all_consumers (pools a) (rise a))) (fits.consumers_rise a)) (λ a e. fits.consumers_rise a);
    producers_rise = keep (λ a p. InOrder p.producers) (λ a e. all_ordered (pools a) (rise a)) (λ a e. rise a);
    quiet = λ a none. by_test (bytes_eq q a)
        (λ e. ap grants_of (here a e) ∙ no_more_grants (pools a) (rise a))
        (λ e. ap grants_of (elsewhere pools' q all_granted changes a e) ∙ fits.quiet a (later a e none));
  }
    where
      rise : (a : List ℕ) → InOrder (pools a).producers
      rise = fits.producers_rise

      keep : (P : List ℕ → Sharing → Type 0) → ((a : List ℕ) → bytes_eq q a ≡ true → P a (all_granted (pools a))) → ((a : List ℕ) → bytes_eq q a ≡ false → P a (pools a)) → (a : List ℕ) → P a (pools' a)
      keep = keeps pools' q all_granted changes

      here : (a : List ℕ) → bytes_eq q a ≡ true → pools' a ≡ all_granted (pools a)
      here a e = changes a ∙ ap (λ b. if b then all_granted (pools a) else pools a) e

-- a consumer's figures
module _ (apart : ℕ → Bool) (table share : List ℕ → Distribution) (pools : List ℕ → Sharing) (place : ℕ → Option (List ℕ)) (due : List ℕ → Bool) (known actual : ℕ → Option Figure) (last : List ℕ → ℕ) (fits : Fits apart table share pools place due known actual last)
    (pools' : List ℕ → Sharing) (q : List ℕ) (n : ℕ) (place' : ℕ → Option (List ℕ)) (moves : (m : ℕ) → place' m ≡ (if n == m then Some q else place m))
    (not_there : (a : List ℕ) → bytes_eq q a ≡ false → is_place (place n) a ≡ false)
    (due' : List ℕ → Bool) (still_due : (a : List ℕ) → due' a ≡ false → due a ≡ false) (quiet_here : due' q ≡ false → grants_of (pools' q) ≡ [])
    (apart' : ℕ → Bool) (less : (m : ℕ) → apart' m ≡ false → (n == m) ≡ false → apart m ≡ false)
    (known' : ℕ → Option Figure) (others : (m : ℕ) → (n == m) ≡ false → known' m ≡ known m) (is_actual : actual n ≡ known' n) where
  pub offered_fits : (free undecided : ℕ) → ((a : List ℕ) → pools' a ≡ with_pool pools q (λ pool. offered (without_producer pool n) n free undecided) a) → known' n ≡ Some (consumer q free undecided)
      → Fits apart' table share pools' place' due' known' actual last
  offered_fits free undecided changes is =
      let offer : Offer = record { free = free; undecided = undecided } in
      changed apart table share pools place due known actual last fits pools' q (λ pool. offered (without_producer pool n) n free undecided) changes n place' moves not_there due' still_due quiet_here apart' less known' others is_actual
      (ap (λ v. is_some (offer_at q v) || is_some (demand_at q v)) is ∙ ap (λ b. is_some (cond b (Some offer) None) || false) (equal_bytes q q refl))
      (λ m a. link_with (pools a).consumers n offer m ∙ ap (λ x. cond (n == m) x (link_at (pools a).consumers m)) (sym (ap (offer_at q) is ∙ ap (λ b. if b then Some offer else None) (equal_bytes q q refl))))
      (λ m a. link_without (pools a).producers n m ∙ ap (λ x. cond (n == m) x (link_at (pools a).producers m)) (sym (ap (demand_at q) is)))
      (λ a e. ap (offer_at a) is ∙ ap (λ b. if b then Some offer else None) e)
      (λ a e. ap (demand_at a) is)
      (λ a. refl) (λ a. refl)
      (λ a. with_ordered (pools a).consumers n offer)
      (λ a. without_ordered (pools a).producers n)

  -- a producer's figures
  pub wanted_fits : (unused owed held : ℕ) → ((a : List ℕ) → pools' a ≡ with_pool pools q (λ pool. wanted (without_consumer pool n) n unused owed held) a) → known' n ≡ Some (producer q unused owed held)
      → Fits apart' table share pools' place' due' known' actual last
  wanted_fits unused owed held changes is =
      let demand : Demand = record { unused = unused; due = owed; held = held } in
      changed apart table share pools place due known actual last fits pools' q (λ pool. wanted (without_consumer pool n) n unused owed held) changes n place' moves not_there due' still_due quiet_here apart' less known' others is_actual
      (ap (λ v. is_some (offer_at q v) || is_some (demand_at q v)) is ∙ ap (λ b. is_some (cond b (Some demand) None)) (equal_bytes q q refl))
      (λ m a. link_without (pools a).consumers n m ∙ ap (λ x. cond (n == m) x (link_at (pools a).consumers m)) (sym (ap (offer_at q) is)))
      (λ m a. link_with (pools a).producers n demand m ∙ ap (λ x. cond (n == m) x (link_at (pools a).producers m)) (sym (ap (demand_at q) is ∙ ap (λ b. if b then Some demand else None) (equal_bytes q q refl))))
      (λ a e. ap (offer_at a) is)
      (λ a e. ap (demand_at a) is ∙ ap (λ b. if b then Some demand else None) e)
      (λ a. refl) (λ a. refl)
      (λ a. without_ordered (pools a).consumers n)
      (λ a. with_ordered (pools a).producers n demand)

-- no links at all
pub none_fits : (apart : ℕ → Bool) (table share : List ℕ → Distribution) (pools : List ℕ → Sharing) (place : ℕ → Option (List ℕ)) (due : List ℕ → Bool) (known : ℕ → Option Figure)
    → ((a : List ℕ) → table a ≡ share a) → ((a : List ℕ) → pools a ≡ no_links (table a)) → ((n : ℕ) → place n ≡ None) → ((n : ℕ) → known n ≡ None) → Fits apart table share pools place due known known (λ a. 0)
unfolding IsStrictlySortedBy
none_fits apart table share pools place due known same new nowhere none = record {
  consumers = λ n a is. ap (λ p. link_at p.consumers n) (new a) ∙ sym (ap (offer_at a) (none n));
  producers = λ n a is. ap (λ p. link_at p.producers n) (new a) ∙ sym (ap (demand_at a) (none n));
  no_consumer = λ n a is. ap (λ p. link_at p.consumers n) (new a);
  no_producer = λ n a is. ap (λ p. link_at p.producers n) (new a);
  seated = λ n a there. absurd (true≢false (sym there ∙ ap (λ p. is_place p a) (nowhere n)));
  same = same;
  distribution = λ a. ap (λ p. p.distribution) (new a) ∙ same a;
  chosen = λ a. inl (ap (λ p. p.last) (new a));
  later = λ n a nobody comes. absurd (true≢false (sym comes ∙ ap (λ figure. offers figure a) (none n)));
  consumers_rise = λ a. subst (λ p. InOrder p.consumers) (sym (new a)) tt;
  producers_rise = λ a. subst (λ p. InOrder p.producers) (sym (new a)) tt;
  quiet = λ a is. ap grants_of (new a);
}

-- what isn't at an address is at another
pub elsewhere_is : (v : Option (List ℕ)) (q : List ℕ) → is_place v q ≡ false → (a : List ℕ) → is_place v a ≡ true → bytes_eq q a ≡ false
elsewhere_is None q e a at = absurd cc
elsewhere_is (Some p) q e a at = by_test (bytes_eq q a) (λ f. absurd (true≢false (sym (equal_bytes p q (same_bytes p a at ∙ sym (same_bytes q a f))) ∙ e))) (λ f. f)

-- where a link is, and where it comes to
pub stays_at : (place : ℕ → Option (List ℕ)) (n : ℕ) (q : List ℕ) → place n ≡ Some q → (m : ℕ) → place m ≡ (if n == m then Some q else place m)
stays_at place n q at m = by_test (n == m)
    (λ e. sym (ap place (eqb-true n m e)) ∙ at ∙ ap (λ b. if b then Some q else place m) (sym e))
    (λ e. ap (λ b. if b then Some q else place m) (sym e))

pub comes_to : (place : ℕ → Option (List ℕ)) (n : ℕ) (q : List ℕ) → place n ≡ Some q → (m : ℕ) → place m ≡ (if n == m then Some q else (if n == m then None else place m))
comes_to place n q at m = by_test (n == m)
    (λ e. sym (ap place (eqb-true n m e)) ∙ at ∙ ap (λ b. if b then Some q else (if b then None else place m)) (sym e))
    (λ e. ap (λ b. if b then Some q else (if b then None else place m)) (sym e))

pub without_it : (place : ℕ → Option (List ℕ)) (n : ℕ) (a : List ℕ) → is_place (if n == n then None else place n) a ≡ false
without_it place n a = ap (λ b. is_place (if b then None else place n) a) (eq-eqb n n refl)

-- a consumer offers nothing elsewhere, and a producer nothing anywhere
pub offers_elsewhere : (v : Option Figure) (q a : List ℕ) (free undecided : ℕ) → v ≡ Some (consumer q free undecided) → bytes_eq q a ≡ false → offers v a ≡ false
offers_elsewhere v q a free undecided is other =
    let offer : Offer = record { free = free; undecided = undecided } in
    ap (λ figure. offers figure a) is ∙ ap (λ b. is_some (if b then Some offer else None)) other

pub offers_none : (v : Option Figure) (a q : List ℕ) (unused owed held : ℕ) → v ≡ Some (producer q unused owed held) → offers v a ≡ false
offers_none v a q unused owed held is = ap (λ figure. offers figure a) is

-- how maps and sets by number describe a change
pub places_moved : {V : Type 0} (read : V → List ℕ) (f g : ℕ → Option V) (n : ℕ) (x : Option V) → ((q : ℕ) → g q ≡ (if n == q then x else f q))
    → (m : ℕ) → option_map read (g m) ≡ (if n == m then option_map read x else option_map read (f m))
places_moved read f g n x moves m = ap (option_map read) (moves m) ∙ inside (n == m)
  where
    inside : (b : Bool) → option_map read (if b then x else f m) ≡ (if b then option_map read x else option_map read (f m))
    inside true = refl
    inside false = refl

pub untouched : (f g : ℕ → Bool) (n : ℕ) → ((q : ℕ) → g q ≡ (not (n == q) && f q)) → (m : ℕ) → g m ≡ false → (n == m) ≡ false → (n == m || f m) ≡ false
untouched f g n less m is other = ap (λ b. b || f m) other ∙ sym (less m ∙ ap (λ b. not b && f m) other) ∙ is

-- all but one link
pub but_one : (n : ℕ) (f : ℕ → Bool) (known : ℕ → Option Figure) (m : ℕ) → (n == m || f m) ≡ false → (f m ≡ false) × (known m ≡ known m)
but_one n f known m is = (right (n == m) (f m) is, refl)
  where
    right : (b c : Bool) → (b || c) ≡ false → c ≡ false
    right true c h = absurd cc
    right false c h = h

pub itself : (n : ℕ) (b : Bool) → (n == n || b) ≡ true
itself n b = ap (λ c. c || b) (eq-eqb n n refl)

-- a link that is not touched now was not touched before, and was granted nothing
pub more_apart : {X : Type 0} (new old : Bool) (x : Option X) → new ≡ (old || is_some x) → new ≡ false → (old ≡ false) × (x ≡ None)
more_apart new true x is none = absurd (true≢false (sym is ∙ none))
more_apart new false None is none = (refl, refl)
more_apart new false (Some x) is none = absurd (true≢false (sym is ∙ none))
