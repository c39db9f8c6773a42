-- Which rows changes would decide: only those of deliveries that one of them may decide, by a copy without the message.
use Rattle.std.proofs.Common.{◌≡◌, ◌∙◌, ◌≤◌, ◌<◌, ◌+◌, ℕ, zero, suc, Bool, true, false, refl, sym, ap, arith, List, [], ◌∷◌, ◌++◌, append_assoc, append-nil, Option, Some, None}
use Rattle.std.specs.Prelude.{◌==◌, ◌&&◌, ◌||◌, not, if◌then◌else◌, is_none}
use Rattle.std.specs.List.{list_any, flat_map, AllByRecursion}
use Rattle.std.specs.List.Sorted.{IsStrictlySortedBy}
use Rattle.std.specs.Ordering.{nat_cmp}
use Rattle.std.specs.declared.cmp.Ordering.TheVariants.{Less}
use Rattle.std.specs.BTreeMap.{is_at}
use Rattle.std.specs.BTreeSet.{BTreeSet, contains}
use Rattle.state_collections.specs.NumberMap.{at_number}
use Rattle.std.proofs.lemmas.Bool.{eqb-true}
use Rattle.std.proofs.lemmas.Bool.Decides.{nat_tests}
use Rattle.amqp_model.specs.declared.state.DeliveryState.{DeliveryState}
use Rattle.amqp_session.specs.Ranges.{has}
use Rattle.book_model.specs.declared.row.RowNumber.{RowNumber}
use Rattle.router_trace.specs.declared.binding.DeliveryName.{DeliveryName}
use Rattle.router_trace.specs.declared.binding.DeliveryName.TheVariants.{Row, Counter}
use Rattle.router_trace.specs.declared.handle.Attachment.{Attachment}
use Rattle.router_trace.specs.Trace.{Trace}
use Rattle.router_trace.specs.Deliveries.{Delivery, source, is_undecided, has_row, stands_on, bindings, delivery, after_ends, after_origin, is_gone_with, ended, untold, unsettled, sender, forsaken}
use Rattle.state_deliveries.specs.declared.change.Change.{Change}
use Rattle.state_deliveries.specs.declared.change.Change.TheVariants as change
use Rattle.state_deliveries.specs.Indexing.{Keys, standing, concerns, durable_id}
use Rattle.state_deliveries.specs.declared.store.Store.{Store}
use Rattle.state_deliveries.specs.Deciding.{gathered_below, changed_by, bare, row_of, open_row, outcome_of_row, outcome_of, decision_of, decided_rows, decides, decide}
use Rattle.state_deliveries.specs.Fits.{StoreFit}
use Rattle.state_deliveries.specs.Placing.{own_spot, is_id_there}
use Rattle.state_deliveries.specs.Stepping.{is_gone, comes_with_id, is_in, is_decided_by, changed}
use Rattle.state_deliveries.proofs.Keys.{changes_nothing}
use Rattle.state_deliveries.proofs.Numbers.{none_beyond}

-- one turn of a loop that gathers, and its end
pub turn : {A : Type 0} (old here new all : List A) (f : ℕ → List A) (ks rest : List ℕ) (k : ℕ)
    → new ≡ old ++ here → here ≡ f k → ks ≡ k ∷ rest → old ++ flat_map f ks ≡ all → new ++ flat_map f rest ≡ all
turn old here new all f ks rest k more is whole so_far =
    ap (λ xs. xs ++ flat_map f rest) more ∙ append_assoc old here (flat_map f rest) ∙ ap (λ xs. old ++ (xs ++ flat_map f rest)) is
    ∙ ap (λ xs. old ++ flat_map f xs) (sym whole) ∙ so_far

pub done : {A : Type 0} (old all : List A) (f : ℕ → List A) (ks : List ℕ) → ks ≡ [] → old ++ flat_map f ks ≡ all → old ≡ all
done old all f ks is so_far = sym (append-nil old) ∙ ap (λ xs. old ++ flat_map f xs) (sym is) ∙ so_far

-- What a rising list of numbers gives is what all numbers below a bound give, where the others give nothing.
gathered_from : {A : Type 0} → ℕ → ℕ → (ℕ → List A) → List A
gathered_from low zero f = []
gathered_from low (suc k) f = f low ++ gathered_from (low + 1) k f

one_more : {A : Type 0} (low : ℕ) (f : ℕ → List A) → gathered_below (low + 1) f ≡ gathered_below low f ++ f low
unfolding gathered_below
one_more low f = ap (λ n. gathered_below n f) (is_suc low)
  where
    is_suc : (n : ℕ) → n + 1 ≡ suc n
    is_suc n = omega arith

in_two : {A : Type 0} (k low : ℕ) (f : ℕ → List A) → gathered_below (low + k) f ≡ gathered_below low f ++ gathered_from low k f
unfolding gathered_from
in_two zero low f = ap (λ n. gathered_below n f) (none_more low) ∙ sym (append-nil (gathered_below low f))
  where
    none_more : (n : ℕ) → n + 0 ≡ n
    none_more n = omega arith
in_two (suc k) low f =
    ap (λ n. gathered_below n f) (moved low k) ∙ in_two k (low + 1) f ∙ ap (λ xs. xs ++ gathered_from (low + 1) k f) (one_more low f)
    ∙ append_assoc (gathered_below low f) (f low) (gathered_from (low + 1) k f)
  where
    moved : (n k : ℕ) → n + suc k ≡ (n + 1) + k
    moved n k = omega arith

give_nothing : {A : Type 0} (f : ℕ → List A) (low : ℕ) (ns : List ℕ) → AllByRecursion (λ n. low ≤ n) ns → ((n : ℕ) → low ≤ n → f n ≡ []) → flat_map f ns ≡ []
give_nothing f low [] above none = refl
give_nothing f low (n ∷ ns) above none = ap (λ xs. xs ++ flat_map f ns) (none n above.0) ∙ give_nothing f low ns above.1 none

apart : (n x : ℕ) → n < x → (n == x) ≡ false
apart n x l = grind (arith, nat_tests, l)

after_apart : (n x : ℕ) → x < n → (n == x) ≡ false
after_apart n x l = grind (arith, nat_tests, l)

lesser : (a b : ℕ) → nat_cmp a b ≡ Less → a < b
lesser a b h = grind (arith, nat_tests, h)

above_all : (low x : ℕ) (ns : List ℕ) → low ≤ x → AllByRecursion (λ y. nat_cmp x y ≡ Less) ns → AllByRecursion (λ n. low + 1 ≤ n) ns
above_all low x [] l rise = tt
above_all low x (y ∷ ns) l rise =
    let more : x < y = lesser x y rise.0 in
    (omega (arith, l, more), above_all low x ns l rise.1)

not_among : (low : ℕ) (ns : List ℕ) → AllByRecursion (λ n. low + 1 ≤ n) ns → has low ns ≡ false
not_among low [] above = refl
not_among low (n ∷ ns) above = ap (λ b. b || has low ns) (apart low n (omega (arith, above.0))) ∙ not_among low ns above.1

beyond : (low x : ℕ) → low ≤ x → (x == low) ≡ false → low + 1 ≤ x
beyond low x l e = grind (arith, nat_tests, l, e)

walked : {A : Type 0} (k low : ℕ) (ns : List ℕ) (f : ℕ → List A) → IsStrictlySortedBy nat_cmp ns → AllByRecursion (λ n. low ≤ n) ns
    → ((n : ℕ) → low ≤ n → has n ns ≡ false → f n ≡ []) → ((n : ℕ) → low + k ≤ n → f n ≡ []) → flat_map f ns ≡ gathered_from low k f
unfolding gathered_from IsStrictlySortedBy
walked zero low ns f rise above others none = give_nothing f low ns above (λ n l. none n (omega (arith, l)))
walked (suc k) low [] f rise above others none =
    walked k (low + 1) [] f tt tt (λ n l e. others n (omega (arith, l)) refl) (λ n l. none n (omega (arith, l)))
    ∙ ap (λ xs. xs ++ gathered_from (low + 1) k f) (sym (others low (omega arith) refl))
walked (suc k) low (x ∷ ns) f rise above others none =
    by_test (x == low) refl (λ ms r a o. walked k (low + 1) ms f r a o (λ n l. none n (omega (arith, l))))
  where
    by_test : (b : Bool) → (x == low) ≡ b
        → ((ms : List ℕ) → IsStrictlySortedBy nat_cmp ms → AllByRecursion (λ n. low + 1 ≤ n) ms → ((n : ℕ) → low + 1 ≤ n → has n ms ≡ false → f n ≡ [])
        → flat_map f ms ≡ gathered_from (low + 1) k f)
        → f x ++ flat_map f ns ≡ f low ++ gathered_from (low + 1) k f
    by_test true e rest =
        let is : x ≡ low = eqb-true x low e in
        ap (λ n. f n ++ flat_map f ns) is
        ∙ ap (λ xs. f low ++ xs)
        (rest ns rise.1 (above_all low x ns above.0 rise.0)
        (λ n l h. others n (omega (arith, l)) (ap (λ b. b || has n ns) (after_apart n x (omega (arith, l, is))) ∙ h)))
    by_test false e rest =
        let all : AllByRecursion (λ n. low + 1 ≤ n) (x ∷ ns) = (beyond low x above.0 e, above_all low x ns above.0 rise.0) in
        rest (x ∷ ns) rise all (λ n l h. others n (omega (arith, l)) h)
        ∙ ap (λ xs. xs ++ gathered_from (low + 1) k f) (sym (others low (omega arith) (not_among low (x ∷ ns) all)))

gathered : {A : Type 0} (bound : ℕ) (f g : ℕ → List A) (ns : List ℕ) → IsStrictlySortedBy nat_cmp ns → ((n : ℕ) → f n ≡ g n)
    → ((n : ℕ) → has n ns ≡ false → g n ≡ []) → ((n : ℕ) → bound ≤ n → g n ≡ []) → flat_map f ns ≡ gathered_below bound g
unfolding gathered_below
gathered bound f g ns rise same others none =
    ap (λ h. flat_map h ns) (λ i n. same n i)
    ∙ walked bound 0 ns g rise (from_zero ns) (λ n l e. others n e) (λ n l. none n (omega (arith, l)))
    ∙ sym (in_two bound 0 g)
    ∙ ap (λ n. gathered_below n g) (as_it_is bound)
  where
    from_zero : (ns : List ℕ) → AllByRecursion (λ n. 0 ≤ n) ns
    from_zero [] = tt
    from_zero (n ∷ ns) = (omega arith, from_zero ns)

    as_it_is : (n : ℕ) → 0 + n ≡ n
    as_it_is n = omega arith

-- a set has the numbers of its keys
same_test : (n x : ℕ) → is_at (nat_cmp n) x ≡ (n == x)
same_test n x = grind (arith, nat_tests)

has_keys : (n : ℕ) (xs : List ℕ) → list_any (is_at (nat_cmp n)) xs ≡ has n xs
has_keys n [] = refl
has_keys n (x ∷ xs) = ap (λ b. b || list_any (is_at (nat_cmp n)) xs) (same_test n x) ∙ ap (λ b. (n == x) || b) (has_keys n xs)

-- where a number that concerns is in a set, one that isn't in it doesn't concern
none_there : (ns : BTreeSet ℕ) (n : ℕ) (b : Bool) → (b ≡ true → contains nat_cmp ns n ≡ true) → has n ns.keys ≡ false → b ≡ false
none_there ns n true there e =
    let wrong : true ≡ false = sym (there refl) ∙ has_keys n ns.keys ∙ e in
    absurd cc
none_there ns n false there e = refl

above_bindings : (k n : ℕ) → k + 1 ≤ n → k < n
above_bindings k n l = omega (arith, l)

-- a delivery that no change concerns isn't changed
or_first : (a b : Bool) → (a || b) ≡ false → a ≡ false
or_first true b e = e
or_first false b e = refl

or_second : (a b : Bool) → (a || b) ≡ false → b ≡ false
or_second true b e = absurd cc
or_second false b e = e

-- a change that isn't a consumer's disposition may decide those that it concerns
pub decides_others : (x : Change) (k : Keys) → ((c o first last : ℕ) (made : DeliveryState) → x ≡ change.Decided c o first last made → ⊥) → decides x k ≡ concerns x k
decides_others (change.Decided c o first last made) k other = absurd (other c o first last made refl)
decides_others (change.Ends g closed) k other = refl
decides_others (change.Untold c o first last) k other = refl
decides_others (change.Told c o first last) k other = refl

and_none : (b : Bool) → (b && false) ≡ false
and_none true = refl
and_none false = refl

-- and an undecided delivery with a row is decided only by its id
by_own_id : (a : Attachment) (c o first last : ℕ) (id : Option ℕ) → is_id_there c o first last (own_spot a id) ≡ false → (stands_on a c o && is_in id first last) ≡ false
by_own_id a c o first last None e = and_none (stands_on a c o)
by_own_id a c o first last (Some id) e = e

not_decided : (d : Delivery) (c o first last : ℕ) → is_undecided d ≡ true → has_row d.name ≡ true → is_id_there c o first last (own_spot d.link (durable_id d)) ≡ false → is_decided_by d c o first last ≡ false
not_decided d c o first last undecided row e =
    let there : is_id_there c o first last (own_spot d.link d.id) ≡ false
    = sym (ap (λ b. is_id_there c o first last (own_spot d.link (if b && has_row d.name then d.id else None))) undecided
    ∙ ap (λ b. is_id_there c o first last (own_spot d.link (if b then d.id else None))) row) ∙ e
    in ap (λ b. is_undecided d && b) (by_own_id d.link c o first last d.id there) ∙ and_none (is_undecided d)

stays_by : (x : Change) (d : Delivery) → is_undecided d ≡ true → has_row d.name ≡ true → decides x (standing (Some d)) ≡ false → changed x d ≡ d
stays_by (change.Ends g closed) d undecided row e = changes_nothing (change.Ends g closed) d refl e
stays_by (change.Untold c o first last) d undecided row e = changes_nothing (change.Untold c o first last) d refl e
stays_by (change.Told c o first last) d undecided row e = changes_nothing (change.Told c o first last) d refl e
stays_by (change.Decided c o first last made) d undecided row e = ap (λ b. if b then record d { outcome = Some made } else d) (not_decided d c o first last undecided row e)

stays : (xs : List Change) (d : Delivery) → is_undecided d ≡ true → has_row d.name ≡ true → decide xs (standing (Some d)) ≡ false → changed_by xs d ≡ d
stays [] d undecided row e = refl
stays (x ∷ xs) d undecided row e =
    ap (changed_by xs) (stays_by x d undecided row (or_first (decides x (standing (Some d))) (decide xs (standing (Some d))) e))
    ∙ stays xs d undecided row (or_second (decides x (standing (Some d))) (decide xs (standing (Some d))) e)

no_outcome : (d : Delivery) → is_undecided d ≡ true → d.outcome ≡ None
no_outcome d undecided = none_of d.outcome undecided
  where
    none_of : (o : Option DeliveryState) → (is_none o && not (d.presettled || d.suspended)) ≡ true → o ≡ None
    none_of None e = refl
    none_of (Some s) e = absurd cc

no_decision : (xs : List Change) (v : Option Delivery) → decide xs (standing v) ≡ false → decision_of xs v ≡ []
no_decision xs None e = refl
no_decision xs (Some d) e = by_test (is_undecided d) refl
  where
    by_name : (n : DeliveryName) → d.name ≡ n → is_undecided d ≡ true → outcome_of (row_of n) (changed_by xs d).outcome ≡ []
    by_name (Counter k) is undecided = refl
    by_name (Row r) is undecided = ap (λ (w : Delivery). outcome_of (Some r) w.outcome) (stays xs d undecided (ap has_row is) e) ∙ ap (outcome_of (Some r)) (no_outcome d undecided)

    by_test : (b : Bool) → is_undecided d ≡ b → outcome_of (if b then row_of d.name else None) (changed_by xs d).outcome ≡ []
    by_test true undecided = by_name d.name refl undecided
    by_test false undecided = refl

-- so the decisions of the deliveries that changes may decide are all of them
pub decided_is : (s : Store) (t : Trace) (xs : List Change) (ns : BTreeSet ℕ) → StoreFit s t → IsStrictlySortedBy nat_cmp ns.keys
    → ((n : ℕ) → decide xs (standing (at_number s.deliveries n)) ≡ true → contains nat_cmp ns n ≡ true)
    → flat_map (λ n. decision_of xs (at_number s.deliveries n)) ns.keys ≡ decided_rows t xs
decided_is s t xs ns fit rise there =
    gathered (bindings t + 1) (λ n. decision_of xs (at_number s.deliveries n)) (λ n. decision_of xs (delivery t n)) ns.keys rise (λ n. ap (decision_of xs) (fit.deliveries n))
    (λ n e.
    ap (decision_of xs) (sym (fit.deliveries n))
    ∙ no_decision xs (at_number s.deliveries n) (none_there ns n (decide xs (standing (at_number s.deliveries n))) (there n) e))
    (λ n l. ap (decision_of xs) (none_beyond t n (above_bindings (bindings t) n l)))

-- The message makes no difference.
abbrev light : Delivery → Delivery
light d = record d { payload = [] }

light_ended : (closed : Bool) (d : Delivery) → ended closed (light d) ≡ light (ended closed d)
light_ended closed d = by_tests d.suspended (d.lasting && not closed) refl refl
  where
    by_tests : (s l : Bool) → d.suspended ≡ s → (d.lasting && not closed) ≡ l → ended closed (light d) ≡ light (ended closed d)
    by_tests true l e f = rw e refl
    by_tests false true e f = rw (e, f) refl
    by_tests false false e f = rw (e, f) refl

light_origin : (gone : Attachment → Bool) (d : Delivery) → after_origin gone (light d) ≡ light (after_origin gone d)
light_origin gone d = by_test (is_gone_with gone (sender d))
  where
    by_test : (b : Bool) → (if b then forsaken (light d) else light d) ≡ light (if b then forsaken d else d)
    by_test true = refl
    by_test false = refl

light_ends : (closed : Bool) (gone : Attachment → Bool) (d : Delivery) → after_ends closed gone (light d) ≡ light (after_ends closed gone d)
light_ends closed gone d = by_test (gone d.link)
  where
    by_test : (b : Bool) → after_origin gone (if b then ended closed (light d) else light d) ≡ light (after_origin gone (if b then ended closed d else d))
    by_test true = ap (after_origin gone) (light_ended closed d) ∙ light_origin gone (ended closed d)
    by_test false = light_origin gone d

light_changed : (x : Change) (d : Delivery) → changed x (light d) ≡ light (changed x d)
light_changed (change.Ends g closed) d = light_ends closed (is_gone g) d
light_changed (change.Untold c o first last) d = by_test (comes_with_id (source d) c o first last)
  where
    by_test : (b : Bool) → (if b then untold (light d) else light d) ≡ light (if b then untold d else d)
    by_test true = refl
    by_test false = refl
light_changed (change.Told c o first last) d = by_test (comes_with_id (source d) c o first last)
  where
    by_test : (b : Bool) → (if b then unsettled (light d) else light d) ≡ light (if b then unsettled d else d)
    by_test true = refl
    by_test false = refl
light_changed (change.Decided c o first last made) d = by_test (is_decided_by d c o first last)
  where
    by_test : (b : Bool) → (if b then record (light d) { outcome = Some made } else light d) ≡ light (if b then record d { outcome = Some made } else d)
    by_test true = refl
    by_test false = refl

light_by : (xs : List Change) (d : Delivery) → changed_by xs (light d) ≡ light (changed_by xs d)
light_by [] d = refl
light_by (x ∷ xs) d = ap (changed_by xs) (light_changed x d) ∙ light_by xs (changed x d)

bare_outcome : (xs : List Change) (d : Delivery) → is_undecided d ≡ true → (changed_by xs (bare d)).outcome ≡ (changed_by xs d).outcome
bare_outcome xs d u =
    ap (λ (o : Option DeliveryState). (changed_by xs (record d { payload = []; outcome = o })).outcome) (sym (no_outcome d u))
    ∙ ap (λ (w : Delivery). w.outcome) (light_by xs d)

-- what is decided of a delivery with a row
is_open : (d : Delivery) (r : RowNumber) → open_row d ≡ Some r → is_undecided d ≡ true
is_open d r is = by_test (is_undecided d) refl is
  where
    by_test : (b : Bool) → is_undecided d ≡ b → (if b then row_of d.name else None) ≡ Some r → is_undecided d ≡ true
    by_test true e f = e
    by_test false e f = absurd cc

pub with_row : (xs : List Change) (d : Delivery) (r : RowNumber) (made : Option DeliveryState) → open_row d ≡ Some r
    → made ≡ (changed_by xs (bare d)).outcome → outcome_of_row r made ≡ decision_of xs (Some d)
with_row xs d r made is same = ap (outcome_of_row r) (same ∙ bare_outcome xs d (is_open d r is)) ∙ sym (ap (λ q. outcome_of q (changed_by xs d).outcome) is)
