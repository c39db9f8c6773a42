-- The address whose grants come first, and what the newest link is owed.
use Rattle.std.proofs.Common.{◌≡◌, ◌∙◌, ◌+◌, ◌<◌, ℕ, zero, suc, Bool, true, false, true≢false, refl, sym, ap, subst, Option, Some, None, List, [], ◌∷◌, ◌++◌, length, arith}
use Rattle.std.specs.Prelude.{◌==◌, is_some, nat_lt, if◌then◌else◌, option_map, unwrap_or, IfNone, IfSome}
use Rattle.std.specs.List.{AllByRecursion}
use Rattle.std.specs.Str.{bytes_eq}
use Rattle.std.specs.Map.{keys_of}
use Rattle.std.specs.Cmp.Lexicographic.{slice_cmp}
use Rattle.std.specs.Ordering.{is_eq, nat_cmp, ordering_reverse}
use Rattle.std.specs.declared.cmp.Ordering.{Ordering}
use Rattle.std.specs.declared.cmp.Ordering.TheVariants.{Less, Equal, Greater}
use Rattle.std.proofs.lemmas.Bool.{eqb-true}
use Rattle.std.proofs.lemmas.Bool.Decides.{nat_tests}
use Rattle.std.proofs.lemmas.Cmp.{nat_list_cmp_total}
use Rattle.std.proofs.lemmas.Map.Lookups.{exact_bytes}
use Rattle.std.proofs.lemmas.Map.Text.{is_eq-slice_cmp}
use Rattle.route_credit.specs.Granting.{all_granted, gain, gains, grants_of}
use Rattle.route_credit.specs.Pool.{by_id}
use Rattle.route_credit.specs.declared.ids.ProducerId.{ProducerId}
use Rattle.router_trace.specs.Trace.{Trace}
use Rattle.router_trace.specs.Links as view
use Rattle.router_trace.specs.Links.{Happened, sends, receives, attachments}
use Rattle.state_links.specs.declared.link.Link.{Link}
use Rattle.state_links.specs.Ends.{link_of}
use Rattle.state_links.specs.Looking.{numbered_link}
use Rattle.state_pools.specs.Sharing.{Figure, consumer, producer, demand_at, entry, listed}
use Rattle.state_pools.proofs.AtAddress.{equal_bytes, same_bytes, turned}
use Rattle.state_messages.specs.declared.grant.LinkGrant.{LinkGrant}
use Rattle.state_messages.specs.Figures.{figure, figure_by}
use Rattle.state_messages.specs.Messages.{grants, grants_of_address, grants_on, if_some, is_owed_at, lent_first, lower, lower_of, lowest_below, owed_at, pool_of, wants, with_newest}
use Rattle.state_messages.specs.Turns.{first_link, in_turn, order_of, place_in, whose_turn}
use Rattle.state_messages.proofs.Seen.{IsThere, by_test, figure_here, figure_nowhere}

-- an address isn't below another
abbrev IsNotBelow : List ℕ → Option (List ℕ) → Type 0
IsNotBelow q None = Unit {0}
IsNotBelow q (Some a) = slice_cmp nat_cmp a q ≡ Less → ⊥

lower_keeps : (q : List ℕ) (v w : Option (List ℕ)) → IsNotBelow q v → IsNotBelow q w → IsNotBelow q (lower v w)
lower_keeps q None w e f = f
lower_keeps q (Some a) None e f = e
lower_keeps q (Some a) (Some b) e f = by_order (slice_cmp nat_cmp a b)
  where
    by_order : (o : Ordering) → IsNotBelow q (Some (lower_of o a b))
    by_order Less = e
    by_order Equal = f
    by_order Greater = f

all_keep : (n : ℕ) (f : ℕ → Option (List ℕ)) (q : List ℕ) → ((m : ℕ) → IsNotBelow q (f m)) → IsNotBelow q (lowest_below n f)
unfolding lowest_below
all_keep zero f q none = tt
all_keep (suc n) f q none = lower_keeps q (lowest_below n f) (f n) (all_keep n f q none) (none n)

-- the lower of two, of which one is this and the other isn't below it
second : (q : List ℕ) (v : Option (List ℕ)) → IsNotBelow q v → lower v (Some q) ≡ Some q
second q None e = refl
second q (Some a) e = by_order (slice_cmp nat_cmp a q) refl
  where
    by_order : (o : Ordering) → slice_cmp nat_cmp a q ≡ o → Some (lower_of o a q) ≡ Some q
    by_order Less is = absurd (e is)
    by_order Equal is = refl
    by_order Greater is = refl

first : (q : List ℕ) (w : Option (List ℕ)) → IsNotBelow q w → lower (Some q) w ≡ Some q
first q None e = refl
first q (Some b) e = by_order (slice_cmp nat_cmp q b) refl
  where
    by_order : (o : Ordering) → slice_cmp nat_cmp q b ≡ o → Some (lower_of o q b) ≡ Some q
    by_order Less is = refl
    by_order Equal is = ap Some (sym (exact_bytes q b is))
    by_order Greater is = absurd (e (nat_list_cmp_total.antisymm b q ∙ ap ordering_reverse is))

pub lowest_is : (n : ℕ) (f : ℕ → Option (List ℕ)) (q : List ℕ) (m : ℕ) → ((k : ℕ) → IsNotBelow q (f k)) → m < n → f m ≡ Some q → lowest_below n f ≡ Some q
unfolding lowest_below
lowest_is zero f q m none below is = absurd (omega (arith, below))
lowest_is (suc n) f q m none below is = by_test (m == n)
    (λ e. ap (λ w. lower (lowest_below n f) w) (ap f (sym (eqb-true m n e)) ∙ is) ∙ second q (lowest_below n f) (all_keep n f q none))
    (λ e. ap (λ v. lower v (f n)) (lowest_is n f q m none (less m n below e) is) ∙ first q (f n) (none n))
  where
    less : (m n : ℕ) → m < suc n → (m == n) ≡ false → m < n
    less m n l e = grind (arith, nat_tests)

-- if none has an address, there is no lowest
pub lowest_none : (n : ℕ) (f : ℕ → Option (List ℕ)) → ((k : ℕ) → f k ≡ None) → lowest_below n f ≡ None
unfolding lowest_below
lowest_none zero f none = refl
lowest_none (suc n) f none = ap (λ v. lower v (f n)) (lowest_none n f none) ∙ none n

-- a nonempty list of numbers has one
pub record Has {X : Type 0} (f : ℕ → Option X) (n : ℕ) : Type 0 where
  pub number : ℕ
  pub below : number < n + 1
  pub has : is_some (f number) ≡ true

empty_end : {X : Type 0} (xs : List (ℕ × X)) → xs ++ [] ≡ xs
empty_end [] = refl
empty_end (x ∷ xs) = ap (λ ys. x ∷ ys) (empty_end xs)

has_more : {X : Type 0} (f : ℕ → Option X) (n : ℕ) → Has f n → Has f (suc n)
has_more f n there = record { number = there.number; below = (let l : there.number < n + 1 = there.below in let g : there.number < suc n + 1 = omega (arith, l) in g); has = there.has }

listed_by : {X : Type 0} (f : ℕ → Option X) (n : ℕ) (v : Option X) → f (suc n) ≡ v → (0 < length (listed f n) → Has f n) → 0 < length (listed f n ++ entry (suc n) v) → Has f (suc n)
listed_by f n None is rest some = has_more f n (rest (subst (λ xs. 0 < length xs) (empty_end (listed f n)) some))
listed_by f n (Some x) is rest some = record { number = suc n; below = omega arith; has = ap is_some is }

listed_has : {X : Type 0} (f : ℕ → Option X) (n : ℕ) → 0 < length (listed f n) → Has f n
listed_has f zero some = absurd (omega (arith, some))
listed_has f (suc n) some = listed_by f n (f (suc n)) refl (listed_has f n) some

-- if something is granted, there is a producer
gains_some : {X : Type 0} (amount : ℕ → ℕ) (links : List (ℕ × X)) → 0 < length (gains amount (keys_of links)) → 0 < length links
gains_some amount [] some = absurd (omega (arith, some))
gains_some amount (l ∷ ls) some = let g : 0 < suc (length ls) = omega arith in g

wants_some : (t : Trace) (q : List ℕ) (sums : List (ℕ × ℕ)) → 0 < length sums → if_some sums q ≡ Some q
wants_some t q [] some = absurd (omega (arith, some))
wants_some t q (s ∷ ss) some = refl

wants_is : (t : Trace) (q : List ℕ) (v : Option Figure) → is_some (demand_at q v) ≡ true → 0 < length (grants_of (pool_of t q)) → wants t v ≡ Some q
wants_is t q None e some = absurd cc
wants_is t q (Some (consumer at free pending)) e some = absurd cc
wants_is t q (Some (producer at unused due kept)) e some = by_test (bytes_eq at q)
    (λ is. let same : at ≡ q = same_bytes at q is in ap (λ a. if_some (grants_of (pool_of t a)) a) same ∙ wants_some t q (grants_of (pool_of t q)) some)
    (λ is. absurd (true≢false (sym (rw is at e))))

wants_not : (t : Trace) (q : List ℕ) (v : Option Figure) → ((a : List ℕ) → slice_cmp nat_cmp a q ≡ Less → grants_of (pool_of t a) ≡ []) → IsNotBelow q (wants t v)
wants_not t q None none = tt
wants_not t q (Some (consumer at free pending)) none = tt
wants_not t q (Some (producer at unused due kept)) none = by_sums (grants_of (pool_of t at)) refl
  where
    by_sums : (sums : List (ℕ × ℕ)) → grants_of (pool_of t at) ≡ sums → IsNotBelow q (if_some sums at)
    by_sums [] is = tt
    by_sums (s ∷ ss) is = λ less. filled s ss (sym is ∙ none at less)
      where
        filled : (s : ℕ × ℕ) (ss : List (ℕ × ℕ)) → s ∷ ss ≡ [] → ⊥
        filled s ss e = absurd cc

wants_none : (t : Trace) (v : Option Figure) → ((a : List ℕ) → grants_of (pool_of t a) ≡ []) → wants t v ≡ None
wants_none t None none = refl
wants_none t (Some (consumer at free pending)) none = refl
wants_none t (Some (producer at unused due kept)) none = ap (λ sums. if_some sums at) (none at)

-- the first address that has grants
lent_none : (t : Trace) → ((a : List ℕ) → grants_of (pool_of t a) ≡ []) → lent_first t ≡ None
unfolding lent_first
lent_none t none = lowest_none (attachments t + 1) (λ n. wants t (figure t n)) (λ k. wants_none t (figure t k) none)

lent_is : (t : Trace) (q : List ℕ) → 0 < length (grants_of (pool_of t q))
    → ((a : List ℕ) → slice_cmp nat_cmp a q ≡ Less → grants_of (pool_of t a) ≡ []) → lent_first t ≡ Some q
unfolding lent_first
lent_is t q filled none =
    let one : Has (λ n. demand_at q (figure t n)) (attachments t) = listed_has (λ n. demand_at q (figure t n)) (attachments t)
    (gains_some (gain (pool_of t q) (all_granted (pool_of t q))) (pool_of t q).producers filled) in
    lowest_is (attachments t + 1) (λ n. wants t (figure t n)) q one.number (λ k. wants_not t q (figure t k) none) one.below
    (wants_is t q (figure t one.number) one.has filled)

-- each number of a list passes a test, if each that has something does
abbrev pub Pass : {X : Type 0} → (ℕ → Bool) → List (ℕ × X) → Type 0
Pass p links = AllByRecursion (λ link. p link.0 ≡ true) links

pass_end : {X : Type 0} (p : ℕ → Bool) (n : ℕ) (v : Option X) (links : List (ℕ × X)) → (is_some v ≡ true → p n ≡ true) → Pass p links → Pass p (links ++ entry n v)
pass_end p n None [] one all = tt
pass_end p n (Some x) [] one all = (one refl, tt)
pass_end p n v (l ∷ ls) one all = (all.0, pass_end p n v ls one all.1)

pub listed_pass : {X : Type 0} (f : ℕ → Option X) (n : ℕ) → Pass (λ k. is_some (f k)) (listed f n)
listed_pass f zero = tt
listed_pass f (suc n) = pass_end (λ k. is_some (f k)) (suc n) (f (suc n)) (listed f n) (λ e. e) (listed_pass f n)

first_passes : {X : Type 0} (p : ℕ → Bool) (amount : ℕ → ℕ) (links : List (ℕ × X)) (s : ℕ × ℕ) (ss : List (ℕ × ℕ)) → gains amount (keys_of links) ≡ s ∷ ss → Pass p links → p s.0 ≡ true
first_passes p amount [] s ss e all = absurd cc
first_passes p amount (l ∷ ls) s ss e all = by_amount (nat_lt 0 (amount l.0)) e (λ rest. first_passes p amount ls s ss rest all.1)
  where
    head : ℕ × ℕ → List (ℕ × ℕ) → ℕ
    head d [] = d.0
    head d (x ∷ xs) = x.0

    by_amount : (b : Bool) → (if b then (l.0, amount l.0) ∷ gains amount (keys_of ls) else gains amount (keys_of ls)) ≡ s ∷ ss
        → (gains amount (keys_of ls) ≡ s ∷ ss → p s.0 ≡ true) → p s.0 ≡ true
    by_amount true is rest = ap p (sym (ap (head s) is)) ∙ all.0
    by_amount false is rest = rest is

-- a link that wants something from an address is at it
wanting : (t : Trace) (q : List ℕ) (l : view.Link) (h : Happened) → is_some (demand_at q (Some (figure_by t l h))) ≡ true → l.address ≡ q
wanting t q l (sends list) e = absurd cc
wanting t q l (receives list) e = by_test (bytes_eq l.address q) (λ is. same_bytes l.address q is) (λ is. absurd (true≢false (sym (rw is at e))))

wants_at : (t : Trace) (n : ℕ) (q : List ℕ) → is_some (demand_at q (figure t n)) ≡ true → place_in (numbered_link t n) ≡ Some q
wants_at t n q e = by_link (numbered_link t n) refl
  where
    no : false ≡ true → ⊥
    no f = absurd cc

    by_link : (v : Option view.Link) → numbered_link t n ≡ v → place_in v ≡ Some q
    by_link None is = absurd (no (sym (ap (λ v. is_some (demand_at q v)) (figure_nowhere t n (ap (option_map link_of) (sym is)))) ∙ e))
    by_link (Some l) is =
        let there : IsThere t n (link_of l) = figure_here t n (link_of l) (ap (option_map link_of) (sym is)) in
        ap Some (ap (λ (k : Link). k.address) there.is ∙ wanting t q there.link there.link.happened (sym (ap (λ v. is_some (demand_at q v)) there.figure) ∙ e))

first_place : (t : Trace) (q : List ℕ) (sums : List (ℕ × ℕ)) → sums ≡ grants_of (pool_of t q) → 0 < length sums → place_in (first_link t sums) ≡ Some q
first_place t q [] is some = absurd (omega (arith, some))
first_place t q (s ∷ ss) is some =
    wants_at t s.0 q
    (first_passes (λ k. is_some (demand_at q (figure t k))) (gain (pool_of t q) (all_granted (pool_of t q))) (pool_of t q).producers s ss (sym is)
    (listed_pass (λ n. demand_at q (figure t n)) (attachments t)))

-- the grants of an address, where the newest link is owed credit at another or the same
abbrev with_owed : Trace → Option (List ℕ) → List ℕ → List (ℕ × ℕ)
with_owed t owed address = if is_owed_at owed address then with_newest (attachments t) (grants_of (pool_of t address)) else grants_of (pool_of t address)

abbrev granted_at : Trace → Option (List ℕ) → Option (List ℕ) → List LinkGrant
granted_at t owed None = []
granted_at t owed (Some address) = grants_on t (with_owed t owed address)

abbrev newest_owed : Trace → Option (List ℕ)
newest_owed t = owed_at (numbered_link t (attachments t))

grants_by : (t : Trace) (first : Option (List ℕ)) → lent_first t ≡ first → granted_at t (newest_owed t) (lower first (newest_owed t)) ≡ grants t
unfolding grants
grants_by t first is = by_first (lower first (newest_owed t)) ∙ ap (λ v. grants_of_address t (lower v (newest_owed t))) (sym is)
  where
    by_first : (v : Option (List ℕ)) → granted_at t (newest_owed t) v ≡ grants_of_address t v
    by_first None = refl
    by_first (Some a) = refl

-- what is owed where nothing else is granted
owed_alone : (t : Trace) (owed : List ℕ) → grants_of (pool_of t owed) ≡ [] → grants_on t ((attachments t, 0) ∷ []) ≡ granted_at t (Some owed) (Some owed)
owed_alone t owed none =
    ap (λ sums. grants_on t (with_newest (attachments t) sums)) (sym none)
    ∙ ap (λ b. grants_on t (if b then with_newest (attachments t) (grants_of (pool_of t owed)) else grants_of (pool_of t owed))) (sym (equal_bytes owed owed refl))

-- the grants as the table of pools gives them
pub grants_none : (t : Trace) → ((a : List ℕ) → grants_of (pool_of t a) ≡ []) → grants_on t (in_turn (whose_turn t (attachments t) []) (attachments t) []) ≡ grants t
grants_none t none = by_owed (newest_owed t) ∙ grants_by t None (lent_none t none)
  where
    by_owed : (v : Option (List ℕ)) → grants_on t (in_turn (order_of v None) (attachments t) []) ≡ granted_at t v (lower None v)
    by_owed None = refl
    by_owed (Some owed) = owed_alone t owed (none owed)

pub grants_are : (t : Trace) (q : List ℕ) (sums : List (ℕ × ℕ)) → sums ≡ grants_of (pool_of t q) → 0 < length sums
    → ((a : List ℕ) → slice_cmp nat_cmp a q ≡ Less → grants_of (pool_of t a) ≡ []) → grants_on t (in_turn (whose_turn t (attachments t) sums) (attachments t) sums) ≡ grants t
grants_are t q sums is some none =
    ap (λ place. grants_on t (in_turn (order_of (newest_owed t) place) (attachments t) sums)) (first_place t q sums is some)
    ∙ by_owed (newest_owed t)
    ∙ grants_by t (Some q) (lent_is t q (subst (λ gs. 0 < length gs) is some) none)
  where
    apart : (owed : List ℕ) → slice_cmp nat_cmp q owed ≡ Less → bytes_eq owed q ≡ false
    apart owed order = turned owed q ∙ sym (is_eq-slice_cmp q owed) ∙ ap is_eq order

    by_order : (owed : List ℕ) (o : Ordering) → slice_cmp nat_cmp q owed ≡ o
        → grants_on t (in_turn o (attachments t) sums) ≡ granted_at t (Some owed) (Some (lower_of o q owed))
    by_order owed Less order =
        ap (grants_on t) is
        ∙ ap (λ b. grants_on t (if b then with_newest (attachments t) (grants_of (pool_of t q)) else grants_of (pool_of t q))) (sym (apart owed order))
    by_order owed Equal order =
        ap (λ gs. grants_on t (with_newest (attachments t) gs)) (is ∙ ap (λ a. grants_of (pool_of t a)) (exact_bytes q owed order))
        ∙ ap (λ b. grants_on t (if b then with_newest (attachments t) (grants_of (pool_of t owed)) else grants_of (pool_of t owed))) (sym (equal_bytes owed owed refl))
    by_order owed Greater order = owed_alone t owed (none owed (nat_list_cmp_total.antisymm owed q ∙ ap ordering_reverse order))

    by_owed : (v : Option (List ℕ)) → grants_on t (in_turn (order_of v (Some q)) (attachments t) sums) ≡ granted_at t v (lower (Some q) v)
    by_owed None = ap (grants_on t) is
    by_owed (Some owed) = by_order owed (slice_cmp nat_cmp q owed) refl

pub length_by_id : (sums : List (ProducerId × ℕ)) → length (by_id sums) ≡ length sums
length_by_id [] = refl
length_by_id (s ∷ ss) = ap suc (length_by_id ss)

-- what holds of a result if there is none, and if there is one
pub at_none : {A : Type 0} {P : Type 0} (r : Option A) → r ≡ None → IfNone r P → P
at_none None e p = p
at_none (Some x) e p = absurd cc

pub at_some : {A : Type 0} (r : Option A) (a : A) → r ≡ Some a → (P : A → Type 0) → IfSome r P → P a
at_some None a e P p = absurd cc
at_some {A = A} (Some x) a e P p = subst P (ap (λ (v : Option A). unwrap_or v x) e) p
