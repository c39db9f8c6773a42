-- Numbers by delivery-id: the first at each, and further ones.
use Rattle.std.proofs.Common.{◌≡◌, ◌∙◌, ◌<◌, ◌^◌, ◌||◌, ℕ, Bool, true, false, refl, sym, ap, arith, List, [], ◌∷◌, Option, Some, None}
use Rattle.std.specs.Prelude.{◌&&◌, ◌==◌, if◌then◌else◌, IfSome}
use Rattle.std.specs.BTreeSet.{contains}
use Rattle.std.proofs.lemmas.Bool.{eqb-true}
use Rattle.std.proofs.lemmas.Bool.Decides.{nat_tests}
use Rattle.amqp_session.specs.Ranges.{has, in_range}
use Rattle.router_trace.specs.Deliveries.{is_number}
use Rattle.state_deliveries.specs.declared.by_id.ById.{ById}
use Rattle.state_deliveries.specs.declared.spots.Spot.{Spot}
use Rattle.state_deliveries.specs.declared.spots.Spots.{Spots}
use Rattle.state_deliveries.specs.Rowing.{in_rows}
use Rattle.state_deliveries.specs.Placing.{IdsFit, SpotsFit, is_first, is_at_id, is_spot, same_spot, stands, key_cmp, IsSmall, is_id_there}
use Rattle.state_deliveries.proofs.Placed.{both_first, both_second, either_of, same_number, stand_moved, stood}

or_right : (a b : Bool) → b ≡ true → (a || b) ≡ true
or_right true b e = refl
or_right false b e = e

or_second : (a b : Bool) → (a || b) ≡ false → b ≡ false
or_second true b e = absurd cc
or_second false b e = e

-- the same known ids, by an equal function; and the same first numbers
pub ids_same : (s : ById) (f g : ℕ → Option Spot) → ((n : ℕ) → f n ≡ g n) → IdsFit s f → IdsFit s g
ids_same s f g same x = record { stand = λ p n. x.stand p n ∙ ap (λ v. is_spot v p) (same n); small = x.small }

pub ids_stay : (s t : ById) → ((c o id : ℕ) → in_rows t.first c o id ≡ in_rows s.first c o id) → t.further ≡ s.further → (known : ℕ → Option Spot) → IdsFit s known → IdsFit t known
ids_stay s t same more known x = record { stand = λ p n. is p n ∙ x.stand p n; small = λ p n e. x.small p n (sym (is p n) ∙ e) }
  where
    is : (p : Spot) (n : ℕ) → is_at_id t p n ≡ is_at_id s p n
    is p n = ap (λ v. is_number v n || stands t.further p n) (same p.conn p.own p.at) ∙ ap (λ (f : Spots). is_first s p n || stands f p n) more

-- a number moves
pub ids_moved : (s t u : ById) (m : ℕ) (before after : Option Spot) (known : ℕ → Option Spot)
    → ((p : Spot) (n : ℕ) → is_at_id t p n ≡ (if is_spot before p then (if m == n then false else is_at_id s p n) else is_at_id s p n))
    → ((p : Spot) (n : ℕ) → is_at_id u p n ≡ (if is_spot after p then (if m == n then true else is_at_id t p n) else is_at_id t p n))
    → ((p : Spot) (n : ℕ) → (is_at_id t p n ≡ true → IsSmall p n) → is_at_id u p n ≡ true → IsSmall p n)
    → known m ≡ before → IdsFit s known → IdsFit u (λ n. if m == n then after else known n)
ids_moved s t u m before after known out back small is x = record {
  stand = stand_moved (is_at_id s) (is_at_id t) (is_at_id u) m before after known out back is x.stand;
  small = λ p n now. small p n (λ there. x.small p n (stood (is_at_id s) (is_at_id t) m before out p n there)) now;
}

-- what is at the same place
same_place : {A : Type 0} (f : ℕ → ℕ → ℕ → A) (p q : Spot) → (p.conn == q.conn) ≡ true → (p.own == q.own) ≡ true → (p.at == q.at) ≡ true → f q.conn q.own q.at ≡ f p.conn p.own p.at
same_place f p q a b d = sym (λ i. f (eqb-true p.conn q.conn a i) (eqb-true p.own q.own b i) (eqb-true p.at q.at d i))

-- the known ids of the further numbers
abbrev further_of : ById → Option Spot → ℕ → Option Spot
further_of s None n = None
further_of s (Some p) n = if stands s.further p n then Some p else None

further_fits : (s : ById) (known : ℕ → Option Spot) → IdsFit s known → SpotsFit s.further (λ n. further_of s (known n) n)
further_fits s known x = record {
  stand = λ p n. by_known p n (known n) (x.stand p n);
  small = λ p n e. x.small p n (or_right (is_first s p n) (stands s.further p n) e);
}
  where
    either : (b : Bool) (p q : Spot) → same_spot q p ≡ true → b ≡ is_spot (if b then Some q else None) p
    either true p q e = sym e
    either false p q e = refl

    neither : (b : Bool) (p q : Spot) → same_spot q p ≡ false → false ≡ is_spot (if b then Some q else None) p
    neither true p q e = sym e
    neither false p q e = refl

    by_test : (p q : Spot) (n : ℕ) (b : Bool) → same_spot q p ≡ b → is_at_id s p n ≡ b → stands s.further p n ≡ is_spot (if stands s.further q n then Some q else None) p
    by_test p q n true e f =
        let rest = both_second (q.conn == p.conn) ((q.own == p.own) && (q.at == p.at)) e in
        same_place (λ c o id. contains key_cmp s.further.keys (c, o, id, n)) q p (both_first (q.conn == p.conn) ((q.own == p.own) && (q.at == p.at)) e)
        (both_first (q.own == p.own) (q.at == p.at) rest) (both_second (q.own == p.own) (q.at == p.at) rest)
        ∙ either (stands s.further q n) p q e
    by_test p q n false e f = or_second (is_first s p n) (stands s.further p n) f ∙ neither (stands s.further q n) p q e

    by_known : (p : Spot) (n : ℕ) (v : Option Spot) → is_at_id s p n ≡ is_spot v p → stands s.further p n ≡ is_spot (further_of s v n) p
    by_known p n None e = or_second (is_first s p n) (stands s.further p n) e
    by_known p n (Some q) e = by_test p q n (same_spot q p) refl e

-- the ids of a range
is_first_there : (v : Option ℕ) (n : ℕ) → is_number v n ≡ true → v ≡ Some n
is_first_there None n e = absurd cc
is_first_there (Some m) n e = ap Some (eqb-true m n e)

pub found_ids : (s : ById) (c o first last : ℕ) (middle new : List ℕ) (known : ℕ → Option Spot) → IdsFit s known
    → ((id n : ℕ) → id < 2 ^ 32 → in_range first last id ≡ true → in_rows s.first c o id ≡ Some n → has n middle ≡ true)
    → ((n : ℕ) → has n middle ≡ true → has n new ≡ true)
    → ((f : ℕ → Option Spot) → SpotsFit s.further f → (n : ℕ) → is_id_there c o first last (f n) ≡ true → has n new ≡ true)
    → (n : ℕ) → is_id_there c o first last (known n) ≡ true → has n new ≡ true
found_ids s c o first last middle new known x firsts more furthers n there = by_place (known n) refl there
  where
    all_same : (a b d : Bool) → a ≡ true → b ≡ true → d ≡ true → (a && (b && d)) ≡ true
    all_same true true d e f g = g
    all_same true false d e f g = f
    all_same false b d e f g = e

    by_place : (v : Option Spot) → known n ≡ v → is_id_there c o first last v ≡ true → has n new ≡ true
    by_place None e f = absurd cc
    by_place (Some p) e f =
        let at : is_at_id s p n ≡ true =
        x.stand p n ∙ ap (λ v. is_spot v p) e ∙ all_same (p.conn == p.conn) (p.own == p.own) (p.at == p.at) (same_number p.conn) (same_number p.own) (same_number p.at) in
        let on = both_first ((p.conn == c) && (p.own == o)) (in_range first last p.at) f in
        let conn = eqb-true p.conn c (both_first (p.conn == c) (p.own == o) on) in
        let own = eqb-true p.own o (both_second (p.conn == c) (p.own == o) on) in
        either_of (is_first s p n) (stands s.further p n)
        (λ here. more n (firsts p.at n (x.small p n at).at (both_second ((p.conn == c) && (p.own == o)) (in_range first last p.at) f)
        (sym (λ i. in_rows s.first (conn i) (own i) p.at) ∙ is_first_there (in_rows s.first p.conn p.own p.at) n here)))
        (λ here. furthers (λ k. further_of s (known k) k) (further_fits s known x) n
        (ap (λ v. is_id_there c o first last (further_of s v n)) e ∙ ap (λ b. is_id_there c o first last (if b then Some p else None)) here ∙ f)) at

-- a range of one id
alone : (id q : ℕ) → id < 2 ^ 32 → q < 2 ^ 32 → (id == q) ≡ in_range id id q
alone id q f l = grind (arith, nat_tests)

-- a list of the number that is found
abbrev in_one : Option ℕ → ℕ → Bool
in_one None n = false
in_one (Some k) n = has n (k ∷ [])

-- the first number at an id is the only one there, if no id has a further one
pub sole_id : (s : ById) (c o id last : ℕ) (found : Option ℕ) → id < 2 ^ 32 → id ≡ last → found ≡ in_rows s.first c o id
    → ((known : ℕ → Option Spot) → SpotsFit s.further known → (n : ℕ) → known n ≡ None)
    → IfSome found (λ k. (known : ℕ → Option Spot) → IdsFit s known → (n : ℕ) → is_id_there c o id last (known n) ≡ true → has n (k ∷ []) ≡ true)
sole_id s c o id last None small one is none = tt
sole_id s c o id last (Some k) small one is none = λ known x n there.
    found_ids s c o id id (k ∷ []) (k ∷ []) known x
    (λ q m low inside at.
    let same : id ≡ q = eqb-true id q (alone id q small low ∙ inside) in
    ap (λ v. in_one v m) (is ∙ ap (λ w. in_rows s.first c o w) same ∙ at) ∙ ap (λ b. b || false) (same_number m))
    (λ m e. e)
    (λ f fit m e. let wrong : true ≡ false = sym e ∙ ap (is_id_there c o id id) (none f fit m) in absurd cc)
    n (ap (λ l. is_id_there c o id l (known n)) one ∙ there)
