-- The number that goes first of all, from the first of each link.
use Rattle.std.proofs.Common.{◌≡◌, ◌∙◌, ◌≤◌, ◌<◌, ℕ, zero, suc, Bool, true, false, refl, sym, ap, subst, arith, Option, Some, None}
use Rattle.std.specs.Prelude.{◌&&◌, ◌==◌, nat_lt, if◌then◌else◌, option_map}
use Rattle.std.proofs.lemmas.Bool.{and_from, eqb-true}
use Rattle.std.proofs.lemmas.Bool.Decides.{nat_tests}
use Rattle.router_trace.specs.declared.handle.Attachment.{Attachment}
use Rattle.router_trace.specs.declared.binding.Rank.{Rank}
use Rattle.router_trace.specs.Numbers.{Placed, first_placed, better, or_better, is_ahead}
use Rattle.state_deliveries.specs.Finding.{IsFirst}
use Rattle.state_deliveries.specs.Finding.{is_above}
use Rattle.router_after.specs.declared.candidate.Candidate.{Candidate}
use Rattle.router_after.specs.Soonest.{candidate, is_sooner, beats, sooner, Stands, IsSoonest, IsSoonestOn, IsSoonestUpTo}
use Rattle.router_after.proofs.Orders.{is_soonest, is_sooner_too, not_ahead, after_lower}

-- a number that goes before the sooner of two goes before both
beats_both : (rank : ℕ → Rank) (n : ℕ) (a : Attachment) (b c : Option Candidate) → beats rank n a (sooner b c) ≡ true → (beats rank n a b ≡ true) × (beats rank n a c ≡ true)
beats_both rank n a None c e = (refl, e)
beats_both rank n a (Some b) None e = (e, refl)
beats_both rank n a (Some b) (Some c) e = by_test (is_sooner c b) refl e
  where
    by_test : (t : Bool) → is_sooner c b ≡ t → beats rank n a (if t then Some c else Some b) ≡ true → (is_sooner (candidate rank n a) b ≡ true) × (is_sooner (candidate rank n a) c ≡ true)
    by_test true f e = (is_soonest (candidate rank n a) c b e f, e)
    by_test false f e = (e, is_sooner_too (candidate rank n a) c b e f)

stands_both : (rank : ℕ → Rank) (place : ℕ → Option Attachment) (b c : Option Candidate) → Stands rank place b → Stands rank place c → Stands rank place (sooner b c)
stands_both rank place None c s u = u
stands_both rank place (Some b) None s u = s
stands_both rank place (Some b) (Some c) s u = by_test (is_sooner c b)
  where
    by_test : (t : Bool) → Stands rank place (if t then Some c else Some b)
    by_test true = u
    by_test false = s

pub none_yet : (rank : ℕ → Rank) (place : ℕ → Option Attachment) → IsSoonestUpTo rank place None None
none_yet rank place = record { stands = tt; first = λ n a e b. refl }

-- every link with a place passes a test
abbrev pub Passing : (ℕ → Option Attachment) → (ℕ → Bool) → Type 0
Passing place passes = (n : ℕ) (a : Attachment) → place n ≡ Some a → passes a.number ≡ true

pub one_more : (rank : ℕ → Rank) (place : ℕ → Option Attachment) (passes : ℕ → Bool) (last : Option ℕ) (link : ℕ) (best found : Option Candidate) → Passing place passes
    → IsFirst (λ k. is_above last k && passes k) (Some link) → IsSoonestUpTo rank place last best → IsSoonestOn rank place link found
    → IsSoonestUpTo rank place (Some link) (sooner best found)
one_more rank place passes last link best found pass next up here = record {
  stands = stands_both rank place best found up.stands here.stands;
  first = λ n a e b.
      let w = beats_both rank n a best found b in
      let le : link ≤ a.number = next.1 a.number (and_from (is_above last a.number) (passes a.number) (up.first n a e w.0) (pass n a e)) in
      by_test a.number (link == a.number) refl le (λ is. sym w.1 ∙ here.first n a e (sym (eqb-true link a.number is)));
}
  where
    less : (n m : ℕ) → n ≤ m → (n == m) ≡ false → nat_lt n m ≡ true
    less n m le f = grind (arith, nat_tests)

    by_test : (m : ℕ) (t : Bool) → (link == m) ≡ t → link ≤ m → ((link == m) ≡ true → true ≡ false) → nat_lt link m ≡ true
    by_test m true f le wrong = let no_way : true ≡ false = wrong f in absurd cc
    by_test m false f le wrong = less link m le f

pub no_more : (rank : ℕ → Rank) (place : ℕ → Option Attachment) (passes : ℕ → Bool) (last : Option ℕ) (best : Option Candidate) → Passing place passes
    → IsFirst (λ k. is_above last k && passes k) None → IsSoonestUpTo rank place last best → IsSoonest rank place best
no_more rank place passes last best pass none up = record {
  stands = up.stands;
  first = λ n a e. by_test (beats rank n a best) (λ b. sym (and_from (is_above last a.number) (passes a.number) (up.first n a e b) (pass n a e)) ∙ none a.number);
}
  where
    by_test : (t : Bool) → (t ≡ true → true ≡ false) → t ≡ false
    by_test true wrong = wrong refl
    by_test false wrong = refl

-- That is the first of all below a bound on every place.
abbrev pub placed : Candidate → Placed
placed c = record { number = c.number; place = c.place }

nothing_below : (rank : ℕ → Rank) (bound : ℕ) (place : ℕ → Option Attachment) → ((n : ℕ) → place n ≡ None) → first_placed rank bound place ≡ None
unfolding first_placed
nothing_below rank zero place none = refl
nothing_below rank (suc b) place none = ap (λ v. or_better rank v b (place b)) (nothing_below rank b place none) ∙ ap (or_better rank None b) (none b)

-- the number found has a place, below the bound
pub record IsPlaced (bound : ℕ) (place : ℕ → Option Attachment) (p : Placed) : Type 0 where
  pub below : p.number < bound
  pub stands : place p.number ≡ Some p.place

more : {place : ℕ → Option Attachment} (b : ℕ) (p : Placed) → IsPlaced b place p → IsPlaced (suc b) place p
more {place = place} b p x = record { below = let l = x.below in omega (arith, l); stands = x.stands }

found_placed : (rank : ℕ → Rank) (bound : ℕ) (place : ℕ → Option Attachment) (p : Placed) → first_placed rank bound place ≡ Some p → IsPlaced bound place p
unfolding first_placed
found_placed rank zero place p e = absurd cc
found_placed rank (suc b) place p e = by_place (place b) refl (first_placed rank b place) refl (λ q f. found_placed rank b place q f) e
  where
    here : (a : Attachment) (q : Placed) → place b ≡ Some a → Some (record { number = b; place = a }) ≡ Some q → IsPlaced (suc b) place q
    here a q is f = subst (λ (v : Option Placed). IsFound v) f (record { below = omega arith; stands = is })
      where
        IsFound : Option Placed → Type 0
        IsFound None = Unit {0}
        IsFound (Some q) = IsPlaced (suc b) place q

    by_test : (t : Bool) (a : Attachment) (q : Placed) → place b ≡ Some a → IsPlaced b place q → (if t then Some (record { number = b; place = a }) else Some q) ≡ Some p → IsPlaced (suc b) place p
    by_test true a q is x e = here a p is e
    by_test false a q is x e = subst (λ (v : Option Placed). IsFound v) e (more b q x)
      where
        IsFound : Option Placed → Type 0
        IsFound None = Unit {0}
        IsFound (Some q) = IsPlaced (suc b) place q

    by_place : (v : Option Attachment) → place b ≡ v → (w : Option Placed) → first_placed rank b place ≡ w → ((q : Placed) → first_placed rank b place ≡ Some q → IsPlaced b place q)
        → or_better rank w b v ≡ Some p → IsPlaced (suc b) place p
    by_place None is w was old e = more b p (old p (was ∙ e))
    by_place (Some a) is None was old e = here a p is e
    by_place (Some a) is (Some q) was old e = by_test (is_ahead rank b a q) a q is (old q was) e

one_below : (rank : ℕ → Rank) (bound : ℕ) (place : ℕ → Option Attachment) (c : Candidate) → c.number < bound → place c.number ≡ Some c.place → rank c.number ≡ c.rank
    → ((n : ℕ) (a : Attachment) → place n ≡ Some a → is_sooner (candidate rank n a) c ≡ false) → first_placed rank bound place ≡ Some (placed c)
unfolding first_placed
one_below rank zero place c l stands its first = absurd (omega (arith, l))
one_below rank (suc b) place c l stands its first = by_test (c.number == b) refl (λ k. one_below rank b place c k stands its first)
  where
    less : (n b : ℕ) → n < suc b → (n == b) ≡ false → n < b
    less n b l e = grind (arith, nat_tests)

    behind : (v : Option Attachment) → place b ≡ v → or_better rank (Some (placed c)) b v ≡ Some (placed c)
    behind None is = refl
    behind (Some a) is = ap (λ t. if t then Some (record { number = b; place = a }) else Some (placed c)) (not_ahead rank b a c its (first b a is))

    before : (w : Option Placed) → first_placed rank b place ≡ w → c.number ≡ b → better rank w b c.place ≡ Some (placed c)
    before None was is = ap (λ n. Some (record { number = n; place = c.place })) (sym is)
    before (Some q) was is =
        let x = found_placed rank b place q was in
        let l = x.below in
        ap (λ t. if t then Some (record { number = b; place = c.place }) else Some q)
        (ap (λ n. is_ahead rank n c.place q) (sym is) ∙ after_lower rank q c its (first q.number q.place x.stands) (omega (arith, l, is)))
        ∙ ap (λ n. Some (record { number = n; place = c.place })) (sym is)

    by_test : (t : Bool) → (c.number == b) ≡ t → (c.number < b → first_placed rank b place ≡ Some (placed c))
        → or_better rank (first_placed rank b place) b (place b) ≡ Some (placed c)
    by_test true e below =
        let is : c.number ≡ b = eqb-true c.number b e in
        ap (or_better rank (first_placed rank b place) b) (ap place (sym is) ∙ stands) ∙ before (first_placed rank b place) refl is
    by_test false e below = ap (λ v. or_better rank v b (place b)) (below (less c.number b l e)) ∙ behind (place b) refl

pub soonest_is : (rank : ℕ → Rank) (bound : ℕ) (place : ℕ → Option Attachment) (best : Option Candidate) → ((n : ℕ) (a : Attachment) → place n ≡ Some a → n < bound)
    → IsSoonest rank place best → option_map placed best ≡ first_placed rank bound place
soonest_is rank bound place None low x = sym (nothing_below rank bound place (λ n. none (place n) (λ a e. x.first n a e)))
  where
    none : (v : Option Attachment) → ((a : Attachment) → v ≡ Some a → true ≡ false) → v ≡ None
    none None wrong = refl
    none (Some a) wrong = let no_way : true ≡ false = wrong a refl in absurd cc
soonest_is rank bound place (Some c) low x = sym (one_below rank bound place c (low c.number c.place x.stands.0) x.stands.0 x.stands.1 x.first)
