-- The lowest attachment, above another number, that owes a drain.
use Rattle.std.proofs.Common.{◌≡◌, ◌∙◌, ◌≤◌, ◌&&◌, ◌||◌, ℕ, Bool, true, false, refl, sym, ap, arith, List, [], ◌∷◌, Option, Some, None}
use Rattle.std.specs.Prelude.{◌==◌, nat_lt, if◌then◌else◌}
use Rattle.std.proofs.lemmas.Bool.{eqb-true}
use Rattle.std.proofs.lemmas.Bool.Decides.{nat_tests}
use Rattle.router_trace.specs.declared.handle.Attachment.{Attachment}
use Rattle.router_trace.specs.Trace.{Trace}
use Rattle.router_trace.specs.Links.{link, numbered, place_of, is_attached, if_attached}
use Rattle.router_trace.specs.Following.{link_of, owes_one}
use Rattle.state_links.specs.Owed.{is_listed, is_same}
use Rattle.state_deliveries.specs.Finding.{IsFirst, is_above}
use Rattle.router_trace.proofs.Numbers.{not_true}
use Rattle.state_messages.specs.Asking.{is_below, lower_number, lowest_of, owes_drain, owes_on}
use Rattle.state_messages.proofs.Numbered.{number_is}
use Rattle.state_messages.proofs.Going.{same_tests, either_left, either_right, both_left, both_right}

-- a number belongs to one of these attachments
abbrev pub number_in : ℕ → List Attachment → Bool
number_in n [] = false
number_in n (a ∷ others) = (a.number == n) || number_in n others

abbrev is_that : Option ℕ → ℕ → Bool
is_that None n = false
is_that (Some m) n = m == n

-- The first number that passes one test is the first that passes another, if each that passes the one passes the other, and below each that passes
-- the other is one that passes the first.
pub record Under (passes : ℕ → Bool) (n : ℕ) : Type 0 where
  pub number : ℕ
  pub under : number ≤ n
  pub is : passes number ≡ true

first_move : (p q : ℕ → Bool) (r : Option ℕ) → ((n : ℕ) → p n ≡ true → q n ≡ true) → ((n : ℕ) → q n ≡ true → Under p n) → IsFirst p r → IsFirst q r
first_move p q None forth back first = λ n. not_true (q n) (λ e. let u = back n e in absurd (no (sym (first u.number) ∙ u.is)))
  where
    no : false ≡ true → ⊥
    no e = absurd cc
first_move p q (Some k) forth back first = (forth k first.0, λ m e. let u = back m e in let le : k ≤ u.number = first.1 u.number u.is in omega (arith, le, u.under))

pub first_alike : (p q : ℕ → Bool) (r : Option ℕ) → ((n : ℕ) → p n ≡ q n) → IsFirst p r → IsFirst q r
first_alike p q r same first =
    first_move p q r (λ n e. sym (same n) ∙ e) (λ n e. record { number = n; under = omega arith; is = same n ∙ e }) first

-- the numbers that may be the lowest: the one found so far, and those of the rest
abbrev seen : Option ℕ → Option ℕ → List Attachment → ℕ → Bool
seen above lowest xs n = is_that lowest n || (is_above above n && number_in n xs)

none_in : (above lowest : Option ℕ) (n : ℕ) → seen above lowest [] n ≡ is_that lowest n
none_in above lowest n = by_tests (is_that lowest n) (is_above above n)
  where
    by_tests : (a b : Bool) → (a || (b && false)) ≡ a
    by_tests true b = refl
    by_tests false true = refl
    by_tests false false = refl

that_first : (lowest : Option ℕ) → IsFirst (is_that lowest) lowest
that_first None = λ n. refl
that_first (Some m) = (same m, λ k e. equal m k (eqb-true m k e))
  where
    same : (m : ℕ) → (m == m) ≡ true
    same m = grind (arith, nat_tests)

    equal : (m k : ℕ) → m ≡ k → m ≤ k
    equal m k e = omega (arith, e)

forth_step : (above lowest : Option ℕ) (k : ℕ) (others : Bool) (n : ℕ) (chosen : Bool) → (is_above above k && is_below lowest k) ≡ chosen
    → (is_that (if chosen then Some k else lowest) n || (is_above above n && others)) ≡ true
    → (is_that lowest n || (is_above above n && ((k == n) || others))) ≡ true
forth_step above lowest k others n true chose e = by_test (k == n) refl
  where
    by_test : (t : Bool) → (k == n) ≡ t → (is_that lowest n || (is_above above n && ((k == n) || others))) ≡ true
    by_test true q =
        either_right _ _ (ap (λ b. b && ((k == n) || others)) (ap (is_above above) (sym (eqb-true k n q)) ∙ both_left _ _ chose) ∙ either_left _ _ q)
    by_test false q = either_right _ _ (wider (is_above above n) (k == n) others (ap (λ b. b || (is_above above n && others)) (sym q) ∙ e))
      where
        wider : (a b c : Bool) → (a && c) ≡ true → (a && (b || c)) ≡ true
        wider true true c e = refl
        wider true false c e = e
        wider false b c e = absurd cc
forth_step above lowest k others n false chose e = by_test (is_that lowest n) refl
  where
    wider : (a b c : Bool) → (a && c) ≡ true → (a && (b || c)) ≡ true
    wider true true c e = refl
    wider true false c e = e
    wider false b c e = absurd cc

    by_test : (t : Bool) → is_that lowest n ≡ t → (is_that lowest n || (is_above above n && ((k == n) || others))) ≡ true
    by_test true q = either_left _ _ q
    by_test false q = either_right _ _ (wider (is_above above n) (k == n) others (ap (λ b. b || (is_above above n && others)) (sym q) ∙ e))

-- the three ways in which a number may be seen
pub data Way (a b c d : Bool) : Type 0 where
  that : a ≡ true → Way a b c d
  here : b ≡ true → c ≡ true → Way a b c d
  there : b ≡ true → d ≡ true → Way a b c d

ways : (a b c d : Bool) → (a || (b && (c || d))) ≡ true → Way a b c d
ways true b c d e = that refl
ways false true true d e = here refl refl
ways false true false d e = there refl e
ways false false c d e = absurd cc

back_step : (above lowest : Option ℕ) (k : ℕ) (others : ℕ → Bool) (n : ℕ) (chosen : Bool) → (is_above above k && is_below lowest k) ≡ chosen
    → Way (is_that lowest n) (is_above above n) (k == n) (others n) → Under (λ m. is_that (if chosen then Some k else lowest) m || (is_above above m && others m)) n
back_step above lowest k others n true chose (that e) = record { number = k; under = lower lowest (both_right _ _ chose) e; is = either_left _ _ (same k) }
  where
    same : (m : ℕ) → (m == m) ≡ true
    same m = grind (arith, nat_tests)

    less : (k m n : ℕ) → nat_lt k m ≡ true → (m == n) ≡ true → k ≤ n
    less k m n below e = grind (arith, nat_tests)

    lower : (v : Option ℕ) → is_below v k ≡ true → is_that v n ≡ true → k ≤ n
    lower None below e = absurd cc
    lower (Some m) below e = less k m n below e
back_step above lowest k others n true chose (here b e) = record { number = k; under = equal k n (eqb-true k n e); is = either_left _ _ (same k) }
  where
    same : (m : ℕ) → (m == m) ≡ true
    same m = grind (arith, nat_tests)

    equal : (m k : ℕ) → m ≡ k → m ≤ k
    equal m k e = omega (arith, e)
back_step above lowest k others n true chose (there b e) = record { number = n; under = omega arith; is = either_right _ _ (ap (λ x. x && others n) b ∙ e) }
back_step above lowest k others n false chose (that e) = record { number = n; under = omega arith; is = either_left _ _ e }
back_step above lowest k others n false chose (here b e) = by_lowest lowest refl
  where
    same : (m : ℕ) → (m == m) ≡ true
    same m = grind (arith, nat_tests)

    equal : (m k : ℕ) → m ≡ k → m ≤ k
    equal m k e = omega (arith, e)

    no : true ≡ false → ⊥
    no e = absurd cc

    not_less : (k m : ℕ) → nat_lt k m ≡ false → m ≤ k
    not_less k m e = grind (arith, nat_tests)

    above_k : is_above above k ≡ true
    above_k = ap (is_above above) (eqb-true k n e) ∙ b

    not_below : is_below lowest k ≡ false
    not_below = ap (λ x. x && is_below lowest k) (sym above_k) ∙ chose

    by_lowest : (v : Option ℕ) → lowest ≡ v → Under (λ m. is_that lowest m || (is_above above m && others m)) n
    by_lowest None is = absurd (no (sym (ap (λ v. is_below v k) is) ∙ not_below))
    by_lowest (Some m) is =
        let le : m ≤ k = not_less k m (sym (ap (λ v. is_below v k) is) ∙ not_below) in
        let kn : k ≤ n = equal k n (eqb-true k n e) in
        record { number = m; under = omega (arith, le, kn); is = either_left _ _ (ap (λ v. is_that v m) is ∙ same m) }
back_step above lowest k others n false chose (there b e) = record { number = n; under = omega arith; is = either_right _ _ (ap (λ x. x && others n) b ∙ e) }

fold_first : (above lowest : Option ℕ) (xs : List Attachment) → IsFirst (seen above lowest xs) (lowest_of above lowest xs)
fold_first above lowest [] = first_alike (is_that lowest) (seen above lowest []) lowest (λ n. sym (none_in above lowest n)) (that_first lowest)
fold_first above lowest (a ∷ others) =
    first_move (seen above (lower_number above lowest a.number) others) (seen above lowest (a ∷ others)) _
    (λ n e. forth_step above lowest a.number (number_in n others) n _ refl e)
    (λ n e. back_step above lowest a.number (λ m. number_in m others) n _ refl (ways _ _ _ _ e))
    (fold_first above (lower_number above lowest a.number) others)

-- each attachment in the list owes a drain, and each that owes one is in the list
pub record Held (n : ℕ) (xs : List Attachment) : Type 0 where
  pub attachment : Attachment
  pub listed : is_listed attachment xs ≡ true
  pub is : attachment.number ≡ n

same_number : (m : ℕ) → (m == m) ≡ true
same_number m = grind (arith, nat_tests)

all_true : (a b c d : Bool) → a ≡ true → b ≡ true → c ≡ true → d ≡ true → (a && ((b && c) && d)) ≡ true
all_true true true true true e f g h = refl
all_true false b c d e f g h = absurd cc
all_true true false c d e f g h = absurd cc
all_true true true false d e f g h = absurd cc
all_true true true true false e f g h = absurd cc

same_self : (a : Attachment) → is_same a a ≡ true
same_self a = all_true _ _ _ _ (same_number a.handle) (same_number a.channel) (same_number a.conn.0) (same_number a.number)

in_held : (n : ℕ) (xs : List Attachment) → number_in n xs ≡ true → Held n xs
in_held n [] e = absurd (no e)
  where
    no : false ≡ true → ⊥
    no e = absurd cc
in_held n (a ∷ others) e = by_test (a.number == n) refl (in_held n others)
  where
    by_test : (q : Bool) → (a.number == n) ≡ q → (number_in n others ≡ true → Held n others) → Held n (a ∷ others)
    by_test true q rest = record { attachment = a; listed = either_left _ _ (same_self a); is = eqb-true a.number n q }
    by_test false q rest =
        let h = rest (ap (λ b. b || number_in n others) (sym q) ∙ e) in
        record { attachment = h.attachment; listed = either_right _ _ h.listed; is = h.is }

listed_in : (a : Attachment) (xs : List Attachment) → is_listed a xs ≡ true → number_in a.number xs ≡ true
listed_in a [] e = absurd cc
listed_in a (b ∷ others) e = by_test (is_same b a) refl (listed_in a others)
  where
    by_test : (q : Bool) → is_same b a ≡ q → (is_listed a others ≡ true → number_in a.number others ≡ true) → number_in a.number (b ∷ others) ≡ true
    by_test true q rest =
        either_left _ _ (both_right ((b.channel == a.channel) && (b.conn.0 == a.conn.0)) (b.number == a.number) (both_right (b.handle == a.handle) (((b.channel == a.channel) && (b.conn.0 == a.conn.0)) && (b.number == a.number)) q))
    by_test false q rest = either_right _ _ (rest (ap (λ x. x || is_listed a others) (sym q) ∙ e))

-- the place of an attachment
placed : (t : Trace) (v : Option Attachment) (a : Attachment) → if_attached t v ≡ Some a → v ≡ Some a
placed t None a e = absurd cc
placed t (Some b) a e = by_test (is_attached t b) refl
  where
    by_test : (q : Bool) → is_attached t b ≡ q → Some b ≡ Some a
    by_test true q = ap (λ x. if x then Some b else None) (sym q) ∙ e
    by_test false q = absurd (nothing (ap (λ x. if x then Some b else None) (sym q) ∙ e))
      where
        nothing : None ≡ Some a → ⊥
        nothing e = absurd cc

owes_there : (t : Trace) (n : ℕ) (v : Option Attachment) → owes_on t n v ≡ true → (a : Attachment) × (v ≡ Some a) × (owes_one (link_of t a) n ≡ true)
owes_there t n None e = absurd cc
owes_there t n (Some a) e = (a, refl, e)

pub in_owes : (t : Trace) (xs : List Attachment) → ((a : Attachment) → is_listed a xs ≡ owes_one (link t a.conn.0 a.channel a.handle) a.number)
    → ((a : Attachment) → is_listed a xs ≡ true → place_of t a.number ≡ Some a) → (n : ℕ) → number_in n xs ≡ owes_drain t n
in_owes t xs owes stands n = same_tests _ _ forth back
  where
    forth : number_in n xs ≡ true → owes_drain t n ≡ true
    forth e =
        let h = in_held n xs e in
        let there : numbered t n ≡ Some h.attachment = placed t (numbered t n) h.attachment (ap (place_of t) (sym h.is) ∙ stands h.attachment h.listed) in
        ap (owes_on t n) there ∙ ap (owes_one (link_of t h.attachment)) (sym h.is) ∙ sym (owes h.attachment) ∙ h.listed

    back : owes_drain t n ≡ true → number_in n xs ≡ true
    back e =
        let h = owes_there t n (numbered t n) e in
        let is : h.0.number ≡ n = number_is t n h.0 h.1 in
        ap (λ m. number_in m xs) (sym is) ∙ listed_in h.0 xs (owes h.0 ∙ ap (owes_one (link_of t h.0)) is ∙ h.2)

pub lowest_owing : (t : Trace) (above : Option ℕ) (xs : List Attachment) → ((a : Attachment) → is_listed a xs ≡ owes_one (link t a.conn.0 a.channel a.handle) a.number)
    → ((a : Attachment) → is_listed a xs ≡ true → place_of t a.number ≡ Some a) → IsFirst (λ n. is_above above n && owes_drain t n) (lowest_of above None xs)
lowest_owing t above xs owes stands =
    first_alike (seen above None xs) (λ n. is_above above n && owes_drain t n) _ (λ n. ap (λ b. is_above above n && b) (in_owes t xs owes stands n)) (fold_first above None xs)

pub first_result : (p : ℕ → Bool) (r s : Option ℕ) → r ≡ s → IsFirst p s → IsFirst p r
first_result p None None e first = first
first_result p (Some n) (Some m) e first = is (some_is n m e)
  where
    some_is : (n m : ℕ) → Some n ≡ Some m → m ≡ n
    some_is n m e = cc

    is : m ≡ n → IsFirst p (Some n)
    is q = rw (sym q) first
first_result p None (Some m) e first = absurd cc
first_result p (Some n) None e first = absurd cc
