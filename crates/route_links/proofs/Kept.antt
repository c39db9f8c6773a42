-- What the history of a link's ids says, step by step.
use Rattle.std.proofs.Common.{◌≡◌, ◌∙◌, ◌<◌, ◌≤◌, ℕ, Bool, true, false, refl, sym, ap, subst, ◌-◌, ◌||◌, not, [], ◌∷◌, Option, Some, None, if◌then◌else◌, arith}
use Rattle.std.specs.Prelude.{◌==◌, option_map, option_and_then}
use Rattle.std.proofs.lemmas.Bool.{eqb-true, eq-eqb}
use Rattle.route_links.specs.declared.ids.Known.{Known}
use Rattle.route_links.specs.Naming.{Came, CameSettled, Went, Settled, Held, Told, Leaves, Ended, History, started, gone, came_under, going_under, one_more, unless_over, when_settled, one_less, known, unless, claimed, if_unsettled, number_out, open_in, out_of, open_out}

pub by_test : {P : Type 0} (b : Bool) → (b ≡ true → P) → (b ≡ false → P) → P
by_test true f g = f refl
by_test false f g = g refl

pub is_itself : (a : ℕ) → (a == a) ≡ true
is_itself a = eq-eqb a a refl

-- a number that is less is another one
pub is_other : (a b : ℕ) → a < b → (a == b) ≡ false
is_other a b l = by_test (a == b) (λ e. let same : a ≡ b = eqb-true a b e in absurd (omega (arith, l, same))) (λ e. e)

-- what becomes of a delivery of which nothing is known
none_goes : (b : Bool) (o : ℕ) (x : Option Known) → x ≡ None → (if b then option_map (going_under o) x else x) ≡ None
none_goes true o x none = ap (option_map (going_under o)) none
none_goes false o x none = none

none_more : (b : Bool) (x : Option Known) → x ≡ None → (if b then option_map one_more x else x) ≡ None
none_more true x none = ap (option_map one_more) none
none_more false x none = none

none_kept : (b : Bool) (f : Known → Option Known) (x : Option Known) → x ≡ None → (if b then option_and_then f x else x) ≡ None
none_kept true f x none = ap (option_and_then f) none
none_kept false f x none = none

-- nothing is known of a delivery that hasn't come yet
pub not_come : (h : History) (n : ℕ) → started h ≤ n → known h n ≡ None
not_come [] n l = refl
not_come (Came i ∷ h) n l = ap (λ b. if b then Some (came_under i) else known h n) (is_other (started h) n (omega (arith, l))) ∙ not_come h n (omega (arith, l))
not_come (CameSettled ∷ h) n l = not_come h n (omega (arith, l))
not_come (Went o ∷ h) n l = none_goes (gone h == n) o (known h n) (not_come h n l)
not_come (Settled m ∷ h) n l = none_kept (m == n) when_settled (known h n) (not_come h n l)
not_come (Held m ∷ h) n l = none_more (m == n) (known h n) (not_come h n l)
not_come (Told m ∷ h) n l = none_kept (m == n) one_less (known h n) (not_come h n l)
not_come (Leaves ∷ h) n l = not_come h n l
not_come (Ended ∷ h) n l = refl

some_come : (F : Option Known → Option ℕ) (h : History) (n i : ℕ) → F None ≡ None → F (known h n) ≡ Some i → (started h == n) ≡ false
some_come F h n i empty is = by_test (started h == n)
    (λ e. let same : started h ≡ n = eqb-true (started h) n e in
    let none : known h n ≡ None = not_come h n (omega (arith, same)) in
    absurd (nothing (sym empty ∙ sym (ap F none) ∙ is)))
    (λ e. e)
  where
    nothing : None ≡ Some i → ⊥
    nothing h = absurd (cc)

-- a delivery that hasn't gone yet has no id there
out_more : (b : Bool) (x : Option Known) → out_of x ≡ None → out_of (if b then option_map one_more x else x) ≡ None
out_more true None none = none
out_more true (Some k) none = none
out_more false x none = none

out_over : (b : Bool) (k : Known) → k.id_out ≡ None → out_of (if b then Some k else None) ≡ None
out_over true k none = none
out_over false k none = refl

out_settled : (b : Bool) (x : Option Known) → out_of x ≡ None → out_of (if b then option_and_then when_settled x else x) ≡ None
out_settled true None none = none
out_settled true (Some k) none = out_over (false || not (k.held == 0)) (record k { is_unsettled = false }) none
out_settled false x none = none

out_less : (b : Bool) (x : Option Known) → out_of x ≡ None → out_of (if b then option_and_then one_less x else x) ≡ None
out_less true None none = none
out_less true (Some k) none = out_over (k.is_unsettled || not (k.held - 1 == 0)) (record k { held = k.held - 1 }) none
out_less false x none = none

out_came : (b : Bool) (i : ℕ) (x : Option Known) → out_of x ≡ None → out_of (if b then Some (came_under i) else x) ≡ None
out_came true i x none = refl
out_came false i x none = none

pub not_gone : (h : History) (n : ℕ) → gone h ≤ n → out_of (known h n) ≡ None
not_gone [] n l = refl
not_gone (Came i ∷ h) n l = out_came (started h == n) i (known h n) (not_gone h n l)
not_gone (CameSettled ∷ h) n l = not_gone h n l
not_gone (Went o ∷ h) n l = ap (λ b. out_of (if b then option_map (going_under o) (known h n) else known h n)) (is_other (gone h) n (omega (arith, l))) ∙ not_gone h n (omega (arith, l))
not_gone (Settled m ∷ h) n l = out_settled (m == n) (known h n) (not_gone h n l)
not_gone (Held m ∷ h) n l = out_more (m == n) (known h n) (not_gone h n l)
not_gone (Told m ∷ h) n l = out_less (m == n) (known h n) (not_gone h n l)
not_gone (Leaves ∷ h) n l = not_gone h n l
not_gone (Ended ∷ h) n l = refl

pub open_is_out : (x : Option Known) (o : ℕ) → open_out x ≡ Some o → out_of x ≡ Some o
open_is_out None o is = is
open_is_out (Some k) o is = by k.is_unsettled is
  where
    by : (b : Bool) → (if b then k.id_out else None) ≡ Some o → k.id_out ≡ Some o
    by true e = e
    by false e = absurd (cc)

has_gone : (h : History) (n o : ℕ) → open_out (known h n) ≡ Some o → (gone h == n) ≡ false
has_gone h n o is = by_test (gone h == n)
    (λ e. let same : gone h ≡ n = eqb-true (gone h) n e in
    absurd (nothing (sym (not_gone h n (omega (arith, same))) ∙ open_is_out (known h n) o is)))
    (λ e. e)
  where
    nothing : None ≡ Some o → ⊥
    nothing h = absurd (cc)

-- what settles another delivery
unless_some : (m n : ℕ) (found : Option ℕ) → unless m found ≡ Some n → found ≡ Some n
unless_some m n None h = absurd (cc)
unless_some m n (Some k) h = by (m == k) h
  where
    by : (test : Bool) → (if test then None else Some k) ≡ Some n → Some k ≡ Some n
    by true e = absurd (cc)
    by false e = e

unless_other : (m n : ℕ) (found : Option ℕ) → unless m found ≡ Some n → (m == n) ≡ false
unless_other m n None h = absurd (cc)
unless_other m n (Some k) h = by_test (m == k)
    (λ e. absurd (gone_by (sym (ap (λ b. if b then None else Some k) e) ∙ h)))
    (λ e. subst (λ (j : ℕ). (m == j) ≡ false) (same (sym (ap (λ b. if b then None else Some k) e) ∙ h)) e)
  where
    gone_by : None ≡ Some n → ⊥
    gone_by h = absurd (cc)

    same : Some k ≡ Some n → k ≡ n
    same h = cc

-- steps that leave the id under which an unsettled delivery came
pub in_goes : (b : Bool) (o : ℕ) (x : Option Known) → open_in (if b then option_map (going_under o) x else x) ≡ open_in x
in_goes true o None = refl
in_goes true o (Some k) = refl
in_goes false o x = refl

pub in_more : (b : Bool) (x : Option Known) → open_in (if b then option_map one_more x else x) ≡ open_in x
in_more true None = refl
in_more true (Some k) = refl
in_more false x = refl

pub is_open : (b : Bool) (found : Option ℕ) (i : ℕ) → (if b then found else None) ≡ Some i → b ≡ true
is_open true found i is = refl
is_open false found i is = absurd (cc)

open_kept : (F : Option Known → Option ℕ) (k : Known) → k.is_unsettled ≡ true → F (unless_over k) ≡ F (Some k)
open_kept F k still = ap (λ b. F (if b || not (k.held == 0) then Some k else None)) still

in_less : (b : Bool) (i : ℕ) (x : Option Known) → open_in x ≡ Some i → open_in (if b then option_and_then one_less x else x) ≡ Some i
in_less true i None is = absurd (cc)
in_less true i (Some k) is = open_kept open_in (record k { held = k.held - 1 }) (is_open k.is_unsettled (Some k.id_in) i is) ∙ is
in_less false i x is = is

-- The id of the sender that names a delivery is the one under which that came, and it is unsettled.
pub named_in : (h : History) (i n : ℕ) → claimed h i ≡ Some n → open_in (known h n) ≡ Some i
named_in [] i n is = absurd (cc)
named_in (Came j ∷ h) i n is = by_test (j == i)
    (λ e. newest e (sym (ap (λ b. if b then Some (started h) else claimed h i) e) ∙ is))
    (λ e. older (named_in h i n (sym (ap (λ b. if b then Some (started h) else claimed h i) e) ∙ is)))
  where
    newest : (j == i) ≡ true → Some (started h) ≡ Some n → open_in (if started h == n then Some (came_under j) else known h n) ≡ Some i
    newest e same =
        let at : started h ≡ n = cc in
        ap (λ b. open_in (if b then Some (came_under j) else known h n)) (eq-eqb (started h) n at) ∙ ap Some (eqb-true j i e)

    older : open_in (known h n) ≡ Some i → open_in (if started h == n then Some (came_under j) else known h n) ≡ Some i
    older is = ap (λ b. open_in (if b then Some (came_under j) else known h n)) (some_come open_in h n i refl is) ∙ is
named_in (CameSettled ∷ h) i n is = named_in h i n is
named_in (Went o ∷ h) i n is = in_goes (gone h == n) o (known h n) ∙ named_in h i n is
named_in (Settled m ∷ h) i n is =
    ap (λ b. open_in (if b then option_and_then when_settled (known h n) else known h n)) (unless_other m n (claimed h i) is) ∙ named_in h i n (unless_some m n (claimed h i) is)
named_in (Held m ∷ h) i n is = in_more (m == n) (known h n) ∙ named_in h i n is
named_in (Told m ∷ h) i n is = in_less (m == n) i (known h n) (named_in h i n is)
named_in (Leaves ∷ h) i n is = named_in h i n is
named_in (Ended ∷ h) i n is = absurd (cc)

-- steps that leave the id under which an unsettled delivery went
pub went_more : (b : Bool) (x : Option Known) → open_out (if b then option_map one_more x else x) ≡ open_out x
went_more true None = refl
went_more true (Some k) = refl
went_more false x = refl

went_less : (b : Bool) (o : ℕ) (x : Option Known) → open_out x ≡ Some o → open_out (if b then option_and_then one_less x else x) ≡ Some o
went_less true o None is = absurd (cc)
went_less true o (Some k) is = open_kept open_out (record k { held = k.held - 1 }) (is_open k.is_unsettled k.id_out o is) ∙ is
went_less false o x is = is

-- one that goes, if it is unsettled
going_is : (m n : ℕ) (x : Option Known) → if_unsettled m x ≡ Some n → m ≡ n
going_is m n None is = absurd (cc)
going_is m n (Some k) is = by k.is_unsettled is
  where
    by : (b : Bool) → (if b then Some m else None) ≡ Some n → m ≡ n
    by true e = cc
    by false e = absurd (cc)

going_open : (m n p : ℕ) (x : Option Known) → if_unsettled m x ≡ Some n → open_out (option_map (going_under p) x) ≡ Some p
going_open m n p None is = absurd (cc)
going_open m n p (Some k) is = ap (λ b. if b then Some p else None) (is_open k.is_unsettled (Some m) n is)

-- The id of the router that names a delivery is the one under which that went, and it is unsettled.
pub named_out : (h : History) (o n : ℕ) → number_out h o ≡ Some n → open_out (known h n) ≡ Some o
named_out [] o n is = absurd (cc)
named_out (Came j ∷ h) o n is =
    let before = named_out h o n is in
    ap (λ b. open_out (if b then Some (came_under j) else known h n)) (some_come open_out h n o refl before) ∙ before
named_out (CameSettled ∷ h) o n is = named_out h o n is
named_out (Went p ∷ h) o n is = by_test (p == o)
    (λ e. newest e (sym (ap (λ b. if b then if_unsettled (gone h) (known h (gone h)) else number_out h o) e) ∙ is))
    (λ e. older (named_out h o n (sym (ap (λ b. if b then if_unsettled (gone h) (known h (gone h)) else number_out h o) e) ∙ is)))
  where
    newest : (p == o) ≡ true → if_unsettled (gone h) (known h (gone h)) ≡ Some n → open_out (if gone h == n then option_map (going_under p) (known h n) else known h n) ≡ Some o
    newest e same =
        subst (λ m. open_out (if gone h == m then option_map (going_under p) (known h m) else known h m) ≡ Some o) (going_is (gone h) n (known h (gone h)) same)
        (ap (λ b. open_out (if b then option_map (going_under p) (known h (gone h)) else known h (gone h))) (is_itself (gone h))
        ∙ going_open (gone h) n p (known h (gone h)) same ∙ ap Some (eqb-true p o e))

    older : open_out (known h n) ≡ Some o → open_out (if gone h == n then option_map (going_under p) (known h n) else known h n) ≡ Some o
    older is = ap (λ b. open_out (if b then option_map (going_under p) (known h n) else known h n)) (has_gone h n o is) ∙ is
named_out (Settled m ∷ h) o n is =
    ap (λ b. open_out (if b then option_and_then when_settled (known h n) else known h n)) (unless_other m n (number_out h o) is) ∙ named_out h o n (unless_some m n (number_out h o) is)
named_out (Held m ∷ h) o n is = went_more (m == n) (known h n) ∙ named_out h o n is
named_out (Told m ∷ h) o n is = went_less (m == n) o (known h n) (named_out h o n is)
named_out (Leaves ∷ h) o n is = named_out h o n is
named_out (Ended ∷ h) o n is = absurd (cc)
