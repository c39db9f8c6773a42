-- What holds of the ids of a link on which no delivery comes, or goes, under an id that is in use.
use Rattle.std.proofs.Common.{◌≡◌, ◌+◌, ◌∙◌, ◌<◌, ◌≤◌, ℕ, Bool, true, false, refl, sym, ap, ◌-◌, ◌||◌, not, [], ◌∷◌, ◌++◌, Option, Some, None, if◌then◌else◌, arith}
use Rattle.std.specs.Prelude.{◌==◌, nat_lt, option_map, option_and_then}
use Rattle.std.specs.Option.{is_some}
use Rattle.std.proofs.lemmas.Bool.{eqb-true, eqb-false, eq-eqb, ltb-true, ltb-false, both_ways}
use Rattle.route_links.specs.declared.ids.Known.{Known}
use Rattle.route_links.specs.Naming.{Came, CameSettled, Went, Settled, Held, Told, Leaves, Ended, History, started, gone, came_under, going_under, one_more, when_settled, one_less, known, unless, claimed, if_unsettled, number_out, open_in, out_of, open_out, waiting, IsLawful}
use Rattle.route_links.proofs.Kept.{by_test, is_itself, is_open, in_goes, in_more, went_more, not_come, not_gone, open_is_out, named_in, named_out}

not_some : {i : ℕ} → None ≡ Some i → ⊥
not_some h = absurd (cc)

same_value : {m n : ℕ} → Some m ≡ Some n → m ≡ n
same_value h = cc

-- what was kept
kept_in : (c : Bool) (k : Known) (i : ℕ) → open_in (if c then Some k else None) ≡ Some i → open_in (Some k) ≡ Some i
kept_in true k i is = is
kept_in false k i is = absurd (not_some is)

kept_out : (c : Bool) (k : Known) (o : ℕ) → open_out (if c then Some k else None) ≡ Some o → open_out (Some k) ≡ Some o
kept_out true k o is = is
kept_out false k o is = absurd (not_some is)

less_in : (b : Bool) (x : Option Known) (i : ℕ) → open_in (if b then option_and_then one_less x else x) ≡ Some i → open_in x ≡ Some i
less_in true None i is = is
less_in true (Some k) i is = kept_in (k.is_unsettled || not (k.held - 1 == 0)) (record k { held = k.held - 1 }) i is
less_in false x i is = is

less_out : (b : Bool) (x : Option Known) (o : ℕ) → open_out (if b then option_and_then one_less x else x) ≡ Some o → open_out x ≡ Some o
less_out true None o is = is
less_out true (Some k) o is = kept_out (k.is_unsettled || not (k.held - 1 == 0)) (record k { held = k.held - 1 }) o is
less_out false x o is = is

-- one that is settled is open on neither end
closed : (c : Bool) (k : Known) → k.is_unsettled ≡ false → (open_in (if c then Some k else None) ≡ None) × (open_out (if c then Some k else None) ≡ None)
closed true k shut = (ap (λ b. if b then Some k.id_in else None) shut, ap (λ b. if b then k.id_out else None) shut)
closed false k shut = (refl, refl)

settled_in : (x : Option Known) → open_in (option_and_then when_settled x) ≡ None
settled_in None = refl
settled_in (Some k) = (closed (false || not (k.held == 0)) (record k { is_unsettled = false }) refl).0

settled_out : (x : Option Known) → open_out (option_and_then when_settled x) ≡ None
settled_out None = refl
settled_out (Some k) = (closed (false || not (k.held == 0)) (record k { is_unsettled = false }) refl).1

-- An unsettled delivery is named by the id under which it came, ...
pub names_in : (h : History) (n i : ℕ) → IsLawful h → open_in (known h n) ≡ Some i → claimed h i ≡ Some n
names_in [] n i lawful is = absurd (not_some is)
names_in (Came j ∷ h) n i lawful is = by_test (started h == n)
    (λ e.
    let at : j ≡ i = same_value (sym (ap (λ b. open_in (if b then Some (came_under j) else known h n)) e) ∙ is) in
    ap (λ b. if b then Some (started h) else claimed h i) (eq-eqb j i at) ∙ ap Some (eqb-true (started h) n e))
    (λ e.
    let before : claimed h i ≡ Some n = names_in h n i lawful.1 (sym (ap (λ b. open_in (if b then Some (came_under j) else known h n)) e) ∙ is) in
    let other : (j == i) ≡ false = by_test (j == i) (λ f. absurd (not_some (sym lawful.0 ∙ ap (claimed h) (eqb-true j i f) ∙ before))) (λ f. f) in
    ap (λ b. if b then Some (started h) else claimed h i) other ∙ before)
names_in (CameSettled ∷ h) n i lawful is = names_in h n i lawful is
names_in (Went o ∷ h) n i lawful is = names_in h n i lawful.2 (sym (in_goes (gone h == n) o (known h n)) ∙ is)
names_in (Settled m ∷ h) n i lawful is = by_test (m == n)
    (λ e. absurd (not_some (sym (settled_in (known h n)) ∙ sym (ap (λ b. open_in (if b then option_and_then when_settled (known h n) else known h n)) e) ∙ is)))
    (λ e. ap (unless m) (names_in h n i lawful (sym (ap (λ b. open_in (if b then option_and_then when_settled (known h n) else known h n)) e) ∙ is)) ∙ ap (λ b. if b then None else Some n) e)
names_in (Held m ∷ h) n i lawful is = names_in h n i lawful.1 (sym (in_more (m == n) (known h n)) ∙ is)
names_in (Told m ∷ h) n i lawful is = names_in h n i lawful (less_in (m == n) (known h n) i is)
names_in (Leaves ∷ h) n i lawful is = names_in h n i lawful is
names_in (Ended ∷ h) n i lawful is = absurd (not_some is)

-- ... and by the one under which it went
went_under : (m p o : ℕ) (x : Option Known) → open_out (option_map (going_under p) x) ≡ Some o → (p ≡ o) × (if_unsettled m x ≡ Some m)
went_under m p o None is = absurd (not_some is)
went_under m p o (Some k) is =
    let still : k.is_unsettled ≡ true = is_open k.is_unsettled (Some p) o is in
    (same_value (sym (ap (λ b. if b then Some p else None) still) ∙ is), ap (λ b. if b then Some m else None) still)

pub names_out : (h : History) (n o : ℕ) → IsLawful h → open_out (known h n) ≡ Some o → number_out h o ≡ Some n
names_out [] n o lawful is = absurd (not_some is)
names_out (Came j ∷ h) n o lawful is = by_test (started h == n)
    (λ e. absurd (not_some (sym (ap (λ b. open_out (if b then Some (came_under j) else known h n)) e) ∙ is)))
    (λ e. names_out h n o lawful.1 (sym (ap (λ b. open_out (if b then Some (came_under j) else known h n)) e) ∙ is))
names_out (CameSettled ∷ h) n o lawful is = names_out h n o lawful is
names_out (Went p ∷ h) n o lawful is = by_test (gone h == n)
    (λ e.
    let same : gone h ≡ n = eqb-true (gone h) n e in
    let went = went_under n p o (known h n) (sym (ap (λ b. open_out (if b then option_map (going_under p) (known h n) else known h n)) e) ∙ is) in
    ap (λ b. if b then if_unsettled (gone h) (known h (gone h)) else number_out h o) (eq-eqb p o went.0) ∙ ap (λ m. if_unsettled m (known h m)) same ∙ went.1)
    (λ e.
    let before : number_out h o ≡ Some n = names_out h n o lawful.2 (sym (ap (λ b. open_out (if b then option_map (going_under p) (known h n) else known h n)) e) ∙ is) in
    let other : (p == o) ≡ false = by_test (p == o) (λ f. absurd (not_some (sym lawful.0 ∙ ap (number_out h) (eqb-true p o f) ∙ before))) (λ f. f) in
    ap (λ b. if b then if_unsettled (gone h) (known h (gone h)) else number_out h o) other ∙ before)
names_out (Settled m ∷ h) n o lawful is = by_test (m == n)
    (λ e. absurd (not_some (sym (settled_out (known h n)) ∙ sym (ap (λ b. open_out (if b then option_and_then when_settled (known h n) else known h n)) e) ∙ is)))
    (λ e. ap (unless m) (names_out h n o lawful (sym (ap (λ b. open_out (if b then option_and_then when_settled (known h n) else known h n)) e) ∙ is)) ∙ ap (λ b. if b then None else Some n) e)
names_out (Held m ∷ h) n o lawful is = names_out h n o lawful.1 (sym (went_more (m == n) (known h n)) ∙ is)
names_out (Told m ∷ h) n o lawful is = names_out h n o lawful (less_out (m == n) (known h n) o is)
names_out (Leaves ∷ h) n o lawful is = names_out h n o lawful is
names_out (Ended ∷ h) n o lawful is = absurd (not_some is)

-- A delivery that is named came, and one that the receiver may name went.
pub in_came : (h : History) (i n : ℕ) → claimed h i ≡ Some n → n < started h
in_came h i n is = by_test (nat_lt n (started h)) (λ e. ltb-true n (started h) e)
    (λ e. let late : started h ≤ n = ltb-false n (started h) e in absurd (not_some (sym (ap open_in (not_come h n late)) ∙ named_in h i n is)))

pub out_went : (h : History) (o n : ℕ) → number_out h o ≡ Some n → n < gone h
out_went h o n is = by_test (nat_lt n (gone h)) (λ e. ltb-true n (gone h) e)
    (λ e. let late : gone h ≤ n = ltb-false n (gone h) e in absurd (not_some (sym (not_gone h n late) ∙ open_is_out (known h n) o (named_out h o n is))))

-- So no two have one id.
pub one_in : (h : History) (m n i : ℕ) → IsLawful h → open_in (known h m) ≡ Some i → open_in (known h n) ≡ Some i → m ≡ n
one_in h m n i lawful a b = same_value (sym (names_in h m i lawful a) ∙ names_in h n i lawful b)

pub one_out : (h : History) (m n o : ℕ) → IsLawful h → open_out (known h m) ≡ Some o → open_out (known h n) ≡ Some o → m ≡ n
one_out h m n o lawful a b = same_value (sym (names_out h m o lawful a) ∙ names_out h n o lawful b)

-- A delivery that is settled stays so, whatever comes later.
abbrev is_unsettled : Option Known → Bool
is_unsettled None = false
is_unsettled (Some k) = k.is_unsettled

shut_kept : (c : Bool) (k : Known) → k.is_unsettled ≡ false → is_unsettled (if c then Some k else None) ≡ false
shut_kept true k shut = shut
shut_kept false k shut = refl

shut_goes : (b : Bool) (o : ℕ) (x : Option Known) → is_unsettled x ≡ false → is_unsettled (if b then option_map (going_under o) x else x) ≡ false
shut_goes true o None shut = refl
shut_goes true o (Some k) shut = shut
shut_goes false o x shut = shut

shut_more : (b : Bool) (x : Option Known) → is_unsettled x ≡ false → is_unsettled (if b then option_map one_more x else x) ≡ false
shut_more true None shut = refl
shut_more true (Some k) shut = shut
shut_more false x shut = shut

shut_less : (b : Bool) (x : Option Known) → is_unsettled x ≡ false → is_unsettled (if b then option_and_then one_less x else x) ≡ false
shut_less true None shut = refl
shut_less true (Some k) shut = shut_kept (k.is_unsettled || not (k.held - 1 == 0)) (record k { held = k.held - 1 }) shut
shut_less false x shut = shut

settled_shut : (x : Option Known) → is_unsettled (option_and_then when_settled x) ≡ false
settled_shut None = refl
settled_shut (Some k) = shut_kept (false || not (k.held == 0)) (record k { is_unsettled = false }) refl

shut_settled : (b : Bool) (x : Option Known) → is_unsettled x ≡ false → is_unsettled (if b then option_and_then when_settled x else x) ≡ false
shut_settled true x shut = settled_shut x
shut_settled false x shut = shut

more_started : (later h : History) → started h ≤ started (later ++ h)
more_started [] h = omega arith
more_started (Came i ∷ later) h = let l = more_started later h in omega (arith, l)
more_started (CameSettled ∷ later) h = let l = more_started later h in omega (arith, l)
more_started (Went o ∷ later) h = more_started later h
more_started (Settled m ∷ later) h = more_started later h
more_started (Held m ∷ later) h = more_started later h
more_started (Told m ∷ later) h = more_started later h
more_started (Leaves ∷ later) h = more_started later h
more_started (Ended ∷ later) h = more_started later h

stays_shut : (later h : History) (n : ℕ) → n < started h → is_unsettled (known (later ++ Settled n ∷ h) n) ≡ false
stays_shut [] h n old = ap (λ b. is_unsettled (if b then option_and_then when_settled (known h n) else known h n)) (is_itself n) ∙ settled_shut (known h n)
stays_shut (Came i ∷ later) h n old =
    let all = later ++ Settled n ∷ h in
    let l : started h ≤ started (later ++ Settled n ∷ h) = more_started later (Settled n ∷ h) in
    let other : (started (later ++ Settled n ∷ h) == n) ≡ false = by_test (started (later ++ Settled n ∷ h) == n)
    (λ e. let same : started (later ++ Settled n ∷ h) ≡ n = eqb-true (started (later ++ Settled n ∷ h)) n e in absurd (omega (arith, l, old, same))) (λ e. e) in
    ap (λ b. is_unsettled (if b then Some (came_under i) else known (later ++ Settled n ∷ h) n)) other ∙ stays_shut later h n old
stays_shut (CameSettled ∷ later) h n old = stays_shut later h n old
stays_shut (Went o ∷ later) h n old = shut_goes (gone (later ++ Settled n ∷ h) == n) o (known (later ++ Settled n ∷ h) n) (stays_shut later h n old)
stays_shut (Settled m ∷ later) h n old = shut_settled (m == n) (known (later ++ Settled n ∷ h) n) (stays_shut later h n old)
stays_shut (Held m ∷ later) h n old = shut_more (m == n) (known (later ++ Settled n ∷ h) n) (stays_shut later h n old)
stays_shut (Told m ∷ later) h n old = shut_less (m == n) (known (later ++ Settled n ∷ h) n) (stays_shut later h n old)
stays_shut (Leaves ∷ later) h n old = stays_shut later h n old
stays_shut (Ended ∷ later) h n old = refl

open_in_is : (x : Option Known) (i : ℕ) → open_in x ≡ Some i → is_unsettled x ≡ true
open_in_is None i is = absurd (not_some is)
open_in_is (Some k) i is = is_open k.is_unsettled (Some k.id_in) i is

open_out_is : (x : Option Known) (o : ℕ) → open_out x ≡ Some o → is_unsettled x ≡ true
open_out_is None o is = absurd (not_some is)
open_out_is (Some k) o is = is_open k.is_unsettled k.id_out o is

pub settled_not_in : (later h : History) (n i : ℕ) → n < started h → claimed (later ++ Settled n ∷ h) i ≡ Some n → ⊥
settled_not_in later h n i old is =
    let x = known (later ++ Settled n ∷ h) n in
    both_ways (is_unsettled (known (later ++ Settled n ∷ h) n)) (stays_shut later h n old) (open_in_is x i (named_in (later ++ Settled n ∷ h) i n is))

pub settled_not_out : (later h : History) (n o : ℕ) → n < started h → number_out (later ++ Settled n ∷ h) o ≡ Some n → ⊥
settled_not_out later h n o old is =
    let x = known (later ++ Settled n ∷ h) n in
    both_ways (is_unsettled (known (later ++ Settled n ∷ h) n)) (stays_shut later h n old) (open_out_is x o (named_out (later ++ Settled n ∷ h) o n is))

-- What is known of a delivery that went has the id under which it went.
abbrev has_out : Option Known → Bool
has_out x = not (is_some x) || is_some (out_of x)

out_kept : (c : Bool) (k : Known) → is_some k.id_out ≡ true → has_out (if c then Some k else None) ≡ true
out_kept true k has = has
out_kept false k has = refl

out_settled : (b : Bool) (x : Option Known) → has_out x ≡ true → has_out (if b then option_and_then when_settled x else x) ≡ true
out_settled true None has = refl
out_settled true (Some k) has = out_kept (false || not (k.held == 0)) (record k { is_unsettled = false }) has
out_settled false x has = has

out_less : (b : Bool) (x : Option Known) → has_out x ≡ true → has_out (if b then option_and_then one_less x else x) ≡ true
out_less true None has = refl
out_less true (Some k) has = out_kept (k.is_unsettled || not (k.held - 1 == 0)) (record k { held = k.held - 1 }) has
out_less false x has = has

out_more : (b : Bool) (x : Option Known) → has_out x ≡ true → has_out (if b then option_map one_more x else x) ≡ true
out_more true None has = refl
out_more true (Some k) has = has
out_more false x has = has

out_goes : (o : ℕ) (x : Option Known) → has_out (option_map (going_under o) x) ≡ true
out_goes o None = refl
out_goes o (Some k) = refl

gone_started : (h : History) → IsLawful h → gone h ≤ started h
gone_started [] lawful = omega arith
gone_started (Came i ∷ h) lawful = let l = gone_started h lawful.1 in omega (arith, l)
gone_started (CameSettled ∷ h) lawful = let l = gone_started h lawful in omega (arith, l)
gone_started (Went o ∷ h) lawful = let l = lawful.1 in omega (arith, l)
gone_started (Settled m ∷ h) lawful = gone_started h lawful
gone_started (Held m ∷ h) lawful = gone_started h lawful.1
gone_started (Told m ∷ h) lawful = gone_started h lawful
gone_started (Leaves ∷ h) lawful = gone_started h lawful
gone_started (Ended ∷ h) lawful = gone_started h lawful

went_has_out : (h : History) (n : ℕ) → IsLawful h → n < gone h → has_out (known h n) ≡ true
went_has_out [] n lawful l = absurd (omega (arith, l))
went_has_out (Came i ∷ h) n lawful l =
    let most = gone_started h lawful.1 in
    let other : (started h == n) ≡ false = by_test (started h == n) (λ e. let same : started h ≡ n = eqb-true (started h) n e in absurd (omega (arith, l, most, same))) (λ e. e) in
    ap (λ b. has_out (if b then Some (came_under i) else known h n)) other ∙ went_has_out h n lawful.1 l
went_has_out (CameSettled ∷ h) n lawful l = went_has_out h n lawful l
went_has_out (Went o ∷ h) n lawful l = by_test (gone h == n)
    (λ e. ap (λ b. has_out (if b then option_map (going_under o) (known h n) else known h n)) e ∙ out_goes o (known h n))
    (λ e.
    let other : gone h ≡ n → ⊥ = eqb-false (gone h) n e in
    ap (λ b. has_out (if b then option_map (going_under o) (known h n) else known h n)) e ∙ went_has_out h n lawful.2 (omega (arith, l, other)))
went_has_out (Settled m ∷ h) n lawful l = out_settled (m == n) (known h n) (went_has_out h n lawful l)
went_has_out (Held m ∷ h) n lawful l = out_more (m == n) (known h n) (went_has_out h n lawful.1 l)
went_has_out (Told m ∷ h) n lawful l = out_less (m == n) (known h n) (went_has_out h n lawful l)
went_has_out (Leaves ∷ h) n lawful l = went_has_out h n lawful l
went_has_out (Ended ∷ h) n lawful l = refl

pub went_under_an_id : (h : History) (n : ℕ) → IsLawful h → n < gone h → is_some (known h n) ≡ true → is_some (out_of (known h n)) ≡ true
went_under_an_id h n lawful l is = ap (λ b. not b || is_some (out_of (known h n))) (sym is) ∙ went_has_out h n lawful l

-- It is known how many dispositions are held.
abbrev held_of : Option Known → ℕ
held_of None = 0
held_of (Some k) = k.held

held_goes : (b : Bool) (o : ℕ) (x : Option Known) → held_of (if b then option_map (going_under o) x else x) ≡ held_of x
held_goes true o None = refl
held_goes true o (Some k) = refl
held_goes false o x = refl

held_kept : (still none : Bool) (k : Known) → (k.held == 0) ≡ none → held_of (if still || not none then Some k else None) ≡ k.held
held_kept true none k is = refl
held_kept false true k is = sym (eqb-true k.held 0 is)
held_kept false false k is = refl

held_settled : (b : Bool) (x : Option Known) → held_of (if b then option_and_then when_settled x else x) ≡ held_of x
held_settled true None = refl
held_settled true (Some k) = held_kept false (k.held == 0) (record k { is_unsettled = false }) refl
held_settled false x = refl

held_less : (b : Bool) (x : Option Known) (n : ℕ) → held_of x ≡ n → held_of (if b then option_and_then one_less x else x) ≡ (if b then n - 1 else n)
held_less true None n is = ap (λ k. k - 1) is
held_less true (Some k) n is = held_kept k.is_unsettled (k.held - 1 == 0) (record k { held = k.held - 1 }) refl ∙ ap (λ j. j - 1) is
held_less false x n is = is

held_more : (b : Bool) (x : Option Known) (n : ℕ) → (b ≡ true → is_some x ≡ true) → held_of x ≡ n → held_of (if b then option_map one_more x else x) ≡ (if b then n + 1 else n)
held_more true None n there is = absurd (both_ways true (sym (there refl)) refl)
held_more true (Some k) n there is = ap (λ j. j + 1) is
held_more false x n there is = is

held_came : (b : Bool) (i : ℕ) (x : Option Known) → (b ≡ true → x ≡ None) → held_of (if b then Some (came_under i) else x) ≡ held_of x
held_came true i x none = ap held_of (sym (none refl))
held_came false i x none = refl

held_waiting : (h : History) (n : ℕ) → IsLawful h → held_of (known h n) ≡ waiting h n
held_waiting [] n lawful = refl
held_waiting (Came i ∷ h) n lawful =
    held_came (started h == n) i (known h n) (λ e. let same : started h ≡ n = eqb-true (started h) n e in not_come h n (omega (arith, same))) ∙ held_waiting h n lawful.1
held_waiting (CameSettled ∷ h) n lawful = held_waiting h n lawful
held_waiting (Went o ∷ h) n lawful = held_goes (gone h == n) o (known h n) ∙ held_waiting h n lawful.2
held_waiting (Settled m ∷ h) n lawful = held_settled (m == n) (known h n) ∙ held_waiting h n lawful
held_waiting (Held m ∷ h) n lawful =
    held_more (m == n) (known h n) (waiting h n) (λ e. ap (λ j. is_some (known h j)) (sym (eqb-true m n e)) ∙ lawful.0) (held_waiting h n lawful.1)
held_waiting (Told m ∷ h) n lawful = held_less (m == n) (known h n) (waiting h n) (held_waiting h n lawful)
held_waiting (Leaves ∷ h) n lawful = held_waiting h n lawful
held_waiting (Ended ∷ h) n lawful = refl

some_held : (x : Option Known) → 1 ≤ held_of x → is_some x ≡ true
some_held None l = absurd (omega (arith, l))
some_held (Some k) l = refl

pub held_is_known : (h : History) (n : ℕ) → IsLawful h → 1 ≤ waiting h n → is_some (known h n) ≡ true
held_is_known h n lawful l = let same = held_waiting h n lawful in some_held (known h n) (omega (arith, l, same))
