-- Names that are forgotten after their deliveries are decided.
use Rattle.std.proofs.Common.{◌≡◌, ◌∙◌, ◌||◌, ◌&&◌, ℕ, Bool, true, false, refl, sym, ap, subst, List, ◌∷◌, Option, Some, None}
use Rattle.std.specs.Prelude.{◌==◌, if◌then◌else◌}
use Rattle.std.specs.List.{list_any}
use Rattle.std.proofs.lemmas.Bool.{eqb-true}
use Rattle.router_trace.specs.Trace.{Trace}
use Rattle.router_trace.specs.Deliveries.{Delivery, delivery, is_id, is_number, stands_on, unless_over}
use Rattle.state_deliveries.specs.declared.change.Change.{Change}
use Rattle.state_deliveries.specs.declared.change.Change.TheVariants as change
use Rattle.state_deliveries.specs.declared.spots.Spot.{Spot}
use Rattle.state_deliveries.specs.Hearing.{picks, id_of}
use Rattle.state_deliveries.specs.Indexing.{is_by_place}
use Rattle.state_deliveries.specs.Naming.{is_open, MayBeForgotten, Remembers, IsClosed, Forgets, IsSmall}
use Rattle.state_deliveries.specs.Stepping.{is_in, changed, after_change, IsKept}
use Rattle.state_deliveries.proofs.Again.{finish, twice}
use Rattle.state_deliveries.proofs.Placed.{both_second, same_number}
use Rattle.state_deliveries.proofs.Puts.{kept_after}

pub stays : (known : ℕ → Option Delivery) (v : Option ℕ) → Forgets known v v
stays known None = tt
stays known (Some n) = refl

-- one after another
still_closed : (known now : ℕ → Option Delivery) → ((n : ℕ) → is_open (known n) ≡ false → is_open (now n) ≡ false) → (v : Option ℕ) → IsClosed known v → IsClosed now v
still_closed known now closes None x = tt
still_closed known now closes (Some n) x = closes n x

pub forgets_then : (known now : ℕ → Option Delivery) → ((n : ℕ) → is_open (known n) ≡ false → is_open (now n) ≡ false) → (new middle old : Option ℕ)
    → Forgets known middle old → Forgets now new middle → Forgets now new old
forgets_then known now closes (Some n) middle old x y = subst (λ v. Forgets known v old) y x
forgets_then known now closes None (Some m) old x y = subst (IsClosed now) (sym x) y
forgets_then known now closes None None old x y = still_closed known now closes old x

-- what is left agrees with the trace
pub forgotten_row : (t : Trace) (known : ℕ → Option Delivery) → ((n : ℕ) → is_open (known n) ≡ false → is_open (delivery t n) ≡ false) → (new old view : Option ℕ)
    → Forgets known new old → Remembers t old view → Remembers t new view
forgotten_row t known closes (Some n) old view x y = subst (λ v. Remembers t v view) x y
forgotten_row t known closes None None view x y = y
forgotten_row t known closes None (Some m) view x y = subst (MayBeForgotten t) (sym y) (closes m x)

pub small_left : (known : ℕ → Option Delivery) (id : ℕ) (new old : Option ℕ) → Forgets known new old → IsSmall id old → IsSmall id new
small_left known id None old x small = tt
small_left known id (Some n) old x small = subst (IsSmall id) x small

-- the id at one place, which names a delivery
is_there : (v : Option ℕ) (n : ℕ) → is_number v n ≡ true → v ≡ Some n
is_there None n e = absurd cc
is_there (Some m) n e = ap Some (eqb-true m n e)

pub picked_there : (names : ℕ → Option ℕ) (n id : ℕ) (own_id : Option ℕ) → is_number (Some n) n ≡ picks names n own_id id → names id ≡ Some n
picked_there names n id own_id e = is_there (names id) n (both_second (is_id own_id id) (is_number (names id) n) (sym e ∙ same_number n))

pub one_forgotten : (known : ℕ → Option Delivery) (names : ℕ → ℕ → ℕ → Option ℕ) (p : Spot) (number c o q : ℕ) (new : Option ℕ) → names p.conn p.own p.at ≡ Some number
    → new ≡ (if p.conn == c then (if p.own == o then (if p.at == q then (if is_open (known number) then names c o q else None) else names c o q) else names c o q) else names c o q)
    → Forgets known new (names c o q)
one_forgotten known names p number c o q new named e = rw e (by_tests (p.conn == c) (p.own == o) (p.at == q) (is_open (known number)) refl refl refl refl)
  where
    by_tests : (a b d u : Bool) → (p.conn == c) ≡ a → (p.own == o) ≡ b → (p.at == q) ≡ d → is_open (known number) ≡ u
        → Forgets known (if a then (if b then (if d then (if u then names c o q else None) else names c o q) else names c o q) else names c o q) (names c o q)
    by_tests true true true true e f g h = stays known (names c o q)
    by_tests true true true false e f g h = subst (IsClosed known) (sym named ∙ (λ i. names (eqb-true p.conn c e i) (eqb-true p.own o f i) (eqb-true p.at q g i))) h
    by_tests true true false u e f g h = stays known (names c o q)
    by_tests true false d u e f g h = stays known (names c o q)
    by_tests false b d u e f g h = stays known (names c o q)

-- a delivery that isn't undecided isn't decided again
closed_same : (x : Change) (v : Option Delivery) → is_by_place x ≡ false → is_open v ≡ false → IsKept v → after_change x v ≡ v
closed_same (change.Decided c o first last made) None e f keeps = refl
closed_same (change.Decided c o first last made) (Some d) e f keeps =
    ap (λ b. unless_over (if b && (stands_on d.link c o && is_in d.id first last) then record d { outcome = Some made } else d)) f ∙ keeps
closed_same (change.Ends g closed) v e f keeps = absurd cc
closed_same (change.Untold c o first last) v e f keeps = absurd cc
closed_same (change.Told c o first last) v e f keeps = absurd cc

pub kept_if : (b : Bool) (x : Change) (v : Option Delivery) → IsKept v → IsKept (if b then after_change x v else v)
kept_if true x v keeps = kept_after (changed x) v
kept_if false x v keeps = keeps

-- one more id of a range: it may be forgotten by now, if its delivery isn't undecided
number_left : (known : ℕ → Option Delivery) (n : ℕ) (new old : Option ℕ) → Forgets known new old → is_number new n ≡ true → is_number old n ≡ true
number_left known n None old x e = absurd cc
number_left known n (Some m) old x e = ap (λ v. is_number v n) x ∙ e

number_gone : (known : ℕ → Option Delivery) (n : ℕ) (new old : Option ℕ) → Forgets known new old → is_number new n ≡ false → is_number old n ≡ true → is_open (known n) ≡ false
number_gone known n (Some m) old x e f = let none : true ≡ false = sym f ∙ ap (λ v. is_number v n) x ∙ e in absurd cc
number_gone known n None None x e f = absurd cc
number_gone known n None (Some m) x e f = subst (λ k. is_open (known k) ≡ false) (eqb-true m n f) x

pub one_decided : (x : Change) (n id : ℕ) (more : List ℕ) (names now : ℕ → Option ℕ) (known : ℕ → Option Delivery) (after : Option Delivery)
    → is_by_place x ≡ false → IsKept (known n) → Forgets known (now id) (names id)
    → after ≡ (if picks now n (id_of (known n)) id then after_change x (known n) else known n)
    → finish x (list_any (picks names n (id_of after)) more) after ≡ finish x (list_any (picks names n (id_of (known n))) (id ∷ more)) (known n)
one_decided x n id more names now known after decides keeps left is =
    rw is (by_tests (is_id (id_of v) id) (is_number (now id) n) (is_number (names id) n)
    (number_left known n (now id) (names id) left) (number_gone known n (now id) (names id) left))
  where
    v : Option Delivery
    v = known n

    again : (b : Bool) → finish x b (after_change x v) ≡ after_change x v
    again true = twice x v
    again false = refl

    quiet : (b : Bool) → is_open v ≡ false → finish x b v ≡ after_change x v
    quiet true e = refl
    quiet false e = sym (closed_same x v decides e keeps)

    by_tests : (a r s : Bool) → (r ≡ true → s ≡ true) → (r ≡ false → s ≡ true → is_open v ≡ false)
        → finish x (list_any (picks names n (id_of (if a && r then after_change x v else v))) more) (if a && r then after_change x v else v)
        ≡ finish x ((a && s) || list_any (picks names n (id_of v)) more) v
    by_tests true true true f g = again (list_any (picks names n (id_of (after_change x v))) more)
    by_tests true true false f g = let none : false ≡ true = f refl in absurd cc
    by_tests true false true f g = quiet (list_any (picks names n (id_of v)) more) (g refl refl)
    by_tests true false false f g = refl
    by_tests false r s f g = refl
