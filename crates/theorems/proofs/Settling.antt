-- The book after the acts of an event: what becomes of a row that it had, and which termini stay.
use Rattle.std.proofs.Common.{◌≡◌, ◌∙◌, sym, ap, refl, subst, ℕ, ◌+◌, ◌≤◌, ◌<◌, Bool, true, false, not, ◌&&◌, ◌||◌, cond, List, [], ◌∷◌, arith}
use Rattle.std.specs.Prelude.{◌==◌, Option, Some, None, find, filter, filter_map, is_none, if◌then◌else◌}
use Rattle.std.specs.List.{cons_option, list_any}
use Rattle.std.specs.Option.{option_and_then, option_or}
use Rattle.std.proofs.lemmas.Bool.Decides.{nat_tests}
use Rattle.std.proofs.lemmas.Bool.{eqb-true}
use Rattle.std.proofs.lemmas.List.Folds.{find-append}
use Rattle.std.proofs.lemmas.Slice.Eq.{bytes_eq-Decides}
use Rattle.amqp_model.specs.declared.state.DeliveryState.{DeliveryState}
use Rattle.book_model.specs.declared.act.Act.{Act}
use Rattle.book_model.specs.declared.act.Act.TheVariants.{Make, Admit, Drop}
use Rattle.book_model.specs.declared.act.Admission.{Admission}
use Rattle.book_model.specs.declared.act.Decision.{Decision}
use Rattle.book_model.specs.declared.fault.BookFault.{BookFault}
use Rattle.book_model.specs.declared.fault.BookFault.TheVariants.{NoTerminus}
use Rattle.book_model.specs.declared.row.Row.{Row}
use Rattle.book_model.specs.declared.row.RowNumber.{RowNumber}
use Rattle.book_model.specs.declared.terminus.LinkKey.{LinkKey}
use Rattle.book_model.specs.declared.terminus.LinkRole.{LinkRole}
use Rattle.book_model.specs.declared.terminus.LinkRole.TheVariants.{Producer, Consumer}
use Rattle.book_model.specs.declared.terminus.Terminus.{Terminus}
use Rattle.book_model.specs.Book.{BookView, row_at, terminus_at, terminus_of, same_key, same_role, same_bytes, is_undecided, keeps, effect, effects, admitted, forgotten, make_refusal, admit_refusal, drop_refusal}
use Rattle.book_core.specs.Rising.{Rises, AllAbove}
use Rattle.book_core.proofs.Steps.{admits_next}
use Rattle.book_laws.proofs.Searching.{found_among}
use Rattle.gate_journal.specs.Ordered.{IsOrdered, number_of_row, number_of_terminus}
use Rattle.journal_store.specs.declared.acting.TerminusAct.{TerminusAct}
use Rattle.journal_store.specs.declared.acting.TerminusAct.TheVariants as terminus
use Rattle.journal_store.specs.Acting.{journal_outcome, outcome_for, is_among, settles, decided_to, decided_by, forgotten_by, unless_refused, terminus_acts, admission_acts}
use Rattle.journal_store.proofs.Conditions.{holds}
use Rattle.journal_store.proofs.Settled.{settles_leave}
use Rattle.theorems.proofs.Looking.{by_case, KeepsNumber, decided_keeps, forgotten_keeps, found_through, found_before}
use Rattle.theorems.proofs.Tests.{none_not_some}

-- the row of a number after what is decided and forgotten

itself : (r : Row) → KeepsNumber r (Some r)
itself r s e = (let is : r ≡ s = cc in ap number_of_row (sym is))

decided_by_keeps : (ds : List Decision) (r : Row) → KeepsNumber r (decided_by ds r)
decided_by_keeps ds r = by (is_undecided r) (outcome_for r.number.0 ds)
  where
    by : (u : Bool) (o : Option DeliveryState) → KeepsNumber r (if u then decided_to o r else Some r)
    by true None = itself r
    by true (Some outcome) = decided_keeps (journal_outcome outcome) r
    by false o = itself r

forgotten_by_keeps : (numbers : List RowNumber) (r : Row) → KeepsNumber r (forgotten_by numbers r)
forgotten_by_keeps numbers r = by (not r.forgotten && is_among r.number.0 numbers)
  where
    by : (b : Bool) → KeepsNumber r (if b then forgotten r else Some r)
    by true = forgotten_keeps r
    by false = itself r

above_through : (f : Row → Option Row) → ((r : Row) → KeepsNumber r (f r)) → (m : ℕ) (rs : List Row) → AllAbove number_of_row m rs → AllAbove number_of_row m (filter_map f rs)
above_through f keeps m [] above = tt
above_through f keeps m (r ∷ rs) above = by (f r) (keeps r) (above_through f keeps m rs above.1)
  where
    by : (o : Option Row) → KeepsNumber r o → AllAbove number_of_row m (filter_map f rs) → AllAbove number_of_row m (cons_option o (filter_map f rs))
    by None is rest = rest
    by (Some s) is rest = (let same = is s refl in let first : m < number_of_row r = above.0 in omega (arith, same, first), rest)

rises_through : (f : Row → Option Row) → ((r : Row) → KeepsNumber r (f r)) → (rs : List Row) → Rises number_of_row rs → Rises number_of_row (filter_map f rs)
rises_through f keeps [] up = tt
rises_through f keeps (r ∷ rs) up = by (f r) (keeps r) (rises_through f keeps rs up.1)
  where
    by : (o : Option Row) → KeepsNumber r o → Rises number_of_row (filter_map f rs) → Rises number_of_row (cons_option o (filter_map f rs))
    by None is rest = rest
    by (Some s) is rest = (let P : ℕ → Type 0 = λ n. AllAbove number_of_row n (filter_map f rs) in subst P (sym (is s refl)) (above_through f keeps (number_of_row r) rs up.0), rest)

abbrev pub settled : List Decision → List RowNumber → Option Row → Option Row
settled ds numbers v = option_and_then (forgotten_by numbers) (option_and_then (decided_by ds) v)

pub settled_row : (b : BookView) (ds : List Decision) (numbers : List RowNumber) (n : ℕ) → IsOrdered b → row_at n (effects b (settles b ds numbers)).rows ≡ settled ds numbers (row_at n b.rows)
settled_row b ds numbers n ordered =
    ap (λ (c : BookView). row_at n c.rows) (settles_leave b ds numbers ordered.rows_rise).is
    ∙ found_through (forgotten_by numbers) (forgotten_by_keeps numbers) n (filter_map (decided_by ds) b.rows) (rises_through (decided_by ds) (decided_by_keeps ds) b.rows ordered.rows_rise)
    ∙ ap (option_and_then (forgotten_by numbers)) (found_through (decided_by ds) (decided_by_keeps ds) n b.rows ordered.rows_rise)

-- termini by number and by key

same_numbers : (a n : ℕ) → a ≡ n → (a == n) ≡ true
same_numbers a n e = grind (arith, nat_tests)

other_numbers : (a n : ℕ) → n < a → (n == a) ≡ false
other_numbers a n l = grind (arith, nat_tests)

above_found : (m : ℕ) (key : LinkKey) (ts : List Terminus) (x : Terminus) → AllAbove number_of_terminus m ts → terminus_of key ts ≡ Some x → m < number_of_terminus x
above_found m key [] x above is = absurd cc
above_found m key (t ∷ ts) x above is =
    by_case (same_key t.key key)
    (λ e. let same : Some t ≡ Some x = rw e at is in here same)
    (λ e. above_found m key ts x above.1 (rw e at is))
  where
    here : Some t ≡ Some x → m < number_of_terminus x
    here same = let is : t ≡ x = cc in subst (λ (y : Terminus). m < number_of_terminus y) is above.0

pub found_at_number : (key : LinkKey) (ts : List Terminus) (x : Terminus) → Rises number_of_terminus ts → terminus_of key ts ≡ Some x → terminus_at x.number.0 ts ≡ Some x
found_at_number key [] x up is = absurd cc
found_at_number key (t ∷ ts) x up is =
    by_case (same_key t.key key)
    (λ e. let same : Some t ≡ Some x = rw e at is in here same)
    (λ e. let later : terminus_of key ts ≡ Some x = rw e at is in
    rw (other_numbers (number_of_terminus x) (number_of_terminus t) (above_found (number_of_terminus t) key ts x up.0 later)) (found_at_number key ts x up.1 later))
  where
    here : Some t ≡ Some x → terminus_at x.number.0 (t ∷ ts) ≡ Some x
    here same = let is : t ≡ x = cc in rw (same_numbers t.number.0 x.number.0 (ap number_of_terminus is)) same

-- the key of a terminus that is found is the key
two : (a b : Bool) → (a && b) ≡ true → (a ≡ true) × (b ≡ true)
two true b h = (refl, h)
two false b h = absurd cc

role_is : (a b : LinkRole) → same_role a b ≡ true → a ≡ b
role_is Producer Producer h = refl
role_is Producer Consumer h = absurd cc
role_is Consumer Producer h = absurd cc
role_is Consumer Consumer h = refl

key_is : (a b : LinkKey) → same_key a b ≡ true → a ≡ b
key_is a b h =
    let texts = two (same_role a.role b.role && same_bytes a.user b.user && same_bytes a.container b.container) (same_bytes a.name b.name) h in
    let containers = two (same_role a.role b.role && same_bytes a.user b.user) (same_bytes a.container b.container) texts.0 in
    let users = two (same_role a.role b.role) (same_bytes a.user b.user) containers.0 in
    let role = role_is a.role b.role users.0 in
    let user = (bytes_eq-Decides a.user b.user).0 users.1 in
    let container = (bytes_eq-Decides a.container b.container).0 containers.1 in
    let name = (bytes_eq-Decides a.name b.name).0 texts.1 in
    λ i. record { role = role i; user = user i; container = container i; name = name i }

pub found_key : (key : LinkKey) (ts : List Terminus) (x : Terminus) → terminus_of key ts ≡ Some x → x.key ≡ key
found_key key [] x is = absurd cc
found_key key (t ∷ ts) x is =
    by_case (same_key t.key key)
    (λ e. let same : Some t ≡ Some x = rw e at is in here t x same e)
    (λ e. found_key key ts x (rw e at is))
  where
    here : (t x : Terminus) → Some t ≡ Some x → same_key t.key key ≡ true → x.key ≡ key
    here t x same e = let is : t ≡ x = cc in ap (λ (y : Terminus). y.key) (sym is) ∙ key_is t.key key e

-- a terminus stays, but for one that is dropped
find_filtered : (p q : Terminus → Bool) (ts : List Terminus) (x : Terminus) → find p ts ≡ Some x → q x ≡ true → find p (filter q ts) ≡ Some x
find_filtered p q [] x is keeps = absurd cc
find_filtered p q (t ∷ ts) x is keeps = by_case (p t) here (later (find_filtered p q ts x))
  where
    here : p t ≡ true → find p (filter q (t ∷ ts)) ≡ Some x
    here e =
        let first : Some t ≡ Some x = rw e at is in
        let same : t ≡ x = cc in
        rw (ap q same ∙ keeps, e) first

    later : (find p ts ≡ Some x → q x ≡ true → find p (filter q ts) ≡ Some x) → p t ≡ false → find p (filter q (t ∷ ts)) ≡ Some x
    later rest e = by_case (q t) (λ f. rw (f, e) (rest (rw e at is) keeps)) (λ f. rw f (rest (rw e at is) keeps))

row_any : (p : Row → Bool) (n : ℕ) (rs : List Row) (r : Row) → row_at n rs ≡ Some r → p r ≡ true → list_any p rs ≡ true
row_any p n [] r is holds = absurd cc
row_any p n (x ∷ rs) r is holds = by_case (number_of_row x == n) here (λ e. later (row_any p n rs r (rw e at is) holds))
  where
    here : (number_of_row x == n) ≡ true → list_any p (x ∷ rs) ≡ true
    here e =
        let first : Some x ≡ Some r = rw e at is in
        let same : x ≡ r = cc in
        rw (ap p same ∙ holds) refl

    later : list_any p rs ≡ true → list_any p (x ∷ rs) ≡ true
    later rest = by (p x)
      where
        by : (b : Bool) → (b || list_any p rs) ≡ true
        by true = refl
        by false = rest

-- the book after what is done about a terminus: the rows are those before, and a producer's terminus that a row keeps stays
pub record Stays (b c : BookView) : Type 0 where
  pub rows : (n : ℕ) → n < b.next_row → row_at n c.rows ≡ row_at n b.rows
  pub next : b.next_row ≤ c.next_row
  pub termini : (key : LinkKey) (x : Terminus) (n : ℕ) (r : Row) → terminus_of key b.termini ≡ Some x → same_role x.key.role Producer ≡ true → row_at n b.rows ≡ Some r → r.forgotten ≡ false
      → r.producer.0 ≡ x.number.0 → terminus_of key c.termini ≡ Some x
  pub more : b.next_terminus ≤ c.next_terminus
  pub older : (n : ℕ) (x : Terminus) → n < b.next_terminus → terminus_at n c.termini ≡ Some x → terminus_at n b.termini ≡ Some x

at_most : (n : ℕ) → n ≤ n
at_most n = omega arith

pub stays_it : (b : BookView) → Stays b b
stays_it b = record {
  rows = λ n low. refl;
  next = at_most b.next_row;
  termini = λ key x n r is role found open_one from. is;
  more = at_most b.next_terminus;
  older = λ n x low is. is;
}

one_effect : (b : BookView) (act : Act) → effects b (act ∷ []) ≡ effect b act
unfolding effects
one_effect b act = refl

no_effect : (b : BookView) → effects b [] ≡ b
unfolding effects
no_effect b = refl

make_stays : (b : BookView) (t : Terminus) → make_refusal b t ≡ None → Stays b (effect b (Make t))
make_stays b t free = record {
  rows = λ n low. refl;
  next = at_most b.next_row;
  termini = λ key x n r is role found open_one from.
      find-append (λ u. same_key u.key key) b.termini (t ∷ []) ∙ ap (λ (o : Option Terminus). option_or o (cond (same_key t.key key) (Some t) None)) is;
  more = one_more b.next_terminus;
  older = λ n x low is. not_new n x low (terminus_at n b.termini) (sym (find-append (λ u. u.number.0 == n) b.termini (t ∷ [])) ∙ is);
}
  where
    one_more : (n : ℕ) → n ≤ n + 1
    one_more n = omega arith

    number : t.number.0 ≡ b.next_terminus
    number = eqb-true t.number.0 b.next_terminus (holds (t.number.0 == b.next_terminus) NoTerminus _ free)

    apart : (n next k : ℕ) → n < next → k ≡ next → (k == n) ≡ false
    apart n next k low e = grind (arith, nat_tests)

    not_new : (n : ℕ) (x : Terminus) → n < b.next_terminus → (o : Option Terminus) → option_or o (cond (t.number.0 == n) (Some t) None) ≡ Some x → o ≡ Some x
    not_new n x low None is = absurd (none_not_some (sym (ap (λ (q : Bool). cond q (Some t) None) (apart n b.next_terminus t.number.0 low number)) ∙ is))
    not_new n x low (Some y) is = is

drop_stays : (b : BookView) (m : ℕ) → IsOrdered b → drop_refusal (terminus_at m b.termini) b.rows ≡ None → (c : BookView) → c ≡ record b { termini = filter (λ t. not (t.number.0 == m)) b.termini } → Stays b c
drop_stays b m ordered free c is =
    subst (λ (d : BookView). Stays b d) (sym is) (record {
      rows = λ n low. refl;
      next = at_most b.next_row;
      termini = λ key x n r found role at open_one from.
          find_filtered (λ t. same_key t.key key) (λ t. not (t.number.0 == m)) b.termini x found
          (by_case (x.number.0 == m) (λ e. absurd (kept key x n r found role at open_one from (eqb-true x.number.0 m e))) (λ e. rw e refl));
      more = at_most b.next_terminus;
      older = λ n x low is. still (not (n == m)) (terminus_at n b.termini) x (sym (found_among number_of_terminus (λ (k : ℕ). not (k == m)) n b.termini) ∙ is);
    })
  where
    still : (q : Bool) (o : Option Terminus) (x : Terminus) → cond q o None ≡ Some x → o ≡ Some x
    still true o x is = is
    still false o x is = absurd (none_not_some is)

    any_false : (q : Bool) → (if not q then None else Some NoTerminus) ≡ None → q ≡ true → ⊥
    any_false true free e = absurd cc
    any_false false free e = absurd cc

    kept : (key : LinkKey) (x : Terminus) (n : ℕ) (r : Row) → terminus_of key b.termini ≡ Some x → same_role x.key.role Producer ≡ true → row_at n b.rows ≡ Some r → r.forgotten ≡ false
        → r.producer.0 ≡ x.number.0 → x.number.0 ≡ m → ⊥
    kept key x n r found role at open_one from same =
        let there : terminus_at m b.termini ≡ Some x = subst (λ (k : ℕ). terminus_at k b.termini ≡ Some x) same (found_at_number key b.termini x ordered.termini_rise found) in
        any_false (list_any (keeps x.key.role x.number.0) b.rows) (ap (λ (o : Option Terminus). drop_refusal o b.rows) (sym there) ∙ free)
        (row_any (keeps x.key.role x.number.0) n b.rows r at (keeps_it x.key.role role))
      where
        keeps_it : (role : LinkRole) → same_role role Producer ≡ true → keeps role x.number.0 r ≡ true
        keeps_it Producer e = rw (same_numbers r.producer.0 x.number.0 from, open_one) refl
        keeps_it Consumer e = absurd cc

unless_stays : (b : BookView) (act : Act) (fault : Option BookFault) → (fault ≡ None → Stays b (effect b act)) → Stays b (effects b (unless_refused (is_none fault) act))
unless_stays b act None stays = subst (λ (c : BookView). Stays b c) (sym (one_effect b act)) (stays refl)
unless_stays b act (Some f) stays = subst (λ (c : BookView). Stays b c) (sym (no_effect b)) (stays_it b)

pub terminus_stays : (b : BookView) (x : Option TerminusAct) → IsOrdered b → Stays b (effects b (terminus_acts b x))
terminus_stays b None ordered = subst (λ (c : BookView). Stays b c) (sym (no_effect b)) (stays_it b)
terminus_stays b (Some (terminus.Make t)) ordered = unless_stays b (Make t) (make_refusal b t) (λ free. make_stays b t free)
terminus_stays b (Some (terminus.Drop n)) ordered = unless_stays b (Drop n) (drop_refusal (terminus_at n.0 b.termini) b.rows) (λ free. drop_stays b n.0 ordered free (effect b (Drop n)) refl)

admit_stays : (b : BookView) (a : Admission) → admit_refusal b a ≡ None → Stays b (effect b (Admit a))
admit_stays b a applies = record {
  rows = λ n low. found_before n b.rows (admitted a) (under n b.next_row a.row.0 low (admits_next b a applies));
  next = one_more b.next_row;
  termini = λ key x n r is role found open_one from. is;
  more = at_most b.next_terminus;
  older = λ n x low is. is;
}
  where
    one_more : (n : ℕ) → n ≤ n + 1
    one_more n = omega arith

    under : (n k a : ℕ) → n < k → a ≡ k → n < a
    under n k a l e = omega (arith, l, e)

pub admission_stays : (b : BookView) (a : Admission) → Stays b (effects b (admission_acts b a))
admission_stays b a = unless_stays b (Admit a) (admit_refusal b a) (admit_stays b a)
