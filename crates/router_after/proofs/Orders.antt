-- The order of places and ranks: "goes first" is an order.
use Rattle.std.proofs.Common.{◌≡◌, ◌≤◌, ◌<◌, ◌∙◌, ℕ, Bool, true, false, refl, sym, ap, arith}
use Rattle.std.specs.Prelude.{not, ◌&&◌, ◌||◌, ◌==◌, nat_lt}
use Rattle.std.proofs.lemmas.Bool.Decides.{nat_tests}
use Rattle.router_trace.specs.declared.binding.Rank.{Rank}
use Rattle.router_trace.specs.declared.handle.Attachment.{Attachment}
use Rattle.router_trace.specs.Deliveries.{is_earlier}
use Rattle.router_trace.specs.Numbers.{Placed, is_ahead, is_before}
use Rattle.state_deliveries.specs.Finding.{is_behind}
use Rattle.router_after.specs.declared.candidate.Candidate.{Candidate}
use Rattle.router_after.specs.Soonest.{candidate, is_sooner}

-- places, by two numbers
abbrev lt : ℕ → ℕ → ℕ → ℕ → Bool
lt a b x y = nat_lt a x || ((a == x) && nat_lt b y)

lt_lt : (a b x y p q : ℕ) → lt a b x y ≡ true → lt x y p q ≡ true → lt a b p q ≡ true
lt_lt a b x y p q e f = grind (arith, nat_tests)

lt_not : (a b x y p q : ℕ) → lt a b x y ≡ true → lt p q x y ≡ false → lt a b p q ≡ true
lt_not a b x y p q e f = grind (arith, nat_tests)

not_lt : (a b x y p q : ℕ) → lt x y a b ≡ false → lt x y p q ≡ true → lt a b p q ≡ true
not_lt a b x y p q e f = grind (arith, nat_tests)

not_not : (a b x y p q : ℕ) → lt x y a b ≡ false → lt p q x y ≡ false → lt p q a b ≡ false
not_not a b x y p q e f = grind (arith, nat_tests)

lt_weak : (a b x y p q : ℕ) → lt a b p q ≡ true → lt x y p q ≡ false → lt a b x y ≡ true
lt_weak a b x y p q e f = grind (arith, nat_tests)

-- ranks and numbers, by three
abbrev less : ℕ → ℕ → ℕ → ℕ → ℕ → ℕ → Bool
less a b n x y m = (nat_lt a x || ((a == x) && nat_lt b y)) || (not (nat_lt x a || ((x == a) && nat_lt y b)) && nat_lt n m)

less_less : (a b n x y m p q r : ℕ) → less a b n x y m ≡ true → less x y m p q r ≡ true → less a b n p q r ≡ true
less_less a b n x y m p q r e f = grind (arith, nat_tests)

less_not : (a b n x y m p q r : ℕ) → less a b n p q r ≡ true → less x y m p q r ≡ false → less a b n x y m ≡ true
less_not a b n x y m p q r e f = grind (arith, nat_tests)

-- both together, by the tests of three of each
in_turn : (ab ba rab bc cb rbc ac ca rac : Bool) → (ab ≡ true → bc ≡ true → ac ≡ true) → (ab ≡ true → cb ≡ false → ac ≡ true) → (ba ≡ false → bc ≡ true → ac ≡ true)
    → (ba ≡ false → cb ≡ false → ca ≡ false) → (rab ≡ true → rbc ≡ true → rac ≡ true)
    → (ab || (not ba && rab)) ≡ true → (bc || (not cb && rbc)) ≡ true → (ac || (not ca && rac)) ≡ true
in_turn true ba rab true cb rbc ac ca rac one two three four five e f = rw (one refl refl) refl
in_turn true ba rab false true rbc ac ca rac one two three four five e f = absurd cc
in_turn true ba rab false false rbc ac ca rac one two three four five e f = rw (two refl refl) refl
in_turn false true rab bc cb rbc ac ca rac one two three four five e f = absurd cc
in_turn false false rab true cb rbc ac ca rac one two three four five e f = rw (three refl refl) refl
in_turn false false rab false true rbc ac ca rac one two three four five e f = absurd cc
in_turn false false rab false false rbc ac ca rac one two three four five e f = rw (four refl refl, five e f) (either ac)
  where
    either : (b : Bool) → (b || true) ≡ true
    either true = refl
    either false = refl

out_of_turn : (ac ca rac bc cb rbc ab ba rab : Bool) → (ac ≡ true → bc ≡ false → ab ≡ true) → (ca ≡ false → cb ≡ true → ab ≡ true) → (bc ≡ false → ca ≡ false → ba ≡ false)
    → (rac ≡ true → rbc ≡ false → rab ≡ true)
    → (ac || (not ca && rac)) ≡ true → (bc || (not cb && rbc)) ≡ false → (ab || (not ba && rab)) ≡ true
out_of_turn ac ca rac true cb rbc ab ba rab one two three four e f = absurd cc
out_of_turn true ca rac false cb rbc ab ba rab one two three four e f = rw (one refl refl) refl
out_of_turn false true rac false cb rbc ab ba rab one two three four e f = absurd cc
out_of_turn false false rac false true rbc ab ba rab one two three four e f = rw (two refl refl) refl
out_of_turn false false rac false false rbc ab ba rab one two three four e f = rw (three refl refl, four e f) (either ab)
  where
    either : (b : Bool) → (b || true) ≡ true
    either true = refl
    either false = refl

abbrev first : Candidate → ℕ
first x = x.place.conn.0

abbrev next : Candidate → ℕ
next x = x.place.channel

pub is_soonest : (x c b : Candidate) → is_sooner x c ≡ true → is_sooner c b ≡ true → is_sooner x b ≡ true
is_soonest x c b e f =
    in_turn (is_before x.place c.place) (is_before c.place x.place) (is_behind x.rank x.number c.rank c.number)
    (is_before c.place b.place) (is_before b.place c.place) (is_behind c.rank c.number b.rank b.number)
    (is_before x.place b.place) (is_before b.place x.place) (is_behind x.rank x.number b.rank b.number)
    (lt_lt (first x) (next x) (first c) (next c) (first b) (next b)) (lt_not (first x) (next x) (first c) (next c) (first b) (next b))
    (not_lt (first x) (next x) (first c) (next c) (first b) (next b)) (not_not (first x) (next x) (first c) (next c) (first b) (next b))
    (less_less x.rank.row x.rank.counter x.number c.rank.row c.rank.counter c.number b.rank.row b.rank.counter b.number) e f

pub is_sooner_too : (x c b : Candidate) → is_sooner x b ≡ true → is_sooner c b ≡ false → is_sooner x c ≡ true
is_sooner_too x c b e f =
    out_of_turn (is_before x.place b.place) (is_before b.place x.place) (is_behind x.rank x.number b.rank b.number)
    (is_before c.place b.place) (is_before b.place c.place) (is_behind c.rank c.number b.rank b.number)
    (is_before x.place c.place) (is_before c.place x.place) (is_behind x.rank x.number c.rank c.number)
    (lt_weak (first x) (next x) (first c) (next c) (first b) (next b)) (not_lt (first x) (next x) (first b) (next b) (first c) (next c))
    (λ e f. not_not (first x) (next x) (first b) (next b) (first c) (next c) f e)
    (less_not x.rank.row x.rank.counter x.number c.rank.row c.rank.counter c.number b.rank.row b.rank.counter b.number) e f

-- at one place by rank and number alone
same : (a b : ℕ) → (nat_lt a a || ((a == a) && nat_lt b b)) ≡ false
same a b = grind (arith, nat_tests)

pub not_sooner_here : (rank : ℕ → Rank) (n m : ℕ) (a : Attachment) → is_behind (rank n) n (rank m) m ≡ false → is_sooner (candidate rank n a) (candidate rank m a) ≡ false
not_sooner_here rank n m a not_behind = rw (same a.conn.0 a.channel) not_behind

pub nor_itself : (r : Rank) (n m : ℕ) → m ≤ n → is_behind r n r m ≡ false
nor_itself r n m le = by_numbers r.row r.counter n m le
  where
    by_numbers : (a b n m : ℕ) → m ≤ n → ((nat_lt a a || ((a == a) && nat_lt b b)) || (not (nat_lt a a || ((a == a) && nat_lt b b)) && nat_lt n m)) ≡ false
    by_numbers a b n m le = grind (arith, nat_tests, le)

-- in terms of a definition that searches all numbers, from the lowest on
abbrev placed : Candidate → Placed
placed c = record { number = c.number; place = c.place }

pub not_ahead : (rank : ℕ → Rank) (n : ℕ) (a : Attachment) (c : Candidate) → rank c.number ≡ c.rank → is_sooner (candidate rank n a) c ≡ false → is_ahead rank n a (placed c) ≡ false
not_ahead rank n a c its e =
    ap (λ (r : Rank). is_before a c.place || (not (is_before c.place a) && is_earlier (rank n) r)) its
    ∙ by_parts (is_before a c.place) (is_before c.place a) (is_earlier (rank n) c.rank) _ e
  where
    by_parts : (p q s t : Bool) → (p || (not q && (s || t))) ≡ false → (p || (not q && s)) ≡ false
    by_parts true q s t e = e
    by_parts false true s t e = refl
    by_parts false false true t e = e
    by_parts false false false t e = refl

pub after_lower : (rank : ℕ → Rank) (q : Placed) (c : Candidate) → rank c.number ≡ c.rank → is_sooner (candidate rank q.number q.place) c ≡ false → q.number < c.number
    → is_ahead rank c.number c.place q ≡ true
after_lower rank q c its e l =
    ap (λ (r : Rank). is_before c.place q.place || (not (is_before q.place c.place) && is_earlier r (rank q.number))) its
    ∙ by_parts (is_before q.place c.place) (is_before c.place q.place) (is_earlier (rank q.number) c.rank) (is_earlier c.rank (rank q.number)) (nat_lt q.number c.number)
    (lower q.number c.number l) e
  where
    lower : (n m : ℕ) → n < m → nat_lt n m ≡ true
    lower n m l = grind (arith, nat_tests)

    by_parts : (p q s t u : Bool) → u ≡ true → (p || (not q && (s || (not t && u)))) ≡ false → (q || (not p && t)) ≡ true
    by_parts true q s t u h e = absurd cc
    by_parts false true s t u h e = refl
    by_parts false false true t u h e = absurd cc
    by_parts false false false true u h e = refl
    by_parts false false false false u h e = let wrong : true ≡ false = sym h ∙ e in absurd cc
