-- A session is busy exactly if one of the deliveries being sent on its handles goes on.
use Rattle.std.proofs.Common.{◌≡◌, ◌∙◌, ◌<◌, ◌+◌, ◌||◌, ◌&&◌, ℕ, Bool, true, false, refl, sym, ap, arith, List, [], ◌∷◌, Option, Some, None}
use Rattle.std.specs.Prelude.{◌==◌, nat_le, is_some}
use Rattle.std.proofs.lemmas.Bool.{eqb-true}
use Rattle.std.proofs.lemmas.Bool.Decides.{nat_tests}
use Rattle.amqp_session.specs.Ranges.{has}
use Rattle.router_trace.specs.Trace.{Trace}
use Rattle.router_trace.specs.Deliveries.{Delivery, bindings, delivery, sending, is_number, stands_on}
use Rattle.router_trace.specs.Links.{Link}
use Rattle.router_trace.specs.Following.{goes_on_at, is_busy, is_going_on, link_of}
use Rattle.state_deliveries.specs.Calling.{Knows}
use Rattle.state_deliveries.specs.Fits.{AreSending}
use Rattle.state_deliveries.proofs.Known.{known_there, same_number}
use Rattle.state_deliveries.proofs.Listed.{listed_has}
use Rattle.state_deliveries.proofs.Numbers.{none_beyond}
use Rattle.state_deliveries.proofs.Unsent.{first_there, there_first}
use Rattle.state_messages.specs.Asking.{some_go_on}

pub same_tests : (a b : Bool) → (a ≡ true → b ≡ true) → (b ≡ true → a ≡ true) → a ≡ b
same_tests true b f g = sym (f refl)
same_tests false true f g = g refl
same_tests false false f g = refl

-- a delivery that goes on is being sent on its handle
pub both_left : (a b : Bool) → (a && b) ≡ true → a ≡ true
both_left true b e = refl
both_left false b e = absurd cc

pub both_right : (a b : Bool) → (a && b) ≡ true → b ≡ true
both_right true b e = e
both_right false b e = absurd cc

number_is : (v : Option ℕ) (n : ℕ) → is_number v n ≡ true → v ≡ Some n
number_is None n e = absurd cc
number_is (Some k) n e = ap Some (eqb-true k n e)

sent_at : (l : Option Link) (number : ℕ) (sent : Option ℕ) (n : ℕ) → goes_on_at l number sent n ≡ true → sent ≡ Some n
sent_at None number sent n e = absurd cc
sent_at (Some l) number sent n e = number_is sent n (both_right l.going_on _ (both_right (l.number == number) _ e))

pub record Sent (t : Trace) (c o n : ℕ) : Type 0 where
  pub handle : ℕ
  pub is : sending t c o handle ≡ Some n

sent_on : (t : Trace) (c o n : ℕ) (v : Option Delivery) → is_going_on t c o n v ≡ true → Sent t c o n
sent_on t c o n None e = absurd cc
sent_on t c o n (Some d) e =
    let stands = both_left _ _ e in
    let going = both_right _ _ e in
    let on_conn : d.link.conn.0 ≡ c = eqb-true d.link.conn.0 c (both_left _ _ stands) in
    let on_own : d.link.channel ≡ o = eqb-true d.link.channel o (both_right _ _ stands) in
    let sent = sent_at (link_of t d.link) d.link.number (sending t d.link.conn.0 d.link.channel d.link.handle) n (both_right _ _ going) in
    record { handle = d.link.handle; is = ap (λ k. sending t k o d.link.handle) (sym on_conn) ∙ ap (λ k. sending t d.link.conn.0 k d.link.handle) (sym on_own) ∙ sent }

bound_there : (t : Trace) (c o n : ℕ) → is_going_on t c o n (delivery t n) ≡ true → n < bindings t + 1
bound_there t c o n e = by_test (nat_le n (bindings t)) refl
  where
    below : (n b : ℕ) → nat_le n b ≡ true → n < b + 1
    below n b e = grind (arith, nat_tests)

    beyond : (n b : ℕ) → nat_le n b ≡ false → b < n
    beyond n b e = grind (arith, nat_tests)

    by_test : (q : Bool) → nat_le n (bindings t) ≡ q → n < bindings t + 1
    by_test true q = below n (bindings t) q
    by_test false q = absurd (nothing (delivery t n) (none_beyond t n (beyond n (bindings t) q)) e)
      where
        nothing : (v : Option Delivery) → v ≡ None → is_going_on t c o n v ≡ true → ⊥
        nothing None is e = cc
        nothing (Some d) is e = cc

-- what a table has for the handle serves as well
pub goes_same : (t : Trace) (c o n : ℕ) (d : Delivery) (sent : Option ℕ) → delivery t n ≡ Some d → Knows (delivery t) sent (sending t d.link.conn.0 d.link.channel d.link.handle)
    → (stands_on d.link c o && ((is_some d.id && d.going_on) && goes_on_at (link_of t d.link) d.link.number sent n)) ≡ is_going_on t c o n (Some d)
goes_same t c o n d sent is knows =
    ap (λ b. stands_on d.link c o && ((is_some d.id && d.going_on) && b)) (by_link (link_of t d.link))
  where
    by_link : (l : Option Link) → goes_on_at l d.link.number sent n ≡ goes_on_at l d.link.number (sending t d.link.conn.0 d.link.channel d.link.handle) n
    by_link None = refl
    by_link (Some l) = ap (λ b. (l.number == d.link.number) && (l.going_on && b)) (same_number (delivery t) sent (sending t d.link.conn.0 d.link.channel d.link.handle) n d knows is)

-- those of a list
pub either_left : (a b : Bool) → a ≡ true → (a || b) ≡ true
either_left true b e = refl
either_left false b e = absurd cc

pub either_right : (a b : Bool) → b ≡ true → (a || b) ≡ true
either_right true b e = refl
either_right false b e = e

some_of : (t : Trace) (c o : ℕ) (numbers : List ℕ) (n : ℕ) → has n numbers ≡ true → is_going_on t c o n (delivery t n) ≡ true → some_go_on t c o numbers ≡ true
some_of t c o [] n h e = absurd cc
some_of t c o (m ∷ ms) n h e = by_test (n == m) refl (λ k. some_of t c o ms n k e)
  where
    by_test : (q : Bool) → (n == m) ≡ q → (has n ms ≡ true → some_go_on t c o ms ≡ true) → some_go_on t c o (m ∷ ms) ≡ true
    by_test true q rest = either_left _ _ (ap (λ k. is_going_on t c o k (delivery t k)) (sym (eqb-true n m q)) ∙ e)
    by_test false q rest = either_right _ _ (rest (ap (λ b. b || has n ms) (sym q) ∙ h))

one_of : (t : Trace) (c o : ℕ) (numbers : List ℕ) → some_go_on t c o numbers ≡ true → (n : ℕ) × (is_going_on t c o n (delivery t n) ≡ true)
one_of t c o [] e = absurd cc
one_of t c o (m ∷ ms) e = by_test (is_going_on t c o m (delivery t m)) refl (one_of t c o ms)
  where
    by_test : (q : Bool) → is_going_on t c o m (delivery t m) ≡ q → (some_go_on t c o ms ≡ true → (n : ℕ) × (is_going_on t c o n (delivery t n) ≡ true))
        → (n : ℕ) × (is_going_on t c o n (delivery t n) ≡ true)
    by_test true q rest = (m, q)
    by_test false q rest = rest (ap (λ b. b || some_go_on t c o ms) (sym q) ∙ e)

there : (t : Trace) (c o n : ℕ) (v : Option Delivery) → is_going_on t c o n v ≡ true → (d : Delivery) × (v ≡ Some d)
there t c o n None e = absurd cc
there t c o n (Some d) e = (d, refl)

pub busy_is : (t : Trace) (c o : ℕ) (numbers : List ℕ) → AreSending t c o numbers → some_go_on t c o numbers ≡ is_busy t c o
busy_is t c o numbers all = same_tests _ _ forth back
  where
    passes : ℕ → Bool
    passes n = is_going_on t c o n (delivery t n)

    forth : some_go_on t c o numbers ≡ true → is_busy t c o ≡ true
    forth e = let one = one_of t c o numbers e in first_there (bindings t + 1) passes one.0 (bound_there t c o one.0 one.1) one.1

    back : is_busy t c o ≡ true → some_go_on t c o numbers ≡ true
    back e =
        let one = there_first (bindings t + 1) passes e in
        let sent = sent_on t c o one.0 (delivery t one.0) one.1 in
        let d = there t c o one.0 (delivery t one.0) one.1 in
        let known = known_there (delivery t) (all.known sent.handle) (sending t c o sent.handle) one.0 d.0 (all.knows sent.handle) d.1 sent.is in
        some_of t c o numbers one.0 (listed_has all.known numbers all.listed sent.handle one.0 known) one.1
