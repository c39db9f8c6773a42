-- The counts of ids by link follow the ids.
use Rattle.std.proofs.Common.{◌≡◌, ◌∙◌, ◌+◌, ◌-◌, ℕ, Bool, true, false, refl, sym, ap, subst, arith, [], Option, None}
use Rattle.std.specs.Prelude.{◌==◌, if◌then◌else◌}
use Rattle.std.proofs.lemmas.Bool.{eqb-true}
use Rattle.std.proofs.lemmas.Bool.Decides.{nat_tests}
use Rattle.router_trace.specs.Claims.{Claim}
use Rattle.router_trace.specs.Deliveries.{is_number}
use Rattle.router_trace.specs.Settling.{is_unbound_on}
use Rattle.state_collections.specs.declared.by_session.BySession.{BySession}
use Rattle.state_unsettled.specs.declared.by_link.ByLink.{ByLink}
use Rattle.state_unsettled.specs.Incoming.{unbound_handle}
use Rattle.state_unsettled.specs.Standing.{count_at, IsCounted}
use Rattle.router_trace.specs.Counting.{IsCount}
use Rattle.state_collections.specs.Ids.{at_id}
use Rattle.router_trace.proofs.Counts.{no_rise, count_same}
use Rattle.state_unsettled.proofs.Marked.{set_claim, unbound_is}
use Rattle.router_trace.proofs.Counts.{count_with, count_without}

abbrev pub less : Bool → ℕ → ℕ
less there k = if there then k - 1 else k

abbrev pub more : Bool → ℕ → ℕ
more there k = if there then k + 1 else k

-- a count at one place, and what is known there
abbrev pub at_place : Bool → Bool → ℕ → ℕ → ℕ
at_place here own new old = if here then (if own then new else old) else old

abbrev pub set_handle : Bool → Bool → Bool → Option ℕ → Option ℕ → Option ℕ
set_handle here own same handle old = if here then (if own then (if same then handle else old) else old) else old

-- one number passes another test
count_moved : (p : ℕ → Bool) (m k : ℕ) (before after : Bool) → p m ≡ before → IsCount p k → IsCount (λ n. if m == n then after else p n) (more after (less before k))
count_moved p m k before after is x =
    let rest : ℕ → Bool = λ n. if m == n then false else p n in
    count_same (λ n. if m == n then after else rest n) (λ n. if m == n then after else p n) (λ n. by_test (p n) (m == n)) (more after (less before k))
    (count_with rest m (less before k) after (ap (λ t. if t then false else p m) (itself m)) (count_without p m k before is x))
  where
    itself : (m : ℕ) → (m == m) ≡ true
    itself m = grind (arith, nat_tests)

    by_test : (old : Bool) (t : Bool) → (if t then after else (if t then false else old)) ≡ (if t then after else old)
    by_test old true = refl
    by_test old false = refl

-- an id of a session moves from one link to another
pub counted_moved : (s new : ByLink) (conn own id : ℕ) (before after : Option ℕ) (known : ℕ → ℕ → ℕ → Option ℕ)
    → ((c o h : ℕ) → count_at new c o h ≡ at_place (conn == c) (own == o) (more (is_number after h) (less (is_number before h) (count_at s c o h))) (count_at s c o h))
    → known conn own id ≡ before → IsCounted s known → IsCounted new (λ c o q. set_handle (conn == c) (own == o) (id == q) after (known c o q))
counted_moved s new conn own id before after known moved is counted = λ c o h. by_places c o h (conn == c) (own == o) refl refl (moved c o h)
  where
    by_test : (h : ℕ) (old : Option ℕ) (t : Bool) → (if t then is_number after h else is_number old h) ≡ is_number (if t then after else old) h
    by_test h old true = refl
    by_test h old false = refl

    there : (c o : ℕ) → conn ≡ c → own ≡ o → known c o id ≡ before
    there c o e f = ap (λ k. known c k id) (sym f) ∙ ap (λ k. known k own id) (sym e) ∙ is

    by_places : (c o h : ℕ) (a b : Bool) → (conn == c) ≡ a → (own == o) ≡ b
        → count_at new c o h ≡ at_place a b (more (is_number after h) (less (is_number before h) (count_at s c o h))) (count_at s c o h)
        → IsCount (λ q. is_number (set_handle a b (id == q) after (known c o q)) h) (count_at new c o h)
    by_places c o h true true e f count =
        subst (IsCount (λ q. is_number (if id == q then after else known c o q) h)) (sym count)
        (count_same (λ q. if id == q then is_number after h else is_number (known c o q) h) (λ q. is_number (if id == q then after else known c o q) h) (λ q. by_test h (known c o q) (id == q))
        (more (is_number after h) (less (is_number before h) (count_at s c o h)))
        (count_moved (λ q. is_number (known c o q) h) id (count_at s c o h) (is_number before h) (is_number after h)
        (ap (λ v. is_number v h) (there c o (eqb-true conn c e) (eqb-true own o f))) (counted c o h)))
    by_places c o h true false e f count = subst (IsCount (λ q. is_number (known c o q) h)) (sym count) (counted c o h)
    by_places c o h false b e f count = subst (IsCount (λ q. is_number (known c o q) h)) (sym count) (counted c o h)

-- ... by leaving the one and coming to the other
pub left_and_came : (here own before after : Bool) (old mid new : ℕ) → mid ≡ at_place here own (less before old) old → new ≡ at_place here own (more after mid) mid
    → new ≡ at_place here own (more after (less before old)) old
left_and_came true true before after old mid new left came = came ∙ ap (more after) left
left_and_came true false before after old mid new left came = came ∙ left
left_and_came false own before after old mid new left came = came ∙ left

-- the unbound claims of all links are counted
abbrev pub AreCounted : ByLink → (ℕ → ℕ → ℕ → Option Claim) → Type 0
AreCounted s known = (c o h : ℕ) → IsCount (λ id. is_unbound_on h (known c o id)) (count_at s c o h)

-- where an id gets this claim, or none
pub counted_claim : (s new : ByLink) (conn own id : ℕ) (claim : Option Claim) (after : Option ℕ) (known next : ℕ → ℕ → ℕ → Option Claim)
    → after ≡ unbound_handle claim
    → (IsCounted s (λ c o q. unbound_handle (known c o q)) → IsCounted new (λ c o q. set_handle (conn == c) (own == o) (id == q) after (unbound_handle (known c o q))))
    → ((c o q : ℕ) → next c o q ≡ set_claim (conn == c) (own == o) (id == q) claim (known c o q))
    → AreCounted s known → AreCounted new next
counted_claim s new conn own id claim after known next now moved set counted = λ c o h.
    count_same (λ q. is_number (set_handle (conn == c) (own == o) (id == q) after (unbound_handle (known c o q))) h) (λ q. is_unbound_on h (next c o q))
    (λ q. by_tests h (conn == c) (own == o) (id == q) (known c o q) ∙ ap (is_unbound_on h) (sym (set c o q))) (count_at new c o h)
    (moved (λ d p k. count_same (λ q. is_unbound_on k (known d p q)) (λ q. is_number (unbound_handle (known d p q)) k) (λ q. unbound_is k (known d p q)) (count_at s d p k) (counted d p k)) c o h)
  where
    by_tests : (h : ℕ) (a b e : Bool) (v : Option Claim) → is_number (set_handle a b e after (unbound_handle v)) h ≡ is_unbound_on h (set_claim a b e claim v)
    by_tests h true true true v = ap (λ w. is_number w h) now ∙ sym (unbound_is h claim)
    by_tests h true true false v = sym (unbound_is h v)
    by_tests h true false e v = sym (unbound_is h v)
    by_tests h false b e v = sym (unbound_is h v)

-- all claims of a session or of a connection are gone
none_counted : (known : ℕ → Option Claim) (k h : ℕ) → ((q : ℕ) → known q ≡ None) → k ≡ 0 → IsCount (λ q. is_unbound_on h (known q)) k
none_counted known k h none is = record { numbers = []; rise = no_rise; pass = λ q. sym (ap (is_unbound_on h) (none q)); are = sym is }

pub counted_none : (ids : BySession Claim) (s : ByLink) (c o h : ℕ) → ((q : ℕ) → at_id ids c o q ≡ None) → count_at s c o h ≡ 0 → IsCount (λ id. is_unbound_on h (at_id ids c o id)) (count_at s c o h)
counted_none ids s c o h none is = none_counted (at_id ids c o) (count_at s c o h) h none is

pub counted_end : (here own : Bool) (h first last : ℕ) (old next : ℕ → Option Claim) → IsCount (λ q. is_unbound_on h (old q)) first
    → last ≡ at_place here own 0 first → ((q : ℕ) → next q ≡ (if here then (if own then None else old q) else old q)) → IsCount (λ q. is_unbound_on h (next q)) last
counted_end true true h first last old next counted ended gone = none_counted next last h gone ended
counted_end true false h first last old next counted ended gone =
    subst (IsCount (λ q. is_unbound_on h (next q))) (sym ended) (count_same (λ q. is_unbound_on h (old q)) (λ q. is_unbound_on h (next q)) (λ q. ap (is_unbound_on h) (sym (gone q))) first counted)
counted_end false own h first last old next counted ended gone =
    subst (IsCount (λ q. is_unbound_on h (next q))) (sym ended) (count_same (λ q. is_unbound_on h (old q)) (λ q. is_unbound_on h (next q)) (λ q. ap (is_unbound_on h) (sym (gone q))) first counted)

-- a link that no unbound claim is on any more may be forgotten
pub counted_gone : (here own same : Bool) (h first last : ℕ) (known : ℕ → Option Claim)
    → (here ≡ true → own ≡ true → same ≡ true → (q : ℕ) → is_unbound_on h (known q) ≡ false)
    → last ≡ (if here then (if own then (if same then 0 else first) else first) else first)
    → IsCount (λ q. is_unbound_on h (known q)) first → IsCount (λ q. is_unbound_on h (known q)) last
counted_gone true true true h first last known none is counted = record { numbers = []; rise = no_rise; pass = λ q. sym (none refl refl refl q); are = sym is }
counted_gone true true false h first last known none is counted = subst (IsCount (λ q. is_unbound_on h (known q))) (sym is) counted
counted_gone true false same h first last known none is counted = subst (IsCount (λ q. is_unbound_on h (known q))) (sym is) counted
counted_gone false own same h first last known none is counted = subst (IsCount (λ q. is_unbound_on h (known q))) (sym is) counted
