-- The claims stay marked at their links, and the unbound ones counted.
use Rattle.std.proofs.Common.{◌≡◌, ◌∙◌, ◌<◌, ◌^◌, ℕ, Bool, true, false, refl, sym, ap, arith, Option, Some, None}
use Rattle.std.specs.Prelude.{◌==◌, if◌then◌else◌}
use Rattle.std.specs.Option.{option_map}
use Rattle.std.proofs.lemmas.Bool.{eqb-true}
use Rattle.std.proofs.lemmas.Bool.Decides.{nat_tests}
use Rattle.amqp_model.specs.declared.perf.Transfer.{Transfer}
use Rattle.router_trace.specs.Claims.{Claim, claims, claim, bound_claim, claimed_later}
use Rattle.router_trace.specs.Deliveries.{is_number}
use Rattle.router_trace.specs.Settling.{is_unbound_on, is_of_link, unbound}
use Rattle.router_trace.specs.Trace.{Trace}
use Rattle.state_unsettled.specs.declared.incoming.IncomingDeliveries.{IncomingDeliveries}
use Rattle.state_unsettled.specs.Incoming.{IncomingFit, IsSmall, unbound_handle, stand_of, unless_on}
use Rattle.state_unsettled.specs.Standing.{count_at, link_of, unbound_of}
use Rattle.state_collections.specs.Ids.{at_id}
use Rattle.router_trace.proofs.Numbers.{count_is}
use Rattle.router_trace.proofs.Counts.{count_same}

pub unbound_is : (h : ℕ) (v : Option Claim) → is_unbound_on h v ≡ is_number (unbound_handle v) h
unbound_is h None = refl
unbound_is h (Some v) = by_test v.unbound
  where
    by_test : (b : Bool) → (if b then v.handle == h else false) ≡ is_number (if b then Some v.handle else None) h
    by_test true = refl
    by_test false = refl

pub link_is : (h : ℕ) (v : Option Claim) → is_of_link h v ≡ is_number (link_of (stand_of v)) h
link_is h None = refl
link_is h (Some v) = refl

pub stand_unbound : (v : Option Claim) → unbound_of (stand_of v) ≡ unbound_handle v
stand_unbound None = refl
stand_unbound (Some v) = refl

-- a mark after a change at one place
abbrev pub set_mark : Bool → Bool → Bool → Bool → Bool → Bool → Bool
set_mark here own on_link same holds old = if here then (if own then (if on_link then (if same then holds else old) else old) else old) else old

abbrev pub set_claim : Bool → Bool → Bool → Option Claim → Option Claim → Option Claim
set_claim here own same claim old = if here then (if own then (if same then claim else old) else old) else old

-- claims that are marked at the handles that they give
abbrev pub Handles : Type 0
Handles = Option Claim → Option ℕ

abbrev pub Tests : Type 0
Tests = ℕ → Option Claim → Bool

abbrev pub Agree : Handles → Tests → Type 0
Agree handle_of test = (h : ℕ) (v : Option Claim) → test h v ≡ is_number (handle_of v) h

here_same : (known : ℕ → ℕ → ℕ → Option Claim) (conn own id c o q : ℕ) (stood : Option Claim) → stood ≡ known conn own id → (conn == c) ≡ true → (own == o) ≡ true → (id == q) ≡ true → stood ≡ known c o q
here_same known conn own id c o q stood is e f g =
    is ∙ ap (λ k. known k own id) (eqb-true conn c e) ∙ ap (λ k. known c k id) (eqb-true own o f) ∙ ap (λ k. known c o k) (eqb-true id q g)

-- an id gets this claim, and its mark moves
pub marked_moved : (handle_of : Handles) (test : Tests) → Agree handle_of test → (conn own id : ℕ) (claim stood : Option Claim) (before after : Option ℕ)
    (known next : ℕ → ℕ → ℕ → Option Claim) (first last : ℕ → ℕ → ℕ → ℕ → Bool)
    → stood ≡ known conn own id → before ≡ handle_of stood → after ≡ handle_of claim
    → ((c o h q : ℕ) → first c o h q ≡ test h (known c o q))
    → (((h : ℕ) → first conn own h id ≡ is_number before h) → (c o h q : ℕ) → last c o h q
    ≡ (if conn == c then (if own == o then (if id == q then is_number after h else first c o h q) else first c o h q) else first c o h q))
    → ((c o q : ℕ) → next c o q ≡ set_claim (conn == c) (own == o) (id == q) claim (known c o q))
    → (c o h q : ℕ) → last c o h q ≡ test h (next c o q)
marked_moved handle_of test agree conn own id claim stood before after known next first last is was now marked moved set c o h q =
    moved (λ j. marked conn own j id ∙ ap (test j) (sym is) ∙ agree j stood ∙ ap (λ v. is_number v j) (sym was)) c o h q
    ∙ by_tests (conn == c) (own == o) (id == q) (first c o h q) (known c o q) (marked c o h q) ∙ ap (test h) (sym (set c o q))
  where
    by_tests : (here mine same : Bool) (mark : Bool) (old : Option Claim) → mark ≡ test h old
        → (if here then (if mine then (if same then is_number after h else mark) else mark) else mark) ≡ test h (set_claim here mine same claim old)
    by_tests true true true mark old e = ap (λ v. is_number v h) now ∙ sym (agree h claim)
    by_tests true true false mark old e = e
    by_tests true false same mark old e = e
    by_tests false mine same mark old e = e

-- an id gets a claim that isn't marked, or none
pub marked_dropped : (handle_of : Handles) (test : Tests) → Agree handle_of test → (conn own id : ℕ) (claim stood : Option Claim) (before : Option ℕ)
    (known next : ℕ → ℕ → ℕ → Option Claim) (first last : ℕ → ℕ → ℕ → ℕ → Bool)
    → stood ≡ known conn own id → before ≡ handle_of stood → None ≡ handle_of claim
    → ((c o h q : ℕ) → first c o h q ≡ test h (known c o q))
    → ((c o h q : ℕ) → last c o h q ≡ set_mark (conn == c) (own == o) (is_number before h) (id == q) false (first c o h q))
    → ((c o q : ℕ) → next c o q ≡ set_claim (conn == c) (own == o) (id == q) claim (known c o q))
    → (c o h q : ℕ) → last c o h q ≡ test h (next c o q)
marked_dropped handle_of test agree conn own id claim stood before known next first last is was none marked dropped set =
    marked_moved handle_of test agree conn own id claim stood before None known next first last is was none marked
    (λ stands c o h q. dropped c o h q ∙ by_tests c o h q (conn == c) (own == o) (id == q) (is_number before h) refl refl refl refl (stands h)) set
  where
    here : (c o h q : ℕ) → (conn == c) ≡ true → (own == o) ≡ true → (id == q) ≡ true → first conn own h id ≡ first c o h q
    here c o h q e f g =
        ap (λ k. first k own h id) (eqb-true conn c e) ∙ ap (λ k. first c k h id) (eqb-true own o f) ∙ ap (λ k. first c o h k) (eqb-true id q g)

    by_tests : (c o h q : ℕ) (a b e m : Bool) → (conn == c) ≡ a → (own == o) ≡ b → (id == q) ≡ e → is_number before h ≡ m → first conn own h id ≡ is_number before h
        → set_mark a b m e false (first c o h q) ≡ (if a then (if b then (if e then false else first c o h q) else first c o h q) else first c o h q)
    by_tests c o h q true true true true i j k l x = refl
    by_tests c o h q true true true false i j k l x = sym (here c o h q i j k) ∙ x ∙ l
    by_tests c o h q true true false true i j k l x = refl
    by_tests c o h q true true false false i j k l x = refl
    by_tests c o h q true false e m i j k l x = refl
    by_tests c o h q false b e m i j k l x = refl

-- what an id gets, told by the claim that it had
pub put_there : (known : ℕ → ℕ → ℕ → Option Claim) (f : Option Claim → Option Claim) (conn own id c o q : ℕ) (v : Option Claim) → v ≡ f (known conn own id)
    → set_claim (conn == c) (own == o) (id == q) v (known c o q) ≡ set_claim (conn == c) (own == o) (id == q) (f (known c o q)) (known c o q)
put_there known f conn own id c o q v is = by_tests (conn == c) (own == o) (id == q) refl refl refl
  where
    by_tests : (x y z : Bool) → (conn == c) ≡ x → (own == o) ≡ y → (id == q) ≡ z → set_claim x y z v (known c o q) ≡ set_claim x y z (f (known c o q)) (known c o q)
    by_tests true true true e g h = here_same (λ c o q. f (known c o q)) conn own id c o q v is e g h
    by_tests true true false e g h = refl
    by_tests true false z e g h = refl
    by_tests false y z e g h = refl

pub same_handle : (a b : ℕ) → a ≡ b → (a == b) ≡ true
same_handle a b e = grind (arith, nat_tests, e)

pub later_is : (h : ℕ) (x : Transfer) (w : Claim) (now v : Option Claim) → Some w ≡ now → (w.handle == h) ≡ true → v ≡ claim h w.tag x → v ≡ claimed_later h x now
later_is h x w now v is same made = made ∙ sym (ap (λ b. if b then claim h w.tag x else Some w) same) ∙ ap (claimed_later h x) is

-- a delivery that is bound stays on its link, and is unbound no more
pub bound_unmarked : (v : Option Claim) → None ≡ unbound_handle (option_map bound_claim v)
bound_unmarked None = refl
bound_unmarked (Some v) = refl

pub link_stays : (here own same : Bool) (h : ℕ) (v next : Option Claim) → next ≡ set_claim here own same (option_map bound_claim v) v → is_of_link h v ≡ is_of_link h next
link_stays here own same h v next is = by_tests here own same v ∙ sym (ap (is_of_link h) is)
  where
    by_claim : (v : Option Claim) → is_of_link h v ≡ is_of_link h (option_map bound_claim v)
    by_claim None = refl
    by_claim (Some w) = refl

    by_tests : (here own same : Bool) (v : Option Claim) → is_of_link h v ≡ is_of_link h (set_claim here own same (option_map bound_claim v) v)
    by_tests true true true v = by_claim v
    by_tests true true false v = refl
    by_tests true false same v = refl
    by_tests false own same v = refl

-- all claims of a session or of a connection are gone
pub marked_end : (test : Tests) → ((h : ℕ) → false ≡ test h None) → (here own : Bool) (h : ℕ) (old next : Option Claim) (first last : Bool) → first ≡ test h old
    → last ≡ (if here then (if own then false else first) else first)
    → next ≡ (if here then (if own then None else old) else old) → last ≡ test h next
marked_end test none true true h old next first last marked ended gone = ended ∙ none h ∙ ap (test h) (sym gone)
marked_end test none true false h old next first last marked ended gone = ended ∙ marked ∙ ap (test h) (sym gone)
marked_end test none false own h old next first last marked ended gone = ended ∙ marked ∙ ap (test h) (sym gone)

-- how many there are
pub unbound_count : (s : IncomingDeliveries) (t : Trace) (c o h : ℕ) → IncomingFit s t → count_at s.by_link c o h ≡ unbound t c o h
unbound_count s t c o h fit =
    count_is (2 ^ 32) (λ id. is_unbound_on h (claims t c o id)) (λ id e. low id (at_id s.ids c o id) (fit.small c o id) (ap (is_unbound_on h) (fit.ids c o id) ∙ e)) (count_at s.by_link c o h)
    (count_same (λ id. is_unbound_on h (at_id s.ids c o id)) (λ id. is_unbound_on h (claims t c o id)) (λ id. ap (is_unbound_on h) (fit.ids c o id)) (count_at s.by_link c o h) (fit.marked.unbound c o h))
  where
    low : (id : ℕ) (v : Option Claim) → IsSmall id v → is_unbound_on h v ≡ true → id < 2 ^ 32
    low id None small e = absurd cc
    low id (Some v) small e = small

-- no claim is on a link whose claims are gone, so that the link may be forgotten
pub none_on : (link h : ℕ) (v : Option Claim) → (link == h) ≡ true → (is_unbound_on h (unless_on (Some link) v) ≡ false) × (is_of_link h (unless_on (Some link) v) ≡ false)
none_on link h None same = (refl, refl)
none_on link h (Some v) same = by_test (v.handle == link) (ap (λ k. v.handle == k) (sym (eqb-true link h same)))
  where
    by_unbound : (b e : Bool) → e ≡ false → (if b then e else false) ≡ false
    by_unbound true e f = f
    by_unbound false e f = refl

    by_test : (b : Bool) → (v.handle == h) ≡ b → (is_unbound_on h (if b then None else Some v) ≡ false) × (is_of_link h (if b then None else Some v) ≡ false)
    by_test true e = (refl, refl)
    by_test false e = (by_unbound v.unbound (v.handle == h) e, e)

pub marked_gone : (here own same : Bool) (h : ℕ) (v : Option Claim) (first last : Bool)
    → (here ≡ true → own ≡ true → same ≡ true → is_of_link h v ≡ false)
    → last ≡ (if here then (if own then (if same then false else first) else first) else first)
    → first ≡ is_of_link h v → last ≡ is_of_link h v
marked_gone true true true h v first last none is marked = is ∙ sym (none refl refl refl)
marked_gone true true false h v first last none is marked = is ∙ marked
marked_gone true false same h v first last none is marked = is ∙ marked
marked_gone false own same h v first last none is marked = is ∙ marked
