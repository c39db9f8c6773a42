-- A table's claims keep agreeing with the trace.
use Rattle.std.proofs.Common.{◌≡◌, ◌∙◌, ◌<◌, ◌^◌, ◌||◌, ◌&&◌, ℕ, Bool, true, false, refl, sym, ap, subst, arith, List, [], ◌∷◌, Option, Some, None}
use Rattle.std.specs.Prelude.{◌==◌, if◌then◌else◌}
use Rattle.std.specs.Option.{is_some}
use Rattle.std.proofs.lemmas.Bool.{eqb-true}
use Rattle.std.proofs.lemmas.Bool.Decides.{nat_tests}
use Rattle.amqp_model.specs.declared.perf.Disposition.{Disposition}
use Rattle.amqp_model.specs.declared.perf.Role.{Role}
use Rattle.amqp_model.specs.declared.perf.Role.TheVariants.{Sender, Receiver}
use Rattle.amqp_session.specs.Ranges.{in_range, has}
use Rattle.router_trace.specs.Claims.{Claim}
use Rattle.router_trace.specs.Deliveries.{last_of}
use Rattle.state_unsettled.specs.Incoming.{IsSmall, is_on, unless_on, let_go_at, settled_by_role, settled_at}
use Rattle.router_trace.proofs.Numbers.{equal_back}

-- a freed claim stays free
unless_twice : (link : Option ℕ) (v : Option Claim) → unless_on link (unless_on link v) ≡ unless_on link v
unless_twice link None = refl
unless_twice link (Some v) = by_test (is_on (Some v) link) refl
  where
    by_test : (b : Bool) → is_on (Some v) link ≡ b → unless_on link (unless_on link (Some v)) ≡ unless_on link (Some v)
    by_test true e = rw e refl
    by_test false e = rw (e, e) refl

-- one more id
pub one_more : (here own : Bool) (q id : ℕ) (more : List ℕ) (link : Option ℕ) (before after : Option Claim) → after ≡ let_go_at here own (id == q) link before
    → let_go_at here own (has q more) link after ≡ let_go_at here own (has q (id ∷ more)) link before
one_more here own q id more link before after is = rw (is, equal_back q id) (by_tests here own (q == id) (has q more))
  where
    by_tests : (h o x m : Bool) → let_go_at h o m link (let_go_at h o x link before) ≡ let_go_at h o (x || m) link before
    by_tests true true true true = unless_twice link before
    by_tests true true true false = refl
    by_tests true true false m = refl
    by_tests true false x m = refl
    by_tests false o x m = refl

-- all of them
pub all_gone : (conn own c o q first last : ℕ) (ids : List ℕ) (link : Option ℕ) (known : ℕ → ℕ → ℕ → Option Claim) → IsSmall q (known conn own q)
    → ((id : ℕ) → id < 2 ^ 32 → has id ids ≡ (in_range first last id && is_some (known conn own id)))
    → let_go_at (conn == c) (own == o) (has q ids) link (known c o q) ≡ let_go_at (conn == c) (own == o) (in_range first last q) link (known c o q)
all_gone conn own c o q first last ids link known small exact = by_places (conn == c) (own == o) refl refl
  where
    none_gone : (b : Bool) → (if b then unless_on link None else None) ≡ None
    none_gone true = refl
    none_gone false = refl

    and_true : (b : Bool) → (b && true) ≡ b
    and_true true = refl
    and_true false = refl

    low : (v : Option Claim) → known conn own q ≡ v → (if has q ids then unless_on link v else v) ≡ (if in_range first last q then unless_on link v else v)
    low None e = none_gone (has q ids) ∙ sym (none_gone (in_range first last q))
    low (Some v) e = ap (λ b. if b then unless_on link (Some v) else Some v)
        (exact q (subst (λ w. IsSmall q w) e small) ∙ ap (λ w. in_range first last q && is_some w) e ∙ and_true (in_range first last q))

    moved : conn ≡ c → own ≡ o → known conn own q ≡ known c o q
    moved x y = ap (λ k. known k own q) x ∙ ap (λ k. known c k q) y

    by_places : (h w : Bool) → (conn == c) ≡ h → (own == o) ≡ w
        → let_go_at h w (has q ids) link (known c o q) ≡ let_go_at h w (in_range first last q) link (known c o q)
    by_places true true e f = low (known c o q) (moved (eqb-true conn c e) (eqb-true own o f))
    by_places true false e f = refl
    by_places false w e f = refl

-- a range of one id
alone : (first q : ℕ) → first < 2 ^ 32 → q < 2 ^ 32 → (first == q) ≡ in_range first first q
alone first q f l = grind (arith, nat_tests)

pub one_gone : (here own : Bool) (first last q : ℕ) (link : Option ℕ) (v : Option Claim) → first < 2 ^ 32 → first ≡ last → IsSmall q v
    → let_go_at here own (first == q) link v ≡ let_go_at here own (in_range first last q) link v
one_gone here own first last q link None f is small = none_here here own (first == q) (in_range first last q)
  where
    none_here : (h o a b : Bool) → let_go_at h o a link None ≡ let_go_at h o b link None
    none_here true true true true = refl
    none_here true true true false = refl
    none_here true true false true = refl
    none_here true true false false = refl
    none_here true false a b = refl
    none_here false o a b = refl
one_gone here own first last q link (Some v) f is small =
    ap (λ b. let_go_at here own b link (Some v)) (alone first q f small ∙ ap (λ k. in_range first k q) is)

-- a small id stays small
pub small_gone : (here own among : Bool) (link : Option ℕ) (q : ℕ) (old new : Option Claim) → new ≡ let_go_at here own among link old → IsSmall q old → IsSmall q new
small_gone here own among link q old new is x = rw is (by_tests here own among)
  where
    unless_small : (v : Option Claim) → IsSmall q v → IsSmall q (unless_on link v)
    unless_small None y = y
    unless_small (Some v) y = by_test (is_on (Some v) link)
      where
        by_test : (b : Bool) → IsSmall q (if b then None else Some v)
        by_test true = tt
        by_test false = y

    by_tests : (h o a : Bool) → IsSmall q (let_go_at h o a link old)
    by_tests true true true = unless_small old x
    by_tests true true false = x
    by_tests true false a = x
    by_tests false o a = x

-- when no id is left
pub nothing_left : (here own : Bool) (q : ℕ) (more : List ℕ) (link : Option ℕ) (v : Option Claim) → more ≡ [] → v ≡ let_go_at here own (has q more) link v
nothing_left here own q more link v none = rw none (by_tests here own)
  where
    by_tests : (h o : Bool) → v ≡ let_go_at h o false link v
    by_tests true true = refl
    by_tests true false = refl
    by_tests false o = refl

-- both halves of all ids
halves : (q : ℕ) → q < 2 ^ 32 → (in_range 0 2147483647 q || in_range 2147483648 4294967295 q) ≡ true
halves q l = grind (arith, nat_tests)

two_gone : (here own a b : Bool) (link : Option ℕ) (v : Option Claim) → (a || b) ≡ true → let_go_at here own b link (let_go_at here own a link v) ≡ let_go_at here own true link v
two_gone true true true true link v e = unless_twice link v
two_gone true true true false link v e = refl
two_gone true true false true link v e = refl
two_gone true true false false link v e = absurd cc
two_gone true false a b link v e = refl
two_gone false own a b link v e = refl

none_gone : (here own a b : Bool) (link : Option ℕ) → let_go_at here own b link (let_go_at here own a link None) ≡ let_go_at here own true link None
none_gone true true true true link = refl
none_gone true true true false link = refl
none_gone true true false true link = refl
none_gone true true false false link = refl
none_gone true false a b link = refl
none_gone false own a b link = refl

pub both_halves : (here own : Bool) (link : Option ℕ) (q : ℕ) (v : Option Claim) → IsSmall q v
    → let_go_at here own (in_range 2147483648 4294967295 q) link (let_go_at here own (in_range 0 2147483647 q) link v) ≡ let_go_at here own true link v
both_halves here own link q None small = none_gone here own (in_range 0 2147483647 q) (in_range 2147483648 4294967295 q) link
both_halves here own link q (Some v) small = two_gone here own (in_range 0 2147483647 q) (in_range 2147483648 4294967295 q) link (Some v) (halves q small)

-- what a disposition settles
all_go : (v : Option Claim) → unless_on None v ≡ None
all_go None = refl
all_go (Some v) = refl

by_role : (r : Role) (x : Disposition) (q : ℕ) (v : Option Claim) → x.settled ≡ true → (if in_range x.first (last_of x) q then None else v) ≡ settled_by_role r r x q v
by_role Sender x q v e = sym (ap (λ b. if b && in_range x.first (last_of x) q then None else v) e)
by_role Receiver x q v e = sym (ap (λ b. if b && in_range x.first (last_of x) q then None else v) e)

pub settled_there : (here own : Bool) (r : Role) (x : Disposition) (last q : ℕ) (v : Option Claim) → x.role ≡ r → x.settled ≡ true → last ≡ last_of x
    → let_go_at here own (in_range x.first last q) None v ≡ (if here then (if own then settled_at r x q v else v) else v)
settled_there here own r x last q v role settles is =
    ap (λ (l : ℕ). if here then (if own then (if in_range x.first l q then unless_on None v else v) else v) else v) is
    ∙ ap (λ (w : Option Claim). if here then (if own then (if in_range x.first (last_of x) q then w else v) else v) else v) (all_go v)
    ∙ ap (λ (w : Option Claim). if here then (if own then w else v) else v)
    (by_role r x q v settles ∙ ap (λ (k : Role). settled_by_role r k x q v) (sym role))
