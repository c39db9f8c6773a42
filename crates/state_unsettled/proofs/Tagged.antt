-- Whether an unsettled delivery of a link has a tag, found among the ids of the link's claims.
use Rattle.std.proofs.Common.{◌≡◌, ◌∙◌, ◌<◌, ◌-◌, ◌^◌, ℕ, zero, suc, Bool, true, false, refl, sym, ap, arith, List, Option, Some, None}
use Rattle.std.specs.Prelude.{◌==◌, ◌&&◌, nat_lt, is_some}
use Rattle.std.proofs.lemmas.Bool.{eqb-true}
use Rattle.std.proofs.lemmas.Bool.Decides.{nat_tests}
use Rattle.router_trace.specs.Claims.{Claim, claims}
use Rattle.router_trace.specs.Numbers.{first_below, or_other, if_passes}
use Rattle.router_trace.specs.Settling.{is_of_link, is_tag, is_tagged_on, uses_tag}
use Rattle.router_trace.specs.Trace.{Trace}
use Rattle.router_trace.proofs.Numbers.{not_true, none_below}
use Rattle.state_unsettled.specs.declared.by_link.OfLink.{OfLink}
use Rattle.state_unsettled.specs.declared.incoming.IncomingDeliveries.{IncomingDeliveries}
use Rattle.state_unsettled.specs.Incoming.{IncomingFit, IsSmall, TellsAny, tagged_at}
use Rattle.state_unsettled.specs.Standing.{has_id}
use Rattle.state_collections.specs.Ids.{at_id}
use Rattle.state_collections.specs.Places.{at}

wrong : (b : Bool) → b ≡ true → b ≡ false → ⊥
wrong true f g = absurd cc
wrong false f g = absurd cc

both_first : (a b : Bool) → (a && b) ≡ true → a ≡ true
both_first true b f = refl
both_first false b f = f

both_second : (a b : Bool) → (a && b) ≡ true → b ≡ true
both_second true b f = f
both_second false b f = absurd cc

both : (a b : Bool) → a ≡ true → b ≡ true → (a && b) ≡ true
both true b e f = f
both false b e f = e

-- how far a search has to go
abbrev pub left : Option ℕ → ℕ
left None = 0
left (Some k) = 18446744073709551616 - k

-- a number below a bound that passes
some_below : (bound n : ℕ) (p : ℕ → Bool) → n < bound → p n ≡ true → is_some (first_below bound p) ≡ true
unfolding first_below
some_below zero n p l e = absurd (omega (arith, l))
some_below (suc b) n p l e = by_test (n == b) refl (λ k. some_below b n p k e)
  where
    less : (n b : ℕ) → n < suc b → (n == b) ≡ false → n < b
    less n b l e = grind (arith, nat_tests)

    second : (v : Option ℕ) (k : ℕ) → is_some (or_other v (Some k)) ≡ true
    second None k = refl
    second (Some j) k = refl

    first : (v w : Option ℕ) → is_some v ≡ true → is_some (or_other v w) ≡ true
    first None w f = absurd cc
    first (Some j) w f = refl

    by_test : (t : Bool) → (n == b) ≡ t → (n < b → is_some (first_below b p) ≡ true) → is_some (or_other (first_below b p) (if_passes (p b) b)) ≡ true
    by_test true f below =
        ap (λ t. is_some (or_other (first_below b p) (if_passes t b))) (ap p (sym (eqb-true n b f)) ∙ e) ∙ second (first_below b p) b
    by_test false f below = first (first_below b p) (if_passes (p b) b) (below (less n b l f))

-- a tagged claim has a small id, and is of its link
low : (h id : ℕ) (tag : List ℕ) (v : Option Claim) → IsSmall id v → is_tagged_on h tag v ≡ true → id < 2 ^ 32
low h id tag None small e = absurd cc
low h id tag (Some v) small e = small

of_link : (h : ℕ) (tag : List ℕ) (v : Option Claim) → is_tagged_on h tag v ≡ true → is_of_link h v ≡ true
of_link h tag None e = absurd cc
of_link h tag (Some v) e = both_first (v.handle == h) (is_tag v.tag tag) e

small_test : (n : ℕ) → n < 2 ^ 32 → nat_lt n 4294967296 ≡ true
small_test n l = grind (arith, nat_tests, l)

pub uses_is : (s : IncomingDeliveries) (t : Trace) (c o h : ℕ) (tag : List ℕ) (v : Option OfLink) (r : Bool) → IncomingFit s t → v ≡ at s.by_link.rows c o h
    → TellsAny (has_id v) (tagged_at h tag (at_id s.ids c o)) r → r ≡ uses_tag t c o h tag
uses_is s t c o h tag v true fit is one =
    let tagged : is_tagged_on h tag (at_id s.ids c o one.0) ≡ true = both_second (nat_lt one.0 4294967296) (is_tagged_on h tag (at_id s.ids c o one.0)) one.1 in
    sym (some_below (2 ^ 32) one.0 (λ id. is_tagged_on h tag (claims t c o id)) (low h one.0 tag (at_id s.ids c o one.0) (fit.small c o one.0) tagged)
    (sym (ap (is_tagged_on h tag) (fit.ids c o one.0)) ∙ tagged))
uses_is s t c o h tag v false fit is none =
    sym (ap (λ (w : Option ℕ). is_some w) (none_below (2 ^ 32) (λ id. is_tagged_on h tag (claims t c o id)) (λ id l. sym (ap (is_tagged_on h tag) (fit.ids c o id)) ∙ fails id)))
  where
    fails : (id : ℕ) → is_tagged_on h tag (at_id s.ids c o id) ≡ false
    fails id = not_true (is_tagged_on h tag (at_id s.ids c o id)) (λ passes.
        let there : has_id v id ≡ true = ap (λ w. has_id w id) is ∙ fit.marked.by_link c o h id ∙ of_link h tag (at_id s.ids c o id) passes in
        wrong (tagged_at h tag (at_id s.ids c o) id)
        (both (nat_lt id 4294967296) (is_tagged_on h tag (at_id s.ids c o id)) (small_test id (low h id tag (at_id s.ids c o id) (fit.small c o id) passes)) passes)
        (none id there))
