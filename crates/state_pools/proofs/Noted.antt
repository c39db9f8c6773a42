-- A pool that notes no choice chooses as one that notes a consumer below all that it has.
use Rattle.std.proofs.Common.{◌≡◌, ◌∙◌, sym, ap, refl, ℕ, true, ◌<◌, Option, Some, None, is_some, arith}
use Rattle.std.specs.Prelude.{if◌then◌else◌, nat_lt, option_and_then}
use Rattle.std.proofs.lemmas.Bool.{lt-ltb}
use Rattle.route_credit.specs.Granting.{choice, least}
use Rattle.route_credit.specs.Links.{link_at}
use Rattle.route_credit.specs.Pool.{Sharing, turn_of}
use Rattle.route_credit.specs.declared.offer.Offer.{Offer}
use Rattle.route_table.specs.declared.sections.Distribution.{Distribution}
use Rattle.route_table.specs.declared.sections.Distribution.TheVariants.{Balanced, Closest, Multicast}
use Rattle.state_pools.specs.Fits.{AllAbove}

-- a consumer above the one chosen last has the turn that it has before the first choice
turn_above : (d : Distribution) (last id : ℕ) (x : Option Offer) → (is_some x ≡ true → last < id) → option_and_then (turn_of d 0 id) x ≡ option_and_then (turn_of d last id) x
turn_above d last id None above = refl
turn_above Balanced last id (Some offer) above = refl
turn_above Closest last id (Some offer) above =
    let here : last < id = above refl in
    let one : nat_lt 0 id ≡ true = lt-ltb 0 id (omega (arith, here)) in
    let two : nat_lt last id ≡ true = lt-ltb last id here in
    ap (λ b. if nat_lt 0 offer.free then Some (if b then 0 else 1) else None) (one ∙ sym two)
turn_above Multicast last id (Some offer) above = refl

-- so the choice is the same
pub none_noted : (pool : Sharing) (last : ℕ) → AllAbove last pool.consumers → choice (record pool { last = 0 }) ≡ choice (record pool { last = last })
none_noted pool last above = ap (λ figure. least figure pool.consumers) (λ i id. turn_above pool.distribution last id (link_at pool.consumers id) (above id) i)
