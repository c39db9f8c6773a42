-- How much of the previous choice a choice depends on.
use Rattle.std.proofs.Common.{◌≡◌, ap, refl, ℕ, Option, Some, None}
use Rattle.std.specs.Prelude.{option_and_then}
use Rattle.route_credit.specs.Granting.{choice, least}
use Rattle.route_credit.specs.Links.{link_at}
use Rattle.route_credit.specs.Pool.{remembered, remembering, Sharing, turn_of}
use Rattle.route_credit.specs.declared.offer.Offer.{Offer}
use Rattle.route_table.specs.declared.sections.Distribution.{Distribution}
use Rattle.route_table.specs.declared.sections.Distribution.TheVariants.{Balanced, Closest, Multicast}

-- each consumer's turn is the same
same_turn : (d : Distribution) (last id : ℕ) (x : Option Offer) → option_and_then (turn_of d (remembered d last) id) x ≡ option_and_then (turn_of d last id) x
same_turn d last id None = refl
same_turn Balanced last id (Some offer) = refl
same_turn Closest last id (Some offer) = refl
same_turn Multicast last id (Some offer) = refl

-- and so is the choice
pub choice_but_last : (pool : Sharing) → choice (remembering pool) ≡ choice pool
choice_but_last pool = ap (λ figure. least figure pool.consumers) (λ i id. same_turn pool.distribution pool.last id (link_at pool.consumers id) i)
