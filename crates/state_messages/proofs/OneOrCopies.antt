-- An address that chooses a consumer for a message makes no copies of it.
use Rattle.std.proofs.Common.{◌≡◌, refl, ap, ℕ, true, Option, Some, None, List, []}
use Rattle.std.specs.Prelude.{is_some, option_and_then}
use Rattle.route_credit.specs.Granting.{choice}
use Rattle.route_credit.specs.Links.{link_at}
use Rattle.route_credit.specs.Pool.{copies, copies_by, Sharing, turn, turn_of}
use Rattle.route_credit.specs.declared.offer.Offer.{Offer}
use Rattle.route_table.specs.declared.sections.Distribution.{Distribution}
use Rattle.route_table.specs.declared.sections.Distribution.TheVariants.{Balanced, Closest, Multicast}
use Rattle.router_trace.specs.Links.{Link, numbered}
use Rattle.router_trace.specs.Trace.{Trace}
use Rattle.state_messages.specs.Messages.{choice_of, consumer_of, copies_at, copies_for, places_of, pool_of}
use Rattle.state_messages.proofs.Chosen.{least_has}

no_copies : (distribution : Distribution) (last id : ℕ) (link : Option Offer) (consumers : List (ℕ × Offer)) → is_some (option_and_then (turn_of distribution last id) link) ≡ true
    → copies_by distribution consumers ≡ []
no_copies Balanced last id link consumers turns = refl
no_copies Closest last id link consumers turns = refl
no_copies Multicast last id None consumers turns = absurd cc
no_copies Multicast last id (Some offer) consumers turns = absurd cc

none_of_pool : (pool : Sharing) (id : ℕ) → choice pool ≡ Some id → copies pool ≡ []
none_of_pool pool id is = no_copies pool.distribution pool.last id (link_at pool.consumers id) pool.consumers (least_has (turn pool) pool.consumers id is)

none_at : (t : Trace) (address : List ℕ) (id : ℕ) → choice_of t address ≡ Some id → copies_at t address ≡ []
unfolding choice_of copies_at
none_at t address id is = none_of_pool (pool_of t address) id is

pub one_or_copies : (t : Trace) (l : Option Link) → is_some (consumer_of t l) ≡ true → copies_for t l ≡ []
one_or_copies t None some = absurd cc
one_or_copies t (Some l) some = by (choice_of t l.address) refl some
  where
    by : (v : Option ℕ) → choice_of t l.address ≡ v → is_some (option_and_then (numbered t) v) ≡ true → places_of t (copies_at t l.address) ≡ []
    by None is some = absurd cc
    by (Some id) is some = ap (places_of t) (none_at t l.address id is)
