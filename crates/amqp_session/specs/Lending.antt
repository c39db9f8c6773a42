-- The deliveries of a session after what is known of one of them was lent and changed.
use Rattle.std.specs.Prelude.{◌≡◌, ◌==◌, ℕ, Option, if◌then◌else◌}
use Rattle.std.specs.Option.{option_map}
use Rattle.std.specs.Borrow.{LendsSo, MutBor, Fml, RattleType}
use Rattle.std.specs.BTreeMap.{get, btree_map_len}
use Rattle.std.specs.Ordering.{nat_cmp}
use Rattle.amqp_session.specs.declared.delivery_ids.DeliveryIds.{DeliveryIds}
use Rattle.amqp_session.specs.contracts.delivery_ids.DeliveryIds.{the_row}

-- What was written last is known of the delivery with this id, and of all others what was known before.
abbrev pub LendsKnown : (T : RattleType) → MutBor (DeliveryIds T.Denot) → ℕ → Option (MutBor T.Denot) → Fml
LendsKnown T s id r = LendsSo (the_row T) T s r
    (λ n w. ((q : ℕ) → get nat_cmp n.deliveries q ≡ (if id == q then option_map (λ _. w) (get nat_cmp s.now.deliveries q) else get nat_cmp s.now.deliveries q))
    × (btree_map_len n.deliveries ≡ btree_map_len s.now.deliveries))
    (λ n. ((q : ℕ) → get nat_cmp n.deliveries q ≡ get nat_cmp s.now.deliveries q) × (btree_map_len n.deliveries ≡ btree_map_len s.now.deliveries))
