-- The room that a transfer leaves for its payload.
use Rattle.std.proofs.Common.{◌≡◌, ◌≤◌, ◌<◌, ◌↔◌, ℕ, ◌+◌, ◌-◌, ◌^◌, Bool, true, false, List, length, length-append, Option, Some, None, refl, arith}
use Rattle.std.specs.Prelude.{min, nat_lt, if◌then◌else◌}
use Rattle.amqp_model.specs.declared.perf.Transfer.{Transfer}
use Rattle.amqp_model.specs.declared.perf.Perf.{Perf}
use Rattle.amqp_model.specs.declared.perf.Perf.TheVariants as perf
use Rattle.amqp_model.specs.PerfSpelling.{spelling}
use Rattle.amqp_model.specs.declared.item.Item.TheVariants as item
use Rattle.amqp_model.specs.ItemSpelling.{item_spelling}
use Rattle.amqp_model.specs.Room.{transfer_frame, FitsInto}

frame_len : (channel : ℕ) (p : Perf) (payload : List ℕ) → length (item_spelling (item.Frame false channel p payload)) ≡ 8 + (length (spelling p) + length payload)
unfolding item_spelling
frame_len channel p payload = omega (arith, length-append (spelling p) payload)

-- by numbers: what is taken, and whether that is more than is allowed
by_test : (spelt len most taken : ℕ) (past : Bool) → most < 2 ^ 32 → taken ≡ min (min spelt (2 ^ 64 - 1) + 8) (2 ^ 64 - 1) → nat_lt most taken ≡ past
    → (8 + (spelt + len) ≤ most) ↔ FitsInto (if past then None else Some (most - taken)) len
by_test spelt len most taken true small is test = ((λ h. grind (arith, h)), (λ h. absurd h))
by_test spelt len most taken false small is test = ((λ h. grind (arith, h)), (λ h. grind (arith, h)))

pub room_is : (channel : ℕ) (x : Transfer) (payload : List ℕ) (most taken : ℕ) (room : Option ℕ) → most < 2 ^ 32
    → taken ≡ min (min (length (spelling (perf.Transfer x))) (2 ^ 64 - 1) + 8) (2 ^ 64 - 1)
    → room ≡ (if nat_lt most taken then None else Some (most - taken))
    → (length (item_spelling (transfer_frame channel x payload)) ≤ most) ↔ FitsInto room (length payload)
room_is channel x payload most taken room small is left =
    rw (frame_len channel (perf.Transfer x) payload, left) (by_test (length (spelling (perf.Transfer x))) (length payload) most taken (nat_lt most taken) small is refl)
