use Rattle.std.proofs.Common.{rules, ◌≡◌, ◌+◌, ◌-◌, ◌^◌, length, Some, None}
use Rattle.std.specs.Prelude.{min, nat_lt, if◌then◌else◌}
use Rattle.amqp_model.specs.declared.perf.Perf.TheVariants as perf
use Rattle.amqp_model.specs.PerfSpelling.{spelling}
use Rattle.amqp_frames.proofs.Rooms.{room_is}
use Rattle.amqp_frames.proofs.room.transfer_room.Goals as goal

pub returns-clause-exact : goal.returns-clause-exact
returns-clause-exact c = λ channel payload.
    let taken : c.saturating_add-taken.result ≡ min (min (length (spelling (perf.Transfer c.args.transfer.now))) (2 ^ 64 - 1) + 8) (2 ^ 64 - 1) = search rules in
    let left : c.checked_sub.result ≡ (if nat_lt c.args.most c.saturating_add-taken.result then None else Some (c.args.most - c.saturating_add-taken.result)) = search rules in
    room_is channel c.args.transfer.now payload c.args.most c.saturating_add-taken.result c.checked_sub.result (search rules) taken left
