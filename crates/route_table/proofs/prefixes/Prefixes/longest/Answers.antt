use Rattle.std.proofs.Common.{arith}
use Rattle.route_table.proofs.Longest.{scan_best}
use Rattle.route_table.proofs.prefixes.Prefixes.longest.Goals as goal

pub loop-value-init : goal.loop-value-init
loop-value-init g c = rw c.as_bytes-bytes.ensures.value (record { within = omega arith; below = scan_best c.args.self.now c.args.address.now })
