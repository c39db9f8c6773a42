use Rattle.std.proofs.Common.{◌≡◌, take}
use Rattle.disk_core.specs.Call.{events_of}
use Rattle.disk_core.specs.Event.{seen_of}
use Rattle.disk_core.proofs.call.replay.Given as goal

abbrev pub invariant-loop-call : goal.invariant-loop-call
invariant-loop-call l = l.bytes.items ≡ seen_of l.initial.bytes.items (events_of (take l.call-index l.calls))
