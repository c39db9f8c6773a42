use Rattle.disk_core.specs.Call.{events_of}
use Rattle.disk_core.specs.ImageLaws.{opens_shortened}
use Rattle.disk_core.proofs.memory.MemDiskDisk.cut.Goals as goal

pub returns-clause-crash : goal.returns-clause-crash
returns-clause-crash c = opens_shortened c.args.self.now.first.items (events_of c.args.self.now.calls.items) (events_of c.note.new.calls.items) c.args.len c.in_ok-note.ensures.ok
