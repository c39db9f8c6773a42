use Rattle.disk_core.specs.Call.{events_of}
use Rattle.disk_core.specs.ImageLaws.{image_synced}
use Rattle.disk_core.proofs.memory.MemDiskDisk.sync.Goals as goal

pub returns-clause-crash : goal.returns-clause-crash
returns-clause-crash c = λ f left. image_synced c.args.self.now.first.items (events_of c.args.self.now.calls.items) (events_of c.note.new.calls.items) f c.in_ok-note.ensures.ok left
