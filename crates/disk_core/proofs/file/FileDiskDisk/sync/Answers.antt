use Rattle.std.proofs.Common.{[], ap}
use Rattle.disk_core.specs.ImageLaws.{image_synced}
use Rattle.disk_core.specs.Note.{events_noted}
use Rattle.disk_core.proofs.file.FileDiskDisk.sync.Goals as goal

pub returns-clause-crash : goal.returns-clause-crash
returns-clause-crash c = λ f left. image_synced [] (events_noted c.args.self.now.history.notes) (events_noted c.note.new.self.notes) f (ap events_noted c.note.ensures) left
