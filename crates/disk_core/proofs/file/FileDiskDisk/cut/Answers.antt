use Rattle.std.proofs.Common.{[], ap}
use Rattle.disk_core.specs.ImageLaws.{opens_shortened, opens_began_cut}
use Rattle.disk_core.specs.Note.{events_noted}
use Rattle.disk_core.proofs.file.FileDiskDisk.cut.Goals as goal

pub returns-then-is_err-clause-crash : goal.returns-then-is_err-clause-crash
returns-then-is_err-clause-crash c = opens_began_cut [] (events_noted c.args.self.now.history.notes) (events_noted c.note.new.self.notes) c.args.len (ap events_noted c.note.ensures)

pub returns-clause-crash : goal.returns-clause-crash
returns-clause-crash c = opens_shortened [] (events_noted c.args.self.now.history.notes) (events_noted c.note-2.new.self.notes) c.args.len (ap events_noted c.note-2.ensures)
