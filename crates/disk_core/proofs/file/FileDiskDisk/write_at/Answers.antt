use Rattle.std.proofs.Common.{[], ap, length}
use Rattle.disk_core.specs.ImageLaws.{opens_wrote, opens_began_write}
use Rattle.disk_core.specs.Note.{events_noted}
use Rattle.disk_core.proofs.file.FileDiskDisk.write_at.Goals as goal

pub returns-then-is_err-clause-crash : goal.returns-then-is_err-clause-crash
returns-then-is_err-clause-crash c = opens_began_write [] (events_noted c.args.self.now.history.notes) (events_noted c.note.new.self.notes) c.args.at (length c.args.bytes.now) (ap events_noted c.note.ensures)

pub returns-clause-crash : goal.returns-clause-crash
returns-clause-crash c = opens_wrote [] (events_noted c.args.self.now.history.notes) (events_noted c.note-2.new.self.notes) c.args.at c.args.bytes.now (ap events_noted c.note-2.ensures)
