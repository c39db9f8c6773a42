use Rattle.disk_core.specs.declared.side.Side.TheVariants.{First, Second}
use Rattle.disk_core.specs.Note.{turns_noted}
use Rattle.disk_core.proofs.TwinCalls.{sync_less}
use Rattle.disk_core.proofs.file_twin.FileTwinTwin.sync.Goals as goal

pub returns-in-First-clause-crash : goal.returns-in-First-clause-crash
returns-in-First-clause-crash c =
    sync_less First c.sync-done.result (turns_noted c.args.self.now.history.notes) (turns_noted c.note_sync.new.history.notes) c.note_sync.ensures.noted

pub returns-in-Second-clause-crash : goal.returns-in-Second-clause-crash
returns-in-Second-clause-crash c =
    sync_less Second c.sync-done-in-Second.result (turns_noted c.args.self.now.history.notes) (turns_noted c.note_sync-in-Second.new.history.notes)
    c.note_sync-in-Second.ensures.noted
