use Rattle.clap.proofs.BuiltLemmas.{on_ok_always}
use Rattle.amqr_files.proofs.twin.JournalTwinTwin.sync.Goals as goal

pub returns-in-Memory-clause-undone : goal.returns-in-Memory-clause-undone
returns-in-Memory-clause-undone c = rw (c.in-Memory.is) c.sync.ensures.undone

pub returns-in-File-clause-undone : goal.returns-in-File-clause-undone
returns-in-File-clause-undone c = rw (c.in-File.is) c.sync-in-File.ensures.undone

pub returns-in-File-clause-seen : goal.returns-in-File-clause-seen
returns-in-File-clause-seen c = on_ok_always c.sync-in-File.result (rw (c.in-File.is) c.sync-in-File.ensures.seen)
