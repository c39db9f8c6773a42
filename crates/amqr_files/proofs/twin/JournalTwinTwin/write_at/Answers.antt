use Rattle.amqr_files.proofs.twin.JournalTwinTwin.write_at.Goals as goal

pub returns-in-Memory-clause-undone : goal.returns-in-Memory-clause-undone
returns-in-Memory-clause-undone c = rw (c.in-Memory.is) c.write_at.ensures.undone

pub returns-in-File-clause-undone : goal.returns-in-File-clause-undone
returns-in-File-clause-undone c = rw (c.in-File.is) c.write_at-in-File.ensures.undone
