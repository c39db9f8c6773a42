use Rattle.amqr_files.proofs.twin.JournalTwinTwin.cut.Goals as goal

pub returns-in-Memory-clause-undone : goal.returns-in-Memory-clause-undone
returns-in-Memory-clause-undone c = rw (c.in-Memory.is) c.cut.ensures.undone

pub returns-in-File-clause-undone : goal.returns-in-File-clause-undone
returns-in-File-clause-undone c = rw (c.in-File.is) c.cut-in-File.ensures.undone
