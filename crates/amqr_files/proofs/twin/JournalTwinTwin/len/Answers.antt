use Rattle.amqr_files.proofs.twin.JournalTwinTwin.len.Goals as goal

pub returns-in-Memory-clause-seen : goal.returns-in-Memory-clause-seen
returns-in-Memory-clause-seen c = rw (c.in-Memory.is) c.len.ensures.seen

pub returns-in-File-clause-seen : goal.returns-in-File-clause-seen
returns-in-File-clause-seen c = rw (c.in-File.is) c.len-in-File.ensures.seen
