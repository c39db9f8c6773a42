use Rattle.twin_journal.proofs.Fulls.{new_room, room_after}
use Rattle.twin_journal.proofs.laws.room_stays.Goals as goal

pub returns-clause-new : goal.returns-clause-new
returns-clause-new c = new_room

pub returns-clause-batch : goal.returns-clause-batch
returns-clause-batch c = room_after
