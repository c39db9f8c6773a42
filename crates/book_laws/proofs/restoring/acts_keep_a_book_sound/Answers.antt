use Rattle.book_laws.proofs.KeptSound.{empty_sound, acts_keep}
use Rattle.book_laws.proofs.restoring.acts_keep_a_book_sound.Goals as goal

pub returns-clause-empty : goal.returns-clause-empty
returns-clause-empty c = empty_sound

pub returns-clause-acts : goal.returns-clause-acts
returns-clause-acts c b acts sound applies = acts_keep b acts applies sound
