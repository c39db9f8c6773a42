use Rattle.book_laws.proofs.ReadBack.{read_back_sound}
use Rattle.book_laws.proofs.restoring.what_is_read_back_is_sound.Goals as goal

pub returns : goal.returns
returns c = read_back_sound
