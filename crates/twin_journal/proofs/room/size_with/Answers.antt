use Rattle.std.proofs.Common.{ap, arith, List, length}
use Rattle.book_model.specs.declared.act.Act.{Act}
use Rattle.journal_codec.specs.Format.{acts_bytes}
use Rattle.twin_journal.proofs.Sizes.{checkpoint_size_is}
use Rattle.twin_journal.proofs.room.size_with.Goals as goal

pub returns-in-Some : goal.returns-in-Some
returns-in-Some c book are = omega (arith, c.in-Some.ensures.1, c.in_ok-len.ensures, ap (λ (acts : List Act). length (acts_bytes acts)) are, checkpoint_size_is book)
