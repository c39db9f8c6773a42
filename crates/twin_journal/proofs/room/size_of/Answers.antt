use Rattle.std.proofs.Common.{◌∙◌}
use Rattle.twin_journal.proofs.Keeping.{if_ok}
use Rattle.twin_journal.proofs.room.size_of.Goals as goal

pub returns : goal.returns
returns c = if_ok c.size_with.result (λ n counted. counted c.args.book.now (c.as_slice.ensures.value ∙ c.in_ok-acts.ensures)) c.size_with.ensures
