use Rattle.std.proofs.Common.{◌∙◌}
use Rattle.twin_journal.proofs.Ahead.{fill_is}
use Rattle.twin_journal.proofs.held.Held.fill.Goals as goal

pub returns : goal.returns
returns c figures lists held some = fill_is lists c.deref.result.now (c.deref.ensures.value ∙ held.bytes) some
