use Rattle.book_core.proofs.Steps.{swept_termini}
use Rattle.book_core.proofs.tables.sweep_termini.Goals as goal

pub returns-then-taken-len : goal.returns-then-taken-len
returns-then-taken-len c = swept_termini c.args.slots.now.items c.drop_empty_termini.new.slots.items c.drop_empty_termini.ensures
