use Rattle.book_core.proofs.Steps.{swept_rows}
use Rattle.book_core.proofs.tables.sweep_rows.Goals as goal

pub returns-then-taken-len : goal.returns-then-taken-len
returns-then-taken-len c = swept_rows c.args.slots.now.items c.drop_empty_rows.new.slots.items c.drop_empty_rows.ensures
