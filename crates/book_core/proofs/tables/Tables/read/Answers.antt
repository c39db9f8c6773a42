use Rattle.book_core.proofs.Reading.{as_read}
use Rattle.book_model.specs.declared.act.Act.TheVariants.{Decide, Forget, Drop}
use Rattle.book_core.proofs.tables.Tables.read.Goals as goal

pub returns-in-Decide : goal.returns-in-Decide
returns-in-Decide c b s = rw c.in-Decide.is (as_read c.step.result c.step.new.self b (Decide c.in-Decide.field-0)
    (rw c.in-Decide.is at (c.step.ensures.step b s)))

pub returns-in-Forget : goal.returns-in-Forget
returns-in-Forget c b s = rw c.in-Forget.is (as_read c.step-in-Forget.result c.step-in-Forget.new.self b
    (Forget c.in-Forget.field-0) (rw c.in-Forget.is at (c.step-in-Forget.ensures.step b s)))

pub returns-in-Drop : goal.returns-in-Drop
returns-in-Drop c b s = rw c.in-Drop.is (as_read c.step-in-Drop.result c.step-in-Drop.new.self b
    (Drop c.in-Drop.field-0) (rw c.in-Drop.is at (c.step-in-Drop.ensures.step b s)))
