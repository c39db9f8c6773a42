use Rattle.std.proofs.Common.{◌∙◌, [], ◌∷◌}
use Rattle.std.specs.Prelude.{filter}
use Rattle.book_core.specs.Rows.{rows_left}
use Rattle.book_model.specs.Book.{is_from}
use Rattle.router_reply.specs.Holding.{held_to}
use Rattle.router_reply.proofs.Held.{held_both}
use Rattle.router_reply.proofs.holding.hold_all.Goals as goal

pub loop-row-preserved : goal.loop-row-preserved
loop-row-preserved c = λ t fit.
    let was = c.loop-row.invariant t fit in
    let row = c.in-Some.row.now in
    let wanted = is_from c.args.terminus.0 in (
      held_to c.args.at (filter wanted (row ∷ [])) was.0,
      c.in_ok-hold.ensures was.0 was.1,
      held_both c.args.at wanted row (rows_left c.next.new.self) (rows_left c.loop-row.row-iterator) was.0 c.in-Some.ensures.steps ∙ was.2,
    )
