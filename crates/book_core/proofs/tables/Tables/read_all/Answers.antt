use Rattle.std.proofs.Common.{subst}
use Rattle.book_model.specs.Book.{BookView}
use Rattle.book_model.specs.Restoring.{restore_effect}
use Rattle.book_core.specs.Tables.{Shows}
use Rattle.book_core.proofs.Reading.{unread_here, unread_on, unread_done, read_on, read_done}
use Rattle.book_core.proofs.tables.Tables.read_all.Goals as goal

pub returns-in-Err : goal.returns-in-Err
returns-in-Err c b s other =
    let m = c.loop-act.invariant b s in
    unread_here c.args.next_terminus.0 c.args.next_row.0 b m.0 _ _ _ _ c.loop-act-test.true c.act-item.is m.2
    (c.in-Err.ensures m.0 m.1 other)

pub loop-act-preserved : goal.loop-act-preserved
loop-act-preserved c b s =
    let m = c.loop-act.invariant b s in
    let was = c.in-Ok.ensures m.0 m.1 in (
      restore_effect m.0 c.act-item.result,
      was.1,
      unread_on c.args.next_terminus.0 c.args.next_row.0 b m.0 _ _ _ c.loop-act-test.true c.act-item.is m.2 was.0,
      read_on b m.0 _ _ _ c.loop-act-test.true c.act-item.is m.3,
    )

pub returns : goal.returns
returns c b s =
    let m = c.loop-act.invariant b s in
    let P : BookView → Type 0 = λ n. Shows c.loop-act.self n in (
      unread_done c.args.next_terminus.0 c.args.next_row.0 b m.0 _ _ c.loop-act-test.false m.2,
      subst P
          (read_done b m.0 _ _ c.loop-act-test.false m.3) m.1,
    )
