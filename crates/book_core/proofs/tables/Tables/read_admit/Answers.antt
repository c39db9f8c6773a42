use Rattle.std.proofs.Common.{sym}
use Rattle.book_model.specs.declared.act.Act.TheVariants.{Admit}
use Rattle.book_model.specs.Restoring.{raised}
use Rattle.book_core.proofs.Reading.{raise_row, row_from, row_new}
use Rattle.book_core.proofs.tables.Tables.read_admit.Goals as goal

pub returns-in-Ok : goal.returns-in-Ok
returns-in-Ok c b s =
    let none = sym (c.in-None.ensures b s) in (
      none,
      c.in-Ok.ensures.shows (raised b (Admit c.args.admission.now))
          (raise_row c.args.self.now b c.args.admission.now.row.0 s
          (row_from c.args.next.0 b c.args.admission.now none))
          (row_new c.args.next.0 b c.args.admission.now none),
    )
