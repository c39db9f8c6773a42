use Rattle.std.proofs.Common.{sym, None, Some, ◌∙◌}
use Rattle.book_core.proofs.Reading.{raise_terminus, make_between}
use Rattle.book_model.specs.declared.act.Act.TheVariants.{Make}
use Rattle.book_model.specs.Restoring.{raised}
use Rattle.book_core.proofs.tables.Tables.read_make.Goals as goal

pub returns-in-Some : goal.returns-in-Some
returns-in-Some c b s other =
    let between = sym c.is_between.ensures ∙ c.if-not-is_between.false in
    let raised_shows = raise_terminus c.args.self.now b c.args.next.0 c.args.terminus.now.number.0 s between in
    make_between c.args.self.now b c.args.next.0 c.args.terminus.now (Some c.in-Some.fault) s between
    (c.in-Some.ensures (raised b (Make c.args.terminus.now)) raised_shows)

pub returns-in-Ok : goal.returns-in-Ok
returns-in-Ok c b s =
    let between = sym c.is_between.ensures ∙ c.if-not-is_between.false in
    let raised_shows = raise_terminus c.args.self.now b c.args.next.0 c.args.terminus.now.number.0 s between in
    let free = c.in-None.ensures (raised b (Make c.args.terminus.now)) raised_shows in (
      make_between c.args.self.now b c.args.next.0 c.args.terminus.now None s between free,
      c.in-Ok.ensures.shows (raised b (Make c.args.terminus.now)) raised_shows (sym free),
    )
