use Rattle.std.proofs.Common.{rules, ◌∙◌, sym}
use Rattle.state_collections.specs.NumberMap.{at_number}
use Rattle.state_sessions.proofs.Heard.{on_ok, rows_fit, heard_row}
use Rattle.state_sessions.proofs.rows.hear.Goals as goal

pub returns-in-Some-clause-fits : goal.returns-in-Some-clause-fits
returns-in-Some-clause-fits c =
    let row = c.in-Some.row in
    on_ok c.hear.result
    (λ heard t payload known fit. rows_fit (at_number c.args.rows.now) (at_number (c.get_mut.follows.lender c.hear.new.self)) c.args.conn c.args.channel c.args.perf.now row.now c.hear.new.self
    (sym c.get_mut.ensures.value ∙ search rules) (c.get_mut.follows.holds c.hear.new.self) heard t payload fit)
    (heard_row c.hear.result c.args.perf.now c.args.channel row.now c.hear.new.self c.hear.ensures.offered c.hear.ensures.awaited c.hear.ensures.answered c.hear.ensures.theirs c.hear.ensures.windows)
