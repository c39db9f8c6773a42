use Rattle.std.proofs.Common.{subst, List}
use Rattle.std.proofs.lemmas.Result.{on_ok_weaker}
use Rattle.std.specs.Prelude.{filter}
use Rattle.book_model.specs.Book.{is_from}
use Rattle.book_model.specs.declared.row.Row.{Row}
use Rattle.router_state.specs.Tables.{TablesFit}
use Rattle.router_reply.specs.Holding.{held_to}
use Rattle.router_reply.proofs.holding.hold_terminus.Goals as goal

pub returns-in-Some : goal.returns-in-Some
returns-in-Some c = rw c.in-Some.is (on_ok_weaker c.hold_all.result
    (λ is t fit. subst (λ (rs : List Row). TablesFit c.hold_all.new.state (held_to c.args.at (filter (is_from c.in-Some.terminus.now.number.0) rs) t)) c.rows_of.ensures (is t fit))
    c.hold_all.ensures)
