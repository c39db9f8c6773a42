use Rattle.std.proofs.Common.{◌∙◌, ◌++◌, ap, ℕ, List}
use Rattle.std.specs.Prelude.{Option, map}
use Rattle.book_model.specs.declared.act.Decision.{Decision}
use Rattle.book_model.specs.declared.row.RowNumber.{RowNumber}
use Rattle.router_state.specs.Tables.{at_finds}
use Rattle.router_trace.specs.Deliveries.{none_if_ended}
use Rattle.router_trace.specs.declared.event.Event.TheVariants as event
use Rattle.state_deliveries.specs.Deciding.{decided_rows}
use Rattle.state_deliveries.specs.Hearing.{heard_change}
use Rattle.state_deliveries.specs.declared.change.Change.{Change}
use Rattle.reply_rows.specs.Deciding.{as_kept, event_changes, forgotten_in, session_found}
use Rattle.reply_rows.proofs.Planned.{found_as, changed_as}
use Rattle.reply_rows.proofs.deciding.done_at.Goals as goal

pub returns-clause-decided : goal.returns-clause-decided
returns-clause-decided c = λ t at finds.
    let conn = c.args.conn in
    let item = c.args.item.now in
    let own = c.none_if_ended-here.result in
    let found = found_as t conn item own c.args.ends.now
    (c.none_if_ended-here.ensures ∙ ap (λ (o : Option ℕ). none_if_ended c.args.ends.now conn.0 o) finds) at.are_due in
    c.in_ok-decided.ensures.rows t (at_finds at)
    ∙ ap (λ (cs : List Change). map as_kept (decided_rows t cs) ++ c.in_ok-does.does.decided.items)
    (changed_as t conn item c.args.answer.now own c.args.ends.now c.in_ok-change.change
    c.ended_by-ended.result found at.are_due c.in_ok-change.ensures
    (c.ended_by-ended.ensures t item (λ on is. c.in_ok-does.ensures.stolen t on (at_finds at) is)))
    ∙ ap (λ (ds : List Decision). map as_kept (decided_rows t (event_changes t (event.Item conn item) c.args.answer.now))
    ++ ds)
    (c.in_ok-does.ensures.resumed t (at_finds at)).decided

pub returns-clause-forgotten : goal.returns-clause-forgotten
returns-clause-forgotten c = λ t at finds takes.
    let conn = c.args.conn in
    let item = c.args.item.now in
    let own = c.none_if_ended-here.result in
    let found = found_as t conn item own c.args.ends.now
    (c.none_if_ended-here.ensures ∙ ap (λ (o : Option ℕ). none_if_ended c.args.ends.now conn.0 o) finds) at.are_due in
    c.in_ok-forgotten.ensures
    ∙ ap (λ (ns : List RowNumber). ns ++ c.in_ok-does.does.lacking.items)
    (c.in_ok-does.ensures.forgotten t (at_finds at) takes
    ∙ ap (λ (o : Option ℕ). forgotten_in c.args.book.now t conn.0 o item c.args.answer.now) found)
    ∙ ap (λ (ns : List RowNumber). forgotten_in c.args.book.now t conn.0 (session_found t conn item) item c.args.answer.now
    ++ ns)
    (c.in_ok-does.ensures.resumed t (at_finds at)).lacking

pub returns-clause-resumed : goal.returns-clause-resumed
returns-clause-resumed c = λ t at.
    let taken = c.in_ok-does.ensures.resumed t (at_finds at) in
    record { key = taken.key; held = taken.held; map = taken.map; rows = taken.rows }

pub returns-clause-change : goal.returns-clause-change
returns-clause-change c = c.in_ok-decided.ensures.change ∙ c.in_ok-change.ensures
    ∙ ap (λ (o : Option ℕ). heard_change c.args.conn.0 o c.args.item.now) c.none_if_ended-here.ensures
