use Rattle.std.proofs.Common.{[], ◌∷◌, ◌++◌, ap, ◌∙◌}
use Rattle.std.specs.Prelude.{filter}
use Rattle.std.specs.Option.{option_copied}
use Rattle.book_core.specs.Rows.{rows_left}
use Rattle.book_model.specs.Book.{is_for}
use Rattle.resume_core.specs.Resuming.{entries_of, decisions, consumer_map, sendings, decision_of, consumer_entry, sending_of}
use Rattle.resume_core.proofs.Rowwise.{one_tested, one_more}
use Rattle.resume_core.proofs.consumer.consumer_plan.Goals as goal

pub loop-row-preserved : goal.loop-row-preserved
loop-row-preserved c =
    let theirs = entries_of (option_copied c.args.unsettled) in
    let plan = c.loop-row.plan in
    let row = c.in-Some.row.now in
    let test = is_for c.args.terminus.0 in (
      one_more (λ rs. decisions theirs (filter test rs)) (one_tested (decision_of theirs) test)
          plan.decisions.items c.add.new.self.decisions.items row (rows_left c.next.new.self) (rows_left c.loop-row.row-iterator) (rows_left c.args.rows)
          (c.in_ok-add.ensures.decided ∙ ap (λ entries. plan.decisions.items ++ decisions entries (filter test (row ∷ []))) c.in_ok-peer.ensures)
          c.in-Some.ensures.steps c.loop-row.invariant.0,
      one_more (λ rs. consumer_map theirs (filter test rs)) (one_tested (consumer_entry theirs) test)
          plan.map.items c.add.new.self.map.items row (rows_left c.next.new.self) (rows_left c.loop-row.row-iterator) (rows_left c.args.rows)
          (c.in_ok-add.ensures.mapped ∙ ap (λ entries. plan.map.items ++ consumer_map entries (filter test (row ∷ []))) c.in_ok-peer.ensures)
          c.in-Some.ensures.steps c.loop-row.invariant.1,
      one_more (λ rs. sendings c.args.complete theirs (filter test rs)) (one_tested (sending_of c.args.complete theirs) test)
          plan.sendings.items c.add.new.self.sendings.items row (rows_left c.next.new.self) (rows_left c.loop-row.row-iterator) (rows_left c.args.rows)
          (c.in_ok-add.ensures.sent ∙ ap (λ entries. plan.sendings.items ++ sendings c.args.complete entries (filter test (row ∷ []))) c.in_ok-peer.ensures)
          c.in-Some.ensures.steps c.loop-row.invariant.2,
    )
