use Rattle.std.proofs.Common.{[], ◌∷◌, ◌++◌, ap, ◌∙◌}
use Rattle.std.specs.Prelude.{filter}
use Rattle.std.specs.Option.{option_copied}
use Rattle.book_core.specs.Rows.{rows_left}
use Rattle.book_model.specs.Book.{is_from}
use Rattle.resume_core.specs.Resuming.{entries_of, forgotten_rows, producer_map, due_tags, is_forgotten_by, is_unsettled_after, is_due, producer_entry}
use Rattle.resume_core.proofs.Rowwise.{one_kept_of, one_more}
use Rattle.resume_core.proofs.producer.producer_plan.Goals as goal

pub loop-row-preserved : goal.loop-row-preserved
loop-row-preserved c =
    let theirs = entries_of (option_copied c.args.unsettled) in
    let plan = c.loop-row.plan in
    let row = c.in-Some.row.now in
    let wanted = is_from c.args.terminus.0 in (
      one_more (λ rs. forgotten_rows c.args.complete theirs (filter wanted rs)) (one_kept_of (λ r. r.number) (is_forgotten_by c.args.complete theirs) wanted)
          plan.forgotten.items c.add.new.self.forgotten.items row (rows_left c.next.new.self) (rows_left c.loop-row.row-iterator) (rows_left c.args.rows)
          (c.in_ok-add.ensures.forgotten ∙ ap (λ entries. plan.forgotten.items ++ forgotten_rows c.args.complete entries (filter wanted (row ∷ []))) c.in_ok-peer.ensures)
          c.in-Some.ensures.steps c.loop-row.invariant.0,
      one_more (λ rs. producer_map c.args.complete theirs (filter wanted rs)) (one_kept_of producer_entry (is_unsettled_after c.args.complete theirs) wanted)
          plan.map.items c.add.new.self.map.items row (rows_left c.next.new.self) (rows_left c.loop-row.row-iterator) (rows_left c.args.rows)
          (c.in_ok-add.ensures.mapped ∙ ap (λ entries. plan.map.items ++ producer_map c.args.complete entries (filter wanted (row ∷ []))) c.in_ok-peer.ensures)
          c.in-Some.ensures.steps c.loop-row.invariant.1,
      one_more (λ rs. due_tags c.args.complete theirs (filter wanted rs)) (one_kept_of (λ r. r.tag) (is_due c.args.complete theirs) wanted)
          plan.due.items c.add.new.self.due.items row (rows_left c.next.new.self) (rows_left c.loop-row.row-iterator) (rows_left c.args.rows)
          (c.in_ok-add.ensures.due ∙ ap (λ entries. plan.due.items ++ due_tags c.args.complete entries (filter wanted (row ∷ []))) c.in_ok-peer.ensures)
          c.in-Some.ensures.steps c.loop-row.invariant.2,
    )
