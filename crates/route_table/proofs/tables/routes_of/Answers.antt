use Rattle.std.proofs.Common.{sym, ◌∙◌}
use Rattle.route_table.specs.Sections.{is_direction}
use Rattle.route_table.proofs.Entries.{one_more_kept, one_more_left}
use Rattle.route_table.proofs.tables.routes_of.Goals as goal
use Rattle.route_table.proofs.tables.routes_of.Goals.{then-is+in_ok-container+in_ok-add, else-is}

pub loop-section-preserved : goal.loop-section-preserved
loop-section-preserved c = elim c.if-is.branch [
  | then-is+in_ok-container+in_ok-add w ↦ rw w.prefixes-is
      (one_more_kept (λ s. (s.prefix, s.container_id)) c.args.sections.now c.loop-section.section-index c.section-item.result c.loop-section-test.true c.section-item.is c.loop-section.prefixes w.add.new.self (λ s. is_direction s.direction c.args.direction) (sym c.is.ensures ∙ w.if-is.true) c.loop-section.invariant
      (rw (w.as_str-then-is.ensures, w.in_ok-container.ensures, w.as_str.ensures) at w.in_ok-add.ensures))
  | else-is w ↦ rw w.prefixes-is
      (one_more_left (λ s. (s.prefix, s.container_id)) c.args.sections.now c.loop-section.section-index c.section-item.result c.loop-section-test.true c.section-item.is c.loop-section.prefixes c.loop-section.prefixes (λ s. is_direction s.direction c.args.direction) (sym c.is.ensures ∙ w.if-is.false) c.loop-section.invariant)
]
