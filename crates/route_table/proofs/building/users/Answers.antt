use Rattle.std.proofs.Common.{sym, ◌∙◌}
use Rattle.route_table.specs.Said.{user_of}
use Rattle.route_table.specs.declared.attributes.SectionKind.TheVariants as kinds
use Rattle.route_table.proofs.Meanings.{one_section, other_section}
use Rattle.route_table.proofs.building.users.Goals as goal
use Rattle.route_table.proofs.building.users.Goals.{then-is+in_ok-user+in_ok-push, else-is}

pub loop-section-preserved : goal.loop-section-preserved
loop-section-preserved c = elim c.if-is.branch [
  | then-is+in_ok-user+in_ok-push w ↦ rw w.found-is
      (one_section kinds.User user_of c.args.sections.now c.loop-section.section-index c.section-item.result c.loop-section-test.true c.section-item.is c.loop-section.found.items _
      (sym c.is.ensures ∙ w.if-is.true) c.loop-section.invariant (rw w.in_ok-user.ensures at w.in_ok-push.ensures.items))
  | else-is w ↦ rw w.found-is
      (other_section kinds.User user_of c.args.sections.now c.loop-section.section-index c.section-item.result c.loop-section-test.true c.section-item.is c.loop-section.found.items
      (sym c.is.ensures ∙ w.if-is.false) c.loop-section.invariant)
]
