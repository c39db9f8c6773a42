use Rattle.route_table.proofs.Entries.{one_more}
use Rattle.route_table.proofs.tables.addresses_of.Goals as goal

pub loop-section-preserved : goal.loop-section-preserved
loop-section-preserved c =
    one_more (λ s. (s.prefix, s.distribution)) c.args.sections.now c.loop-section.section-index c.section-item.result c.loop-section-test.true c.section-item.is c.loop-section.prefixes c.add.new.self c.loop-section.invariant (rw c.as_str.ensures at c.in_ok-add.ensures)
