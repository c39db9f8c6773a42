use Rattle.std.proofs.Common.{◌∙◌, sym, ap, ◌++◌, map, drop, ◌+◌}
use Rattle.book_model.specs.declared.act.Act.TheVariants.{Make}
use Rattle.book_core.specs.Slots.{termini_in}
use Rattle.book_core.proofs.Reading.{termini_from, makes_on, makes_done}
use Rattle.book_core.proofs.acts.push_termini.Goals as goal

pub loop-slot-preserved : goal.loop-slot-preserved
loop-slot-preserved c =
    let rest = termini_in (drop (c.loop-slot.slot-index + 1) c.args.slots.now) in
    ap (λ v. v ++ map Make rest) c.in_ok-push_terminus.ensures
    ∙ makes_on c.loop-slot.acts.items c.slot-item.result.terminus rest
    ∙ ap (λ ts. c.loop-slot.acts.items ++ map Make ts)
    (sym (termini_from c.args.slots.now c.loop-slot.slot-index c.slot-item.result c.loop-slot-test.true c.slot-item.is))
    ∙ c.loop-slot.invariant

pub returns : goal.returns
returns c = sym (makes_done c.loop-slot.acts.items c.args.slots.now _ c.loop-slot-test.false) ∙ c.loop-slot.invariant
