use Rattle.std.proofs.Common.{◌≡◌, sym, ◌∙◌, ap, arith, rules, Err}
use Rattle.amqp_model.specs.declared.frame_fault.FrameFault.TheVariants as fault
use Rattle.amqp_frames.specs.declared.extent.Extent.TheVariants.{Unknown, Whole, Wrong}
use Rattle.amqp_frames.specs.Extents.{extent}
use Rattle.amqp_frames.specs.Frames.{item_of}
use Rattle.amqp_frames.proofs.Steps.{cut_unknown, cut_short, wrong_stays, fault_front, ends_if}
use Rattle.amqp_frames.proofs.reader.take_in.Goals as goal

pub returns-in-Unknown-clause-cut : goal.returns-in-Unknown-clause-cut
returns-in-Unknown-clause-cut c =
    let is : extent c.gather_item.new.buffer.items ≡ Unknown = ap extent (sym c.as_slice.ensures.value) ∙ sym c.in-Unknown.ensures in
    cut_unknown _ _ _ _ c.in_ok-behind.ensures.joined is c.in_ok-behind.ensures.gathered c.new.ensures.items

pub returns-in-Wrong-clause-cut : goal.returns-in-Wrong-clause-cut
returns-in-Wrong-clause-cut c =
    let is : extent c.gather_item.new.buffer.items ≡ Wrong c.in-Wrong.fault = ap extent (sym c.as_slice.ensures.value) ∙ sym c.in-Wrong.ensures in
    ends_if c.take_fault.result (λ t. t.0.items) (λ t. t.1) _ _ _ c.in-Wrong.fault c.in_ok-behind.ensures.joined (wrong_stays _ _ _ is) c.take_fault.ensures.items c.take_fault.ensures.rest

pub returns-in-Whole-clause-cut : goal.returns-in-Whole-clause-cut
returns-in-Whole-clause-cut c =
    let is : extent c.gather_item.new.buffer.items ≡ Whole c.in-Whole.size = ap extent (sym c.as_slice.ensures.value) ∙ sym c.in-Whole.ensures in
    cut_short _ _ _ c.in-Whole.size _ c.in_ok-behind.ensures.joined is (omega arith) c.in_ok-behind.ensures.gathered c.new-in-Whole.ensures.items

pub returns-in-Err-clause-cut : goal.returns-in-Err-clause-cut
returns-in-Err-clause-cut c =
    let is : extent c.gather_item.new.buffer.items ≡ Whole c.in-Whole.size = ap extent (sym c.as_slice.ensures.value) ∙ sym c.in-Whole.ensures in
    let other : c.in-Err.fault ≡ fault.Memory → ⊥ = search rules in
    let read : item_of c.gather_item.new.buffer.items ≡ Err c.in-Err.fault = ap item_of (sym c.as_slice-in-Whole-2.ensures.value) ∙ c.in-Err.ensures.item other in
    ends_if c.take_fault-in-Err.result (λ t. t.0.items) (λ t. t.1) _ _ _ c.in-Err.fault c.in_ok-behind.ensures.joined
    (fault_front _ _ c.in-Whole.size c.in-Err.fault is (omega arith) c.in_ok-behind.ensures.gathered read) c.take_fault-in-Err.ensures.items c.take_fault-in-Err.ensures.rest
