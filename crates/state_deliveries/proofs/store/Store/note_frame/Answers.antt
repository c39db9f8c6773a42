use Rattle.std.proofs.Common.{refl}
use Rattle.state_collections.specs.NumberMap.{at_number}
use Rattle.router_trace.specs.Deliveries.{after_frame}
use Rattle.state_deliveries.proofs.Settled.{Stepped, one_stepped, steps_at}
use Rattle.state_deliveries.proofs.store.Store.note_frame.Goals as goal

stepped : (c : goal.After-settle) → Stepped c.args.self.now c.settle.new.self
stepped c = one_stepped (after_frame c.args.transfer.now c.args.count) c.args.number c.in_ok-left.left c.args.self.now c.settle.new.self
    (at_number c.note_in.new.deliveries) c.note_in.new.index c.note_in.new.touched (λ d. refl)
    c.in_ok-left.ensures.left c.in_ok-left.ensures.deliveries c.settle.ensures.deliveries c.settle.ensures.called c.settle.ensures.index c.settle.ensures.touched
    c.in_ok-left.ensures.indexed c.in_ok-left.ensures.touched

pub returns-clause-deliveries : goal.returns-clause-deliveries
returns-clause-deliveries c = steps_at (after_frame c.args.transfer.now c.args.count) c.args.number c.in_ok-left.left c.args.self.now c.settle.new.self
    (at_number c.note_in.new.deliveries) c.in_ok-left.ensures.left c.in_ok-left.ensures.deliveries c.settle.ensures.deliveries

pub returns-clause-indexed : goal.returns-clause-indexed
returns-clause-indexed c = (stepped c).indexed

pub returns-clause-touches : goal.returns-clause-touches
returns-clause-touches c = (stepped c).touches
