use Rattle.state_collections.specs.NumberMap.{at_number}
use Rattle.state_deliveries.specs.Stepping.{changed}
use Rattle.state_deliveries.proofs.Called.{name_changed}
use Rattle.state_deliveries.proofs.Settled.{Stepped, one_stepped, steps_at}
use Rattle.state_deliveries.proofs.store.Store.change.Goals as goal

stepped : (c : goal.After-settle) → Stepped c.args.self.now c.settle.new.self
stepped c = one_stepped (changed c.args.change.now) c.args.number c.in_ok-left.left c.args.self.now c.settle.new.self
    (at_number c.change_in.new.deliveries) c.change_in.new.index c.change_in.new.touched (name_changed c.args.change.now)
    c.in_ok-left.ensures.left c.in_ok-left.ensures.deliveries c.settle.ensures.deliveries c.settle.ensures.called c.settle.ensures.index c.settle.ensures.touched
    c.in_ok-left.ensures.indexed c.in_ok-left.ensures.touched

pub returns-clause-deliveries : goal.returns-clause-deliveries
returns-clause-deliveries c = steps_at (changed c.args.change.now) c.args.number c.in_ok-left.left c.args.self.now c.settle.new.self
    (at_number c.change_in.new.deliveries) c.in_ok-left.ensures.left c.in_ok-left.ensures.deliveries c.settle.ensures.deliveries

pub returns-clause-indexed : goal.returns-clause-indexed
returns-clause-indexed c = (stepped c).indexed

pub returns-clause-touches : goal.returns-clause-touches
returns-clause-touches c = (stepped c).touches
