use Rattle.std.proofs.Common.{◌∙◌, sym}
use Rattle.std.proofs.Math.Logic.{∥∥₁_map}
use Rattle.core_machine.proofs.Histories.{held}
use Rattle.serve_lock.proofs.Queues.{full_fits}
use Rattle.serve_lock.proofs.locked.Locked.hold.Goals as goal

-- a fault is handed on
pub invariant_of-self : goal.invariant_of-self
invariant_of-self g c = let h = c.hold.ensures in
    let more = held g.M.Machine.meaning g.G.Ledgers.opening c.args.self.now.router c.hold.new.self c.args.event c.hold.result in record {
      bounded = c.args.self.now.bounded;
      counted = c.in_err-done.ensures.uncounted ∙ c.args.self.now.counted;
      history = ∥∥₁_map c.args.self.now.history (λ lived. more lived h.fits h.taken h.works h.holds h.leaves h.counted h.uncounted h.named h.failed h.refused h.unchanged h.memory h.disk);
      first = c.args.self.now.first;
    }

-- the event was handled, and its batch is held
pub invariant_of-self-2 : goal.invariant_of-self-2
invariant_of-self-2 g c = let h = c.hold.ensures in
    let more = held g.M.Machine.meaning g.G.Ledgers.opening c.args.self.now.router c.hold.new.self c.args.event c.hold.result in record {
      bounded = full_fits _ _ _ c.full_after-self.ensures;
      counted = sym c.counts.ensures ∙ sym c.add.ensures.total;
      history = ∥∥₁_map c.args.self.now.history (λ lived. more lived h.fits h.taken h.works h.holds h.leaves h.counted h.uncounted h.named h.failed h.refused h.unchanged h.memory h.disk);
      first = c.args.self.now.first;
    }
