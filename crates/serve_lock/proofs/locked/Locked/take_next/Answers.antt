use Rattle.std.proofs.Common.{◌∙◌, sym}
use Rattle.std.proofs.Math.Logic.{∥∥₁_map}
use Rattle.core_machine.proofs.Histories.{given, taken}
use Rattle.serve_lock.proofs.locked.Locked.take_next.Goals as goal

-- a fault is handed on
pub invariant_of-self : goal.invariant_of-self
invariant_of-self g c = let h = c.take.ensures in
    let more = taken g.M.Machine.meaning g.G.Ledgers.opening c.args.self.now.router c.take.new.machine c.args.conn c.take.result in record {
      bounded = c.args.self.now.bounded;
      counted = c.in_err-batch.ensures.uncounted ∙ c.args.self.now.counted;
      history = ∥∥₁_map c.requires.kept (λ kept. more kept h.fits h.batch h.works h.keeps h.still h.counted h.uncounted h.named h.failed h.refused h.unchanged h.memory h.no_disk);
      first = c.args.self.now.first;
    }

-- the batch was taken
pub invariant_of-self-2 : goal.invariant_of-self-2
invariant_of-self-2 g c = let h = c.take.ensures in
    let more = taken g.M.Machine.meaning g.G.Ledgers.opening c.args.self.now.router c.take.new.machine c.args.conn c.take.result in record {
      bounded = c.args.self.now.bounded;
      counted = sym c.counts.ensures ∙ sym c.add_batch.ensures.total;
      history = ∥∥₁_map c.requires.kept (λ kept. more kept h.fits h.batch h.works h.keeps h.still h.counted h.uncounted h.named h.failed h.refused h.unchanged h.memory h.no_disk);
      first = c.args.self.now.first;
    }

pub returns-clause-given : goal.returns-clause-given
returns-clause-given g c =
    ∥∥₁_map c.args.self.now.history (λ lived. given g.M.Machine.meaning g.G.Ledgers.opening c.args.self.now.router c.args.conn c.in_ok-batch.batch lived c.in_ok-batch.ensures.failed c.in_ok-batch.ensures.batch)
