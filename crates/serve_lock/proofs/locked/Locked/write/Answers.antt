use Rattle.std.proofs.Common.{◌∙◌}
use Rattle.std.proofs.Math.Logic.{∥∥₁_map}
use Rattle.core_machine.proofs.Histories.{all_kept, written}
use Rattle.core_machine.specs.History.{HasKept}
use Rattle.serve_lock.proofs.Queues.{on_answer}
use Rattle.serve_lock.proofs.locked.Locked.write.Goals as goal

pub invariant_of-self : goal.invariant_of-self
invariant_of-self g c = let h = c.write_held.ensures in
    let on = written g.M.Machine.meaning g.G.Ledgers.opening c.args.self.now.router c.write_held.new.self c.write_held.result in record {
      bounded = c.args.self.now.bounded;
      counted = h.counts ∙ c.args.self.now.counted;
      history = ∥∥₁_map c.args.self.now.history (λ lived. on lived h.fits h.works h.keeps h.leaves h.counts h.named h.taken h.failed h.unchanged h.memory h.disk);
      first = c.args.self.now.first;
    }

pub returns-clause-kept : goal.returns-clause-kept
returns-clause-kept g c = let h = c.write_held.ensures in
    let all = all_kept g.M.Machine.meaning g.G.Ledgers.opening c.args.self.now.router c.write_held.new.self c.write_held.result in
    on_answer c.write_held.result (HasKept g.M.Machine.meaning g.G.Ledgers.opening c.write_held.new.self)
    (∥∥₁_map c.args.self.now.history (λ lived. all lived h.fits h.works h.keeps h.counts h.named h.failed))
