use Rattle.std.proofs.Common.{◌∙◌, sym, arith}
use Rattle.core_machine.proofs.Histories.{none_yet}
use Rattle.serve_lock.proofs.locked.Locked.new.Goals as goal

pub invariant_of-result : goal.invariant_of-result
invariant_of-result g c = record {
  bounded = omega arith;
  counted = c.requires.opened.counts ∙ sym c.requires.totals;
  history = ∣ none_yet g.M.Machine.meaning g.G.Ledgers.opening c.args.router c.requires.opened ∣₁;
  first = ∣ record { router = c.args.router; was = c.requires.opened; batch = sym c.batch-opened.ensures } ∣₁;
}
