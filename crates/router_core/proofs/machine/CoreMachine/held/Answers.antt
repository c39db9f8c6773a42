use Rattle.router_core.proofs.machine.CoreMachine.held.Goals as goal

pub returns : goal.returns
returns g c = λ t b none f holds. (c.held.ensures.none none b holds, f.journal.book)
