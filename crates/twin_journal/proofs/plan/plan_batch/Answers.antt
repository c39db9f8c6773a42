use Rattle.std.proofs.Common.{◌∙◌, ap, ℕ}
use Rattle.twin_journal.specs.Room.{is_due}
use Rattle.twin_journal.proofs.plan.plan_batch.Goals as goal

pub returns-clause-suits : goal.returns-clause-suits
returns-clause-suits c applies suits = c.in_ok-after.ensures.suits c.args.acts.now c.in_ok-batch.ensures.spells.costs applies suits

pub returns-clause-due : goal.returns-clause-due
returns-clause-due c applies suits =
    let after = c.in_ok-after.ensures.suits c.args.acts.now c.in_ok-batch.ensures.spells.costs applies suits in
    c.in-Some.ensures c.args.acts.now c.in_ok-batch.ensures.spells.costs.bytes_are ∙ ap (λ (n : ℕ). is_due c.args.figures c.args.acts.now n) after.reserve_is
