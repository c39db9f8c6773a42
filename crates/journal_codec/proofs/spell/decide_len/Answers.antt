use Rattle.std.proofs.Common.{ℕ, List, length, ap, arith}
use Rattle.amqp_model.specs.PerfSpelling.{state_spelling}
use Rattle.journal_codec.proofs.Counted.{decide_counted}
use Rattle.journal_codec.proofs.spell.decide_len.Goals as goal

pub returns-in-Some : goal.returns-in-Some
returns-in-Some c =
    omega (
      arith,
      c.in-Some.ensures,
      c.len.ensures,
      c.in_ok-outcome.outcome.ok.0,
      ap (λ (t : List ℕ). length t) c.in_ok-outcome.ensures,
      decide_counted c.args.decision.now.row.0 (state_spelling c.args.decision.now.outcome),
    )
