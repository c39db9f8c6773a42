use Rattle.theorems.specs.Each.{EachOut}
use Rattle.theorems.specs.Told.{TellsAsGiven}
use Rattle.theorems.proofs.Always.{holds_always}
use Rattle.theorems.proofs.AllSound.{trace_sound}
use Rattle.theorems.proofs.Telling.{told_at_most_once, told_anew}
use Rattle.theorems.proofs.Lives.{lives_sound}
use Rattle.theorems.proofs.theorems.outcomes_are_told_once.Goals as goal

pub returns : goal.returns
returns c = (
  told_at_most_once,
  told_anew,
  holds_always (EachOut TellsAsGiven) (λ id g u trace. (trace_sound id g u trace).tells) (λ id lives u all. (lives_sound id lives u all).tells),
)
