use Rattle.theorems.specs.Always.{OnSound}
use Rattle.theorems.specs.Kept.{EachRowIsDecidedOnce}
use Rattle.theorems.proofs.Always.{holds_from}
use Rattle.theorems.proofs.KeptFirst.{outcomes_kept, rows_once, run_outcomes}
use Rattle.theorems.proofs.Lives.{lives_outcomes, lives_once, lives_tell_own}
use Rattle.theorems.proofs.theorems.durable_outcomes_are_kept_first.Goals as goal

pub returns : goal.returns
returns c = ((outcomes_kept, run_outcomes), holds_from (OnSound EachRowIsDecidedOnce) rows_once, lives_outcomes, lives_once, lives_tell_own)
