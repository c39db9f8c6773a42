use Rattle.theorems.specs.Credit.{WithinCredit}
use Rattle.theorems.proofs.Always.{holds_always}
use Rattle.theorems.proofs.CreditKept.{trace_starts_within}
use Rattle.theorems.proofs.Lives.{lives_within}
use Rattle.theorems.proofs.theorems.no_delivery_starts_beyond_credit.Goals as goal

pub returns : goal.returns
returns c = holds_always WithinCredit trace_starts_within lives_within
