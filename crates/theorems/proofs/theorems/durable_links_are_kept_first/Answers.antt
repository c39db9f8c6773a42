use Rattle.theorems.specs.Each.{EachOut}
use Rattle.theorems.specs.Keeping.{IsKeptFirst}
use Rattle.theorems.proofs.Always.{holds_always}
use Rattle.theorems.proofs.Keeping.{trace_kept}
use Rattle.theorems.proofs.Lives.{lives_keep_links_first}
use Rattle.theorems.proofs.theorems.durable_links_are_kept_first.Goals as goal

pub returns : goal.returns
returns c = holds_always (EachOut IsKeptFirst) trace_kept lives_keep_links_first
