use Rattle.theorems.specs.Always.{OnSound}
use Rattle.theorems.specs.Each.{EachOut}
use Rattle.theorems.specs.Mapped.{MapIsOfBook}
use Rattle.theorems.proofs.AcceptedFirst.{lives_accepted, lives_tell_truly, lives_map_truly}
use Rattle.theorems.proofs.Always.{holds_from}
use Rattle.theorems.proofs.Lives.{lives_mapped}
use Rattle.theorems.proofs.Mapped.{trace_mapped}
use Rattle.theorems.proofs.theorems.accepted_is_told_truly.Goals as goal

pub returns : goal.returns
returns c = (lives_accepted, lives_tell_truly, (holds_from (OnSound (λ g u. EachOut MapIsOfBook u)) trace_mapped, lives_mapped), lives_map_truly)
