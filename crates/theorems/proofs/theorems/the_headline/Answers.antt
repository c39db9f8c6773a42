use Rattle.theorems.specs.Always.{OnSound}
use Rattle.theorems.specs.Each.{EachOut}
use Rattle.theorems.specs.Mapped.{MapIsOfBook}
use Rattle.theorems.proofs.AcceptedFirst.{lives_accepted, lives_tell_truly, lives_map_truly}
use Rattle.theorems.proofs.Always.{holds_from}
use Rattle.theorems.proofs.GivenOnce.{lives_give_once}
use Rattle.theorems.proofs.Lives.{lives_mapped, lives_once, lives_within}
use Rattle.theorems.proofs.Mapped.{trace_mapped}
use Rattle.theorems.proofs.OwnConsumer.{lives_go_to_own}
use Rattle.theorems.proofs.ToldRightly.{lives_told_rightly}
use Rattle.theorems.proofs.theorems.the_headline.Goals as goal

pub returns : goal.returns
returns g c = (
  c.a_stop_leaves_a_prefix.ensures,
  lives_once,
  (lives_go_to_own, lives_give_once),
  lives_told_rightly,
  (lives_accepted, lives_tell_truly, (holds_from (OnSound (λ g u. EachOut MapIsOfBook u)) trace_mapped, lives_mapped), lives_map_truly),
  lives_within,
)
