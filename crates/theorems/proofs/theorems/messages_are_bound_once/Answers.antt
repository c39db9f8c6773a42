use Rattle.theorems.specs.Always.{OnSound}
use Rattle.theorems.specs.Each.{EachBound}
use Rattle.theorems.specs.Came.{BindsByKind, BringsItsOutcome, CopiesAreForAll, EachDeliveryCame}
use Rattle.theorems.proofs.Always.{holds_always, holds_from}
use Rattle.theorems.proofs.AllSound.{trace_sound, all_came}
use Rattle.theorems.proofs.Brings.{trace_brings}
use Rattle.theorems.proofs.CopiedAll.{trace_made}
use Rattle.theorems.proofs.Lives.{lives_sound, lives_brings, lives_copied}
use Rattle.theorems.proofs.theorems.messages_are_bound_once.Goals as goal

pub returns : goal.returns
returns c = (
  holds_always (EachBound BindsByKind) (λ id g u trace. (trace_sound id g u trace).binds) (λ id lives u all. (lives_sound id lives u all).binds),
  holds_always CopiesAreForAll trace_made lives_copied,
  holds_always EachDeliveryCame (λ id g u trace. all_came u (trace_sound id g u trace).binds) (λ id lives u all. all_came u (lives_sound id lives u all).binds),
  (
    holds_from (OnSound (λ g u. EachBound BringsItsOutcome u)) (λ id g u trace sound. (trace_brings id g u trace sound).brings),
    λ id lives u all. (lives_brings id lives u all).brings,
  ),
)
