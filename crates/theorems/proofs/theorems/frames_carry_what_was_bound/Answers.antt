use Rattle.theorems.specs.Each.{EachOut}
use Rattle.theorems.specs.Carried.{CarriesWhatWasBound, FramesJoin}
use Rattle.theorems.proofs.Always.{holds_always}
use Rattle.theorems.proofs.AllSound.{trace_sound}
use Rattle.theorems.proofs.Carrying.{goes_in_order, all_complete}
use Rattle.theorems.proofs.Lives.{lives_sound}
use Rattle.theorems.proofs.theorems.frames_carry_what_was_bound.Goals as goal

pub returns : goal.returns
returns c = (
  holds_always (EachOut CarriesWhatWasBound) (λ id g u trace. (trace_sound id g u trace).carries) (λ id lives u all. (lives_sound id lives u all).carries),
  holds_always FramesJoin
      (λ id g u trace.
      let sound = trace_sound id g u trace
      in (goes_in_order u sound.carries, all_complete u sound.carries))
      (λ id lives u all.
      let sound = lives_sound id lives u all
      in (goes_in_order u sound.carries, all_complete u sound.carries)),
)
