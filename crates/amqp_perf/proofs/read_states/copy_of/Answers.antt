use Rattle.std.proofs.Common.{ℕ, List, ap}
use Rattle.std.specs.List.{each_same}
use Rattle.arrayvec.specs.ArrayVec.{ArrayVec}
use Rattle.amqp_perf.proofs.read_states.copy_of.Goals as goal

pub returns : goal.returns
returns c = let P : List ℕ → ArrayVec ℕ = λ xs. record { items = xs } in ap P (each_same _ _ (c.in_ok-copy.ensures.cases))
