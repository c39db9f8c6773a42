use Rattle.std.proofs.Common.{[], ◌∷◌}
use Rattle.state_collections.proofs.Among.{none_so_far}
use Rattle.state_collections.proofs.few.Few.new.Goals as goal

pub returns : goal.returns
returns c = λ n. none_so_far (0 ∷ 0 ∷ 0 ∷ 0 ∷ []) n
