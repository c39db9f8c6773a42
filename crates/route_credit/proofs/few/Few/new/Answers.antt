use Rattle.std.proofs.Common.{refl}
use Rattle.route_credit.specs.Few.{count}
use Rattle.route_credit.proofs.few.Few.new.Goals as goal

pub returns : goal.returns
unfolding count
returns c = λ place. refl
