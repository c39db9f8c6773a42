use Rattle.serve_lock.proofs.Ringings.{none_rings}
use Rattle.serve_lock.proofs.bells.Bells.none.Goals as goal

pub returns : goal.returns
returns c = none_rings
