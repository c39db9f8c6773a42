use Rattle.serve_lock.proofs.Ringings.{all_ring}
use Rattle.serve_lock.proofs.bells.Bells.all.Goals as goal

pub returns : goal.returns
returns c = all_ring
