use Rattle.serve_lock.proofs.Ringings.{bit_tells}
use Rattle.serve_lock.proofs.bells.Bells.has.Goals as goal

pub returns : goal.returns
returns c = bit_tells c.args.self.now.words c.args.bell
