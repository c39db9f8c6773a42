use Rattle.serve_lock.proofs.Ringings.{one_less}
use Rattle.serve_lock.proofs.bells.Bells.remove.Goals as goal

pub returns : goal.returns
returns c = one_less c.args.self.now.words c.args.bell c.args.self.now.four c.requires
