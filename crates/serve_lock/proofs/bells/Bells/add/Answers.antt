use Rattle.serve_lock.proofs.Ringings.{one_more}
use Rattle.serve_lock.proofs.bells.Bells.add.Goals as goal

pub returns : goal.returns
returns c = one_more c.args.self.now.words c.args.bell c.args.self.now.four c.requires
