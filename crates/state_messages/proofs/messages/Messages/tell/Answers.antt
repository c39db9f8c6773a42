use Rattle.std.proofs.Common.{rules, refl}
use Rattle.state_messages.proofs.Known.{told_fits}
use Rattle.state_messages.proofs.messages.Messages.tell.Goals as goal

pub returns : goal.returns
returns c = λ t old.
    told_fits c.args.self.now _ t c.args.number (search rules) (search rules) refl (search rules) (search rules) (search rules) old
