use Rattle.std.proofs.Common.{rules, refl, ◌∷◌}
use Rattle.router_trace.specs.Trace.{Out}
use Rattle.state_messages.specs.Messages.{last_chosen}
use Rattle.state_messages.proofs.Known.{moved, put_counts}
use Rattle.state_messages.proofs.messages.Messages.put.Goals as goal

pub returns : goal.returns
returns c = λ t key old.
    moved c.args.self.now _ t (Out c.args.conn c.args.item.now ∷ t) (last_chosen t) (last_chosen (Out c.args.conn c.args.item.now ∷ t)) refl (search rules) (search rules) (c.in_ok-put.ensures t old.incoming) (search rules) (search rules)
    (put_counts c.args.conn c.args.item.now t) (λ a. refl) (λ a. refl) old
