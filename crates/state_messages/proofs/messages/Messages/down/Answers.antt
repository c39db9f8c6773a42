use Rattle.std.proofs.Common.{rules, refl, ◌∷◌}
use Rattle.router_trace.specs.Trace.{did}
use Rattle.router_trace.specs.declared.event.Event.TheVariants as event
use Rattle.state_messages.specs.Messages.{last_chosen}
use Rattle.state_messages.proofs.Known.{did_counts, moved}
use Rattle.state_messages.proofs.messages.Messages.down.Goals as goal

pub returns : goal.returns
returns c = λ t old.
    moved c.args.self.now _ t (did (event.Down c.args.conn) ∷ t) (last_chosen t) (last_chosen (did (event.Down c.args.conn) ∷ t)) refl (search rules) (search rules) (c.down-3.ensures t old.incoming) (search rules) (search rules)
    (did_counts (event.Down c.args.conn) t) (λ a. refl) (λ a. refl) old
