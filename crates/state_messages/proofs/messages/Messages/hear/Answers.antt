use Rattle.std.proofs.Common.{rules, ◌≡◌, ◌∙◌, ℕ, ap, refl, ◌∷◌}
use Rattle.router_trace.specs.Trace.{did}
use Rattle.router_trace.specs.Deliveries.{channels_found}
use Rattle.router_trace.specs.Sessions.{is_channel, maps, theirs}
use Rattle.router_trace.specs.declared.event.Event.TheVariants as event
use Rattle.router_trace.specs.Channels.{channel_of}
use Rattle.state_messages.specs.Messages.{last_chosen}
use Rattle.state_messages.proofs.Known.{channel_same, did_counts, moved}
use Rattle.state_messages.proofs.messages.Messages.hear.Goals as goal

pub returns-clause-fits : goal.returns-clause-fits
returns-clause-fits c = λ t own found answers made gives old.
    let its : (o : ℕ) → is_channel c.args.own o ≡ maps (theirs t c.args.conn.0 (channel_of c.args.item.now)) o =
    λ o. own o ∙ ap (λ channel. maps (theirs t c.args.conn.0 channel) o) (channel_same c.args.item.now) in
    let here : (o : ℕ) → is_channel c.args.found o ≡ maps (channels_found t c.args.conn.0 (channel_of c.args.item.now)) o =
    λ o. found o ∙ ap (λ channel. maps (channels_found t c.args.conn.0 channel) o) (channel_same c.args.item.now) in
    moved c.args.self.now _ t (did (event.Item c.args.conn c.args.item.now) ∷ t) (last_chosen t) (last_chosen (did (event.Item c.args.conn c.args.item.now) ∷ t)) refl
    (search rules) (c.in_ok-hear-2.ensures.fits t here made gives old.deliveries) (c.in_ok-hear.ensures t its (c.receiving-link.ensures t old.links) old.incoming) (search rules) (search rules)
    (did_counts (event.Item c.args.conn c.args.item.now) t) (λ a. refl) (λ a. refl) old
