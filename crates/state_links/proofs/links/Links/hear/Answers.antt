use Rattle.std.proofs.Common.{◌∙◌, ◌∷◌, Bool, subst, sym, ap}
use Rattle.amqp_model.specs.declared.item.Item.{Item}
use Rattle.amqp_model.specs.declared.item.Item.TheVariants as item
use Rattle.router_trace.specs.Trace.{did}
use Rattle.router_trace.specs.Sessions.{answers_item, awaited, maps, theirs}
use Rattle.state_links.specs.Fits.{LinksFit, channel_of}
use Rattle.router_trace.specs.declared.event.Event.TheVariants as event
use Rattle.state_links.proofs.links.Links.hear.Goals as goal

pub returns-in_ok-part-in-Frame-clause-fits : goal.returns-in_ok-part-in-Frame-clause-fits
returns-in_ok-part-in-Frame-clause-fits c = λ t here answers fit.
    let it = c.in-Frame in
    subst (λ (i : Item). LinksFit c.hear_perf.new.self (did (event.Item c.args.conn i) ∷ t)) (sym it.is)
    (subst (λ (b : Bool). LinksFit c.hear_perf.new.self (did (event.Item c.args.conn (item.Frame b it.channel it.perf it.payload)) ∷ t)) (sym c.if-sasl.false)
    (c.in_ok-part-in-Frame.ensures.fits t it.channel (λ o. here o ∙ ap (λ (i : Item). maps (theirs t c.args.conn.0 (channel_of i)) o) it.is)
    (λ o. answers o ∙ ap (λ (i : Item). answers_item i o (theirs t c.args.conn.0) (awaited t c.args.conn.0 o)) it.is
    ∙ ap (λ (b : Bool). answers_item (item.Frame b it.channel it.perf it.payload) o (theirs t c.args.conn.0) (awaited t c.args.conn.0 o)) c.if-sasl.false) fit))
