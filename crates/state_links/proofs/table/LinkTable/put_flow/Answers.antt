use Rattle.std.proofs.Common.{refl}
use Rattle.amqp_model.specs.declared.perf.Perf.TheVariants as perf
use Rattle.state_links.specs.Ends.{after_our_flow}
use Rattle.state_links.proofs.Putting.{put_noted}
use Rattle.state_links.proofs.Touches.{changed_touches}
use Rattle.state_links.proofs.table.LinkTable.put_flow.Goals as goal

pub returns-clause-fits : goal.returns-clause-fits
returns-clause-fits c = λ t sasl payload fit.
    let f = c.args.flow.now in
    put_noted c.args.conn c.args.own f.handle sasl (perf.Flow f) payload c.args.self.now c.note_flow.new.links c.note_flow.new.touched t c.in_ok-note_flow.ensures.links refl fit

pub returns-clause-touches : goal.returns-clause-touches
returns-clause-touches c =
    let f = c.args.flow.now in
    changed_touches c.args.conn c.args.own f.handle (after_our_flow f) c.args.self.now _ (λ l. refl) c.in_ok-note_flow.ensures.touched c.in_ok-note_flow.ensures.links (λ k. refl)
