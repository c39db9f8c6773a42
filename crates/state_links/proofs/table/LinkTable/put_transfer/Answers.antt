use Rattle.std.proofs.Common.{refl, Some}
use Rattle.amqp_model.specs.declared.perf.Perf.TheVariants as perf
use Rattle.state_links.specs.Ends.{after_our_transfer}
use Rattle.state_links.proofs.Putting.{put_noted}
use Rattle.state_links.proofs.Touches.{changed_touches}
use Rattle.state_links.proofs.table.LinkTable.put_transfer.Goals as goal

pub returns-clause-fits : goal.returns-clause-fits
returns-clause-fits c = λ t sasl payload fit.
    let x = c.args.transfer.now in
    put_noted c.args.conn c.args.own (Some x.handle) sasl (perf.Transfer x) payload c.args.self.now c.note_transfer.new.links c.note_transfer.new.touched t c.in_ok-note_transfer.ensures.links refl fit

pub returns-clause-touches : goal.returns-clause-touches
returns-clause-touches c =
    let x = c.args.transfer.now in
    changed_touches c.args.conn c.args.own (Some x.handle) (after_our_transfer x) c.args.self.now _ (λ l. refl) c.in_ok-note_transfer.ensures.touched c.in_ok-note_transfer.ensures.links (λ k. refl)
