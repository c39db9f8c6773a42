use Rattle.std.proofs.Common.{◌∙◌, sym, ap, length, if◌then◌else◌}
use Rattle.std.specs.Prelude.{◌==◌}
use Rattle.std.specs.Option.{option_and_then}
use Rattle.state_collections.specs.NumberMap.{at_number}
use Rattle.state_collections.proofs.Results.{on_ok}
use Rattle.router_trace.specs.Deliveries.{unless_over, after_frame, is_number}
use Rattle.state_deliveries.proofs.store.Store.note_carried.Goals as goal

pub returns-in-Some-clause-deliveries : goal.returns-in-Some-clause-deliveries
returns-in-Some-clause-deliveries c =
    on_ok c.note_frame.result
    (λ noted n.
    noted n
    ∙ ap (λ k. if c.in-Some.number == n then option_and_then (λ d. unless_over (after_frame c.args.transfer.now k d)) (at_number c.args.self.now.deliveries n) else at_number c.args.self.now.deliveries n) c.len-count.ensures.value
    ∙ ap (λ m. if is_number m n then option_and_then (λ d. unless_over (after_frame c.args.transfer.now (length c.args.payload.now) d)) (at_number c.args.self.now.deliveries n) else at_number c.args.self.now.deliveries n) (sym c.in-Some.is))
    c.note_frame.ensures.deliveries
