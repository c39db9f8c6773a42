use Rattle.std.proofs.Common.{◌≡◌, List, drop, true}
use Rattle.std.specs.Prelude.{map}
use Rattle.amqp_model.specs.declared.perf.Role.TheVariants.{Sender}
use Rattle.router_trace.specs.Trace.{Entry, puts}
use Rattle.router_trace.specs.DeliveryFrames.{outcome_item}
use Rattle.router_state.specs.Tables.{TablesFit}
use Rattle.reply_transfers.proofs.transfers.settle_each.Given as goal

-- once the rest is answered too, all are
abbrev pub invariant-loop-delivery : goal.invariant-loop-delivery
invariant-loop-delivery l = (t : List Entry) → TablesFit l.fn.state t → (u : List Entry) × TablesFit l.state u
    × (puts l.conn (map (λ n. outcome_item l.own Sender n true l.outcome) (drop l.delivery-index l.ids)) u ≡ puts l.conn (map (λ n. outcome_item l.own Sender n true l.outcome) l.ids) t)
