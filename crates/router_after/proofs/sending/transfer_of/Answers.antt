use Rattle.std.proofs.Common.{◌∙◌, refl, sym, ap}
use Rattle.router_trace.specs.DeliveryFrames.{first_transfer}
use Rattle.router_trace.specs.Following.{transfer_of}
use Rattle.reply_frames.specs.Resumption.{resuming_as}
use Rattle.state_deliveries.specs.contracts.delivery.Delivery.{the_view}
use Rattle.router_after.proofs.Dues.{begun, not_begun}
use Rattle.router_after.proofs.sending.transfer_of.Goals as goal

pub returns-then-is_some : goal.returns-then-is_some
returns-then-is_some c = λ t f.
    let d = the_view c.delivery.inside in
    begun t d c.later_transfer.result (sym (c.if-is_some.ensures)) (c.later_transfer.ensures d refl)
    ∙ ap (transfer_of t) c.delivery.view_is

pub returns : goal.returns
returns c = λ t f.
    let d = the_view c.delivery.inside in
    not_begun t d c.first_transfer.result (sym (c.if-is_some.ensures))
    (c.first_transfer.ensures d refl refl refl (sym (c.in_ok-resuming.ensures.made ∙ ap (resuming_as d.resumed) c.as_ref.ensures.value)) ∙ ap (λ id. first_transfer d.link.handle id d) (c.next_id-id.ensures t f))
    ∙ ap (transfer_of t) c.delivery.view_is
