use Rattle.std.proofs.Common.{◌≡◌, refl, sym, subst}
use Rattle.std.specs.Prelude.{Some}
use Rattle.router_trace.specs.Sessions.{Place as At}
use Rattle.router_trace.specs.Links.{link_place}
use Rattle.router_trace.specs.Settling.{is_claimed}
use Rattle.reply_rows.specs.Booking.{booked_transfer}
use Rattle.reply_rows.specs.Rows.{transfer_reply}
use Rattle.reply_rows.proofs.Placed.{IsOn, is_on, linked}
use Rattle.reply_rows.proofs.transfer.transfer_answer.Goals as goal

pub returns-in-On : goal.returns-in-On
returns-in-On c = λ t channel fit found.
    let x = c.args.transfer.now in
    let here : IsOn t c.args.conn channel c.in-On.own c.in-On.window c.args.found.now
    = is_on t c.args.conn channel (Some x.handle) c.in-On.own c.in-On.window c.args.found.now c.in-On.is found in
    subst (λ (p : At). c.transfer_on.result ≡ booked_transfer c.args.book.now t c.args.conn x (transfer_reply p (link_place t c.args.conn) (is_claimed t c.args.conn) x)) (sym here.there)
    (c.transfer_on.ensures t here.session fit here.window (linked t c.args.conn channel (Some x.handle) c.args.found.now found c.in-On.own x.handle here.found_own refl))
