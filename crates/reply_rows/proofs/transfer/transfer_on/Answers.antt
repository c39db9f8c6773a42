use Rattle.std.proofs.Common.{◌≡◌, ◌∙◌, sym, ap, subst}
use Rattle.router_trace.specs.Links.{link_place}
use Rattle.router_trace.specs.Settling.{is_claimed}
use Rattle.reply_rows.specs.declared.answer.Answer.{Answer}
use Rattle.reply_rows.specs.Booking.{TakesOn, booked_transfer}
use Rattle.reply_rows.specs.LinkRows.{session_transfer_reply}
use Rattle.reply_rows.proofs.Taken.{takes_on}
use Rattle.reply_rows.proofs.transfer.transfer_on.Goals as goal

pub returns : goal.returns
returns c = λ t h fit is found.
    let place = link_place t c.args.conn c.args.own c.args.transfer.now.handle in
    let ids = is_claimed t c.args.conn c.args.own in
    let reply : c.session_transfer_reply-answer.result ≡ session_transfer_reply c.args.own h ids place c.args.transfer.now =
    c.session_transfer_reply-answer.ensures h place ids is found.place (c.is_among-claimed.ensures t fit) found.middle in
    c.booked_transfer.ensures t c.args.own fit (subst (λ (a : Answer). TakesOn c.args.own place a) (sym reply) (takes_on c.args.own h ids place c.args.transfer.now))
    found.middle found.key
    ∙ ap (λ (a : Answer). booked_transfer c.args.book.now t c.args.conn c.args.transfer.now a) reply
