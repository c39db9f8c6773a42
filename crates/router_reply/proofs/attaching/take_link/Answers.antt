use Rattle.std.proofs.Common.{◌≡◌, ◌∙◌, ap, sym, rules, Some}
use Rattle.router_reply.specs.Replies.{with_map}
use Rattle.router_reply.proofs.Answering.{taken_on}
use Rattle.router_reply.proofs.attaching.take_link.Goals as goal

pub returns-in_ok-put_answer-in-Ok-Some : goal.returns-in_ok-put_answer-in-Ok-Some
returns-in_ok-put_answer-in-Ok-Some c = λ t fit.
    let ours = c.args.ours.items in
    let first = c.in-Ok.ensures in
    let found : c.in-Ok-Some.field-0 ≡ Some c.in-Ok-Some.handle = search rules in
    taken_on _ t c.args.conn c.args.own _ c.in-Ok-Some.handle ours c.args.attach _ _
    first (c.with_map-answer.ensures.answer ∙ ap (with_map ours) (c.on_handle-answer.ensures.answer c.args.attach first))
    (c.with_map-answer.ensures.handle ∙ c.on_handle-answer.ensures.handle) (c.largest_frame-largest.ensures.now t fit)
    (sym found ∙ c.in-Ok-Some.ensures.handle t fit)
    (c.in_ok-put_answer-in-Ok-Some.ensures _ (c.in-Ok-Some.ensures.fits t fit))
