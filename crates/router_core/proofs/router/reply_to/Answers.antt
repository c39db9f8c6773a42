use Rattle.std.proofs.Common.{◌∙◌, ap, List}
use Rattle.std.proofs.lemmas.Result.{on_ok_weaker}
use Rattle.router_trace.specs.Trace.{Entry, step_of}
use Rattle.router_reply.specs.Holding.{with_held}
use Rattle.router_reply.specs.Replies.{replied}
use Rattle.reply_rows.specs.Resuming.{key_held, key_resumed, rows_resumed}
use Rattle.router_reply.specs.Resuming.{resumed, with_rows}
use Rattle.router_core.proofs.Resuming.{resumes_told}
use Rattle.router_core.proofs.router.reply_to.Goals as goal

pub returns : goal.returns
returns c = on_ok_weaker c.after.result
    (λ is t ready book row acts.
    let e = c.args.event in
    let p = c.args.plan.now in
    let u : List Entry = replied c.args.id.now t (step_of e) in
    let z = c.take.result in
    let told = c.reply.ensures.plan in
    let fits = c.in_ok-reply.ensures.fits t ready.tables ready.ends ready.phase ready.answer book row ready.resumed.map ready.heard ready.chosen in
    let attached : List Entry = with_held c.args.book.now (key_held z) (with_rows (key_resumed z) (rows_resumed z) u) in
    is (resumed t e u)
    (resumes_told c.free_rows.new.state t e p.answer p.resumption z c.args.book.now c.args.acts.now u ready.answer book acts ready.resumed
    (ap key_resumed c.take.ensures.value ∙ told.key) (ap key_held c.take.ensures.value ∙ told.held) (ap rows_resumed c.take.ensures.value ∙ told.rows)
    (c.in_ok-free_rows.ensures attached (c.in_ok-take_up.ensures u fits))))
    c.after.ensures
