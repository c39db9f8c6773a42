use Rattle.std.proofs.lemmas.Result.{IfOk-weaker}
use Rattle.journal_store.specs.Store.{book_of}
use Rattle.reply_rows.proofs.Planned.{lost_planned, other_planned, start_planned}
use Rattle.reply_rows.proofs.deciding.acts_without_item.Goals as goal

pub returns-in-Start-clause-acts : goal.returns-in-Start-clause-acts
returns-in-Start-clause-acts g c = IfOk-weaker c.start_acts.result _ _
    (λ acts is t full finds are none. start_planned full (book_of c.args.store.now) t c.args.event.now acts.items c.in-Start.is is) c.start_acts.ensures.acts

pub returns-in-Down-clause-acts : goal.returns-in-Down-clause-acts
returns-in-Down-clause-acts g c = IfOk-weaker c.lost_acts.result _ _
    (λ acts is t full finds are none. lost_planned full (book_of c.args.store.now) t c.in-Down.conn c.args.event.now c.args.ends.now acts.items c.in-Down.is are (is t finds)) c.lost_acts.ensures.acts

pub returns-in_default-clause-acts : goal.returns-in_default-clause-acts
returns-in_default-clause-acts g c = IfOk-weaker c.lost_acts-in_default.result _ _
    (λ acts is t full finds are none. other_planned full (book_of c.args.store.now) t c.args.event.now c.args.ends.now acts.items none c.in_default.not-Down c.in_default.not-Start are (is t finds))
    c.lost_acts-in_default.ensures.acts
