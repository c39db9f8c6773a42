use Rattle.std.proofs.Common.{◌∙◌, sym, ap, Bool, false}
use Rattle.std.specs.Prelude.{if◌then◌else◌, Some}
use Rattle.router_trace.specs.declared.condition.Condition.TheVariants.{NotAllowed}
use Rattle.reply_rows.specs.declared.answer.Answer.TheVariants.{Detach, Taken}
use Rattle.reply_rows.proofs.Taken.{booked_as}
use Rattle.reply_rows.proofs.transfer.repeated.booked_transfer.Goals as goal

pub returns-then-starts_again : goal.returns-then-starts_again
returns-then-starts_again c = λ t on fit takes middle key.
    let it = c.in-Taken in
    ap (λ (u : Bool). if u then Detach it.own it.handle false (Some NotAllowed) else Taken it.own it.handle) (sym c.if-starts_again.true)
    ∙ booked_as c.args.book.now t c.args.conn on it.own it.handle c.args.transfer.now _ _ c.starts_again.result c.args.answer it.is takes middle key (c.starts_again.ensures t fit)

pub returns : goal.returns
returns c = λ t on fit takes middle key.
    let it = c.in-Taken in
    ap (λ (u : Bool). if u then Detach it.own it.handle false (Some NotAllowed) else Taken it.own it.handle) (sym c.if-starts_again.false)
    ∙ booked_as c.args.book.now t c.args.conn on it.own it.handle c.args.transfer.now _ _ c.starts_again.result c.args.answer it.is takes middle key (c.starts_again.ensures t fit)
