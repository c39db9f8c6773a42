use Rattle.std.proofs.Common.{◌≡◌, ◌∙◌, ◌+◌, ◌++◌, false, sym, ap}
use Rattle.router_trace.specs.Configuration.{distribution}
use Rattle.router_trace.specs.Following.{is_sending}
use Rattle.state_messages.specs.Figures.{owed_credit}
use Rattle.state_messages.proofs.Telling.{grant_is}
use Rattle.state_messages.proofs.granting.add_grant_on.Goals as goal

pub returns : goal.returns
returns c = λ t l share is.
    let none : is_sending l.happened ≡ false = sym (c.is_consumer.ensures l is) ∙ c.if-is_consumer.false in
    let owed : c.owed.result ≡ owed_credit t l = c.owed.ensures (distribution t) l share is in
    let all : c.in_ok-sum.field-0 ≡ owed_credit t l + c.args.amount = c.in_ok-sum.ensures ∙ ap (λ k. k + c.args.amount) owed in
    c.in_ok-push.ensures.items
    ∙ ap (λ gs. c.args.told.now.items ++ gs)
    (grant_is c.args.at _ c.unused.result (owed_credit t l + c.args.amount) _ l.happened none (c.count.ensures l is) (c.unused.ensures l is)
    (c.in_ok-sum-2.ensures ∙ ap (λ k. c.unused.result + k) all))
