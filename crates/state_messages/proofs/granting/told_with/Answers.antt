use Rattle.std.proofs.Common.{◌∙◌, ◌++◌, sym, ap}
use Rattle.route_credit.specs.Pool.{by_id}
use Rattle.router_trace.specs.Links.{numbered}
use Rattle.state_messages.specs.Messages.{grant_at}
use Rattle.state_messages.proofs.Telling.{newest_among, newest_last}
use Rattle.state_messages.proofs.granting.told_with.Goals as goal

pub returns-then-is_among : goal.returns-then-is_among
returns-then-is_among c = λ t fit share.
    c.in_ok-told.ensures t fit share ∙ newest_among t c.args.newest (by_id c.args.sums.now) (sym c.is_among.ensures ∙ c.if-is_among.true)

pub returns : goal.returns
returns c = λ t fit share.
    c.in_ok-add_grant.ensures t fit share
    ∙ ap (λ gs. gs ++ grant_at t c.args.newest 0 (numbered t c.args.newest)) (c.in_ok-told.ensures t fit share)
    ∙ newest_last t c.args.newest (by_id c.args.sums.now) (sym c.is_among.ensures ∙ c.if-is_among.false)
