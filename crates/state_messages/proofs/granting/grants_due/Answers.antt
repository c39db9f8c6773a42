use Rattle.std.proofs.Common.{◌∙◌, ◌<◌, sym, ap, subst, length}
use Rattle.std.proofs.lemmas.Result.{IfOk-weaker}
use Rattle.route_credit.specs.Pool.{by_id}
use Rattle.router_trace.specs.Configuration.{distribution}
use Rattle.router_trace.specs.Links.{attachments}
use Rattle.state_pools.specs.Fits.{AreFirst}
use Rattle.state_messages.specs.Figures.{figure}
use Rattle.state_messages.specs.Fits.{ShareAs}
use Rattle.state_messages.specs.Messages.{grants_on, last_chosen}
use Rattle.state_messages.specs.Turns.{in_turn, whose_turn}
use Rattle.state_messages.proofs.Granted.{at_none, at_some, grants_are, grants_none, length_by_id}
use Rattle.state_messages.proofs.Seen.{are_numbered}
use Rattle.state_messages.proofs.granting.grants_due.Goals as goal

pub returns-in-None-clause-due : goal.returns-in-None-clause-due
returns-in-None-clause-due c = IfOk-weaker c.first_grants.result _ _ (λ due made t fit none old.
    let share : ShareAs c.grants.new.self (distribution t) =
    record { known = figure t; actual = figure t; last = last_chosen t; fits = c.in_ok-grants.ensures.fits (distribution t) (figure t) (figure t) (last_chosen t) old } in
    made t fit share
    ∙ grants_none t (at_none c.in_ok-grants.field-0 c.in-None.is c.in_ok-grants.ensures.none (distribution t) (figure t) (figure t) (last_chosen t) (attachments t) old none (are_numbered t))) c.first_grants.ensures

pub returns-in_ok-due-in-Some-clause-due : goal.returns-in_ok-due-in-Some-clause-due
returns-in_ok-due-in-Some-clause-due c = λ t fit none old.
    let share : ShareAs c.grants.new.self (distribution t) =
    record { known = figure t; actual = figure t; last = last_chosen t; fits = c.in_ok-grants.ensures.fits (distribution t) (figure t) (figure t) (last_chosen t) old } in
    let first : AreFirst c.args.pools.now (by_id c.in-Some.sums.items) = at_some c.in_ok-grants.field-0 c.in-Some.sums c.in-Some.is (λ sums. AreFirst c.args.pools.now (by_id sums.items)) c.in_ok-grants.ensures.first in
    let some : 0 < length c.in-Some.sums.items = at_some c.in_ok-grants.field-0 c.in-Some.sums c.in-Some.is (λ sums. 0 < length sums.items) c.in_ok-grants.ensures.some in
    c.in_ok-due-in-Some.ensures t fit share
    ∙ ap (λ sums. grants_on t (in_turn (whose_turn t (attachments t) (by_id sums)) (attachments t) (by_id sums))) c.as_slice.ensures.value
    ∙ grants_are t first.address (by_id c.in-Some.sums.items)
    (first.granted (distribution t) (figure t) (figure t) (last_chosen t) (attachments t) old none (are_numbered t))
    (subst (λ n. 0 < n) (sym (length_by_id c.in-Some.sums.items)) some)
    (first.below (distribution t) (figure t) (figure t) (last_chosen t) (attachments t) old none (are_numbered t))
