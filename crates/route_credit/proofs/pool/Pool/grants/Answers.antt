use Rattle.std.proofs.Common.{inr, ◌∙◌, sym, None}
use Rattle.route_credit.specs.Tally.{tallied}
use Rattle.route_credit.proofs.Steps.{giving_more, giving_none, granted_more, less_room, within_more}
use Rattle.route_credit.proofs.Gains.{all_more, keys_more, on_ok}
use Rattle.route_credit.proofs.Grants.{none_granted}
use Rattle.route_credit.proofs.Leasts.{next_is}
use Rattle.route_credit.proofs.Tallies.{told_each, told_sums}
use Rattle.route_credit.proofs.pool.Pool.grants.Goals as goal

pub loop-id-init : goal.loop-id-init
loop-id-init c = giving_none c.args.self.now (tallied c.new-sums.result) c.new-sums.ensures

pub loop-id-smaller : goal.loop-id-smaller
loop-id-smaller c = less_room c.loop-id.self c.give.new.self c.in-Some.id c.in-Some.ensures.next c.in_ok-part.ensures.given c.in_ok-part.ensures.ordered

pub loop-id-preserved : goal.loop-id-preserved
loop-id-preserved c = giving_more c.args.self.now c.loop-id.self c.give.new.self c.in-Some.id c.in_ok-part.part (tallied c.loop-id.sums) (tallied c.add.new.self) c.loop-id.invariant c.in-Some.ensures.next c.in_ok-part.ensures.given c.in_ok-part.ensures.part c.in_ok-add.ensures c.in_ok-part.ensures.ordered
    (all_more c.args.self.now c.loop-id.self c.give.new.self c.in-Some.id c.loop-id.invariant.all c.in-Some.ensures.ordered c.in-Some.ensures.next c.in_ok-part.ensures.given)
    (keys_more c.args.self.now c.loop-id.self c.give.new.self c.in-Some.id c.loop-id.invariant.keys c.in-Some.ensures.ordered c.in-Some.ensures.next c.in_ok-part.ensures.given)

pub returns-in_err-add-clause-granted : goal.returns-in_err-add-clause-granted
returns-in_err-add-clause-granted c = granted_more c.args.self.now c.loop-id.self c.give.new.self c.in-Some.id c.loop-id.invariant.granted c.in-Some.ensures.next c.in_ok-part.ensures.given

pub returns-in_err-add-clause-within : goal.returns-in_err-add-clause-within
returns-in_err-add-clause-within c = inr (within_more c.loop-id.self c.give.new.self c.in-Some.id c.in-Some.ensures.next c.in_ok-part.ensures.given c.in_ok-part.ensures.ordered)

pub returns-clause-filled : goal.returns-clause-filled
returns-clause-filled c = on_ok c.told.result _ (sym (none_granted c.loop-id.self (sym (next_is c.loop-id.self None c.in_default.ensures.ordered c.in_default.ensures.next))) ∙ c.loop-id.invariant.all)

pub returns-clause-sums : goal.returns-clause-sums
returns-clause-sums c = told_sums (λ sums. sums.items) c.told.result c.args.self.now c.loop-id.self (tallied c.loop-id.sums) c.loop-id.invariant c.in_default.ensures.ordered c.in_default.ensures.next c.told.ensures.same c.told.ensures.ordered

pub returns-clause-told : goal.returns-clause-told
returns-clause-told c = told_each (λ sums. sums.items) c.told.result c.args.self.now c.loop-id.self (tallied c.loop-id.sums) c.loop-id.invariant c.told.ensures.same c.told.ensures.ordered
