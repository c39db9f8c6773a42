use Rattle.std.proofs.Common.{subst, inl, inr, List, arith}
use Rattle.router_trace.specs.declared.event.Event.{Event}
use Rattle.core_machine.specs.declared.fault.CoreFault.TheVariants.{Disk}
use Rattle.router_core.specs.declared.router.Core.{Core}
use Rattle.router_core.specs.Handling.{Fits}
use Rattle.router_core.proofs.Grouped.{IsFar, at_first, further, group_declines, group_ends, next_moment, no_items, ok_is_no_fault, still_far}
use Rattle.router_core.proofs.router.Core.hold_all.Goals as goal

pub loop-turn-init : goal.loop-turn-init
loop-turn-init g c =
    at_first g.T.Twin.seen g.T.Twin.may_leave g.T.Twin.moment g.T.Twin.left_since g.T.Twin.failures (λ twin. g.met.T.Twin.only_now twin) c.args.events.now.items c.args.self.now c.new-done.result.items
    c.requires.works c.new-done.ensures.items

pub loop-turn-preserved : goal.loop-turn-preserved
loop-turn-preserved g c =
    let h = c.in-Ok.ensures in
    let held = c.if-not-held.false in
    further g.T.Twin.seen g.T.Twin.may_leave g.T.Twin.moment g.T.Twin.left_since g.T.Twin.failures c.args.events.now.items c.args.self.now c.loop-turn.events.items c.loop-turn.self c.loop-turn.done.items c.loop-turn._turn
    c.in-Some.event c.pop_front.new.self.items c.hold_into.new.self c.hold_into.new.done.items c.loop-turn.invariant c.in-Some.ensures.items
    (h.fits held) (h.in_turn held) (h.told held) (h.counted held) h.works (h.behind held) h.named h.any_moment (h.no_other (ok_is_no_fault c.in-Ok.held Disk))

-- no event is left
pub returns-in_default-clause-fits : goal.returns-in_default-clause-fits
returns-in_default-clause-fits g c =
    let far : IsFar g.T.Twin.seen g.T.Twin.may_leave g.T.Twin.moment g.T.Twin.left_since g.T.Twin.failures c.args.events.now.items c.args.self.now c.pop_front.new.self.items c.loop-turn.self c.loop-turn.done.items c.loop-turn._turn =
    subst (λ (es : List Event). IsFar g.T.Twin.seen g.T.Twin.may_leave g.T.Twin.moment g.T.Twin.left_since g.T.Twin.failures c.args.events.now.items c.args.self.now es c.loop-turn.self c.loop-turn.done.items c.loop-turn._turn)
    c.in_default.ensures.items c.loop-turn.invariant in
    group_ends g.T.Twin.seen g.T.Twin.may_leave g.T.Twin.moment g.T.Twin.left_since g.T.Twin.failures c.args.events.now.items c.args.self.now c.pop_front.new.self.items c.loop-turn.self c.loop-turn.done.items c.loop-turn._turn
    c.args.most far (inr (no_items c.pop_front.new.self.items (omega (arith, c.pop_front.new.self.ok.0, c.in_default.ensures.cases.1))))

-- the next one is declined
pub returns-then-not-held-clause-fits : goal.returns-then-not-held-clause-fits
returns-then-not-held-clause-fits g c =
    let none = c.in-Ok.ensures.declined c.if-not-held.true in
    let far = still_far g.T.Twin.seen g.T.Twin.may_leave g.T.Twin.moment g.T.Twin.left_since g.T.Twin.failures c.args.events.now.items c.args.self.now c.loop-turn.events.items c.loop-turn.self c.hold_into.new.self c.loop-turn.done.items
    c.hold_into.new.done.items c.loop-turn._turn none.0 none.1 c.loop-turn.invariant in
    group_declines g.T.Twin.seen g.T.Twin.may_leave g.T.Twin.moment g.T.Twin.left_since g.T.Twin.failures c.args.events.now.items c.args.self.now c.loop-turn.events.items c.hold_into.new.self c.hold_into.new.done.items c.loop-turn._turn
    c.args.most c.in-Some.event c.pop_front.new.self.items far c.in-Some.ensures.items (λ t f. none.2 t (subst (λ (core : Core _). Fits core t) none.0 f))

pub returns-then-not-held-clause-any_moment : goal.returns-then-not-held-clause-any_moment
returns-then-not-held-clause-any_moment g c =
    next_moment g.T.Twin.seen g.T.Twin.may_leave g.T.Twin.moment g.T.Twin.left_since g.T.Twin.failures c.args.events.now.items c.args.self.now c.loop-turn.events.items c.loop-turn.self c.loop-turn.done.items c.loop-turn._turn
    c.hold_into.new.self c.loop-turn.invariant c.hold_into.ensures.any_moment

pub returns-in-Err-clause-any_moment : goal.returns-in-Err-clause-any_moment
returns-in-Err-clause-any_moment g c =
    next_moment g.T.Twin.seen g.T.Twin.may_leave g.T.Twin.moment g.T.Twin.left_since g.T.Twin.failures c.args.events.now.items c.args.self.now c.loop-turn.events.items c.loop-turn.self c.loop-turn.done.items c.loop-turn._turn
    c.hold_into.new.self c.loop-turn.invariant c.hold_into.ensures.any_moment

-- as many were handled as were to be
pub returns-clause-fits : goal.returns-clause-fits
returns-clause-fits g c =
    group_ends g.T.Twin.seen g.T.Twin.may_leave g.T.Twin.moment g.T.Twin.left_since g.T.Twin.failures c.args.events.now.items c.args.self.now c.loop-turn.events.items c.loop-turn.self c.loop-turn.done.items c.loop-turn._turn
    c.args.most c.loop-turn.invariant (inl (omega (arith, c.loop-turn.auto._turn-end, c.loop-turn-test.false)))
