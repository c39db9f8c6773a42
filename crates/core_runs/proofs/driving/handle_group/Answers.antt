use Rattle.std.proofs.Common.{◌≡◌, ◌∙◌, ◌<◌, ℕ, [], subst, sym, rules}
use Rattle.std.proofs.lemmas.Result.{IfErr-weaker, on_ok_weaker}
use Rattle.std.specs.Vec.Iter.{into_iter_items}
use Rattle.journal_store.specs.Store.{twin_of}
use Rattle.core_machine.specs.declared.fault.CoreFault.TheVariants.{Disk}
use Rattle.router_core.specs.Handling.{store_of}
use Rattle.router_core.proofs.Grouped.{no_items, ok_is_no_fault}
use Rattle.core_runs.proofs.Partway.{all_gone, next_within, none_yet, one_further, works_or_not}
use Rattle.core_runs.proofs.driving.handle_group.Goals as goal

pub loop-event-init : goal.loop-event-init
loop-event-init g c =
    let all : c.args.group.items ≡ into_iter_items c.into_iter-event-iterator.result = search rules in
    none_yet g.T.Twin.seen g.T.Twin.may_leave g.T.Twin.moment g.T.Twin.left_since g.T.Twin.failures (λ twin. g.met.T.Twin.only_now twin) c.args.group.items
    (into_iter_items c.into_iter-event-iterator.result) c.args.core.now all

pub loop-event-preserved : goal.loop-event-preserved
loop-event-preserved g c =
    let h = c.in_ok-hold.ensures in
    one_further g.T.Twin.seen g.T.Twin.may_leave g.T.Twin.moment g.T.Twin.left_since g.T.Twin.failures c.args.group.items c.args.core.now (into_iter_items c.loop-event.event-iterator) c.loop-event.core
    c.in-Some.event (into_iter_items c.next.new.self) c.hold.new.core c.loop-event.invariant c.in-Some.ensures.steps.0
    h.fits h.works h.named h.behind h.any_moment (h.no_other (ok_is_no_fault _ Disk))

-- an event met a fault
pub returns-in_err-hold-clause-any_moment : goal.returns-in_err-hold-clause-any_moment
returns-in_err-hold-clause-any_moment g c =
    next_within g.T.Twin.seen g.T.Twin.may_leave g.T.Twin.moment g.T.Twin.left_since g.T.Twin.failures c.args.group.items c.args.core.now (into_iter_items c.loop-event.event-iterator) c.loop-event.core
    c.hold.new.core c.loop-event.invariant c.hold.ensures.any_moment

-- what is held is written
pub returns-clause-fits : goal.returns-clause-fits
returns-clause-fits g c =
    let none : into_iter_items c.loop-event.event-iterator ≡ [] =
    no_items (into_iter_items c.loop-event.event-iterator) (sym c.loop-event.event-iterator.rest.ok.0 ∙ c.in-None.ensures.steps.0) in
    on_ok_weaker c.write_held.result
    (λ fits. all_gone g.T.Twin.seen g.T.Twin.may_leave g.T.Twin.moment g.T.Twin.left_since g.T.Twin.failures c.args.group.items c.args.core.now (into_iter_items c.loop-event.event-iterator) c.loop-event.core
    c.write_held.new.self c.loop-event.invariant none fits)
    c.write_held.ensures.fits

pub returns-clause-works : goal.returns-clause-works
returns-clause-works g c = on_ok_weaker c.write_held.result (λ works failed. absurd (works_or_not (sym failed ∙ works))) c.write_held.ensures.works

pub returns-clause-failed : goal.returns-clause-failed
returns-clause-failed g c = IfErr-weaker c.write_held.result _ _ (λ f same is. c.loop-event.invariant.works (same is).1) c.write_held.ensures.unchanged

pub returns-clause-cause : goal.returns-clause-cause
returns-clause-cause g c =
    IfErr-weaker c.write_held.result _ _
    (λ f more is. subst (λ (n : ℕ). n < g.T.Twin.failures (twin_of (store_of c.write_held.new.self))) c.loop-event.invariant.same_failures (more is))
    c.write_held.ensures.cause

pub returns-clause-no_other : goal.returns-clause-no_other
returns-clause-no_other g c = λ other. c.write_held.ensures.no_other other ∙ c.loop-event.invariant.same_failures

pub returns-clause-stands : goal.returns-clause-stands
returns-clause-stands g c =
    on_ok_weaker c.write_held.result (λ writes stands. let k = c.loop-event.invariant.behind stands in writes k.0 k.1) c.write_held.ensures.stands

pub returns-clause-any_moment : goal.returns-clause-any_moment
returns-clause-any_moment g c =
    next_within g.T.Twin.seen g.T.Twin.may_leave g.T.Twin.moment g.T.Twin.left_since g.T.Twin.failures c.args.group.items c.args.core.now (into_iter_items c.loop-event.event-iterator) c.loop-event.core
    c.write_held.new.self c.loop-event.invariant c.write_held.ensures.any_moment
