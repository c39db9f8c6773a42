use Rattle.std.proofs.Common.{◌∙◌, refl, sym, subst, [], ◌∷◌}
use Rattle.state_collections.specs.NumberMap.{at_number}
use Rattle.state_deliveries.specs.Stepping.{IsKept}
use Rattle.state_deliveries.proofs.Given.{act_done, kept_acts}
use Rattle.state_deliveries.proofs.Touching.{touches_self, touches_then}
use Rattle.state_deliveries.proofs.giving.give_all.Goals as goal

pub loop-act-init : goal.loop-act-init
loop-act-init c = (λ keeps before n. (keeps n, refl), λ before. before, touches_self c.args.store.now)

pub loop-act-preserved : goal.loop-act-preserved
loop-act-preserved c = (
  λ keeps before n.
      let so_far = c.loop-act.invariant.0 keeps before in
      let now = c.in_ok-give_one.ensures.deliveries (λ m. (so_far m).0) (c.loop-act.invariant.1 before) n in
      (subst IsKept (sym now) (kept_acts (c.act-item.result ∷ []) (at_number c.loop-act.store.deliveries n)), act_done c.args.acts.now c.loop-act.act-index c.act-item.result (at_number c.loop-act.store.deliveries n) (at_number c.give_one.new.store.deliveries n) c.loop-act-test.true c.act-item.is now ∙ (so_far n).1),
  λ before. c.in_ok-give_one.ensures.indexed (c.loop-act.invariant.1 before),
  touches_then c.args.store.now c.loop-act.store c.give_one.new.store c.loop-act.invariant.2 c.in_ok-give_one.ensures.touches,
)
