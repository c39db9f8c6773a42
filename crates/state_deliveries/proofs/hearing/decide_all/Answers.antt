use Rattle.std.proofs.Common.{◌∙◌, ◌+◌, refl, sym, ap, subst, drop}
use Rattle.std.specs.Prelude.{if◌then◌else◌}
use Rattle.std.specs.List.{list_any}
use Rattle.std.proofs.lemmas.List.{drop_more, drop_all}
use Rattle.state_collections.specs.Ids.{at_id}
use Rattle.state_collections.specs.NumberMap.{at_number}
use Rattle.state_deliveries.specs.Hearing.{picks, id_of}
use Rattle.state_deliveries.specs.Naming.{is_open}
use Rattle.state_deliveries.specs.Stepping.{IsKept, after_change}
use Rattle.state_deliveries.proofs.Again.{finish}
use Rattle.state_deliveries.proofs.Closed.{closed_if}
use Rattle.state_deliveries.proofs.Forgotten.{stays, forgets_then, kept_if, one_decided}
use Rattle.state_deliveries.proofs.Touching.{touches_self, touches_then}
use Rattle.state_deliveries.proofs.hearing.decide_all.Goals as goal

pub loop-id-init : goal.loop-id-init
loop-id-init c = (
  λ decides keeps n. (keeps n, refl),
  λ d o id. stays (at_number c.args.store.now.deliveries) (at_id c.args.names.now.ids d o id),
  λ before. before,
  touches_self c.args.store.now,
)

pub loop-id-preserved : goal.loop-id-preserved
loop-id-preserved c =
    let x = c.args.change.now in
    let names = at_id c.args.names.now.ids in
    let conn = c.args.conn in
    let own = c.args.own in
    let ids = c.args.ids.now in
    let known = at_number c.loop-id.store.deliveries in (
      λ decides keeps n.
          let so_far = c.loop-id.invariant.0 decides keeps n in
          let now = c.in_ok-decide.ensures.deliveries n
          ∙ ap (λ id. if picks (at_id c.loop-id.names.ids conn own) n (id_of (known n)) id then after_change x (known n) else known n) (c.number-at.ensures ∙ c.id-item.is) in (
            subst IsKept (sym now) (kept_if _ x (known n) so_far.0),
            one_decided x n _ (drop (c.loop-id.id-index + 1) ids) (names conn own) (at_id c.loop-id.names.ids conn own) known _ decides so_far.0
                (c.loop-id.invariant.1 conn own _) now
                ∙ sym (ap (λ l. finish x (list_any (picks (names conn own) n (id_of (known n))) l) (known n)) (drop_more ids c.loop-id.id-index c.id-item.result c.loop-id-test.true))
                ∙ so_far.1,
          ),
      λ d o id. forgets_then known (at_number c.decide.new.store.deliveries) (λ m e. ap is_open (c.in_ok-decide.ensures.deliveries m) ∙ closed_if _ x (known m) e)
          (at_id c.decide.new.names.ids d o id) (at_id c.loop-id.names.ids d o id) (names d o id) (c.loop-id.invariant.1 d o id) (c.in_ok-decide.ensures.names d o id),
      λ before. c.in_ok-decide.ensures.indexed (c.loop-id.invariant.2 before),
      touches_then c.args.store.now c.loop-id.store c.decide.new.store c.loop-id.invariant.3 c.in_ok-decide.ensures.touches,
    )

pub returns-clause-deliveries : goal.returns-clause-deliveries
returns-clause-deliveries c = λ decides keeps n.
    let pick = picks (at_id c.args.names.now.ids c.args.conn c.args.own) n (id_of (at_number c.loop-id.store.deliveries n)) in
    sym (ap (λ l. finish c.args.change.now (list_any pick l) (at_number c.loop-id.store.deliveries n)) (drop_all c.loop-id.id-index c.args.ids.now c.loop-id-test.false))
    ∙ (c.loop-id.invariant.0 decides keeps n).1
