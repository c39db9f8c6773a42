use Rattle.std.proofs.Common.{rules, ◌≤◌, sym, subst, List, [], ◌∷◌, ◌++◌, length}
use Rattle.amqp_model.specs.declared.item.Item.{Item}
use Rattle.router_serve.specs.Submitting.{CountsGone}
use Rattle.router_serve.proofs.Submits.{core_hinders, gone_joined, no_longer, one_came, some_behind, some_gone}
use Rattle.router_serve.proofs.reader.hand_in.Goals as goal

pub returns-in-Err-clause-err : goal.returns-in-Err-clause-err
returns-in-Err-clause-err g c =
    let most : length c.loop-item.yielded ≤ length c.args.items.items = no_longer _ _ _ _ c.into_iter-item-iterator.ensures.into_iter_gives.0 c.loop-item.yielded_by in
    core_hinders c.in-Err.end c.args.seat.now c.make_way.new.seat c.args.items.items c.in-Err.ensures.core (some_behind _ _ _ _ _ _ most c.loop-item.invariant.2 c.in-Err.ensures.some)

pub returns-in-Err-push_back-clause-err : goal.returns-in-Err-push_back-clause-err
returns-in-Err-push_back-clause-err g c =
    let most : length c.loop-item.yielded ≤ length c.args.items.items = no_longer _ _ _ _ c.into_iter-item-iterator.ensures.into_iter_gives.0 c.loop-item.yielded_by in
    some_gone _ _ _ _ _ most (gone_joined _ _ _ _ _ _ c.loop-item.invariant.2 c.in_default.ensures.all)

pub returns-in-Err-submit_all-clause-err : goal.returns-in-Err-submit_all-clause-err
returns-in-Err-submit_all-clause-err g c =
    let most : length c.loop-item.yielded ≤ length c.args.items.items = no_longer _ _ _ _ c.into_iter-item-iterator.ensures.into_iter_gives.0 c.loop-item.yielded_by in
    core_hinders c.in-Err-submit_all.end c.args.seat.now c.submit_all.new.seat c.args.items.items c.in-Err-submit_all.ensures.core (some_behind _ _ _ _ _ _ most c.loop-item.invariant.2 c.in-Err-submit_all.ensures.some)

pub loop-item-preserved : goal.loop-item-preserved
loop-item-preserved g c =
    let before = gone_joined _ _ _ _ _ _ c.loop-item.invariant.2 c.in_default.ensures.all in (
      search rules,
      search rules,
      subst (λ (is : List Item). CountsGone c.args.seat.now c.make_way.new.seat (c.loop-item.yielded ++ c.in-Some.item ∷ []) is) (sym c.in_default-push_back.ensures.items) (one_came _ _ _ _ c.in-Some.item before),
    )
