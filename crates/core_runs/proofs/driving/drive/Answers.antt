use Rattle.std.proofs.Common.{◌≡◌, ◌∙◌, ◌∷◌, ◌++◌, [], List, ℕ, ap, length, refl, subst, sym, rules, arith, Vec, Global}
use Rattle.std.specs.Vec.Iter.{into_iter_items}
use Rattle.router_trace.specs.declared.event.Event.{Event}
use Rattle.router_core.specs.Handling.{id_of}
use Rattle.core_runs.specs.Runs.{Broken, events_of}
use Rattle.core_runs.proofs.RunLemmas.{all_run, none_left, past_more}
use Rattle.core_runs.proofs.Remains.{first_moment, next_moment, left_after, some_items}
use Rattle.core_runs.proofs.driving.drive.Goals as goal

pub returns-clause-ran : goal.returns-clause-ran
returns-clause-ran g c = λ none t f.
    let w = c.loop-group.invariant.past t f in
    let gone = none_left (into_iter_items c.loop-group.group-iterator) (sym c.loop-group.group-iterator.rest.ok.0 ∙ c.in-None.ensures.steps.0) in (
      w.1,
      all_run (id_of c.args.core.now) t (events_of c.args.groups.items) w.0 (events_of (into_iter_items c.loop-group.group-iterator)) c.loop-group.taken.items w.1 w.2 gone w.4,
      w.5,
    )

pub loop-group-init : goal.loop-group-init
loop-group-init g c =
    let all : c.args.groups.items ≡ into_iter_items c.into_iter-group-iterator.result = search rules in
    record {
      past = λ t f. ([], t, ap events_of all, refl, (refl, c.new-taken.ensures.items), f);
      works = λ e. e;
      named = refl;
      stands = λ s. s;
      moments = λ t f s.
          first_moment g.T.Twin.seen g.T.Twin.may_leave g.T.Twin.moment g.T.Twin.left_since g.met.T.Twin.only_now c.args.core.now t (events_of c.args.groups.items) f s;
      failures = refl;
      count = let h : length c.args.groups.items ≡ length (into_iter_items c.into_iter-group-iterator.result) = ap (λ (gs : List (Vec Event Global)). length gs) all in grind (arith, h);
    }

pub loop-group-preserved : goal.loop-group-preserved
loop-group-preserved g c = record {
  past = λ t f.
      let w = c.loop-group.invariant.past t f in
      let s = c.in-Ok.ensures.fits w.1 w.5 in
      let p = past_more (id_of c.args.core.now) (id_of c.loop-group.core) c.loop-group.handled t w.1 s.1 (events_of c.args.groups.items) w.0
      (events_of (into_iter_items c.loop-group.group-iterator)) (events_of (into_iter_items c.next.new.self)) c.in-Some.group.items c.loop-group.taken.items s.0 c.step.new.taken.items
      c.loop-group.invariant.named (ap events_of c.in-Some.ensures.steps.0) s.4 w.2 w.3 w.4 s.2
      in (w.0 ++ c.in-Some.group.items ∷ [], s.1, p.0, p.1, p.2, s.3);
  works = search rules;
  named = search rules;
  stands = λ s. c.in-Ok.ensures.stands (c.loop-group.invariant.stands s);
  moments = λ t f s.
      let w = c.loop-group.invariant.past t f in
      next_moment g.T.Twin.seen g.T.Twin.may_leave g.T.Twin.moment g.T.Twin.left_since _ _ _ (id_of c.args.core.now) (id_of c.loop-group.core) t (events_of c.args.groups.items) w.0
      c.loop-group.taken.items w.1 c.in-Some.group.items (events_of (into_iter_items c.next.new.self)) c.loop-group.invariant.named
      (w.2 ∙ ap (λ (gs : List (Vec Event Global)). w.0 ++ events_of gs) c.in-Some.ensures.steps.0) w.4 (c.loop-group.invariant.moments t f s)
      (c.step.ensures.any_moment w.1 w.5 (c.loop-group.invariant.stands s));
  failures = search rules;
  count = let h = c.in-Some.ensures.steps in grind (arith, h, rules);
}

pub returns-in-Err-clause-stopped : goal.returns-in-Err-clause-stopped
returns-in-Err-clause-stopped g c = λ t f.
    let w = c.loop-group.invariant.past t f in
    let left = c.in-Err.ensures.broken w.1 w.5 in
    record {
      first = w.0;
      group = c.in-Some.group.items;
      rest = events_of (into_iter_items c.next.new.self);
      are = w.2 ∙ ap (λ (gs : List (Vec Event Global)). w.0 ++ events_of gs) c.in-Some.ensures.steps.0;
      count = w.3;
      mid = w.1;
      before = c.loop-group.taken.items;
      run = w.4;
      last = left.0;
      broken = subst (λ (i : List ℕ). Broken i c.loop-group.handled w.1 c.in-Some.group.items left.0) c.loop-group.invariant.named left.1;
      items = left.2;
    }

pub returns-in-Err-clause-any_moment : goal.returns-in-Err-clause-any_moment
returns-in-Err-clause-any_moment g c = λ t f s.
    let w = c.loop-group.invariant.past t f in
    next_moment g.T.Twin.seen g.T.Twin.may_leave g.T.Twin.moment g.T.Twin.left_since _ _ _ (id_of c.args.core.now) (id_of c.loop-group.core) t (events_of c.args.groups.items) w.0
    c.loop-group.taken.items w.1 c.in-Some.group.items (events_of (into_iter_items c.next.new.self)) c.loop-group.invariant.named
    (w.2 ∙ ap (λ (gs : List (Vec Event Global)). w.0 ++ events_of gs) c.in-Some.ensures.steps.0) w.4 (c.loop-group.invariant.moments t f s)
    (c.step.ensures.any_moment w.1 w.5 (c.loop-group.invariant.stands s))

pub returns-in-Err-clause-left : goal.returns-in-Err-clause-left
returns-in-Err-clause-left g c = λ t f s contents left.
    let w = c.loop-group.invariant.past t f in
    let more = c.in-Err.ensures.broken w.1 w.5 in
    left_after g.T.Twin.seen g.T.Twin.may_leave g.T.Twin.moment g.T.Twin.left_since g.met.T.Twin.counts_now _ _ (id_of c.args.core.now) (id_of c.loop-group.core) t (events_of c.args.groups.items) w.0
    c.loop-group.taken.items w.1 c.in-Some.group.items (events_of (into_iter_items c.next.new.self)) c.loop-group.handled c.step.new.taken.items more.0 c.loop-group.invariant.named
    (w.2 ∙ ap (λ (gs : List (Vec Event Global)). w.0 ++ events_of gs) c.in-Some.ensures.steps.0) w.3 w.4 more.2
    (c.step.ensures.any_moment w.1 w.5 (c.loop-group.invariant.stands s)) contents left
    (λ some. c.in-Err.ensures.answered (some_items c.loop-group.taken.items c.step.new.taken.items more.0 more.2 some) w.1 w.5 (c.loop-group.invariant.stands s) contents left)
