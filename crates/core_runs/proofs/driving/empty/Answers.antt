use Rattle.std.proofs.Common.{◌∙◌, ◌≡◌, ◌++◌, refl, inl, ◌⊎◌, List, true, rules}
use Rattle.std.proofs.lemmas.Result.{err_from_is_err_and}
use Rattle.router_trace.specs.Trace.{Entry}
use Rattle.router_core.specs.Handling.{Fits, is_failed}
use Rattle.core_machine.specs.Moves.{Taking, taking}
use Rattle.core_machine.specs.declared.fault.CoreFault.TheVariants.{Memory}
use Rattle.core_runs.specs.Runs.{InTurn, sent, Waits}
use Rattle.core_runs.proofs.RunLemmas.{one_more, still_waits, unready}
use Rattle.core_runs.proofs.driving.empty.Goals as goal

pub loop-turn-preserved : goal.loop-turn-preserved
loop-turn-preserved g c = record {
  fits = λ t f. let w = c.loop-turn.invariant.fits t f
      in one_more c.take_one.new.core c.args.group t c.args.taken.now.items c.loop-turn.taken.items c.take_one.new.taken.items w.0 (taking c.in-Some.conn)
      w.1 (record { most = refl; lowest = c.in-Some.ensures _ w.2 })
      (c.in_ok-take_one-in-Some.ensures.fits _ w.2) w.3 (c.in_ok-take_one-in-Some.ensures.items _ w.2);
  works = search rules;
  named = c.in_ok-take_one-in-Some.ensures.named ∙ c.loop-turn.invariant.named;
  store = c.take_one.ensures.store ∙ c.loop-turn.invariant.store;
}

pub returns-in_err-take_one-in-Some-clause-memory : goal.returns-in_err-take_one-in-Some-clause-memory
returns-in_err-take_one-in-Some-clause-memory g c =
    let waits = still_waits c.loop-turn.core c.take_one.new.core c.in-Some.conn.0 c.in-Some.ensures in
    let memory : c.in_err-take_one-in-Some.field-0.0 ≡ Memory → ((t : List Entry) → Fits c.take_one.new.core t → Waits t) ⊎ (is_failed c.take_one.new.core ≡ true)
    = λ is. waits (c.in_err-take_one-in-Some.ensures.memory is) in
    search (memory, rules)

pub returns-in_err-take_one-in-Some-clause-broken : goal.returns-in_err-take_one-in-Some-clause-broken
returns-in_err-take_one-in-Some-clause-broken g c =
    let broken : (t : List Entry) → Fits c.args.core.now t → (takes : List Taking) × InTurn takes t × (c.take_one.new.taken.items ≡ c.args.taken.now.items ++ sent c.args.group takes t)
    = λ t f. let w = c.loop-turn.invariant.fits t f in (w.0, w.1, c.in_err-take_one-in-Some.ensures.kept ∙ w.3) in
    search (broken, rules)

pub returns-in_err-take_one-in-Some-clause-known : goal.returns-in_err-take_one-in-Some-clause-known
returns-in_err-take_one-in-Some-clause-known g c =
    let p = err_from_is_err_and c.from_residual.result c.from_residual.ensures.1 in
    rw (p.1, p.2) (λ t f is. let w = c.loop-turn.invariant.fits t f in unready _ (c.in_err-take_one-in-Some.ensures.known is _ w.2) (c.in-Some.ensures _ w.2).0)

-- too many turns: one is ready still
pub returns-in-Some-ready-clause-memory : goal.returns-in-Some-ready-clause-memory
returns-in-Some-ready-clause-memory g c = λ is. inl (λ t f. (c.in-Some-ready.field-0.0, (c.in-Some-ready.ensures t f).0))
