use Rattle.std.proofs.Common.{◌∙◌, subst}
use Rattle.book_model.specs.Book.{BookView, effect}
use Rattle.book_core.specs.Tables.{Shows}
use Rattle.book_core.proofs.Runs.{fault_here, first_on, effects_on, first_done, effects_done}
use Rattle.book_core.proofs.tables.Tables.run.Goals as goal

pub returns-in-Err-clause-run : goal.returns-in-Err-clause-run
returns-in-Err-clause-run c b s other =
    let m = c.loop-act.invariant.so_far b s in
    fault_here b m.0 _ _ _ _ c.loop-act-test.true c.act-item.is m.2 (c.in-Err.ensures.step m.0 m.1 other)

pub loop-act-preserved : goal.loop-act-preserved
loop-act-preserved c = record {
  same = record {
    termini = c.step.ensures.before.termini ∙ c.loop-act.invariant.same.termini;
    rows = c.step.ensures.before.rows ∙ c.loop-act.invariant.same.rows;
    keys = c.step.ensures.before.keys ∙ c.loop-act.invariant.same.keys;
    index = record {
      names = c.step.ensures.before.index.names ∙ c.loop-act.invariant.same.index.names;
      from = c.step.ensures.before.index.from ∙ c.loop-act.invariant.same.index.from;
      unforgotten = c.step.ensures.before.index.unforgotten ∙ c.loop-act.invariant.same.index.unforgotten;
      waiting = c.step.ensures.before.index.waiting ∙ c.loop-act.invariant.same.index.waiting;
    };
  };
  so_far = λ b s.
      let m = c.loop-act.invariant.so_far b s in
      let stepped = c.in-Ok.ensures.step m.0 m.1 in
      (effect m.0 c.act-item.result, stepped.1, first_on b m.0 _ _ _ c.loop-act-test.true c.act-item.is m.2 stepped.0, effects_on b m.0 _ _ _ c.loop-act-test.true c.act-item.is m.3);
}

pub returns-clause-run : goal.returns-clause-run
returns-clause-run c b s =
    let m = c.loop-act.invariant.so_far b s in
    let P : BookView → Type 0 = λ n. Shows c.loop-act.self n in
    (first_done b m.0 _ _ c.loop-act-test.false m.2, subst P (effects_done b m.0 _ _ c.loop-act-test.false m.3) m.1)
