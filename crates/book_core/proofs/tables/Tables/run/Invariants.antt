use Rattle.std.proofs.Common.{◌≡◌, drop}
use Rattle.book_model.specs.Book.{BookView, first_fault, effects}
use Rattle.book_core.specs.Tables.{Shows, SameBefore}
use Rattle.book_core.proofs.tables.Tables.run.Given as goal

abbrev pub invariant-loop-act : goal.invariant-loop-act
invariant-loop-act l = record {
  same : SameBefore l.fn.self l.self;
  so_far : (b : BookView) → Shows l.fn.self b → (m : BookView) × Shows l.self m
      × (first_fault m (drop l.act-index l.acts) ≡ first_fault b l.acts)
      × (effects m (drop l.act-index l.acts) ≡ effects b l.acts);
}
