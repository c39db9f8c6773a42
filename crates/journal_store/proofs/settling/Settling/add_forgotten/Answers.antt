use Rattle.std.proofs.Common.{rules, ◌≡◌, ◌∙◌, ◌++◌, ℕ, List, ap}
use Rattle.std.specs.List.{flat_map}
use Rattle.book_model.specs.declared.act.Act.{Act}
use Rattle.book_model.specs.Book.{row_at}
use Rattle.journal_store.specs.Settling.{found_forgotten}
use Rattle.journal_store.proofs.Numbered.{forgotten_found}
use Rattle.journal_store.proofs.settling.Settling.add_forgotten.Goals as goal

pub returns : goal.returns
returns c ds numbers names =
    let all : c.loop-number.acts.items ≡ c.args.acts.now.items ++ flat_map (λ (k : ℕ). found_forgotten (row_at k c.args.book.now.rows)) c.args.self.now.forgotten.keys = search rules in
    all ∙ ap (λ (acts : List Act). c.args.acts.now.items ++ acts)
    (forgotten_found c.args.self.now.forgotten numbers c.args.book.now c.into_iter-number-iterator.ensures.into_iter_gives.4 names.forgotten c.rows_rise.ensures)
