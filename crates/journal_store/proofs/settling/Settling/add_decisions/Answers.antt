use Rattle.std.proofs.Common.{rules, ◌≡◌, ◌∙◌, ◌++◌, ℕ, List, ap}
use Rattle.std.specs.List.{flat_map}
use Rattle.amqp_model.specs.declared.state.DeliveryState.{DeliveryState}
use Rattle.book_model.specs.declared.act.Act.{Act}
use Rattle.book_model.specs.Book.{row_at}
use Rattle.journal_store.specs.Settling.{found_decision}
use Rattle.journal_store.proofs.Numbered.{decisions_found}
use Rattle.journal_store.proofs.settling.Settling.add_decisions.Goals as goal

pub returns : goal.returns
returns c ds numbers names =
    let all : c.loop-number.acts.items ≡ c.args.acts.now.items ++ flat_map (λ (e : ℕ × DeliveryState). found_decision e.1 (row_at e.0 c.args.book.now.rows)) c.args.self.now.outcomes.entries = search rules in
    all ∙ ap (λ (acts : List Act). c.args.acts.now.items ++ acts)
    (decisions_found c.args.self.now.outcomes ds c.args.book.now c.into_iter-number-iterator.ensures.into_iter_gives.5 names.decided c.rows_rise.ensures)
