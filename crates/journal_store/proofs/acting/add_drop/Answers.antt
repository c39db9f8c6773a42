use Rattle.std.proofs.Common.{◌∙◌, ◌++◌, List, ap}
use Rattle.std.proofs.lemmas.Result.{on_ok_weaker}
use Rattle.book_model.specs.declared.act.Act.{Act}
use Rattle.journal_store.proofs.Events.{drop_left, drop_added}
use Rattle.journal_store.proofs.acting.add_drop.Goals as goal

pub returns-else-lets_go : goal.returns-else-lets_go
returns-else-lets_go c ds numbers names =
    drop_left c.args.book.now ds numbers c.rows_rise.ensures c.args.number c.lets_go.result c.args.acts.now.items (c.lets_go.ensures ds numbers names) c.if-lets_go.false

pub returns-then-lets_go : goal.returns-then-lets_go
returns-then-lets_go c ds numbers names =
    on_ok_weaker c.add.result
    (λ e. e ∙ ap (λ (xs : List Act). c.args.acts.now.items ++ xs) (drop_added c.args.book.now ds numbers c.rows_rise.ensures c.args.number c.lets_go.result (c.lets_go.ensures ds numbers names) c.if-lets_go.true))
    c.add.ensures
