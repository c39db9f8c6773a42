use Rattle.std.proofs.Common.{◌∙◌, ◌++◌, List, ap, sym}
use Rattle.std.proofs.lemmas.Result.{on_ok_weaker}
use Rattle.book_model.specs.declared.act.Act.{Act}
use Rattle.journal_store.proofs.Events.{make_left, make_added}
use Rattle.journal_store.proofs.acting.add_make.Goals as goal

pub returns-then-is_some : goal.returns-then-is_some
returns-then-is_some c ds numbers =
    make_left c.args.book.now ds numbers c.rows_rise.ensures c.args.terminus c.make_refusal.result c.args.acts.now.items c.make_refusal.ensures (sym c.is_some.ensures ∙ c.if-is_some.true)

pub returns : goal.returns
returns c ds numbers =
    on_ok_weaker c.add.result
    (λ e. e ∙ ap (λ (xs : List Act). c.args.acts.now.items ++ xs) (make_added c.args.book.now ds numbers c.rows_rise.ensures c.args.terminus c.make_refusal.result c.make_refusal.ensures (sym c.is_some.ensures ∙ c.if-is_some.false)))
    c.add.ensures
