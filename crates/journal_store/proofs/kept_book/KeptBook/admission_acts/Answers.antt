use Rattle.std.proofs.Common.{sym, subst, List}
use Rattle.std.proofs.lemmas.Result.{IfOk-weaker}
use Rattle.book_model.specs.declared.act.Act.{Act}
use Rattle.journal_store.specs.Writable.{Writable}
use Rattle.journal_store.proofs.Events.{admission_writable}
use Rattle.journal_store.proofs.kept_book.KeptBook.admission_acts.Goals as goal

pub returns-clause-writable : goal.returns-clause-writable
returns-clause-writable c = IfOk-weaker c.admission_acts.result _ _
    (λ v is. subst (λ (acts : List Act). Writable c.args.self.now.book acts) (sym is) (admission_writable c.args.self.now.book c.args.admission c.admission_acts.ensures.tag))
    c.admission_acts.ensures.acts
