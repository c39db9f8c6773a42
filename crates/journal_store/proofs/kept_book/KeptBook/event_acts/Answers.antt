use Rattle.std.proofs.Common.{sym, subst, List}
use Rattle.std.proofs.lemmas.Result.{IfOk-weaker}
use Rattle.book_model.specs.declared.act.Act.{Act}
use Rattle.journal_store.specs.Writable.{Writable}
use Rattle.journal_store.proofs.Events.{event_writable}
use Rattle.journal_store.proofs.Sound.{sound_is_ordered}
use Rattle.journal_store.proofs.kept_book.KeptBook.event_acts.Goals as goal

pub returns-clause-writable : goal.returns-clause-writable
returns-clause-writable c = IfOk-weaker c.event_acts.result _ _
    (λ v is. subst (λ (acts : List Act). Writable c.args.self.now.book acts) (sym is)
    (event_writable c.args.self.now.book c.args.decided.items c.args.forgotten.items c.args.terminus
    (sound_is_ordered c.args.self.now.book c.is_sound.ensures).rows_rise c.is_sound.ensures.few_rows))
    c.event_acts.ensures
