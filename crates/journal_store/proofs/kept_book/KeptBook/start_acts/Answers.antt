use Rattle.std.proofs.Common.{sym, subst, ◌≡◌, ◌≤◌, List, None, length}
use Rattle.book_model.specs.declared.act.Act.{Act}
use Rattle.book_model.specs.Book.{first_fault}
use Rattle.journal_codec.specs.Batches.{HaveOutcomes}
use Rattle.journal_codec.specs.Format.{acts_bytes}
use Rattle.journal_store.proofs.Sound.{sound_is_ordered}
use Rattle.journal_store.proofs.Started.{start_applies, start_small, start_outcomes}
use Rattle.journal_store.proofs.Writing.{start_never_exceeds}
use Rattle.std.proofs.lemmas.Result.{IfOk-weaker}
use Rattle.journal_store.proofs.kept_book.KeptBook.start_acts.Goals as goal

pub returns-clause-applies : goal.returns-clause-applies
returns-clause-applies c = IfOk-weaker c.start_acts.result _ _
    (λ v is. subst (λ (acts : List Act). first_fault c.args.self.now.book acts ≡ None) (sym is) (start_applies c.args.self.now.book (sound_is_ordered c.args.self.now.book c.is_sound.ensures).rows_rise))
    c.start_acts.ensures

pub returns-clause-small : goal.returns-clause-small
returns-clause-small c = IfOk-weaker c.start_acts.result _ _
    (λ v is. subst (λ (acts : List Act). length (acts_bytes acts) ≤ 4194304) (sym is) (start_small c.args.self.now.book c.is_sound.ensures.few_rows))
    c.start_acts.ensures

pub returns-clause-outcomes : goal.returns-clause-outcomes
returns-clause-outcomes c = IfOk-weaker c.start_acts.result _ _
    (λ v is. subst HaveOutcomes (sym is) (start_outcomes c.args.self.now.book))
    c.start_acts.ensures

pub returns-clause-fits : goal.returns-clause-fits
returns-clause-fits c = start_never_exceeds c.args.self.now.book c.is_sound.ensures
