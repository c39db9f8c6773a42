use Rattle.std.proofs.Common.{Vec, ◌≡◌, ◌∙◌, sym, ap, subst, ℕ, ◌+◌, List}
use Rattle.std.specs.Prelude.{◌⊎◌, Err}
use Rattle.core_machine.specs.declared.fault.CoreFault.{CoreFault}
use Rattle.disk_core.specs.Disk.{LeavesOnly}
use Rattle.book_model.specs.Book.{effects}
use Rattle.twin_journal.specs.Journal.{batch_count}
use Rattle.journal_store.specs.declared.store.Store.{Store}
use Rattle.twin_journal.specs.Holding.{BeforeOrAfter}
use Rattle.journal_store.specs.Store.{OpensTo, Stands, twin_of, journal_of, book_of, count_of}
use Rattle.router_trace.specs.Trace.{step_of}
use Rattle.router_state.specs.declared.tables.State.{State}
use Rattle.router_state.specs.Tables.{TablesFit}
use Rattle.reply_rows.specs.Acts.{acts_of, book_in, booked}
use Rattle.reply_rows.specs.declared.plan.Plan.{Plan}
use Rattle.reply_rows.specs.Admitting.{row_in}
use Rattle.router_reply.specs.Replies.{row_found}
use Rattle.router_core.specs.Handling.{IsReady, Journals, BeforeOrAfterEvent, id_of, state_of, store_of}
use Rattle.router_core.specs.Replies.{answered, handled}
use Rattle.router_core.proofs.Books.{journals_after, journals_stored, fits_handled}
use Rattle.router_core.proofs.Preparing.{ready_without}
use Rattle.router_core.proofs.Committing.{acts_in, acts_none, fault_of, some_weaker}
use Rattle.router_core.proofs.Moments.{known_journal, known_moment, still_journal, still_moment}
use Rattle.router_core.proofs.router.Core.carry_out.Goals as goal

pub returns-clause-fits : goal.returns-clause-fits
returns-clause-fits g c = λ t f taken.
    let core = c.args.self.now in
    let e = c.args.event in
    let decided = c.in-Ok.ensures.decided t f taken in
    let acts : c.hear.new.plan.acts.items ≡ acts_of t e = c.in-Ok-hear.ensures.acts t decided in
    let plan : Plan = c.take_acts.new.self in
    let ready : IsReady (state_of c.write.new.self) (booked t e) e plan c.hear.new.heard =
    subst (λ (s : State). IsReady s (booked t e) e plan c.hear.new.heard) (sym (ap state_of c.write.ensures.rest))
    (ready_without (state_of c.hear.new.self) (booked t e) e c.hear.new.plan plan c.hear.new.heard c.take_acts.ensures.rest (c.in-Ok-hear.ensures.ready t decided)) in
    let row : c.row_in-row.result ≡ row_found (booked t e) = c.row_in-row.ensures ∙ ap row_in (c.deref.ensures.value ∙ acts) in
    let taken_acts : c.take_acts.result.items ≡ acts_of t e = ap (λ (v : Vec _ _). v.items) c.take_acts.ensures.acts ∙ acts in
    let same : id_of c.write.new.self ≡ id_of core = ap id_of c.write.ensures.rest ∙ ap id_of c.hear.ensures.rest ∙ ap id_of c.decide.ensures.rest in
    let stored : store_of c.hear.new.self ≡ store_of core = ap store_of c.hear.ensures.rest ∙ ap store_of c.decide.ensures.rest in
    let journal : Journals c.write.new.self (booked t e) =
    journals_after c.hear.new.self c.write.new.self t e c.take_acts.result.items (journals_stored core c.hear.new.self t stored f.journal) taken_acts
    c.in-Ok-write.ensures.book c.in-Ok-write.ensures.count c.in-Ok-write.ensures.suits in
    let tables : TablesFit (state_of c.answer.new.self) (handled (id_of core) t (step_of e)) =
    subst (λ (id : List ℕ). TablesFit (state_of c.answer.new.self) (answered id (booked t e) (step_of e))) same (c.in-Ok-answer.ensures.tables (booked t e) ready journal.book row
    (acts_in c.in-Ok-write.journal (λ v. v.items) c.acts_written.result.now c.take_acts.result.items _ c.acts_written.ensures.some c.acts_written.ensures.none c.in-Ok-write.ensures.written
    c.in-Ok-write.ensures.silent ∙ taken_acts)) in
    fits_handled c.answer.new.self (id_of core) t e taken.taken tables c.in-Ok-answer.ensures.started (journals_stored c.write.new.self c.answer.new.self (booked t e) c.answer.ensures.store journal)

pub returns-clause-written : goal.returns-clause-written
returns-clause-written g c = λ t f taken.
    some_weaker _ _ c.in-Ok-write.journal
    (λ batch is. (is.0 ∙ ap (λ (s : Store _). batch_count (journal_of s) + 1) (ap store_of c.hear.ensures.rest ∙ ap store_of c.decide.ensures.rest), is.1 ∙ ap (λ (v : Vec _ _). v.items) c.take_acts.ensures.acts ∙ c.in-Ok-hear.ensures.acts t (c.in-Ok.ensures.decided t f taken))) c.in-Ok-write.ensures.written

pub returns-clause-silent : goal.returns-clause-silent
returns-clause-silent g c = λ t f taken.
    acts_none c.in-Ok-write.journal c.take_acts.result.items (acts_of t c.args.event) (ap (λ (v : Vec _ _). v.items) c.take_acts.ensures.acts ∙ c.in-Ok-hear.ensures.acts t (c.in-Ok.ensures.decided t f taken)) c.in-Ok-write.ensures.silent

pub returns-clause-any_moment : goal.returns-clause-any_moment
returns-clause-any_moment g c = λ t f taken stands.
    let core = c.args.self.now in
    let e = c.args.event in
    let acts = c.take_acts.result.items in
    let same = ap store_of c.hear.ensures.rest ∙ ap store_of c.decide.ensures.rest in
    let run = subst (λ (s : Store _). Stands g.T.Twin.seen g.T.Twin.may_leave s → LeavesOnly g.T.Twin.moment g.T.Twin.left_since (twin_of s) (twin_of (store_of c.write.new.self))
    (λ contents. OpensTo contents (book_of s) ⊎ OpensTo contents (effects (book_of s) acts))) same c.write.ensures.any_moment stands in
    subst (λ (s : Store _). LeavesOnly g.T.Twin.moment g.T.Twin.left_since (twin_of (store_of core)) (twin_of s) (BeforeOrAfterEvent t e)) (sym c.answer.ensures.store)
    (known_moment g.T.Twin.seen g.T.Twin.may_leave g.T.Twin.moment g.T.Twin.left_since core (twin_of (store_of c.write.new.self)) t e acts f (ap (λ (v : Vec _ _). v.items) c.take_acts.ensures.acts ∙ c.in-Ok-hear.ensures.acts t (c.in-Ok.ensures.decided t f taken)) run)

pub returns-in_default-answer-clause-any_moment : goal.returns-in_default-answer-clause-any_moment
returns-in_default-answer-clause-any_moment g c = λ t f taken stands.
    let core = c.args.self.now in
    let e = c.args.event in
    let acts = c.take_acts.result.items in
    let same = ap store_of c.hear.ensures.rest ∙ ap store_of c.decide.ensures.rest in
    let run = subst (λ (s : Store _). Stands g.T.Twin.seen g.T.Twin.may_leave s → LeavesOnly g.T.Twin.moment g.T.Twin.left_since (twin_of s) (twin_of (store_of c.write.new.self))
    (λ contents. OpensTo contents (book_of s) ⊎ OpensTo contents (effects (book_of s) acts))) same c.write.ensures.any_moment stands in
    subst (λ (s : Store _). LeavesOnly g.T.Twin.moment g.T.Twin.left_since (twin_of (store_of core)) (twin_of s) (BeforeOrAfterEvent t e)) (sym c.answer.ensures.store)
    (known_moment g.T.Twin.seen g.T.Twin.may_leave g.T.Twin.moment g.T.Twin.left_since core (twin_of (store_of c.write.new.self)) t e acts f (ap (λ (v : Vec _ _). v.items) c.take_acts.ensures.acts ∙ c.in-Ok-hear.ensures.acts t (c.in-Ok.ensures.decided t f taken)) run)

pub returns-in-Err-clause-any_moment : goal.returns-in-Err-clause-any_moment
returns-in-Err-clause-any_moment g c = λ t f taken stands.
    let core = c.args.self.now in
    let e = c.args.event in
    let acts = c.take_acts.result.items in
    let same = ap store_of c.hear.ensures.rest ∙ ap store_of c.decide.ensures.rest in
    let run = subst (λ (s : Store _). Stands g.T.Twin.seen g.T.Twin.may_leave s → LeavesOnly g.T.Twin.moment g.T.Twin.left_since (twin_of s) (twin_of (store_of c.write.new.self))
    (λ contents. OpensTo contents (book_of s) ⊎ OpensTo contents (effects (book_of s) acts))) same c.write.ensures.any_moment stands in
    known_moment g.T.Twin.seen g.T.Twin.may_leave g.T.Twin.moment g.T.Twin.left_since core (twin_of (store_of c.write.new.self)) t e acts f (ap (λ (v : Vec _ _). v.items) c.take_acts.ensures.acts ∙ c.in-Ok-hear.ensures.acts t (c.in-Ok.ensures.decided t f taken)) run

-- another fault of the write is another one of the call
pub returns-in-Err-clause-no_other : goal.returns-in-Err-clause-no_other
returns-in-Err-clause-no_other g c = λ other.
    c.write.ensures.no_other (λ is. other (ap (λ (f : CoreFault). Err f) (ap (fault_of c.in-Err.fault) (sym c.in-Err.is ∙ is))))
    ∙ ap (λ (s : Store _). g.T.Twin.failures (twin_of s)) (ap store_of c.hear.ensures.rest ∙ ap store_of c.decide.ensures.rest)

pub returns-clause-journal_moment : goal.returns-clause-journal_moment
returns-clause-journal_moment g c = λ t f taken stands.
    let core = c.args.self.now in
    let e = c.args.event in
    let acts = c.take_acts.result.items in
    let same = ap store_of c.hear.ensures.rest ∙ ap store_of c.decide.ensures.rest in
    let run = subst (λ (s : Store _). Stands g.T.Twin.seen g.T.Twin.may_leave s
    → LeavesOnly g.T.Twin.moment g.T.Twin.left_since (twin_of s) (twin_of (store_of c.write.new.self)) (BeforeOrAfter (book_of s) (count_of s) acts)) same c.write.ensures.journal_moment stands in
    subst (λ (s : Store _). LeavesOnly g.T.Twin.moment g.T.Twin.left_since (twin_of (store_of core)) (twin_of s) (BeforeOrAfter (book_in t) (count_of (store_of core)) (acts_of t e))) (sym c.answer.ensures.store)
    (known_journal g.T.Twin.seen g.T.Twin.may_leave g.T.Twin.moment g.T.Twin.left_since core (twin_of (store_of c.write.new.self)) t e acts f (ap (λ (v : Vec _ _). v.items) c.take_acts.ensures.acts ∙ c.in-Ok-hear.ensures.acts t (c.in-Ok.ensures.decided t f taken)) run)

pub returns-in_default-answer-clause-journal_moment : goal.returns-in_default-answer-clause-journal_moment
returns-in_default-answer-clause-journal_moment g c = λ t f taken stands.
    let core = c.args.self.now in
    let e = c.args.event in
    let acts = c.take_acts.result.items in
    let same = ap store_of c.hear.ensures.rest ∙ ap store_of c.decide.ensures.rest in
    let run = subst (λ (s : Store _). Stands g.T.Twin.seen g.T.Twin.may_leave s
    → LeavesOnly g.T.Twin.moment g.T.Twin.left_since (twin_of s) (twin_of (store_of c.write.new.self)) (BeforeOrAfter (book_of s) (count_of s) acts)) same c.write.ensures.journal_moment stands in
    subst (λ (s : Store _). LeavesOnly g.T.Twin.moment g.T.Twin.left_since (twin_of (store_of core)) (twin_of s) (BeforeOrAfter (book_in t) (count_of (store_of core)) (acts_of t e))) (sym c.answer.ensures.store)
    (known_journal g.T.Twin.seen g.T.Twin.may_leave g.T.Twin.moment g.T.Twin.left_since core (twin_of (store_of c.write.new.self)) t e acts f (ap (λ (v : Vec _ _). v.items) c.take_acts.ensures.acts ∙ c.in-Ok-hear.ensures.acts t (c.in-Ok.ensures.decided t f taken)) run)

pub returns-in-Err-clause-journal_moment : goal.returns-in-Err-clause-journal_moment
returns-in-Err-clause-journal_moment g c = λ t f taken stands.
    let core = c.args.self.now in
    let e = c.args.event in
    let acts = c.take_acts.result.items in
    let same = ap store_of c.hear.ensures.rest ∙ ap store_of c.decide.ensures.rest in
    let run = subst (λ (s : Store _). Stands g.T.Twin.seen g.T.Twin.may_leave s
    → LeavesOnly g.T.Twin.moment g.T.Twin.left_since (twin_of s) (twin_of (store_of c.write.new.self)) (BeforeOrAfter (book_of s) (count_of s) acts)) same c.write.ensures.journal_moment stands in
    known_journal g.T.Twin.seen g.T.Twin.may_leave g.T.Twin.moment g.T.Twin.left_since core (twin_of (store_of c.write.new.self)) t e acts f (ap (λ (v : Vec _ _). v.items) c.take_acts.ensures.acts ∙ c.in-Ok-hear.ensures.acts t (c.in-Ok.ensures.decided t f taken)) run

pub returns-in_default-clause-journal_moment : goal.returns-in_default-clause-journal_moment
returns-in_default-clause-journal_moment g c = λ t f taken stands.
    still_journal g.T.Twin.seen g.T.Twin.may_leave g.T.Twin.moment g.T.Twin.left_since (λ twin. g.met.T.Twin.only_now twin) c.args.self.now (twin_of (store_of c.decide.new.self)) t c.args.event f stands
    (ap (λ (s : Store _). twin_of s) (ap store_of c.decide.ensures.rest))

pub returns-in_default-hear-clause-journal_moment : goal.returns-in_default-hear-clause-journal_moment
returns-in_default-hear-clause-journal_moment g c = λ t f taken stands.
    still_journal g.T.Twin.seen g.T.Twin.may_leave g.T.Twin.moment g.T.Twin.left_since (λ twin. g.met.T.Twin.only_now twin) c.args.self.now (twin_of (store_of c.hear.new.self)) t c.args.event f stands
    (ap (λ (s : Store _). twin_of s) (ap store_of c.hear.ensures.rest ∙ ap store_of c.decide.ensures.rest))

pub returns-in_default-hear-clause-any_moment : goal.returns-in_default-hear-clause-any_moment
returns-in_default-hear-clause-any_moment g c = λ t f taken stands.
    still_moment g.T.Twin.seen g.T.Twin.may_leave g.T.Twin.moment g.T.Twin.left_since (λ twin. g.met.T.Twin.only_now twin) c.args.self.now (twin_of (store_of c.hear.new.self)) t c.args.event f stands
    (ap (λ (s : Store _). twin_of s) (ap store_of c.hear.ensures.rest ∙ ap store_of c.decide.ensures.rest))
