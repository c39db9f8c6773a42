use Rattle.std.proofs.Common.{Vec, ◌≡◌, ◌∙◌, sym, ap, refl, subst, ℕ, ◌+◌, List}
use Rattle.std.specs.Prelude.{Err}
use Rattle.core_machine.specs.declared.fault.CoreFault.{CoreFault}
use Rattle.twin_journal.specs.Journal.{batch_count}
use Rattle.journal_store.specs.declared.store.Store.{Store}
use Rattle.journal_store.specs.Store.{journal_of, twin_of}
use Rattle.router_trace.specs.Trace.{step_of}
use Rattle.router_state.specs.declared.tables.State.{State}
use Rattle.router_state.specs.Tables.{TablesFit}
use Rattle.reply_rows.specs.Acts.{acts_of, booked}
use Rattle.reply_rows.specs.declared.plan.Plan.{Plan}
use Rattle.reply_rows.specs.Admitting.{row_in}
use Rattle.router_reply.specs.Replies.{row_found}
use Rattle.router_core.specs.Handling.{IsReady, Journals, id_of, state_of, store_of}
use Rattle.router_core.specs.Replies.{answered, handled}
use Rattle.router_core.proofs.Books.{journals_after, journals_stored, fits_handled}
use Rattle.router_core.proofs.Preparing.{ready_without}
use Rattle.router_core.proofs.Committing.{acts_in, acts_none, fault_of, some_weaker}
use Rattle.router_core.proofs.Moments.{behind_between, moment_between, still_behind}
use Rattle.router_core.proofs.router.Core.hold_out.Goals as goal

pub returns-clause-fits : goal.returns-clause-fits
returns-clause-fits g c = λ t f taken.
    let core = c.args.self.now in
    let e = c.args.event in
    let decided = c.in-Ok.ensures.decided t f taken in
    let acts : c.hear.new.plan.acts.items ≡ acts_of t e = c.in-Ok-hear.ensures.acts t decided in
    let plan : Plan = c.take_acts.new.self in
    let ready : IsReady (state_of c.hold_acts.new.self) (booked t e) e plan c.hear.new.heard =
    subst (λ (s : State). IsReady s (booked t e) e plan c.hear.new.heard) (sym (ap state_of c.hold_acts.ensures.rest))
    (ready_without (state_of c.hear.new.self) (booked t e) e c.hear.new.plan plan c.hear.new.heard c.take_acts.ensures.rest (c.in-Ok-hear.ensures.ready t decided)) in
    let row : c.row_in-row.result ≡ row_found (booked t e) = c.row_in-row.ensures ∙ ap row_in (c.deref.ensures.value ∙ acts) in
    let taken_acts : c.take_acts.result.items ≡ acts_of t e = ap (λ (v : Vec _ _). v.items) c.take_acts.ensures.acts ∙ acts in
    let same : id_of c.hold_acts.new.self ≡ id_of core = ap id_of c.hold_acts.ensures.rest ∙ ap id_of c.hear.ensures.rest ∙ ap id_of c.decide.ensures.rest in
    let stored : store_of c.hear.new.self ≡ store_of core = ap store_of c.hear.ensures.rest ∙ ap store_of c.decide.ensures.rest in
    let journal : Journals c.hold_acts.new.self (booked t e) =
    journals_after c.hear.new.self c.hold_acts.new.self t e c.take_acts.result.items (journals_stored core c.hear.new.self t stored f.journal) taken_acts
    c.in-Ok-hold_acts.ensures.book c.in-Ok-hold_acts.ensures.count c.in-Ok-hold_acts.ensures.suits in
    let tables : TablesFit (state_of c.answer.new.self) (handled (id_of core) t (step_of e)) =
    subst (λ (id : List ℕ). TablesFit (state_of c.answer.new.self) (answered id (booked t e) (step_of e))) same (c.in-Ok-answer.ensures.tables (booked t e) ready journal.book row
    (acts_in c.in-Ok-hold_acts.journal (λ v. v.items) c.acts_written.result.now c.take_acts.result.items _ c.acts_written.ensures.some c.acts_written.ensures.none c.in-Ok-hold_acts.ensures.written
    c.in-Ok-hold_acts.ensures.silent ∙ taken_acts)) in
    fits_handled c.answer.new.self (id_of core) t e taken.taken tables c.in-Ok-answer.ensures.started (journals_stored c.hold_acts.new.self c.answer.new.self (booked t e) c.answer.ensures.store journal)

pub returns-clause-behind : goal.returns-clause-behind
returns-clause-behind g c =
    behind_between g.T.Twin.seen g.T.Twin.may_leave g.T.Twin.moment g.T.Twin.left_since (store_of c.args.self.now) (store_of c.hear.new.self) (store_of c.hold_acts.new.self) (store_of c.answer.new.self)
    (ap store_of c.hear.ensures.rest ∙ ap store_of c.decide.ensures.rest) c.answer.ensures.store c.in-Ok-hold_acts.ensures.behind

pub returns-clause-written : goal.returns-clause-written
returns-clause-written g c = λ t f taken.
    some_weaker _ _ c.in-Ok-hold_acts.journal
    (λ batch is. (is.0 ∙ ap (λ (s : Store _). batch_count (journal_of s) + 1) (ap store_of c.hear.ensures.rest ∙ ap store_of c.decide.ensures.rest), is.1 ∙ ap (λ (v : Vec _ _). v.items) c.take_acts.ensures.acts ∙ c.in-Ok-hear.ensures.acts t (c.in-Ok.ensures.decided t f taken))) c.in-Ok-hold_acts.ensures.written

pub returns-clause-silent : goal.returns-clause-silent
returns-clause-silent g c = λ t f taken.
    acts_none c.in-Ok-hold_acts.journal c.take_acts.result.items (acts_of t c.args.event) (ap (λ (v : Vec _ _). v.items) c.take_acts.ensures.acts ∙ c.in-Ok-hear.ensures.acts t (c.in-Ok.ensures.decided t f taken)) c.in-Ok-hold_acts.ensures.silent

pub returns-clause-any_moment : goal.returns-clause-any_moment
returns-clause-any_moment g c =
    moment_between g.T.Twin.seen g.T.Twin.may_leave g.T.Twin.moment g.T.Twin.left_since (store_of c.args.self.now) (store_of c.hear.new.self) (store_of c.hold_acts.new.self) (store_of c.answer.new.self)
    (ap store_of c.hear.ensures.rest ∙ ap store_of c.decide.ensures.rest) c.answer.ensures.store c.hold_acts.ensures.any_moment

pub returns-in_default-answer-clause-any_moment : goal.returns-in_default-answer-clause-any_moment
returns-in_default-answer-clause-any_moment g c =
    moment_between g.T.Twin.seen g.T.Twin.may_leave g.T.Twin.moment g.T.Twin.left_since (store_of c.args.self.now) (store_of c.hear.new.self) (store_of c.hold_acts.new.self) (store_of c.answer.new.self)
    (ap store_of c.hear.ensures.rest ∙ ap store_of c.decide.ensures.rest) c.answer.ensures.store c.hold_acts.ensures.any_moment

pub returns-in-Err-clause-any_moment : goal.returns-in-Err-clause-any_moment
returns-in-Err-clause-any_moment g c =
    moment_between g.T.Twin.seen g.T.Twin.may_leave g.T.Twin.moment g.T.Twin.left_since (store_of c.args.self.now) (store_of c.hear.new.self) (store_of c.hold_acts.new.self) (store_of c.hold_acts.new.self)
    (ap store_of c.hear.ensures.rest ∙ ap store_of c.decide.ensures.rest) refl c.hold_acts.ensures.any_moment

pub returns-in_default-clause-any_moment : goal.returns-in_default-clause-any_moment
returns-in_default-clause-any_moment g c = λ kept holds.
    still_behind g.T.Twin.seen g.T.Twin.may_leave g.T.Twin.moment g.T.Twin.left_since (λ twin. g.met.T.Twin.only_now twin) (store_of c.args.self.now) (twin_of (store_of c.decide.new.self)) kept holds
    (ap (λ (s : Store _). twin_of s) (ap store_of c.decide.ensures.rest))

pub returns-in_default-hear-clause-any_moment : goal.returns-in_default-hear-clause-any_moment
returns-in_default-hear-clause-any_moment g c = λ kept holds.
    still_behind g.T.Twin.seen g.T.Twin.may_leave g.T.Twin.moment g.T.Twin.left_since (λ twin. g.met.T.Twin.only_now twin) (store_of c.args.self.now) (twin_of (store_of c.hear.new.self)) kept holds
    (ap (λ (s : Store _). twin_of s) (ap store_of c.hear.ensures.rest ∙ ap store_of c.decide.ensures.rest))

-- another fault of what is held is another one of the call
pub returns-in-Err-clause-no_other : goal.returns-in-Err-clause-no_other
returns-in-Err-clause-no_other g c = λ other.
    c.hold_acts.ensures.no_other (λ is. other (ap (λ (f : CoreFault). Err f) (ap (fault_of c.in-Err.fault) (sym c.in-Err.is ∙ is))))
    ∙ ap (λ (s : Store _). g.T.Twin.failures (twin_of s)) (ap store_of c.hear.ensures.rest ∙ ap store_of c.decide.ensures.rest)
