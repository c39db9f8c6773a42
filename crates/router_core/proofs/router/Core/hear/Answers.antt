use Rattle.std.proofs.Common.{◌≡◌, ◌∙◌, sym, ap, refl, subst, ℕ, List, [], ◌∷◌, Bool, false}
use Rattle.std.proofs.lemmas.Result.{on_ok_weaker}
use Rattle.router_trace.specs.Trace.{Entry, did, Booked}
use Rattle.router_trace.specs.Connection.{due}
use Rattle.router_trace.specs.Deliveries.{acts_found, giving_of}
use Rattle.router_trace.specs.Refusing.{refuses}
use Rattle.router_state.specs.Tables.{TablesFit}
use Rattle.reply_rows.specs.declared.answer.Answer.{Answer}
use Rattle.reply_rows.specs.declared.plan.Plan.{Plan}
use Rattle.reply_rows.specs.Acts.{event_answer, planned_acts, acts_of, booked, book_found, answer_to_event}
use Rattle.reply_rows.specs.Admitting.{ChoseUnlessEnds, admits, event_admission, without_acts}
use Rattle.router_reply.specs.Heard.{IsHeard}
use Rattle.reply_rows.specs.Planning.{IsChange}
use Rattle.reply_rows.specs.Resuming.{Resumes}
use Rattle.journal_store.specs.Store.{IsSuited}
use Rattle.router_core.specs.Handling.{TakenIn, with_admission, full_with, kept_book}
use Rattle.router_core.proofs.Booking.{taken_booked, phase_booked}
use Rattle.router_core.proofs.Books.{not_refused, answer_is}
use Rattle.router_core.proofs.Machines.{on_ok_both}
use Rattle.router_core.proofs.Preparing.{taken_in, prepared, found_full, gives, session_after}
use Rattle.router_core.proofs.Resuming.{resumes_booked}
use Rattle.router_core.proofs.router.Core.hear.Goals as goal

pub returns-clause-ready : goal.returns-clause-ready
returns-clause-ready g c = on_ok_both c.admit.result
    (λ tables chosen t d.
    let core = c.args.self.now in
    let e = c.args.event.now in
    let plan = c.args.plan.now in
    let behind = d.tables (acts_of t e) in
    let free : refuses (booked t e) e ≡ false = taken_booked t e (not_refused t e d.taken) in
    let session = session_after t e plan.own d.plan.rest.session (acts_of t e) (due t e) in
    let change : IsChange plan.ends.items e plan.own plan.change =
    subst (λ (cs : List ℕ). IsChange cs e plan.own plan.change) (sym d.plan.ends) d.plan.rest.change in
    let given : giving_of e plan.acts.items ≡ giving_of e (acts_found (booked t e)) =
    gives core t e _ plan.answer plan.acts.items d.journal refl d.plan.rest.answer d.plan.rest.acts in
    let answer : plan.answer ≡ answer_to_event (booked t e) e = d.plan.rest.answer ∙ answer_is core t e d.journal in
    let same : c.admit.new.plan ≡ record plan { change = c.hear.new.plan.change; full = c.admit.new.plan.full; acts = c.admit.new.plan.acts; consumer = c.admit.new.plan.consumer } =
    c.admit.ensures.plan ∙ ap (λ (p : Plan). record p { full = c.admit.new.plan.full; acts = c.admit.new.plan.acts; consumer = c.admit.new.plan.consumer }) c.hear.ensures.plan in
    let here : TablesFit c.hear.new.state (did e ∷ booked t e) = c.in_ok-hear.ensures.fits (booked t e) behind session change (sym d.before.are_due) free given in
    record {
      tables = tables (did e ∷ booked t e) here;
      ends = ap (λ (p : Plan). p.ends.items) same ∙ behind.are_due;
      phase = ap (λ (p : Plan). p.phase) same ∙ d.plan.rest.phase ∙ sym (phase_booked t e);
      answer = ap (λ (p : Plan). p.answer) same ∙ answer;
      heard = subst (λ (a : Answer). IsHeard (booked t e) e a c.hear.new.heard) (sym (ap (λ (p : Plan). p.answer) same)) (c.in_ok-hear.ensures.heard (booked t e) _ behind session);
      resumed = subst (λ (p : Plan). Resumes (book_found (booked t e)) (booked t e) e p.answer p.resumption) (sym same)
          (resumes_booked (kept_book core) t e plan.answer plan.resumption d.journal.book d.plan.rest.resumed);
      chosen = subst (λ (p : Plan). ChoseUnlessEnds p.ends.items (did e ∷ booked t e) e p.answer c.admit.new.plan.consumer) (sym c.admit.ensures.plan)
          (chosen (did e ∷ booked t e) here (ap (λ (p : Plan). p.consumer) c.hear.ensures.plan ∙ d.plan.rest.unchosen));
    })
    c.admit.ensures.tables c.admit.ensures.chosen

pub returns-clause-acts : goal.returns-clause-acts
returns-clause-acts g c = on_ok_weaker c.admit.result
    (λ are t d.
    let core = c.args.self.now in
    let e = c.args.event.now in
    let plan = c.args.plan.now in
    let session = d.plan.rest.session in
    let plain : List Entry = Booked [] (due t e) ∷ t in
    let change : IsChange plan.ends.items e plan.own plan.change =
    subst (λ (cs : List ℕ). IsChange cs e plan.own plan.change) (sym d.plan.ends) d.plan.rest.change in
    let answer : plan.answer ≡ event_answer plan.full (kept_book core) t e = d.plan.rest.answer ∙ ap (λ (b : Bool). event_answer b (kept_book core) t e) (sym d.plan.rest.full) in
    let acts : plan.acts.items ≡ planned_acts plan.full (kept_book core) t e = d.plan.rest.acts ∙ ap (λ (b : Bool). planned_acts b (kept_book core) t e) (sym d.plan.rest.full) in
    let none : plan.acts.items ≡ [] → TablesFit c.hear.new.state (without_acts t e) = λ empty.
    c.in_ok-hear.ensures.fits plain (d.tables []) (session_after t e plan.own session [] (due t e)) change (sym d.before.are_due) (not_refused t e d.taken) (ap (giving_of e) empty) in
    let taken : TakenIn t e plan.answer = subst (λ (a : Answer). TakenIn t e a) (sym d.plan.rest.answer) (taken_in _ (kept_book core) t e) in
    let told = subst
    (λ (p : Plan). (p.acts.items ≡ [] → TablesFit c.hear.new.state (without_acts t e)) → p.ends.items ≡ due t e → IsHeard t e p.answer c.hear.new.heard → TakenIn t e p.answer
    → IsSuited core.store → c.admit.new.plan.acts.items ≡ with_admission p.full (kept_book core) p.acts.items (admits (kept_book core) (event_admission (kept_book core) t e p.answer)))
    c.hear.ensures.plan (are t) none d.plan.ends (c.in_ok-hear.ensures.heard t _ d.before session) taken d.journal.suits in
    prepared core t e plan.full plan.answer plan.acts.items _ d.journal d.plan.rest.full answer acts told)
    c.admit.ensures.acts

pub returns-clause-full : goal.returns-clause-full
returns-clause-full g c = on_ok_weaker c.admit.result
    (λ is t d.
    let core = c.args.self.now in
    let e = c.args.event.now in
    let plan = c.args.plan.now in
    let session = d.plan.rest.session in
    let plain : List Entry = Booked [] (due t e) ∷ t in
    let change : IsChange plan.ends.items e plan.own plan.change =
    subst (λ (cs : List ℕ). IsChange cs e plan.own plan.change) (sym d.plan.ends) d.plan.rest.change in
    let answer : plan.answer ≡ event_answer plan.full (kept_book core) t e = d.plan.rest.answer ∙ ap (λ (b : Bool). event_answer b (kept_book core) t e) (sym d.plan.rest.full) in
    let acts : plan.acts.items ≡ planned_acts plan.full (kept_book core) t e = d.plan.rest.acts ∙ ap (λ (b : Bool). planned_acts b (kept_book core) t e) (sym d.plan.rest.full) in
    let none : plan.acts.items ≡ [] → TablesFit c.hear.new.state (without_acts t e) = λ empty.
    c.in_ok-hear.ensures.fits plain (d.tables []) (session_after t e plan.own session [] (due t e)) change (sym d.before.are_due) (not_refused t e d.taken) (ap (giving_of e) empty) in
    let taken : TakenIn t e plan.answer = subst (λ (a : Answer). TakenIn t e a) (sym d.plan.rest.answer) (taken_in _ (kept_book core) t e) in
    let told = subst
    (λ (p : Plan). (p.acts.items ≡ [] → TablesFit c.hear.new.state (without_acts t e)) → p.ends.items ≡ due t e → IsHeard t e p.answer c.hear.new.heard → TakenIn t e p.answer
    → IsSuited core.store → c.admit.new.plan.full ≡ full_with p.full (kept_book core) p.acts.items (admits (kept_book core) (event_admission (kept_book core) t e p.answer)))
    c.hear.ensures.plan (is t) none d.plan.ends (c.in_ok-hear.ensures.heard t _ d.before session) taken d.journal.suits in
    found_full core t e plan.full plan.answer plan.acts.items _ d.journal d.plan.rest.full answer acts told)
    c.admit.ensures.full
