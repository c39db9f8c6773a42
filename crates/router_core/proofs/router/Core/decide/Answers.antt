use Rattle.std.proofs.Common.{◌≡◌, ◌∙◌, ap, subst, sym, ℕ, List, ◌∷◌}
use Rattle.std.proofs.lemmas.Result.{on_ok_weaker}
use Rattle.router_trace.specs.Trace.{Booked}
use Rattle.router_trace.specs.Connection.{due, phase_found}
use Rattle.router_state.specs.Tables.{TablesAt}
use Rattle.router_state.proofs.Bound.{booked_fits}
use Rattle.router_core.specs.Handling.{state_of}
use Rattle.router_core.proofs.router.Core.decide.Goals as goal

pub returns-clause-decided : goal.returns-clause-decided
returns-clause-decided g c = on_ok_weaker c.decide.result
    (λ is t f taken.
    let core = c.args.self.now in
    let e = c.args.event.now in
    let at = c.in_ok-plan.ensures t f.tables in
    let phase : c.phase_found-plan.result ≡ phase_found t e = c.phase_found-plan.ensures t (c.deref.ensures.value ∙ at.are_due) taken.phase in
    let same = ap (λ ends. ends.items) c.decide.ensures.ends in
    record {
      taken = taken.taken;
      tables = λ acts.
          subst (λ (cs : List ℕ). TablesAt c.turn.new.self (Booked acts (due t e) ∷ t) e cs) (sym same)
          (c.in_ok-plan.ensures (Booked acts (due t e) ∷ t) (booked_fits (state_of core) acts (due t e) t f.tables));
      before = subst (λ (cs : List ℕ). TablesAt c.turn.new.self t e cs) (sym same) at;
      plan = is t at phase f.journal.suits;
      journal = record { book = f.journal.book; batches = f.journal.batches; suits = f.journal.suits };
    })
    c.decide.ensures.plan
