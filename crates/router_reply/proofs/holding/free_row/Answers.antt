use Rattle.std.proofs.Common.{◌∙◌, sym, subst}
use Rattle.std.proofs.lemmas.Result.{on_ok_weaker}
use Rattle.std.specs.Prelude.{Option}
use Rattle.router_trace.specs.declared.binding.Origin.{Origin}
use Rattle.router_state.specs.Tables.{TablesFit}
use Rattle.router_reply.specs.Holding.{freed_from}
use Rattle.router_reply.proofs.holding.free_row.Goals as goal

pub returns-in-None : goal.returns-in-None
returns-in-None c = λ t fit. subst (λ (p : Option Origin). TablesFit c.args.state.now (freed_from p c.args.row t)) (sym c.in-None.is ∙ c.owner_of.ensures t fit) fit

pub returns-in-Some : goal.returns-in-Some
returns-in-Some c = on_ok_weaker c.join.result
    (λ is t fit. subst (λ (p : Option Origin). TablesFit c.join.new.self (freed_from p c.args.row t)) (sym c.in-Some.is ∙ c.owner_of.ensures t fit) (is t fit))
    c.join.ensures
