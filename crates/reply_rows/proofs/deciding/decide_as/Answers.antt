use Rattle.std.proofs.Common.{◌≡◌, ◌∙◌, refl, sym, subst, List}
use Rattle.std.proofs.lemmas.Result.{on_ok_weaker}
use Rattle.journal_store.specs.Store.{book_of}
use Rattle.router_state.specs.Tables.{TablesAt, at_finds}
use Rattle.router_trace.specs.declared.event.Event.{Event}
use Rattle.router_trace.specs.Connection.{phase_found}
use Rattle.reply_rows.specs.Planning.{IsPlanAs}
use Rattle.reply_rows.proofs.Planned.{itemless_planned}
use Rattle.reply_rows.proofs.deciding.decide_as.Goals as goal

pub returns-in-Item-clause-plan : goal.returns-in-Item-clause-plan
returns-in-Item-clause-plan g c = on_ok_weaker c.decide_item.result
    (λ is t. subst (λ (e : Event). TablesAt c.args.state.now t e c.args.plan.now.ends.items → c.args.plan.now.phase ≡ phase_found t e
    → IsPlanAs c.args.full c.args.plan.now.ends.items (book_of c.args.store.now) t e c.decide_item.new.plan) (sym c.in-Item.is) (is t)) c.decide_item.ensures.plan

pub returns-clause-plan : goal.returns-clause-plan
returns-clause-plan g c = λ t at phase.
    itemless_planned c.args.full c.args.plan.now.ends.items (book_of c.args.store.now) t c.args.event.now _ c.in_default.not-Item refl phase refl
    (c.in_ok-plan.ensures.acts t c.args.full (at_finds at) (c.deref.ensures.value ∙ at.are_due) c.in_default.not-Item) refl refl
