use Rattle.std.proofs.Common.{◌≡◌, sym, subst, Bool, true, false, ◌∷◌}
use Rattle.std.proofs.lemmas.Result.{on_ok_weaker}
use Rattle.std.specs.Prelude.{not}
use Rattle.router_trace.specs.declared.event.Event.{Event}
use Rattle.router_trace.specs.Trace.{did}
use Rattle.router_trace.specs.Deliveries.{acts_found, ended_first, giving_of}
use Rattle.router_trace.specs.Refusing.{refuses}
use Rattle.router_state.specs.Tables.{TablesFit, TablesAt}
use Rattle.router_reply.specs.Heard.{IsHeard}
use Rattle.reply_rows.specs.Planning.{IsSession, IsChange}
use Rattle.router_reply.proofs.heard.hear.Goals as goal

not_false : (b : Bool) → not b ≡ false → b ≡ true
not_false true is = cc
not_false false is = absurd cc

pub returns-in-Up-clause-heard : goal.returns-in-Up-clause-heard
returns-in-Up-clause-heard c = on_ok_weaker c.up.result
    (λ is t ends. subst (λ (e : Event). TablesAt c.args.state.now t e ends → IsSession t e c.args.plan.now.own → IsHeard t e c.args.plan.now.answer c.args.heard.now) (sym c.in-Up.is) (λ at session. tt))
    c.up.ensures

pub returns-in-Up-clause-fits : goal.returns-in-Up-clause-fits
returns-in-Up-clause-fits c = on_ok_weaker c.up.result
    (λ is t. subst (λ (e : Event). TablesAt c.args.state.now t e c.args.plan.now.ends.items → IsSession t e c.args.plan.now.own → IsChange c.args.plan.now.ends.items e c.args.plan.now.own c.args.plan.now.change
    → ended_first t ≡ c.args.plan.now.ends.items → refuses t e ≡ false
    → giving_of e c.args.plan.now.acts.items ≡ giving_of e (acts_found t) → TablesFit c.up.new.self (did e ∷ t)) (sym c.in-Up.is)
    (λ at session change first free gives. is t c.args.plan.now.ends.items at (not_false _ free)))
    c.up.ensures

pub returns-in-Item-clause-heard : goal.returns-in-Item-clause-heard
returns-in-Item-clause-heard c = on_ok_weaker c.hear_item.result
    (λ is t ends. subst (λ (e : Event). TablesAt c.args.state.now t e ends → IsSession t e c.args.plan.now.own → IsHeard t e c.args.plan.now.answer c.hear_item.new.heard) (sym c.in-Item.is) (is t ends))
    c.hear_item.ensures.heard

pub returns-in-Item-clause-fits : goal.returns-in-Item-clause-fits
returns-in-Item-clause-fits c = on_ok_weaker c.hear_item.result
    (λ is t. subst (λ (e : Event). TablesAt c.args.state.now t e c.args.plan.now.ends.items → IsSession t e c.args.plan.now.own → IsChange c.args.plan.now.ends.items e c.args.plan.now.own c.args.plan.now.change
    → ended_first t ≡ c.args.plan.now.ends.items → refuses t e ≡ false
    → giving_of e c.args.plan.now.acts.items ≡ giving_of e (acts_found t) → TablesFit c.hear_item.new.state (did e ∷ t)) (sym c.in-Item.is) (λ at session change first free gives. is t at session change first gives))
    c.hear_item.ensures.fits

pub returns-in-Down-clause-heard : goal.returns-in-Down-clause-heard
returns-in-Down-clause-heard c = on_ok_weaker c.down.result
    (λ is t ends. subst (λ (e : Event). TablesAt c.args.state.now t e ends → IsSession t e c.args.plan.now.own → IsHeard t e c.args.plan.now.answer c.args.heard.now) (sym c.in-Down.is) (λ at session. tt))
    c.down.ensures

pub returns-in-Down-clause-fits : goal.returns-in-Down-clause-fits
returns-in-Down-clause-fits c = on_ok_weaker c.down.result
    (λ is t. subst (λ (e : Event). TablesAt c.args.state.now t e c.args.plan.now.ends.items → IsSession t e c.args.plan.now.own → IsChange c.args.plan.now.ends.items e c.args.plan.now.own c.args.plan.now.change
    → ended_first t ≡ c.args.plan.now.ends.items → refuses t e ≡ false
    → giving_of e c.args.plan.now.acts.items ≡ giving_of e (acts_found t) → TablesFit c.down.new.self (did e ∷ t)) (sym c.in-Down.is)
    (λ at session change first free gives. is t c.args.plan.now.ends.items at))
    c.down.ensures

pub returns-in-Tick-clause-heard : goal.returns-in-Tick-clause-heard
returns-in-Tick-clause-heard c = on_ok_weaker c.hear_tick.result
    (λ is t ends. subst (λ (e : Event). TablesAt c.args.state.now t e ends → IsSession t e c.args.plan.now.own → IsHeard t e c.args.plan.now.answer c.hear_tick.new.heard) (sym c.in-Tick.is) (λ at session. is t ends at))
    c.hear_tick.ensures.heard

pub returns-in-Tick-clause-fits : goal.returns-in-Tick-clause-fits
returns-in-Tick-clause-fits c = on_ok_weaker c.hear_tick.result
    (λ is t. subst (λ (e : Event). TablesAt c.args.state.now t e c.args.plan.now.ends.items → IsSession t e c.args.plan.now.own → IsChange c.args.plan.now.ends.items e c.args.plan.now.own c.args.plan.now.change
    → ended_first t ≡ c.args.plan.now.ends.items → refuses t e ≡ false
    → giving_of e c.args.plan.now.acts.items ≡ giving_of e (acts_found t) → TablesFit c.hear_tick.new.state (did e ∷ t)) (sym c.in-Tick.is) (λ at session change first free gives. is t c.args.plan.now.ends.items at))
    c.hear_tick.ensures.fits

pub returns-in-Start-clause-fits : goal.returns-in-Start-clause-fits
returns-in-Start-clause-fits c = λ t.
    subst (λ (e : Event). TablesAt c.args.state.now t e c.args.plan.now.ends.items → IsSession t e c.args.plan.now.own → IsChange c.args.plan.now.ends.items e c.args.plan.now.own c.args.plan.now.change
    → ended_first t ≡ c.args.plan.now.ends.items → refuses t e ≡ false
    → giving_of e c.args.plan.now.acts.items ≡ giving_of e (acts_found t) → TablesFit c.start.new.self (did e ∷ t)) (sym c.in-Start.is)
    (λ at session change first free gives. c.start.ensures t c.args.plan.now.ends.items at)
