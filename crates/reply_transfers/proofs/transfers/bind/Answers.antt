use Rattle.std.proofs.Common.{◌∙◌, sym, ap, subst, ℕ, Option, Some}
use Rattle.std.specs.Prelude.{option_map}
use Rattle.std.proofs.lemmas.Result.{on_ok_weaker}
use Rattle.router_trace.specs.Trace.{puts}
use Rattle.router_state.specs.Tables.{TablesFit}
use Rattle.router_state.specs.declared.place.LinkPlace.{LinkPlace}
use Rattle.reply_transfers.specs.Transfers.{let_down, origin_of}
use Rattle.reply_transfers.proofs.Given.{bound_given, let_down_given, settled_bound, unsettled_uncopied}
use Rattle.reply_transfers.proofs.transfers.bind.Goals as goal

pub returns : goal.returns
returns c = λ t known fit.
    unsettled_uncopied c.let_down.new.state t _ c.args.from.conn.0 c.args.from.channel c.args.from.handle c.args.format c.args.payload c.args.claimed c.in-Some.delivery c.in-Some.is
    (let_down_given c.pass.new.self c.let_down.new.state t c.args.from c.args.claimed c.args.row c.args.format c.args.payload _
    (sym (c.in_ok-chosen.ensures.chosen t known fit) ∙ c.if-chosen.false) (c.in_ok-chosen.ensures.bound t known fit)
    (λ u u_fit. subst (λ (q : Option ℕ). TablesFit c.let_down.new.state (puts c.args.from.conn.0 (let_down u c.args.from.conn.0 c.args.from.channel c.args.from.handle q) u)) (sym c.in-Some.is)
    (subst (λ (p : LinkPlace). TablesFit c.let_down.new.state (puts p.conn.0 (let_down u p.conn.0 p.own p.handle (Some c.in-Some.delivery)) u)) c.of.ensures (c.in_ok-let_down.ensures u u_fit))))

pub returns-then-chosen : goal.returns-then-chosen
returns-then-chosen c = λ t known fit.
    unsettled_uncopied c.pass.new.self t _ c.args.from.conn.0 c.args.from.channel c.args.from.handle c.args.format c.args.payload c.args.claimed c.in-Some.delivery c.in-Some.is
    (bound_given c.pass.new.self t c.args.from c.args.claimed c.args.row c.args.format c.args.payload _ (sym (ap (option_map (origin_of c.args.from)) c.in-Some.is))
    (sym (c.in_ok-chosen.ensures.chosen t known fit) ∙ c.if-chosen.true) (c.in_ok-chosen.ensures.bound t known fit))

pub returns-in_default : goal.returns-in_default
returns-in_default c = on_ok_weaker c.pass_settled.result
    (λ is t known fit. settled_bound c.pass_settled.new.state t c.args.from c.args.claimed c.args.row c.args.format c.args.payload c.in_default.is (is t known fit))
    c.pass_settled.ensures
