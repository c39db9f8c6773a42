use Rattle.std.proofs.Common.{◌≡◌, ◌∙◌, ◌∷◌, sym, subst, rules}
use Rattle.std.proofs.lemmas.Result.{on_ok_weaker}
use Rattle.std.specs.Prelude.{Option}
use Rattle.std.specs.Option.{option_copied}
use Rattle.amqp_model.specs.declared.state.DeliveryState.{DeliveryState}
use Rattle.router_trace.specs.Trace.{Bound}
use Rattle.router_trace.specs.declared.binding.Holding.TheVariants as holding
use Rattle.router_trace.specs.Deliveries.{joined_by}
use Rattle.router_trace.specs.Links.{link}
use Rattle.router_state.specs.Tables.{TablesFit}
use Rattle.reply_transfers.specs.Transfers.{origin_of}
use Rattle.reply_transfers.proofs.Given.{joined_here, joined_nowhere}
use Rattle.reply_transfers.proofs.transfers.join.Goals as goal

pub returns-in-None : goal.returns-in-None
returns-in-None c = λ t fit.
    joined_nowhere c.args.state.now t c.args.at.conn.0 c.args.at.own c.args.at.handle c.args.delivery c.args.row.now (link t c.args.at.conn.0 c.args.at.own c.args.at.handle)
    (sym c.in-None.is ∙ c.attachment.ensures t fit) fit

pub returns-in-Some : goal.returns-in-Some
returns-in-Some c =
    let same : option_copied c.as_ref.result ≡ c.args.row.now.outcome = search rules in
    on_ok_weaker c.join.result
    (λ is t fit. joined_here c.join.new.self t c.args.at.conn.0 c.args.at.own c.args.at.handle c.args.delivery c.args.row.now (link t c.args.at.conn.0 c.args.at.own c.args.at.handle) c.in-Some.link
    (sym c.in-Some.is ∙ c.attachment.ensures t fit)
    (subst (λ (v : Option DeliveryState). TablesFit c.join.new.self (Bound (joined_by t (holding.Resumed (origin_of c.in-Some.link c.args.delivery)) c.args.row.now.number v) ∷ t)) same (is t fit)))
    c.join.ensures
