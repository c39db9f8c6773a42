use Rattle.std.proofs.Common.{◌≡◌, ◌∙◌, refl, sym, ap, rules, ℕ, Bool, true, Some, None}
use Rattle.std.specs.Prelude.{Option, option_map, unwrap_or}
use Rattle.router_trace.specs.Links.{Link, link}
use Rattle.router_state.specs.Tables.{TablesFit}
use Rattle.state_messages.specs.Messages.{standing_at}
use Rattle.reply_transfers.specs.Transfers.{claimed_id, fresh_copied, lasts_on, may_pass}
use Rattle.reply_transfers.proofs.Given.{fresh_copies, fresh_given, known_from, linkless_given, unlinked_uncopied}
use Rattle.reply_transfers.proofs.transfers.pass_fresh.Goals as goal

pub returns : goal.returns
returns c = λ t known fit.
    let claimed = c.claimed_id-claimed.ensures t fit in
    let passes : c.may_pass.result ≡ true = search rules in
    let may : may_pass (lasts_on (link t c.args.at.conn.0 c.args.at.own c.args.at.handle)) (claimed_id t c.args.at.conn.0 c.args.at.own c.args.at.handle c.args.delivery.now.id) c.args.row ≡ true =
    ap (λ (d : Bool). may_pass d (claimed_id t c.args.at.conn.0 c.args.at.own c.args.at.handle c.args.delivery.now.id) c.args.row) (sym (c.is_durable.ensures t fit))
    ∙ ap (λ (q : Option ℕ). may_pass c.is_durable.result q c.args.row) (sym claimed) ∙ sym c.may_pass.ensures ∙ passes in
    fresh_given (λ u. TablesFit c.bind.new.state (fresh_copied t c.args.at.conn.0 c.args.at.own c.args.at.handle (unwrap_or c.args.delivery.now.format 0) c.args.payload (claimed_id t c.args.at.conn.0 c.args.at.own c.args.at.handle c.args.delivery.now.id) u))
    t c.args.at.conn.0 c.args.at.own c.args.at.handle c.args.delivery.now c.args.row c.args.payload _ _ c.in-Some.from (link t c.args.at.conn.0 c.args.at.own c.args.at.handle)
    claimed may c.unwrap_or-format.ensures (sym c.in-Some.is ∙ c.attachment.ensures t fit) refl
    (fresh_copies c.bind.new.state t _ c.args.at.conn.0 c.args.at.own c.args.at.handle _ (unwrap_or c.args.delivery.now.format 0) c.args.payload _ (claimed_id t c.args.at.conn.0 c.args.at.own c.args.at.handle c.args.delivery.now.id) c.in-Some.from
    (link t c.args.at.conn.0 c.args.at.own c.args.at.handle) refl (sym c.in-Some.is ∙ c.attachment.ensures t fit) c.unwrap_or-format.ensures claimed
    (c.in_ok-bind.ensures t (known_from t c.args.at.conn.0 c.args.at.own c.args.at.handle c.in-Some.from c.args.known (link t c.args.at.conn.0 c.args.at.own c.args.at.handle) refl (sym c.in-Some.is ∙ c.attachment.ensures t fit) known) fit))

pub returns-in_default : goal.returns-in_default
returns-in_default c = λ t known fit.
    let gone : link t c.args.at.conn.0 c.args.at.own c.args.at.handle ≡ None = unlinked (link t c.args.at.conn.0 c.args.at.own c.args.at.handle) (sym c.in_default.is ∙ c.attachment.ensures t fit) in
    unlinked_uncopied c.let_down-in_default.new.state t _ c.args.at.conn.0 c.args.at.own c.args.at.handle (unwrap_or c.args.delivery.now.format 0) c.args.payload (claimed_id t c.args.at.conn.0 c.args.at.own c.args.at.handle c.args.delivery.now.id) gone
    (linkless_given (TablesFit c.let_down-in_default.new.state) t c.args.at.conn.0 c.args.at.own c.args.at.handle c.args.delivery.now c.args.row c.args.payload _ (c.claimed_id-claimed.ensures t fit)
    gone (c.in_ok-let_down-2.ensures t fit))
  where
    unlinked : (l : Option Link) → None ≡ option_map (standing_at c.args.at.conn.0 c.args.at.own c.args.at.handle) l → l ≡ None
    unlinked None e = refl
    unlinked (Some l) e = absurd cc
