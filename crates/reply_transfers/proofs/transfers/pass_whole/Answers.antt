use Rattle.router_state.specs.Tables.{TablesFit}
use Rattle.reply_transfers.specs.Transfers.{whole_copied}
use Rattle.reply_transfers.proofs.Given.{resumed_given, resumed_uncopied}
use Rattle.reply_transfers.proofs.transfers.pass_whole.Goals as goal

pub returns-then-delivery : goal.returns-then-delivery
returns-then-delivery c = λ t known fit.
    resumed_given (λ u. TablesFit c.pass_resumed.new.state (whole_copied t c.args.at.conn.0 c.args.at.own c.args.at.handle c.args.delivery.now c.args.payload u))
    c.args.book.now t c.args.at.conn.0 c.args.at.own c.args.at.handle c.args.delivery.now c.args.row c.args.payload _ c.if-delivery.true (c.claimed_id-claimed.ensures t fit)
    (resumed_uncopied c.pass_resumed.new.state t _ c.args.at.conn.0 c.args.at.own c.args.at.handle c.args.delivery.now c.args.payload c.if-delivery.true (c.in_ok-pass_resumed.ensures t fit))
