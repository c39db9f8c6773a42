use Rattle.std.proofs.Common.{◌∙◌, sym, ap}
use Rattle.std.proofs.lemmas.Result.{on_ok_weaker}
use Rattle.std.specs.Option.{option_copied}
use Rattle.reply_transfers.proofs.Given.{ignored_given, joined_given, settled_given}
use Rattle.reply_transfers.proofs.transfers.pass_resumed.Goals as goal

pub returns-in_default : goal.returns-in_default
returns-in_default c = λ t fit. settled_given c.args.state.now c.args.book.now t c.args.at.conn.0 c.args.at.own c.args.at.handle c.args.claimed c.in_default.is fit

pub returns-in-None : goal.returns-in-None
returns-in-None c = on_ok_weaker c.ignore.result
    (λ is t fit. ignored_given c.ignore.new.state c.args.book.now t c.args.at.conn.0 c.args.at.own c.args.at.handle c.in-Some.delivery c.args.claimed c.in-Some.is
    (sym (c.row_under.ensures.now t fit) ∙ ap option_copied c.in-None.is) (is t fit))
    c.ignore.ensures

pub returns-in-Some-row_under : goal.returns-in-Some-row_under
returns-in-Some-row_under c = on_ok_weaker c.join.result
    (λ is t fit. joined_given c.join.new.state c.args.book.now t c.args.at.conn.0 c.args.at.own c.args.at.handle c.in-Some.delivery c.args.claimed c.in-Some-row_under.row.now c.in-Some.is
    (sym (c.row_under.ensures.now t fit) ∙ ap option_copied c.in-Some-row_under.is) (is t fit))
    c.join.ensures
