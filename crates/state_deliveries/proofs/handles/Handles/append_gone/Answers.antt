use Rattle.std.proofs.Common.{◌∙◌, ap, sym}
use Rattle.std.specs.Prelude.{is_some}
use Rattle.amqp_session.specs.Ranges.{has}
use Rattle.state_deliveries.specs.Placing.{is_gone_there}
use Rattle.state_deliveries.specs.Rowing.{in_rows}
use Rattle.state_deliveries.proofs.Handled.{found_link, found_session, found_connection}
use Rattle.state_deliveries.proofs.Rowed.{or_right}
use Rattle.state_deliveries.proofs.handles.Handles.append_gone.Goals as goal

pub returns-in_ok-append_link-in-Link-clause-found : goal.returns-in_ok-append_link-in-Link-clause-found
returns-in_ok-append_link-in-Link-clause-found c = λ known fit n gone.
    found_link c.args.self.now c.in-Link.conn c.in-Link.own c.in-Link.handle _ known fit c.in_ok-append_link-in-Link.ensures.found n (ap (λ g. is_gone_there g (known n)) (sym c.in-Link.is) ∙ gone)

pub returns-in_ok-append_session-in-Session-clause-found : goal.returns-in_ok-append_session-in-Session-clause-found
returns-in_ok-append_session-in-Session-clause-found c = λ known fit n gone.
    found_session c.args.self.now c.in-Session.conn c.in-Session.own _ known fit
    (λ m there. c.in_ok-append_session-in-Session.ensures m ∙ or_right (has m c.args.numbers.now.items) (is_some (in_rows c.args.self.now.rows c.in-Session.conn c.in-Session.own m)) there)
    n (ap (λ g. is_gone_there g (known n)) (sym c.in-Session.is) ∙ gone)

pub returns-in_ok-append_connection-in-Connection-clause-found : goal.returns-in_ok-append_connection-in-Connection-clause-found
returns-in_ok-append_connection-in-Connection-clause-found c = λ known fit n gone.
    found_connection c.args.self.now c.in-Connection.conn _ known fit c.in_ok-append_connection-in-Connection.ensures.found n (ap (λ g. is_gone_there g (known n)) (sym c.in-Connection.is) ∙ gone)
