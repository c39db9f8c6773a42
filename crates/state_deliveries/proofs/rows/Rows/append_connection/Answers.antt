use Rattle.std.proofs.Common.{rules, ◌≡◌, ◌∙◌, ap, sym, Some}
use Rattle.std.specs.Prelude.{is_some}
use Rattle.amqp_session.specs.Ranges.{has}
use Rattle.state_collections.specs.Places.{in_map}
use Rattle.state_collections.specs.NumberMap.{at_number}
use Rattle.state_deliveries.specs.Rowing.{in_row, is_in_any}
use Rattle.state_deliveries.proofs.Rowed.{in_any, or_left}
use Rattle.state_deliveries.proofs.rows.Rows.append_connection.Goals as goal

pub returns-clause-found : goal.returns-clause-found
returns-clause-found g c = λ o n there.
    let sessions = c.in-Some.sessions.now in
    let is : at_number c.args.self.now.rows c.args.conn ≡ Some sessions = search rules in
    c.in_ok-append_all.ensures n
    ∙ or_left (is_in_any n sessions) (has n c.args.numbers.now.items) (in_any sessions o n (ap (λ m. is_some (in_row (in_map m o) n)) (sym is) ∙ there))
