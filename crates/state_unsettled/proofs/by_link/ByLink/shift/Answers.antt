use Rattle.std.proofs.Common.{Some}
use Rattle.std.specs.Prelude.{◌==◌}
use Rattle.router_trace.specs.Deliveries.{is_number}
use Rattle.state_unsettled.specs.Standing.{count_at, unbound_of}
use Rattle.state_unsettled.proofs.Counted.{counted_moved, left_and_came}
use Rattle.state_unsettled.proofs.by_link.ByLink.shift.Goals as goal

pub returns-clause-counted : goal.returns-clause-counted
returns-clause-counted c = λ known.
    counted_moved c.args.self.now c.come.new.self c.args.conn c.args.own c.args.id (unbound_of c.args.before) (unbound_of (Some c.args.after)) known
    (λ d o h.
    left_and_came (c.args.conn == d) (c.args.own == o) (is_number (unbound_of c.args.before) h) (is_number (unbound_of (Some c.args.after)) h) (count_at c.args.self.now d o h) (count_at c.leave.new.self d o h) (count_at c.come.new.self d o h)
    (c.leave.ensures.counted d o h) (c.in_ok-come.ensures.counted d o h))
