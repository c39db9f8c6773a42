use Rattle.std.proofs.Common.{true}
use Rattle.std.specs.Prelude.{◌==◌}
use Rattle.router_trace.specs.Trace.{did}
use Rattle.router_trace.specs.Deliveries.{named}
use Rattle.router_trace.specs.declared.event.Event.TheVariants as event
use Rattle.state_collections.specs.Ids.{at_id}
use Rattle.state_deliveries.proofs.Low.{low_named}
use Rattle.state_deliveries.proofs.Named.{lost_row, small_end}
use Rattle.state_deliveries.proofs.names.Names.down.Goals as goal

pub returns : goal.returns
returns c = λ t fit.
    let old = at_id c.args.self.now.ids in
    record {
      names = λ d o id. lost_row (did (event.Down c.args.conn)) t (c.args.conn.0 == d) _ (old d o id) (named t d o id) (c.forget.ensures d o id) (low_named t d o id) (fit.names d o id);
      small = λ d o id. small_end (c.args.conn.0 == d) true id _ (old d o id) (c.forget.ensures d o id) (fit.small d o id);
    }
