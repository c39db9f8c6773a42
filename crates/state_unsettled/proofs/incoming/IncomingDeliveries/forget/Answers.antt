use Rattle.std.proofs.Common.{true, refl}
use Rattle.std.specs.Prelude.{◌==◌}
use Rattle.router_trace.specs.Settling.{is_of_link}
use Rattle.state_unsettled.specs.Standing.{count_at}
use Rattle.state_collections.specs.Ids.{at_id}
use Rattle.state_unsettled.proofs.Counted.{counted_end}
use Rattle.state_unsettled.proofs.Marked.{marked_end}
use Rattle.state_unsettled.proofs.incoming.IncomingDeliveries.forget.Goals as goal

pub returns-clause-marked : goal.returns-clause-marked
returns-clause-marked c = λ marked. record {
  unbound = λ d o h.
      counted_end (c.args.conn == d) true h (count_at c.args.self.now.by_link d o h) (count_at c.forget-2.new.self d o h) (at_id c.args.self.now.ids d o) (at_id c.forget.new.self d o)
      (marked.unbound d o h) (c.forget-2.ensures.counted d o h) (c.forget.ensures d o);
  by_link = λ d o h q.
      marked_end is_of_link (λ h. refl) (c.args.conn == d) true h (at_id c.args.self.now.ids d o q) _ _ _ (marked.by_link d o h q) (c.forget-2.ensures.marked d o h q) (c.forget.ensures d o q);
}
