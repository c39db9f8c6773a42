use Rattle.std.proofs.Common.{◌∙◌, sym, ap, subst}
use Rattle.router_trace.specs.Settling.{is_of_link}
use Rattle.state_unsettled.specs.Incoming.{IsSmall}
use Rattle.state_unsettled.proofs.Counted.{counted_none}
use Rattle.state_unsettled.proofs.incoming.IncomingDeliveries.new.Goals as goal

pub returns : goal.returns
returns c = λ g below. record {
  ids = c.new.ensures;
  small = λ p o id. subst (IsSmall id) (sym (c.new.ensures p o id)) tt;
  marked = record {
    unbound = λ p o h. counted_none c.new.result c.new-2.result p o h (c.new.ensures p o) (c.new-2.ensures.counted p o h);
    by_link = λ p o h id. c.new-2.ensures.marked p o h id ∙ sym (ap (is_of_link h) (c.new.ensures p o id));
  };
}
