use Rattle.std.proofs.Common.{◌∙◌}
use Rattle.amqp_perf.proofs.Lists.{elements_more}
use Rattle.amqp_perf.proofs.text.elements_of.Goals as goal

pub loop-symbol-preserved : goal.loop-symbol-preserved
loop-symbol-preserved c = elements_more c.args.symbols.now c.loop-symbol.symbol-index c.symbol-item.result c.loop-symbol.elements.items c.push.new.self.items _ c.loop-symbol-test.true c.symbol-item.is c.loop-symbol.invariant (c.in_ok-from_str.ensures.ok ∙ c.as_str.ensures) c.in_ok-push.ensures.items
