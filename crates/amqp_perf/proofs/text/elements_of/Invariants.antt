use Rattle.std.proofs.Common.{◌≡◌, take}
use Rattle.amqp_model.specs.View.{items_view}
use Rattle.amqp_model.specs.Texts.{symbol_items}
use Rattle.amqp_perf.proofs.text.elements_of.Given as goal

abbrev pub invariant-loop-symbol : goal.invariant-loop-symbol
invariant-loop-symbol l = items_view l.elements.items ≡ symbol_items (take l.symbol-index l.symbols)
