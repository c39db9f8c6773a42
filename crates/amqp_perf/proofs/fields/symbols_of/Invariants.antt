use Rattle.std.proofs.Common.{◌≡◌}
use Rattle.amqp_model.specs.View.{items_view}
use Rattle.amqp_perf.specs.Fields.{are_symbols}
use Rattle.amqp_perf.proofs.Loops.{before}
use Rattle.amqp_perf.proofs.fields.symbols_of.Given as goal

-- the symbols so far, before those of the elements that are left, are those of all elements
abbrev pub invariant-loop-element : goal.invariant-loop-element
invariant-loop-element l =
    before l.symbols.items (are_symbols (items_view l.element-iterator.rest.items)) ≡ are_symbols (items_view l.fn.elements.items)
