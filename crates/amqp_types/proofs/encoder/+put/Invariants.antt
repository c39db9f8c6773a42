use Rattle.std.proofs.Common.{◌≡◌, ◌++◌, take}
use Rattle.amqp_model.specs.View.{items_view, pairs_view}
use Rattle.amqp_types.specs.Pieces.{pieces_view}
use Rattle.amqp_model.specs.ValueSpelling.{spellings, pair_spellings, pieces}
use Rattle.amqp_types.proofs.encoder.+put.Given as goal

abbrev pub invariant-elements-loop-item : goal.invariant-elements-loop-item
invariant-elements-loop-item l = pieces_view l.all ≡ pieces (items_view (take l.item-index l.items))

abbrev pub invariant-put_items-loop-item : goal.invariant-put_items-loop-item
invariant-put_items-loop-item l = l.out.items ≡ l.fn.out.items ++ spellings (items_view (take l.item-index l.items))

abbrev pub invariant-put_pairs-loop-key : goal.invariant-put_pairs-loop-key
invariant-put_pairs-loop-key l = l.out.items ≡ l.fn.out.items ++ pair_spellings (pairs_view (take l.key-index l.pairs))
