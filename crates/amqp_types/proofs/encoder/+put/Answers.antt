use Rattle.amqp_types.specs.Pieces.{pieces_view}
use Rattle.amqp_types.proofs.Writing.{spellings_none, pair_spellings_none, pieces_none, put_items_more, put_pairs_more, put_pieces_more}
use Rattle.amqp_types.proofs.encoder.+put.Goals as goal

pub elements-loop-item-init : goal.elements-loop-item-init
elements-loop-item-init t c = pieces_none (pieces_view c.new-all.result) c.new-all.ensures

pub elements-loop-item-preserved : goal.elements-loop-item-preserved
elements-loop-item-preserved t c = put_pieces_more c.args.items.now c.loop-item.item-index c.item-item.result (pieces_view c.loop-item.all) (pieces_view c.put_piece.new.all) c.loop-item-test.true c.item-item.is c.loop-item.invariant c.in_ok-put_piece.ensures

pub put_items-loop-item-init : goal.put_items-loop-item-init
put_items-loop-item-init t c = spellings_none c.args.out.now.items

pub put_items-loop-item-preserved : goal.put_items-loop-item-preserved
put_items-loop-item-preserved t c = put_items_more c.args.items.now c.loop-item.item-index c.item-item.result c.args.out.now.items c.loop-item.out.items c.put_value.new.out.items c.loop-item-test.true c.item-item.is c.loop-item.invariant c.in_ok-put_value.ensures

pub put_pairs-loop-key-init : goal.put_pairs-loop-key-init
put_pairs-loop-key-init t c = pair_spellings_none c.args.out.now.items

pub put_pairs-loop-key-preserved : goal.put_pairs-loop-key-preserved
put_pairs-loop-key-preserved t c = put_pairs_more c.args.pairs.now c.loop-key.key-index c.loop-key-item.result c.args.out.now.items c.loop-key.out.items c.put_value.new.out.items c.put_value-in-loop-key.new.out.items c.loop-key-test.true c.loop-key-item.is c.loop-key.invariant c.in_ok-put_value.ensures c.in_ok-put_value-2.ensures
