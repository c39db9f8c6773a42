use Rattle.std.proofs.Common.{◌≡◌, ◌++◌, List, [], ◌∷◌, ◌∙◌, ap, append_assoc}
use Rattle.amqp_frames.specs.Frames.{front, found}
use Rattle.amqp_model.specs.declared.item.Item.{Item as AnItem}
use Rattle.amqp_frames.proofs.Streams.{leads_more}
use Rattle.amqp_frames.proofs.cut.cut.Goals as goal

pub loop-item-preserved : goal.loop-item-preserved
loop-item-preserved c =
    let known = c.loop-item.invariant in
    let is : front c.loop-item.rest.now ≡ found c.in-Found.item c.in-Found.after.now = rw c.in-Found.is at c.in_ok-next_item.ensures.front in (
      known.0 ++ c.in-Found.item ∷ [],
      c.in_ok-push-in-Found.ensures.items ∙ ap (λ (l : List AnItem). l ++ c.in-Found.item ∷ []) known.1 ∙ append_assoc c.args.items.now.items known.0 (c.in-Found.item ∷ []),
      leads_more c.args.bytes.now known.0 c.loop-item.rest.now c.in-Found.item c.in-Found.after.now known.2 is,
    )
