-- On which channel an item is.
use Rattle.std.specs.Prelude.{ℕ}
use Rattle.amqp_model.specs.declared.item.Item.{Item}
use Rattle.amqp_model.specs.declared.item.Item.TheVariants as item

-- the channel of an item; 0 if it has none
abbrev pub channel_of : Item → ℕ
channel_of (item.Frame sasl channel body payload) = channel
channel_of _ = 0
