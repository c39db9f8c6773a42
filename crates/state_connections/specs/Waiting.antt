-- The items that wait in an outbox.
use Rattle.std.specs.Prelude.{List, [], Option, Some, None}
use Rattle.amqp_model.specs.declared.item.Item.{Item}
use Rattle.router_trace.specs.Connection.{Connection}

-- none where the connection is unknown
abbrev pub waiting_of : Option Connection → List Item
waiting_of None = []
waiting_of (Some v) = v.waiting
