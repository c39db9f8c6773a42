-- What a frame does to the book of durable deliveries, by its performative and by its answer: what its attach takes up
-- again, and what the map of that decides and forgets.
use Rattle.std.specs.Prelude.{◌≡◌, [], Option, None}
use Rattle.amqp_model.specs.declared.perf.Attach.{Attach as AnAttach}
use Rattle.book_model.specs.Book.{BookView}
use Rattle.book_model.specs.declared.terminus.LinkKey.{LinkKey}
use Rattle.reply_rows.specs.Asking.{if_receives, if_sends, forgotten_for, decided_for}
use Rattle.reply_rows.specs.Resuming.{map_for, rows_for, key_resumed, key_held, map_resumed, rows_resumed}
use Rattle.reply_rows.specs.declared.doings.Doings.{Doings}

-- The link with this key is attached again, if there is one.
pub record TakesUp (b : BookView) (a : Option AnAttach) (k : Option LinkKey) (does : Doings) : Type 0 where
  pub key : key_resumed does.resumption ≡ if_receives a k
  pub held : key_held does.resumption ≡ if_sends a k
  pub lacking : does.lacking.items ≡ forgotten_for b a k
  pub decided : does.decided.items ≡ decided_for b a (if_receives a k)
  pub map : map_resumed does.resumption ≡ map_for b a k
  pub rows : rows_resumed does.resumption ≡ rows_for b a (if_receives a k)

-- None is.
pub record TakesNothing (does : Doings) : Type 0 where
  pub lacking : does.lacking.items ≡ []
  pub decided : does.decided.items ≡ []
  pub resumption : does.resumption ≡ None
