-- What a router decides when it starts on a journal: the rows that were bound to links which don't outlive their connection, so that no
-- consumer of them is left (AMQP 1.0 part 3, section 3.4.5).
use Rattle.std.specs.Prelude.{Bool, true, false, ◌&&◌, is_none, List, filter, map, None}
use Rattle.amqp_model.specs.declared.state.DeliveryState.{DeliveryState}
use Rattle.amqp_model.specs.declared.state.DeliveryState.TheVariants as state
use Rattle.book_model.specs.declared.act.Act.{Act}
use Rattle.book_model.specs.declared.act.Act.TheVariants.{Decide}
use Rattle.book_model.specs.declared.row.Row.{Row}
use Rattle.book_model.specs.Book.{BookView, is_undecided}

-- modified, with delivery-failed: a consumer had it, and is gone
abbrev pub failed : DeliveryState
failed = state.Modified (record { delivery_failed = true; undeliverable_here = false; message_annotations = None })

-- nothing is decided of a row, and its consumer's link was not durable
abbrev pub is_lost : Row → Bool
is_lost r = is_undecided r && is_none r.consumer

abbrev pub failure_of : Row → Act
failure_of r = Decide (record { row = r.number; outcome = failed })

-- the acts of the start: each lost row is decided, by number
abbrev pub start_acts : BookView → List Act
start_acts b = map failure_of (filter is_lost b.rows)
