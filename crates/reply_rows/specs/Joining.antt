-- The rows that a producer settles: by a resumed delivery that comes whole and settled, and by a disposition (AMQP 1.0 part 2, sections 2.6.12, 2.6.13
-- and 2.7.5).
use Rattle.std.specs.Prelude.{ℕ, ◌&&◌, ◌||◌, if◌then◌else◌, List, [], ◌∷◌, filter_map, Option, Some, None, option_map}
use Rattle.amqp_link.specs.declared.part.Delivery.{Delivery as Told}
use Rattle.amqp_model.specs.declared.perf.Transfer.{Transfer as ATransfer}
use Rattle.book_model.specs.declared.row.Row.{Row}
use Rattle.book_model.specs.declared.row.RowNumber.{RowNumber}
use Rattle.book_model.specs.Book.{BookView}
use Rattle.router_trace.specs.Trace.{Trace}
use Rattle.router_trace.specs.Deliveries.{tag_in}
use Rattle.router_trace.specs.Links.{link, link_place, durable_key}
use Rattle.router_trace.specs.Settling.{middle_on, ids_claimed}
use Rattle.reply_rows.specs.declared.answer.Answer.{Answer}
use Rattle.reply_rows.specs.declared.answer.Answer.TheVariants.{Taken}
use Rattle.reply_transfers.specs.Joining.{row_joined, row_under}

-- The tag of the delivery to which a transfer belongs, if that is resumed and settled: by its earlier frames, if there are some. The first frame
-- says the tag, and that it is resumed; any frame may settle it.
abbrev pub settled_again : ATransfer → Option Told → Option (List ℕ)
settled_again x None = if x.resume && x.settled then tag_in x else None
settled_again x (Some d) = if d.resume && (x.settled || d.settled) then option_map (λ tag. tag.items) d.tag else None

-- the same, if the transfer makes it whole
abbrev pub settled_whole : ATransfer → Option Told → Option (List ℕ)
settled_whole x earlier = if x.more || x.aborted then None else settled_again x earlier

-- What a transfer that is taken settles: the row that its delivery joins, alone, if it makes a settled one whole.
abbrev pub row_alone : Option Row → List RowNumber
row_alone None = []
row_alone (Some r) = r.number ∷ []

abbrev pub settled_on_link : BookView → Trace → ℕ → ℕ → ℕ → ATransfer → List RowNumber
settled_on_link b t c own handle x =
    row_alone (row_joined b (durable_key (link t c own handle)) (settled_whole x (middle_on (link_place t c own x.handle))))

abbrev pub settled_by_transfer : BookView → Trace → ℕ → ATransfer → Answer → List RowNumber
settled_by_transfer b t c x (Taken own handle) = settled_on_link b t c own handle x
settled_by_transfer b t c x _ = []

-- The rows of the deliveries with an id in a range, on a session, that its peer hasn't settled, in order of the ids.
abbrev pub number_under : BookView → Trace → ℕ → ℕ → ℕ → Option RowNumber
number_under b t c own id = option_map (λ r. r.number) (row_under b t c own id)

abbrev pub rows_claimed : BookView → Trace → ℕ → ℕ → ℕ → ℕ → List RowNumber
rows_claimed b t c own first last = filter_map (number_under b t c own) (ids_claimed t c own first last)
