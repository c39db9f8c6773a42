-- A producer is told of its own rows (AMQP 1.0 part 2, sections 2.6.12 and 2.7.6): the row whose outcome a disposition tells it came on the terminus of its link,
-- with the tag of the delivery that it is told of.
use Rattle.std.specs.Prelude.{◌≡◌, ℕ, false, Option, Some}
use Rattle.amqp_model.specs.declared.perf.Disposition.{Disposition}
use Rattle.amqp_model.specs.declared.perf.Perf.{Perf}
use Rattle.amqp_model.specs.declared.perf.Perf.TheVariants as perf
use Rattle.amqp_model.specs.declared.perf.Role.{Role}
use Rattle.amqp_model.specs.declared.perf.Role.TheVariants.{Sender, Receiver}
use Rattle.amqp_model.specs.declared.item.Item.{Item}
use Rattle.amqp_model.specs.declared.item.Item.TheVariants as item
use Rattle.book_model.specs.declared.row.Row.{Row as ARow}
use Rattle.book_model.specs.declared.row.RowNumber.{RowNumber}
use Rattle.book_model.specs.declared.terminus.LinkKey.{LinkKey}
use Rattle.book_model.specs.declared.terminus.Terminus.{Terminus}
use Rattle.book_model.specs.Book.{row_at, terminus_of}
use Rattle.router_trace.specs.declared.binding.DeliveryName.TheVariants.{Row}
use Rattle.router_trace.specs.Claims.{Claim, claims}
use Rattle.router_trace.specs.Links.{durable_key, link}
use Rattle.router_trace.specs.Trace.{Trace}
use Rattle.reply_rows.specs.Acts.{book_in}
use Rattle.theorems.specs.Told.{TellsOutcome}

-- The book has the row, unforgotten, from the terminus of the durable link with this handle; and the link claims this delivery-id, under the row's tag.
pub record IsOwnRow (t : Trace) (c own handle id : ℕ) (number : RowNumber) : Type 0 where
  pub row : ARow
  pub in_the_book : row_at number.0 (book_in t).rows ≡ Some row
  pub unforgotten : row.forgotten ≡ false
  pub key : LinkKey
  pub durable : durable_key (link t c own handle) ≡ Some key
  pub terminus : Terminus
  pub of_key : terminus_of key (book_in t).termini ≡ Some terminus
  pub its_producer : row.producer.0 ≡ terminus.number.0
  pub claim : Claim
  pub claimed : claims t c own id ≡ Some claim
  pub on_link : claim.handle ≡ handle
  pub same_tag : claim.tag ≡ Some row.tag.items

-- where a disposition of the router reports the outcome of a delivery with a row
abbrev pub role_tells_own : Role → Trace → ℕ → ℕ → Disposition → Type 0
role_tells_own Receiver t c own x =
    (report : TellsOutcome t c own x) (number : RowNumber) → report.of.name ≡ Row number → IsOwnRow t c own report.origin.link.handle x.first number
role_tells_own Sender t c own x = Unit {0}

abbrev pub perf_tells_own : Perf → Trace → ℕ → ℕ → Type 0
perf_tells_own (perf.Disposition x) t c own = role_tells_own x.role t c own x
perf_tells_own _ t c own = Unit {0}

abbrev pub TellsItsOwnRow : Trace → ℕ → Item → Type 0
TellsItsOwnRow t c (item.Frame sasl own body payload) = perf_tells_own body t c own
TellsItsOwnRow t c _ = Unit {0}
