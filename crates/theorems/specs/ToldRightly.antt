-- What a producer is told of its durable deliveries is true (AMQP 1.0 part 2, sections 2.6.12, 2.6.13, 2.7.3 and
-- 2.7.6). By a disposition or by the map of an attach it is told the outcome with which the delivery's row was decided,
-- and accepted only if the row's own consumer accepted it; and of a delivery that has no row, that the message went to
-- nobody.
use Rattle.std.specs.Prelude.{◌≡◌, ◌⊎◌, ℕ, Option, Some, None, option_map}
use Rattle.amqp_model.specs.declared.perf.Attach.{Attach}
use Rattle.amqp_model.specs.declared.perf.Disposition.{Disposition}
use Rattle.amqp_model.specs.declared.perf.Perf.{Perf}
use Rattle.amqp_model.specs.declared.perf.Perf.TheVariants as perf
use Rattle.amqp_model.specs.declared.perf.Role.{Role}
use Rattle.amqp_model.specs.declared.perf.Role.TheVariants.{Sender, Receiver}
use Rattle.amqp_model.specs.declared.state.DeliveryState.{DeliveryState}
use Rattle.amqp_model.specs.declared.state.DeliveryState.TheVariants as state
use Rattle.amqp_model.specs.declared.state.UnsettledDelivery.{UnsettledDelivery}
use Rattle.amqp_model.specs.declared.item.Item.{Item}
use Rattle.amqp_model.specs.declared.item.Item.TheVariants as item
use Rattle.book_model.specs.declared.act.Act.TheVariants.{Decide}
use Rattle.book_model.specs.declared.row.Row.{Row as ARow}
use Rattle.book_model.specs.declared.terminus.LinkKey.{LinkKey}
use Rattle.router_trace.specs.Claims.{Claim, claims}
use Rattle.router_trace.specs.Deliveries.{acts_found, outcome_among}
use Rattle.router_trace.specs.Links.{durable_key, key_at, link}
use Rattle.router_trace.specs.Trace.{Trace}
use Rattle.resume_core.specs.Resuming.{entries_of, brief_outcome}
use Rattle.reply_rows.specs.Acts.{book_in}
use Rattle.reply_transfers.specs.Joining.{row_joined}
use Rattle.theorems.specs.Accepting.{WasAccepted}
use Rattle.theorems.specs.Came.{last_found}
use Rattle.theorems.specs.Kept.{IsDecidedAs}
use Rattle.theorems.specs.Mapped.{EachEntry}
use Rattle.theorems.specs.OwnConsumer.{WasDone}
use Rattle.theorems.specs.Told.{ReleasesMessage}

-- A row was decided, in this run or an earlier one: some act gave it the outcome that it has; if that is accepted, by
-- an event with which the row's own consumer accepted it.
pub record WasDecided (t : Trace) (row : ARow) : Type 0 where
  pub outcome : DeliveryState
  pub its_outcome : row.outcome ≡ Some outcome
  pub decided : WasDone t (Decide (record { row = row.number; outcome = outcome }))
  pub accepted : outcome ≡ state.Accepted → WasAccepted t row.number

-- By a disposition, which has the outcome as the journal keeps it, or as dispositions have it (`IsDecidedAs`). It says
-- accepted only of a row that was accepted.
pub record TellsOfRow (t : Trace) (row : ARow) (told : Option DeliveryState) : Type 0 where
  pub was : WasDecided t row
  pub as_decided : IsDecidedAs (Some row) told
  pub truly : told ≡ Some state.Accepted → WasAccepted t row.number

abbrev pub TellsOfIt : Trace → Option ARow → Option DeliveryState → Type 0
TellsOfIt t None told = ⊥
TellsOfIt t (Some row) told = TellsOfRow t row told

-- A disposition of the router as a receiver is for one id. If a durable link claims the id, it tells of the unforgotten
-- row that the link's terminus has under the delivery's tag. Or a message just came under the id and is let down:
-- released, or rejected on a multicast address. Nothing else is told where there is no such row.
abbrev pub role_tells_rightly : Role → Trace → ℕ → ℕ → Disposition → Type 0
role_tells_rightly Receiver t c own x =
    (x.last ≡ None) × ((claim : Claim) (key : LinkKey) → claims t c own x.first ≡ Some claim → durable_key (link t c own claim.handle) ≡ Some key
    → TellsOfIt t (row_joined (book_in t) (Some key) claim.tag) x.state ⊎ ReleasesMessage t c own x)
role_tells_rightly Sender t c own x = Unit {0}

-- By an entry of a map, which has the outcome without error and annotations. It is null if the row was undecided when
-- the attach came: then the row has no outcome, unless the acts of the attach gave it one.
abbrev pub EntryTells : Trace → ARow → Option DeliveryState → Option DeliveryState → Type 0
EntryTells t row given None = row.outcome ≡ given
EntryTells t row given (Some told) = WasDecided t row × (option_map brief_outcome row.outcome ≡ Some told) × (told ≡ state.Accepted → WasAccepted t row.number)

-- The entry is of the unforgotten row that the link's terminus has under its tag.
pub record EntryIsTold (t : Trace) (c : ℕ) (a : Attach) (entry : UnsettledDelivery) : Type 0 where
  pub row : ARow
  pub its_row : row_joined (book_in t) (Some (key_at t c a)) (Some entry.tag.items) ≡ Some row
  pub tells : EntryTells t row (outcome_among (acts_found (last_found t)) row.number) entry.state

abbrev pub map_tells_rightly : Role → Trace → ℕ → Attach → Type 0
map_tells_rightly Receiver t c a = EachEntry (EntryIsTold t c a) (entries_of a.unsettled)
map_tells_rightly Sender t c a = Unit {0}

abbrev pub perf_tells_rightly : Perf → Trace → ℕ → ℕ → Type 0
perf_tells_rightly (perf.Disposition x) t c own = role_tells_rightly x.role t c own x
perf_tells_rightly (perf.Attach a) t c own = map_tells_rightly a.role t c a
perf_tells_rightly _ t c own = Unit {0}

abbrev pub ToldRightly : Trace → ℕ → Item → Type 0
ToldRightly t c (item.Frame sasl own body payload) = perf_tells_rightly body t c own
ToldRightly t c _ = Unit {0}
