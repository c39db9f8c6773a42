-- Outcomes that a peer can send, and what the journal has of them (AMQP 1.0 part 2, sections 2.7.3 and 2.7.6; part 3, section 3.4): the very state that
-- the producer is told.
use Rattle.std.specs.Prelude.{◌≡◌, ◌⊎◌, ℕ, ◌^◌, ◌<◌, List, [], ◌∷◌, get_or, Option, Some, IsSomeAnd}
use Rattle.amqp_model.specs.declared.item.Item.{Item}
use Rattle.amqp_model.specs.declared.item.Item.TheVariants as item
use Rattle.amqp_model.specs.declared.perf.Disposition.{Disposition}
use Rattle.amqp_model.specs.declared.perf.Perf.{Perf}
use Rattle.amqp_model.specs.declared.perf.Perf.TheVariants as perf
use Rattle.amqp_model.specs.declared.perf.Role.{Role}
use Rattle.amqp_model.specs.declared.perf.Role.TheVariants.{Sender, Receiver}
use Rattle.amqp_model.specs.declared.state.DeliveryState.{DeliveryState}
use Rattle.amqp_model.specs.declared.state.UnsettledDelivery.{UnsettledDelivery}
use Rattle.amqp_perf.specs.ListTables.{SpellsPerf}
use Rattle.book_model.specs.Book.{BookView, row_at}
use Rattle.journal_codec.specs.Batches.{IsTerminal}
use Rattle.journal_store.specs.Acting.{journal_outcome}
use Rattle.router_trace.specs.declared.binding.DeliveryName.{DeliveryName}
use Rattle.router_trace.specs.declared.binding.DeliveryName.TheVariants.{Row, Counter}
use Rattle.router_trace.specs.declared.event.Event.{Event}
use Rattle.router_trace.specs.declared.event.Event.TheVariants as event
use Rattle.router_trace.specs.Trace.{Trace, Did, Out, Took, Bound, Booked, Routed, Began}
use Rattle.router_trace.specs.DeliveryFrames.{kept_outcome}
use Rattle.reply_rows.specs.Acts.{book_in}
use Rattle.theorems.specs.Each.{EachOut}
use Rattle.theorems.specs.Told.{TellsOutcome}

-- Bytes encode a performative, by its table.
pub record IsEncoded (body : Perf) : Type 0 where
  pub bytes : List ℕ
  pub are_bytes : (i : ℕ) → get_or bytes i 0 < 2 ^ 8
  pub spelled : SpellsPerf bytes body

-- an entry of an unsettled map has this state
abbrev pub HasEntry : List UnsettledDelivery → DeliveryState → Type 0
HasEntry [] s = ⊥
HasEntry (u ∷ us) s = (u.state ≡ Some s) ⊎ HasEntry us s

-- a performative gives deliveries this state: a disposition has it, or an entry of an attach's unsettled map
abbrev pub GivesState : Perf → DeliveryState → Type 0
GivesState (perf.Disposition x) s = x.state ≡ Some s
GivesState (perf.Attach x) s = IsSomeAnd x.unsettled (λ us. HasEntry us s)
GivesState _ s = ⊥

-- A peer can send it as an outcome: it is a terminal state, and an encoded performative gives it.
pub record IsSendable (s : DeliveryState) : Type 0 where
  pub body : Perf
  pub encoded : IsEncoded body
  pub gives : GivesState body s
  pub terminal : IsTerminal s

-- What the journal has of an outcome is the very state that the producer is told.
abbrev pub IsKeptAsTold : DeliveryState → Type 0
IsKeptAsTold s = journal_outcome (kept_outcome s) ≡ kept_outcome s

-- each frame that came was encoded
abbrev pub ItemIsEncoded : Item → Type 0
ItemIsEncoded (item.Frame sasl channel body payload) = IsEncoded body
ItemIsEncoded _ = Unit {0}

abbrev pub EventIsEncoded : Event → Type 0
EventIsEncoded (event.Item c i) = ItemIsEncoded i
EventIsEncoded _ = Unit {0}

abbrev pub FramesAreEncoded : Trace → Type 0
FramesAreEncoded [] = Unit {0}
FramesAreEncoded (Did s ∷ t) = EventIsEncoded s.event × FramesAreEncoded t
FramesAreEncoded (Out c i ∷ t) = FramesAreEncoded t
FramesAreEncoded (Took c n ∷ t) = FramesAreEncoded t
FramesAreEncoded (Bound b ∷ t) = FramesAreEncoded t
FramesAreEncoded (Booked acts full ∷ t) = FramesAreEncoded t
FramesAreEncoded (Routed passage ∷ t) = FramesAreEncoded t
FramesAreEncoded (Began g ∷ t) = FramesAreEncoded t

-- Where a disposition of the router reports the outcome of a delivery with a row, the book has that row, with the very state that is told.
abbrev pub RowHas : BookView → DeliveryName → Option DeliveryState → Type 0
RowHas b (Row r) told = IsSomeAnd (row_at r.0 b.rows) (λ row. row.outcome ≡ told)
RowHas b (Counter k) told = Unit {0}

abbrev pub role_is_in_row : Role → Trace → ℕ → ℕ → Disposition → Type 0
role_is_in_row Receiver t c own x = (report : TellsOutcome t c own x) → RowHas (book_in t) report.of.name x.state
role_is_in_row Sender t c own x = Unit {0}

abbrev pub perf_is_in_row : Perf → Trace → ℕ → ℕ → Type 0
perf_is_in_row (perf.Disposition x) t c own = role_is_in_row x.role t c own x
perf_is_in_row _ t c own = Unit {0}

abbrev pub OutcomeIsInRow : Trace → ℕ → Item → Type 0
OutcomeIsInRow t c (item.Frame sasl own body payload) = perf_is_in_row body t c own
OutcomeIsInRow t c _ = Unit {0}

-- so in a trace whose frames were encoded
abbrev pub RowsHaveWhatIsTold : Trace → Type 0
RowsHaveWhatIsTold u = FramesAreEncoded u → EachOut OutcomeIsInRow u
