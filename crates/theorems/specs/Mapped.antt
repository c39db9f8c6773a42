-- What the router's map tells a peer whose durable link comes back (AMQP 1.0 part 2, sections 2.6.13 and 2.7.3): a producer the deliveries that it has yet to
-- settle, a consumer those that wait for it, each with its outcome, as the book has it. So a map, too, tells a producer accepted.
use Rattle.std.specs.Prelude.{◌≡◌, ℕ, true, false, List, [], ◌∷◌, ◌++◌, Option, Some, None, option_map}
use Rattle.amqp_model.specs.declared.perf.Attach.{Attach}
use Rattle.amqp_model.specs.declared.perf.Perf.{Perf}
use Rattle.amqp_model.specs.declared.perf.Perf.TheVariants as perf
use Rattle.amqp_model.specs.declared.perf.Role.{Role}
use Rattle.amqp_model.specs.declared.perf.Role.TheVariants.{Sender, Receiver}
use Rattle.amqp_model.specs.declared.state.DeliveryState.{DeliveryState}
use Rattle.amqp_model.specs.declared.state.DeliveryState.TheVariants as state
use Rattle.amqp_model.specs.declared.state.UnsettledDelivery.{UnsettledDelivery}
use Rattle.amqp_model.specs.declared.item.Item.{Item}
use Rattle.amqp_model.specs.declared.item.Item.TheVariants as item
use Rattle.book_model.specs.declared.act.Act.{Act}
use Rattle.book_model.specs.declared.row.Row.{Row as ARow}
use Rattle.book_model.specs.declared.terminus.LinkKey.{LinkKey}
use Rattle.book_model.specs.declared.terminus.Terminus.{Terminus}
use Rattle.book_model.specs.Book.{BookView, terminus_of, is_for}
use Rattle.router_trace.specs.Trace.{Trace}
use Rattle.router_trace.specs.Deliveries.{acts_found, outcome_among, tag_of}
use Rattle.router_trace.specs.declared.binding.DeliveryName.TheVariants.{Row}
use Rattle.router_trace.specs.Links.{key_at}
use Rattle.resume_core.specs.Resuming.{entries_of, brief_outcome}
use Rattle.reply_rows.specs.Acts.{book_found, book_in}
use Rattle.theorems.specs.Accepting.{WasAccepted}
use Rattle.theorems.specs.Came.{last_found, IsOutcomeThen}

-- The state that is told of a row: the outcome that the book has, without error and annotations. Null is told of a row that was undecided when the attach came:
-- it has no outcome, unless the acts of the attach gave it one.
abbrev pub IsToldOf : Option DeliveryState → Option DeliveryState → Option DeliveryState → Type 0
IsToldOf (Some told) given outcome = option_map brief_outcome outcome ≡ Some told
IsToldOf None given outcome = outcome ≡ given

-- An entry of the map for a producer's link with this key, by the book after the acts of the attach: it has the tag of an unforgotten row that the link's
-- terminus sent, and what is told of that row.
pub record IsOfRow (b : BookView) (acts : List Act) (key : LinkKey) (entry : UnsettledDelivery) : Type 0 where
  pub terminus : Terminus
  pub of_key : terminus_of key b.termini ≡ Some terminus
  pub row : ARow
  pub earlier : List ARow
  pub later : List ARow
  pub kept : b.rows ≡ earlier ++ row ∷ later
  pub its_producer : row.producer.0 ≡ terminus.number.0
  pub unforgotten : row.forgotten ≡ false
  pub same_tag : entry.tag.items ≡ row.tag.items
  pub state : IsToldOf entry.state (outcome_among acts row.number) row.outcome

abbrev pub IsEntry : Trace → ℕ → Attach → UnsettledDelivery → Type 0
IsEntry t c a entry = IsOfRow (book_in t) (acts_found (last_found t)) (key_at t c a) entry

-- An entry of the map for a consumer's link, by the book that the attach found: it has the tag that the router gives a row which waits for the link's terminus,
-- and the outcome that the row had, or that the acts of the attach give it.
pub record IsOfBoundRow (b : BookView) (acts : List Act) (key : LinkKey) (entry : UnsettledDelivery) : Type 0 where
  pub terminus : Terminus
  pub of_key : terminus_of key b.termini ≡ Some terminus
  pub row : ARow
  pub earlier : List ARow
  pub later : List ARow
  pub kept : b.rows ≡ earlier ++ row ∷ later
  pub waits : is_for terminus.number.0 row ≡ true
  pub its_tag : entry.tag.items ≡ tag_of (Row row.number)
  pub outcome : Option DeliveryState
  pub is_outcome : IsOutcomeThen row.outcome (outcome_among acts row.number) outcome
  pub state : entry.state ≡ option_map brief_outcome outcome

abbrev pub IsBoundEntry : Trace → ℕ → Attach → UnsettledDelivery → Type 0
IsBoundEntry t c a entry = IsOfBoundRow (book_found (last_found t)) (acts_found (last_found t)) (key_at t c a) entry

-- An entry for a producer with the state accepted is of a row that was accepted; of one for a consumer that isn't said.
abbrev pub IsTrueEntry : Trace → ℕ → Attach → UnsettledDelivery → Type 0
IsTrueEntry t c a entry = entry.state ≡ Some state.Accepted → (of : IsEntry t c a entry) → WasAccepted t of.row.number

abbrev pub AnyEntry : Attach → UnsettledDelivery → Type 0
AnyEntry a entry = Unit {0}

-- what holds of each of these entries
abbrev pub EachEntry : (UnsettledDelivery → Type 0) → List UnsettledDelivery → Type 0
EachEntry P [] = Unit {0}
EachEntry P (d ∷ ds) = P d × EachEntry P ds

-- What holds of each entry of the map in an attach of the router: P, if it answers a producer, as a receiver; Q, if it answers a consumer, as a sender.
abbrev pub EachTold : (Attach → UnsettledDelivery → Type 0) → (Attach → UnsettledDelivery → Type 0) → Role → Attach → Type 0
EachTold P Q Receiver a = EachEntry (P a) (entries_of a.unsettled)
EachTold P Q Sender a = EachEntry (Q a) (entries_of a.unsettled)

abbrev pub EachToldIn : (Attach → UnsettledDelivery → Type 0) → (Attach → UnsettledDelivery → Type 0) → Perf → Type 0
EachToldIn P Q (perf.Attach a) = EachTold P Q a.role a
EachToldIn P Q _ = Unit {0}

abbrev pub EachToldBy : (Attach → UnsettledDelivery → Type 0) → (Attach → UnsettledDelivery → Type 0) → Item → Type 0
EachToldBy P Q (item.Frame sasl own body payload) = EachToldIn P Q body
EachToldBy P Q _ = Unit {0}

-- A map tells what the book has.
abbrev pub MapIsOfBook : Trace → ℕ → Item → Type 0
MapIsOfBook t c i = EachToldBy (IsEntry t c) (IsBoundEntry t c) i

-- Where it tells a producer accepted, the row was accepted by its consumer, in this run or an earlier one.
abbrev pub MapIsTrue : Trace → ℕ → Item → Type 0
MapIsTrue t c i = EachToldBy (IsTrueEntry t c) AnyEntry i
