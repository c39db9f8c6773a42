-- What a durable link takes up again when it is attached (AMQP 1.0 part 2, section 2.6.13): of the rows of its terminus, as the
-- book has them before the event's acts, the router's map, and what is sent of a consumer's, as the map of the attach says.
use Rattle.std.specs.Prelude.{◌≡◌, Bool, not, List, [], Option, Some, None}
use Rattle.amqp_model.specs.declared.perf.Attach.{Attach as AnAttach}
use Rattle.amqp_model.specs.declared.perf.Role.{Role}
use Rattle.amqp_model.specs.declared.perf.Role.TheVariants.{Sender, Receiver}
use Rattle.amqp_model.specs.declared.state.UnsettledDelivery.{UnsettledDelivery}
use Rattle.book_model.specs.Book.{BookView, terminus_of}
use Rattle.book_model.specs.declared.row.Row.{Row}
use Rattle.book_model.specs.declared.terminus.LinkKey.{LinkKey}
use Rattle.book_model.specs.declared.terminus.Terminus.{Terminus}
use Rattle.router_trace.specs.declared.event.Event.{Event}
use Rattle.router_trace.specs.Trace.{Trace}
use Rattle.resume_core.specs.Resuming.{entries_of, producer_map, consumer_map, sendings}
use Rattle.resume_core.specs.declared.consumer.Sending.{Sending}
use Rattle.reply_rows.specs.declared.answer.Answer.{Answer}
use Rattle.reply_rows.specs.Acts.{book_found}
pub use Rattle.reply_rows.specs.Asking.{asked_key, key_taken, key_by, key_in, taken_key, attach_within, attach_in, receives, if_receives, resumed_key, if_sends, held_key, rows_at, rows_with, decided_by, decided_for, map_decides, forgotten_of, all_rows, forgotten_with, forgotten_for, map_forgets}
use Rattle.reply_rows.specs.declared.attach.resuming.Resumption.{Resumption}
use Rattle.reply_rows.specs.declared.attach.resuming.Resumption.TheVariants.{Producer, Consumer}

-- What is sent of these rows after a consumer's attach: by its map, which is complete unless it says that it isn't.
abbrev pub sent_by : Option AnAttach → List Row → List Sending
sent_by None rows = []
sent_by (Some a) rows = sendings (not a.incomplete_unsettled) (entries_of a.unsettled) rows

-- the same of the link with a key, if there is one
abbrev pub rows_for : BookView → Option AnAttach → Option LinkKey → List Sending
rows_for b a None = []
rows_for b a (Some k) = sent_by a (rows_with b k)

-- The router's map in the answer to an attach: by the attach's map, of the rows of the link's terminus.
abbrev pub map_of : Role → Bool → List UnsettledDelivery → BookView → Option Terminus → List UnsettledDelivery
map_of Sender complete theirs b x = producer_map complete theirs (all_rows b x)
map_of Receiver complete theirs b x = consumer_map theirs (rows_at b x)

abbrev pub map_by : Option AnAttach → BookView → Option Terminus → List UnsettledDelivery
map_by None b x = []
map_by (Some a) b x = map_of a.role (not a.incomplete_unsettled) (entries_of a.unsettled) b x

abbrev pub map_for : BookView → Option AnAttach → Option LinkKey → List UnsettledDelivery
map_for b a None = []
map_for b a (Some k) = map_by a b (terminus_of k b.termini)

-- what is taken up: the key of a consumer's link, or that of a producer's, the router's map, and the rows that are sent
abbrev pub key_resumed : Option Resumption → Option LinkKey
key_resumed None = None
key_resumed (Some (Producer x)) = None
key_resumed (Some (Consumer x)) = Some x.key

abbrev pub key_held : Option Resumption → Option LinkKey
key_held None = None
key_held (Some (Producer x)) = Some x.key
key_held (Some (Consumer x)) = None

abbrev pub map_resumed : Option Resumption → List UnsettledDelivery
map_resumed None = []
map_resumed (Some (Producer x)) = x.map.items
map_resumed (Some (Consumer x)) = x.map.items

abbrev pub rows_resumed : Option Resumption → List Sending
rows_resumed None = []
rows_resumed (Some (Producer x)) = []
rows_resumed (Some (Consumer x)) = x.rows.items

-- What an event with this answer takes up again, by the book that it finds.
pub record Resumes (b : BookView) (t : Trace) (e : Event) (answer : Answer) (x : Option Resumption) : Type 0 where
  pub key : key_resumed x ≡ resumed_key t e answer
  pub held : key_held x ≡ held_key t e answer
  pub map : map_resumed x ≡ map_for b (attach_in e) (taken_key t e answer)
  pub rows : rows_resumed x ≡ rows_for b (attach_in e) (resumed_key t e answer)

-- the router's map in the answer to an event's attach
abbrev pub told_map : Trace → Event → Answer → List UnsettledDelivery
told_map t e answer = map_for (book_found t) (attach_in e) (taken_key t e answer)
