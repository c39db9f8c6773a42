-- What a durable link takes up again when it is attached, in the trace (AMQP 1.0 part 2, section 2.6.13): a consumer's rows are bound to it, with their
-- outcomes after the event's acts, and a producer's link has those of its terminus.
use Rattle.std.specs.Prelude.{List, [], ◌∷◌, Option, Some, None}
use Rattle.book_model.specs.declared.terminus.LinkKey.{LinkKey}
use Rattle.router_trace.specs.declared.event.Event.{Event}
use Rattle.router_trace.specs.declared.handle.Attachment.{Attachment}
use Rattle.router_trace.specs.Trace.{Trace, Bound}
use Rattle.state_messages.specs.Asking.{consumer_with}
use Rattle.state_messages.specs.Messages.{taken_up_by}
use Rattle.resume_core.specs.declared.consumer.Sending.{Sending}
use Rattle.reply_rows.specs.declared.answer.Answer.{Answer}
use Rattle.reply_rows.specs.Acts.{book_found, book_in, found_acts, answer_to_event}
use Rattle.reply_rows.specs.Asking.{attach_in, held_key, resumed_key}
use Rattle.reply_rows.specs.Resuming.{rows_for}
pub use Rattle.router_reply.specs.Holding.{with_held, freed}

-- The rows are bound, one after another, to the consumer's link with the key, if it is attached.
abbrev pub bound_to : Attachment → List Sending → Trace → Trace
bound_to at [] u = u
bound_to at (r ∷ rs) u = bound_to at rs (Bound (taken_up_by u r.row r.how r.format r.payload at) ∷ u)

abbrev pub bound_if : Option Attachment → List Sending → Trace → Trace
bound_if None rows u = u
bound_if (Some at) rows u = bound_to at rows u

abbrev pub with_rows : Option LinkKey → List Sending → Trace → Trace
with_rows None rows u = u
with_rows (Some k) rows u = bound_if (consumer_with u k) rows u

-- the rows that an event's attach takes up
abbrev pub rows_taken : Trace → Event → Answer → List Sending
rows_taken t e answer = rows_for (book_found t) (attach_in e) (resumed_key t e answer)

-- The trace u after the replies to an event that found t, with the rows that its attach takes up, or those that it gives a producer's link, and with those
-- settled that its acts forget.
abbrev pub attached_by : Trace → Event → Answer → Trace → Trace
attached_by t e answer u = with_held (book_in t) (held_key t e answer) (with_rows (resumed_key t e answer) (rows_taken t e answer) u)

abbrev pub resumed_by : Trace → Event → Answer → Trace → Trace
resumed_by t e answer u = freed (found_acts t) (attached_by t e answer u)

abbrev pub resumed : Trace → Event → Trace → Trace
resumed t e u = resumed_by t e (answer_to_event t e) u
