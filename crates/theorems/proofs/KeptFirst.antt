-- In every trace of the router in which no event is declined, the outcome of a delivery with a row stands in the book before it is told, and each row is decided
-- at most once.
use Rattle.std.proofs.Common.{◌≡◌, ◌∙◌, sym, ap, refl, subst, ◌⊎◌, inl, inr, ℕ, ◌+◌, ◌≤◌, ◌<◌, ◌^◌, ◌||◌, Bool, true, false, List, [], ◌∷◌, ◌++◌, arith}
use Rattle.std.specs.Prelude.{Option, Some, None, is_none, option_map, map, if◌then◌else◌, unwrap_or}
use Rattle.amqp_model.specs.declared.perf.Attach.{Attach as AnAttach}
use Rattle.amqp_model.specs.declared.perf.Perf.{Perf}
use Rattle.amqp_model.specs.declared.perf.Perf.TheVariants as perf
use Rattle.amqp_model.specs.declared.perf.Transfer.{Transfer as ATransfer}
use Rattle.amqp_model.specs.declared.state.DeliveryState.{DeliveryState}
use Rattle.amqp_model.specs.declared.item.Item.{Item}
use Rattle.amqp_model.specs.declared.item.Item.TheVariants as item
use Rattle.amqp_conn.specs.declared.conn.Conn.{Conn}
use Rattle.amqp_link.specs.declared.part.Part.{Part}
use Rattle.book_model.specs.declared.act.Act.{Act}
use Rattle.book_model.specs.Book.{BookView, empty_book, effects}
use Rattle.book_model.specs.Sound.{IsSound}
use Rattle.gate_journal.specs.Ordered.{IsOrdered}
use Rattle.gate_journal.proofs.Ordered.{empty_ordered}
use Rattle.book_laws.proofs.KeptSound.{acts_keep}
use Rattle.journal_store.proofs.Sound.{sound_is_ordered}
use Rattle.journal_store.specs.Acting.{journal_outcome}
use Rattle.resume_core.specs.Resuming.{entries_of, told_of, outcome_given, either_outcome}
use Rattle.router_trace.specs.Configuration.{beginning, opened}
use Rattle.router_trace.specs.declared.binding.Binding.{Binding}
use Rattle.router_trace.specs.declared.binding.Origin.{Origin}
use Rattle.router_trace.specs.declared.condition.Condition.TheVariants.{ResourceLimitExceeded}
use Rattle.router_trace.specs.declared.event.ConnectionId.{ConnectionId}
use Rattle.router_trace.specs.declared.event.Event.{Event}
use Rattle.router_trace.specs.declared.event.Event.TheVariants as event
use Rattle.router_trace.specs.Trace.{Beginning, Trace, Did, Out, Took, Booked, Put, Step, did, goes, puts, each_to, step_of, ups}
use Rattle.router_trace.specs.Connection.{conn, due, found, standing, live_of}
use Rattle.router_trace.specs.Clocks.{terms, written, needs_beat}
use Rattle.router_trace.specs.Refusing.{refuses}
use Rattle.router_trace.specs.DeliveryFrames.{kept_outcome}
use Rattle.router_trace.specs.Deliveries.{Delivery, origin_of, source, bindings, counters, delivery, outcome_as, outcome_or}
use Rattle.router_trace.specs.Links.{link, link_place, free_handle}
use Rattle.router_trace.specs.Peers.{largest_frame}
use Rattle.router_trace.specs.Sessions.{theirs}
use Rattle.router_trace.specs.Settling.{part_of}
use Rattle.state_deliveries.specs.declared.change.Change.{Change}
use Rattle.state_messages.specs.Messages.{with_bound}
use Rattle.reply_rows.specs.declared.answer.Answer.{Answer}
use Rattle.reply_rows.specs.declared.answer.Answer.TheVariants.{Attach, Refuse, Taken}
use Rattle.reply_rows.specs.Booking.{answer_at}
use Rattle.router_state.specs.Tables.{beat_if, beats_over}
use Rattle.reply_rows.specs.Acts.{live_answer, finds_full, journaled, book_in, acts_of, booked, answer_of}
use Rattle.reply_rows.specs.Deciding.{ended_by, lost}
use Rattle.router_reply.specs.Resuming.{resumed}
use Rattle.router_reply.specs.Replies.{closing_of, ends, heard, map_told, bound_for, item_put, item_bound, item_row, bound_by, copied_by, own_row, replied_after, replied}
use Rattle.router_core.specs.Moves.{Goes, IsTrace}
use Rattle.core_machine.specs.Moves.{Move, handles, takes}
use Rattle.router_core.specs.Replies.{handled}
use Rattle.core_machine.specs.Moves.{Taking, took_one}
use Rattle.core_machine.specs.Turns.{is_out_of_turn, is_started, declines}
use Rattle.core_runs.specs.declared.driving.Sent.{Sent}
use Rattle.core_runs.specs.Runs.{took_all, MayStep, MaySteps, Run}
use Rattle.router_core.proofs.Booking.{booked_keeps}
use Rattle.router_core.proofs.Books.{started_handled}
use Rattle.router_core.proofs.Copied.{CopyStep, all_copied, copied_alone, copied_keeps, copied_takes, made}
use Rattle.router_core.proofs.Following.{all_keep}
use Rattle.router_core.proofs.Resuming.{resumed_keeps}
use Rattle.theorems.specs.Carried.{HasSmallNumbers}
use Rattle.theorems.specs.Came.{BindsMessage, ComesFrom, TakesUp}
use Rattle.theorems.specs.Each.{EachOut}
use Rattle.theorems.specs.Lives.{GoesInTurn}
use Rattle.theorems.specs.OwnRow.{TellsItsOwnRow}
use Rattle.theorems.specs.Kept.{OutcomeIsKept, may_be_decided, times_in, times_decided, IsDecidedOnce, EachOutcomeIsKept, EachRowIsDecidedOnce}
use Rattle.theorems.proofs.Admitted.{answer_after}
use Rattle.theorems.proofs.AllSound.{acted_sound, handled_sound}
use Rattle.theorems.proofs.Answering.{IfAttach, attach_answered, attach_finds, taken_receives, MessageClaims, may_bind}
use Rattle.theorems.proofs.Attaching.{AttachAt, taken_kept, refused_kept}
use Rattle.theorems.proofs.Bindings.{of_messages, there_bound}
use Rattle.theorems.proofs.Brings.{Brings, Found, found_row, no_brings, start_brings, opened_brings, handled_brings, took_brings, cut_brings}
use Rattle.theorems.proofs.Booked.{acts_apply, ordered_acts, changes_of, booked_facts}
use Rattle.theorems.proofs.Hearing.{gives}
use Rattle.theorems.proofs.Owning.{began_owned, booked_owned}
use Rattle.theorems.proofs.Begun.{AreBegun}
use Rattle.theorems.proofs.Changing.{leaves_by}
use Rattle.theorems.proofs.Claimed.{HasClaim}
use Rattle.theorems.proofs.Ending.{takes_none, answer_rest, CameBegun, CameClaims, came_kept, due_there, ends_kept}
use Rattle.theorems.proofs.Firsts.{came_begun}
use Rattle.theorems.proofs.Ours.{came_claims}
use Rattle.theorems.proofs.Wholes.{lost_ending, tag_bytes, same_told, whole_claim}
use Rattle.theorems.proofs.Keeps.{Kept, Ahead, PlainPut, plain_both, plain_goes, took_kept, small_before, SmallKept, followed_kept}
use Rattle.theorems.proofs.Once.{Decides, decides_once}
use Rattle.theorems.proofs.Held.{can_have}
use Rattle.theorems.proofs.Resumed.{ends_book, resumed_takes, replied_book, replied_found}
use Rattle.theorems.proofs.Copying.{copy_sends}
use Rattle.theorems.proofs.Giving.{IsKept, given_kept}
use Rattle.theorems.proofs.Facts.{KeptAs}
use Rattle.theorems.proofs.KeptForm.{kept_form, kept_again}
use Rattle.theorems.proofs.Rows.{Rows, no_rows, start_rows, opened_rows, handled_rows, took_rows, cut_rows}
use Rattle.theorems.proofs.Rowing.{Holds, MayBind, bound_kept, copy_kept, Receives, plain_row, disposed_row, taken_row, taken_up_kept}
use Rattle.theorems.proofs.Sound.{Sound, none_sound, opened_sound, sound_start, did_sound, took_sound, batch_sound}
use Rattle.theorems.proofs.Standing.{Sends, began_standing, booked_standing}
use Rattle.theorems.proofs.Tests.{none_not_some}
use Rattle.theorems.proofs.Volatile.{IsVolatile, Volatile, VolatileOf, TellsVolatile}
use Rattle.reply_rows.proofs.Transfers.{IfTaken, transfer_taken}

clash : true ≡ false → ⊥
clash e = cc

-- an item without a transfer binds nothing

binds_none : (at u : Trace) (c : ℕ) (i : Item) → ((own : ℕ) → part_of i (link_place at c own) ≡ None) → (y : Answer) → bound_for at u c i y ≡ None
binds_none at u c i none (Taken own handle) = rw (none own) refl
binds_none at u c i none _ = refl

abbrev nothing : Option Part
nothing = None

no_part : (sasl : Bool) → (if sasl then nothing else nothing) ≡ nothing
no_part true = refl
no_part false = refl

-- the row of an item, by the answer to it

abbrev Rowed : List ℕ → Trace → Trace → ℕ → Conn → Item → Answer → Type 0
Rowed id at u c p i y = Kept (goes (item_put id at u c p i y) (with_bound (bound_for at u c i y) u)) []

attach_row : (id : List ℕ) (t at u : Trace) (c : ℕ) (p : Conn) (sasl : Bool) (channel : ℕ) (a : AnAttach) (payload : List ℕ) (y : Answer)
    → IfAttach sasl (free_handle t c) y → (sasl ≡ false → AttachAt t u c a) → Kept u (ended_by t c (item.Frame sasl channel (perf.Attach a) payload) y)
    → Rowed id at u c p (item.Frame sasl channel (perf.Attach a) payload) y
attach_row id t at u c p sasl channel a payload (Attach own) of finds was = taken_kept t u c own (map_told at c a (Attach own)) a (finds of) was
attach_row id t at u c p sasl channel a payload (Refuse own handle x) of finds was = refused_kept t u c own handle (largest_frame u c) x a (finds of.0) of.1 was
attach_row id t at u c p sasl channel a payload (Taken own handle) of finds was =
    subst (λ (b : Option Binding). Kept (with_bound b u) []) (sym (binds_none at u c (item.Frame sasl channel (perf.Attach a) payload) (λ o. no_part sasl) (Taken own handle))) was
attach_row id t at u c p sasl channel a payload y of finds was = plain_row id t at u c p (item.Frame sasl channel (perf.Attach a) payload) y tt refl refl was

frame_row : (id : List ℕ) (t at u : Trace) (c : ℕ) (p : Conn) (sasl : Bool) (channel : ℕ) (body : Perf) (payload : List ℕ) (y : Answer)
    → ((a : AnAttach) → body ≡ perf.Attach a → IfAttach sasl (free_handle t c) y × (sasl ≡ false → AttachAt t u c a))
    → ((own handle : ℕ) → y ≡ Taken own handle → (x : ATransfer) → body ≡ perf.Transfer x → Receives u c own handle)
    → MayBind u (bound_for at u c (item.Frame sasl channel body payload) y) → Kept u (ended_by t c (item.Frame sasl channel body payload) y) → Rowed id at u c p (item.Frame sasl channel body payload) y
frame_row id t at u c p sasl channel (perf.Attach a) payload y attaching taking may was =
    let is = attaching a refl in attach_row id t at u c p sasl channel a payload y is.0 is.1 was
frame_row id t at u c p sasl channel (perf.Transfer x) payload y attaching taking may was =
    taken_row id t at u c p sasl channel x payload y may (λ own handle is. taking own handle is x refl) was
frame_row id t at u c p sasl channel (perf.Disposition x) payload y attaching taking may was =
    disposed_row id t at u c p sasl channel x payload y (binds_none at u c (item.Frame sasl channel (perf.Disposition x) payload) (λ o. no_part sasl) y) was
frame_row id t at u c p sasl channel body payload y attaching taking may was =
    plain_row id t at u c p (item.Frame sasl channel body payload) y (takes_none t c (item.Frame sasl channel body payload) y refl) (binds_none at u c (item.Frame sasl channel body payload) (λ o. no_part sasl) y) refl was

-- an event's row

item_rows : (id : List ℕ) (t : Trace) (s : Step) (from : ConnectionId) (i : Item) → s.event ≡ event.Item from i → (p : Conn) → standing (found t (event.Item from i) from.0) ≡ Some p → (y : Answer)
    → answer_at (finds_full (journaled t) t (event.Item from i)) (book_in t) t from.0 p i ≡ y
    → MayBind (ends id (due t (event.Item from i)) (Did s ∷ booked t (event.Item from i))) (bound_for (booked t (event.Item from i)) (ends id (due t (event.Item from i)) (Did s ∷ booked t (event.Item from i))) from.0 i y)
    → Kept (ends id (due t (event.Item from i)) (Did s ∷ booked t (event.Item from i))) (ended_by t from.0 i y)
    → Rowed id (booked t (event.Item from i)) (ends id (due t (event.Item from i)) (Did s ∷ booked t (event.Item from i))) from.0 p i y
item_rows id t s from (item.Frame sasl channel body payload) is p here y answer may was =
    frame_row id t (booked t e) u from.0 p sasl channel body payload y attaching taking may was
  where
    e : Event
    e = event.Item from (item.Frame sasl channel body payload)

    u : Trace
    u = ends id (due t e) (Did s ∷ booked t e)

    full : Bool
    full = finds_full (journaled t) t e

    -- an attach
    attaching : (a : AnAttach) → body ≡ perf.Attach a → IfAttach sasl (free_handle t from.0) y × (sasl ≡ false → AttachAt t u from.0 a)
    attaching a same = (
      subst (λ (z : Answer). IfAttach sasl (free_handle t from.0) z) answer
          (subst (λ (b : Perf). IfAttach sasl (free_handle t from.0) (answer_at full (book_in t) t from.0 p (item.Frame sasl channel b payload))) (sym same)
          (attach_answered full (book_in t) t from.0 p sasl channel a payload)),
      λ plain. at_attach plain,
    )
      where
        at_attach : sasl ≡ false → AttachAt t u from.0 a
        at_attach plain =
            subst (λ (x : Event). AttachAt t (ends id (due t x) (Did s ∷ booked t x)) from.0 a)
            (ap (λ (b : Perf). event.Item from (item.Frame false channel b payload)) (sym same) ∙ ap (λ (q : Bool). event.Item from (item.Frame q channel body payload)) (sym plain))
            (attach_finds id t s from channel a payload p
            (is ∙ ap (λ (q : Bool). event.Item from (item.Frame q channel body payload)) plain ∙ ap (λ (b : Perf). event.Item from (item.Frame false channel b payload)) same)
            (subst (λ (x : Event). standing (found t x from.0) ≡ Some p)
            (ap (λ (q : Bool). event.Item from (item.Frame q channel body payload)) plain ∙ ap (λ (b : Perf). event.Item from (item.Frame false channel b payload)) same) here))

    -- a transfer that is taken
    taking : (own handle : ℕ) → y ≡ Taken own handle → (x : ATransfer) → body ≡ perf.Transfer x → Receives u from.0 own handle
    taking own handle taken x same =
        subst (λ (z : Event). Receives (ends id (due t z) (Did s ∷ booked t z)) from.0 own handle) (ap whole (sym same))
        (taken_receives id t s from sasl channel x payload p own handle (is ∙ ap whole same) (subst (λ (z : Event). standing (found t z from.0) ≡ Some p) (ap whole same) here)
        (subst (λ (z : Answer). IfTaken sasl (theirs t from.0 channel) (λ own. link_place t from.0 own x.handle) z) (turned ∙ taken) (transfer_taken full (book_in t) p t from.0 sasl channel x payload)))
      where
        whole : Perf → Event
        whole b = event.Item from (item.Frame sasl channel b payload)

        turned : answer_at full (book_in t) t from.0 p (item.Frame sasl channel (perf.Transfer x) payload) ≡ y
        turned = ap (λ (b : Perf). answer_at full (book_in t) t from.0 p (item.Frame sasl channel b payload)) (sym same) ∙ answer
item_rows id t s from i is p here y answer may was = plain_row id t (booked t (event.Item from i)) (ends id (due t (event.Item from i)) (Did s ∷ booked t (event.Item from i))) from.0 p i y (takes_none t from.0 i y refl) (binds_none (booked t (event.Item from i)) (ends id (due t (event.Item from i)) (Did s ∷ booked t (event.Item from i))) from.0 i (λ o. refl) y) refl was

beat_plain : (b : Bool) (c : ℕ) → PlainPut (beat_if b c)
beat_plain true c = (refl, tt)
beat_plain false c = tt

beats_plain : (t : Trace) (now : ℕ) (cs : List ℕ) → PlainPut (beats_over t now cs)
beats_plain t now [] = tt
beats_plain t now (c ∷ cs) =
    plain_both (beat_if (needs_beat (terms t c) (written t c) now) c) (beats_over t now cs) (beat_plain (needs_beat (terms t c) (written t c) now) c) (beats_plain t now cs)

event_rows : (id : List ℕ) (t : Trace) (s : Step) (e : Event) → s.event ≡ e → MayBind (ends id (due t e) (Did s ∷ booked t e)) (bound_by (booked t e) (ends id (due t e) (Did s ∷ booked t e)) e)
    → Kept (ends id (due t e) (Did s ∷ booked t e)) (answer_rest t e) → Kept (replied_after id (booked t e) (ends id (due t e) (Did s ∷ booked t e)) e) []
event_rows id t s (event.Item from i) is may was = copied_takes (λ (w : Trace). Kept w []) at u e put copied (by (standing (found t e from.0)) refl may was)
  where
    e : Event
    e = event.Item from i

    at : Trace
    at = booked t e

    u : Trace
    u = ends id (due t e) (Did s ∷ at)

    full : Bool
    full = finds_full (journaled t) t e

    put : Trace
    put = goes (own_row id at u e) (with_bound (bound_by at u e) u)

    -- a copy goes to a link on which the router sends
    copied : CopyStep at u e put (λ (w : Trace). Kept w [])
    copied x before a later copies now =
        copy_kept (made x before put) (unwrap_or x.message.format 0) x.payload a
        (all_copied (λ (w : Trace). Sends w a) (λ b w sends. record { at = sends.at; there = sends.there; number = sends.number; way = sends.way }) (unwrap_or x.message.format 0) x.payload before put
        (subst (λ (w : Trace). Sends w a) (sym (copied_alone id at u e x before a later copies)) (copy_sends u (link u x.conn.0 x.own x.handle) before a later copies)))
        now

    by : (v : Option Conn) → standing (found t e from.0) ≡ v → MayBind u (item_bound at u from.0 i v) → Kept u (ended_by t from.0 i (live_answer full (book_in t) t from.0 i v))
        → Kept (goes (item_row id at u from.0 i v) (with_bound (item_bound at u from.0 i v) u)) []
    by None here may was = was
    by (Some p) here may was =
        let same : answer_of at from.0 p i ≡ answer_at full (book_in t) t from.0 p i = answer_after (acts_of t e) (due t e) t full (book_in t) from.0 p i in
        item_rows id t s from i is p here (answer_of at from.0 p i) (sym same) may (subst (λ (y : Answer). Kept u (ended_by t from.0 i y)) (sym same) was)
event_rows id t s (event.Down c) is may was = was
event_rows id t s (event.Tick ms) is may was =
    plain_goes (beats_over (booked t (event.Tick ms)) ms (live_of (ups t) (found t (event.Tick ms)))) (ends id (due t (event.Tick ms)) (Did s ∷ booked t (event.Tick ms)))
    (beats_plain (booked t (event.Tick ms)) ms (live_of (ups t) (found t (event.Tick ms)))) was
event_rows id t s (event.Up c p) is may was = was
event_rows id t s event.Start is may was = was

-- an event's acts and changes leave deliveries without a row as they are
given_source : (acts : List Act) (e : Event) (d : Delivery) → source (gives e acts d) ≡ source d
given_source acts (event.Item c (item.Frame true channel body payload)) d = refl
given_source acts (event.Item c (item.Frame false channel (perf.Attach a) payload)) d = refl
given_source acts (event.Item c (item.Frame false channel body payload)) d = refl
given_source acts (event.Item c i) d = refl
given_source acts (event.Up c p) d = refl
given_source acts (event.Down c) d = refl
given_source acts (event.Tick ms) d = refl
given_source acts event.Start d = refl

booked_volatile : (t : Trace) (e : Event) → Volatile t [] → VolatileOf (booked t e) (gives e (acts_of t e)) (changes_of t e)
booked_volatile t e was n d k p there name from =
    let old : IsVolatile t p = was n d k p there name (sym (given_source (acts_of t e) e d) ∙ (leaves_by (changes_of t e) (gives e (acts_of t e) d)).comes p from) in
    record {
      volatile = old.volatile;
      tag = old.tag;
      claimed = record { claim = old.claimed.claim; there = old.claimed.there; on_link = old.claimed.on_link; tagged = old.claimed.tagged; apart = old.claimed.apart };
    }

booked_kept : (t : Trace) (e : Event) → (e ≡ event.Start → (n : ℕ) → delivery t n ≡ None) → Kept t [] → Ahead (booked t e) (gives e (acts_of t e)) (changes_of t e)
booked_kept t e none was = record {
  law = was.law;
  own = was.own;
  apart = was.apart;
  facts = booked_facts t e was.standing was.owned was.ordered none was.facts;
  volatile = booked_volatile t e was.volatile;
  standing = booked_standing t (acts_of t e) was.standing;
  named = was.named;
  ordered = ordered_acts t e was.ordered;
  owned = booked_owned (acts_of t e) (due t e) t [] was.owned;
}

-- the book that is found after an event's acts is sound
heard_book : (id : List ℕ) (t : Trace) (s : Step) → IsOrdered (book_in t) → IsSound (book_in t) → IsSound (book_in (heard id (booked t s.event) s))
heard_book id t s ordered sound =
    subst IsSound (sym (ap (λ j. j.book) (ends_book id (due t s.event) (Did s ∷ booked t s.event)))) (acts_keep (book_in t) (acts_of t s.event) (acts_apply t s.event ordered) sound)

-- what an event binds comes whole, and its link goes on
rest_none : (t u : Trace) (e : Event) (b : Binding) → bound_by (booked t e) u e ≡ Some b → answer_rest t e ≡ []
rest_none t u (event.Item from i) b is = by (standing (found t e from.0)) refl is
  where
    e : Event
    e = event.Item from i

    full : Bool
    full = finds_full (journaled t) t e

    taken : (y : Answer) → bound_for (booked t e) u from.0 i y ≡ Some b → ended_by t from.0 i y ≡ []
    taken (Taken own handle) is = refl
    taken _ is = absurd (none_not_some is)

    by : (v : Option Conn) → standing (found t e from.0) ≡ v → item_bound (booked t e) u from.0 i v ≡ Some b → ended_by t from.0 i (live_answer full (book_in t) t from.0 i v) ≡ []
    by None here is = absurd (none_not_some is)
    by (Some p) here is =
        ap (ended_by t from.0 i) (sym (answer_after (acts_of t e) (due t e) t full (book_in t) from.0 p i)) ∙ taken (answer_of (booked t e) from.0 p i) is
rest_none t u (event.Down c) b is = absurd (none_not_some is)
rest_none t u (event.Tick ms) b is = absurd (none_not_some is)
rest_none t u (event.Up c p) b is = absurd (none_not_some is)
rest_none t u event.Start b is = absurd (none_not_some is)

-- a message that is bound has its claim
its_claim : (id : List ℕ) (t : Trace) (s : Step) → CameBegun s t → Kept t [] → (b : Binding) → bound_by (booked t s.event) (heard id (booked t s.event) s) s.event ≡ Some b
    → (binds : BindsMessage (heard id (booked t s.event) s) b) (p : Origin) → origin_of b.kind ≡ Some p → HasClaim (heard id (booked t s.event) s) p (tag_bytes binds.message)
its_claim id t s begun was b is binds p from =
    whole_claim id s (booked t e) (due t e) (subst (λ (zs : List Change). AreBegun s (booked t e) (map lost (due t e) ++ zs)) (rest_none t u e b is) begun)
    (booked_owned (acts_of t e) (due t e) t [] was.owned) (due_there s (booked t e)) binds.conn binds.own binds.handle binds.producer binds.message b.payload binds.came p
    (subst (λ (o : Option Origin). ComesFrom o u binds.conn binds.own binds.handle binds.producer binds.message) from binds.from)
  where
    e : Event
    e = s.event

    u : Trace
    u = heard id (booked t e) s

message_claims : (id : List ℕ) (t : Trace) (s : Step) → CameBegun s t → Kept t [] → MessageClaims id t s
message_claims id t s begun was b is r adm binds p from =
    subst (λ (q : List ℕ). HasClaim u p q)
    (sym (ap tag_bytes (same_told u adm.conn adm.own adm.handle binds.conn binds.own binds.handle adm.message binds.message b.payload b.payload adm.came binds.came)) ∙ admitted_tag)
    (its_claim id t s begun was b is binds p from)
  where
    e : Event
    e = s.event

    u : Trace
    u = heard id (booked t e) s

    admitted_tag : tag_bytes adm.message ≡ adm.admission.tag.items
    admitted_tag = λ j. (sym adm.tag j).items

-- an event leaves the claims of producers that aren't done
event_claims : (t : Trace) (s : Step) → CameBegun s t → CameClaims s t
event_claims t s begun =
    came_claims s (booked t s.event) (map lost (due t s.event) ++ answer_rest t s.event) begun (λ a closed. lost_ending (due t s.event) (answer_rest t s.event) a closed)

replied_kept : (id : List ℕ) (t : Trace) (s : Step) → Sound t → IsSound (book_in t) → CameBegun s t → (s.event ≡ event.Start → (n : ℕ) → delivery t n ≡ None) → Kept t [] → Kept (replied id (booked t s.event) s) []
replied_kept id t s sound book begun none was =
    let e : Event = s.event in
    let u : Trace = heard id (booked t e) s in
    let behind : Kept u (answer_rest t e) = ends_kept id s (booked t e) (answer_rest t e) (came_kept s t (event_claims t s begun) begun (booked_kept t e none was)) in
    event_rows id t s e refl (may_bind id t s (batch_sound t (acts_of t e) sound) (message_claims id t s begun was) (λ b is binds p from. (tag_bytes binds.message, its_claim id t s begun was b is binds p from)) behind.ordered (heard_book id t s was.ordered book)) behind

-- numbers that are small now were small before

bound_small : (b : Option Binding) (u : Trace) → HasSmallNumbers (with_bound b u) → HasSmallNumbers u
bound_small None u small = small
bound_small (Some b) u small = (lower (is_none b.row) small.0, small.1.1)
  where
    lower : (q : Bool) → (if q then counters u + 1 else counters u) < 2 ^ 64 → counters u < 2 ^ 64
    lower true h = omega (arith, h)
    lower false h = h

ends_small : (id : List ℕ) (cs : List ℕ) (w : Trace) → HasSmallNumbers (ends id cs w) → HasSmallNumbers w
ends_small id [] w small = small
ends_small id (c ∷ cs) w small =
    let items : List Item = closing_of id (conn w c) ResourceLimitExceeded in
    small_before (each_to c items) w (ends_small id cs (puts c items w) small)

copied_small : (at u : Trace) (e : Event) (w : Trace) → HasSmallNumbers (copied_by at u e w) → HasSmallNumbers w
copied_small at u e w = copied_keeps (λ (v : Trace). HasSmallNumbers v → HasSmallNumbers w) (λ b v before small. before (bound_small (Some b) v small)) at u e w (λ small. small)

replied_small : (id : List ℕ) (t : Trace) (s : Step) → HasSmallNumbers (replied id (booked t s.event) s) → HasSmallNumbers t
replied_small id t s small =
    let at : Trace = booked t s.event in
    let u : Trace = heard id at s in
    let b : Option Binding = bound_by at u s.event in
    ends_small id (due t s.event) (Did s ∷ at) (bound_small b u (small_before (own_row id at u s.event) (with_bound b u) (copied_small at u s.event (goes (own_row id at u s.event) (with_bound b u)) small)))

-- the book has of a row that is taken up what its binding brings
brought_holds : (o how now : Option DeliveryState) (theirs : Option DeliveryState → Option DeliveryState) → ((s : DeliveryState) → theirs None ≡ Some s → IsKept s)
    → how ≡ either_outcome o (theirs o) → now ≡ outcome_or o (option_map journal_outcome (theirs o)) → KeptAs now how
brought_holds (Some s) how now theirs kept gets acts = inr (acts ∙ sym gets)
brought_holds None how now theirs kept gets acts = inl (acts ∙ by (theirs None) refl ∙ ap (option_map kept_form) (sym gets))
  where
    by : (v : Option DeliveryState) → theirs None ≡ v → option_map journal_outcome v ≡ option_map kept_form v
    by None is = refl
    by (Some s) is =
        let of = kept s is in
        ap (λ (x : DeliveryState). Some (journal_outcome x)) (of.is ∙ sym (kept_again of.of) ∙ ap kept_outcome (sym of.is))

taken_holds : (id : List ℕ) (t : Trace) (s : Step) (u : Trace) (b : Binding) (up : TakesUp u b) → Found t s.event u b up → Holds u b up
taken_holds id t s u b up is = record {
  known = is.row.known;
  outcome = λ now found.
      brought_holds up.row.outcome (outcome_as up.brought.how) now.outcome (outcome_given (told_of (entries_of is.attach.unsettled) up.row))
      (λ s gives. given_kept (told_of (entries_of is.attach.unsettled) up.row) None s gives) is.gets (is.row.outcome now found ∙ ap (outcome_or up.row.outcome) is.acts);
}

resumed_kept : (id : List ℕ) (t : Trace) (s : Step) → Sound t → Brings t → CameBegun s t → (s.event ≡ event.Start → (n : ℕ) → delivery t n ≡ None) → Kept t []
    → Kept (resumed (booked t s.event) s.event (replied id (booked t s.event) s)) []
resumed_kept id t s sound brings begun none was =
    resumed_takes (λ (u : Trace). Kept u []) (booked t s.event) s.event (replied id (booked t s.event) s)
    (λ u b takes known held. taken_up_kept u b takes (taken_holds id t s u b takes (found_row id t s u b takes was.ordered brings.lasting known)) held)
    (λ u b q to is quiet binds book before. bound_kept b u (can_have u b q quiet binds before.ordered (subst IsSound (sym book)
    (acts_keep (book_in t) (acts_of t s.event) (acts_apply t s.event (sound_is_ordered (book_in t) brings.book)) brings.book))) before)
    (replied_found id (booked t s.event) s) (replied_book id (booked t s.event) s) (replied_kept id t s sound brings.book begun none was)

resumed_small : (id : List ℕ) (t : Trace) (s : Step) → HasSmallNumbers (resumed (booked t s.event) s.event (replied id (booked t s.event) s)) → HasSmallNumbers t
resumed_small id t s =
    resumed_keeps (λ (u : Trace). HasSmallNumbers u → HasSmallNumbers t) (λ b u before small. before (bound_small (Some b) u small)) (booked t s.event) s.event (replied id (booked t s.event) s) (replied_small id t s)

handled_kept : (id : List ℕ) (t : Trace) (s : Step) → Sound t → Brings t → (Kept t [] → CameBegun s t) → (s.event ≡ event.Start → (n : ℕ) → delivery t n ≡ None) → SmallKept t → SmallKept (handled id t s)
handled_kept id t s sound brings begun none was =
    followed_kept (resumed (booked t s.event) s.event (replied id (booked t s.event) s)) (λ small. let before = was (resumed_small id t s small) in resumed_kept id t s sound brings (begun before) none before)

-- moves

-- an event that isn't declined isn't refused
not_refused : (p q : Bool) → (p || q) ≡ false → q ≡ false
not_refused true q e = absurd (clash e)
not_refused false q e = e

-- before the start no message is bound
abbrev Unstarted : Trace → Type 0
Unstarted t = is_started t ≡ false → bindings t ≡ 0

nothing_bound : (t : Trace) → bindings t ≡ 0 → (n : ℕ) → delivery t n ≡ None
nothing_bound t none n = by (delivery t n) refl
  where
    low : (n k j : ℕ) → n ≤ k → k ≡ 0 → j + 1 ≡ n → ⊥
    low n k j h e f = omega (arith, h, e, f)

    by : (v : Option Delivery) → delivery t n ≡ v → v ≡ None
    by None is = refl
    by (Some d) is = absurd (low n (bindings t) (bindings (of_messages t n d is).before) (there_bound t n d is) none (of_messages t n d is).number)

unstarted : (t : Trace) → declines t event.Start ≡ false → is_started t ≡ false
unstarted t taken = by (is_started t) taken
  where
    by : (b : Bool) → (b || false) ≡ false → b ≡ false
    by true h = absurd (clash h)
    by false h = refl

record All (t : Trace) : Type 0 where
  rows : Rows t
  sound : Sound t
  brings : Brings t
  kept : SmallKept t
  before : Unstarted t

start_all : (g : Beginning) → IsSound g.book → All (beginning g)
start_all g sound = record {
  rows = start_rows g;
  sound = sound_start g;
  brings = start_brings g sound;
  kept = λ small. record {
    law = tt;
    own = tt;
    apart = tt;
    facts = λ n d r there name. absurd (none_not_some there);
    volatile = λ n d k p there name from. absurd (none_not_some there);
    standing = began_standing g [];
    named = λ n id d there undecided has. absurd (none_not_some there);
    ordered = sound_is_ordered g.book sound;
    owned = began_owned g [];
  };
  before = λ not. refl;
}

moves_all : (id : List ℕ) (ms : List Move) (t u : Trace) → All t → GoesInTurn id ms t u → All u
moves_all id [] t u all went = subst All (sym went) all
moves_all id (handles s ∷ ms) t u all went =
    moves_all id ms (handled id t s) u
    (record {
      rows = handled_rows id t s all.rows;
      sound = handled_sound id t s all.rows all.sound;
      brings = handled_brings id t s (acted_sound t s.event all.sound) all.brings;
      kept = handled_kept id t s all.sound all.brings (λ was. came_begun t s (not_refused (is_out_of_turn t s.event) (refuses t s.event) went.0) was.owned) (λ is n. nothing_bound t (all.before (unstarted t (subst (λ (e : Event). declines t e ≡ false) is went.0))) n) all.kept;
      before = λ not. absurd (clash (sym (started_handled id t s.event went.0) ∙ not));
    })
    went.1
moves_all id (takes x ∷ ms) t u all went =
    moves_all id ms (took_one x t) u (record { rows = took_rows _ _ t all.rows; sound = took_sound _ _ t all.sound; brings = took_brings _ _ t all.brings; kept = λ small. took_kept _ _ t (all.kept small); before = all.before }) went

-- Over runs: what the outcomes told before a stop leave.
pub record Past (t : Trace) : Type 0 where
  pub rows : Rows t
  pub sound : Sound t
  pub law : EachOut OutcomeIsKept t
  pub own : EachOut TellsItsOwnRow t
  pub apart : EachOut TellsVolatile t
  pub brings : Brings t

pub no_past : Past []
no_past = record { rows = no_rows; sound = none_sound; law = tt; own = tt; apart = tt; brings = no_brings }

opened_all : (g : Beginning) (below : Trace) → g.book ≡ book_in below → Past below → All (opened g below)
opened_all g below book was = record {
  rows = opened_rows g below book was.rows;
  sound = opened_sound g below was.sound;
  brings = opened_brings g below book was.brings;
  kept = λ small. record {
    law = was.law;
    own = was.own;
    apart = was.apart;
    facts = λ n d r there name. absurd (none_not_some there);
    volatile = λ n d k p there name from. absurd (none_not_some there);
    standing = began_standing g below;
    named = λ n id d there undecided has. absurd (none_not_some there);
    ordered = subst IsOrdered (sym book) (sound_is_ordered (book_in below) was.brings.book);
    owned = began_owned g below;
  };
  before = λ not. refl;
}

-- the moves of a run, in which few messages are bound, and then an event that a stop cut off
pub moves_past : (id : List ℕ) (ms : List Move) (g : Beginning) (below u : Trace) → g.book ≡ book_in below → Past below → GoesInTurn id ms (opened g below) u
    → HasSmallNumbers u → Past u
moves_past id ms g below u book was went small =
    let all : All u = moves_all id ms (opened g below) u (opened_all g below book was) went in
    let kept = all.kept small in
    record { rows = all.rows; sound = all.sound; law = kept.law; own = kept.own; apart = kept.apart; brings = all.brings }

pub cut_past : (t : Trace) (e : Event) → Past t → Past (did e ∷ booked t e)
cut_past t e was = record {
  rows = cut_rows t e was.rows;
  sound = did_sound (step_of e) (booked t e) (booked_keeps Sound t e (λ acts w. batch_sound t acts w) was.sound);
  law = was.law;
  own = was.own;
  apart = was.apart;
  brings = cut_brings t e was.brings;
}

pub outcomes_kept : (id : List ℕ) (g : Beginning) (u : Trace) (moves : List Move) → GoesInTurn id moves (beginning g) u → IsSound g.book → EachOutcomeIsKept g u
outcomes_kept id g u moves went sound small = ((moves_all id moves (beginning g) u (start_all g sound) went).kept small).law

-- each row is decided at most once

pub record Once (first : BookView) (t : Trace) : Type 0 where
  pub ordered : IsOrdered (book_in t)
  pub once : (n : ℕ) → IsDecidedOnce first t n
  pub stays : (n : ℕ) → may_be_decided first n ≡ false → may_be_decided (book_in t) n ≡ false

booked_once : (first : BookView) (t : Trace) (e : Event) → Once first t → Once first (booked t e)
booked_once first t e was = record {
  ordered = ordered_acts t e was.ordered;
  once = λ n. by n (may_be_decided (book_in t) n) refl (decides n);
  stays = λ n shut. ((decides n).shut (was.stays n shut)).1;
}
  where
    acts : List Act
    acts = acts_of t e

    decides : (n : ℕ) → Decides (book_in t) (effects (book_in t) acts) (times_in acts n) n
    decides n = decides_once acts (book_in t) n was.ordered (acts_apply t e was.ordered)

    none_more : (j k : ℕ) → k ≡ 0 → j ≤ 1 → j + k ≤ 1
    none_more j k e h = omega (arith, e, h)

    sums : (j k : ℕ) → j ≡ 0 → k ≡ 0 → j + k ≡ 0
    sums j k e f = omega (arith, e, f)

    zero_one : (j : ℕ) → j ≡ 0 → j ≤ 1
    zero_one j e = omega (arith, e)

    first_one : (j k : ℕ) → j ≡ 0 → k ≡ 1 → j + k ≤ 1
    first_one j k e f = omega (arith, e, f)

    either : (n : ℕ) → times_decided t n ≡ 0 → may_be_decided (book_in t) n ≡ true → (times_in acts n ≡ 0) ⊎ ((times_in acts n ≡ 1) × (may_be_decided (effects (book_in t) acts) n ≡ false))
        → IsDecidedOnce first (Booked acts (due t e) ∷ t) n
    either n none might (inl more) = record {
      once = zero_one (times_decided t n + times_in acts n) (sums (times_decided t n) (times_in acts n) none more);
      waits = λ might. sums (times_decided t n) (times_in acts n) none more;
      before = λ shut. sums (times_decided t n) (times_in acts n) none more;
    }
    either n none might (inr now) = record {
      once = first_one (times_decided t n) (times_in acts n) none now.0;
      waits = λ still. absurd (clash (sym still ∙ now.1));
      before = λ shut. absurd (clash (sym might ∙ was.stays n shut));
    }

    by : (n : ℕ) (b : Bool) → may_be_decided (book_in t) n ≡ b → Decides (book_in t) (effects (book_in t) acts) (times_in acts n) n → IsDecidedOnce first (Booked acts (due t e) ∷ t) n
    by n true is more = either n ((was.once n).waits is) is (more.once is)
    by n false is more =
        let none = more.shut is in
        record {
          once = none_more (times_decided t n) (times_in acts n) none.0 (was.once n).once;
          waits = λ still. absurd (clash (sym still ∙ none.1));
          before = λ shut. sums (times_decided t n) (times_in acts n) ((was.once n).before shut) none.0;
        }

did_once : (first : BookView) (s : Step) (t : Trace) → Once first t → Once first (Did s ∷ t)
did_once first s t was = record { ordered = was.ordered; once = λ n. record { once = (was.once n).once; waits = (was.once n).waits; before = (was.once n).before }; stays = was.stays }

took_once : (first : BookView) (c k : ℕ) (t : Trace) → Once first t → Once first (Took c k ∷ t)
took_once first c k t was = record { ordered = was.ordered; once = λ n. record { once = (was.once n).once; waits = (was.once n).waits; before = (was.once n).before }; stays = was.stays }

goes_once : (first : BookView) (ps : List Put) (t : Trace) → Once first t → Once first (goes ps t)
goes_once first [] t was = was
goes_once first (p ∷ ps) t was =
    goes_once first ps (Out p.conn p.item ∷ t)
    (record { ordered = was.ordered; once = λ n. record { once = (was.once n).once; waits = (was.once n).waits; before = (was.once n).before }; stays = was.stays })

ends_once : (first : BookView) (id : List ℕ) (cs : List ℕ) (t : Trace) → Once first t → Once first (ends id cs t)
ends_once first id [] t was = was
ends_once first id (c ∷ cs) t was =
    let items : List Item = closing_of id (conn t c) ResourceLimitExceeded in
    ends_once first id cs (puts c items t) (goes_once first (each_to c items) t was)

bound_once : (first : BookView) (b : Option Binding) (t : Trace) → Once first t → Once first (with_bound b t)
bound_once first None t was = was
bound_once first (Some b) t was = record { ordered = was.ordered; once = λ n. record { once = (was.once n).once; waits = (was.once n).waits; before = (was.once n).before }; stays = was.stays }

handled_once : (first : BookView) (id : List ℕ) (t : Trace) (s : Step) → Once first t → Once first (handled id t s)
handled_once first id t s was =
    let at : Trace = booked t s.event in
    let u : Trace = heard id at s in
    let b : Option Binding = bound_by at u s.event in
    let came : Once first u = ends_once first id (due t s.event) (Did s ∷ at) (did_once first s at (booked_once first t s.event was)) in
    all_keep (Once first) (goes_once first) (resumed at s.event (replied id at s))
    (resumed_keeps (Once first) (λ x v. bound_once first (Some x) v) at s.event (replied id at s)
    (copied_keeps (Once first) (λ x v. bound_once first (Some x) v) at u s.event (goes (own_row id at u s.event) (with_bound b u))
    (goes_once first (own_row id at u s.event) (with_bound b u) (bound_once first b u came))))

pub none_once : Once empty_book []
none_once = record { ordered = empty_ordered; once = λ n. record { once = zero_one; waits = λ might. refl; before = λ shut. refl }; stays = λ n shut. shut }
  where
    zero_one : 0 ≤ 1
    zero_one = omega arith

pub opened_once : (first : BookView) (g : Beginning) (below : Trace) → g.book ≡ book_in below → Once first below → Once first (opened g below)
opened_once first g below book was = record {
  ordered = subst IsOrdered (sym book) was.ordered;
  once = λ n. record {
    once = (was.once n).once;
    waits = λ might. (was.once n).waits (subst (λ (b : BookView). may_be_decided b n ≡ true) book might);
    before = (was.once n).before;
  };
  stays = λ n shut. subst (λ (b : BookView). may_be_decided b n ≡ false) (sym book) (was.stays n shut);
}

pub cut_once : (first : BookView) (t : Trace) (e : Event) → Once first t → Once first (did e ∷ booked t e)
cut_once first t e was = did_once first (step_of e) (booked t e) (booked_once first t e was)

pub moves_once : (first : BookView) (id : List ℕ) (ms : List Move) (t u : Trace) → Once first t → Goes id ms t u → Once first u
moves_once first id [] t u was went = subst (Once first) (sym went) was
moves_once first id (handles s ∷ ms) t u was went = moves_once first id ms (handled id t s) u (handled_once first id t s was) went.1
moves_once first id (takes x ∷ ms) t u was went = moves_once first id ms (took_one x t) u (took_once first _ _ t was) went

pub rows_once : (id : List ℕ) (g : Beginning) (u : Trace) → IsTrace id g u → IsSound g.book → EachRowIsDecidedOnce g u
rows_once id g u trace sound =
    (moves_once g.book id trace.0 (beginning g) u (record {
      ordered = sound_is_ordered g.book sound;
      once = λ n. record { once = zero_one; waits = λ might. refl; before = λ shut. refl };
      stays = λ n shut. shut;
    }) trace.1).once
  where
    zero_one : 0 ≤ 1
    zero_one = omega arith

-- runs decline what is out of turn

abbrev pub LeadsInTurn : List ℕ → Trace → Trace → Type 0
LeadsInTurn id t u = (moves : List Move) × GoesInTurn id moves t u

pub turns_on : (id : List ℕ) (ms ns : List Move) (t u v : Trace) → GoesInTurn id ms t u → GoesInTurn id ns u v → GoesInTurn id (ms ++ ns) t v
turns_on id [] ns t u v first rest = subst (λ (w : Trace). GoesInTurn id ns w v) first rest
turns_on id (handles s ∷ ms) ns t u v first rest = (first.0, turns_on id ms ns (handled id t s) u v first.1 rest)
turns_on id (takes x ∷ ms) ns t u v first rest = turns_on id ms ns (took_one x t) u v first rest

pub leads_on : (id : List ℕ) (t u v : Trace) → LeadsInTurn id t u → LeadsInTurn id u v → LeadsInTurn id t v
leads_on id t u v first rest = (first.0 ++ rest.0, turns_on id first.0 rest.0 t u v first.1 rest.1)

leads_takes : (id : List ℕ) (xs : List Taking) (t : Trace) → LeadsInTurn id t (took_all xs t)
leads_takes id [] t = ([], refl)
leads_takes id (x ∷ xs) t = leads_on id t (took_one x t) (took_all xs (took_one x t)) (takes x ∷ [], refl) (leads_takes id xs (took_one x t))

step_leads : (id : List ℕ) (t : Trace) (e : Event) (u : Trace) → MayStep id t e u → LeadsInTurn id t u
step_leads id t e u (inl is_refused) = ([], is_refused.1)
step_leads id t e u (inr taken) = (handles (step_of e) ∷ [], (taken.0, taken.1.answers))

pub steps_lead : (id : List ℕ) (t : Trace) (es : List Event) (u : Trace) → MaySteps id t es u → LeadsInTurn id t u
steps_lead id t [] u went = ([], went)
steps_lead id t (e ∷ es) u went = leads_on id t went.0 u (step_leads id t e went.0 went.1) (steps_lead id went.0 es u went.2)

pub run_leads : (id : List ℕ) (place : ℕ) (t : Trace) (groups : List (List Event)) (xs : List Sent) (u : Trace) → Run id place t groups xs u → LeadsInTurn id t u
run_leads id place t [] xs u run = ([], run.0)
run_leads id place t (es ∷ groups) xs u run =
    let behind : Trace = run.3.behind in
    let emptied : LeadsInTurn id behind run.0 = subst (λ (w : Trace). LeadsInTurn id behind w) (sym run.3.emptied.trace) (leads_takes id run.3.emptied.takes behind) in
    leads_on id t run.0 u (leads_on id t behind run.0 (steps_lead id t es behind run.3.events) emptied) (run_leads id (place + 1) run.0 groups run.2 u run.4)

pub run_outcomes : (id : List ℕ) (g : Beginning) (groups : List (List Event)) (xs : List Sent) (u : Trace) → Run id 0 (beginning g) groups xs u → IsSound g.book → EachOutcomeIsKept g u
run_outcomes id g groups xs u run sound = let led = run_leads id 0 (beginning g) groups xs u run in outcomes_kept id g u led.0 led.1 sound
