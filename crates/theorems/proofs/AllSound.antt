-- Every trace of the router satisfies the laws.
use Rattle.std.proofs.Common.{◌≡◌, sym, refl, subst, inr, ℕ, Bool, true, false, List, [], ◌∷◌, ◌++◌}
use Rattle.std.specs.Prelude.{Option, Some, None, if◌then◌else◌, unwrap_or}
use Rattle.amqp_model.specs.declared.perf.Perf.{Perf}
use Rattle.amqp_model.specs.declared.perf.Perf.TheVariants as perf
use Rattle.amqp_model.specs.declared.perf.Attach.{Attach as AnAttach}
use Rattle.amqp_model.specs.declared.perf.Disposition.{Disposition as ADisposition}
use Rattle.amqp_model.specs.declared.perf.Transfer.{Transfer as ATransfer}
use Rattle.amqp_model.specs.declared.item.Item.{Item}
use Rattle.amqp_model.specs.declared.item.Item.TheVariants as item
use Rattle.amqp_conn.specs.declared.conn.Conn.{Conn}
use Rattle.amqp_link.specs.declared.part.Part.{Part}
use Rattle.router_trace.specs.Trace.{Beginning}
use Rattle.router_trace.specs.Configuration.{beginning}
use Rattle.router_trace.specs.declared.binding.Binding.{Binding}
use Rattle.router_trace.specs.declared.condition.Condition.TheVariants.{ResourceLimitExceeded}
use Rattle.router_trace.specs.declared.event.ConnectionId.{ConnectionId}
use Rattle.router_trace.specs.declared.event.Event.{Event}
use Rattle.router_trace.specs.declared.event.Event.TheVariants as event
use Rattle.router_trace.specs.Trace.{Entry, Did, Out, Put, Step, goes, puts, each_to, ups}
use Rattle.router_trace.specs.Connection.{conn, standing, found, due, live_of}
use Rattle.router_trace.specs.Deliveries.{Delivery, delivery, terminal, last_of}
use Rattle.router_trace.specs.Settling.{open_ids, part_of}
use Rattle.router_trace.specs.Links.{link_place}
use Rattle.router_trace.specs.Sessions.{theirs}
use Rattle.router_trace.specs.Peers.{largest_frame}
use Rattle.router_trace.specs.Following.{tells, sends_due, drains_due}
use Rattle.state_sessions.specs.Windows.{windows}
use Rattle.state_messages.specs.Messages.{copy_to, grants_due, with_bound}
use Rattle.reply_rows.specs.declared.answer.Answer.{Answer}
use Rattle.reply_rows.specs.declared.answer.Answer.TheVariants.{Attach, Refuse, Taken, Settle}
use Rattle.reply_rows.specs.Rows.{said}
use Rattle.router_reply.specs.Replies.{row_found, closing_of, ends, heard, refused, map_told, bound_for, item_put, item_bound, item_row, bound_by, own_row, replied_after, replied}
use Rattle.reply_rows.specs.Acts.{found_journal, full_at, answer_of, booked}
use Rattle.router_reply.specs.Resuming.{resumed}
use Rattle.router_core.specs.Replies.{answered, handled}
use Rattle.core_machine.specs.Moves.{took_one}
use Rattle.router_core.specs.Moves.{Goes, IsTrace}
use Rattle.core_machine.specs.Moves.{Move, handles, takes}
use Rattle.router_core.proofs.Booking.{booked_keeps}
use Rattle.router_core.proofs.Copied.{copied_takes, made}
use Rattle.router_core.proofs.Following.{Steps, passed_on, passed_keeps}
use Rattle.theorems.specs.Admitted.{RowIsAdmitted}
use Rattle.theorems.specs.Each.{EachBound}
use Rattle.theorems.specs.Came.{Handled, just_handled, BindsAs, BindsByKind, CameAndWasBound}
use Rattle.theorems.proofs.Bindings.{of_messages, each_bound}
use Rattle.theorems.proofs.Copying.{copy_binds}
use Rattle.theorems.proofs.Resumed.{resumed_takes, replied_book, replied_found}
use Rattle.theorems.proofs.Rows.{Rows, start_rows, took_rows, resumed_rows, handled_rows}
use Rattle.theorems.proofs.Sound.{Sound, Answered, answer_sound, sound_start, did_sound, bound_sound, took_sound, batch_sound, held_sound, taken_sound, goes_sound, quiet_sound, QuietPut, quiet_both, quiet_to, still_handled}
use Rattle.theorems.proofs.Quiet.{closing_of_quiet, said_quiet, taken_quiet, refused_quiet, settled_quiet, beats_quiet, windows_quiet, drains_quiet, grants_quiet}
use Rattle.reply_rows.proofs.Transfers.{IfTaken, transfer_taken}
use Rattle.theorems.proofs.Admitted.{binds_next}
use Rattle.theorems.proofs.Arriving.{BindsRow, transfer_sound}
use Rattle.theorems.proofs.Names.{names_told}
use Rattle.theorems.proofs.GoingOn.{going_sends}
use Rattle.theorems.proofs.Sending.{sends_lawful}
use Rattle.theorems.proofs.Tells.{tells_lawful}

-- what follows an event's rows

-- (items bind nothing)
goes_each : (P : List Entry → Binding → Type 0) (ps : List Put) (t : List Entry) → EachBound P t → EachBound P (goes ps t)
goes_each P [] t each = each
goes_each P (p ∷ ps) t each = goes_each P ps (Out p.conn p.item ∷ t) each

abbrev SoundRows : List Entry → Type 0
SoundRows t = Sound t × EachBound RowIsAdmitted t

passed_sound : Steps SoundRows
passed_sound = record {
  telling = λ t was. (goes_sound (tells t) t (tells_lawful t was.1) was.0, goes_each RowIsAdmitted (tells t) t was.1);
  sending = λ t was. (goes_sound (sends_due t) t (sends_lawful t was.0.unstarted (names_told t) (going_sends t was.0.carries)) was.0, goes_each RowIsAdmitted (sends_due t) t was.1);
  draining = λ t was. (quiet_sound (drains_due t) t (drains_quiet t) was.0, goes_each RowIsAdmitted (drains_due t) t was.1);
  granting = λ t was. (quiet_sound (grants_due t) t (grants_quiet t) was.0, goes_each RowIsAdmitted (grants_due t) t was.1);
}

-- closes because of full outboxes

ends_sound : (id : List ℕ) (cs : List ℕ) (t : List Entry) → Sound t → Sound (ends id cs t)
ends_sound id [] t sound = sound
ends_sound id (c ∷ cs) t sound =
    let items : List Item = closing_of id (conn t c) ResourceLimitExceeded
    in ends_sound id cs (puts c items t) (quiet_sound (each_to c items) t (quiet_to c items (closing_of_quiet id (conn t c) ResourceLimitExceeded)) sound)

pub ends_handled : (id : List ℕ) (cs : List ℕ) (t : List Entry) (v : Option Handled) → just_handled t ≡ v → just_handled (ends id cs t) ≡ v
ends_handled id [] t v is = is
ends_handled id (c ∷ cs) t v is =
    let items : List Item = closing_of id (conn t c) ResourceLimitExceeded
    in ends_handled id cs (puts c items t) v (still_handled (each_to c items) t v is)

-- an answer to an item: what is bound, and what is put

abbrev Behind : List ℕ → List Entry → List Entry → ℕ → Conn → Item → Answer → Type 0
Behind id t after c p i a = Answered after (item_put id t after c p i a) (bound_for t after c i a)

quiet_answer : (id : List ℕ) (t after : List Entry) (c : ℕ) (p : Conn) (i : Item) (a : Answer) → Sound after → bound_for t after c i a ≡ None
    → QuietPut (item_put id t after c p i a) → Behind id t after c p i a
quiet_answer id t after c p i a sound none quiet =
    subst (λ (b : Option Binding). Answered after (item_put id t after c p i a) b) (sym none) (quiet_sound (item_put id t after c p i a) after quiet sound)

nothing_more : (id : List ℕ) (p : Conn) (c : ℕ) (a : Answer) → QuietPut (each_to c (said id p a) ++ [])
nothing_more id p c a = quiet_both (each_to c (said id p a)) [] (quiet_to c (said id p a) (said_quiet id p a)) tt

-- an item without a transfer binds nothing
binds_none : (t after : List Entry) (c : ℕ) (i : Item) → ((own : ℕ) → part_of i (link_place t c own) ≡ None) → (a : Answer) → bound_for t after c i a ≡ None
binds_none t after c i none (Taken own handle) = rw (none own) refl
binds_none t after c i none _ = refl

abbrev nothing : Option Part
nothing = None

no_part : (sasl : Bool) → (if sasl then nothing else nothing) ≡ nothing
no_part true = refl
no_part false = refl

item_sound : (id : List ℕ) (t after : List Entry) (s : Step) (from : ConnectionId) (p : Conn) (i : Item) → Sound after → s.event ≡ event.Item from i
    → just_handled after ≡ Some (record { step = s; found = t }) → BindsRow (row_found t) (bound_for t after from.0 i (answer_of t from.0 p i)) → Behind id t after from.0 p i (answer_of t from.0 p i)
item_sound id t after s from p i sound came just binds = by i came binds
  where
    other : (i : Item) → ((own : ℕ) → part_of i (link_place t from.0 own) ≡ None) → (a : Answer) → QuietPut (item_put id t after from.0 p i a) → Behind id t after from.0 p i a
    other i none a quiet = quiet_answer id t after from.0 p i a sound (binds_none t after from.0 i none a) quiet

    attach_put : (sasl : Bool) (channel : ℕ) (payload : List ℕ) (x : AnAttach) (a : Answer) → QuietPut (item_put id t after from.0 p (item.Frame sasl channel (perf.Attach x) payload) a)
    attach_put sasl channel payload x (Attach own) = taken_quiet after from.0 own (map_told t from.0 x (Attach own)) x
    attach_put sasl channel payload x (Refuse own handle e) =
        quiet_to from.0 (refused (largest_frame after from.0) own handle e x) (refused_quiet (largest_frame after from.0) own handle e x)
    attach_put sasl channel payload x a = nothing_more id p from.0 a

    disposition_put : (sasl : Bool) (channel : ℕ) (payload : List ℕ) (x : ADisposition) (a : Answer)
        → QuietPut (item_put id t after from.0 p (item.Frame sasl channel (perf.Disposition x) payload) a)
    disposition_put sasl channel payload x (Settle own) =
        quiet_to from.0 _ (settled_quiet own (terminal x.state) (open_ids t from.0 own x.first (last_of x)))
    disposition_put sasl channel payload x a = nothing_more id p from.0 a

    by_transfer : (sasl : Bool) (channel : ℕ) (payload : List ℕ) (x : ATransfer) → s.event ≡ event.Item from (item.Frame sasl channel (perf.Transfer x) payload)
        → (a : Answer) → IfTaken sasl (theirs t from.0 channel) (λ own. link_place t from.0 own x.handle) a
        → BindsRow (row_found t) (bound_for t after from.0 (item.Frame sasl channel (perf.Transfer x) payload) a) → Behind id t after from.0 p (item.Frame sasl channel (perf.Transfer x) payload) a
    by_transfer sasl channel payload x came (Taken own handle) here binds = transfer_sound t after s from sasl channel x payload own handle sound came just here binds
    by_transfer sasl channel payload x came a here binds = quiet_sound (each_to from.0 (said id p a) ++ []) after (nothing_more id p from.0 a) sound

    by_perf : (sasl : Bool) (channel : ℕ) (payload : List ℕ) (body : Perf) → s.event ≡ event.Item from (item.Frame sasl channel body payload)
        → BindsRow (row_found t) (bound_for t after from.0 (item.Frame sasl channel body payload) (answer_of t from.0 p (item.Frame sasl channel body payload)))
        → Behind id t after from.0 p (item.Frame sasl channel body payload) (answer_of t from.0 p (item.Frame sasl channel body payload))
    by_perf sasl channel payload (perf.Transfer x) came binds =
        by_transfer sasl channel payload x came (answer_of t from.0 p (item.Frame sasl channel (perf.Transfer x) payload))
        (transfer_taken (full_at t (event.Item (record { 0 = from.0 }) (item.Frame sasl channel (perf.Transfer x) payload))) (found_journal t).book p t from.0 sasl channel x payload) binds
    by_perf sasl channel payload (perf.Attach x) came binds =
        other (item.Frame sasl channel (perf.Attach x) payload) (λ own. no_part sasl) _ (attach_put sasl channel payload x _)
    by_perf sasl channel payload (perf.Disposition x) came binds =
        other (item.Frame sasl channel (perf.Disposition x) payload) (λ own. no_part sasl) _ (disposition_put sasl channel payload x _)
    by_perf sasl channel payload body came binds =
        other (item.Frame sasl channel body payload) (λ own. no_part sasl) _ (nothing_more id p from.0 _)

    by : (i : Item) → s.event ≡ event.Item from i → BindsRow (row_found t) (bound_for t after from.0 i (answer_of t from.0 p i)) → Behind id t after from.0 p i (answer_of t from.0 p i)
    by (item.Frame sasl channel body payload) came binds = by_perf sasl channel payload body came binds
    by i came binds = other i (λ own. refl) (answer_of t from.0 p i) (nothing_more id p from.0 (answer_of t from.0 p i))

-- an event's own row

row_sound : (id : List ℕ) (t after : List Entry) (s : Step) (e : Event) → Sound after → s.event ≡ e → just_handled after ≡ Some (record { step = s; found = t })
    → BindsRow (row_found t) (bound_by t after e) → Answered after (own_row id t after e) (bound_by t after e)
row_sound id t after s (event.Item c i) sound is just binds = by (standing (found t (event.Item c i) c.0)) binds
  where
    by : (p : Option Conn) → BindsRow (row_found t) (item_bound t after c.0 i p) → Answered after (item_row id t after c.0 i p) (item_bound t after c.0 i p)
    by None binds = sound
    by (Some p) binds = item_sound id t after s c p i sound is just binds
row_sound id t after s (event.Down c) sound is just binds = sound
row_sound id t after s (event.Tick ms) sound is just binds = quiet_sound _ after (beats_quiet t ms (live_of (ups t) (found t (event.Tick ms)))) sound
row_sound id t after s (event.Up c p) sound is just binds = sound
row_sound id t after s event.Start sound is just binds = sound

-- copies
copied_sound : (id : List ℕ) (t after : List Entry) (s : Step) → just_handled after ≡ Some (record { step = s; found = t })
    → Sound (goes (own_row id t after s.event) (with_bound (bound_by t after s.event) after)) → Sound (replied_after id t after s.event)
copied_sound id t after s just sound =
    let put : List Entry = goes (own_row id t after s.event) (with_bound (bound_by t after s.event) after) in
    copied_takes Sound t after s.event put
    (λ x before a later copies now. bound_sound (copy_to (made x before put) (unwrap_or x.message.format 0) x.payload a) (made x before put)
    (inr (copy_binds id t after s x just before a later copies)) now) sound

answered_sound : (id : List ℕ) (t : List Entry) (s : Step) → Sound t → EachBound RowIsAdmitted (resumed t s.event (replied id t s)) → BindsRow (row_found t) (bound_by t (heard id t s) s.event)
    → Sound (answered id t s)
answered_sound id t s sound admitted binds =
    let u : List Entry = heard id t s
    in let behind : Sound u = ends_sound id (due t s.event) (Did s ∷ t) (did_sound s t sound)
    in let just : just_handled u ≡ Some (record { step = s; found = t }) = ends_handled id (due t s.event) (Did s ∷ t) (Some (record { step = s; found = t })) refl
    in let rows : Sound (replied id t s) = copied_sound id t u s just (answer_sound u (own_row id t u s.event) (bound_by t u s.event) (row_sound id t u s s.event behind refl just binds))
    in let bound : List Entry = resumed t s.event (replied id t s)
    in let resumes : Sound bound = resumed_takes Sound t s.event (replied id t s) (λ u b takes known was. taken_sound u b takes was)
    (λ u b q to is quiet binds book was. held_sound u b q to is quiet binds was) (replied_found id t s) (replied_book id t s) rows
    in let all : SoundRows (passed_on bound) = passed_keeps SoundRows passed_sound bound (resumes, admitted)
    in quiet_sound (windows (passed_on bound)) (passed_on bound) (windows_quiet (passed_on bound)) all.0

-- what an event binds before that is a message that just came

pub event_binds : (id : List ℕ) (t : List Entry) (s : Step) (b : Binding) → Sound t → bound_by t (heard id t s) s.event ≡ Some b → BindsAs b.kind (heard id t s) b
event_binds id t s b sound is =
    let u : List Entry = heard id t s
    in let behind : Sound u = ends_sound id (due t s.event) (Did s ∷ t) (did_sound s t sound)
    in let just : just_handled u ≡ Some (record { step = s; found = t }) = ends_handled id (due t s.event) (Did s ∷ t) (Some (record { step = s; found = t })) refl
    in (subst (λ (v : Option Binding). Answered u (own_row id t u s.event) v) is (row_sound id t u s s.event behind refl just (λ row admits. (b, is)))).0

-- moves

pub acted_sound : (t : List Entry) (e : Event) → Sound t → Sound (booked t e)
acted_sound t e sound = booked_keeps Sound t e (λ acts w. batch_sound t acts w) sound

pub handled_sound : (id : List ℕ) (t : List Entry) (s : Step) → Rows t → Sound t → Sound (handled id t s)
handled_sound id t s rows sound =
    answered_sound id (booked t s.event) s (acted_sound t s.event sound) (resumed_rows id t s rows).admitted
    (λ row admits. let next = binds_next id t s.event row admits in (next.binding, next.is))

pub moves_sound : (id : List ℕ) (ms : List Move) (t u : List Entry) → Rows t → Sound t → Goes id ms t u → Sound u
moves_sound id [] t u rows sound went = subst (λ (w : List Entry). Sound w) (sym went) sound
moves_sound id (handles s ∷ ms) t u rows sound went = moves_sound id ms (handled id t s) u (handled_rows id t s rows) (handled_sound id t s rows sound) went.1
moves_sound id (takes x ∷ ms) t u rows sound went = moves_sound id ms (took_one x t) u (took_rows _ _ t rows) (took_sound _ _ t sound) went

pub trace_sound : (id : List ℕ) (g : Beginning) (u : List Entry) → IsTrace id g u → Sound u
trace_sound id g u trace = moves_sound id trace.0 (beginning g) u (start_rows g) (sound_start g) trace.1

-- each delivery is of a message that was received
pub all_came : (u : List Entry) → EachBound BindsByKind u → (n : ℕ) (d : Delivery) → delivery u n ≡ Some d → CameAndWasBound u n d
all_came u each n d there =
    let message = of_messages u n d there
    in record { message = message; binds = each_bound BindsByKind message.later message.before message.binding (subst (λ (t : List Entry). EachBound BindsByKind t) message.trace each) }
