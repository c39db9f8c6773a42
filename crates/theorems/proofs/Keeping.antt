-- In every trace of the router a durable link is taken once its terminus is in the book.
use Rattle.std.proofs.Common.{◌≡◌, ◌∙◌, sym, ap, refl, subst, ℕ, Bool, true, false, not, List, [], ◌∷◌, ◌++◌, append-nil, ◌⊎◌, inl, inr}
use Rattle.std.specs.Prelude.{◌==◌, if◌then◌else◌, Option, Some, None, is_some, unwrap_or}
use Rattle.std.proofs.lemmas.Bool.{eqb-true}
use Rattle.std.proofs.lemmas.Slice.Eq.{bytes_eq-Decides}
use Rattle.amqp_model.specs.declared.perf.Attach.{Attach as AnAttach}
use Rattle.amqp_model.specs.declared.perf.Perf.{Perf}
use Rattle.amqp_model.specs.declared.perf.Perf.TheVariants as perf
use Rattle.amqp_model.specs.declared.perf.Role.{Role}
use Rattle.amqp_model.specs.declared.perf.Role.TheVariants.{Sender, Receiver}
use Rattle.amqp_model.specs.declared.state.UnsettledDelivery.{UnsettledDelivery}
use Rattle.amqp_model.specs.declared.terminus.SourceTerminus.{SourceTerminus}
use Rattle.amqp_model.specs.declared.terminus.SourceTerminus.TheVariants as source
use Rattle.amqp_model.specs.declared.terminus.TargetTerminus.{TargetTerminus}
use Rattle.amqp_model.specs.declared.terminus.TargetTerminus.TheVariants as target
use Rattle.amqp_model.specs.declared.item.Item.{Item}
use Rattle.amqp_model.specs.declared.item.Item.TheVariants as item
use Rattle.amqp_conn.specs.declared.conn.Conn.{Conn}
use Rattle.book_model.specs.declared.act.Act.{Act}
use Rattle.book_model.specs.declared.act.Decision.{Decision}
use Rattle.book_model.specs.declared.row.RowNumber.{RowNumber}
use Rattle.book_model.specs.declared.terminus.LinkKey.{LinkKey}
use Rattle.book_model.specs.declared.terminus.Terminus.{Terminus}
use Rattle.book_model.specs.Book.{BookView, same_bytes, terminus_of, effects}
use Rattle.journal_store.specs.Acting.{event_acts as settled_acts}
use Rattle.journal_store.specs.declared.acting.TerminusAct.TheVariants as terminus
use Rattle.router_trace.specs.Trace.{Beginning, Entry, Did, Out, Booked, Put, Step, goes, puts, each_to}
use Rattle.router_trace.specs.Configuration.{beginning}
use Rattle.router_trace.specs.Connection.{conn, due, found, standing, has}
use Rattle.router_trace.specs.Durable.{outlives, is_lasting_source, is_lasting_target, is_durable}
use Rattle.router_trace.specs.Following.{tells, sends_due, drains_due}
use Rattle.router_trace.specs.LinkFrames.{other, kept, source_answer, target_answer, plain_answer, lasting_source, lasting_target, lasting_by, answer_to, refused_source, refused_target, refusal_of, attach_item, detach_item, fits}
use Rattle.router_trace.specs.Links.{source_address, target_address, address_by, key_of, key_at, holder, free_handle, first_free_below}
use Rattle.router_trace.specs.Peers.{Container, user, user_at, container, container_at, largest_frame}
use Rattle.router_trace.specs.Sessions.{free_channel}
use Rattle.router_trace.specs.declared.binding.Binding.{Binding}
use Rattle.router_trace.specs.declared.condition.Condition.{Condition}
use Rattle.router_trace.specs.declared.condition.Condition.TheVariants.{NotAllowed, ResourceLimitExceeded, Stolen, FrameSizeTooSmall}
use Rattle.router_trace.specs.declared.event.ConnectionId.{ConnectionId}
use Rattle.router_trace.specs.declared.event.Event.{Event}
use Rattle.router_trace.specs.declared.event.Event.TheVariants as event
use Rattle.router_trace.specs.declared.handle.Attachment.{Attachment}
use Rattle.state_sessions.specs.Windows.{windows}
use Rattle.state_messages.specs.Messages.{grants_due, with_bound}
use Rattle.reply_rows.specs.declared.answer.Answer.{Answer}
use Rattle.reply_rows.specs.declared.answer.Answer.TheVariants.{Nothing, Header, Open, Close, CloseWith, Begin, End, Flow, Attach, Refuse, Detach, LinkFlow, Taken, Settle}
use Rattle.reply_rows.specs.Booking.{wanted_key, wanted_address, wants_durable, new_terminus, has_room, durable_refusal, refuse_on, booked_attach, book_refusal, answer_at}
use Rattle.reply_rows.specs.Finding.{finds}
use Rattle.reply_rows.specs.Rows.{said, item_reply}
use Rattle.reply_rows.specs.Acts.{Journaled, live_answer, event_answer, answer_acts, admitted_acts, or_admits, finds_full, journaled, book_in, acts_of, book_after_event, booked, answer_of}
use Rattle.reply_rows.specs.Deciding.{decided, forgotten}
use Rattle.router_reply.specs.Resuming.{resumed}
use Rattle.router_reply.specs.Replies.{closing_of, ends, heard, stolen_by, with_map, map_told, attach_answer, taken_after, taken, refused, bound_by, item_put, item_row, own_row, replied}
use Rattle.state_connections.proofs.Lists.{by_test}
use Rattle.router_core.specs.Attaches.{is_attach_in, is_attach}
use Rattle.router_core.specs.Moves.{Goes, IsTrace}
use Rattle.core_machine.specs.Moves.{Move, handles, takes}
use Rattle.router_core.specs.Replies.{handled}
use Rattle.core_machine.specs.Moves.{took_one}
use Rattle.router_core.proofs.Attachless.{Attachless, less_closing_of, less_said, on_less, less_row, less_windows}
use Rattle.router_core.proofs.Copied.{copied_keeps}
use Rattle.router_core.proofs.Due.{tells_on, sends_on, drains_on, grants_on}
use Rattle.router_core.proofs.Following.{Steps, passed_on, passed_keeps}
use Rattle.router_core.proofs.Replied.{FoundLive, found_live}
use Rattle.router_core.proofs.Resuming.{resumed_keeps}
use Rattle.theorems.specs.Each.{EachOut}
use Rattle.theorems.specs.Keeping.{HasAddress, kept_if, perf_is_kept, IsKeptFirst}
use Rattle.theorems.proofs.Made.{makes_terminus, admitted_keep, stays_terminus}
use Rattle.theorems.proofs.Resumed.{ends_book, bound_book}

abbrev Kept : List Entry → Type 0
Kept t = EachOut IsKeptFirst t

-- items that contain no attach

less_perf : (body : Perf) (t : List Entry) (c : ℕ) → is_attach_in body ≡ false → perf_is_kept body t c
less_perf (perf.Attach a) t c none = absurd cc
less_perf _ t c none = tt

less_item : (i : Item) (t : List Entry) (c : ℕ) → is_attach i ≡ false → IsKeptFirst t c i
less_item (item.Frame sasl own body payload) t c none = less_perf body t c none
less_item _ t c none = tt

goes_kept : (ps : List Put) (t : List Entry) → Attachless ps → Kept t → Kept (goes ps t)
goes_kept [] t less was = was
goes_kept (p ∷ ps) t less was = goes_kept ps (Out p.conn p.item ∷ t) less.1 (less_item p.item t p.conn less.0, was)

bound_kept : (b : Option Binding) (t : List Entry) → Kept t → Kept (with_bound b t)
bound_kept None t was = was
bound_kept (Some b) t was = was

ends_kept : (id : List ℕ) (cs : List ℕ) (t : List Entry) → Kept t → Kept (ends id cs t)
ends_kept id [] t was = was
ends_kept id (d ∷ ds) t was =
    let items : List Item = closing_of id (conn t d) ResourceLimitExceeded
    in ends_kept id ds (puts d items t) (goes_kept (each_to d items) t (less_closing_of id d (conn t d) ResourceLimitExceeded) was)

-- an answer to an attach asks for the same as the attach

pub outlives_same : (d : ℕ) → outlives (kept d) ≡ outlives d
outlives_same d = by_test (d == 1) (λ e. rw e (sym (ap outlives (eqb-true d 1 e)))) (λ e. rw e refl)

abbrev Asks : AnAttach → Option Terminus → Type 0
Asks a x = kept_if (is_durable a.role a) (address_by a.role a) x

source_plain : (s : Option SourceTerminus) (x : Option Terminus) → kept_if (is_lasting_source s) (source_address s) x
    → kept_if (is_lasting_source (source_answer s)) (source_address (source_answer s)) x
source_plain (Some (source.Source s)) x k = subst (λ (b : Bool). kept_if b (source_address (Some (source.Source s))) x) (sym (outlives_same s.durable)) k
source_plain _ x k = k

target_plain : (s : Option TargetTerminus) (x : Option Terminus) → kept_if (is_lasting_target s) (target_address s) x
    → kept_if (is_lasting_target (target_answer s)) (target_address (target_answer s)) x
target_plain (Some (target.Target s)) x k = subst (λ (b : Bool). kept_if b (target_address (Some (target.Target s))) x) (sym (outlives_same s.durable)) k
target_plain _ x k = k

plain_kept : (r : Role) (a : AnAttach) (h : ℕ) (x : Option Terminus) → kept_if (is_durable r a) (address_by r a) x
    → kept_if (is_durable r (plain_answer a h)) (address_by r (plain_answer a h)) x
plain_kept Sender a h x k = source_plain a.source x k
plain_kept Receiver a h x k = target_plain a.target x k

source_lasts : (s : Option SourceTerminus) (x : Option Terminus) → kept_if (is_lasting_source s) (source_address s) x
    → kept_if (is_lasting_source (lasting_source s)) (source_address (lasting_source s)) x
source_lasts (Some (source.Source s)) x k = k
source_lasts _ x k = k

target_lasts : (s : Option TargetTerminus) (x : Option Terminus) → kept_if (is_lasting_target s) (target_address s) x
    → kept_if (is_lasting_target (lasting_target s)) (target_address (lasting_target s)) x
target_lasts (Some (target.Target s)) x k = k
target_lasts _ x k = k

lasting_kept : (r : Role) (d : Bool) (p : AnAttach) (x : Option Terminus) → kept_if (is_durable r p) (address_by r p) x
    → Asks (if d then lasting_by r (record p { role = r }) else record p { role = r }) x
lasting_kept Sender true p x k = source_lasts p.source x k
lasting_kept Receiver true p x k = target_lasts p.target x k
lasting_kept Sender false p x k = k
lasting_kept Receiver false p x k = k

answer_kept : (a : AnAttach) (h : ℕ) (x : Option Terminus) → kept_if (is_durable (other a.role) a) (address_by (other a.role) a) x → Asks (answer_to a h) x
answer_kept a h x k = lasting_kept (other a.role) (is_durable (other a.role) (plain_answer a h)) (plain_answer a h) x (plain_kept (other a.role) a h x k)

-- ... and its key is that of the attach
lasting_key : (r : Role) (d : Bool) (p : AnAttach) (who : Option (List ℕ)) (from : Option Container)
    → key_of who from (if d then lasting_by r (record p { role = r }) else record p { role = r }) ≡ key_of who from (record p { role = r })
lasting_key Sender true p who from = refl
lasting_key Receiver true p who from = refl
lasting_key r false p who from = refl

answer_key : (t : List Entry) (c : ℕ) (a : AnAttach) (h : ℕ) → key_at t c (answer_to a h) ≡ wanted_key t c a
answer_key t c a h = lasting_key (other a.role) (is_durable (other a.role) (plain_answer a h)) (plain_answer a h) (user t c) (container t c)

-- ... whether it has the router's map or not
mapped_kept : (ours : List UnsettledDelivery) (p : AnAttach) (x : Option Terminus) → Asks p x → Asks (with_map ours p) x
mapped_kept [] p x k = k
mapped_kept (d ∷ ds) p x k = by p.role k
  where
    mapped : AnAttach
    mapped = record p { unsettled = Some (d ∷ ds) }

    by : (r : Role) → kept_if (is_durable r p) (address_by r p) x → kept_if (is_durable r mapped) (address_by r mapped) x
    by Sender k = k
    by Receiver k = k

pub mapped_key : (ours : List UnsettledDelivery) (t : List Entry) (c : ℕ) (p : AnAttach) → key_at t c (with_map ours p) ≡ key_at t c p
mapped_key [] t c p = refl
mapped_key (d ∷ ds) t c p = refl

pub mapped_handle : (ours : List UnsettledDelivery) (p : AnAttach) → (with_map ours p).handle ≡ p.handle
mapped_handle [] p = refl
mapped_handle (d ∷ ds) p = refl

-- a refusal asks for no link
refusal_kept : (r : Role) (s : Option SourceTerminus) (g : Option TargetTerminus) (p : AnAttach) (x : Option Terminus)
    → Asks (record p { role = other r; source = refused_source r s; target = refused_target r g }) x
refusal_kept Sender s g p x = tt
refusal_kept Receiver s g p x = tt

refused_kept : (t : List Entry) (largest c own handle : ℕ) (e : Condition) (a : AnAttach) → Kept t → Kept (goes (each_to c (refused largest own handle e a)) t)
refused_kept t largest c own handle e a was = by (fits largest (attach_item own (refusal_of a handle)))
  where
    by : (b : Bool) → Kept (goes (each_to c (if b then attach_item own (refusal_of a handle) ∷ detach_item own handle true (Some e) ∷ [] else detach_item own handle true (Some e) ∷ [])) t)
    by true = (tt, (refusal_kept a.role (source_answer a.source) (target_answer a.target) (plain_answer a handle) _, was))
    by false = (tt, was)

-- a terminus with the attach's address is what it asks for
made_kept : (a : AnAttach) (v : Option Terminus) (x : Terminus) → v ≡ Some x → x.address ≡ wanted_address a → kept_if true (address_by (other a.role) a) v
made_kept a v x found same = by (address_by (other a.role) a) refl
  where
    by : (o : Option (List ℕ)) → address_by (other a.role) a ≡ o → kept_if true o v
    by None is = tt
    by (Some address) is = subst (λ (y : Option Terminus). HasAddress y address) (sym found) (same ∙ ap (λ (o : Option (List ℕ)). unwrap_or o []) is)

-- an answer that takes a link: the book doesn't stand in its way, and its terminus is made, or stands

pub attach_only : (free : ℕ → Option ℕ) (refusal : Option Condition) (answer : Answer) (own : ℕ) → booked_attach free refusal answer ≡ Attach own
    → (refusal ≡ None) × (answer ≡ Attach own)
attach_only free None (Attach o) own is = (refl, is)
attach_only free (Some x) (Attach o) own is = absurd (by (free o) is)
  where
    by : (h : Option ℕ) → refuse_on o h x ≡ Attach own → ⊥
    by None is = absurd cc
    by (Some handle) is = absurd cc
attach_only free refusal Nothing own is = absurd cc
attach_only free refusal Header own is = absurd cc
attach_only free refusal Open own is = absurd cc
attach_only free refusal Close own is = absurd cc
attach_only free refusal (CloseWith x) own is = absurd cc
attach_only free refusal (Begin o theirs) own is = absurd cc
attach_only free refusal (End o x) own is = absurd cc
attach_only free refusal (Flow o told) own is = absurd cc
attach_only free refusal (Refuse o h x) own is = absurd cc
attach_only free refusal (Detach o h closed x) own is = absurd cc
attach_only free refusal (LinkFlow o told at) own is = absurd cc
attach_only free refusal (Taken o h) own is = absurd cc
attach_only free refusal (Settle o) own is = absurd cc

-- the book has room for a new terminus, and one that stands has the attach's address
room_with : (b : BookView) (a : AnAttach) (room : Bool) → durable_refusal b None a room ≡ None → room ≡ true
room_with b a true may = refl
room_with b a false may = absurd cc

address_with : (b : BookView) (x : Terminus) (a : AnAttach) (room : Bool) → durable_refusal b (Some x) a room ≡ None → x.address ≡ wanted_address a
address_with b x a room may = (bytes_eq-Decides x.address (wanted_address a)).0 (by (same_bytes x.address (wanted_address a)) may)
  where
    by : (q : Bool) → (if q then None else Some NotAllowed) ≡ None → q ≡ true
    by true may = refl
    by false may = absurd cc

-- the answer to an attach after the acts of its event
pub answer_after : (acts : List Act) (full : List ℕ) (t : List Entry) (c : ℕ) (p : Conn) (sasl : Bool) (channel : ℕ) (a : AnAttach) (payload : List ℕ)
    → answer_of (Booked acts full ∷ t) c p (item.Frame sasl channel (perf.Attach a) payload)
    ≡ answer_at (finds_full (journaled t) t (event.Item (record { 0 = c }) (item.Frame sasl channel (perf.Attach a) payload))) (book_in t) t c p (item.Frame sasl channel (perf.Attach a) payload)
unfolding free_handle first_free_below free_channel
answer_after acts full t c p sasl channel a payload = refl

pub record Makes (t : List Entry) (e : Event) (c : ℕ) (a : AnAttach) : Type 0 where
  pub at : Terminus
  pub there : terminus_of (wanted_key t c a) (book_after_event t e).termini ≡ Some at
  pub address : at.address ≡ wanted_address a

pub makes : (t : List Entry) (from : ConnectionId) (sasl : Bool) (channel : ℕ) (a : AnAttach) (payload : List ℕ) (p : Conn) (own : ℕ)
    → standing (found t (event.Item from (item.Frame sasl channel (perf.Attach a) payload)) from.0) ≡ Some p
    → answer_of (booked t (event.Item from (item.Frame sasl channel (perf.Attach a) payload))) from.0 p (item.Frame sasl channel (perf.Attach a) payload) ≡ Attach own
    → wants_durable a ≡ true → Makes t (event.Item from (item.Frame sasl channel (perf.Attach a) payload)) from.0 a
makes t from sasl channel a payload p own stands answers wants = by (terminus_of key b.termini) refl refusal
  where
    i : Item
    i = item.Frame sasl channel (perf.Attach a) payload

    e : Event
    e = event.Item from i

    b : BookView
    b = book_in t

    key : LinkKey
    key = wanted_key t from.0 a

    x : Terminus
    x = new_terminus b key (wanted_address a)

    full : Bool
    full = finds_full (journaled t) t e

    admitted : List Act
    admitted = admitted_acts full b t e

    at : answer_at full b t from.0 p i ≡ Attach own
    at = sym (answer_after (acts_of t e) (due t e) t from.0 p sasl channel a payload) ∙ answers

    answer : event_answer full b t e ≡ Attach own
    answer = ap (live_answer full b t from.0 i) stands ∙ at

    refusal : durable_refusal b (terminus_of key b.termini) a (has_room full b x) ≡ None
    refusal =
        ap (λ (d : Bool). if d then durable_refusal b (terminus_of key b.termini) a (has_room full b x) else None) (sym wants)
        ∙ (attach_only (free_handle t from.0) (book_refusal full b t from.0 a) (item_reply p (finds t from.0) i) own at).0

    ds : List Decision
    ds = decided b t e (Attach own)

    numbers : List RowNumber
    numbers = forgotten b t e (Attach own)

    acts : terminus_of key (book_after_event t e).termini ≡ terminus_of key (effects b (or_admits (settled_acts b ds numbers (Some (terminus.Make x))) admitted)).termini
    acts =
        ap (λ (y : Answer). terminus_of key (effects b (or_admits (answer_acts b t e y) admitted)).termini) answer
        ∙ ap (λ (d : Bool). terminus_of key (effects b (or_admits (settled_acts b ds numbers (if d then Some (terminus.Make x) else None)) admitted)).termini) wants

    by : (o : Option Terminus) → terminus_of key b.termini ≡ o → durable_refusal b o a (has_room full b x) ≡ None → Makes t e from.0 a
    by None none may = record {
      at = x;
      there = acts ∙ makes_terminus full b ds numbers key (wanted_address a) admitted none (room_with b a (has_room full b x) may);
      address = refl;
    }
    by (Some y) found may = record {
      at = y;
      there = acts ∙ stays_terminus b ds numbers key (wanted_address a) y admitted found (admitted_keep full b t e);
      address = address_with b y a (has_room full b x) may;
    }

-- the names that a connection's links have

pub record SameNames (t u : List Entry) (c : ℕ) : Type 0 where
  pub who : user u c ≡ user t c
  pub from : container u c ≡ container t c

names_self : (t : List Entry) (c : ℕ) → SameNames t t c
names_self t c = record { who = refl; from = refl }

pub names_on : (t u v : List Entry) (c : ℕ) → SameNames t u c → SameNames u v c → SameNames t v c
names_on t u v c f g = record { who = g.who ∙ f.who; from = g.from ∙ f.from }

names_beside : (t : List Entry) (d c : ℕ) (i : Item) → (d == c) ≡ false → SameNames t (Out d i ∷ t) c
names_beside t d c i apart = record { who = rw apart refl; from = rw apart refl }

names_puts : (is : List Item) (t : List Entry) (d c : ℕ) → (d == c) ≡ false → SameNames t (puts d is t) c
names_puts [] t d c apart = names_self t c
names_puts (i ∷ is) t d c apart = names_on t (Out d i ∷ t) (puts d is (Out d i ∷ t)) c (names_beside t d c i apart) (names_puts is (Out d i ∷ t) d c apart)

ends_names : (id : List ℕ) (ds : List ℕ) (t : List Entry) (c : ℕ) → has c ds ≡ false → SameNames t (ends id ds t) c
ends_names id [] t c spared = names_self t c
ends_names id (d ∷ ds) t c spared =
    let items : List Item = closing_of id (conn t d) ResourceLimitExceeded
    in by_test (d == c)
    (λ e. absurd (not_both (rw e at spared)))
    (λ e. names_on t (puts d items t) (ends id ds (puts d items t)) c (names_puts items t d c e) (ends_names id ds (puts d items t) c (rw e at spared)))
  where
    not_both : true ≡ false → ⊥
    not_both e = absurd cc

attach_names : (t : List Entry) (from : ConnectionId) (sasl : Bool) (channel : ℕ) (a : AnAttach) (payload : List ℕ) (s : Step)
    → s.event ≡ event.Item from (item.Frame sasl channel (perf.Attach a) payload) → SameNames t (Did s ∷ t) from.0
attach_names t from sasl channel a payload s is = record {
  who = ap (λ (e : Event). user_at e from.0 (user t from.0)) is;
  from = ap (λ (e : Event). container_at e from.0 (container t from.0)) is ∙ by (from.0 == from.0) sasl;
}
  where
    by : (b f : Bool) → (if b then (if f then container t from.0 else container t from.0) else container t from.0) ≡ container t from.0
    by true true = refl
    by true false = refl
    by false f = refl

bound_names : (b : Option Binding) (t : List Entry) (c : ℕ) → SameNames t (with_bound b t) c
bound_names None t c = names_self t c
bound_names (Some b) t c = record { who = refl; from = refl }

pub detach_names : (t : List Entry) (d own handle c : ℕ) (closed : Bool) (e : Option Condition) → SameNames t (Out d (detach_item own handle closed e) ∷ t) c
detach_names t d own handle c closed e = record { who = by_test (d == c) (λ q. rw q refl) (λ q. rw q refl); from = by_test (d == c) (λ q. rw q refl) (λ q. rw q refl) }

-- a trace in which the attach of an event can be answered: the connection's names are as before the event, and the book is after its acts
pub record Stands (t : List Entry) (e : Event) (c : ℕ) (w : List Entry) : Type 0 where
  pub names : SameNames t w c
  pub book : book_in w ≡ book_after_event t e

pub key_there : (t w : List Entry) (c : ℕ) (a : AnAttach) (h : ℕ) → SameNames t w c → key_at w c (answer_to a h) ≡ wanted_key t c a
key_there t w c a h names =
    answer_key w c a h
    ∙ ap (λ (who : Option (List ℕ)). key_of who (container w c) (plain_answer a 0)) names.who
    ∙ ap (λ (from : Option Container). key_of (user t c) from (plain_answer a 0)) names.from

abbrev Answers : List Entry → Event → ℕ → AnAttach → Type 0
Answers t e c a = wants_durable a ≡ true → Makes t e c a

asked_kept : (t w : List Entry) (e : Event) (c : ℕ) (a : AnAttach) (h : ℕ) → Answers t e c a → Stands t e c w
    → Asks (answer_to a h) (terminus_of (key_at w c (answer_to a h)) (book_in w).termini)
asked_kept t w e c a h made stands =
    subst (λ (k : LinkKey). Asks (answer_to a h) (terminus_of k (book_in w).termini)) (sym (key_there t w c a h stands.names))
    (subst (λ (b : BookView). Asks (answer_to a h) (terminus_of key b.termini)) (sym stands.book)
    (answer_kept a h (terminus_of key (book_after_event t e).termini) (by_test (wants_durable a) durable other_link)))
  where
    key : LinkKey
    key = wanted_key t c a

    Wanted : Bool → Type 0
    Wanted d = kept_if d (address_by (other a.role) a) (terminus_of key (book_after_event t e).termini)

    durable : wants_durable a ≡ true → Wanted (wants_durable a)
    durable wants =
        subst Wanted (sym wants) (made_kept a (terminus_of key (book_after_event t e).termini) (made wants).at (made wants).there (made wants).address)

    other_link : wants_durable a ≡ false → Wanted (wants_durable a)
    other_link wants = subst Wanted (sym wants) tt

-- an attach that is taken

answer_there : (t w : List Entry) (e : Event) (c own largest : ℕ) (free : Option ℕ) (ours : List UnsettledDelivery) (a : AnAttach) → Answers t e c a → Stands t e c w → Kept w
    → Kept (goes (each_to c (attach_answer largest own free ours a)) w)
answer_there t w e c own largest None ours a made stands was = was
answer_there t w e c own largest (Some h) ours a made stands was = by (fits largest (attach_item own answer)) (not (is_durable answer.role answer))
  where
    answer : AnAttach
    answer = with_map ours (answer_to a h)

    asked_there : Asks answer (terminus_of (key_at w c answer) (book_in w).termini)
    asked_there =
        subst (λ (k : LinkKey). Asks answer (terminus_of k (book_in w).termini)) (sym (mapped_key ours w c (answer_to a h)))
        (mapped_kept ours (answer_to a h) (terminus_of (key_at w c (answer_to a h)) (book_in w).termini) (asked_kept t w e c a h made stands))

    by : (b closed : Bool) → Kept (goes (each_to c (if b then attach_item own answer ∷ [] else detach_item own h closed (Some FrameSizeTooSmall) ∷ [])) w)
    by true closed = (asked_there, was)
    by false closed = (tt, was)

taken_kept : (t u w : List Entry) (e : Event) (c own : ℕ) (ours : List UnsettledDelivery) (a : AnAttach) → Answers t e c a → Stands t e c w → Kept w → Kept (goes (taken u c own ours a) w)
taken_kept t u w e c own ours a made stands was = by (holder u (key_at u c (answer_to a 0)))
  where
    by : (x : Option Attachment) → Kept (goes (taken_after u c own ours a (stolen_by x)) w)
    by None = answer_there t w e c own (largest_frame u c) (free_handle u c own) ours a made stands was
    by (Some x) =
        let out : Item = detach_item x.channel x.handle false (Some Stolen) in
        answer_there t (Out x.conn.0 out ∷ w) e c own (largest_frame u c) (free_handle (Out x.conn.0 out ∷ u) c own) ours a made
        (record { names = names_on t w (Out x.conn.0 out ∷ w) c stands.names (detach_names w x.conn.0 x.channel x.handle c false (Some Stolen)); book = stands.book }) (tt, was)

-- an event with all that it put out

more_none : (c : ℕ) (is : List Item) → Attachless (each_to c is) → Attachless (each_to c is ++ [])
more_none c is less = subst (λ (ps : List Put). Attachless ps) (sym (append-nil (each_to c is))) less

attach_row : (id : List ℕ) (t u w : List Entry) (from : ConnectionId) (sasl : Bool) (channel : ℕ) (a : AnAttach) (payload : List ℕ)
    → ((p : Conn) → standing (found t (event.Item from (item.Frame sasl channel (perf.Attach a) payload)) from.0) ≡ Some p
    → Stands t (event.Item from (item.Frame sasl channel (perf.Attach a) payload)) from.0 w) → Kept w
    → (v : Option Conn) → standing (found t (event.Item from (item.Frame sasl channel (perf.Attach a) payload)) from.0) ≡ v
    → Kept (goes (item_row id (booked t (event.Item from (item.Frame sasl channel (perf.Attach a) payload))) u from.0 (item.Frame sasl channel (perf.Attach a) payload) v) w)
attach_row id t u w from sasl channel a payload stands was None none = was
attach_row id t u w from sasl channel a payload stands was (Some p) here = by (answer_of (booked t e) from.0 p i) refl
  where
    i : Item
    i = item.Frame sasl channel (perf.Attach a) payload

    e : Event
    e = event.Item from i

    by : (x : Answer) → answer_of (booked t e) from.0 p i ≡ x → Kept (goes (item_put id (booked t e) u from.0 p i x) w)
    by (Attach own) answers = taken_kept t u w e from.0 own (map_told (booked t e) from.0 a (Attach own)) a (λ wants. makes t from sasl channel a payload p own here answers wants) (stands p here) was
    by (Refuse own handle x) answers = refused_kept w (largest_frame u from.0) from.0 own handle x a was
    by x answers = goes_kept (each_to from.0 (said id p x) ++ []) w (more_none from.0 (said id p x) (less_said id from.0 p x)) was

-- the trace in which the row of an attach is put
pub attach_stands : (id : List ℕ) (t : List Entry) (from : ConnectionId) (sasl : Bool) (channel : ℕ) (a : AnAttach) (payload : List ℕ) (s : Step) (b : Option Binding)
    → s.event ≡ event.Item from (item.Frame sasl channel (perf.Attach a) payload) → (p : Conn)
    → standing (found t (event.Item from (item.Frame sasl channel (perf.Attach a) payload)) from.0) ≡ Some p
    → Stands t (event.Item from (item.Frame sasl channel (perf.Attach a) payload)) from.0
    (with_bound b (ends id (due t (event.Item from (item.Frame sasl channel (perf.Attach a) payload))) (Did s ∷ booked t (event.Item from (item.Frame sasl channel (perf.Attach a) payload)))))
attach_stands id t from sasl channel a payload s b is p here =
    let e : Event = event.Item from (item.Frame sasl channel (perf.Attach a) payload) in
    let at : List Entry = Did s ∷ booked t e in
    let u : List Entry = ends id (due t e) at in
    let live : FoundLive t e from.0 = found_live t e from.0 (ap (λ (v : Option Conn). is_some v) here) in
    let before : SameNames t (booked t e) from.0 = record { who = refl; from = refl } in
    let came : SameNames t at from.0 = names_on t (booked t e) at from.0 before (attach_names (booked t e) from sasl channel a payload s is) in
    record {
      names = names_on t u (with_bound b u) from.0 (names_on t at u from.0 came (ends_names id (due t e) at from.0 live.spared)) (bound_names b u from.0);
      book = ap (λ (j : Journaled). j.book) (bound_book b u ∙ ends_book id (due t e) at);
    }

row_kept : (id : List ℕ) (t : List Entry) (s : Step) (e : Event) → s.event ≡ e → (b : Option Binding)
    → Kept (with_bound b (ends id (due t e) (Did s ∷ booked t e)))
    → Kept (goes (own_row id (booked t e) (ends id (due t e) (Did s ∷ booked t e)) e) (with_bound b (ends id (due t e) (Did s ∷ booked t e))))
row_kept id t s (event.Item from (item.Frame sasl channel (perf.Attach a) payload)) is b was =
    let e : Event = event.Item from (item.Frame sasl channel (perf.Attach a) payload) in
    let u : List Entry = ends id (due t e) (Did s ∷ booked t e) in
    attach_row id t u (with_bound b u) from sasl channel a payload (λ p here. attach_stands id t from sasl channel a payload s b is p here) was (standing (found t e from.0)) refl
row_kept id t s e is b was =
    let u : List Entry = ends id (due t e) (Did s ∷ booked t e) in
    goes_kept (own_row id (booked t e) u e) (with_bound b u) (less_row id (booked t e) u e refl) was

passed_kept : Steps Kept
passed_kept = record {
  telling = λ t was. goes_kept (tells t) t (on_less t (tells t) (tells_on t)) was;
  sending = λ t was. goes_kept (sends_due t) t (on_less t (sends_due t) (sends_on t)) was;
  draining = λ t was. goes_kept (drains_due t) t (on_less t (drains_due t) (drains_on t)) was;
  granting = λ t was. goes_kept (grants_due t) t (on_less t (grants_due t) (grants_on t)) was;
}

handled_kept : (id : List ℕ) (t : List Entry) (s : Step) → Kept t → Kept (handled id t s)
handled_kept id t s was =
    let at : List Entry = booked t s.event in
    let u : List Entry = heard id at s in
    let b : Option Binding = bound_by at u s.event in
    let rows : Kept (replied id at s) =
    copied_keeps Kept (λ x v kept. kept) at u s.event (goes (own_row id at u s.event) (with_bound b u))
    (row_kept id t s s.event refl b (bound_kept b u (ends_kept id (due t s.event) (Did s ∷ at) was))) in
    let resumes : List Entry = resumed at s.event (replied id at s) in
    let behind : List Entry = passed_on resumes in
    goes_kept (windows behind) behind (less_windows behind)
    (passed_keeps Kept passed_kept resumes (resumed_keeps Kept (λ bound v kept. kept) at s.event (replied id at s) rows))

pub moves_kept : (id : List ℕ) (ms : List Move) (t u : List Entry) → Kept t → Goes id ms t u → Kept u
moves_kept id [] t u was went = subst Kept (sym went) was
moves_kept id (handles s ∷ ms) t u was went = moves_kept id ms (handled id t s) u (handled_kept id t s was) went.1
moves_kept id (takes x ∷ ms) t u was went = moves_kept id ms (took_one x t) u was went

pub trace_kept : (id : List ℕ) (g : Beginning) (u : List Entry) → IsTrace id g u → Kept u
trace_kept id g u trace = moves_kept id trace.0 (beginning g) u tt trace.1
