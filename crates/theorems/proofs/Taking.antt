-- The link that an attach of a durable link takes is durable, so the deliveries that are bound to it outlive their consumer's connection.
use Rattle.std.proofs.Common.{◌≡◌, ◌∙◌, sym, ap, refl, subst, ℕ, ◌+◌, Bool, true, false, not, ◌&&◌, List, [], ◌∷◌}
use Rattle.std.specs.Prelude.{◌==◌, Option, Some, None, is_some, if◌then◌else◌}
use Rattle.std.proofs.lemmas.Bool.{eq-eqb}
use Rattle.amqp_model.specs.declared.perf.Attach.{Attach as AnAttach}
use Rattle.amqp_model.specs.declared.perf.Perf.TheVariants as perf
use Rattle.amqp_model.specs.declared.perf.Role.{Role}
use Rattle.amqp_model.specs.declared.perf.Role.TheVariants.{Sender, Receiver}
use Rattle.amqp_model.specs.declared.state.UnsettledDelivery.{UnsettledDelivery}
use Rattle.amqp_model.specs.declared.terminus.SourceTerminus.{SourceTerminus}
use Rattle.amqp_model.specs.declared.terminus.SourceTerminus.TheVariants as source
use Rattle.amqp_model.specs.declared.terminus.TargetTerminus.{TargetTerminus}
use Rattle.amqp_model.specs.declared.terminus.TargetTerminus.TheVariants as target
use Rattle.amqp_model.specs.declared.item.Item.{Item}
use Rattle.amqp_model.specs.declared.item.Item.TheVariants as item
use Rattle.amqp_conn.specs.declared.conn.Conn.{Conn}
use Rattle.book_model.specs.declared.terminus.LinkKey.{LinkKey}
use Rattle.router_trace.specs.declared.condition.Condition.TheVariants.{Stolen, FrameSizeTooSmall}
use Rattle.router_trace.specs.declared.event.Event.{Event}
use Rattle.router_trace.specs.declared.event.Event.TheVariants as event
use Rattle.router_trace.specs.declared.handle.Attachment.{Attachment}
use Rattle.router_trace.specs.Trace.{Trace, Did, Out, Step, goes, each_to}
use Rattle.router_trace.specs.Connection.{standing, found, due}
use Rattle.router_trace.specs.Durable.{is_lasting_source, is_lasting_target, is_durable}
use Rattle.router_trace.specs.Following.{link_of}
use Rattle.router_trace.specs.LinkFrames.{other, source_answer, target_answer, plain_answer, lasting_source, lasting_target, lasting_by, answer_to, attach_item, detach_item, fits}
use Rattle.router_trace.specs.Links.{Link, address_by, attachments, attached, asked, key_at, free_handle, link, has_number, is_attached, if_attached, same_key, last_of_key, holder, durable_key}
use Rattle.router_trace.specs.Peers.{largest_frame}
use Rattle.state_messages.specs.Asking.{is_consumer, if_consumer, consumer_with}
use Rattle.state_messages.specs.Messages.{lasts, with_bound}
use Rattle.state_connections.proofs.Lists.{by_test}
use Rattle.reply_rows.specs.declared.answer.Answer.{Answer}
use Rattle.reply_rows.specs.declared.answer.Answer.TheVariants.{Attach}
use Rattle.reply_rows.specs.Booking.{wanted_key, wants_durable}
use Rattle.reply_rows.specs.Acts.{booked, answer_of, answer_by, answer_to_event}
use Rattle.reply_rows.specs.Asking.{receives, if_receives, key_taken, resumed_key}
use Rattle.router_reply.specs.Replies.{ends, with_map, map_told, attach_answer, taken_after, taken, stolen_by, bound_for, copied_for, item_put, item_bound, item_copied, item_row, replied_after, replied}
use Rattle.theorems.proofs.Answering.{attach_finds}
use Rattle.theorems.proofs.Attaching.{AttachAt, attached_link, held_is, held_where, numbered_link, detached_none}
use Rattle.theorems.proofs.Keeping.{outlives_same, mapped_key}
use Rattle.theorems.proofs.Standing.{attaches, key_itself, out_link}
use Rattle.theorems.proofs.Tests.{some_same, none_not_some}

clash : false ≡ true → ⊥
clash e = cc

-- the answer to an attach of a durable link is one of a durable link

source_same : (s : Option SourceTerminus) → is_lasting_source (source_answer s) ≡ is_lasting_source s
source_same (Some (source.Source s)) = outlives_same s.durable
source_same _ = refl

target_same : (x : Option TargetTerminus) → is_lasting_target (target_answer x) ≡ is_lasting_target x
target_same (Some (target.Target x)) = outlives_same x.durable
target_same _ = refl

plain_same : (r : Role) (a : AnAttach) (h : ℕ) → is_durable r (plain_answer a h) ≡ is_durable r a
plain_same Sender a h = source_same a.source
plain_same Receiver a h = target_same a.target

source_stays : (s : Option SourceTerminus) → is_lasting_source (lasting_source s) ≡ is_lasting_source s
source_stays (Some (source.Source s)) = refl
source_stays _ = refl

target_stays : (x : Option TargetTerminus) → is_lasting_target (lasting_target x) ≡ is_lasting_target x
target_stays (Some (target.Target x)) = refl
target_stays _ = refl

by_role : (r : Role) (p : AnAttach) → p.role ≡ r → is_durable r p ≡ true → is_durable (lasting_by r p).role (lasting_by r p) ≡ true
by_role Sender p role is = ap (λ (r : Role). is_durable r (lasting_by Sender p)) role ∙ source_stays p.source ∙ is
by_role Receiver p role is = ap (λ (r : Role). is_durable r (lasting_by Receiver p)) role ∙ target_stays p.target ∙ is

lasting_durable : (p : AnAttach) (q : Bool) → is_durable p.role p ≡ true → q ≡ true → is_durable (if q then lasting_by p.role p else p).role (if q then lasting_by p.role p else p) ≡ true
lasting_durable p true is e = by_role p.role p refl is
lasting_durable p false is e = is

answer_durable : (a : AnAttach) (h : ℕ) → wants_durable a ≡ true → is_durable (answer_to a h).role (answer_to a h) ≡ true
answer_durable a h wants =
    let is : is_durable (other a.role) (plain_answer a h) ≡ true = plain_same (other a.role) a h ∙ wants in
    lasting_durable (plain_answer a h) (is_durable (other a.role) (plain_answer a h)) is is

mapped_durable : (ours : List UnsettledDelivery) (p : AnAttach) → is_durable (with_map ours p).role (with_map ours p) ≡ is_durable p.role p
mapped_durable [] p = refl
mapped_durable (d ∷ ds) p = by p.role
  where
    by : (r : Role) → is_durable r (with_map (d ∷ ds) p) ≡ is_durable r p
    by Sender = refl
    by Receiver = refl

-- what attaches nothing leaves no link with a key where none was
still_none : (d : ℕ) (i : Item) (w : Trace) (k : LinkKey) (x : Attachment) → ((o h : ℕ) → attaches i o h ≡ false) → last_of_key (Out d i ∷ w) k ≡ last_of_key w k → holder w k ≡ None
    → holder (Out d i ∷ w) k ≡ Some x → ⊥
still_none d i w k x quiet last none is =
    let v : Trace = Out d i ∷ w in
    let now = held_is v (last_of_key v k) x is in
    let here = attached_link x (link v x.conn.0 x.channel x.handle) now.1 in
    let was = out_link d i w x.conn.0 x.channel x.handle here.0 (quiet x.channel x.handle) here.1 in
    none_not_some (sym none ∙ held_where w (last_of_key w k) x (sym last ∙ now.0)
    (numbered_link x.number (link w x.conn.0 x.channel x.handle) was.before was.there (sym was.same.number ∙ here.2)))

-- an attach that is put
attached_durable : (w : Trace) (c own : ℕ) (p : AnAttach) (k : LinkKey) (x : Attachment) → key_at w c p ≡ k → is_durable p.role p ≡ true → holder w k ≡ None
    → holder (Out c (attach_item own p) ∷ w) k ≡ Some x → lasts (Out c (attach_item own p) ∷ w) x ≡ true
attached_durable w c own p k x keyed durable none is = by (address_by p.role p) refl
  where
    v : Trace
    v = Out c (attach_item own p) ∷ w

    new : Attachment
    new = record { number = attachments w + 1; conn = record { 0 = c }; channel = own; handle = p.handle }

    now : (last_of_key v k ≡ Some x) × (is_attached v x ≡ true)
    now = held_is v (last_of_key v k) x is

    same : same_key (key_at w c p) k ≡ true
    same = ap (λ (j : LinkKey). same_key j k) keyed ∙ key_itself k

    new_lasts : (address : List ℕ) → address_by p.role p ≡ Some address → lasts v new ≡ true
    new_lasts address addressed =
        rw (eq-eqb c c refl, eq-eqb own own refl, eq-eqb p.handle p.handle refl)
        (ap (λ (o : Option (List ℕ)). is_some (durable_key (attached (attachments w + 1) (key_at w c p) p (asked w c) o))) addressed
        ∙ ap (λ (q : Bool). is_some (if q then Some (key_at w c p) else None)) durable)

    pick : (a b : Bool) (o l : Option Link) → o ≡ None → has_number x.number (if a then (if b then o else l) else l) ≡ true → has_number x.number l ≡ true
    pick true true o l nothing here = absurd (clash (sym (ap (has_number x.number) nothing) ∙ here))
    pick true false o l nothing here = here
    pick false b o l nothing here = here

    by : (o : Option (List ℕ)) → address_by p.role p ≡ o → lasts v x ≡ true
    by (Some address) addressed =
        let last : last_of_key v k ≡ Some new =
        ap (λ (o : Option (List ℕ)). if is_some o && same_key (key_at w c p) k then Some new else last_of_key w k) addressed
        ∙ ap (λ (q : Bool). if q then Some new else last_of_key w k) same in
        subst (λ (y : Attachment). lasts v y ≡ true) (some_same (sym last ∙ now.0)) (new_lasts address addressed)
    by None addressed =
        let last : last_of_key v k ≡ last_of_key w k =
        ap (λ (o : Option (List ℕ)). if is_some o && same_key (key_at w c p) k then Some new else last_of_key w k) addressed in
        let before : is_attached w x ≡ true =
        pick (c == x.conn.0) ((own == x.channel) && (p.handle == x.handle)) (attached (attachments w + 1) (key_at w x.conn.0 p) p (asked w x.conn.0) (address_by p.role p))
        (link w x.conn.0 x.channel x.handle) (ap (attached (attachments w + 1) (key_at w x.conn.0 p) p (asked w x.conn.0)) addressed) now.1 in
        absurd (none_not_some (sym none ∙ held_where w (last_of_key w k) x (sym last ∙ now.0) before))

put_durable : (w : Trace) (c own largest : ℕ) (ours : List UnsettledDelivery) (a : AnAttach) (k : LinkKey) (x : Attachment) → ((h : ℕ) → key_at w c (answer_to a h) ≡ k) → wants_durable a ≡ true
    → holder w k ≡ None → holder (goes (each_to c (attach_answer largest own (free_handle w c own) ours a)) w) k ≡ Some x
    → lasts (goes (each_to c (attach_answer largest own (free_handle w c own) ours a)) w) x ≡ true
put_durable w c own largest ours a k x keyed wants none is = by (free_handle w c own) is
  where
    answer : ℕ → AnAttach
    answer h = with_map ours (answer_to a h)

    fit : (h : ℕ) (b : Bool)
        → holder (goes (each_to c (if b then attach_item own (answer h) ∷ [] else detach_item own h (not (is_durable (answer h).role (answer h))) (Some FrameSizeTooSmall) ∷ [])) w) k ≡ Some x
        → lasts (goes (each_to c (if b then attach_item own (answer h) ∷ [] else detach_item own h (not (is_durable (answer h).role (answer h))) (Some FrameSizeTooSmall) ∷ [])) w) x ≡ true
    fit h true is =
        attached_durable w c own (answer h) k x (mapped_key ours w c (answer_to a h) ∙ keyed h) (mapped_durable ours (answer_to a h) ∙ answer_durable a h wants) none is
    fit h false is = absurd (still_none c (detach_item own h (not (is_durable (answer h).role (answer h))) (Some FrameSizeTooSmall)) w k x (λ o j. refl) refl none is)

    by : (v : Option ℕ) → holder (goes (each_to c (attach_answer largest own v ours a)) w) k ≡ Some x → lasts (goes (each_to c (attach_answer largest own v ours a)) w) x ≡ true
    by None is = absurd (none_not_some (sym none ∙ is))
    by (Some h) is = fit h (fits largest (attach_item own (answer h))) is

taken_at : (t u : Trace) (c own : ℕ) (ours : List UnsettledDelivery) (a : AnAttach) (x : Attachment) → AttachAt t u c a → wants_durable a ≡ true
    → holder (goes (taken u c own ours a) u) (wanted_key t c a) ≡ Some x → lasts (goes (taken u c own ours a) u) x ≡ true
taken_at t u c own ours a x at wants is = by (holder u (key_at u c (answer_to a 0))) refl is
  where
    key : LinkKey
    key = wanted_key t c a

    moved : (v : Option Attachment) → holder u (key_at u c (answer_to a 0)) ≡ v → holder u key ≡ v
    moved v is = ap (holder u) (sym (at.key 0)) ∙ is

    none_then : (y : Attachment) → holder u key ≡ Some y → holder (Out y.conn.0 (detach_item y.channel y.handle false (Some Stolen)) ∷ u) key ≡ None
    none_then y is =
        let w : Trace = Out y.conn.0 (detach_item y.channel y.handle false (Some Stolen)) ∷ u in
        let now = held_is u (last_of_key u key) y is in
        ap (if_attached w) now.0
        ∙ ap (λ (v : Option Link). if has_number y.number v then Some y else None) (detached_none u y false (Some Stolen))

    key_then : (y : Attachment) (h : ℕ) → key_at (Out y.conn.0 (detach_item y.channel y.handle false (Some Stolen)) ∷ u) c (answer_to a h) ≡ key
    key_then y h = by_test (y.conn.0 == c) (λ e. rw e (at.key h)) (λ e. rw e (at.key h))

    by : (v : Option Attachment) → holder u (key_at u c (answer_to a 0)) ≡ v → holder (goes (taken_after u c own ours a (stolen_by v)) u) key ≡ Some x
        → lasts (goes (taken_after u c own ours a (stolen_by v)) u) x ≡ true
    by None e is = put_durable u c own (largest_frame u c) ours a key x at.key wants (moved None e) is
    by (Some y) e is =
        put_durable (Out y.conn.0 (detach_item y.channel y.handle false (Some Stolen)) ∷ u) c own (largest_frame u c) ours a key x (key_then y) wants (none_then y (moved (Some y) e)) is

-- an event's

pub consumer_held : (v : Trace) (o : Option Attachment) (x : Attachment) → if_consumer v o ≡ Some x → o ≡ Some x
consumer_held v None x is = absurd (none_not_some is)
consumer_held v (Some y) x is = by (is_consumer (link_of v y)) is
  where
    by : (b : Bool) → (if b then Some y else None) ≡ Some x → Some y ≡ Some x
    by true is = is
    by false is = absurd (none_not_some is)

wish : (w r : Bool) (j k : LinkKey) → (if r then (if w then Some j else None) else None) ≡ Some k → (w ≡ true) × (j ≡ k)
wish true true j k is = (refl, some_same is)
wish false true j k is = absurd (none_not_some is)
wish w false j k is = absurd (none_not_some is)

no_key : (r : Bool) (k : LinkKey) → (if r then None else None) ≡ Some k → ⊥
no_key true k is = none_not_some is
no_key false k is = none_not_some is

event_durable : (id : List ℕ) (t : Trace) (s : Step) (e : Event) → s.event ≡ e → (k : LinkKey) (x : Attachment) → resumed_key (booked t e) e (answer_to_event (booked t e) e) ≡ Some k
    → consumer_with (replied_after id (booked t e) (ends id (due t e) (Did s ∷ booked t e)) e) k ≡ Some x
    → lasts (replied_after id (booked t e) (ends id (due t e) (Did s ∷ booked t e)) e) x ≡ true
event_durable id t s (event.Item from (item.Frame true channel (perf.Attach a) payload)) is k x keyed held = absurd (by (standing (found t e from.0)) keyed)
  where
    i : Item
    i = item.Frame true channel (perf.Attach a) payload

    e : Event
    e = event.Item from i

    by : (v : Option Conn) → resumed_key (booked t e) e (answer_by (booked t e) from.0 i v) ≡ Some k → ⊥
    by None keyed = no_key (receives a.role) k keyed
    by (Some p) keyed = no_key (receives a.role) k keyed
event_durable id t s (event.Item from (item.Frame false channel (perf.Attach a) payload)) is k x keyed held = by (standing (found t e from.0)) refl keyed held
  where
    i : Item
    i = item.Frame false channel (perf.Attach a) payload

    e : Event
    e = event.Item from i

    at : Trace
    at = booked t e

    u : Trace
    u = ends id (due t e) (Did s ∷ at)

    by_answer : (p : Conn) → standing (found t e from.0) ≡ Some p → (y : Answer) → if_receives (Some a) (key_taken at from.0 a y) ≡ Some k
        → consumer_with (copied_for at u from.0 i y (goes (item_put id at u from.0 p i y) (with_bound (bound_for at u from.0 i y) u))) k ≡ Some x
        → lasts (copied_for at u from.0 i y (goes (item_put id at u from.0 p i y) (with_bound (bound_for at u from.0 i y) u))) x ≡ true
    by_answer p here (Attach own) keyed held =
        let wished = wish (wants_durable a) (receives a.role) (wanted_key t from.0 a) k keyed in
        let v : Trace = goes (taken u from.0 own (map_told at from.0 a (Attach own)) a) u in
        taken_at t u from.0 own (map_told at from.0 a (Attach own)) a x (attach_finds id t s from channel a payload p is here) wished.0
        (ap (holder v) wished.1 ∙ consumer_held v (holder v k) x held)
    by_answer p here _ keyed held = absurd (no_key (receives a.role) k keyed)

    by : (v : Option Conn) → standing (found t e from.0) ≡ v → resumed_key at e (answer_by at from.0 i v) ≡ Some k
        → consumer_with (item_copied at u from.0 i v (goes (item_row id at u from.0 i v) (with_bound (item_bound at u from.0 i v) u))) k ≡ Some x
        → lasts (item_copied at u from.0 i v (goes (item_row id at u from.0 i v) (with_bound (item_bound at u from.0 i v) u))) x ≡ true
    by None here keyed held = absurd (no_key (receives a.role) k keyed)
    by (Some p) here keyed held = by_answer p here (answer_of at from.0 p i) keyed held
event_durable id t s (event.Item from (item.Frame sasl channel _ payload)) is k x keyed held = absurd (none_not_some keyed)
event_durable id t s (event.Item from _) is k x keyed held = absurd (none_not_some keyed)
event_durable id t s _ is k x keyed held = absurd (none_not_some keyed)

pub taken_durable : (id : List ℕ) (t : Trace) (s : Step) (k : LinkKey) (x : Attachment) → resumed_key (booked t s.event) s.event (answer_to_event (booked t s.event) s.event) ≡ Some k
    → consumer_with (replied id (booked t s.event) s) k ≡ Some x → lasts (replied id (booked t s.event) s) x ≡ true
taken_durable id t s k x keyed held = event_durable id t s s.event refl k x keyed held
