-- What the answer to an item is put to, and the message that an event binds.
use Rattle.std.proofs.Common.{◌≡◌, ◌∙◌, sym, ap, refl, subst, inr, ℕ, ◌+◌, ◌<◌, Bool, true, false, ◌&&◌, List, [], ◌∷◌, ◌++◌, arith}
use Rattle.std.specs.Prelude.{◌==◌, nat_lt, Option, Some, None, Result, Ok, Err, is_some, is_none, option_map, if◌then◌else◌}
use Rattle.std.proofs.lemmas.Bool.{eqb-true, eq-eqb}
use Rattle.amqp_model.specs.declared.perf.Attach.{Attach as AnAttach}
use Rattle.amqp_model.specs.declared.perf.Perf.TheVariants as perf
use Rattle.amqp_model.specs.declared.perf.Transfer.{Transfer}
use Rattle.amqp_model.specs.declared.item.Item.{Item}
use Rattle.amqp_model.specs.declared.item.Item.TheVariants as item
use Rattle.amqp_conn.specs.declared.conn.Conn.{Conn}
use Rattle.amqp_conn.specs.declared.fault.ConnFault.{ConnFault}
use Rattle.amqp_conn.specs.declared.fault.ConnFault.TheVariants.{ChannelTooHigh}
use Rattle.amqp_conn.specs.Phase.{frame_in_turn}
use Rattle.book_model.specs.declared.act.Act.{Act}
use Rattle.book_model.specs.declared.act.Act.TheVariants.{Admit}
use Rattle.book_model.specs.declared.act.Admission.{Admission}
use Rattle.book_model.specs.declared.fault.BookFault.TheVariants.{NoTerminus}
use Rattle.book_model.specs.declared.row.Row.{Row as ARow}
use Rattle.book_model.specs.declared.row.RowNumber.{RowNumber}
use Rattle.book_model.specs.declared.terminus.LinkKey.{LinkKey}
use Rattle.book_model.specs.declared.terminus.LinkRole.TheVariants.{Producer, Consumer}
use Rattle.book_model.specs.declared.terminus.Terminus.{Terminus}
use Rattle.book_model.specs.declared.terminus.TerminusNumber.{TerminusNumber}
use Rattle.book_model.specs.Book.{BookView, row_at, terminus_at, terminus_of, same_role, has_role, may_bind as may_be_bound, admitted, effect, effects}
use Rattle.book_model.specs.Sound.{IsSound}
use Rattle.book_core.specs.Rising.{Rises, AllAbove, AllBelow}
use Rattle.gate_journal.specs.Ordered.{IsOrdered, number_of_row, number_of_terminus}
use Rattle.journal_store.proofs.Conditions.{holds, next_holds}
use Rattle.router_trace.specs.declared.binding.Holding.TheVariants as holding
use Rattle.router_trace.specs.declared.binding.Binding.{Binding}
use Rattle.router_trace.specs.declared.binding.BindingKind.{BindingKind}
use Rattle.router_trace.specs.declared.binding.BindingKind.TheVariants as kind
use Rattle.router_trace.specs.declared.binding.Origin.{Origin}
use Rattle.router_trace.specs.declared.condition.Condition.{Condition}
use Rattle.router_trace.specs.declared.condition.Condition.TheVariants.{ResourceLimitExceeded}
use Rattle.router_trace.specs.declared.event.ConnectionId.{ConnectionId}
use Rattle.router_trace.specs.declared.event.Event.{Event}
use Rattle.router_trace.specs.declared.event.Event.TheVariants as event
use Rattle.router_trace.specs.declared.handle.Asked.{Asked}
use Rattle.router_trace.specs.declared.handle.PeerHandle.{PeerHandle}
use Rattle.router_trace.specs.declared.handle.PeerHandle.TheVariants.{Mapped, Detaching}
use Rattle.router_trace.specs.Trace.{Trace, Did, Out, Step, puts}
use Rattle.router_trace.specs.Connection.{Connection, conn, standing, found, due, has}
use Rattle.router_trace.specs.Deliveries.{either_origin, bound, brought, is_message, origin_of, outcome_in, presettles, name_in, rank_in, told_of}
use Rattle.router_trace.specs.Following.{link_of, is_sending}
use Rattle.router_trace.specs.Frames.{open_item, close_item}
use Rattle.router_trace.specs.Links.{Link, LinkPlace, nowhere, detaching, on, asked, asked_at, asked_of, answered_handle, is_lost, link, link_place, link_place_by, on_link, their_handle, last_of_key, free_handle, durable_key}
use Rattle.router_trace.specs.Sessions.{theirs}
use Rattle.reply_rows.specs.declared.answer.Answer.{Answer}
use Rattle.reply_rows.specs.declared.answer.Answer.TheVariants.{Attach, Refuse}
use Rattle.reply_rows.specs.Booking.{refuse_on, booked_attach, book_refusal, answer_at}
use Rattle.reply_rows.specs.Finding.{finds}
use Rattle.reply_rows.specs.LinkRows.{refusal, attach_or, attach_fresh, attach_at, session_attach_reply}
use Rattle.reply_rows.specs.Rows.{Finds, Links, attach_reply, out_of_turn, turn_by, item_reply}
use Rattle.router_trace.specs.Sessions as sessions
use Rattle.reply_rows.specs.Acts.{book_in, booked}
use Rattle.reply_rows.specs.Admitting.{terminus_for}
use Rattle.router_reply.specs.Replies.{closing_of, ends, heard, bound_by}
use Rattle.state_connections.proofs.Lists.{by_test}
use Rattle.router_core.proofs.Replied.{FoundLive, found_live}
use Rattle.theorems.specs.Came.{BindsAs, BindsByKind, BindsMessage}
use Rattle.theorems.specs.Admitted.{IsFromTerminus, IsAdmitted, IsAdmittedUnder}
use Rattle.theorems.proofs.Admitted.{is_taken_up, bound_row, bound_not_taken}
use Rattle.theorems.proofs.AllSound.{event_binds}
use Rattle.theorems.proofs.Attaching.{AttachAt}
use Rattle.theorems.proofs.Claimed.{HasClaim}
use Rattle.theorems.proofs.Facts.{FromTerminus, Agrees, RowFact}
use Rattle.theorems.proofs.Held.{can_have}
use Rattle.theorems.proofs.Joins.{CanBind, can_join}
use Rattle.theorems.proofs.Keeping.{Stands, key_there, attach_stands}
use Rattle.theorems.proofs.Looking.{found_new}
use Rattle.theorems.proofs.Rowing.{Receives, MayBind, can_message}
use Rattle.theorems.proofs.Rows.{since}
use Rattle.theorems.proofs.Settling.{found_at_number}
use Rattle.theorems.proofs.Sound.{Sound}
use Rattle.theorems.proofs.Standing.{WasLink, did_link, out_link, was_link_on, same_link, did_way}
use Rattle.theorems.proofs.Tests.{some_same, none_not_some}
use Rattle.reply_rows.proofs.Transfers.{IsOn}

clash : true ≡ false → ⊥
clash e = cc

-- what the closes of other connections leave of one

pub record SameView (t u : Trace) (c : ℕ) : Type 0 where
  pub links : (o h : ℕ) → link u c o h ≡ link t c o h
  pub answered : (o h : ℕ) → answered_handle u c o h ≡ answered_handle t c o h
  pub came : asked u c ≡ asked t c

view_it : (t : Trace) (c : ℕ) → SameView t t c
view_it t c = record { links = λ o h. refl; answered = λ o h. refl; came = refl }

view_on : (t u v : Trace) (c : ℕ) → SameView t u c → SameView u v c → SameView t v c
view_on t u v c f g = record { links = λ o h. g.links o h ∙ f.links o h; answered = λ o h. g.answered o h ∙ f.answered o h; came = g.came ∙ f.came }

view_beside : (t : Trace) (d c : ℕ) (i : Item) → (d == c) ≡ false → SameView t (Out d i ∷ t) c
view_beside t d c i apart = record { links = λ o h. rw apart refl; answered = λ o h. rw apart refl; came = rw apart refl }

view_puts : (is : List Item) (t : Trace) (d c : ℕ) → (d == c) ≡ false → SameView t (puts d is t) c
view_puts [] t d c apart = view_it t c
view_puts (i ∷ is) t d c apart = view_on t (Out d i ∷ t) (puts d is (Out d i ∷ t)) c (view_beside t d c i apart) (view_puts is (Out d i ∷ t) d c apart)

pub ends_view : (id : List ℕ) (ds : List ℕ) (t : Trace) (c : ℕ) → has c ds ≡ false → SameView t (ends id ds t) c
ends_view id [] t c spared = view_it t c
ends_view id (d ∷ ds) t c spared =
    let items : List Item = closing_of id (conn t d) ResourceLimitExceeded in
    by_test (d == c)
    (λ e. absurd (clash (rw e at spared)))
    (λ e. view_on t (puts d items t) (ends id ds (puts d items t)) c (view_puts items t d c e) (ends_view id ds (puts d items t) c (rw e at spared)))

-- closes attach nothing

closing_key : (id : List ℕ) (v : Option Connection) (x : Condition) (d : ℕ) (w : Trace) (k : LinkKey) → last_of_key (puts d (closing_of id v x) w) k ≡ last_of_key w k
closing_key id None x d w k = refl
closing_key id (Some v) x d w k = by v.phase.opened
  where
    by : (b : Bool) → last_of_key (puts d (if b then close_item (Some x) ∷ [] else open_item id ∷ close_item (Some x) ∷ []) w) k ≡ last_of_key w k
    by true = refl
    by false = refl

ends_key : (id : List ℕ) (ds : List ℕ) (w : Trace) (k : LinkKey) → last_of_key (ends id ds w) k ≡ last_of_key w k
ends_key id [] w k = refl
ends_key id (d ∷ ds) w k = ends_key id ds (puts d (closing_of id (conn w d) ResourceLimitExceeded) w) k ∙ closing_key id (conn w d) ResourceLimitExceeded d w k

link_itself : (w : Trace) (c o h : ℕ) (m : Link) → link w c o h ≡ Some m → WasLink w c o h m
link_itself w c o h m is = record { before = m; there = is; same = same_link m }

closing_links : (id : List ℕ) (v : Option Connection) (x : Condition) (d : ℕ) (w : Trace) (c o h : ℕ) (m : Link) → link (puts d (closing_of id v x) w) c o h ≡ Some m → WasLink w c o h m
closing_links id None x d w c o h m is = link_itself w c o h m is
closing_links id (Some v) x d w c o h m is = by v.phase.opened is
  where
    by : (b : Bool) → link (puts d (if b then close_item (Some x) ∷ [] else open_item id ∷ close_item (Some x) ∷ []) w) c o h ≡ Some m → WasLink w c o h m
    by true is = out_link d (close_item (Some x)) w c o h m refl is
    by false is =
        was_link_on w (Out d (open_item id) ∷ w) c o h m
        (λ l there. out_link d (open_item id) w c o h l refl there)
        (out_link d (close_item (Some x)) (Out d (open_item id) ∷ w) c o h m refl is)

ends_links : (id : List ℕ) (ds : List ℕ) (w : Trace) (c o h : ℕ) (m : Link) → link (ends id ds w) c o h ≡ Some m → WasLink w c o h m
ends_links id [] w c o h m is = link_itself w c o h m is
ends_links id (d ∷ ds) w c o h m is =
    was_link_on w (puts d (closing_of id (conn w d) ResourceLimitExceeded) w) c o h m
    (λ l there. closing_links id (conn w d) ResourceLimitExceeded d w c o h l there)
    (ends_links id ds (puts d (closing_of id (conn w d) ResourceLimitExceeded) w) c o h m is)

-- an attach finds these

came_asked : (b : Bool) (v : Option Asked) (a : AnAttach) → b ≡ true → is_some (if b then Some (asked_of a) else v) ≡ true
came_asked true v a e = refl
came_asked false v a e = absurd (clash (sym e))

pub attach_finds : (id : List ℕ) (t : Trace) (s : Step) (from : ConnectionId) (channel : ℕ) (a : AnAttach) (payload : List ℕ) (p : Conn) → s.event ≡ event.Item from (item.Frame false channel (perf.Attach a) payload)
    → standing (found t (event.Item from (item.Frame false channel (perf.Attach a) payload)) from.0) ≡ Some p
    → AttachAt t (ends id (due t (event.Item from (item.Frame false channel (perf.Attach a) payload))) (Did s ∷ booked t (event.Item from (item.Frame false channel (perf.Attach a) payload)))) from.0 a
attach_finds id t s from channel a payload p is here =
    let e : Event = event.Item from (item.Frame false channel (perf.Attach a) payload) in
    let at : Trace = booked t e in
    let u : Trace = ends id (due t e) (Did s ∷ at) in
    let c : ℕ = from.0 in
    let live : FoundLive t e c = found_live t e c (ap (λ (v : Option Conn). is_some v) here) in
    let view : SameView (Did s ∷ at) u c = ends_view id (due t e) (Did s ∷ at) c live.spared in
    let stands : Stands t e c u = attach_stands id t from false channel a payload s None is p here in
    record {
      key = λ h. key_there t u c a h stands.names;
      answered = λ o h. view.answered o h ∙ ap (λ (x : Event). if is_lost x c then None else answered_handle t c o h) is;
      came = ap is_some view.came ∙ ap (λ (x : Event). is_some (asked_at x c (asked t c))) is ∙ came_asked (c == c) (asked t c) a (eq-eqb c c refl);
      last = λ k. ends_key id (due t e) (Did s ∷ at) k;
      links = λ k o h m there.
          let was = was_link_on at (Did s ∷ at) k o h m (λ l stood. did_link s at k o h l stood) (ends_links id (due t e) (Did s ∷ at) k o h m there) in
          record { before = was.before; there = was.there; same = was.same };
    }

-- how an attach is answered: taken or refused only if it isn't in a frame of SASL, and refused on a free handle

abbrev pub IfAttach : Bool → (ℕ → Option ℕ) → Answer → Type 0
IfAttach sasl free (Attach own) = sasl ≡ false
IfAttach sasl free (Refuse own handle x) = (sasl ≡ false) × (free own ≡ Some handle)
IfAttach sasl free _ = Unit {0}

attach_by_or : (free : ℕ → Option ℕ) (own handle : ℕ) (r : Option Condition) → free own ≡ Some handle → IfAttach false free (attach_or r own handle)
attach_by_or free own handle None is = refl
attach_by_or free own handle (Some x) is = (refl, is)

attach_by_fresh : (free : ℕ → Option ℕ) (own : ℕ) (v : Option ℕ) (a : AnAttach) → free own ≡ v → IfAttach false free (attach_fresh own v a)
attach_by_fresh free own None a is = tt
attach_by_fresh free own (Some handle) a is = attach_by_or free own handle (refusal a) is

attach_by_place : (free : ℕ → Option ℕ) (own : ℕ) (place : LinkPlace) (a : AnAttach) → IfAttach false free (attach_at own place (free own) a)
attach_by_place free own nowhere a = attach_by_fresh free own (free own) a refl
attach_by_place free own detaching a = tt
attach_by_place free own (on h l) a = tt

attach_by_session : (free : ℕ → Option ℕ) (own : ℕ) (place : LinkPlace) (a : AnAttach) → IfAttach false free (session_attach_reply own place (free own) a)
attach_by_session free own place a = by_test (nat_lt 63 a.handle) (λ e. rw e tt) (λ e. rw e (attach_by_place free own place a))

attach_by_reply : (place : sessions.Place) (links : Links) (free : ℕ → Option ℕ) (a : AnAttach) → IfAttach false free (attach_reply place links free a)
attach_by_reply sessions.nowhere links free a = tt
attach_by_reply sessions.ending links free a = tt
attach_by_reply (sessions.on own h) links free a = attach_by_session free own (links own a.handle) a

attach_by_turn : (k : Finds) (channel : ℕ) (a : AnAttach) (r : Result (Unit {0}) ConnFault) → IfAttach false k.free_handle (turn_by k channel (perf.Attach a) r)
attach_by_turn k channel a (Ok q) = attach_by_reply (k.places channel) k.links k.free_handle a
attach_by_turn k channel a (Err f) = by f
  where
    by : (f : ConnFault) → IfAttach false k.free_handle (out_of_turn f)
    by ChannelTooHigh = tt
    by _ = tt

attach_by_row : (p : Conn) (k : Finds) (sasl : Bool) (channel : ℕ) (a : AnAttach) (payload : List ℕ) → IfAttach sasl k.free_handle (item_reply p k (item.Frame sasl channel (perf.Attach a) payload))
attach_by_row p k true channel a payload = tt
attach_by_row p k false channel a payload = attach_by_turn k channel a (frame_in_turn channel p)

attach_by_book : (sasl : Bool) (free : ℕ → Option ℕ) (r : Option Condition) (y : Answer) → IfAttach sasl free y → IfAttach sasl free (booked_attach free r y)
attach_by_book sasl free None (Attach own) is = is
attach_by_book sasl free (Some x) (Attach own) is = by (free own) refl
  where
    by : (v : Option ℕ) → free own ≡ v → IfAttach sasl free (refuse_on own v x)
    by None there = tt
    by (Some handle) there = (is, there)
attach_by_book sasl free r (Refuse own handle x) is = is
attach_by_book sasl free r _ is = tt

pub attach_answered : (full : Bool) (b : BookView) (t : Trace) (c : ℕ) (p : Conn) (sasl : Bool) (channel : ℕ) (a : AnAttach) (payload : List ℕ)
    → IfAttach sasl (free_handle t c) (answer_at full b t c p (item.Frame sasl channel (perf.Attach a) payload))
attach_answered full b t c p sasl channel a payload =
    attach_by_book sasl (free_handle t c) (book_refusal full b t c a) (item_reply p (finds t c) (item.Frame sasl channel (perf.Attach a) payload)) (attach_by_row p (finds t c) sasl channel a payload)

-- a transfer is taken on a link on which the peer sends

place_link : (v : Option PeerHandle) (known : ℕ → Option Link) (h : ℕ) (l : Link) → link_place_by v known ≡ on h l → known h ≡ Some l
place_link None known h l is = absurd cc
place_link (Some Detaching) known h l is = absurd cc
place_link (Some (Mapped k)) known h l is = by (known k) refl is
  where
    by : (v : Option Link) → known k ≡ v → on_link k v ≡ on h l → known h ≡ Some l
    by None there is = absurd cc
    by (Some m) there is =
        let same : k ≡ h = cc in
        let one : m ≡ l = cc in
        ap known (sym same) ∙ there ∙ ap (λ (x : Link). Some x) one

pub taken_receives : (id : List ℕ) (t : Trace) (s : Step) (from : ConnectionId) (sasl : Bool) (channel : ℕ) (x : Transfer) (payload : List ℕ) (p : Conn) (own handle : ℕ)
    → s.event ≡ event.Item from (item.Frame sasl channel (perf.Transfer x) payload) → standing (found t (event.Item from (item.Frame sasl channel (perf.Transfer x) payload)) from.0) ≡ Some p
    → IsOn sasl (theirs t from.0 channel) (link_place t from.0 own x.handle) own handle
    → Receives (ends id (due t (event.Item from (item.Frame sasl channel (perf.Transfer x) payload))) (Did s ∷ booked t (event.Item from (item.Frame sasl channel (perf.Transfer x) payload)))) from.0 own handle
taken_receives id t s from sasl channel x payload p own handle is here at_link =
    let e : Event = event.Item from (item.Frame sasl channel (perf.Transfer x) payload) in
    let at : Trace = booked t e in
    let c : ℕ = from.0 in
    let live : FoundLive t e c = found_live t e c (ap (λ (v : Option Conn). is_some v) here) in
    let view : SameView (Did s ∷ at) (ends id (due t e) (Did s ∷ at)) c = ends_view id (due t e) (Did s ∷ at) c live.spared in
    let there : link at c own handle ≡ Some at_link.place = place_link (their_handle t c own x.handle) (link t c own) handle at_link.place at_link.on_handle in
    let now = did_way s at c own handle at_link.place there (ap (λ (y : Event). is_lost y c) is) in
    record {
      at = now.0;
      there = view.links own handle ∙ now.1;
      way = now.2 ∙ ap is_sending at_link.receiving;
    }

-- the row of a message that is bound

rises_last : (rs : List ARow) (x : ARow) → Rises number_of_row (rs ++ x ∷ []) → AllBelow number_of_row (number_of_row x) rs
rises_last [] x up = tt
rises_last (r ∷ rs) x up = (last rs up.0, rises_last rs x up.1)
  where
    last : (ys : List ARow) → AllAbove number_of_row (number_of_row r) (ys ++ x ∷ []) → number_of_row r < number_of_row x
    last [] above = above.0
    last (y ∷ ys) above = last ys above.1

one_effect : (b : BookView) (act : Act) → effects b (act ∷ []) ≡ effect b act
unfolding effects
one_effect b act = refl

from_terminus : (u : Trace) (b c : BookView) (p : Origin) (n : TerminusNumber) → IsOrdered b → b.termini ≡ c.termini → has_role Producer (terminus_at n.0 c.termini) ≡ true → (v : Option LinkKey)
    → durable_key (link_of u p.link) ≡ v → terminus_for c v ≡ Some n → FromTerminus u b p n.0
from_terminus u b c p n ordered same role None durable is = absurd (none_not_some is)
from_terminus u b c p n ordered same role (Some key) durable is = by (terminus_of key c.termini) refl is
  where
    role_of : (x : Terminus) → x.number.0 ≡ n.0 → terminus_of key c.termini ≡ Some x → same_role x.key.role Producer ≡ true
    role_of x number found =
        let there : terminus_at n.0 c.termini ≡ Some x =
        subst (λ (k : ℕ). terminus_at k c.termini ≡ Some x) number (found_at_number key c.termini x (let P : List Terminus → Type 0 = λ ts. Rises number_of_terminus ts in subst P same ordered.termini_rise) found) in
        sym (ap (has_role Producer) there) ∙ role

    by : (v : Option Terminus) → terminus_of key c.termini ≡ v → option_map (λ (x : Terminus). x.number) v ≡ Some n → FromTerminus u b p n.0
    by None found is = absurd (none_not_some is)
    by (Some x) found is =
        let number : x.number.0 ≡ n.0 = ap (λ (k : TerminusNumber). k.0) (some_same is) in
        record { key = key; durable = durable; at = x; found = ap (terminus_of key) same ∙ found; number = number; role = role_of x number found }

origin_is : (o : Option Origin) (p : Origin) → either_origin o None ≡ Some p → o ≡ Some p
origin_is None p is = absurd (none_not_some is)
origin_is (Some q) p is = is

-- the row of a message that the event before admitted
pub record AdmittedRow (u : Trace) (r : RowNumber) (x : Admission) : Type 0 where
  pub known : r.0 < (book_in u).next_row
  pub found : row_at r.0 (book_in u).rows ≡ Some (admitted x)

pub admitted_row : (u : Trace) (b : Binding) (r : RowNumber) (adm : IsAdmitted u b r) → IsOrdered (book_in u) → AdmittedRow u r adm.admission
admitted_row u b r adm ordered = record {
  known = subst (λ (c : BookView). r.0 < c.next_row) (sym now) (under r.0 before.next_row adm.is_next);
  found =
      ap (λ (c : BookView). row_at r.0 c.rows) now
      ∙ ap (λ (k : RowNumber). row_at k.0 (effect before (Admit x)).rows) (sym adm.number) ∙ found_new before.rows (admitted x) below;
}
  where
    before : BookView
    before = book_in adm.before

    x : Admission
    x = adm.admission

    now : book_in u ≡ effect before (Admit x)
    now = (since u adm.came.handled 0 adm.came.just).book ∙ ap book_in adm.acts ∙ one_effect before (Admit x)

    under : (r n : ℕ) → r ≡ n → r < n + 1
    under r n e = omega (arith, e)

    below : AllBelow number_of_row x.row.0 before.rows
    below = rises_last before.rows (admitted x) (let P : BookView → Type 0 = λ c. Rises number_of_row c.rows in subst P now ordered.rows_rise)

row_fact : (u : Trace) (b : Binding) (o : Option Origin) (r : RowNumber) → b.kind ≡ kind.Message o → (adm : IsAdmitted u b r)
    → ((p : Origin) → origin_of b.kind ≡ Some p → HasClaim u p adm.admission.tag.items) → IsOrdered (book_in u) → RowFact u (book_in u) r (bound (name_in u b) (rank_in u b) b)
row_fact u b o r fresh adm tagged ordered = record {
  settled = ap presettles fresh ∙ unsettled o (subst (λ (k : BindingKind). IsFromTerminus (origin_of k) u (book_in adm.before) adm.admission.producer) fresh adm.producer);
  known = (admitted_row u b r adm ordered).known;
  agrees = subst (λ (v : Option ARow). Agrees u (book_in u) v (bound (name_in u b) (rank_in u b) b)) (sym (admitted_row u b r adm ordered).found) (record {
    outcome = inr (ap outcome_in (sym fresh));
    waits = λ p from. refl;
    from = λ p from. producer p (origin_is (origin_of b.kind) p (ap (λ (k : BindingKind). either_origin (origin_of b.kind) (told_of k)) (sym fresh) ∙ from));
    claimed = λ p from. tagged p (origin_is (origin_of b.kind) p (ap (λ (k : BindingKind). either_origin (origin_of b.kind) (told_of k)) (sym fresh) ∙ from));
  });
}
  where
    before : BookView
    before = book_in adm.before

    x : Admission
    x = adm.admission

    now : book_in u ≡ effect before (Admit x)
    now = (since u adm.came.handled 0 adm.came.just).book ∙ ap book_in adm.acts ∙ one_effect before (Admit x)

    unsettled : (o : Option Origin) → IsFromTerminus o u before x.producer → is_none o ≡ false
    unsettled None is = absurd is
    unsettled (Some p) is = refl

    role : has_role Producer (terminus_at x.producer.0 before.termini) ≡ true
    role = holds (has_role Producer (terminus_at x.producer.0 before.termini)) NoTerminus _ adm.applies

    producer : (p : Origin) → origin_of b.kind ≡ Some p → FromTerminus u (book_in u) p x.producer.0
    producer p is =
        from_terminus u (book_in u) before p x.producer ordered (ap (λ (c : BookView). c.termini) now) role (durable_key (link_of u p.link)) refl
        (subst (λ (o : Option Origin). IsFromTerminus o u before x.producer) is adm.producer)

-- the claim of a message that is bound has its tag
abbrev pub MessageClaims : List ℕ → Trace → Step → Type 0
MessageClaims id t s = (b : Binding) → bound_by (booked t s.event) (heard id (booked t s.event) s) s.event ≡ Some b → (r : RowNumber) (adm : IsAdmitted (heard id (booked t s.event) s) b r)
    → BindsMessage (heard id (booked t s.event) s) b → (p : Origin) → origin_of b.kind ≡ Some p → HasClaim (heard id (booked t s.event) s) p adm.admission.tag.items

-- and one that has no row has its claim
abbrev pub PlainClaims : List ℕ → Trace → Step → Type 0
PlainClaims id t s = (b : Binding) → bound_by (booked t s.event) (heard id (booked t s.event) s) s.event ≡ Some b
    → BindsMessage (heard id (booked t s.event) s) b → (p : Origin) → origin_of b.kind ≡ Some p → (tag : List ℕ) × HasClaim (heard id (booked t s.event) s) p tag

pub may_bind : (id : List ℕ) (t : Trace) (s : Step) → Sound (booked t s.event) → MessageClaims id t s → PlainClaims id t s → IsOrdered (book_in (heard id (booked t s.event) s)) → IsSound (book_in (heard id (booked t s.event) s))
    → MayBind (heard id (booked t s.event) s) (bound_by (booked t s.event) (heard id (booked t s.event) s) s.event)
may_bind id t s sound claiming plain ordered book = by (bound_by (booked t s.event) u s.event) refl
  where
    u : Trace
    u = heard id (booked t s.event) s

    clash : true ≡ false → ⊥
    clash e = cc

    by_kind : (b : Binding) → bound_by (booked t s.event) u s.event ≡ Some b → (k : BindingKind) → b.kind ≡ k → BindsAs k u b → CanBind u b
    by_kind b is (kind.Message o) of binds =
        can_message u b o of binds
        (λ r named. let adm : IsAdmitted u b r = subst (λ (o : Option RowNumber). IsAdmittedUnder u b o) named (bound_row id t s.event b is (ap is_message of)) in
        row_fact u b o r of adm (claiming b is r adm binds) ordered)
        (λ none. plain b is binds)
    by_kind b is (kind.TakenUp brought) of binds = absurd (clash (sym (ap is_taken_up of) ∙ bound_not_taken id t s.event b is))
    by_kind b is (kind.Joined (holding.Resumed p) to) of binds = can_join u b p binds ordered book
    by_kind b is (kind.Joined (holding.Unresumed a) to) of binds = can_have u b (holding.Unresumed a) refl binds ordered book
    by_kind b is (kind.Joined (holding.Settled a) to) of binds = can_have u b (holding.Settled a) refl binds ordered book

    by : (v : Option Binding) → bound_by (booked t s.event) u s.event ≡ v → MayBind u v
    by None is = tt
    by (Some b) is = by_kind b is b.kind refl (event_binds id (booked t s.event) s b sound is)
