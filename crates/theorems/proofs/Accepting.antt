-- An act that decides a row as accepted is of an event by which the row's consumer accepted it.
use Rattle.std.proofs.Common.{◌≡◌, ◌∙◌, sym, ap, refl, subst, ◌⊎◌, inl, inr, ℕ, ◌+◌, Bool, true, false, not, ◌&&◌, List, [], ◌∷◌, ◌++◌}
use Rattle.std.specs.Prelude.{◌==◌, Option, Some, None, is_none, map, filter, filter_map, option_map, if◌then◌else◌}
use Rattle.std.proofs.lemmas.Bool.{eqb-true}
use Rattle.amqp_model.specs.declared.perf.Attach.{Attach as AnAttach}
use Rattle.amqp_model.specs.declared.perf.Disposition.{Disposition as ADisposition}
use Rattle.amqp_model.specs.declared.perf.Perf.{Perf}
use Rattle.amqp_model.specs.declared.perf.Perf.TheVariants as perf
use Rattle.amqp_model.specs.declared.perf.Role.{Role}
use Rattle.amqp_model.specs.declared.perf.Role.TheVariants.{Sender, Receiver}
use Rattle.amqp_model.specs.declared.state.DeliveryState.{DeliveryState}
use Rattle.amqp_model.specs.declared.state.DeliveryState.TheVariants as state
use Rattle.amqp_model.specs.declared.state.UnsettledDelivery.{UnsettledDelivery}
use Rattle.amqp_model.specs.declared.item.Item.{Item}
use Rattle.amqp_model.specs.declared.item.Item.TheVariants as item
use Rattle.amqp_conn.specs.declared.conn.Conn.{Conn}
use Rattle.amqp_session.specs.Ranges.{in_range}
use Rattle.book_model.specs.declared.act.Act.{Act}
use Rattle.book_model.specs.declared.act.Act.TheVariants.{Make, Admit, Decide, Forget, Drop}
use Rattle.book_model.specs.declared.act.Admission.{Admission}
use Rattle.book_model.specs.declared.act.Decision.{Decision}
use Rattle.book_model.specs.declared.row.Row.{Row as ARow}
use Rattle.book_model.specs.declared.row.RowNumber.{RowNumber}
use Rattle.book_model.specs.declared.terminus.LinkKey.{LinkKey}
use Rattle.book_model.specs.declared.terminus.Terminus.{Terminus}
use Rattle.book_model.specs.Book.{BookView, terminus_of, terminus_at, is_for, is_of, is_undecided as is_open_row, effects, make_refusal, drop_refusal, admit_refusal}
use Rattle.journal_codec.specs.Batches.{IsTerminal}
use Rattle.journal_store.specs.declared.acting.TerminusAct.{TerminusAct}
use Rattle.journal_store.specs.declared.acting.TerminusAct.TheVariants as terminus
use Rattle.journal_store.specs.Acting.{journal_outcome, outcome_for, is_among, decision as decision_to, decide_row, forget_row, decides, forgets, settles, unless_refused, terminus_acts, event_acts as settled_acts}
use Rattle.journal_store.specs.Lost.{failed as lost_outcome, is_lost, failure_of, start_acts}
use Rattle.router_trace.specs.declared.binding.DeliveryName.{DeliveryName}
use Rattle.router_trace.specs.declared.binding.DeliveryName.TheVariants.{Row, Counter}
use Rattle.router_trace.specs.declared.event.ConnectionId.{ConnectionId}
use Rattle.router_trace.specs.declared.event.Event.{Event}
use Rattle.router_trace.specs.declared.event.Event.TheVariants as event
use Rattle.router_trace.specs.declared.handle.Attachment.{Attachment}
use Rattle.router_trace.specs.Trace.{Trace}
use Rattle.router_trace.specs.Connection.{due, has, standing, found}
use Rattle.router_trace.specs.Deliveries.{Delivery, bindings, delivery, source, sender, failed, decision, terminal, last_of, is_undecided, stands_on, untold, unsettled, forsaken, ended, decided_at_end, suspended_at_end, after_ends, is_gone_with}
use Rattle.router_trace.specs.DeliveryFrames.{kept_outcome}
use Rattle.router_trace.specs.Links.{holder, free_handle}
use Rattle.router_trace.specs.Sessions.{session_on}
use Rattle.state_deliveries.specs.declared.change.Change.{Change}
use Rattle.state_deliveries.specs.declared.change.Change.TheVariants as change
use Rattle.state_deliveries.specs.Deciding.{changed_by, row_of, outcome_of_row, outcome_of, open_row, decision_of, decided_rows}
use Rattle.state_deliveries.specs.Hearing.{decided_by, disposed_change, heard_in_change, heard_change}
use Rattle.state_deliveries.specs.Stepping.{is_gone, comes_with_id, is_in, is_decided_by, changed}
use Rattle.state_links.specs.Fits.{channel_of}
use Rattle.resume_core.specs.Resuming.{entries_of, told_of, outcome_told, outcome_given, decided_by as map_gives, decision_of as map_decision, decisions}
use Rattle.reply_rows.specs.declared.answer.Answer.{Answer}
use Rattle.reply_rows.specs.declared.answer.Answer.TheVariants.{Close, CloseWith, End, Attach, Detach}
use Rattle.reply_rows.specs.Booking.{wanted_key, wants_durable, rows_of, bound_rows, answer_at}
use Rattle.reply_rows.specs.Acts.{live_answer, event_answer, answer_acts, planned_acts, admitted_acts, or_admits, finds_full, journaled, book_in, acts_of}
use Rattle.reply_rows.specs.Admitting.{admits, event_admission}
use Rattle.reply_rows.specs.Asking.{asked_key, key_taken, attach_in, receives, resumed_key, rows_at, decided_for, map_decides}
use Rattle.reply_rows.specs.Deciding.{lost, listed, ended_by, stolen_from, stolen_in, stolen_for, session_found, event_changes, as_kept, decided, forgotten, terminus_of_event}
use Rattle.theorems.specs.Accepting.{ByDisposition, ByMap, Accepts, by_disposition, by_map}
use Rattle.theorems.specs.OwnConsumer.{WasBoundToOwn}
use Rattle.theorems.proofs.Among.{Stands, stands_in_both, stands_in_filter, stands_in_gathered, stands_in_map, stands_in_filter_map, parts}
use Rattle.theorems.proofs.Answering.{IfAttach, attach_answered}
use Rattle.theorems.proofs.Changing.{undecided_is}
use Rattle.theorems.proofs.Ended.{IsEnded, ended_by_all, event_gives}
use Rattle.theorems.proofs.KeptForm.{kept_form, accepted_back}
use Rattle.theorems.proofs.Tests.{some_same, none_not_some}

clash : false ≡ true → ⊥
clash e = cc

both : (a b : Bool) → (a && b) ≡ true → (a ≡ true) × (b ≡ true)
both true true e = (refl, refl)
both true false e = absurd (clash e)
both false b e = absurd (clash e)

failed_differs : failed ≡ state.Accepted → ⊥
failed_differs e = cc

lost_differs : lost_outcome ≡ state.Accepted → ⊥
lost_differs e = cc

-- what ends a link accepts nothing

abbrev Is : Option DeliveryState → Type 0
Is o = o ≡ Some state.Accepted

if_is : (b : Bool) (d e x : Delivery) → (Is d.outcome → Is x.outcome) → (Is e.outcome → Is x.outcome) → Is (if b then d else e).outcome → Is x.outcome
if_is true d e x one other is = one is
if_is false d e x one other is = other is

lost_is : (o : Option DeliveryState) → Is (if is_none o then Some failed else o) → Is o
lost_is None is = absurd (failed_differs (some_same is))
lost_is (Some s) is = is

end_is : (closed : Bool) (d : Delivery) → Is (ended closed d).outcome → Is d.outcome
end_is closed d =
    if_is d.suspended d (if d.lasting && not closed then suspended_at_end d else decided_at_end d) d (λ is. is)
    (if_is (d.lasting && not closed) (suspended_at_end d) (decided_at_end d) d (λ is. is) (lost_is d.outcome))

ends_is : (closed : Bool) (gone : Attachment → Bool) (d : Delivery) → Is (after_ends closed gone d).outcome → Is d.outcome
ends_is closed gone d =
    let e : Delivery = if gone d.link then ended closed d else d in
    let here : Is e.outcome → Is d.outcome = if_is (gone d.link) (ended closed d) d d (end_is closed d) (λ is. is) in
    if_is (is_gone_with gone (sender e)) (forsaken e) e d here here

abbrev IsEnd : Change → Type 0
IsEnd (change.Ends g closed) = Unit {0}
IsEnd _ = ⊥

abbrev OnlyEnds : List Change → Type 0
OnlyEnds [] = Unit {0}
OnlyEnds (x ∷ xs) = IsEnd x × OnlyEnds xs

one_end : (x : Change) (d : Delivery) → IsEnd x → Is (changed x d).outcome → Is d.outcome
one_end (change.Ends g closed) d end is = ends_is closed (is_gone g) d is
one_end (change.Untold c o first last) d end is = absurd end
one_end (change.Told c o first last) d end is = absurd end
one_end (change.Decided c o first last made) d end is = absurd end

all_end : (xs : List Change) (d : Delivery) → OnlyEnds xs → Is (changed_by xs d).outcome → Is d.outcome
all_end [] d all is = is
all_end (x ∷ xs) d all is = one_end x d all.0 (all_end xs (changed x d) all.1 is)

both_end : (xs ys : List Change) → OnlyEnds xs → OnlyEnds ys → OnlyEnds (xs ++ ys)
both_end [] ys first rest = rest
both_end (x ∷ xs) ys first rest = (first.0, both_end xs ys first.1 rest)

lost_end : (cs : List ℕ) → OnlyEnds (map lost cs)
lost_end [] = tt
lost_end (c ∷ cs) = (tt, lost_end cs)

stolen_end : (v : Option Attachment) → OnlyEnds (stolen_from v)
stolen_end None = tt
stolen_end (Some a) = (tt, tt)

stolen_perf : (t : Trace) (c : ℕ) (body : Perf) → OnlyEnds (stolen_in t c body)
stolen_perf t c (perf.Attach a) = stolen_end (holder t (wanted_key t c a))
stolen_perf t c _ = tt

stolen_item : (t : Trace) (c : ℕ) (i : Item) → OnlyEnds (stolen_for t c i)
stolen_item t c (item.Frame sasl channel body payload) = stolen_perf t c body
stolen_item t c _ = tt

answer_end : (t : Trace) (c : ℕ) (i : Item) (y : Answer) → OnlyEnds (ended_by t c i y)
answer_end t c i (Detach own handle closed x) = (tt, tt)
answer_end t c i (End own x) = (tt, tt)
answer_end t c i Close = (tt, tt)
answer_end t c i (CloseWith x) = (tt, tt)
answer_end t c i (Attach own) = stolen_item t c i
answer_end t c i _ = tt

-- so it is the disposition that accepts an undecided delivery

abbrev Accepting : Change → Delivery → Type 0
Accepting (change.Decided c o first last made) d = (made ≡ state.Accepted) × (is_decided_by d c o first last ≡ true)
Accepting _ d = ⊥

none_is_not : (d : Delivery) → d.outcome ≡ None → Is d.outcome → ⊥
none_is_not d none is = none_not_some (sym none ∙ is)

changed_is : (x : Change) (d : Delivery) → d.outcome ≡ None → Is (changed x d).outcome → Accepting x d
changed_is (change.Ends g closed) d none is = none_is_not d none (ends_is closed (is_gone g) d is)
changed_is (change.Untold c o first last) d none is = none_is_not d none (if_is (comes_with_id (source d) c o first last) (untold d) d d (λ h. h) (λ h. h) is)
changed_is (change.Told c o first last) d none is = none_is_not d none (if_is (comes_with_id (source d) c o first last) (unsettled d) d d (λ h. h) (λ h. h) is)
changed_is (change.Decided c o first last made) d none is = by (is_decided_by d c o first last) refl is
  where
    by : (b : Bool) → is_decided_by d c o first last ≡ b → Is (if b then record d { outcome = Some made } else d).outcome → (made ≡ state.Accepted) × (is_decided_by d c o first last ≡ true)
    by true e is = (some_same is, e)
    by false e is = absurd (none_is_not d none is)

first_is : (h : Option Change) (xs ys : List Change) (d : Delivery) → OnlyEnds xs → OnlyEnds ys → d.outcome ≡ None → Is (changed_by ((listed h ++ xs) ++ ys) d).outcome
    → (x : Change) × (h ≡ Some x) × Accepting x d
first_is None xs ys d one other none is = absurd (none_is_not d none (all_end (xs ++ ys) d (both_end xs ys one other) is))
first_is (Some x) xs ys d one other none is = (x, refl, changed_is x d none (all_end (xs ++ ys) (changed x d) (both_end xs ys one other) is))

-- what such a disposition says

record Heard (c : ℕ) (own : Option ℕ) (i : Item) (d : Delivery) : Type 0 where
  channel : ℕ
  disposition : ADisposition
  payload : List ℕ
  session : ℕ
  comes : i ≡ item.Frame false channel (perf.Disposition disposition) payload
  receiver : disposition.role ≡ Receiver
  accepts : disposition.state ≡ Some state.Accepted
  on_session : own ≡ Some session
  decides : is_decided_by d c session disposition.first (last_of disposition) ≡ true

nothing_accepts : (settled : Bool) → Is (decision settled None) → ⊥
nothing_accepts true is = failed_differs (some_same is)
nothing_accepts false is = none_not_some is

decision_accepts : (settled : Bool) (o : Option DeliveryState) → Is (decision settled (terminal o)) → Is o
decision_accepts settled None is = absurd (nothing_accepts settled is)
decision_accepts settled (Some (state.Received r)) is = absurd (nothing_accepts settled is)
decision_accepts settled (Some (state.Other v)) is = absurd (nothing_accepts settled is)
decision_accepts settled (Some state.Accepted) is = is
decision_accepts settled (Some (state.Rejected r)) is = is
decision_accepts settled (Some state.Released) is = is
decision_accepts settled (Some (state.Modified m)) is = is

heard_by_item : (c : ℕ) (own : Option ℕ) (i : Item) (x : Change) (d : Delivery) → heard_change c own i ≡ Some x → Accepting x d → Heard c own i d
heard_by_item c own (item.Frame true channel body payload) x d h a = absurd (none_not_some h)
heard_by_item c own (item.Frame false channel body payload) x d h a = by body h
  where
    untold : (y : ADisposition) (b : Bool) (o : ℕ) → (if b then Some (change.Untold c o y.first (last_of y)) else None) ≡ Some x → ⊥
    untold y true o h = subst (λ (z : Change). Accepting z d) (sym (some_same h)) a
    untold y false o h = none_not_some h

    settled : (y : ADisposition) → y.role ≡ Receiver → (o : ℕ) → own ≡ Some o → (v : Option DeliveryState) → decision y.settled (terminal y.state) ≡ v → decided_by c o y v ≡ Some x
        → Heard c own (item.Frame false channel (perf.Disposition y) payload) d
    settled y role o at None e h = absurd (none_not_some h)
    settled y role o at (Some made) e h =
        let accepting : Accepting (change.Decided c o y.first (last_of y) made) d = subst (λ (z : Change). Accepting z d) (sym (some_same h)) a in
        record {
          channel = channel;
          disposition = y;
          payload = payload;
          session = o;
          comes = refl;
          receiver = role;
          accepts = decision_accepts y.settled y.state (e ∙ ap (λ (s : DeliveryState). Some s) accepting.0);
          on_session = at;
          decides = accepting.1;
        }

    disposed : (y : ADisposition) (r : Role) → y.role ≡ r → (v : Option ℕ) → own ≡ v → disposed_change r c v y ≡ Some x → Heard c own (item.Frame false channel (perf.Disposition y) payload) d
    disposed y r role None at h = absurd (none_not_some h)
    disposed y Sender role (Some o) at h = absurd (untold y y.settled o h)
    disposed y Receiver role (Some o) at h = settled y role o at (decision y.settled (terminal y.state)) refl h

    by : (body : Perf) → heard_in_change c own body ≡ Some x → Heard c own (item.Frame false channel body payload) d
    by (perf.Disposition y) h = disposed y y.role refl own refl h
    by _ h = absurd (none_not_some h)
heard_by_item c own _ x d h a = absurd (none_not_some h)

record HeardAt (t : Trace) (e : Event) (d : Delivery) : Type 0 where
  conn : ConnectionId
  one : Item
  comes : e ≡ event.Item conn one
  heard : Heard conn.0 (session_found t conn one) one d

accepted_by_event : (t : Trace) (e : Event) (answer : Answer) (d : Delivery) → d.outcome ≡ None → Is (changed_by (event_changes t e answer) d).outcome → HeardAt t e d
accepted_by_event t (event.Item c i) answer d none is =
    let first = first_is (heard_change c.0 (session_found t c i) i) (map lost (due t (event.Item c i))) (ended_by t c.0 i answer) d (lost_end (due t (event.Item c i))) (answer_end t c.0 i answer) none is in
    record { conn = c; one = i; comes = refl; heard = heard_by_item c.0 (session_found t c i) i first.0 d first.1 first.2 }
accepted_by_event t (event.Down c) answer d none is = absurd (none_is_not d none (all_end (lost c.0 ∷ map lost (due t (event.Down c))) d (tt, lost_end (due t (event.Down c))) is))
accepted_by_event t (event.Up c p) answer d none is = absurd (none_is_not d none (all_end (map lost (due t (event.Up c p))) d (lost_end (due t (event.Up c p))) is))
accepted_by_event t (event.Tick ms) answer d none is = absurd (none_is_not d none (all_end (map lost (due t (event.Tick ms))) d (lost_end (due t (event.Tick ms))) is))
accepted_by_event t event.Start answer d none is = absurd (none_is_not d none (all_end (map lost (due t event.Start)) d (lost_end (due t event.Start)) is))

-- a decision of a delivery's row

pub record OfDelivery (t : Trace) (xs : List Change) (d : Decision) : Type 0 where
  pub number : ℕ
  pub of : Delivery
  pub there : delivery t number ≡ Some of
  pub undecided : is_undecided of ≡ true
  pub name : of.name ≡ Row d.row
  pub made : (changed_by xs of).outcome ≡ Some d.outcome

named_row : (name : DeliveryName) (r : RowNumber) → row_of name ≡ Some r → name ≡ Row r
named_row (Row q) r e = ap (λ (x : RowNumber). Row x) (some_same e)
named_row (Counter k) r e = absurd (none_not_some e)

pub of_delivery : (t : Trace) (xs : List Change) (d : Decision) → Stands Decision d (decided_rows t xs) → OfDelivery t xs d
of_delivery t xs d stands = by (delivery t one.0) refl one.1
  where
    one : (n : ℕ) × Stands Decision d (decision_of xs (delivery t n))
    one = stands_in_gathered Decision (bindings t + 1) (λ n. decision_of xs (delivery t n)) d stands

    row_is : (x : Delivery) (r : RowNumber) (b : Bool) → is_undecided x ≡ b → (if b then row_of x.name else None) ≡ Some r → (is_undecided x ≡ true) × (x.name ≡ Row r)
    row_is x r true open_now e = (open_now, named_row x.name r e)
    row_is x r false open_now e = absurd (none_not_some e)

    made_of : (x : Delivery) (r : RowNumber) (v : Option DeliveryState) → delivery t one.0 ≡ Some x → open_row x ≡ Some r → (changed_by xs x).outcome ≡ v → Stands Decision d (outcome_of_row r v) → OfDelivery t xs d
    made_of x r None there opens now is = absurd is
    made_of x r (Some s) there opens now (inr is) = absurd is
    made_of x r (Some s) there opens now (inl same) =
        let row = row_is x r (is_undecided x) refl opens in
        record {
          number = one.0;
          of = x;
          there = there;
          undecided = row.0;
          name = row.1 ∙ ap (λ (y : Decision). Row y.row) same;
          made = now ∙ ap (λ (y : Decision). Some y.outcome) same;
        }

    by_row : (x : Delivery) (v : Option RowNumber) → delivery t one.0 ≡ Some x → open_row x ≡ v → Stands Decision d (outcome_of v (changed_by xs x).outcome) → OfDelivery t xs d
    by_row x None there opens is = absurd is
    by_row x (Some r) there opens is = made_of x r (changed_by xs x).outcome there opens refl is

    by : (v : Option Delivery) → delivery t one.0 ≡ v → Stands Decision d (decision_of xs v) → OfDelivery t xs d
    by None there is = absurd is
    by (Some x) there is = by_row x (open_row x) there refl is

-- the session that an event finds is the one of the item's channel
found_session : (t : Trace) (c : ConnectionId) (i : Item) (o : ℕ) → session_found t c i ≡ Some o → session_on t c.0 (channel_of i) ≡ Some o
found_session t c i o is = by (has c.0 (due t (event.Item c i))) is
  where
    by : (b : Bool) → (if b then None else session_on t c.0 (channel_of i)) ≡ Some o → session_on t c.0 (channel_of i) ≡ Some o
    by true is = absurd (none_not_some is)
    by false is = is

record HasId (v : Option ℕ) (first last : ℕ) : Type 0 where
  id : ℕ
  is : v ≡ Some id
  within : in_range first last id ≡ true

has_id : (v : Option ℕ) (first last : ℕ) → is_in v first last ≡ true → HasId v first last
has_id None first last h = absurd (clash h)
has_id (Some id) first last h = record { id = id; is = refl; within = h }

-- each undecided delivery is on the link of its row's own consumer
abbrev pub AreOwn : Trace → Type 0
AreOwn t = (n : ℕ) (d : Delivery) (r : RowNumber) → delivery t n ≡ Some d → d.name ≡ Row r → is_undecided d ≡ true → WasBoundToOwn t r d.link

by_disposition_of : (t : Trace) (e : Event) (xs : List Change) (d : Decision) (x : OfDelivery t xs d) → AreOwn t → HeardAt t e x.of → ByDisposition t e d.row
by_disposition_of t e xs d x own at =
    let heard = at.heard in
    let tests = both (is_undecided x.of) (stands_on x.of.link at.conn.0 heard.session && is_in x.of.id heard.disposition.first (last_of heard.disposition)) heard.decides in
    let places = both (stands_on x.of.link at.conn.0 heard.session) (is_in x.of.id heard.disposition.first (last_of heard.disposition)) tests.1 in
    let place = both (x.of.link.conn.0 == at.conn.0) (x.of.link.channel == heard.session) places.0 in
    let named = has_id x.of.id heard.disposition.first (last_of heard.disposition) places.1 in
    record {
      conn = at.conn;
      channel = heard.channel;
      disposition = heard.disposition;
      payload = heard.payload;
      number = x.number;
      of = x.of;
      id = named.id;
      comes = at.comes ∙ ap (λ (i : Item). event.Item at.conn i) heard.comes;
      receiver = heard.receiver;
      accepts = heard.accepts;
      there = x.there;
      its_row = x.name;
      undecided = x.undecided;
      own = own x.number x.of d.row x.there x.name x.undecided;
      on_connection = eqb-true x.of.link.conn.0 at.conn.0 place.0;
      on_session =
          ap (λ (i : Item). session_on t at.conn.0 (channel_of i)) (sym heard.comes) ∙ found_session t at.conn at.one heard.session heard.on_session
          ∙ ap (λ (o : ℕ). Some o) (sym (eqb-true x.of.link.channel heard.session place.1));
      has_id = named.is;
      in_its_range = named.within;
    }

-- a decision of the map of an attach

record OfMap (theirs : List UnsettledDelivery) (row : ARow) : Type 0 where
  entry : UnsettledDelivery
  told : told_of theirs row ≡ Some entry
  accepts : entry.state ≡ Some state.Accepted

pub terminal_is : (o : Option DeliveryState) (s : DeliveryState) → terminal o ≡ Some s → IsTerminal s × (o ≡ Some s)
terminal_is None s e = absurd (none_not_some e)
terminal_is (Some (state.Received r)) s e = absurd (none_not_some e)
terminal_is (Some (state.Other v)) s e = absurd (none_not_some e)
terminal_is (Some state.Accepted) s e = (subst IsTerminal (some_same e) tt, e)
terminal_is (Some (state.Rejected r)) s e = (subst IsTerminal (some_same e) tt, e)
terminal_is (Some state.Released) s e = (subst IsTerminal (some_same e) tt, e)
terminal_is (Some (state.Modified m)) s e = (subst IsTerminal (some_same e) tt, e)

of_map : (theirs : List UnsettledDelivery) (row : ARow) (s : DeliveryState) → map_gives theirs row ≡ Some s → journal_outcome s ≡ state.Accepted → OfMap theirs row
of_map theirs row s gives accepted = by_row row.outcome gives
  where
    by_state : (entry : UnsettledDelivery) → told_of theirs row ≡ Some entry → (v : Option DeliveryState) → terminal entry.state ≡ v → option_map kept_outcome v ≡ Some s → OfMap theirs row
    by_state entry told None e h = absurd (none_not_some h)
    by_state entry told (Some x) e h =
        let is = terminal_is entry.state x e in
        let same : x ≡ state.Accepted = accepted_back x is.0 (ap journal_outcome (some_same h) ∙ accepted) in
        record { entry = entry; told = told; accepts = is.1 ∙ ap (λ (y : DeliveryState). Some y) same }

    by_entry : (v : Option UnsettledDelivery) → told_of theirs row ≡ v → option_map kept_outcome (outcome_told v) ≡ Some s → OfMap theirs row
    by_entry None told h = absurd (none_not_some h)
    by_entry (Some entry) told h = by_state entry told (terminal entry.state) refl h

    by_row : (o : Option DeliveryState) → outcome_given (told_of theirs row) o ≡ Some s → OfMap theirs row
    by_row (Some outcome) h = absurd (none_not_some h)
    by_row None h = by_entry (told_of theirs row) refl h

-- the attach whose map it is
record IsAttach (t : Trace) (e : Event) (a : AnAttach) (k : LinkKey) : Type 0 where
  conn : ConnectionId
  channel : ℕ
  payload : List ℕ
  comes : e ≡ event.Item conn (item.Frame false channel (perf.Attach a) payload)
  receiver : a.role ≡ Receiver
  durable : wants_durable a ≡ true
  key : wanted_key t conn.0 a ≡ k

receives_is : (r : Role) → receives r ≡ true → r ≡ Receiver
receives_is Sender e = absurd (clash e)
receives_is Receiver e = refl

asked_is : (t : Trace) (c : ℕ) (a : AnAttach) (k : LinkKey) → asked_key t c a ≡ Some k → (wants_durable a ≡ true) × (wanted_key t c a ≡ k)
asked_is t c a k e = by (wants_durable a) refl e
  where
    by : (b : Bool) → wants_durable a ≡ b → (if b then Some (wanted_key t c a) else None) ≡ Some k → (wants_durable a ≡ true) × (wanted_key t c a ≡ k)
    by true is e = (is, some_same e)
    by false is e = absurd (none_not_some e)

is_attach : (full : Bool) (b : BookView) (t : Trace) (e : Event) (k : LinkKey) → resumed_key t e (event_answer full b t e) ≡ Some k → (a : AnAttach) × (attach_in e ≡ Some a) × IsAttach t e a k
is_attach full b t (event.Item c (item.Frame sasl channel (perf.Attach a) payload)) k keyed = (a, refl, by_role (receives a.role) refl keyed)
  where
    i : Item
    i = item.Frame sasl channel (perf.Attach a) payload

    e : Event
    e = event.Item c i

    taken : (y : Answer) → a.role ≡ Receiver → IfAttach sasl (free_handle t c.0) y → key_taken t c.0 a y ≡ Some k → IsAttach t e a k
    taken (Attach own) receiver plain is =
        let known = asked_is t c.0 a k is in
        record {
          conn = c;
          channel = channel;
          payload = payload;
          comes = ap (λ (q : Bool). event.Item c (item.Frame q channel (perf.Attach a) payload)) plain;
          receiver = receiver;
          durable = known.0;
          key = known.1;
        }
    taken _ receiver plain is = absurd (none_not_some is)

    by : a.role ≡ Receiver → (v : Option Conn) → key_taken t c.0 a (live_answer full b t c.0 i v) ≡ Some k → IsAttach t e a k
    by receiver None is = absurd (none_not_some is)
    by receiver (Some p) is = taken (answer_at full b t c.0 p i) receiver (attach_answered full b t c.0 p sasl channel a payload) is

    by_role : (q : Bool) → receives a.role ≡ q → (if q then key_taken t c.0 a (event_answer full b t e) else None) ≡ Some k → IsAttach t e a k
    by_role true is keyed = by (receives_is a.role is) (standing (found t e c.0)) keyed
    by_role false is keyed = absurd (none_not_some keyed)
is_attach full b t (event.Item c _) k keyed = absurd (none_not_some keyed)
is_attach full b t _ k keyed = absurd (none_not_some keyed)

by_map_of : (full : Bool) (b : BookView) (t : Trace) (e : Event) (d : Decision) → b ≡ book_in t → Stands Decision d (map_decides b t e (event_answer full b t e)) → journal_outcome d.outcome ≡ state.Accepted
    → ByMap t e d.row
by_map_of full b t e d book stands accepted = by_key (resumed_key t e (event_answer full b t e)) refl stands
  where
    by_row : (a : AnAttach) (k : LinkKey) (x : Terminus) → terminus_of k b.termini ≡ Some x → IsAttach t e a k → (row : ARow) → Stands ARow row (bound_rows b x) → (v : Option DeliveryState)
        → map_gives (entries_of a.unsettled) row ≡ v → option_map (λ (outcome : DeliveryState). record { row = row.number; outcome = outcome }) v ≡ Some d → ByMap t e d.row
    by_row a k x terminus at row among None gives is = absurd (none_not_some is)
    by_row a k x terminus at row among (Some s) gives is =
        let bound = stands_in_filter ARow (is_for x.number.0) row (rows_of b x) among in
        let kept = stands_in_filter ARow (is_of x.number.0) row b.rows bound.0 in
        let place = parts ARow row b.rows kept.0 in
        let same : record { row = row.number; outcome = s } ≡ d = some_same is in
        let map = of_map (entries_of a.unsettled) row s gives (ap (λ (y : Decision). journal_outcome y.outcome) same ∙ accepted) in
        record {
          conn = at.conn;
          channel = at.channel;
          attach = a;
          payload = at.payload;
          kept = row;
          earlier = place.0;
          later = place.1;
          terminus = x;
          entry = map.entry;
          comes = at.comes;
          receiver = at.receiver;
          durable = at.durable;
          of_key = ap (λ (c : BookView). terminus_of (wanted_key t at.conn.0 a) c.termini) (sym book) ∙ ap (λ (j : LinkKey). terminus_of j b.termini) at.key ∙ terminus;
          in_the_book = ap (λ (c : BookView). c.rows) (sym book) ∙ place.2;
          its_number = ap (λ (y : Decision). y.row) same;
          waits = bound.1;
          has_tag = map.told;
          accepts = map.accepts;
        }

    by_terminus : (a : AnAttach) (k : LinkKey) (v : Option Terminus) → terminus_of k b.termini ≡ v → IsAttach t e a k → Stands Decision d (decisions (entries_of a.unsettled) (rows_at b v)) → ByMap t e d.row
    by_terminus a k None terminus at is = absurd is
    by_terminus a k (Some x) terminus at is =
        let one = stands_in_filter_map ARow Decision (map_decision (entries_of a.unsettled)) d (bound_rows b x) is in
        by_row a k x terminus at one.0 one.1 (map_gives (entries_of a.unsettled) one.0) refl one.2

    by_attach : (k : LinkKey) → resumed_key t e (event_answer full b t e) ≡ Some k → (a : AnAttach) → attach_in e ≡ Some a → IsAttach t e a k → Stands Decision d (decided_for b (attach_in e) (Some k)) → ByMap t e d.row
    by_attach k keyed a came at is =
        by_terminus a k (terminus_of k b.termini) refl at (subst (λ (v : Option AnAttach). Stands Decision d (decided_for b v (Some k))) came is)

    by_key : (v : Option LinkKey) → resumed_key t e (event_answer full b t e) ≡ v → Stands Decision d (decided_for b (attach_in e) v) → ByMap t e d.row
    by_key None keyed is = absurd is
    by_key (Some k) keyed is = let known = is_attach full b t e k keyed in by_attach k keyed known.0 known.1 known.2 is

-- acts

-- an act that decides is one of the decisions
no_forget : (numbers : List RowNumber) (rs : List ARow) (d : Decision) → Stands Act (Decide d) (filter_map (forget_row numbers) rs) → ⊥
no_forget numbers rs d is =
    let one = stands_in_filter_map ARow Act (forget_row numbers) (Decide d) rs is in by one.0 (not one.0.forgotten && is_among one.0.number.0 numbers) one.2
  where
    by : (r : ARow) (b : Bool) → (if b then Some (Forget r.number) else None) ≡ Some (Decide d) → ⊥
    by r true e = cc
    by r false e = none_not_some e

no_terminus : (b : BookView) (x : Option TerminusAct) (d : Decision) → Stands Act (Decide d) (terminus_acts b x) → ⊥
no_terminus b None d is = is
no_terminus b (Some (terminus.Make t)) d is = by (is_none (make_refusal b t)) is
  where
    by : (q : Bool) → Stands Act (Decide d) (unless_refused q (Make t)) → ⊥
    by true (inl e) = cc
    by true (inr is) = is
    by false is = is
no_terminus b (Some (terminus.Drop n)) d is = by (is_none (drop_refusal (terminus_at n.0 b.termini) b.rows)) is
  where
    by : (q : Bool) → Stands Act (Decide d) (unless_refused q (Drop n)) → ⊥
    by true (inl e) = cc
    by true (inr is) = is
    by false is = is

no_admission : (b : BookView) (o : Option Admission) (d : Decision) → Stands Act (Decide d) (admits b o) → ⊥
no_admission b None d is = is
no_admission b (Some x) d is = by (is_none (admit_refusal b x)) is
  where
    by : (q : Bool) → Stands Act (Decide d) (unless_refused q (Admit x)) → ⊥
    by true (inl e) = cc
    by true (inr is) = is
    by false is = is

pub no_admitted : (full : Bool) (b : BookView) (t : Trace) (e : Event) (d : Decision) → Stands Act (Decide d) (admitted_acts full b t e) → ⊥
no_admitted true b t e d is = is
no_admitted false b t e d is = no_admission b (event_admission b t e (event_answer false b t e)) d is

-- the decision that it writes
pub record Asked (ds : List Decision) (d : Decision) : Type 0 where
  pub of : Decision
  pub asked : Stands Decision of ds
  pub row : of.row.0 ≡ d.row.0
  pub writes : d.outcome ≡ journal_outcome of.outcome

asked_for : (ds : List Decision) (n : ℕ) (s : DeliveryState) → outcome_for n ds ≡ Some s → (d : Decision) × Stands Decision d ds × (d.row.0 ≡ n) × (d.outcome ≡ s)
asked_for [] n s e = absurd (none_not_some e)
asked_for (d ∷ ds) n s e = by (d.row.0 == n) refl e (λ later. let rest = asked_for ds n s later in (rest.0, inr rest.1, rest.2, rest.3))
  where
    by : (b : Bool) → (d.row.0 == n) ≡ b → (if b then Some d.outcome else outcome_for n ds) ≡ Some s
        → (outcome_for n ds ≡ Some s → (x : Decision) × Stands Decision x (d ∷ ds) × (x.row.0 ≡ n) × (x.outcome ≡ s)) → (x : Decision) × Stands Decision x (d ∷ ds) × (x.row.0 ≡ n) × (x.outcome ≡ s)
    by true test e more = (d, inl refl, eqb-true d.row.0 n test, some_same e)
    by false test e more = more e

asked_row : (b : BookView) (ds : List Decision) (d : Decision) → Stands Act (Decide d) (decides b ds) → Asked ds d
asked_row b ds d is =
    let one = stands_in_filter_map ARow Act (decide_row ds) (Decide d) b.rows is in by_open one.0 (is_open_row one.0) one.2
  where
    by_outcome : (r : ARow) (v : Option DeliveryState) → outcome_for r.number.0 ds ≡ v → decision_to r v ≡ Some (Decide d) → Asked ds d
    by_outcome r None e h = absurd (none_not_some h)
    by_outcome r (Some s) e h =
        let same : record { row = r.number; outcome = journal_outcome s } ≡ d = decides_same (some_same h) in
        let one = asked_for ds r.number.0 s e in
        record {
          of = one.0;
          asked = one.1;
          row = one.2 ∙ ap (λ (y : Decision). y.row.0) same;
          writes = sym (ap (λ (y : Decision). y.outcome) same) ∙ ap journal_outcome (sym one.3);
        }
      where
        decides_same : {x y : Decision} → Decide x ≡ Decide y → x ≡ y
        decides_same e = cc

    by_open : (r : ARow) (q : Bool) → (if q then decision_to r (outcome_for r.number.0 ds) else None) ≡ Some (Decide d) → Asked ds d
    by_open r true h = by_outcome r (outcome_for r.number.0 ds) refl h
    by_open r false h = absurd (none_not_some h)

pub asked_act : (b : BookView) (ds : List Decision) (numbers : List RowNumber) (x : Option TerminusAct) (d : Decision) → Stands Act (Decide d) (settled_acts b ds numbers x) → Asked ds d
asked_act b ds numbers x d is = by (stands_in_both Act (Decide d) (settles b ds numbers) (terminus_acts (effects b (settles b ds numbers)) x) is)
  where
    by_rows : Stands Act (Decide d) (decides b ds) ⊎ Stands Act (Decide d) (forgets b numbers) → Asked ds d
    by_rows (inl is) = asked_row b ds d is
    by_rows (inr is) = absurd (no_forget numbers b.rows d is)

    by : Stands Act (Decide d) (settles b ds numbers) ⊎ Stands Act (Decide d) (terminus_acts (effects b (settles b ds numbers)) x) → Asked ds d
    by (inl is) = by_rows (stands_in_both Act (Decide d) (decides b ds) (forgets b numbers) is)
    by (inr is) = absurd (no_terminus (effects b (settles b ds numbers)) x d is)

-- the book has the row that it decides, undecided
pub record Waiting (b : BookView) (d : Decision) : Type 0 where
  pub row : ARow
  pub there : Stands ARow row b.rows
  pub number : row.number ≡ d.row
  pub undecided : row.outcome ≡ None

waiting_row : (b : BookView) (ds : List Decision) (d : Decision) → Stands Act (Decide d) (decides b ds) → Waiting b d
waiting_row b ds d is =
    let one = stands_in_filter_map ARow Act (decide_row ds) (Decide d) b.rows is in by one.0 one.1 (is_open_row one.0) refl one.2
  where
    none_is : (o : Option DeliveryState) → is_none o ≡ true → o ≡ None
    none_is None e = refl
    none_is (Some s) e = absurd (clash e)

    by_outcome : (r : ARow) (v : Option DeliveryState) → decision_to r v ≡ Some (Decide d) → r.number ≡ d.row
    by_outcome r None h = absurd (none_not_some h)
    by_outcome r (Some s) h = ap (λ (y : Decision). y.row) (decides_same (some_same h))
      where
        decides_same : {x y : Decision} → Decide x ≡ Decide y → x ≡ y
        decides_same e = cc

    by : (r : ARow) → Stands ARow r b.rows → (q : Bool) → is_open_row r ≡ q → (if q then decision_to r (outcome_for r.number.0 ds) else None) ≡ Some (Decide d) → Waiting b d
    by r there true e h = record { row = r; there = there; number = by_outcome r (outcome_for r.number.0 ds) h; undecided = none_is r.outcome e }
    by r there false e h = absurd (none_not_some h)

waiting_act : (b : BookView) (ds : List Decision) (numbers : List RowNumber) (x : Option TerminusAct) (d : Decision) → Stands Act (Decide d) (settled_acts b ds numbers x) → Waiting b d
waiting_act b ds numbers x d is = by (stands_in_both Act (Decide d) (settles b ds numbers) (terminus_acts (effects b (settles b ds numbers)) x) is)
  where
    by_rows : Stands Act (Decide d) (decides b ds) ⊎ Stands Act (Decide d) (forgets b numbers) → Waiting b d
    by_rows (inl is) = waiting_row b ds d is
    by_rows (inr is) = absurd (no_forget numbers b.rows d is)

    by : Stands Act (Decide d) (settles b ds numbers) ⊎ Stands Act (Decide d) (terminus_acts (effects b (settles b ds numbers)) x) → Waiting b d
    by (inl is) = by_rows (stands_in_both Act (Decide d) (decides b ds) (forgets b numbers) is)
    by (inr is) = absurd (no_terminus (effects b (settles b ds numbers)) x d is)

same_row : (q r : RowNumber) → q.0 ≡ r.0 → q ≡ r
same_row q r e = let number : ℕ → RowNumber = λ n. record { 0 = n } in ap number e

-- the acts of an event that is no start
accepted_by_answer : (full : Bool) (t : Trace) (e : Event) (d : Decision) → AreOwn t → Stands Act (Decide d) (answer_acts (book_in t) t e (event_answer full (book_in t) t e)) → d.outcome ≡ state.Accepted → Accepts t e d.row × Waiting (book_in t) d
accepted_by_answer full t e d own stands accepted = (
  subst (λ (r : RowNumber). Accepts t e r) (same_row asked.of.row d.row asked.row) (by (stands_in_both Decision asked.of (map as_kept (decided_rows t xs)) (map_decides b t e answer) asked.asked)),
  waiting_act b (decided b t e answer) (forgotten b t e answer) (terminus_of_event b t e answer) d stands,
)
  where
    b : BookView
    b = book_in t

    answer : Answer
    answer = event_answer full b t e

    xs : List Change
    xs = event_changes t e answer

    asked : Asked (decided b t e answer) d
    asked = asked_act b (decided b t e answer) (forgotten b t e answer) (terminus_of_event b t e answer) d stands

    writes : journal_outcome asked.of.outcome ≡ state.Accepted
    writes = sym asked.writes ∙ accepted

    ended : (x : Delivery) → is_undecided x ≡ true → IsEnded (changed_by xs x).outcome
    ended x open_now = ended_by_all xs x (event_gives t e answer) (subst IsEnded (sym (undecided_is x open_now).0) tt)

    delivered : (d : Decision) → OfDelivery t xs d → kept_form d.outcome ≡ state.Accepted → Accepts t e d.row
    delivered d x kept =
        let terminal : IsTerminal d.outcome = subst IsEnded x.made (ended x.of x.undecided) in
        let is : Is (changed_by xs x.of).outcome = x.made ∙ ap (λ (s : DeliveryState). Some s) (accepted_back d.outcome terminal kept) in
        by_disposition (by_disposition_of t e xs d x own (accepted_by_event t e answer x.of (undecided_is x.of x.undecided).0 is))

    by : Stands Decision asked.of (map as_kept (decided_rows t xs)) ⊎ Stands Decision asked.of (map_decides b t e answer) → Accepts t e asked.of.row
    by (inl is) =
        let one = stands_in_map Decision Decision as_kept asked.of (decided_rows t xs) is in
        subst (λ (r : RowNumber). Accepts t e r) (ap (λ (y : Decision). y.row) one.2)
        (delivered one.0 (of_delivery t xs one.0 one.1) (ap (λ (y : Decision). journal_outcome y.outcome) one.2 ∙ writes))
    by (inr is) = by_map (by_map_of full b t e asked.of refl is writes)

no_start : (b : BookView) (d : Decision) → Stands Act (Decide d) (start_acts b) → d.outcome ≡ state.Accepted → ⊥
no_start b d is accepted =
    let one = stands_in_map ARow Act failure_of (Decide d) (filter is_lost b.rows) is in by one.0 one.2
  where
    by : (r : ARow) → Decide (record { row = r.number; outcome = lost_outcome }) ≡ Decide d → ⊥
    by r e = lost_differs (outcome_same e ∙ accepted)
      where
        outcome_same : {x y : Decision} → Decide x ≡ Decide y → x.outcome ≡ y.outcome
        outcome_same e = cc

planned_accept : (full : Bool) (t : Trace) (e : Event) (d : Decision) → AreOwn t → Stands Act (Decide d) (planned_acts full (book_in t) t e) → d.outcome ≡ state.Accepted
    → Accepts t e d.row × Waiting (book_in t) d
planned_accept full t event.Start d own is accepted = absurd (no_start (book_in t) d is accepted)
planned_accept full t (event.Item c i) d own is accepted = accepted_by_answer full t (event.Item c i) d own is accepted
planned_accept full t (event.Up c p) d own is accepted = accepted_by_answer full t (event.Up c p) d own is accepted
planned_accept full t (event.Down c) d own is accepted = accepted_by_answer full t (event.Down c) d own is accepted
planned_accept full t (event.Tick ms) d own is accepted = accepted_by_answer full t (event.Tick ms) d own is accepted

pub acts_accept : (t : Trace) (e : Event) (d : Decision) → AreOwn t → Stands Act (Decide d) (acts_of t e) → d.outcome ≡ state.Accepted → Accepts t e d.row × Waiting (book_in t) d
acts_accept t e d own stands accepted = by (planned_acts full (book_in t) t e) (planned_accept full t e d own) stands
  where
    full : Bool
    full = finds_full (journaled t) t e

    by : (planned : List Act) → (Stands Act (Decide d) planned → d.outcome ≡ state.Accepted → Accepts t e d.row × Waiting (book_in t) d)
        → Stands Act (Decide d) (or_admits planned (admitted_acts full (book_in t) t e)) → Accepts t e d.row × Waiting (book_in t) d
    by [] all is = absurd (no_admitted full (book_in t) t e d is)
    by (act ∷ acts) all is = all is accepted
