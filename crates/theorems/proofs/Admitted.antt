-- In every trace of the router a message with a row is bound after the act that admits it.
use Rattle.std.proofs.Common.{◌≡◌, ◌∙◌, sym, ap, refl, subst, ℕ, ◌+◌, Bool, true, false, List, [], ◌∷◌, ◌++◌, append-nil}
use Rattle.std.specs.Prelude.{◌||◌, if◌then◌else◌, Option, Some, None, is_none, option_map, unwrap_or, map, filter}
use Rattle.amqp_model.specs.declared.perf.Perf.{Perf}
use Rattle.amqp_model.specs.declared.perf.Perf.TheVariants as perf
use Rattle.amqp_model.specs.declared.item.Item.{Item}
use Rattle.amqp_model.specs.declared.item.Item.TheVariants as item
use Rattle.amqp_conn.specs.declared.conn.Conn.{Conn}
use Rattle.amqp_link.specs.declared.part.Delivery.{Delivery as Told}
use Rattle.amqp_link.specs.declared.part.Part.{Part}
use Rattle.amqp_link.specs.declared.part.Part.TheVariants as part
use Rattle.book_model.specs.declared.act.Act.{Act}
use Rattle.book_model.specs.declared.act.Act.TheVariants.{Make, Admit, Decide, Forget, Drop}
use Rattle.book_model.specs.declared.act.Admission.{Admission}
use Rattle.book_model.specs.declared.fault.BookFault.{BookFault}
use Rattle.book_model.specs.declared.row.Row.{Row}
use Rattle.book_model.specs.declared.row.RowNumber.{RowNumber}
use Rattle.book_model.specs.declared.terminus.TerminusNumber.{TerminusNumber}
use Rattle.book_model.specs.Book.{BookView, admit_refusal, make_refusal, drop_refusal, terminus_at, effects}
use Rattle.journal_store.specs.Acting.{settles, unless_refused, terminus_acts}
use Rattle.journal_store.specs.Lost.{failure_of, is_lost, start_acts}
use Rattle.journal_store.specs.declared.acting.TerminusAct.{TerminusAct}
use Rattle.journal_store.specs.declared.acting.TerminusAct.TheVariants as terminus
use Rattle.router_trace.specs.declared.binding.Binding.{Binding}
use Rattle.router_trace.specs.declared.binding.BindingKind.{BindingKind}
use Rattle.router_trace.specs.declared.binding.BindingKind.TheVariants as kind
use Rattle.router_trace.specs.declared.binding.Origin.{Origin}
use Rattle.router_trace.specs.declared.event.ConnectionId.{ConnectionId}
use Rattle.router_trace.specs.declared.event.Event.{Event}
use Rattle.router_trace.specs.declared.event.Event.TheVariants as event
use Rattle.router_trace.specs.declared.handle.Attachment.{Attachment}
use Rattle.router_trace.specs.Connection.{due, found, standing}
use Rattle.router_trace.specs.Deliveries.{is_message, origin_of as producer_of}
use Rattle.router_trace.specs.Following.{link_of}
use Rattle.router_trace.specs.Links.{Link, link, link_place, durable_key, free_handle, first_free_below}
use Rattle.router_trace.specs.Sessions.{free_channel, theirs}
use Rattle.router_trace.specs.Settling.{part_of}
use Rattle.router_trace.specs.Trace.{Entry, Booked, did, step_of}
use Rattle.state_messages.specs.Messages.{choice_of, consumer_of, binding_to, lasts}
use Rattle.reply_rows.specs.declared.answer.Answer.{Answer}
use Rattle.reply_rows.specs.declared.answer.Answer.TheVariants.{Nothing, Taken}
use Rattle.reply_rows.specs.Booking.{answer_at}
use Rattle.reply_rows.specs.Acts.{live_answer, event_answer, planned_acts, admitted_acts, or_admits, event_acts, finds_full, journaled, book_in, acts_of, booked, answer_of}
use Rattle.reply_transfers.specs.Transfers.{claimed_id, from_link, origin_of, lasts_on, may_pass, fresh_bound, join_from, joined_if, resumed_bound, whole_bound, part_bound}
use Rattle.reply_transfers.specs.Joining.{row_under}
use Rattle.reply_rows.specs.Admitting.{terminus_for, admitted_to, whole_admission, part_admission, taken_admission, unless_ends, event_admission, admits, row_in, without_acts}
use Rattle.reply_rows.specs.Deciding.{decided, forgotten, terminus_of_event}
use Rattle.router_reply.specs.Replies.{row_found, ends, heard, bound_for, item_bound, bound_by}
use Rattle.theorems.specs.Admitted.{IsFromTerminus, IsAdmitted, IsAdmittedUnder}
use Rattle.theorems.proofs.Arriving.{CameAt, came_whole, bound_on, bound_there}
use Rattle.reply_rows.proofs.Transfers.{IsOn, IfTaken, transfer_taken}
use Rattle.theorems.proofs.Made.{AllOfRows, settled_of_rows}
use Rattle.theorems.proofs.Tests.{some_same, none_not_some}

-- what an event decides, forgets, makes or drops admits nothing

clash : false ≡ true → ⊥
clash e = cc

after_rows : (acts more : List Act) → AllOfRows acts → row_in (acts ++ more) ≡ row_in more
after_rows [] more all = refl
after_rows (Make x ∷ acts) more all = absurd (clash all.0)
after_rows (Admit x ∷ acts) more all = absurd (clash all.0)
after_rows (Decide x ∷ acts) more all = after_rows acts more all.1
after_rows (Forget n ∷ acts) more all = after_rows acts more all.1
after_rows (Drop n ∷ acts) more all = absurd (clash all.0)

terminus_admits : (b : BookView) (o : Option TerminusAct) → row_in (terminus_acts b o) ≡ None
terminus_admits b None = refl
terminus_admits b (Some (terminus.Make x)) = by (is_none (make_refusal b x))
  where
    by : (applies : Bool) → row_in (unless_refused applies (Make x)) ≡ None
    by true = refl
    by false = refl
terminus_admits b (Some (terminus.Drop n)) = by (is_none (drop_refusal (terminus_at n.0 b.termini) b.rows))
  where
    by : (applies : Bool) → row_in (unless_refused applies (Drop n)) ≡ None
    by true = refl
    by false = refl

failures_of_rows : (rs : List Row) → AllOfRows (map failure_of rs)
failures_of_rows [] = tt
failures_of_rows (r ∷ rs) = (refl, failures_of_rows rs)

start_admits : (b : BookView) → row_in (start_acts b) ≡ None
start_admits b = ap row_in (sym (append-nil (start_acts b))) ∙ after_rows (start_acts b) [] (failures_of_rows (filter is_lost b.rows))

answer_admits : (b : BookView) (t : List Entry) (e : Event) (y : Answer) → row_in (settles b (decided b t e y) (forgotten b t e y)
    ++ terminus_acts (effects b (settles b (decided b t e y) (forgotten b t e y))) (terminus_of_event b t e y)) ≡ None
answer_admits b t e y =
    let settled : List Act = settles b (decided b t e y) (forgotten b t e y) in
    after_rows settled (terminus_acts (effects b settled) (terminus_of_event b t e y)) (settled_of_rows b (decided b t e y) (forgotten b t e y))
    ∙ terminus_admits (effects b settled) (terminus_of_event b t e y)

planned_admits : (full : Bool) (b : BookView) (t : List Entry) (e : Event) → row_in (planned_acts full b t e) ≡ None
planned_admits full b t event.Start = start_admits b
planned_admits full b t e = answer_admits b t e (event_answer full b t e)

-- so the acts of an event that admit a row are its admission, and nothing else

record Admits (full : Bool) (b : BookView) (t : List Entry) (e : Event) (acts : List Act) (row : RowNumber) : Type 0 where
  admission : Admission
  alone : acts ≡ Admit admission ∷ []
  room : full ≡ false
  asked : event_admission b t e (event_answer false b t e) ≡ Some admission
  applies : admit_refusal b admission ≡ None
  number : admission.row ≡ row

admitted_one : (full : Bool) (b : BookView) (t : List Entry) (e : Event) (row : RowNumber) → row_in (admitted_acts full b t e) ≡ Some row → Admits full b t e (admitted_acts full b t e) row
admitted_one true b t e row is = absurd (none_not_some is)
admitted_one false b t e row is = by (event_admission b t e (event_answer false b t e)) refl is
  where
    applied : (x : Admission) (f : Option BookFault) → event_admission b t e (event_answer false b t e) ≡ Some x → admit_refusal b x ≡ f → row_in (unless_refused (is_none f) (Admit x)) ≡ Some row
        → Admits false b t e (unless_refused (is_none f) (Admit x)) row
    applied x (Some fault) asked refusal is = absurd (none_not_some is)
    applied x None asked refusal is = record { admission = x; alone = refl; room = refl; asked = asked; applies = refusal; number = some_same is }

    by : (o : Option Admission) → event_admission b t e (event_answer false b t e) ≡ o → row_in (admits b o) ≡ Some row → Admits false b t e (admits b o) row
    by None asked is = absurd (none_not_some is)
    by (Some x) asked is = applied x (admit_refusal b x) asked refl is

event_admits : (full : Bool) (b : BookView) (t : List Entry) (e : Event) (row : RowNumber) → row_in (event_acts full b t e) ≡ Some row → Admits full b t e (event_acts full b t e) row
event_admits full b t e row is = by (planned_acts full b t e) (planned_admits full b t e) is
  where
    by : (planned : List Act) → row_in planned ≡ None → row_in (or_admits planned (admitted_acts full b t e)) ≡ Some row
        → Admits full b t e (or_admits planned (admitted_acts full b t e)) row
    by [] none is = admitted_one full b t e row is
    by (act ∷ acts) none is = absurd (none_not_some (sym none ∙ is))

-- what is admitted of a whole delivery

record AdmittedWhole (b : BookView) (u : List Entry) (c own handle : ℕ) (d : Told) (payload : List ℕ) (x : Admission) : Type 0 where
  id : ℕ
  at : Attachment
  row : x.row.0 ≡ b.next_row
  fresh : d.resume ≡ false
  claimed : claimed_id u c own handle d.id ≡ Some id
  producer : terminus_for b (durable_key (link u c own handle)) ≡ Some x.producer
  chosen : consumer_of u (link u c own handle) ≡ Some at
  tag : x.tag ≡ unwrap_or d.tag (record { items = [] })
  consumer : x.consumer ≡ terminus_for b (durable_key (link_of u at))
  format : x.format ≡ unwrap_or d.format 0
  carried : x.payload ≡ payload

whole_admitted : (b : BookView) (u : List Entry) (c own handle : ℕ) (d : Told) (payload : List ℕ) (x : Admission) → whole_admission b u c own handle d payload ≡ Some x
    → AdmittedWhole b u c own handle d payload x
whole_admitted b u c own handle d payload x is =
    by d.resume (claimed_id u c own handle d.id) (terminus_for b (durable_key (link u c own handle))) (consumer_of u (link u c own handle)) refl refl refl refl is
  where
    by : (resumed : Bool) (claimed : Option ℕ) (producer : Option TerminusNumber) (at : Option Attachment) → d.resume ≡ resumed → claimed_id u c own handle d.id ≡ claimed
        → terminus_for b (durable_key (link u c own handle)) ≡ producer → consumer_of u (link u c own handle) ≡ at
        → (if resumed || is_none claimed then None else admitted_to b u producer at d payload) ≡ Some x → AdmittedWhole b u c own handle d payload x
    by true claimed producer at fresh e f g is = absurd (none_not_some is)
    by false None producer at fresh e f g is = absurd (none_not_some is)
    by false (Some id) None at fresh e f g is = absurd (none_not_some is)
    by false (Some id) (Some n) None fresh e f g is = absurd (none_not_some is)
    by false (Some id) (Some n) (Some a) fresh e f g is =
        let same = some_same is in
        record {
          id = id;
          at = a;
          row = sym (ap (λ (y : Admission). y.row.0) same);
          fresh = fresh;
          claimed = e;
          producer = f ∙ ap (λ (y : Admission). Some y.producer) same;
          chosen = g;
          tag = sym (ap (λ (y : Admission). y.tag) same);
          consumer = sym (ap (λ (y : Admission). y.consumer) same);
          format = sym (ap (λ (y : Admission). y.format) same);
          carried = sym (ap (λ (y : Admission). y.payload) same);
        }

-- a row that is taken up again
abbrev pub is_taken_up : BindingKind → Bool
is_taken_up (kind.TakenUp brought) = true
is_taken_up _ = false

-- what is bound of a whole delivery, if that is a message

record BoundWhole (after : List Entry) (c own handle : ℕ) (d : Told) (row : Option RowNumber) (payload : List ℕ) (x : Binding) : Type 0 where
  place : Link
  named : x.row ≡ row
  at : link after c own handle ≡ Some place
  origin : producer_of x.kind ≡ option_map (origin_of (from_link c own handle place)) (claimed_id after c own handle d.id)
  chosen : consumer_of after (link after c own handle) ≡ Some x.consumer
  format : x.format ≡ unwrap_or d.format 0
  carried : x.payload ≡ payload
  lasting : x.lasting ≡ lasts after x.consumer

-- a row that a resumed delivery joins is none
pub joins_kind : (b : BookView) (after : List Entry) (c own handle : ℕ) (q : Option ℕ) (v : Option Link) (x : Binding) → resumed_bound b after c own handle q v ≡ Some x → (is_message x.kind ≡ false) × (is_taken_up x.kind ≡ false)
joins_kind b after c own handle None v x is = absurd (none_not_some is)
joins_kind b after c own handle (Some id) v x is = by (row_under b after c own id) v is
  where
    by : (r : Option Row) (v : Option Link) → joined_if after c own handle id r v ≡ Some x → (is_message x.kind ≡ false) × (is_taken_up x.kind ≡ false)
    by None v is = absurd (none_not_some is)
    by (Some r) None is = absurd (none_not_some is)
    by (Some r) (Some l) is = let same = some_same is in (sym (ap (λ (y : Binding). is_message y.kind) same), sym (ap (λ (y : Binding). is_taken_up y.kind) same))

whole_is_bound : (b : BookView) (after : List Entry) (c own handle : ℕ) (d : Told) (row : Option RowNumber) (payload : List ℕ) (x : Binding) → whole_bound b after c own handle d row payload ≡ Some x
    → is_message x.kind ≡ true → BoundWhole after c own handle d row payload x
whole_is_bound b after c own handle d row payload x is fresh =
    by d.resume (link after c own handle) (may_pass (lasts_on (link after c own handle)) (claimed_id after c own handle d.id) row) (consumer_of after (link after c own handle)) refl refl
    (ap (λ (o : Option Binding). if d.resume then resumed_bound b after c own handle (claimed_id after c own handle d.id) (link after c own handle) else o)
    (sym (bound_there after c own handle d row payload (link after c own handle) refl)) ∙ is)
  where
    by : (resumed : Bool) (v : Option Link) (passes : Bool) (at : Option Attachment) → link after c own handle ≡ v → consumer_of after (link after c own handle) ≡ at
        → (if resumed then resumed_bound b after c own handle (claimed_id after c own handle d.id) (link after c own handle) else bound_on after c own handle d row payload v passes at) ≡ Some x
        → BoundWhole after c own handle d row payload x
    by true v passes at e f is = absurd (clash (sym (joins_kind b after c own handle (claimed_id after c own handle d.id) (link after c own handle) x is).0 ∙ fresh))
    by false None passes at e f is = absurd (none_not_some is)
    by false (Some l) false at e f is = absurd (none_not_some is)
    by false (Some l) true None e f is = absurd (none_not_some is)
    by false (Some l) true (Some a) e f is =
        let same = some_same is in
        record {
          place = l;
          named = sym (ap (λ (y : Binding). y.row) same);
          at = e;
          origin = sym (ap (λ (y : Binding). producer_of y.kind) same);
          chosen = f ∙ ap (λ (y : Binding). Some y.consumer) same;
          format = sym (ap (λ (y : Binding). y.format) same);
          carried = sym (ap (λ (y : Binding). y.payload) same);
          lasting = sym (ap (λ (y : Binding). y.lasting) same) ∙ ap (λ (y : Binding). lasts after y.consumer) same;
        }

-- it isn't a row that is taken up again
whole_not_taken : (b : BookView) (after : List Entry) (c own handle : ℕ) (d : Told) (row : Option RowNumber) (payload : List ℕ) (x : Binding) → whole_bound b after c own handle d row payload ≡ Some x
    → is_taken_up x.kind ≡ false
whole_not_taken b after c own handle d row payload x is =
    by d.resume (link after c own handle) (may_pass (lasts_on (link after c own handle)) (claimed_id after c own handle d.id) row) (consumer_of after (link after c own handle))
    (ap (λ (o : Option Binding). if d.resume then resumed_bound b after c own handle (claimed_id after c own handle d.id) (link after c own handle) else o)
    (sym (bound_there after c own handle d row payload (link after c own handle) refl)) ∙ is)
  where
    by : (resumed : Bool) (v : Option Link) (passes : Bool) (at : Option Attachment)
        → (if resumed then resumed_bound b after c own handle (claimed_id after c own handle d.id) (link after c own handle) else bound_on after c own handle d row payload v passes at) ≡ Some x
        → is_taken_up x.kind ≡ false
    by true v passes at is = (joins_kind b after c own handle (claimed_id after c own handle d.id) (link after c own handle) x is).1
    by false None passes at is = absurd (none_not_some is)
    by false (Some l) false at is = absurd (none_not_some is)
    by false (Some l) true None is = absurd (none_not_some is)
    by false (Some l) true (Some a) is = sym (ap (λ (y : Binding). is_taken_up y.kind) (some_same is))

-- after the event that completed it

abbrev nothing : Option Part
nothing = None

no_part : (sasl : Bool) → (if sasl then nothing else nothing) ≡ nothing
no_part true = refl
no_part false = refl

unended : (ds : List ℕ) (o : Option Admission) (x : Admission) → unless_ends ds o ≡ Some x → (ds ≡ []) × (o ≡ Some x)
unended [] o x is = (refl, is)
unended (d ∷ ds) o x is = absurd (none_not_some is)

-- views that an event's acts leave as they are
link_after : (acts : List Act) (e : Event) (t : List Entry) (c own handle : ℕ) → link (did e ∷ Booked acts (due t e) ∷ t) c own handle ≡ link (without_acts t e) c own handle
link_after acts e t c own handle = refl

claimed_after : (acts : List Act) (e : Event) (t : List Entry) (c own handle : ℕ) (v : Option ℕ)
    → claimed_id (did e ∷ Booked acts (due t e) ∷ t) c own handle v ≡ claimed_id (without_acts t e) c own handle v
claimed_after acts e t c own handle None = refl
claimed_after acts e t c own handle (Some id) = refl

-- (the acts of an attach decide deliveries, but those of an event with a message don't)
consumer_after : (acts : List Act) (from : ConnectionId) (i : Item) (t : List Entry) (own : ℕ) (d : Told) (payload : List ℕ) → part_of i (link_place t from.0 own) ≡ Some (part.Whole d payload) → (l : Option Link)
    → consumer_of (did (event.Item from i) ∷ Booked acts (due t (event.Item from i)) ∷ t) l ≡ consumer_of (without_acts t (event.Item from i)) l
unfolding choice_of
consumer_after acts from (item.Frame sasl channel (perf.Transfer x) carried) t own d payload part None = refl
consumer_after acts from (item.Frame sasl channel (perf.Transfer x) carried) t own d payload part (Some l) = refl
consumer_after acts from (item.Frame sasl channel body carried) t own d payload part l = absurd (none_not_some (sym (no_part sasl) ∙ part))
consumer_after acts from _ t own d payload part l = absurd (none_not_some part)

-- the answer to an item after the acts of its event
pub answer_after : (acts : List Act) (ends : List ℕ) (t : List Entry) (full : Bool) (b : BookView) (c : ℕ) (p : Conn) (i : Item) → answer_at full b (Booked acts ends ∷ t) c p i ≡ answer_at full b t c p i
unfolding free_handle first_free_below free_channel
answer_after acts ends t full b c p (item.Frame sasl channel body payload) = by body
  where
    by : (body : Perf) → answer_at full b (Booked acts ends ∷ t) c p (item.Frame sasl channel body payload) ≡ answer_at full b t c p (item.Frame sasl channel body payload)
    by (perf.Attach a) = refl
    by (perf.Transfer x) = refl
    by _ = refl
answer_after acts ends t full b c p _ = refl

-- the message that is bound after an event whose acts admit its row
admitted_there : (t : List Entry) (e : Event) (c own handle : ℕ) (d : Told) (payload : List ℕ) (x : Binding) (row : RowNumber) (y : Admission)
    → acts_of t e ≡ Admit y ∷ [] → admit_refusal (book_in t) y ≡ None → y.row ≡ row
    → CameAt (booked t e) (did e ∷ booked t e) c own handle d x.payload
    → AdmittedWhole (book_in t) (without_acts t e) c own handle d payload y
    → BoundWhole (did e ∷ booked t e) c own handle d (row_found (booked t e)) payload x
    → consumer_of (did e ∷ booked t e) (link (without_acts t e) c own handle) ≡ consumer_of (without_acts t e) (link (without_acts t e) c own handle)
    → IsAdmitted (did e ∷ booked t e) x row
admitted_there t e c own handle d payload x row y alone applies number came whole is chooses = record {
  conn = c;
  own = own;
  handle = handle;
  message = d;
  came = came.came;
  before = t;
  admission = y;
  full = due t e;
  acts = came.at ∙ ap (λ (acts : List Act). Booked acts (due t e) ∷ t) alone;
  applies = applies;
  number = number;
  is_next = sym (ap (λ (r : RowNumber). r.0) number) ∙ whole.row;
  producer = subst (λ (o : Option Origin). IsFromTerminus o (did e ∷ booked t e) (book_in t) y.producer) (sym origin) from;
  consumer = whole.consumer ∙ ap (λ (a : Attachment). terminus_for (book_in t) (durable_key (link_of (without_acts t e) a))) same;
  tag = whole.tag;
  format = whole.format ∙ sym is.format;
  payload = whole.carried ∙ sym is.carried;
}
  where
    origin : producer_of x.kind ≡ Some (origin_of (from_link c own handle is.place) whole.id)
    origin =
        is.origin ∙ ap (option_map (origin_of (from_link c own handle is.place))) (claimed_after (acts_of t e) e t c own handle d.id ∙ whole.claimed)

    from : terminus_for (book_in t) (durable_key (link (did e ∷ booked t e) c own handle)) ≡ Some y.producer
    from = ap (λ (l : Option Link). terminus_for (book_in t) (durable_key l)) (link_after (acts_of t e) e t c own handle) ∙ whole.producer

    same : whole.at ≡ x.consumer
    same =
        some_same (sym whole.chosen ∙ sym chooses ∙ is.chosen)

-- it came whole
came_there : (t : List Entry) (from : ConnectionId) (i : Item) (p : Conn) (own handle : ℕ) (d : Told) (payload : List ℕ)
    → answer_at (finds_full (journaled t) t (event.Item from i)) (book_in t) t from.0 p i ≡ Taken own handle
    → part_of i (link_place t from.0 own) ≡ Some (part.Whole d payload)
    → CameAt (booked t (event.Item from i)) (did (event.Item from i) ∷ booked t (event.Item from i)) from.0 own handle d payload
came_there t from (item.Frame sasl channel (perf.Transfer x) carried) p own handle d payload answer part =
    let e : Event = event.Item from (item.Frame sasl channel (perf.Transfer x) carried) in
    let here : IsOn sasl (theirs t from.0 channel) (link_place t from.0 own x.handle) own handle =
    subst (λ (y : Answer). IfTaken sasl (theirs t from.0 channel) (λ own. link_place t from.0 own x.handle) y) answer
    (transfer_taken (finds_full (journaled t) t e) (book_in t) p t from.0 sasl channel x carried) in
    came_whole (booked t e) (did e ∷ booked t e) (step_of e) from sasl channel x carried own handle d payload refl refl here part
came_there t from (item.Frame sasl channel body carried) p own handle d payload answer part = absurd (none_not_some (sym (no_part sasl) ∙ part))
came_there t from _ p own handle d payload answer part = absurd (none_not_some part)

-- any message that is bound

abbrev RowAt : List ℕ → List Entry → Event → Binding → Type 0
RowAt id t e x = IsAdmittedUnder (heard id (booked t e) (step_of e)) x x.row

whole_row : (id : List ℕ) (t : List Entry) (from : ConnectionId) (i : Item) (p : Conn) (own handle : ℕ) (d : Told) (payload : List ℕ) (x : Binding)
    → standing (found t (event.Item from i) from.0) ≡ Some p
    → answer_at (finds_full (journaled t) t (event.Item from i)) (book_in t) t from.0 p i ≡ Taken own handle
    → part_of i (link_place t from.0 own) ≡ Some (part.Whole d payload)
    → whole_bound (book_in (booked t (event.Item from i))) (heard id (booked t (event.Item from i)) (step_of (event.Item from i))) from.0 own handle d (row_found (booked t (event.Item from i))) payload ≡ Some x
    → is_message x.kind ≡ true → (row : Option RowNumber) → x.row ≡ row → IsAdmittedUnder (heard id (booked t (event.Item from i)) (step_of (event.Item from i))) x row
whole_row id t from i p own handle d payload x stands answer part is fresh None none = tt
whole_row id t from i p own handle d payload x stands answer part is fresh (Some row) its =
    let e : Event = event.Item from i in
    let b : BookView = book_in t in
    let full : Bool = finds_full (journaled t) t e in
    let at : List Entry = booked t e in
    let after : List Entry = heard id at (step_of e) in
    let first : BoundWhole after from.0 own handle d (row_found at) payload x = whole_is_bound (book_in at) after from.0 own handle d (row_found at) payload x is fresh in
    let found_row : row_in (acts_of t e) ≡ Some row = sym first.named ∙ its in
    let adm : Admits full b t e (acts_of t e) row = event_admits full b t e row found_row in
    let y : Admission = adm.admission in
    let answered : event_answer false b t e ≡ Taken own handle =
    ap (live_answer false b t from.0 i) stands ∙ ap (λ (f : Bool). answer_at f b t from.0 p i) (sym adm.room) ∙ answer in
    let asked : unless_ends (due t e) (part_admission b (without_acts t e) from.0 own handle (part_of i (link_place t from.0 own))) ≡ Some y =
    sym (ap (event_admission b t e) answered) ∙ adm.asked in
    let open_ended = unended (due t e) (part_admission b (without_acts t e) from.0 own handle (part_of i (link_place t from.0 own))) y asked in
    let admitted : whole_admission b (without_acts t e) from.0 own handle d payload ≡ Some y =
    sym (ap (part_admission b (without_acts t e) from.0 own handle) part) ∙ open_ended.1 in
    let same : after ≡ did e ∷ at = ap (λ (ds : List ℕ). ends id ds (did e ∷ at)) open_ended.0 in
    let now : BoundWhole (did e ∷ at) from.0 own handle d (row_found at) payload x =
    whole_is_bound (book_in at) (did e ∷ at) from.0 own handle d (row_found at) payload x
    (subst (λ (w : List Entry). whole_bound (book_in at) w from.0 own handle d (row_found at) payload ≡ Some x) same is) fresh in
    subst (λ (w : List Entry). IsAdmitted w x row) (sym same)
    (admitted_there t e from.0 own handle d payload x row y adm.alone adm.applies adm.number
    (subst (λ (bytes : List ℕ). CameAt at (did e ∷ at) from.0 own handle d bytes) (sym now.carried) (came_there t from i p own handle d payload answer part))
    (whole_admitted b (without_acts t e) from.0 own handle d payload y admitted) now
    (consumer_after (acts_of t e) from i t own d payload part (link (without_acts t e) from.0 own handle)))

-- where a message that an event binds comes from

abbrev Comes : List ℕ → List Entry → ConnectionId → Item → Binding → Type 0 → Type 0
Comes id t from i x Q =
    (p : Conn) (own handle : ℕ) (d : Told) (payload : List ℕ) → standing (found t (event.Item from i) from.0) ≡ Some p
    → answer_at (finds_full (journaled t) t (event.Item from i)) (book_in t) t from.0 p i ≡ Taken own handle
    → part_of i (link_place t from.0 own) ≡ Some (part.Whole d payload)
    → whole_bound (book_in (booked t (event.Item from i))) (heard id (booked t (event.Item from i)) (step_of (event.Item from i))) from.0 own handle d (row_found (booked t (event.Item from i))) payload
    ≡ Some x → Q

item_elim : (id : List ℕ) (t : List Entry) (from : ConnectionId) (i : Item) (x : Binding) (Q : Type 0) → Comes id t from i x Q
    → item_bound (booked t (event.Item from i)) (heard id (booked t (event.Item from i)) (step_of (event.Item from i))) from.0 i (standing (found t (event.Item from i) from.0)) ≡ Some x → Q
item_elim id t from i x Q comes is = by (standing (found t e from.0)) refl is
  where
    e : Event
    e = event.Item from i

    after : List Entry
    after = heard id (booked t e) (step_of e)

    by_part : (p : Conn) (own handle : ℕ) (q : Option Part) → standing (found t e from.0) ≡ Some p → answer_at (finds_full (journaled t) t e) (book_in t) t from.0 p i ≡ Taken own handle
        → part_of i (link_place t from.0 own) ≡ q → part_bound (book_in (booked t e)) after from.0 own handle (row_found (booked t e)) q ≡ Some x → Q
    by_part p own handle (Some (part.Whole d payload)) stands answer part is = comes p own handle d payload stands answer part is
    by_part p own handle _ stands answer part is = absurd (none_not_some is)

    by_answer : (p : Conn) (y : Answer) → standing (found t e from.0) ≡ Some p → answer_at (finds_full (journaled t) t e) (book_in t) t from.0 p i ≡ y
        → bound_for (booked t e) after from.0 i y ≡ Some x → Q
    by_answer p (Taken own handle) stands answer is = by_part p own handle (part_of i (link_place t from.0 own)) stands answer refl is
    by_answer p _ stands answer is = absurd (none_not_some is)

    by : (v : Option Conn) → standing (found t e from.0) ≡ v → item_bound (booked t e) after from.0 i v ≡ Some x → Q
    by None stands is = absurd (none_not_some is)
    by (Some p) stands is =
        by_answer p (answer_of (booked t e) from.0 p i) stands (sym (answer_after (acts_of t e) (due t e) t (finds_full (journaled t) t e) (book_in t) from.0 p i)) is

pub bound_row : (id : List ℕ) (t : List Entry) (e : Event) (x : Binding) → bound_by (booked t e) (heard id (booked t e) (step_of e)) e ≡ Some x → is_message x.kind ≡ true
    → IsAdmittedUnder (heard id (booked t e) (step_of e)) x x.row
bound_row id t (event.Item from i) x is fresh =
    item_elim id t from i x (RowAt id t (event.Item from i) x)
    (λ p own handle d payload stands answer part is. whole_row id t from i p own handle d payload x stands answer part is fresh x.row refl) is
bound_row id t _ x is fresh = absurd (none_not_some is)

-- it isn't taken up again
pub bound_not_taken : (id : List ℕ) (t : List Entry) (e : Event) (x : Binding) → bound_by (booked t e) (heard id (booked t e) (step_of e)) e ≡ Some x → is_taken_up x.kind ≡ false
bound_not_taken id t (event.Item from i) x is =
    item_elim id t from i x (is_taken_up x.kind ≡ false)
    (λ p own handle d payload stands answer part is.
    whole_not_taken (book_in (booked t (event.Item from i))) (heard id (booked t (event.Item from i)) (step_of (event.Item from i))) from.0 own handle d (row_found (booked t (event.Item from i))) payload x is) is
bound_not_taken id t _ x is = absurd (none_not_some is)

-- what is bound, if it is a message
item_bound_whole : (id : List ℕ) (t : List Entry) (from : ConnectionId) (i : Item) (x : Binding) (Q : Type 0) → is_message x.kind ≡ true
    → ((own handle : ℕ) (d : Told) (payload : List ℕ)
    → BoundWhole (heard id (booked t (event.Item from i)) (step_of (event.Item from i))) from.0 own handle d (row_found (booked t (event.Item from i))) payload x → Q)
    → item_bound (booked t (event.Item from i)) (heard id (booked t (event.Item from i)) (step_of (event.Item from i))) from.0 i (standing (found t (event.Item from i) from.0)) ≡ Some x → Q
item_bound_whole id t from i x Q fresh gives is =
    item_elim id t from i x Q
    (λ p own handle d payload stands answer part is. gives own handle d payload
    (whole_is_bound (book_in (booked t (event.Item from i))) (heard id (booked t (event.Item from i)) (step_of (event.Item from i))) from.0 own handle d (row_found (booked t (event.Item from i))) payload x is fresh)) is

-- it outlives its consumer's connection if its consumer's link is durable
pub bound_lasting : (id : List ℕ) (t : List Entry) (e : Event) (x : Binding) → bound_by (booked t e) (heard id (booked t e) (step_of e)) e ≡ Some x → is_message x.kind ≡ true
    → x.lasting ≡ lasts (heard id (booked t e) (step_of e)) x.consumer
bound_lasting id t (event.Item from i) x is fresh =
    item_bound_whole id t from i x (x.lasting ≡ lasts (heard id (booked t (event.Item from i)) (step_of (event.Item from i))) x.consumer) fresh (λ own handle d payload whole. whole.lasting) is
bound_lasting id t _ x is fresh = absurd (none_not_some is)

-- its row is the one that the acts admit
pub row_of_bound : (id : List ℕ) (t : List Entry) (e : Event) (x : Binding) → bound_by (booked t e) (heard id (booked t e) (step_of e)) e ≡ Some x → is_message x.kind ≡ true
    → x.row ≡ row_in (acts_of t e)
row_of_bound id t (event.Item from i) x is fresh =
    item_bound_whole id t from i x (x.row ≡ row_in (acts_of t (event.Item from i))) fresh (λ own handle d payload whole. whole.named) is
row_of_bound id t _ x is fresh = absurd (none_not_some is)

-- and where they admit one, the message is bound

passes_row : (durable : Bool) (v : Option ℕ) (row : RowNumber) → may_pass durable v (Some row) ≡ true
passes_row true (Some id) row = refl
passes_row false (Some id) row = refl
passes_row durable None row = refl

terminus_of_link : (b : BookView) (v : Option Link) (n : TerminusNumber) → terminus_for b (durable_key v) ≡ Some n → (l : Link) × (v ≡ Some l)
terminus_of_link b None n is = absurd (none_not_some is)
terminus_of_link b (Some l) n is = (l, refl)

-- the binding that the next step finds, and the number that the book gave its row
pub record BindsNext (id : List ℕ) (t : List Entry) (e : Event) (row : RowNumber) : Type 0 where
  pub binding : Binding
  pub is : bound_by (booked t e) (heard id (booked t e) (step_of e)) e ≡ Some binding
  pub fresh : is_message binding.kind ≡ true
  pub number : row.0 ≡ (book_in t).next_row
  pub next : (effects (book_in t) (acts_of t e)).next_row ≡ (book_in t).next_row + 1

one_more : (b : BookView) (x : Admission) → (effects b (Admit x ∷ [])).next_row ≡ b.next_row + 1
unfolding effects
one_more b x = refl

whole_next : (b : BookView) (u : List Entry) (c own handle : ℕ) (d : Told) (payload : List ℕ) (row : RowNumber) (l : Link) (a : Attachment) → d.resume ≡ false → link u c own handle ≡ Some l
    → consumer_of u (link u c own handle) ≡ Some a
    → whole_bound b u c own handle d (Some row) payload
    ≡ Some (binding_to u (option_map (origin_of (from_link c own handle l)) (claimed_id u c own handle d.id)) (Some row) (unwrap_or d.format 0) payload a)
whole_next b u c own handle d payload row l a fresh at chosen =
    ap (λ (r : Bool). if r then resumed_bound b u c own handle (claimed_id u c own handle d.id) (link u c own handle) else fresh_bound u c own handle d (Some row) payload (link u c own handle)) fresh
    ∙ bound_there u c own handle d (Some row) payload (link u c own handle) refl
    ∙ ap (λ (v : Option Link). bound_on u c own handle d (Some row) payload v (may_pass (lasts_on (link u c own handle)) (claimed_id u c own handle d.id) (Some row)) (consumer_of u (link u c own handle))) at
    ∙ ap (λ (m : Bool). bound_on u c own handle d (Some row) payload (Some l) m (consumer_of u (link u c own handle))) (passes_row (lasts_on (link u c own handle)) (claimed_id u c own handle d.id) row)
    ∙ ap (λ (o : Option Attachment). bound_on u c own handle d (Some row) payload (Some l) true o) chosen

item_next : (id : List ℕ) (t : List Entry) (from : ConnectionId) (i : Item) (row : RowNumber) (p : Conn) (own handle : ℕ) (d : Told) (payload : List ℕ)
    → (adm : Admits (finds_full (journaled t) t (event.Item from i)) (book_in t) t (event.Item from i) (acts_of t (event.Item from i)) row)
    → standing (found t (event.Item from i) from.0) ≡ Some p → answer_at false (book_in t) t from.0 p i ≡ Taken own handle
    → part_of i (link_place t from.0 own) ≡ Some (part.Whole d payload) → due t (event.Item from i) ≡ []
    → whole_admission (book_in t) (without_acts t (event.Item from i)) from.0 own handle d payload ≡ Some adm.admission
    → BindsNext id t (event.Item from i) row
item_next id t from i row p own handle d payload adm stands answer part open_ended admitted =
    let e : Event = event.Item from i in
    let b : BookView = book_in t in
    let full : Bool = finds_full (journaled t) t e in
    let at : List Entry = booked t e in
    let u : List Entry = did e ∷ at in
    let y : Admission = adm.admission in
    let whole : AdmittedWhole b (without_acts t e) from.0 own handle d payload y = whole_admitted b (without_acts t e) from.0 own handle d payload y admitted in
    let there = terminus_of_link b (link (without_acts t e) from.0 own handle) y.producer whole.producer in
    let named : row_found at ≡ Some row = ap row_in adm.alone ∙ ap (λ (r : RowNumber). Some r) adm.number in
    let same : heard id at (step_of e) ≡ u = ap (λ (ds : List ℕ). ends id ds u) open_ended in
    let after : List Entry = heard id at (step_of e) in
    let answered : answer_of at from.0 p i ≡ Taken own handle =
    answer_after (acts_of t e) (due t e) t full b from.0 p i ∙ ap (λ (f : Bool). answer_at f b t from.0 p i) adm.room ∙ answer in
    let chosen : consumer_of u (link u from.0 own handle) ≡ Some whole.at = consumer_after (acts_of t e) from i t own d payload part (link (without_acts t e) from.0 own handle) ∙ whole.chosen in
    record {
      binding = binding_to u (option_map (origin_of (from_link from.0 own handle there.0)) (claimed_id u from.0 own handle d.id)) (Some row) (unwrap_or d.format 0) payload whole.at;
      is =
          ap (item_bound at after from.0 i) stands ∙ ap (bound_for at after from.0 i) answered ∙ ap (part_bound (book_in at) after from.0 own handle (row_found at)) part
          ∙ ap (λ (w : List Entry). whole_bound (book_in at) w from.0 own handle d (row_found at) payload) same
          ∙ ap (λ (r : Option RowNumber). whole_bound (book_in at) u from.0 own handle d r payload) named
          ∙ whole_next (book_in at) u from.0 own handle d payload row there.0 whole.at whole.fresh there.1 chosen;
      fresh = refl;
      number = sym (ap (λ (r : RowNumber). r.0) adm.number) ∙ whole.row;
      next = ap (λ (acts : List Act). (effects b acts).next_row) adm.alone ∙ one_more b y;
    }

admits_next : (id : List ℕ) (t : List Entry) (from : ConnectionId) (i : Item) (row : RowNumber)
    → Admits (finds_full (journaled t) t (event.Item from i)) (book_in t) t (event.Item from i) (acts_of t (event.Item from i)) row → BindsNext id t (event.Item from i) row
admits_next id t from i row adm = by (standing (found t e from.0)) refl adm.asked
  where
    e : Event
    e = event.Item from i

    y : Admission
    y = adm.admission

    by_part : (p : Conn) (own handle : ℕ) (q : Option Part) → standing (found t e from.0) ≡ Some p → answer_at false (book_in t) t from.0 p i ≡ Taken own handle
        → part_of i (link_place t from.0 own) ≡ q → (due t e ≡ []) × (part_admission (book_in t) (without_acts t e) from.0 own handle q ≡ Some y) → BindsNext id t e row
    by_part p own handle (Some (part.Whole d payload)) stands answer part is = item_next id t from i row p own handle d payload adm stands answer part is.0 is.1
    by_part p own handle _ stands answer part is = absurd (none_not_some is.1)

    by_answer : (p : Conn) (z : Answer) → standing (found t e from.0) ≡ Some p → answer_at false (book_in t) t from.0 p i ≡ z
        → (due t e ≡ []) × (taken_admission (book_in t) t (without_acts t e) from.0 i z ≡ Some y) → BindsNext id t e row
    by_answer p (Taken own handle) stands answer is = by_part p own handle (part_of i (link_place t from.0 own)) stands answer refl is
    by_answer p _ stands answer is = absurd (none_not_some is.1)

    by : (v : Option Conn) → standing (found t e from.0) ≡ v → event_admission (book_in t) t e (live_answer false (book_in t) t from.0 i v) ≡ Some y → BindsNext id t e row
    by None stands is = absurd (none_not_some (unended (due t e) (taken_admission (book_in t) t (without_acts t e) from.0 i Nothing) y is).1)
    by (Some p) stands is =
        by_answer p (answer_at false (book_in t) t from.0 p i) stands refl (unended (due t e) (taken_admission (book_in t) t (without_acts t e) from.0 i (answer_at false (book_in t) t from.0 p i)) y is)

pub binds_next : (id : List ℕ) (t : List Entry) (e : Event) (row : RowNumber) → row_in (acts_of t e) ≡ Some row → BindsNext id t e row
binds_next id t e row is = by e (event_admits (finds_full (journaled t) t e) (book_in t) t e row is)
  where
    by : (e : Event) → Admits (finds_full (journaled t) t e) (book_in t) t e (acts_of t e) row → BindsNext id t e row
    by (event.Item from i) adm = admits_next id t from i row adm
    by _ adm = absurd (none_not_some adm.asked)
