-- The rows that an event's attach takes up: each stands in the book for the terminus of the link, and is bound as the book has it. And those that are joined
-- to a producer's link by its attach, or settled there by the event's acts.
use Rattle.std.proofs.Common.{◌≡◌, ◌∙◌, sym, ap, refl, subst, ◌⊎◌, inl, inr, ℕ, Bool, true, false, not, List, [], ◌∷◌, ◌++◌, append_assoc}
use Rattle.std.specs.Prelude.{Option, Some, None, filter, if◌then◌else◌, option_map, option_and_then}
use Rattle.std.specs.List.{cons_option}
use Rattle.amqp_model.specs.declared.perf.Attach.{Attach as AnAttach}
use Rattle.amqp_model.specs.declared.item.Item.{Item}
use Rattle.amqp_model.specs.declared.item.Item.TheVariants as item
use Rattle.amqp_model.specs.declared.perf.Perf.TheVariants as perf
use Rattle.amqp_model.specs.declared.perf.Role.{Role}
use Rattle.amqp_model.specs.declared.perf.Role.TheVariants.{Sender, Receiver}
use Rattle.amqp_model.specs.declared.state.DeliveryState.{DeliveryState}
use Rattle.amqp_model.specs.declared.state.UnsettledDelivery.{UnsettledDelivery}
use Rattle.book_model.specs.declared.act.Act.{Act}
use Rattle.book_model.specs.declared.act.Act.TheVariants.{Make, Admit, Decide, Forget, Drop}
use Rattle.book_model.specs.declared.row.Row.{Row as ARow}
use Rattle.book_model.specs.declared.terminus.LinkKey.{LinkKey}
use Rattle.book_model.specs.declared.terminus.LinkRole.TheVariants.{Producer}
use Rattle.book_model.specs.declared.terminus.Terminus.{Terminus}
use Rattle.book_model.specs.declared.row.RowNumber.{RowNumber}
use Rattle.book_model.specs.Book.{BookView, terminus_of, is_for, is_from, is_of}
use Rattle.router_trace.specs.declared.binding.Binding.{Binding}
use Rattle.router_trace.specs.declared.binding.BindingKind.TheVariants as kind
use Rattle.router_trace.specs.declared.binding.DeliveryName.{DeliveryName}
use Rattle.router_trace.specs.declared.binding.DeliveryName.TheVariants.{Row}
use Rattle.router_trace.specs.declared.binding.Holding.{Holding}
use Rattle.router_trace.specs.declared.binding.Holding.TheVariants as holding
use Rattle.router_trace.specs.declared.binding.JoinedTo.{JoinedTo}
use Rattle.router_trace.specs.declared.binding.Origin.{Origin}
use Rattle.router_trace.specs.declared.binding.Resumed.{Resumed}
use Rattle.router_trace.specs.declared.binding.Resumed.TheVariants.{Settled, Again, Anew, Kept}
use Rattle.resume_core.specs.Resuming.{entries_of, is_told_of, outcome_after, resumed_as, sending_as, sending_of, sendings, sent_as}
use Rattle.resume_core.specs.declared.consumer.Sending.{Sending}
use Rattle.router_trace.specs.declared.condition.Condition.TheVariants.{ResourceLimitExceeded}
use Rattle.router_trace.specs.declared.event.Event.{Event}
use Rattle.router_trace.specs.declared.event.Event.TheVariants as event
use Rattle.router_trace.specs.declared.handle.Attachment.{Attachment}
use Rattle.router_trace.specs.Trace.{Trace, Out, Did, Bound, Put, Step, goes, puts, each_to}
use Rattle.router_trace.specs.Connection.{conn, due}
use Rattle.router_trace.specs.Deliveries.{Delivery, called, delivery, is_message, joined_by, joined_to, number_named, outcome_as, origin_in, told_in, early_in, owned_in, resumed_held}
use Rattle.router_trace.specs.LinkFrames.{other}
use Rattle.router_trace.specs.Links.{holder, way_of}
use Rattle.state_messages.specs.Asking.{consumer_with}
use Rattle.state_messages.specs.Messages.{brings, lasts, payload_as, taken_up_by, with_bound}
use Rattle.state_connections.proofs.Lists.{by_test}
use Rattle.state_deliveries.proofs.Called.{there_named, one_name}
use Rattle.reply_rows.specs.Booking.{wanted_key, wants_durable}
use Rattle.reply_rows.specs.declared.answer.Answer.{Answer}
use Rattle.reply_rows.specs.declared.answer.Answer.TheVariants.{Attach}
use Rattle.reply_rows.specs.Acts.{journaled, book_found, book_in, found_acts, answer_to_event}
use Rattle.reply_rows.specs.Asking.{all_rows, asked_key, key_taken, receives}
use Rattle.router_reply.specs.Holding.{as_held, freed, freed_by, freed_from, held_if, held_to, rows_held, with_held}
use Rattle.reply_rows.specs.Asking.{held_key}
use Rattle.router_reply.specs.Replies.{closing_of, ends, heard, bound_by, own_row, replied}
use Rattle.reply_rows.specs.Resuming.{resumed_key, attach_in, rows_at, rows_for}
use Rattle.router_reply.specs.Resuming.{rows_taken, bound_to, bound_if, with_rows, resumed}
use Rattle.router_core.proofs.Copied.{copied_same}
use Rattle.router_core.proofs.Resuming.{with_held_keep, with_rows_keep}
use Rattle.theorems.specs.Came.{last_found, HoldsRow, SettlesRow, TakesUp}
use Rattle.theorems.proofs.Tests.{none_not_some, some_same}

-- what is sent of a row of a book, of the terminus of a key: its outcome after the attach, by the attach's map
pub record Waits (b : BookView) (theirs : List UnsettledDelivery) (key : LinkKey) (x : Sending) : Type 0 where
  pub row : ARow
  pub number : x.row ≡ row.number
  pub format : x.format ≡ row.format
  pub payload : x.payload ≡ row.payload
  pub earlier : List ARow
  pub later : List ARow
  pub kept : b.rows ≡ earlier ++ row ∷ later
  pub outcome : outcome_as x.how ≡ outcome_after theirs row
  pub terminus : Terminus
  pub of_key : terminus_of key b.termini ≡ Some terminus
  pub waits : is_for terminus.number.0 row ≡ true

abbrev pub AllWait : BookView → List UnsettledDelivery → LinkKey → List Sending → Type 0
AllWait b theirs key [] = Unit {0}
AllWait b theirs key (x ∷ xs) = Waits b theirs key x × AllWait b theirs key xs

-- what is sent of the rows of a terminus

sent_outcome : (complete told : Bool) (o : Option DeliveryState) (how : Resumed) → resumed_as complete told o ≡ Some how → outcome_as how ≡ o
sent_outcome complete true (Some s) how e = let same : Settled s ≡ how = cc in ap outcome_as (sym same)
sent_outcome complete true None how e = let same : Again ≡ how = cc in ap outcome_as (sym same)
sent_outcome complete false (Some s) how e = absurd cc
sent_outcome true false None how e = let same : Anew ≡ how = cc in ap outcome_as (sym same)
sent_outcome false false None how e = let same : Kept ≡ how = cc in ap outcome_as (sym same)

waits_here : (b : BookView) (key : LinkKey) (x : Terminus) → terminus_of key b.termini ≡ Some x → (complete : Bool) (theirs : List UnsettledDelivery)
    → (before : List ARow) (r : ARow) (rs : List ARow) → b.rows ≡ before ++ r ∷ rs → is_for x.number.0 r ≡ true
    → (s : Sending) → sending_of complete theirs r ≡ Some s → Waits b theirs key s
waits_here b key x found complete theirs before r rs is bound s sent = by (sent_as complete theirs r) refl sent
  where
    by : (v : Option Resumed) → sent_as complete theirs r ≡ v → option_map (sending_as r) v ≡ Some s → Waits b theirs key s
    by None e sent = absurd (none_not_some sent)
    by (Some how) e sent = subst (λ (y : Sending). Waits b theirs key y) (some_same sent) (record {
      row = r;
      number = refl;
      format = refl;
      payload = refl;
      earlier = before;
      later = rs;
      kept = is;
      outcome = sent_outcome complete (is_told_of theirs r) (outcome_after theirs r) how e;
      terminus = x;
      of_key = found;
      waits = bound;
    })

cons_wait : (b : BookView) (theirs : List UnsettledDelivery) (key : LinkKey) (o : Option Sending) (xs : List Sending) → ((s : Sending) → o ≡ Some s → Waits b theirs key s) → AllWait b theirs key xs
    → AllWait b theirs key (cons_option o xs)
cons_wait b theirs key None xs one all = all
cons_wait b theirs key (Some s) xs one all = (one s refl, all)

sent_wait : (b : BookView) (key : LinkKey) (x : Terminus) → terminus_of key b.termini ≡ Some x → (complete : Bool) (theirs : List UnsettledDelivery)
    → (before rest : List ARow) → b.rows ≡ before ++ rest
    → AllWait b theirs key (sendings complete theirs (filter (is_for x.number.0) (filter (is_of x.number.0) rest)))
sent_wait b key x found complete theirs before [] is = tt
sent_wait b key x found complete theirs before (r ∷ rs) is =
    let kept : List ARow = filter (is_for x.number.0) (filter (is_of x.number.0) rs) in
    let others : AllWait b theirs key (sendings complete theirs kept) = sent_wait b key x found complete theirs (before ++ r ∷ []) rs (is ∙ sym (append_assoc before (r ∷ []) rs)) in
    by_test (is_of x.number.0 r)
    (λ e. by_test (is_for x.number.0 r)
    (λ f. rw (e, f) (cons_wait b theirs key (sending_of complete theirs r) (sendings complete theirs kept) (waits_here b key x found complete theirs before r rs is f) others))
    (λ f. rw (e, f) others))
    (λ e. rw e others)

-- What is known where a row is taken up: the trace that the event found, the link's key, the row's outcome after the attach, and that nothing was done since
-- to the book and to the link.
pub record Brought (at : Trace) (e : Event) (first u : Trace) (b : Binding) (takes : TakesUp u b) : Type 0 where
  pub found_at : last_found u ≡ at
  pub same_book : book_in u ≡ book_in first
  pub by_key : resumed_key at e (answer_to_event at e) ≡ Some takes.key
  pub attach : AnAttach
  pub came : attach_in e ≡ Some attach
  pub gets : outcome_as takes.brought.how ≡ outcome_after (entries_of attach.unsettled) takes.row
  pub same_link : lasts u b.consumer ≡ lasts first b.consumer
  pub held : consumer_with first takes.key ≡ Some b.consumer

-- what each binding of such a row keeps, all of them keep

abbrev pub TakenStep : Trace → Event → Trace → (Trace → Type 0) → Type 0
TakenStep at e first P = (u : Trace) (b : Binding) (takes : TakesUp u b) → Brought at e first u b takes → P u → P (Bound b ∷ u)

takes : (at : Trace) (theirs : List UnsettledDelivery) (key : LinkKey) (a : Attachment) (x : Sending) (u : Trace) → Waits (book_found at) theirs key x → last_found u ≡ at → consumer_with u key ≡ Some a
    → TakesUp u (taken_up_by u x.row x.how x.format x.payload a)
takes at theirs key a x u w is stands = record {
  brought = brings u x.row x.how;
  taken = refl;
  row = w.row;
  number = ap (λ (n : RowNumber). Some n) w.number;
  earlier = w.earlier;
  later = w.later;
  kept = ap (λ (v : Trace). (book_found v).rows) is ∙ w.kept;
  format = w.format;
  payload = ap (payload_as x.how) w.payload;
  key = key;
  terminus = w.terminus;
  of_key = ap (λ (v : Trace). terminus_of key (book_found v).termini) is ∙ w.of_key;
  waits = w.waits;
  attached = stands;
  origin = ap (λ (n : RowNumber). origin_in (called u (Row n))) w.number;
  told = ap (λ (n : RowNumber). told_in (called u (Row n))) w.number;
  early = ap (λ (n : RowNumber). early_in (called u (Row n))) w.number;
  owned = ap (λ (n : RowNumber). owned_in (called u (Row n))) w.number;
  lasting = refl;
}

-- a binding leaves the consumer with a key
stays_with : (u : Trace) (b : Binding) (key : LinkKey) → consumer_with (Bound b ∷ u) key ≡ consumer_with u key
stays_with u b key = refl

all_taken : (P : Trace → Type 0) (at : Trace) (e : Event) (first : Trace) → TakenStep at e first P → (key : LinkKey) → resumed_key at e (answer_to_event at e) ≡ Some key
    → (attach : AnAttach) → attach_in e ≡ Some attach → (a : Attachment) → consumer_with first key ≡ Some a
    → (rows : List Sending) → AllWait (book_found at) (entries_of attach.unsettled) key rows
    → (u : Trace) → last_found u ≡ at → book_in u ≡ book_in first → lasts u a ≡ lasts first a → consumer_with u key ≡ Some a → P u → P (bound_to a rows u)
unfolding takes
all_taken P at e first step key keyed attach came a held [] all u found same stays stands was = was
all_taken P at e first step key keyed attach came a held (x ∷ xs) all u found same stays stands was =
    let b : Binding = taken_up_by u x.row x.how x.format x.payload a in
    all_taken P at e first step key keyed attach came a held xs all.1 (Bound b ∷ u) found same stays (stays_with u b key ∙ stands)
    (step u b (takes at (entries_of attach.unsettled) key a x u all.0 found stands)
    (record { found_at = found; same_book = same; by_key = keyed; attach = attach; came = came; gets = all.0.outcome; same_link = stays; held = held }) was)

-- the rows that it takes up
rows_wait : (b : BookView) (k : LinkKey) (a : AnAttach) → AllWait b (entries_of a.unsettled) k (rows_for b (Some a) (Some k))
rows_wait b k a = by (terminus_of k b.termini) refl
  where
    by : (v : Option Terminus) → terminus_of k b.termini ≡ v
        → AllWait b (entries_of a.unsettled) k (sendings (not a.incomplete_unsettled) (entries_of a.unsettled) (rows_at b v))
    by None found = tt
    by (Some x) found = sent_wait b k x found (not a.incomplete_unsettled) (entries_of a.unsettled) [] b.rows refl

rows_taken_up : (P : Trace → Type 0) (at : Trace) (e : Event) (u : Trace) → TakenStep at e u P → last_found u ≡ at → P u
    → P (with_rows (resumed_key at e (answer_to_event at e)) (rows_taken at e (answer_to_event at e)) u)
rows_taken_up P at e u step found was = by (resumed_key at e (answer_to_event at e)) refl
  where
    by_link : (k : LinkKey) → resumed_key at e (answer_to_event at e) ≡ Some k → (a : Option AnAttach) → attach_in e ≡ a → (v : Option Attachment) → consumer_with u k ≡ v
        → P (bound_if v (rows_for (book_found at) a (Some k)) u)
    by_link k keyed a came None stands = was
    by_link k keyed None came (Some x) stands = was
    by_link k keyed (Some a) came (Some x) stands =
        all_taken P at e u step k keyed a came x stands (rows_for (book_found at) (Some a) (Some k)) (rows_wait (book_found at) k a) u found refl refl stands was

    by : (k : Option LinkKey) → resumed_key at e (answer_to_event at e) ≡ k → P (with_rows k (rows_for (book_found at) (attach_in e) k) u)
    by None keyed = was
    by (Some k) keyed = by_link k keyed (attach_in e) refl (consumer_with u k) refl

-- The rows that a producer's link has without a delivery: of its terminus, from its attach on, and settled once acts forget them. The book is that after the
-- acts.

abbrev pub HeldStep : Trace → (Trace → Type 0) → Type 0
HeldStep at P = (u : Trace) (b : Binding) (q : Holding) (to : JoinedTo) → b.kind ≡ kind.Joined q to → resumed_held q ≡ None → HoldsRow u b q ⊎ SettlesRow u b q → book_in u ≡ book_in at → P u
    → P (Bound b ∷ u)

-- the terminus is a producer's
sender_way : (r : Role) → receives r ≡ false → way_of (other r) ≡ Producer
sender_way Sender e = refl
sender_way Receiver e = absurd cc

role_asked : (t : Trace) (c : ℕ) (a : AnAttach) (k : LinkKey) → receives a.role ≡ false → asked_key t c a ≡ Some k → k.role ≡ Producer
role_asked t c a k sends is = by (wants_durable a) is
  where
    by : (q : Bool) → (if q then Some (wanted_key t c a) else None) ≡ Some k → k.role ≡ Producer
    by true is = ap (λ (j : LinkKey). j.role) (sym (some_same is)) ∙ sender_way a.role sends
    by false is = absurd (none_not_some is)

role_taken : (t : Trace) (c : ℕ) (a : AnAttach) (y : Answer) (k : LinkKey) → receives a.role ≡ false → key_taken t c a y ≡ Some k → k.role ≡ Producer
role_taken t c a (Attach own) k sends is = role_asked t c a k sends is
role_taken t c a _ k sends is = absurd (none_not_some is)

held_role : (t : Trace) (e : Event) (y : Answer) (k : LinkKey) → held_key t e y ≡ Some k → k.role ≡ Producer
held_role t (event.Item c (item.Frame sasl channel (perf.Attach a) payload)) y k is = by (receives a.role) refl is
  where
    by : (q : Bool) → receives a.role ≡ q → (if q then None else key_taken t c.0 a y) ≡ Some k → k.role ≡ Producer
    by true e is = absurd (none_not_some is)
    by false e is = role_taken t c.0 a y k e is
held_role t (event.Item c _) y k is = absurd (none_not_some is)
held_role t _ y k is = absurd (none_not_some is)

-- its rows are rows of the book
record IsRowFrom (b : BookView) (n : ℕ) (row : ARow) : Type 0 where
  earlier : List ARow
  later : List ARow
  kept : b.rows ≡ earlier ++ row ∷ later
  came : is_from n row ≡ true

abbrev AllFrom : BookView → ℕ → List ARow → Type 0
AllFrom b n [] = Unit {0}
AllFrom b n (r ∷ rs) = IsRowFrom b n r × AllFrom b n rs

rows_from : (b : BookView) (n : ℕ) (before rest : List ARow) → b.rows ≡ before ++ rest → AllFrom b n (filter (is_from n) (filter (is_of n) rest))
rows_from b n before [] is = tt
rows_from b n before (r ∷ rs) is =
    let others : AllFrom b n (filter (is_from n) (filter (is_of n) rs)) = rows_from b n (before ++ r ∷ []) rs (is ∙ sym (append_assoc before (r ∷ []) rs)) in
    by_test (is_of n r)
    (λ e. by_test (is_from n r)
    (λ f. rw (e, f) ((record { earlier = before; later = rs; kept = is; came = f }, others)))
    (λ f. rw (e, f) others))
    (λ e. rw e others)

as_quiet : (at : Attachment) (row : ARow) → resumed_held (as_held at row) ≡ None
as_quiet at row = by row.forgotten
  where
    by : (f : Bool) → resumed_held (if f then holding.Settled at else holding.Unresumed at) ≡ None
    by true = refl
    by false = refl

all_held : (P : Trace → Type 0) (at : Trace) → HeldStep at P → (key : LinkKey) → key.role ≡ Producer → (x : Terminus) → terminus_of key (book_in at).termini ≡ Some x → (a : Attachment)
    → (rows : List ARow) → AllFrom (book_in at) x.number.0 rows → (u : Trace) → book_in u ≡ book_in at → holder u key ≡ Some a → P u → P (held_to a rows u)
all_held P at step key role x found a [] all u same stands was = was
all_held P at step key role x found a (r ∷ rs) all u same stands was =
    let b : Binding = joined_by u (as_held a r) r.number r.outcome in
    all_held P at step key role x found a rs all.1 (Bound b ∷ u) same stands
    (step u b (as_held a r) (joined_to (called u (Row r.number)) r.outcome) refl (as_quiet a r)
    (inl (record {
      at = a;
      key = key;
      role = role;
      attached = stands;
      terminus = x;
      of_key = ap (λ (c : BookView). terminus_of key c.termini) same ∙ found;
      row = r;
      earlier = all.0.earlier;
      later = all.0.later;
      kept = ap (λ (c : BookView). c.rows) same ∙ all.0.kept;
      its_producer = all.0.came;
      how = refl;
      holds = refl;
    })) same was)

rows_given : (P : Trace → Type 0) (at : Trace) (e : Event) (u : Trace) → HeldStep at P → book_in u ≡ book_in at → P u → P (with_held (book_in at) (held_key at e (answer_to_event at e)) u)
rows_given P at e u step same was = by (held_key at e (answer_to_event at e)) refl
  where
    by_terminus : (k : LinkKey) → k.role ≡ Producer → (a : Attachment) → holder u k ≡ Some a → (v : Option Terminus) → terminus_of k (book_in at).termini ≡ v
        → P (held_to a (all_rows (book_in at) v) u)
    by_terminus k role a stands None found = was
    by_terminus k role a stands (Some x) found =
        all_held P at step k role x found a (all_rows (book_in at) (Some x)) (rows_from (book_in at) x.number.0 [] (book_in at).rows refl) u same stands was

    by_link : (k : LinkKey) → k.role ≡ Producer → (v : Option Attachment) → holder u k ≡ v → P (held_if v (rows_held (book_in at) k) u)
    by_link k role None stands = was
    by_link k role (Some a) stands = by_terminus k role a stands (terminus_of k (book_in at).termini) refl

    by : (k : Option LinkKey) → held_key at e (answer_to_event at e) ≡ k → P (with_held (book_in at) k u)
    by None keyed = was
    by (Some k) keyed = by_link k (held_role at e (answer_to_event at e) k keyed) (holder u k) refl

-- the trace keeps its book with each of them

with_rows_book : (key : Option LinkKey) (rs : List Sending) (u : Trace) → journaled (with_rows key rs u) ≡ journaled u
with_rows_book key rs u = with_rows_keep (λ (v : Trace). journaled v ≡ journaled u) (λ b v is. is) key rs u refl

with_held_book : (b : BookView) (key : Option LinkKey) (u : Trace) → journaled (with_held b key u) ≡ journaled u
with_held_book b key u = with_held_keep (λ (v : Trace). journaled v ≡ journaled u) (λ x v is. is) b key u refl

with_rows_found : (key : Option LinkKey) (rs : List Sending) (u : Trace) → last_found (with_rows key rs u) ≡ last_found u
with_rows_found key rs u = with_rows_keep (λ (v : Trace). last_found v ≡ last_found u) (λ b v is. is) key rs u refl

with_held_found : (b : BookView) (key : Option LinkKey) (u : Trace) → last_found (with_held b key u) ≡ last_found u
with_held_found b key u = with_held_keep (λ (v : Trace). last_found v ≡ last_found u) (λ x v is. is) b key u refl

record Freed (P : Trace → Type 0) (at u : Trace) : Type 0 where
  found : last_found u ≡ at
  same : book_in u ≡ book_in at
  was : P u

one_freed : (P : Trace → Type 0) (at : Trace) → HeldStep at P → (n : RowNumber) (earlier later : List Act) → found_acts at ≡ earlier ++ Forget n ∷ later
    → (u : Trace) (o : Option Origin) → owned_in (called u (Row n)) ≡ o → Freed P at u → Freed P at (freed_from o n u)
one_freed P at step n earlier later is u None owned h = h
one_freed P at step n earlier later is u (Some p) owned h =
    let b : Binding = joined_by u (holding.Settled p.link) n None in
    record {
      found = h.found;
      same = h.same;
      was = step u b (holding.Settled p.link) (joined_to (called u (Row n)) None) refl refl
          (inr (record { row = n; earlier = earlier; later = later; forgets = ap found_acts h.found ∙ is; owner = p; owned = owned; how = refl; settles = refl })) h.same h.was;
    }

act_freed : (P : Trace → Type 0) (at : Trace) → HeldStep at P → (act : Act) (earlier later : List Act) → found_acts at ≡ earlier ++ act ∷ later
    → (u : Trace) → Freed P at u → Freed P at (freed_by act u)
act_freed P at step (Forget n) earlier later is u h = one_freed P at step n earlier later is u (owned_in (called u (Row n))) refl h
act_freed P at step (Make x) earlier later is u h = h
act_freed P at step (Admit x) earlier later is u h = h
act_freed P at step (Decide x) earlier later is u h = h
act_freed P at step (Drop n) earlier later is u h = h

rows_freed : (P : Trace → Type 0) (at : Trace) → HeldStep at P → (before acts : List Act) → found_acts at ≡ before ++ acts → (u : Trace) → Freed P at u → P (freed acts u)
rows_freed P at step before [] is u h = h.was
rows_freed P at step before (act ∷ acts) is u h =
    rows_freed P at step (before ++ act ∷ []) acts (is ∙ sym (append_assoc before (act ∷ []) acts)) (freed_by act u) (act_freed P at step act before acts is u h)

-- what each of these bindings keeps, all of them keep
pub resumed_takes : (P : Trace → Type 0) (at : Trace) (e : Event) (u : Trace) → TakenStep at e u P → HeldStep at P → last_found u ≡ at → book_in u ≡ book_in at → P u → P (resumed at e u)
resumed_takes P at e u step hold found same was =
    let key : Option LinkKey = resumed_key at e (answer_to_event at e) in
    let rows : List Sending = rows_taken at e (answer_to_event at e) in
    let held : Option LinkKey = held_key at e (answer_to_event at e) in
    let taken : Trace = with_rows key rows u in
    let kept : book_in taken ≡ book_in at = ap (λ j. j.book) (with_rows_book key rows u) ∙ same in
    let given : Trace = with_held (book_in at) held taken in
    rows_freed P at hold [] (found_acts at) refl given
    (record {
      found = with_held_found (book_in at) held taken ∙ with_rows_found key rows u ∙ found;
      same = ap (λ j. j.book) (with_held_book (book_in at) held taken) ∙ kept;
      was = rows_given P at e taken hold kept (rows_taken_up P at e u step found was);
    })

-- the same where only that no message came counts

abbrev pub MarkedStep : (Trace → Type 0) → Type 0
MarkedStep P = (u : Trace) (b : Binding) → is_message b.kind ≡ false → P u → P (Bound b ∷ u)

pub resumed_marked : (P : Trace → Type 0) → MarkedStep P → (t : Trace) (e : Event) (u : Trace) → book_in u ≡ book_in t → last_found u ≡ t → P u → P (resumed t e u)
resumed_marked P step t e u same found was =
    resumed_takes P t e u (λ v b takes known before. step v b (ap is_message takes.taken) before) (λ v b q to is quiet binds book before. step v b (ap is_message is) before) found same was

-- the book depends on no item and no binding

pub goes_book : (ps : List Put) (t : Trace) → journaled (goes ps t) ≡ journaled t
goes_book [] t = refl
goes_book (p ∷ ps) t = goes_book ps (Out p.conn p.item ∷ t)

pub ends_book : (id : List ℕ) (ds : List ℕ) (t : Trace) → journaled (ends id ds t) ≡ journaled t
ends_book id [] t = refl
ends_book id (d ∷ ds) t =
    let items : List Item = closing_of id (conn t d) ResourceLimitExceeded
    in ends_book id ds (puts d items t) ∙ goes_book (each_to d items) t

pub bound_book : (b : Option Binding) (t : Trace) → journaled (with_bound b t) ≡ journaled t
bound_book None t = refl
bound_book (Some b) t = refl

pub replied_book : (id : List ℕ) (t : Trace) (s : Step) → book_in (replied id t s) ≡ book_in t
replied_book id t s =
    let u : Trace = heard id t s in
    let b : Option Binding = bound_by t u s.event in
    ap (λ j. j.book) (copied_same journaled (λ x v. refl) t u s.event (goes (own_row id t u s.event) (with_bound b u))
    ∙ goes_book (own_row id t u s.event) (with_bound b u) ∙ bound_book b u ∙ ends_book id (due t s.event) (Did s ∷ t))

-- the trace that the event found

goes_found : (ps : List Put) (t : Trace) → last_found (goes ps t) ≡ last_found t
goes_found [] t = refl
goes_found (p ∷ ps) t = goes_found ps (Out p.conn p.item ∷ t)

pub ends_found : (id : List ℕ) (ds : List ℕ) (t : Trace) → last_found (ends id ds t) ≡ last_found t
ends_found id [] t = refl
ends_found id (d ∷ ds) t =
    let items : List Item = closing_of id (conn t d) ResourceLimitExceeded
    in ends_found id ds (puts d items t) ∙ goes_found (each_to d items) t

pub bound_found : (b : Option Binding) (t : Trace) → last_found (with_bound b t) ≡ last_found t
bound_found None t = refl
bound_found (Some b) t = refl

pub replied_found : (id : List ℕ) (t : Trace) (s : Step) → last_found (replied id t s) ≡ t
replied_found id t s =
    let u : Trace = heard id t s in
    let b : Option Binding = bound_by t u s.event in
    copied_same last_found (λ x v. refl) t u s.event (goes (own_row id t u s.event) (with_bound b u))
    ∙ goes_found (own_row id t u s.event) (with_bound b u) ∙ bound_found b u ∙ ends_found id (due t s.event) (Did s ∷ t)

-- the delivery that has a name now is one with that name

pub record IsCalled (t : Trace) (name : DeliveryName) (d : Delivery) : Type 0 where
  pub number : ℕ
  pub there : delivery t number ≡ Some d
  pub named : d.name ≡ name

pub called_is : (t : Trace) (name : DeliveryName) (d : Delivery) → called t name ≡ Some d → IsCalled t name d
called_is t name d is = by (number_named t name) refl is
  where
    by : (v : Option ℕ) → number_named t name ≡ v → option_and_then (delivery t) v ≡ Some d → IsCalled t name d
    by None e is = absurd (none_not_some is)
    by (Some n) e is = record { number = n; there = is; named = one_name t d.name name n (there_named t n d is) e }
