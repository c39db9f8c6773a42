-- What takes don't change: an event that ends no connection has the same acts in a trace without its takes, and so its item has the same answer.
use Rattle.std.proofs.Common.{◌≡◌, ◌∙◌, ap, refl, ℕ, ◌+◌, Bool, true, false, List, [], ◌∷◌, ◌++◌, map}
use Rattle.std.specs.Prelude.{Option, Some, None, ◌||◌, if◌then◌else◌, is_none, is_some, filter, filter_map, option_map, option_and_then}
use Rattle.amqp_model.specs.declared.perf.Disposition.{Disposition as ADisposition}
use Rattle.amqp_model.specs.declared.perf.Perf.{Perf}
use Rattle.amqp_model.specs.declared.perf.Perf.TheVariants as perf
use Rattle.amqp_model.specs.declared.perf.Role.{Role}
use Rattle.amqp_model.specs.declared.perf.Role.TheVariants.{Sender, Receiver}
use Rattle.amqp_model.specs.declared.perf.Transfer.{Transfer as ATransfer}
use Rattle.amqp_model.specs.declared.item.Item.{Item}
use Rattle.amqp_model.specs.declared.item.Item.TheVariants as item
use Rattle.amqp_conn.specs.declared.conn.Conn.{Conn}
use Rattle.amqp_link.specs.declared.part.Delivery.{Delivery as Told}
use Rattle.amqp_link.specs.declared.part.Part.{Part}
use Rattle.amqp_link.specs.declared.part.Part.TheVariants as part
use Rattle.book_model.specs.declared.act.Act.{Act}
use Rattle.book_model.specs.declared.act.Admission.{Admission}
use Rattle.book_model.specs.declared.act.Decision.{Decision}
use Rattle.book_model.specs.declared.row.RowNumber.{RowNumber}
use Rattle.book_model.specs.declared.terminus.LinkKey.{LinkKey}
use Rattle.book_model.specs.declared.terminus.Terminus.{Terminus}
use Rattle.book_model.specs.declared.terminus.TerminusNumber.{TerminusNumber}
use Rattle.book_model.specs.Book.{BookView, terminus_of}
use Rattle.journal_store.specs.declared.acting.TerminusAct.TheVariants as terminus
use Rattle.journal_store.specs.Acting.{event_acts as settled_acts}
use Rattle.journal_store.specs.Lost.{start_acts}
use Rattle.journal_store.specs.Store.{exceeds}
use Rattle.router_trace.specs.declared.event.Event.{Event}
use Rattle.router_trace.specs.declared.event.Event.TheVariants as event
use Rattle.router_trace.specs.declared.handle.Attachment.{Attachment}
use Rattle.router_trace.specs.Trace.{Entry, Booked, did}
use Rattle.router_trace.specs.Connection.{due}
use Rattle.router_trace.specs.Deliveries.{last_of, none_if_ended}
use Rattle.router_trace.specs.LinkFrames.{plain_answer}
use Rattle.router_trace.specs.Links.{Link, link, link_place, durable_key}
use Rattle.router_trace.specs.Sessions.{own_of, session_on}
use Rattle.router_trace.specs.Settling.{ids_between, middle_on, part_of}
use Rattle.state_links.specs.Fits.{channel_of}
use Rattle.state_deliveries.specs.declared.change.Change.{Change}
use Rattle.state_deliveries.specs.Deciding.{gathered_below, decision_of, decided_rows}
use Rattle.state_deliveries.specs.Hearing.{heard_change}
use Rattle.state_messages.specs.Messages.{consumer_of}
use Rattle.reply_rows.specs.declared.answer.Answer.{Answer}
use Rattle.reply_rows.specs.declared.answer.Answer.TheVariants.{Nothing, Attach, Detach, Taken}
use Rattle.reply_rows.specs.Booking.{answer_at}
use Rattle.reply_rows.specs.Admitting.{without_acts, terminus_for, admission_of, admitted_to, whole_admission, part_admission, taken_admission, unless_ends, event_admission, admits}
use Rattle.reply_rows.specs.Asking.{attach_in, decided_for, map_decides, forgotten_for, map_forgets}
use Rattle.reply_rows.specs.Deciding.{lost, stolen_from, stolen_for, ended_by, listed, event_changes, as_kept, decided, settled_on, sent_from, closed_terminus, forgotten_by, forgotten_in, item_forgets, forgotten, made_for, terminus_by, terminus_in, terminus_of_event}
use Rattle.reply_rows.specs.Joining.{settled_whole, row_alone, settled_by_transfer, rows_claimed}
use Rattle.reply_transfers.specs.Joining.{row_joined}
use Rattle.reply_rows.specs.Acts.{Journaled, live_answer, event_answer, answer_acts, planned_acts, admitted_acts, or_admits, event_acts, finds_full, journaled, book_in, acts_of, before_acts, found_journal, full_at, answer_of}
use Rattle.theorems.specs.Takes.{untaken}
use Rattle.theorems.proofs.Plain.{plain, Calm, stood_found}
use Rattle.theorems.proofs.Untaken.{same_theirs, same_journaled}
use Rattle.theorems.proofs.UntakenDeliveries.{same_bindings, same_delivery, same_claims}
use Rattle.theorems.proofs.UntakenLinks.{same_key_at, same_link, same_link_place, same_holder}
use Rattle.theorems.proofs.UntakenRows.{same_answer_at, same_row_under, same_consumer_at, same_claimed_id, same_taken_key, same_resumed_key}

-- What an event that ends no connection does to the book, by what events alone leave of its connection: the changes of deliveries that it brings,
-- the rows that it decides, the answer to its item, what is planned, and what is admitted.
abbrev pub plain_changes : List Entry → Event → Answer → List Change
plain_changes x (event.Item c i) answer = listed (heard_change c.0 (session_on x c.0 (channel_of i)) i) ++ map lost [] ++ ended_by x c.0 i answer
plain_changes x (event.Down c) answer = lost c.0 ∷ []
plain_changes x _ answer = []

abbrev pub plain_decided : BookView → List Entry → Event → Answer → List Decision
plain_decided b x e answer = map as_kept (decided_rows x (plain_changes x e answer)) ++ map_decides b x e answer

abbrev pub plain_item_forgets : BookView → List Entry → Event → Answer → List RowNumber
plain_item_forgets b x (event.Item c i) answer = forgotten_in b x c.0 (session_on x c.0 (channel_of i)) i answer
plain_item_forgets b x _ answer = []

abbrev pub plain_forgotten : BookView → List Entry → Event → Answer → List RowNumber
plain_forgotten b x e answer = plain_item_forgets b x e answer ++ map_forgets b x e answer

abbrev pub plain_event_answer : Bool → BookView → List Entry → Event → Answer
plain_event_answer full b x (event.Item c i) = live_answer full b x c.0 i (plain x c.0)
plain_event_answer full b x _ = Nothing

abbrev pub plain_answer_acts : BookView → List Entry → Event → Answer → List Act
plain_answer_acts b x e answer = settled_acts b (plain_decided b x e answer) (plain_forgotten b x e answer) (terminus_of_event b x e answer)

abbrev pub plain_planned : Bool → BookView → List Entry → Event → List Act
plain_planned full b x event.Start = start_acts b
plain_planned full b x e = plain_answer_acts b x e (plain_event_answer full b x e)

abbrev pub plain_admission : BookView → List Entry → Event → Answer → Option Admission
plain_admission b x (event.Item c i) answer = taken_admission b x (did (event.Item c i) ∷ Booked [] [] ∷ x) c.0 i answer
plain_admission b x _ answer = None

abbrev pub plain_admitted : Bool → BookView → List Entry → Event → List Act
plain_admitted true b x e = []
plain_admitted false b x e = admits b (plain_admission b x e (plain_event_answer false b x e))

abbrev pub plain_event_acts : Bool → BookView → List Entry → Event → List Act
plain_event_acts full b x e = or_admits (plain_planned full b x e) (plain_admitted full b x e)

-- whether it finds the journal full, and its acts
abbrev pub plain_full : Journaled → List Entry → Event → Bool
plain_full j x e = exceeds j.book (plain_event_acts false j.book x e)

abbrev pub plain_acts : Journaled → List Entry → Event → List Act
plain_acts j x e = plain_event_acts (plain_full j x e) j.book x e

-- the same after its acts, and the answer to an item there
abbrev pub plain_full_at : List Entry → Event → Bool
plain_full_at x e = plain_full (found_journal x) (before_acts x) e

abbrev pub plain_answer_of : List Entry → ℕ → Conn → Item → Answer
plain_answer_of x c p i = answer_at (plain_full_at x (event.Item (record { 0 = c }) i)) (found_journal x).book x c p i

-- the changes of deliveries

same_session_on : (t : List Entry) (c channel : ℕ) → session_on t c channel ≡ session_on (untaken t) c channel
same_session_on t c channel = ap own_of (same_theirs t c channel)

same_stolen : (t : List Entry) (c : ℕ) (i : Item) → stolen_for t c i ≡ stolen_for (untaken t) c i
same_stolen t c (item.Frame sasl channel (perf.Attach x) payload) = ap stolen_from (same_holder t c (plain_answer x 0))
same_stolen t c (item.Frame sasl channel _ payload) = refl
same_stolen t c _ = refl

same_ended : (t : List Entry) (c : ℕ) (i : Item) (a : Answer) → ended_by t c i a ≡ ended_by (untaken t) c i a
same_ended t c i (Attach own) = same_stolen t c i
same_ended t c i _ = refl

changed_plainly : (t : List Entry) (e : Event) (a : Answer) → due t e ≡ [] → event_changes t e a ≡ plain_changes t e a
changed_plainly t (event.Item c i) a none =
    ap (λ (ks : List ℕ). listed (heard_change c.0 (none_if_ended ks c.0 (session_on t c.0 (channel_of i))) i) ++ map lost ks ++ ended_by t c.0 i a) none
changed_plainly t (event.Down c) a none = ap (λ (ks : List ℕ). lost c.0 ∷ map lost ks) none
changed_plainly t (event.Up c p) a none = ap (map lost) none
changed_plainly t (event.Tick ms) a none = ap (map lost) none
changed_plainly t event.Start a none = ap (map lost) none

same_changes : (t : List Entry) (e : Event) (a : Answer) → plain_changes t e a ≡ plain_changes (untaken t) e a
same_changes t (event.Item c i) a = λ j. listed (heard_change c.0 (same_session_on t c.0 (channel_of i) j) i) ++ map lost [] ++ same_ended t c.0 i a j
same_changes t (event.Down c) a = refl
same_changes t (event.Up c p) a = refl
same_changes t (event.Tick ms) a = refl
same_changes t event.Start a = refl

-- the rows that are decided, and those that are forgotten

same_decided_rows : (t : List Entry) (xs : List Change) → decided_rows t xs ≡ decided_rows (untaken t) xs
same_decided_rows t xs = λ j. gathered_below (same_bindings t j + 1) (λ n. decision_of xs (same_delivery t n j))

same_changed : (t : List Entry) (e : Event) (a : Answer) → due t e ≡ [] → map as_kept (decided_rows t (event_changes t e a)) ≡ map as_kept (decided_rows (untaken t) (plain_changes (untaken t) e a))
same_changed t e a none =
    ap (λ (xs : List Change). map as_kept (decided_rows t xs)) (changed_plainly t e a none ∙ same_changes t e a)
    ∙ ap (map as_kept) (same_decided_rows t (plain_changes (untaken t) e a))

same_decided : (b : BookView) (t : List Entry) (e : Event) (a : Answer) → due t e ≡ [] → decided b t e a ≡ plain_decided b (untaken t) e a
same_decided b t e a none = λ j. same_changed t e a none j ++ decided_for b (attach_in e) (same_resumed_key t e a j)

same_rows_claimed : (b : BookView) (t : List Entry) (c o first last : ℕ) → rows_claimed b t c o first last ≡ rows_claimed b (untaken t) c o first last
same_rows_claimed b t c o first last = λ j. filter_map (λ id. option_map (λ r. r.number) (same_row_under b t c o id j)) (filter (λ id. is_some (same_claims t c o id j)) (ids_between first last))

same_settled : (b : BookView) (t : List Entry) (c : ℕ) (own : Option ℕ) (r : Role) (x : ADisposition) → settled_on b t c own r x ≡ settled_on b (untaken t) c own r x
same_settled b t c (Some own) Sender x = ap (λ (rows : List RowNumber). if x.settled then rows else []) (same_rows_claimed b t c own x.first (last_of x))
same_settled b t c (Some own) Receiver x = refl
same_settled b t c None r x = refl

same_closed : (b : BookView) (t : List Entry) (c : ℕ) (a : Answer) → closed_terminus b t c a ≡ closed_terminus b (untaken t) c a
same_closed b t c (Detach own handle true None) = ap (λ (l : Option Link). option_and_then (λ key. terminus_of key b.termini) (durable_key l)) (same_link t c own handle)
same_closed b t c (Detach own handle true (Some e)) = refl
same_closed b t c (Detach own handle false x) = refl
same_closed b t c _ = refl

same_transfer : (b : BookView) (t : List Entry) (c : ℕ) (x : ATransfer) (a : Answer) → settled_by_transfer b t c x a ≡ settled_by_transfer b (untaken t) c x a
same_transfer b t c x (Taken own handle) =
    λ j. row_alone (row_joined b (durable_key (same_link t c own handle j)) (settled_whole x (middle_on (same_link_place t c own x.handle j))))
same_transfer b t c x _ = refl

same_forgotten_by : (b : BookView) (t : List Entry) (c : ℕ) (own : Option ℕ) (body : Perf) (a : Answer)
    → forgotten_by b t c own body a ≡ forgotten_by b (untaken t) c own body a
same_forgotten_by b t c own (perf.Transfer x) a = same_transfer b t c x a
same_forgotten_by b t c own (perf.Disposition x) a = same_settled b t c own x.role x
same_forgotten_by b t c own (perf.Detach x) a = ap (sent_from b) (same_closed b t c a)
same_forgotten_by b t c own _ a = refl

same_forgotten_in : (b : BookView) (t : List Entry) (c : ℕ) (own : Option ℕ) (i : Item) (a : Answer) → forgotten_in b t c own i a ≡ forgotten_in b (untaken t) c own i a
same_forgotten_in b t c own (item.Frame true channel body payload) a = refl
same_forgotten_in b t c own (item.Frame false channel body payload) a = same_forgotten_by b t c own body a
same_forgotten_in b t c own _ a = refl

same_item_forgets : (b : BookView) (t : List Entry) (e : Event) (a : Answer) → due t e ≡ [] → item_forgets b t e a ≡ plain_item_forgets b (untaken t) e a
same_item_forgets b t (event.Item c i) a none =
    ap (λ (ks : List ℕ). forgotten_in b t c.0 (none_if_ended ks c.0 (session_on t c.0 (channel_of i))) i a) none
    ∙ ap (λ (own : Option ℕ). forgotten_in b t c.0 own i a) (same_session_on t c.0 (channel_of i))
    ∙ same_forgotten_in b t c.0 (session_on (untaken t) c.0 (channel_of i)) i a
same_item_forgets b t (event.Down c) a none = refl
same_item_forgets b t (event.Up c p) a none = refl
same_item_forgets b t (event.Tick ms) a none = refl
same_item_forgets b t event.Start a none = refl

same_forgotten : (b : BookView) (t : List Entry) (e : Event) (a : Answer) → due t e ≡ [] → forgotten b t e a ≡ plain_forgotten b (untaken t) e a
same_forgotten b t e a none = λ j. same_item_forgets b t e a none j ++ forgotten_for b (attach_in e) (same_taken_key t e a j)

-- the terminus that is made or dropped

same_terminus_by : (b : BookView) (t : List Entry) (c : ℕ) (body : Perf) (a : Answer) → terminus_by b t c body a ≡ terminus_by b (untaken t) c body a
same_terminus_by b t c (perf.Attach x) (Attach own) = ap (λ (key : LinkKey). made_for b key x) (same_key_at t c (plain_answer x 0))
same_terminus_by b t c (perf.Attach x) _ = refl
same_terminus_by b t c (perf.Detach x) a = ap (λ (v : Option Terminus). option_map (λ x. terminus.Drop x.number) v) (same_closed b t c a)
same_terminus_by b t c _ a = refl

same_terminus_in : (b : BookView) (t : List Entry) (c : ℕ) (i : Item) (a : Answer) → terminus_in b t c i a ≡ terminus_in b (untaken t) c i a
same_terminus_in b t c (item.Frame sasl channel body payload) a = same_terminus_by b t c body a
same_terminus_in b t c _ a = refl

same_terminus : (b : BookView) (t : List Entry) (e : Event) (a : Answer) → terminus_of_event b t e a ≡ terminus_of_event b (untaken t) e a
same_terminus b t (event.Item c i) a = same_terminus_in b t c.0 i a
same_terminus b t (event.Down c) a = refl
same_terminus b t (event.Up c p) a = refl
same_terminus b t (event.Tick ms) a = refl
same_terminus b t event.Start a = refl

-- what is planned

same_live_answer : (full : Bool) (b : BookView) (t : List Entry) (c : ℕ) (i : Item) (v : Option Conn) → live_answer full b t c i v ≡ live_answer full b (untaken t) c i v
same_live_answer full b t c i None = refl
same_live_answer full b t c i (Some p) = same_answer_at full b t c p i

same_event_answer : (full : Bool) (b : BookView) (t : List Entry) (e : Event) → Calm t → due t e ≡ [] → event_answer full b t e ≡ plain_event_answer full b (untaken t) e
same_event_answer full b t (event.Item c i) calm none =
    ap (live_answer full b t c.0 i) (stood_found t (event.Item c i) calm none c.0) ∙ same_live_answer full b t c.0 i (plain (untaken t) c.0)
same_event_answer full b t (event.Down c) calm none = refl
same_event_answer full b t (event.Up c p) calm none = refl
same_event_answer full b t (event.Tick ms) calm none = refl
same_event_answer full b t event.Start calm none = refl

same_answer_acts : (b : BookView) (t : List Entry) (e : Event) (a : Answer) → due t e ≡ [] → answer_acts b t e a ≡ plain_answer_acts b (untaken t) e a
same_answer_acts b t e a none = λ j. settled_acts b (same_decided b t e a none j) (same_forgotten b t e a none j) (same_terminus b t e a j)

same_told_acts : (full : Bool) (b : BookView) (t : List Entry) (e : Event) → Calm t → due t e ≡ []
    → answer_acts b t e (event_answer full b t e) ≡ plain_answer_acts b (untaken t) e (plain_event_answer full b (untaken t) e)
same_told_acts full b t e calm none =
    ap (answer_acts b t e) (same_event_answer full b t e calm none) ∙ same_answer_acts b t e (plain_event_answer full b (untaken t) e) none

same_planned : (full : Bool) (b : BookView) (t : List Entry) (e : Event) → Calm t → due t e ≡ [] → planned_acts full b t e ≡ plain_planned full b (untaken t) e
same_planned full b t (event.Item c i) calm none = same_told_acts full b t (event.Item c i) calm none
same_planned full b t (event.Down c) calm none = same_told_acts full b t (event.Down c) calm none
same_planned full b t (event.Up c p) calm none = same_told_acts full b t (event.Up c p) calm none
same_planned full b t (event.Tick ms) calm none = same_told_acts full b t (event.Tick ms) calm none
same_planned full b t event.Start calm none = refl

-- what is admitted

same_admitted_to : (b : BookView) (t : List Entry) (producer : Option TerminusNumber) (consumer : Option Attachment) (d : Told) (payload : List ℕ)
    → admitted_to b t producer consumer d payload ≡ admitted_to b (untaken t) producer consumer d payload
same_admitted_to b t (Some producer) (Some at) d payload =
    ap (λ (l : Option Link). Some (admission_of b producer (terminus_for b (durable_key l)) d payload)) (same_link t at.conn.0 at.channel at.handle)
same_admitted_to b t (Some producer) None d payload = refl
same_admitted_to b t None consumer d payload = refl

same_whole_admission : (b : BookView) (t : List Entry) (c own handle : ℕ) (d : Told) (payload : List ℕ)
    → whole_admission b t c own handle d payload ≡ whole_admission b (untaken t) c own handle d payload
same_whole_admission b t c own handle d payload =
    λ j. if d.resume || is_none (same_claimed_id t c own handle d.id j) then None else admitted j
  where
    admitted : admitted_to b t (terminus_for b (durable_key (link t c own handle))) (consumer_of t (link t c own handle)) d payload
        ≡ admitted_to b (untaken t) (terminus_for b (durable_key (link (untaken t) c own handle))) (consumer_of (untaken t) (link (untaken t) c own handle)) d payload
    admitted =
        (λ j. admitted_to b t (terminus_for b (durable_key (same_link t c own handle j))) (same_consumer_at t c own handle j) d payload)
        ∙ same_admitted_to b t (terminus_for b (durable_key (link (untaken t) c own handle))) (consumer_of (untaken t) (link (untaken t) c own handle)) d payload

same_part_admission : (b : BookView) (t : List Entry) (c own handle : ℕ) (q : Option Part) → part_admission b t c own handle q ≡ part_admission b (untaken t) c own handle q
same_part_admission b t c own handle (Some (part.Whole d payload)) = same_whole_admission b t c own handle d payload
same_part_admission b t c own handle (Some part.TooLarge) = refl
same_part_admission b t c own handle _ = refl

same_taken_admission : (b : BookView) (t u : List Entry) (c : ℕ) (i : Item) (a : Answer) → taken_admission b t u c i a ≡ taken_admission b (untaken t) (untaken u) c i a
same_taken_admission b t u c i (Taken own handle) =
    (λ j. part_admission b u c own handle (part_of i (λ p. same_link_place t c own p j)))
    ∙ same_part_admission b u c own handle (part_of i (link_place (untaken t) c own))
same_taken_admission b t u c i _ = refl

same_admission : (b : BookView) (t : List Entry) (e : Event) → Calm t → due t e ≡ []
    → event_admission b t e (event_answer false b t e) ≡ plain_admission b (untaken t) e (plain_event_answer false b (untaken t) e)
same_admission b t (event.Item c i) calm none =
    ap (λ (ks : List ℕ). unless_ends ks (taken_admission b t u c.0 i (event_answer false b t (event.Item c i)))) none
    ∙ ap (taken_admission b t u c.0 i) (same_event_answer false b t (event.Item c i) calm none)
    ∙ same_taken_admission b t u c.0 i (plain_event_answer false b (untaken t) (event.Item c i))
    ∙ ap (λ (ks : List ℕ). taken_admission b (untaken t) (did (event.Item c i) ∷ Booked [] ks ∷ untaken t) c.0 i (plain_event_answer false b (untaken t) (event.Item c i))) none
  where
    u : List Entry
    u = without_acts t (event.Item c i)
same_admission b t (event.Down c) calm none = refl
same_admission b t (event.Up c p) calm none = refl
same_admission b t (event.Tick ms) calm none = refl
same_admission b t event.Start calm none = refl

same_admitted : (full : Bool) (b : BookView) (t : List Entry) (e : Event) → Calm t → due t e ≡ [] → admitted_acts full b t e ≡ plain_admitted full b (untaken t) e
same_admitted true b t e calm none = refl
same_admitted false b t e calm none = ap (admits b) (same_admission b t e calm none)

-- all acts

pub same_event_acts : (full : Bool) (b : BookView) (t : List Entry) (e : Event) → Calm t → due t e ≡ [] → event_acts full b t e ≡ plain_event_acts full b (untaken t) e
same_event_acts full b t e calm none = λ j. or_admits (same_planned full b t e calm none j) (same_admitted full b t e calm none j)

pub same_full : (t : List Entry) (e : Event) → Calm t → due t e ≡ [] → finds_full (journaled t) t e ≡ plain_full (journaled (untaken t)) (untaken t) e
same_full t e calm none =
    ap (exceeds (book_in t)) (same_event_acts false (book_in t) t e calm none)
    ∙ ap (λ (j : Journaled). plain_full j (untaken t) e) (same_journaled t)

pub same_acts : (t : List Entry) (e : Event) → Calm t → due t e ≡ [] → acts_of t e ≡ plain_acts (journaled (untaken t)) (untaken t) e
same_acts t e calm none =
    ap (λ (full : Bool). event_acts full (book_in t) t e) (same_full t e calm none)
    ∙ same_event_acts (plain_full (journaled (untaken t)) (untaken t) e) (book_in t) t e calm none
    ∙ ap (λ (j : Journaled). plain_event_acts (plain_full (journaled (untaken t)) (untaken t) e) j.book (untaken t) e) (same_journaled t)

-- the answer to an item, after the acts
pub same_answer : (t : List Entry) (c : ℕ) (p : Conn) (i : Item) → found_journal t ≡ found_journal (untaken t)
    → full_at t (event.Item (record { 0 = c }) i) ≡ plain_full_at (untaken t) (event.Item (record { 0 = c }) i) → answer_of t c p i ≡ plain_answer_of (untaken t) c p i
same_answer t c p i journal full =
    ap (λ (q : Bool). answer_at q (found_journal t).book t c p i) full
    ∙ ap (λ (j : Journaled). answer_at (plain_full_at (untaken t) (event.Item (record { 0 = c }) i)) j.book t c p i) journal
    ∙ same_answer_at (plain_full_at (untaken t) (event.Item (record { 0 = c }) i)) (found_journal (untaken t)).book t c p i
