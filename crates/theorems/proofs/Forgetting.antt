-- What an event forgets of rows: none has a delivery that its producer isn't done with.
use Rattle.std.proofs.Common.{◌≡◌, ◌∙◌, sym, ap, refl, subst, ℕ, ◌≤◌, ◌<◌, Bool, true, false, not, ◌&&◌, ◌||◌, List, [], ◌∷◌, ◌++◌, arith, append_assoc, append-nil, ◌⊎◌, inl, inr}
use Rattle.std.specs.Prelude.{◌==◌, Option, Some, None, map, filter, filter_map, find, is_some, is_none, option_map, if◌then◌else◌}
use Rattle.std.specs.List.{cons_option}
use Rattle.std.specs.Option.{option_and_then}
use Rattle.std.proofs.lemmas.Bool.{eqb-true, eq-eqb}
use Rattle.amqp_session.specs.Ranges.{has, in_range}
use Rattle.amqp_model.specs.declared.perf.Attach.{Attach as AnAttach}
use Rattle.amqp_model.specs.declared.perf.Disposition.{Disposition as ADisposition}
use Rattle.amqp_model.specs.declared.perf.Perf.{Perf}
use Rattle.amqp_model.specs.declared.perf.Perf.TheVariants as perf
use Rattle.amqp_model.specs.declared.perf.Role.{Role}
use Rattle.amqp_model.specs.declared.perf.Role.TheVariants.{Sender, Receiver}
use Rattle.amqp_model.specs.declared.perf.Transfer.{Transfer as ATransfer}
use Rattle.amqp_model.specs.declared.state.DeliveryState.{DeliveryState}
use Rattle.amqp_model.specs.declared.state.UnsettledDelivery.{UnsettledDelivery}
use Rattle.amqp_model.specs.declared.item.Item.{Item}
use Rattle.amqp_model.specs.declared.item.Item.TheVariants as item
use Rattle.amqp_conn.specs.declared.conn.Conn.{Conn}
use Rattle.book_model.specs.declared.act.Act.{Act}
use Rattle.book_model.specs.declared.act.Admission.{Admission}
use Rattle.book_model.specs.declared.act.Decision.{Decision}
use Rattle.book_model.specs.declared.row.Row.{Row as ARow}
use Rattle.book_model.specs.declared.row.RowNumber.{RowNumber}
use Rattle.book_model.specs.declared.terminus.LinkKey.{LinkKey}
use Rattle.book_model.specs.declared.terminus.LinkRole.{LinkRole}
use Rattle.book_model.specs.declared.terminus.LinkRole.TheVariants.{Producer, Consumer}
use Rattle.book_model.specs.declared.terminus.Terminus.{Terminus}
use Rattle.book_model.specs.declared.terminus.TerminusNumber.{TerminusNumber}
use Rattle.book_model.specs.Book.{BookView, row_at, has_tag, terminus_at, terminus_of, is_from, is_for, is_for_by, is_of, same_role, is_undecided as is_open_row, decided, forgotten, effects, first_fault}
use Rattle.book_core.specs.Rising.{Rises, AllAbove}
use Rattle.gate_journal.specs.Ordered.{IsOrdered, number_of_row}
use Rattle.journal_store.specs.declared.acting.TerminusAct.{TerminusAct}
use Rattle.journal_store.specs.Acting.{journal_outcome, outcome_for, is_among, settles, decided_to, decided_by, forgotten_by, rows_after, terminus_acts, event_acts as settled_acts}
use Rattle.journal_store.proofs.Makes.{effects_more}
use Rattle.journal_store.proofs.Rowwise.{Leaves as Left}
use Rattle.journal_store.proofs.Settled.{settles_leave}
use Rattle.journal_store.proofs.Started.{start_applies}
use Rattle.router_trace.specs.declared.binding.Origin.{Origin}
use Rattle.router_trace.specs.declared.event.ConnectionId.{ConnectionId}
use Rattle.router_trace.specs.declared.event.Event.{Event}
use Rattle.router_trace.specs.declared.event.Event.TheVariants as event
use Rattle.router_trace.specs.Connection.{standing, found, due}
use Rattle.router_trace.specs.DeliveryFrames.{kept_outcome}
use Rattle.router_trace.specs.Deliveries.{Delivery, source, delivery, last_of, is_undecided, outcome_or, outcome_among, outcome_named, given}
use Rattle.router_trace.specs.Following.{link_of}
use Rattle.router_trace.specs.LinkFrames.{other}
use Rattle.router_trace.specs.Links.{way_of, link, link_place, holder, durable_key}
use Rattle.router_trace.specs.Claims.{claims}
use Rattle.router_trace.specs.Settling.{ids_claimed, is_claimed, middle_on}
use Rattle.router_trace.specs.declared.handle.Attachment.{Attachment}
use Rattle.router_trace.specs.Trace.{Trace, Booked}
use Rattle.state_deliveries.specs.declared.change.Change.{Change}
use Rattle.state_deliveries.specs.declared.change.Change.TheVariants as change
use Rattle.state_deliveries.specs.declared.change.Gone.TheVariants as gone
use Rattle.state_deliveries.specs.Deciding.{changed_by, decided_rows}
use Rattle.state_deliveries.specs.Hearing.{disposed_change}
use Rattle.state_deliveries.specs.Stepping.{comes_with_id, is_gone, changed}
use Rattle.reply_rows.specs.declared.answer.Answer.{Answer}
use Rattle.resume_core.specs.Resuming.{entries_of, is_forgotten_by, forgotten_rows}
use Rattle.reply_rows.specs.declared.answer.Answer.TheVariants.{Attach, Detach, Taken}
use Rattle.reply_rows.specs.Booking.{wanted_key, wants_durable, sent_rows}
use Rattle.reply_rows.specs.Acts.{live_answer, event_answer, answer_acts, planned_acts, admitted_acts, or_admits, event_acts, finds_full, journaled, book_in, acts_of}
use Rattle.reply_rows.specs.Admitting.{event_admission, admits}
use Rattle.reply_rows.specs.Asking.{key_taken, receives, resumed_key, attach_in, decided_for, map_decides, forgotten_of, all_rows, forgotten_for, map_forgets}
use Rattle.reply_rows.specs.Deciding.{as_kept, lost, listed, ended_by, stolen_from, session_found, settled_on, event_changes, decided as decided_in, sent_by, sent_from, closed_terminus, item_forgets, forgotten as forgotten_at, terminus_of_event}
use Rattle.reply_rows.specs.Joining.{settled_whole, row_alone, settled_by_transfer, number_under, rows_claimed}
use Rattle.reply_transfers.specs.Joining.{row_joined, row_under}
use Rattle.theorems.proofs.Applying.{settled_apply, admission_applies, ordered_after}
use Rattle.theorems.proofs.Changing.{Leaves, leaves_by, undecided_is}
use Rattle.theorems.proofs.Decisions.{untold_is_done, among_rows, among_more}
use Rattle.theorems.proofs.Ended.{IsEnded, ended_by_all, event_gives}
use Rattle.theorems.proofs.Claimed.{ClaimedRow, claimed_row, JoinedRow, joined_row, listed_is, HasClaim, OneTag}
use Rattle.theorems.proofs.Facts.{FromTerminus, IsHeld, Agrees}
use Rattle.theorems.proofs.Giving.{row_given, acts_give, map_form, kept_is_form}
use Rattle.theorems.proofs.Hearing.{gives}
use Rattle.theorems.proofs.KeptForm.{kept_form, kept_twice}
use Rattle.theorems.proofs.Looking.{found_number, found_below, none_above}
use Rattle.theorems.proofs.Settling.{settled, settled_row, found_at_number, found_key, Stays, stays_it, terminus_stays, admission_stays}
use Rattle.theorems.proofs.Standing.{Standing, one_place, holds_key}
use Rattle.theorems.proofs.Tests.{some_same, none_not_some}
use Rattle.theorems.proofs.Undecided.{ends_keep}
use Rattle.theorems.proofs.Unshared.{SettlesUnshared, EventUnshared}

clash : false ≡ true → ⊥
clash e = cc

-- what its producer isn't done with isn't forgotten

changed_more : (xs ys : List Change) (d : Delivery) → changed_by (xs ++ ys) d ≡ changed_by ys (changed_by xs d)
changed_more [] ys d = refl
changed_more (x ∷ xs) ys d = changed_more xs ys (changed x d)

-- what the book has of the producer of a row that it isn't done with
abbrev pub IsFrom : Trace → BookView → Option ARow → Delivery → Type 0
IsFrom t b None d = Unit {0}
IsFrom t b (Some row) d = (p : Origin) → source d ≡ Some p → FromTerminus t b p row.producer.0 × HasClaim t p row.tag.items

pub is_from_one : (t : Trace) (b : BookView) (v : Option ARow) (d : Delivery) → Agrees t b v d → IsFrom t b v d
is_from_one t b None d agrees = tt
is_from_one t b (Some row) d agrees = λ p from. (agrees.from p from, agrees.claimed p from)

-- a producer that isn't done with a row of a terminus has a durable link with the terminus' key
key_of_row : (t : Trace) (b : BookView) (d : Delivery) (r : RowNumber) (key : LinkKey) (x : Terminus) → IsOrdered b → IsFrom t b (row_at r.0 b.rows) d → terminus_of key b.termini ≡ Some x
    → (row : ARow) → row_at r.0 b.rows ≡ Some row → is_from x.number.0 row ≡ true → (p : Origin) → source d ≡ Some p → durable_key (link_of t p.link) ≡ Some key
key_of_row t b d r key x ordered agrees found row there came p from =
    let held : IsFrom t b (Some row) d = subst (λ (v : Option ARow). IsFrom t b v d) there agrees in
    let at = (held p from).0 in
    let same_number : at.at.number.0 ≡ x.number.0 = at.number ∙ eqb-true row.producer.0 x.number.0 came in
    let one : at.at ≡ x = some_same (sym (found_at_number at.key b.termini at.at ordered.termini_rise at.found)
    ∙ ap (λ (m : ℕ). terminus_at m b.termini) same_number ∙ found_at_number key b.termini x ordered.termini_rise found) in
    let keys : at.key ≡ key = sym (found_key at.key b.termini at.at at.found) ∙ ap (λ (y : Terminus). y.key) one ∙ found_key key b.termini x found in
    at.durable ∙ ap (λ (k : LinkKey). Some k) keys

sent_by_key : (t : Trace) (b : BookView) (d : Delivery) (r : RowNumber) (key : LinkKey) (x : Terminus) → IsOrdered b → IsFrom t b (row_at r.0 b.rows) d → terminus_of key b.termini ≡ Some x
    → (role : LinkRole) → is_among r.0 (sent_by b role x.number.0) ≡ true → (p : Origin) → source d ≡ Some p → durable_key (link_of t p.link) ≡ Some key
sent_by_key t b d r key x ordered agrees found Consumer among p from = absurd (clash among)
sent_by_key t b d r key x ordered agrees found Producer among p from =
    let rows = among_rows r.0 (is_from x.number.0) b.rows ordered.rows_rise among in
    key_of_row t b d r key x ordered agrees found rows.0 rows.1 rows.2 p from

closed_is_done : (t : Trace) (b : BookView) (d : Delivery) (r : RowNumber) (c : ℕ) (answer : Answer) (first : List Change) (i : Item) → Standing t → IsOrdered b → IsFrom t b (row_at r.0 b.rows) d
    → is_among r.0 (sent_from b (closed_terminus b t c answer)) ≡ true → (p : Origin) → source (changed_by (first ++ ended_by t c i answer) d) ≡ Some p → ⊥
closed_is_done t b d r c (Detach own handle true None) first i standing ordered agrees among p from =
    by_key (durable_key (link t c own handle)) refl among
  where
    last : source (changed (change.Ends (gone.Link c own handle) true) (changed_by first d)) ≡ Some p
    last = sym (ap source (changed_more first (ended_by t c i (Detach own handle true None)) d)) ∙ from

    spared : is_gone (gone.Link c own handle) p.link ≡ false
    spared = ends_keep true (is_gone (gone.Link c own handle)) (changed_by first d) p last

    before : source d ≡ Some p
    before = (leaves_by (first ++ ended_by t c i (Detach own handle true None)) d).comes p from

    ended : (o h : ℕ) → p.link.conn.0 ≡ c → p.link.channel ≡ o → p.link.handle ≡ h → is_gone (gone.Link c o h) p.link ≡ true
    ended o h e f g = rw (eq-eqb p.link.conn.0 c e, eq-eqb o p.link.channel (sym f), eq-eqb h p.link.handle (sym g)) refl

    of_terminus : (key : LinkKey) (x : Terminus) → durable_key (link t c own handle) ≡ Some key → terminus_of key b.termini ≡ Some x → (role : LinkRole)
        → is_among r.0 (sent_by b role x.number.0) ≡ true → ⊥
    of_terminus key x durable found role among =
        let place = one_place t standing p.link (record { number = 0; conn = record { 0 = c }; channel = own; handle = handle }) key
        (sent_by_key t b d r key x ordered agrees found role among p before) durable in
        clash (sym spared ∙ ended own handle place.0 place.1 place.2)

    by_terminus : (key : LinkKey) (v : Option Terminus) → durable_key (link t c own handle) ≡ Some key → terminus_of key b.termini ≡ v → is_among r.0 (sent_from b v) ≡ true → ⊥
    by_terminus key None durable found among = clash among
    by_terminus key (Some x) durable found among = of_terminus key x durable found x.key.role among

    by_key : (v : Option LinkKey) → durable_key (link t c own handle) ≡ v → is_among r.0 (sent_from b (option_and_then (λ key. terminus_of key b.termini) v)) ≡ true → ⊥
    by_key None durable among = clash among
    by_key (Some key) durable among = by_terminus key (terminus_of key b.termini) durable refl among
closed_is_done t b d r c (Detach own handle true (Some x)) first i standing ordered agrees among p from = clash among
closed_is_done t b d r c (Detach own handle false x) first i standing ordered agrees among p from = clash among
closed_is_done t b d r c _ first i standing ordered agrees among p from = clash among

-- nor is a producer whose attach says so: its link takes the place of the older one

among_fewer : (n : ℕ) (passes : ARow → Bool) (rs : List ARow) → is_among n (map (λ (r : ARow). r.number) (filter passes rs)) ≡ true → is_among n (map (λ (r : ARow). r.number) rs) ≡ true
among_fewer n passes [] is = is
among_fewer n passes (r ∷ rs) is = by (passes r) is (among_fewer n passes rs)
  where
    first : (e : Bool) → (e || is_among n (map (λ (r : ARow). r.number) (filter passes rs))) ≡ true
        → (is_among n (map (λ (r : ARow). r.number) (filter passes rs)) ≡ true → is_among n (map (λ (r : ARow). r.number) rs) ≡ true)
        → (e || is_among n (map (λ (r : ARow). r.number) rs)) ≡ true
    first true is rest = refl
    first false is rest = rest is

    later : (e : Bool) → is_among n (map (λ (r : ARow). r.number) rs) ≡ true → (e || is_among n (map (λ (r : ARow). r.number) rs)) ≡ true
    later true is = refl
    later false is = is

    by : (p : Bool) → is_among n (map (λ (r : ARow). r.number) (if p then r ∷ filter passes rs else filter passes rs)) ≡ true
        → (is_among n (map (λ (r : ARow). r.number) (filter passes rs)) ≡ true → is_among n (map (λ (r : ARow). r.number) rs) ≡ true)
        → ((r.number.0 == n) || is_among n (map (λ (r : ARow). r.number) rs)) ≡ true
    by true is rest = first (r.number.0 == n) is rest
    by false is rest = later (r.number.0 == n) (rest is)

-- the rows that came on the link of a terminus are among those of the terminus
sent_alike : (n : ℕ) (rs : List ARow) → filter (is_from n) (filter (is_of n) rs) ≡ filter (is_from n) rs
sent_alike n [] = refl
sent_alike n (r ∷ rs) = by (is_from n r) (is_for n r) refl refl (sent_alike n rs)
  where
    by : (f g : Bool) → is_from n r ≡ f → is_for n r ≡ g → filter (is_from n) (filter (is_of n) rs) ≡ filter (is_from n) rs
        → filter (is_from n) (if f || g then r ∷ filter (is_of n) rs else filter (is_of n) rs) ≡ (if f then r ∷ filter (is_from n) rs else filter (is_from n) rs)
    by true g e h rest = rw e (ap (λ (ys : List ARow). r ∷ ys) rest)
    by false true e h rest = rw e rest
    by false false e h rest = rest

-- the row is one that came on the link of the terminus
forgotten_by_key : (t : Trace) (b : BookView) (d : Delivery) (r : RowNumber) (key : LinkKey) (x : Terminus) (complete : Bool) (theirs : List UnsettledDelivery) → IsOrdered b
    → IsFrom t b (row_at r.0 b.rows) d → terminus_of key b.termini ≡ Some x → is_among r.0 (forgotten_rows complete theirs (sent_rows b x)) ≡ true
    → (p : Origin) → source d ≡ Some p → durable_key (link_of t p.link) ≡ Some key
forgotten_by_key t b d r key x complete theirs ordered agrees found among p from =
    let all = among_fewer r.0 (is_forgotten_by complete theirs) (sent_rows b x) among in
    let rows = among_rows r.0 (is_from x.number.0) b.rows ordered.rows_rise (subst (λ (rs : List ARow). is_among r.0 (map (λ (s : ARow). s.number) rs) ≡ true) (sent_alike x.number.0 b.rows) all) in
    key_of_row t b d r key x ordered agrees found rows.0 rows.1 rows.2 p from

pub resumed_is_done : (t : Trace) (b : BookView) (d : Delivery) (r : RowNumber) (c channel : ℕ) (sasl : Bool) (a : AnAttach) (payload : List ℕ) (answer : Answer) (first : List Change) → Standing t → IsOrdered b
    → IsFrom t b (row_at r.0 b.rows) d → is_among r.0 (forgotten_for b (Some a) (key_taken t c a answer)) ≡ true
    → (p : Origin) → source (changed_by (first ++ ended_by t c (item.Frame sasl channel (perf.Attach a) payload) answer) d) ≡ Some p → ⊥
resumed_is_done t b d r c channel sasl a payload (Attach own) first standing ordered agrees among p from = by_wish (wants_durable a) among
  where
    key : LinkKey
    key = wanted_key t c a

    ends : List Change
    ends = stolen_from (holder t key)

    before : source d ≡ Some p
    before = (leaves_by (first ++ ends) d).comes p from

    held : durable_key (link_of t p.link) ≡ Some key → ⊥
    held durable =
        let older = holds_key t standing p.link key durable in
        let gone_link : Attachment → Bool = is_gone (gone.Link p.link.conn.0 p.link.channel p.link.handle) in
        let only : Change = change.Ends (gone.Link p.link.conn.0 p.link.channel p.link.handle) false in
        let last : source (changed only (changed_by first d)) ≡ Some p =
        sym (ap source (changed_more first (only ∷ []) d)) ∙ sym (ap (λ (v : Option Attachment). source (changed_by (first ++ stolen_from v) d)) older.1) ∙ from in
        let spared : gone_link p.link ≡ false = ends_keep false gone_link (changed_by first d) p last in
        clash (sym spared ∙ rw (eq-eqb p.link.conn.0 p.link.conn.0 refl, eq-eqb p.link.channel p.link.channel refl, eq-eqb p.link.handle p.link.handle refl) refl)

    complete : Bool
    complete = not a.incomplete_unsettled

    theirs : List UnsettledDelivery
    theirs = entries_of a.unsettled

    by_terminus : (v : Option Terminus) → terminus_of key b.termini ≡ v → a.role ≡ Sender → is_among r.0 (forgotten_rows complete theirs (all_rows b v)) ≡ true → ⊥
    by_terminus None found is among = clash among
    by_terminus (Some x) found is among = held (forgotten_by_key t b d r key x complete theirs ordered agrees found among p before)

    by_role : (w : Role) → a.role ≡ w → is_among r.0 (forgotten_of w complete theirs (all_rows b (terminus_of key b.termini))) ≡ true → ⊥
    by_role Sender is among = by_terminus (terminus_of key b.termini) refl is among
    by_role Receiver is among = clash among

    by_wish : (w : Bool) → is_among r.0 (forgotten_for b (Some a) (if w then Some key else None)) ≡ true → ⊥
    by_wish true among = by_role a.role refl among
    by_wish false among = clash among
resumed_is_done t b d r c channel sasl a payload _ first standing ordered agrees among p from = clash among

-- nor is one that resumes it by a settled delivery: no unsettled delivery of the link has its tag

named_there : (p : ARow → Bool) (rs : List ARow) (row : ARow) → Rises number_of_row rs → find p rs ≡ Some row → (p row ≡ true) × (row_at row.number.0 rs ≡ Some row)
named_there p [] row up is = absurd (none_not_some is)
named_there p (r ∷ rs) row up is = by (p r) refl is (named_there p rs row up.1)
  where
    apart : row_at row.number.0 rs ≡ Some row → (r.number.0 == row.number.0) ≡ false
    apart there = test (r.number.0 == row.number.0) refl
      where
        test : (q : Bool) → (r.number.0 == row.number.0) ≡ q → q ≡ false
        test false e = refl
        test true e =
            let none : row_at row.number.0 rs ≡ None =
            none_above row.number.0 rs (let P : ℕ → Type 0 = λ m. AllAbove number_of_row m rs in subst P (eqb-true r.number.0 row.number.0 e) up.0) in
            absurd (none_not_some (sym none ∙ there))

    by : (q : Bool) → p r ≡ q → (if q then Some r else find p rs) ≡ Some row → (find p rs ≡ Some row → (p row ≡ true) × (row_at row.number.0 rs ≡ Some row))
        → (p row ≡ true) × (row_at row.number.0 (r ∷ rs) ≡ Some row)
    by true e is rest = subst (λ (v : ARow). (p v ≡ true) × (row_at v.number.0 (r ∷ rs) ≡ Some v)) (some_same is) (e, rw (eq-eqb r.number.0 r.number.0 refl) refl)
    by false e is rest = let later = rest is in (later.0, rw (apart later.1) later.1)

transfer_is_done : (t : Trace) (b : BookView) (d : Delivery) (r : RowNumber) (c : ℕ) (x : ATransfer) (answer : Answer) → Standing t → IsOrdered b → IsFrom t b (row_at r.0 b.rows) d
    → SettlesUnshared t c x answer → is_among r.0 (settled_by_transfer b t c x answer) ≡ true → (p : Origin) → source d ≡ Some p → ⊥
transfer_is_done t b d r c x (Taken own handle) standing ordered agrees unshared among p from = by (row_joined b key tag) refl among
  where
    key : Option LinkKey
    key = durable_key (link t c own handle)

    tag : Option (List ℕ)
    tag = settled_whole x (middle_on (link_place t c own x.handle))

    one : (m : ℕ) → ((m == r.0) || false) ≡ true → m ≡ r.0
    one m is = test (m == r.0) refl is
      where
        test : (q : Bool) → (m == r.0) ≡ q → (q || false) ≡ true → m ≡ r.0
        test true e is = eqb-true m r.0 e
        test false e is = absurd (clash is)

    -- the producer's delivery would have its tag on the link
    on : (row : ARow) → JoinedRow b key tag row → row.number.0 ≡ r.0 → ⊥
    on row joined number =
        let at = named_there (has_tag joined.terminus.number.0 row.tag.items) b.rows row ordered.rows_rise joined.named in
        let there : row_at r.0 b.rows ≡ Some row = subst (λ (m : ℕ). row_at m b.rows ≡ Some row) number at.1 in
        let came : is_from joined.terminus.number.0 row ≡ true = eq-eqb row.producer.0 joined.terminus.number.0 joined.its_producer in
        let place = one_place t standing p.link (record { number = 0; conn = record { 0 = c }; channel = own; handle = handle }) joined.of_link
        (key_of_row t b d r joined.of_link joined.terminus ordered agrees joined.of_key row there came p from) joined.durable in
        let has : HasClaim t p row.tag.items = (subst (λ (v : Option ARow). IsFrom t b v d) there agrees p from).1 in
        unshared joined.of_link row.tag.items joined.durable joined.same_tag p place.0 place.1 place.2 has

    by : (v : Option ARow) → row_joined b key tag ≡ v → is_among r.0 (row_alone v) ≡ true → ⊥
    by None is among = clash among
    by (Some row) is among = on row (joined_row b key tag row is) (one row.number.0 among)
transfer_is_done t b d r c x _ standing ordered agrees unshared among p from = clash among

-- nor is one that settles the delivery of a row, by the id that its producer claims

-- the ids in a range, with their rows
among_claimed : (b : BookView) (t : Trace) (c own : ℕ) (r : RowNumber) (ids : List ℕ) → is_among r.0 (filter_map (number_under b t c own) ids) ≡ true
    → (id : ℕ) × (row : ARow) × (has id ids ≡ true) × (row_under b t c own id ≡ Some row) × (row.number.0 ≡ r.0)
among_claimed b t c own r [] among = absurd (clash among)
among_claimed b t c own r (id ∷ ids) among = by (row_under b t c own id) refl among (among_claimed b t c own r ids)
  where
    Later : Type 0
    Later = is_among r.0 (filter_map (number_under b t c own) ids) ≡ true → (k : ℕ) × (row : ARow) × (has k ids ≡ true) × (row_under b t c own k ≡ Some row) × (row.number.0 ≡ r.0)

    Found : Type 0
    Found = (k : ℕ) × (row : ARow) × (has k (id ∷ ids) ≡ true) × (row_under b t c own k ≡ Some row) × (row.number.0 ≡ r.0)

    later : (k : ℕ) → has k ids ≡ true → has k (id ∷ ids) ≡ true
    later k h = by_test (k == id)
      where
        by_test : (q : Bool) → (q || has k ids) ≡ true
        by_test true = refl
        by_test false = h

    on : Later → is_among r.0 (filter_map (number_under b t c own) ids) ≡ true → Found
    on rest among = let found = rest among in (found.0, found.1, later found.0 found.2, found.3, found.4)

    by : (v : Option ARow) → row_under b t c own id ≡ v → is_among r.0 (cons_option (option_map (λ (x : ARow). x.number) v) (filter_map (number_under b t c own) ids)) ≡ true → Later → Found
    by None under among rest = on rest among
    by (Some row) under among rest = test (row.number.0 == r.0) refl among
      where
        test : (q : Bool) → (row.number.0 == r.0) ≡ q → (q || is_among r.0 (filter_map (number_under b t c own) ids)) ≡ true → Found
        test true e among = (id, row, ap (λ (q : Bool). q || has id ids) (eq-eqb id id refl), under, eqb-true row.number.0 r.0 e)
        test false e among = on rest among

settled_is_done : (t : Trace) (b : BookView) (d : Delivery) (r : RowNumber) (c : ℕ) (own : Option ℕ) (role : Role) (x : ADisposition) (more : List Change) → Standing t → IsOrdered b
    → IsFrom t b (row_at r.0 b.rows) d → OneTag t
    → is_among r.0 (settled_on b t c own role x) ≡ true → (p : Origin) → source (changed_by (listed (disposed_change role c own x) ++ more) d) ≡ Some p → ⊥
settled_is_done t b d r c None role x more standing ordered agrees one among p from = clash among
settled_is_done t b d r c (Some own) Receiver x more standing ordered agrees one among p from = clash among
settled_is_done t b d r c (Some own) Sender x more standing ordered agrees one among p from = by x.settled refl among
  where
    before : source d ≡ Some p
    before = (leaves_by (listed (disposed_change Sender c (Some own) x) ++ more) d).comes p from

    -- the claim that names the row is that of the producer's delivery
    its_id : (id : ℕ) (row : ARow) → row_under b t c own id ≡ Some row → row.number.0 ≡ r.0 → (p.link.conn.0 ≡ c) × (p.link.channel ≡ own) × (p.id ≡ id)
    its_id id row under number =
        let claimed : ClaimedRow b t c own id row = claimed_row b t c own id row under in
        let at = named_there (has_tag claimed.joined.terminus.number.0 row.tag.items) b.rows row ordered.rows_rise claimed.joined.named in
        let there : row_at r.0 b.rows ≡ Some row = subst (λ (m : ℕ). row_at m b.rows ≡ Some row) number at.1 in
        let came : is_from claimed.joined.terminus.number.0 row ≡ true = eq-eqb row.producer.0 claimed.joined.terminus.number.0 claimed.joined.its_producer in
        let place = one_place t standing p.link (record { number = 0; conn = record { 0 = c }; channel = own; handle = claimed.claim.handle }) claimed.joined.of_link
        (key_of_row t b d r claimed.joined.of_link claimed.joined.terminus ordered agrees claimed.joined.of_key row there came p before) claimed.joined.durable in
        let has : HasClaim t p row.tag.items = (subst (λ (v : Option ARow). IsFrom t b v d) there agrees p before).1 in
        let here : claims t c own p.id ≡ Some has.claim = ap (λ (k : ℕ). claims t k own p.id) (sym place.0) ∙ ap (λ (k : ℕ). claims t p.link.conn.0 k p.id) (sym place.1) ∙ has.there in (
          place.0,
          place.1,
          one c own p.id id has.claim claimed.claim claimed.joined.of_link row.tag.items
              (ap (λ (h : ℕ). durable_key (link t c own h)) (has.on_link ∙ place.2) ∙ claimed.joined.durable) here claimed.claimed (has.on_link ∙ place.2) has.tagged claimed.joined.same_tag,
        )

    settles : x.settled ≡ true → (id : ℕ) (row : ARow) → has id (ids_claimed t c own x.first (last_of x)) ≡ true → row_under b t c own id ≡ Some row → row.number.0 ≡ r.0 → ⊥
    settles settled id row listed under number =
        let is = its_id id row under number in
        let in_it : in_range x.first (last_of x) id ≡ true = listed_is (is_claimed t c own) x.first (last_of x) id listed in
        untold_is_done d c own x more settled
        (ap (λ (v : Option Origin). comes_with_id v c own x.first (last_of x)) before
        ∙ rw (eq-eqb p.link.conn.0 c is.0, eq-eqb p.link.channel own is.1) (ap (in_range x.first (last_of x)) is.2 ∙ in_it)) p from

    by : (s : Bool) → x.settled ≡ s → is_among r.0 (if s then rows_claimed b t c own x.first (last_of x) else []) ≡ true → ⊥
    by false e among = clash among
    by true e among = let found = among_claimed b t c own r (ids_claimed t c own x.first (last_of x)) among in settles e found.0 found.1 found.2 found.3 found.4

-- by an item
item_is_done : (t : Trace) (b : BookView) (d : Delivery) (r : RowNumber) (e : Event) (answer : Answer) → Standing t → OneTag t → EventUnshared t e answer → IsOrdered b → IsFrom t b (row_at r.0 b.rows) d
    → is_among r.0 (item_forgets b t e answer) ≡ true → (p : Origin) → source (changed_by (event_changes t e answer) d) ≡ Some p → ⊥
item_is_done t b d r (event.Item c (item.Frame false channel (perf.Disposition x) payload)) answer standing one unshared ordered agrees among p from =
    let i : Item = item.Frame false channel (perf.Disposition x) payload in
    let heard : List Change = listed (disposed_change x.role c.0 (session_found t c i) x) in
    settled_is_done t b d r c.0 (session_found t c i) x.role x (map lost (due t (event.Item c i)) ++ ended_by t c.0 i answer) standing ordered agrees one among p
    (ap (λ (zs : List Change). source (changed_by zs d)) (sym (append_assoc heard (map lost (due t (event.Item c i))) (ended_by t c.0 i answer))) ∙ from)
item_is_done t b d r (event.Item c (item.Frame false channel (perf.Detach x) payload)) answer standing one unshared ordered agrees among p from =
    let i : Item = item.Frame false channel (perf.Detach x) payload in
    closed_is_done t b d r c.0 answer (map lost (due t (event.Item c i))) i standing ordered agrees among p from
item_is_done t b d r (event.Item c (item.Frame false channel (perf.Transfer x) payload)) answer standing one unshared ordered agrees among p from =
    transfer_is_done t b d r c.0 x answer standing ordered agrees unshared among p
    ((leaves_by (event_changes t (event.Item c (item.Frame false channel (perf.Transfer x) payload)) answer) d).comes p from)
item_is_done t b d r (event.Item c (item.Frame false channel _ payload)) answer standing one unshared ordered agrees among p from = clash among
item_is_done t b d r (event.Item c (item.Frame true channel body payload)) answer standing one unshared ordered agrees among p from = clash among
item_is_done t b d r (event.Item c _) answer standing one unshared ordered agrees among p from = clash among
item_is_done t b d r _ answer standing one unshared ordered agrees among p from = clash among

-- by the map of an attach
map_is_done : (t : Trace) (b : BookView) (d : Delivery) (r : RowNumber) (e : Event) (answer : Answer) → Standing t → IsOrdered b → IsFrom t b (row_at r.0 b.rows) d
    → is_among r.0 (map_forgets b t e answer) ≡ true → (p : Origin) → source (changed_by (event_changes t e answer) d) ≡ Some p → ⊥
map_is_done t b d r (event.Item c (item.Frame false channel (perf.Attach a) payload)) answer standing ordered agrees among p from =
    resumed_is_done t b d r c.0 channel false a payload answer (map lost (due t (event.Item c (item.Frame false channel (perf.Attach a) payload)))) standing ordered agrees among p from
map_is_done t b d r (event.Item c (item.Frame true channel (perf.Attach a) payload)) answer standing ordered agrees among p from =
    resumed_is_done t b d r c.0 channel true a payload answer (map lost (due t (event.Item c (item.Frame true channel (perf.Attach a) payload)))) standing ordered agrees among p from
map_is_done t b d r (event.Item c (item.Frame sasl channel _ payload)) answer standing ordered agrees among p from = clash among
map_is_done t b d r (event.Item c _) answer standing ordered agrees among p from = clash among
map_is_done t b d r _ answer standing ordered agrees among p from = clash among

either_list : (n : ℕ) (xs ys : List RowNumber) → is_among n (xs ++ ys) ≡ true → (is_among n xs ≡ true) ⊎ (is_among n ys ≡ true)
either_list n xs ys is = by (is_among n xs) refl (sym (among_more n xs ys) ∙ is)
  where
    by : (q : Bool) → is_among n xs ≡ q → (q || is_among n ys) ≡ true → (is_among n xs ≡ true) ⊎ (is_among n ys ≡ true)
    by true e is = inl e
    by false e is = inr is

pub forgotten_is_done : (t : Trace) (b : BookView) (d : Delivery) (r : RowNumber) (e : Event) (answer : Answer) → Standing t → OneTag t → EventUnshared t e answer → IsOrdered b → IsFrom t b (row_at r.0 b.rows) d
    → is_among r.0 (forgotten_at b t e answer) ≡ true → (p : Origin) → source (changed_by (event_changes t e answer) d) ≡ Some p → ⊥
forgotten_is_done t b d r e answer standing one unshared ordered agrees among p from =
    by (either_list r.0 (item_forgets b t e answer) (map_forgets b t e answer) among)
  where
    by : (is_among r.0 (item_forgets b t e answer) ≡ true) ⊎ (is_among r.0 (map_forgets b t e answer) ≡ true) → ⊥
    by (inl is) = item_is_done t b d r e answer standing one unshared ordered agrees is p from
    by (inr is) = map_is_done t b d r e answer standing ordered agrees is p from
