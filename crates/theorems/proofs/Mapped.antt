-- In every trace of the router that was opened on a sound book, the map with which it answers an attach has the rows of the book, with their outcomes.
use Rattle.std.proofs.Common.{◌≡◌, ◌∙◌, sym, ap, refl, subst, ◌⊎◌, inl, inr, ℕ, ◌<◌, Bool, true, false, not, ◌&&◌, ◌||◌, List, [], ◌∷◌, ◌++◌, append-nil}
use Rattle.std.specs.Prelude.{◌==◌, Option, Some, None, map, filter, is_none, is_some, option_map, if◌then◌else◌}
use Rattle.std.specs.List.{list_any}
use Rattle.std.specs.Option.{option_and_then}
use Rattle.std.proofs.lemmas.Bool.{eqb-true}
use Rattle.amqp_model.specs.declared.perf.Attach.{Attach as AnAttach}
use Rattle.amqp_model.specs.declared.perf.Perf.{Perf}
use Rattle.amqp_model.specs.declared.perf.Perf.TheVariants as perf
use Rattle.amqp_model.specs.declared.perf.Role.{Role}
use Rattle.amqp_model.specs.declared.perf.Role.TheVariants.{Sender, Receiver}
use Rattle.amqp_model.specs.declared.state.DeliveryState.{DeliveryState}
use Rattle.amqp_model.specs.declared.state.UnsettledDelivery.{UnsettledDelivery}
use Rattle.amqp_model.specs.declared.item.Item.{Item}
use Rattle.amqp_model.specs.declared.item.Item.TheVariants as item
use Rattle.amqp_conn.specs.declared.conn.Conn.{Conn}
use Rattle.book_core.specs.Rising.{Rises}
use Rattle.book_model.specs.declared.act.Act.{Act}
use Rattle.book_model.specs.declared.act.Decision.{Decision}
use Rattle.book_model.specs.declared.row.Row.{Row as ARow}
use Rattle.book_model.specs.declared.row.RowNumber.{RowNumber}
use Rattle.book_model.specs.declared.terminus.LinkKey.{LinkKey}
use Rattle.book_model.specs.declared.terminus.Terminus.{Terminus}
use Rattle.book_model.specs.Book.{BookView, row_at, terminus_of, is_from, is_for, is_of, is_undecided, decided, forgotten, effects}
use Rattle.book_model.specs.Sound.{IsSound}
use Rattle.gate_journal.specs.Ordered.{IsOrdered, number_of_row}
use Rattle.journal_store.proofs.Sound.{sound_is_ordered}
use Rattle.journal_store.proofs.Settled.{settles_leave}
use Rattle.journal_store.proofs.Rowwise.{Leaves as Left}
use Rattle.journal_store.specs.Acting.{journal_outcome, outcome_for, is_among, settles, decided_to, decided_by, forgotten_by, rows_after, event_acts as settled_acts}
use Rattle.journal_store.specs.declared.acting.TerminusAct.TheVariants as terminus
use Rattle.router_trace.specs.Trace.{Trace, Beginning, Did, Out, Booked, Put, Step, goes, puts, each_to}
use Rattle.router_trace.specs.Configuration.{beginning}
use Rattle.router_trace.specs.Connection.{conn, due, found, standing}
use Rattle.router_trace.specs.Deliveries.{acts_found, outcome_or, outcome_among}
use Rattle.router_trace.specs.Durable.{is_durable}
use Rattle.router_trace.specs.Following.{tells, sends_due, drains_due}
use Rattle.router_trace.specs.LinkFrames.{other, lasting_by, plain_answer, answer_to, refusal_of, attach_item, detach_item, fits}
use Rattle.router_trace.specs.Links.{key_at, holder, free_handle}
use Rattle.router_trace.specs.Peers.{largest_frame}
use Rattle.router_trace.specs.declared.binding.Binding.{Binding}
use Rattle.router_trace.specs.declared.condition.Condition.{Condition}
use Rattle.router_trace.specs.declared.condition.Condition.TheVariants.{ResourceLimitExceeded, Stolen, FrameSizeTooSmall}
use Rattle.router_trace.specs.declared.event.ConnectionId.{ConnectionId}
use Rattle.router_trace.specs.declared.event.Event.{Event}
use Rattle.router_trace.specs.declared.event.Event.TheVariants as event
use Rattle.router_trace.specs.declared.handle.Attachment.{Attachment}
use Rattle.state_sessions.specs.Windows.{windows}
use Rattle.state_messages.specs.Messages.{grants_due, with_bound}
use Rattle.resume_core.specs.Resuming.{entries_of, brief_outcome, map_entry, is_unforgotten, is_forgotten_by, is_unsettled_after, producer_entry, forgotten_rows, producer_map, row_tag, told_of, is_told_of, outcome_given, outcome_after, listed_entry, consumer_entry, consumer_map}
use Rattle.reply_rows.specs.declared.answer.Answer.{Answer}
use Rattle.reply_rows.specs.declared.answer.Answer.TheVariants.{Attach, Refuse}
use Rattle.reply_rows.specs.Booking.{wanted_key, wanted_address, wants_durable, new_terminus, rows_of, sent_rows, bound_rows, answer_at}
use Rattle.reply_rows.specs.Rows.{said}
use Rattle.reply_rows.specs.Acts.{Journaled, live_answer, event_answer, answer_acts, admitted_acts, or_admits, event_acts, finds_full, journaled, book_in, acts_of, book_after_event, booked, book_found, answer_of, answer_by, answer_to_event}
use Rattle.reply_rows.specs.Asking.{all_rows, rows_at, receives, resumed_key, forgotten_of, forgotten_for}
use Rattle.reply_rows.specs.Deciding.{decided as decided_in, forgotten as forgotten_at, item_forgets, terminus_of_event}
use Rattle.reply_rows.specs.Resuming.{map_of, map_for}
use Rattle.router_reply.specs.Resuming.{resumed}
use Rattle.router_reply.specs.Replies.{closing_of, ends, heard, with_map, map_told, attach_answer, taken_after, taken, stolen_by, refused, bound_by, item_put, item_row, own_row, replied}
use Rattle.router_core.specs.Attaches.{is_attach_in, is_attach}
use Rattle.router_core.specs.Moves.{Goes, IsTrace}
use Rattle.core_machine.specs.Moves.{Move, handles, takes, took_one}
use Rattle.router_core.specs.Replies.{handled}
use Rattle.router_core.proofs.Attachless.{Attachless, less_closing_of, less_said, on_less, less_row, less_windows}
use Rattle.router_core.proofs.Copied.{copied_keeps}
use Rattle.router_core.proofs.Due.{tells_on, sends_on, drains_on, grants_on}
use Rattle.router_core.proofs.Following.{Steps, passed_on, passed_keeps}
use Rattle.router_core.proofs.Resuming.{resumed_keeps}
use Rattle.theorems.specs.Came.{last_found}
use Rattle.theorems.specs.Each.{EachOut}
use Rattle.theorems.specs.Mapped.{IsToldOf, IsOfRow, IsOfBoundRow, IsEntry, IsBoundEntry, EachEntry, EachTold, EachToldIn, EachToldBy, MapIsOfBook}
use Rattle.theorems.proofs.Among.{Stands as StandsIn, stands_in_both, stands_in_filter, stands_in_filter_map, stands_in_map, parts}
use Rattle.theorems.proofs.Booked.{IsPlanned, admitted_stay, all_stay}
use Rattle.theorems.proofs.Brings.{Brings, outcome_is, start_brings, handled_brings, took_brings}
use Rattle.theorems.proofs.AllSound.{acted_sound, handled_sound}
use Rattle.theorems.proofs.Giving.{row_given, acts_give}
use Rattle.theorems.proofs.Keeping.{answer_after, Stands, names_on, detach_names, key_there, mapped_key, attach_stands}
use Rattle.theorems.proofs.Looking.{found_in, found_below}
use Rattle.theorems.proofs.Made.{stays_terminus, admitted_keep}
use Rattle.theorems.proofs.Resumed.{ends_found, bound_found}
use Rattle.theorems.proofs.Rows.{Rows, start_rows, took_rows, handled_rows}
use Rattle.theorems.proofs.Served.{row_gets}
use Rattle.theorems.proofs.Settling.{settled, settled_row, Stays}
use Rattle.theorems.proofs.Sound.{Sound, sound_start, took_sound}
use Rattle.theorems.proofs.Tests.{some_same, none_not_some}

clash : true ≡ false → ⊥
clash e = cc

-- What an unforgotten row is after acts that don't forget it.

not_forgotten : (numbers : List RowNumber) (r : ARow) → is_among r.number.0 numbers ≡ false → forgotten_by numbers r ≡ Some r
not_forgotten numbers r spared = ap (λ (q : Bool). if not r.forgotten && q then forgotten r else Some r) spared ∙ by (not r.forgotten)
  where
    by : (f : Bool) → (if f && false then forgotten r else Some r) ≡ Some r
    by true = refl
    by false = refl

abbrev pub after : List Decision → ARow → ARow
after ds r = record r { outcome = outcome_or r.outcome (row_given ds (Some r)) }

decided_stays : (ds : List Decision) (r : ARow) → r.forgotten ≡ false → decided_by ds r ≡ Some (after ds r)
decided_stays ds r unforgotten = by r.outcome refl
  where
    Is : Option DeliveryState → Type 0
    Is o =
        (if is_none o then decided_to (outcome_for r.number.0 ds) r else Some r)
        ≡ Some (record r { outcome = outcome_or o (if is_none o then option_map journal_outcome (outcome_for r.number.0 ds) else None) })

    opened : r.outcome ≡ None → (v : Option DeliveryState) → decided_to v r ≡ Some (record r { outcome = option_map journal_outcome v })
    opened none None = ap (λ (o : Option DeliveryState). Some (record r { outcome = o })) none
    opened none (Some s) = ap (λ (f : Bool). if f then None else Some (record r { outcome = Some (journal_outcome s) })) unforgotten

    by : (o : Option DeliveryState) → r.outcome ≡ o → Is r.outcome
    by (Some s) had = subst Is (sym had) (ap (λ (o : Option DeliveryState). Some (record r { outcome = o })) had)
    by None none = subst Is (sym none) (opened none (outcome_for r.number.0 ds))

settled_stays : (ds : List Decision) (numbers : List RowNumber) (r : ARow) → r.forgotten ≡ false → is_among r.number.0 numbers ≡ false → settled ds numbers (Some r) ≡ Some (after ds r)
settled_stays ds numbers r unforgotten spared =
    ap (option_and_then (forgotten_by numbers)) (decided_stays ds r unforgotten) ∙ not_forgotten numbers (after ds r) spared

pub row_stays : (full : Bool) (t : Trace) (e : Event) (r : ARow) → IsPlanned full t e → IsOrdered (book_in t) → row_at r.number.0 (book_in t).rows ≡ Some r → r.forgotten ≡ false
    → is_among r.number.0 (forgotten_at (book_in t) t e (event_answer full (book_in t) t e)) ≡ false
    → row_at r.number.0 (effects (book_in t) (event_acts full (book_in t) t e)).rows
    ≡ Some (record r { outcome = outcome_or r.outcome (outcome_among (event_acts full (book_in t) t e) r.number) })
row_stays full t e r planned ordered there unforgotten spared =
    stays.rows r.number.0 low
    ∙ settled_row b ds numbers r.number.0 ordered
    ∙ ap (settled ds numbers) there
    ∙ settled_stays ds numbers r unforgotten spared
    ∙ ap (λ (o : Option DeliveryState). Some (record r { outcome = outcome_or r.outcome o }))
    (sym (acts_give full b t e ds numbers (terminus_of_event b t e answer) r.number planned ordered ∙ ap (row_given ds) there))
  where
    b : BookView
    b = book_in t

    answer : Answer
    answer = event_answer full b t e

    ds : List Decision
    ds = decided_in b t e answer

    numbers : List RowNumber
    numbers = forgotten_at b t e answer

    between : BookView
    between = effects b (settles b ds numbers)

    left : Left b (settles b ds numbers) (rows_after ds numbers b.rows)
    left = settles_leave b ds numbers ordered.rows_rise

    stays : Stays between (effects b (event_acts full b t e))
    stays =
        subst (λ (ys : List Act). Stays between (effects b (or_admits ys (admitted_acts full b t e)))) (sym planned)
        (all_stay b ds numbers (terminus_of_event b t e answer) (admitted_acts full b t e) ordered (admitted_stay full b t e))

    low : r.number.0 < between.next_row
    low = subst (λ (x : BookView). r.number.0 < x.next_row) (sym left.is) (found_below r.number.0 b.next_row b.rows r ordered.rows_below there)

-- The rows of a map: they are in the book, and the attach forgets none of them.

one_there : (rows : List ARow) (r : ARow) → Rises number_of_row rows → StandsIn ARow r rows → row_at r.number.0 rows ≡ Some r
one_there rows r up is =
    let place = parts ARow r rows is in
    ap (row_at r.number.0) place.2 ∙ found_in place.0 place.1 r (let P : List ARow → Type 0 = λ rs. Rises number_of_row rs in subst P place.2 up)

among_is : (n : ℕ) (rows : List ARow) → is_among n (map (λ (r : ARow). r.number) rows) ≡ true → (r : ARow) × StandsIn ARow r rows × (r.number.0 ≡ n)
among_is n [] is = absurd (clash (sym is))
among_is n (r ∷ rs) is = by (r.number.0 == n) refl is (λ rest. let one = among_is n rs rest in (one.0, inr one.1, one.2))
  where
    by : (q : Bool) → (r.number.0 == n) ≡ q → (q || is_among n (map (λ (r : ARow). r.number) rs)) ≡ true
        → (is_among n (map (λ (r : ARow). r.number) rs) ≡ true → (x : ARow) × StandsIn ARow x (r ∷ rs) × (x.number.0 ≡ n)) → (x : ARow) × StandsIn ARow x (r ∷ rs) × (x.number.0 ≡ n)
    by true e is rest = (r, inl refl, eqb-true r.number.0 n e)
    by false e is rest = rest is

three : (a b : Bool) → (a && not b) ≡ true → (a ≡ true) × (b ≡ false)
three true false e = (refl, refl)
three true true e = absurd (clash (sym e))
three false b e = absurd (clash (sym e))

open_one : (f : Bool) → not f ≡ true → f ≡ false
open_one false e = refl
open_one true e = absurd (clash (sym e))

-- the row of an entry
record Listed (b : BookView) (x : Terminus) (complete : Bool) (theirs : List UnsettledDelivery) (entry : UnsettledDelivery) : Type 0 where
  row : ARow
  stands : StandsIn ARow row b.rows
  came : row.producer.0 ≡ x.number.0
  unforgotten : row.forgotten ≡ false
  spared : is_forgotten_by complete theirs row ≡ false
  is : producer_entry row ≡ entry

listed : (b : BookView) (x : Terminus) (complete : Bool) (theirs : List UnsettledDelivery) (entry : UnsettledDelivery) → StandsIn UnsettledDelivery entry (producer_map complete theirs (sent_rows b x))
    → Listed b x complete theirs entry
listed b x complete theirs entry is =
    let one = stands_in_map ARow UnsettledDelivery producer_entry entry (filter (is_unsettled_after complete theirs) (sent_rows b x)) is in
    let kept = stands_in_filter ARow (is_unsettled_after complete theirs) one.0 (sent_rows b x) one.1 in
    let sent = stands_in_filter ARow (is_from x.number.0) one.0 (rows_of b x) kept.0 in
    let its = stands_in_filter ARow (is_of x.number.0) one.0 b.rows sent.0 in
    let states = three (is_unforgotten one.0) (is_forgotten_by complete theirs one.0) kept.1 in
    record {
      row = one.0;
      stands = its.0;
      came = eqb-true one.0.producer.0 x.number.0 sent.1;
      unforgotten = open_one one.0.forgotten states.0;
      spared = states.1;
      is = one.2;
    }

never_among : (b : BookView) (x : Terminus) (complete : Bool) (theirs : List UnsettledDelivery) (row : ARow) → Rises number_of_row b.rows → StandsIn ARow row b.rows
    → is_forgotten_by complete theirs row ≡ false → is_among row.number.0 (forgotten_rows complete theirs (sent_rows b x)) ≡ false
never_among b x complete theirs row up stands spared = by (is_among row.number.0 (forgotten_rows complete theirs (sent_rows b x))) refl
  where
    by : (q : Bool) → is_among row.number.0 (forgotten_rows complete theirs (sent_rows b x)) ≡ q → q ≡ false
    by false e = refl
    by true e =
        let one = among_is row.number.0 (filter (is_forgotten_by complete theirs) (sent_rows b x)) e in
        let lost = stands_in_filter ARow (is_forgotten_by complete theirs) one.0 (sent_rows b x) one.1 in
        let sent = stands_in_filter ARow (is_from x.number.0) one.0 (rows_of b x) lost.0 in
        let its = stands_in_filter ARow (is_of x.number.0) one.0 b.rows sent.0 in
        let same : one.0 ≡ row =
        some_same (sym (one_there b.rows one.0 up its.0) ∙ ap (λ (n : ℕ). row_at n b.rows) one.2 ∙ one_there b.rows row up stands) in
        absurd (clash (sym lost.1 ∙ ap (is_forgotten_by complete theirs) same ∙ spared))

-- what is told of it
is_told : (o given : Option DeliveryState) → IsToldOf (option_map brief_outcome o) given (outcome_or o given)
is_told None given = refl
is_told (Some s) given = refl

row_there : (n : ℕ) (rows : List ARow) (r : ARow) → row_at n rows ≡ Some r → StandsIn ARow r rows
row_there n [] r e = absurd (none_not_some e)
row_there n (x ∷ rows) r e = by (x.number.0 == n) e (λ later. inr (row_there n rows r later))
  where
    by : (q : Bool) → (if q then Some x else row_at n rows) ≡ Some r → (row_at n rows ≡ Some r → StandsIn ARow r (x ∷ rows)) → StandsIn ARow r (x ∷ rows)
    by true e more = inl (some_same e)
    by false e more = more e

-- the entry that a consumer's map has of a row
listed_is : (tag : List ℕ) (told : Bool) (outcome : Option DeliveryState) (entry : UnsettledDelivery) → listed_entry tag told outcome ≡ Some entry → map_entry tag outcome ≡ entry
listed_is tag true outcome entry is = some_same is
listed_is tag false None entry is = some_same is
listed_is tag false (Some outcome) entry is = absurd (none_not_some is)

-- An attach that is taken.

module _ (t : Trace) (from : ConnectionId) (sasl : Bool) (channel : ℕ) (a : AnAttach) (payload : List ℕ) (p : Conn) (own : ℕ) where
  abbrev body : Item
  body = item.Frame sasl channel (perf.Attach a) payload

  abbrev attached : Event
  attached = event.Item from body

  abbrev wished : LinkKey
  wished = wanted_key t from.0 a

  abbrev is_full : Bool
  is_full = finds_full (journaled t) t attached

  abbrev Taken : Type 0
  Taken = event_answer is_full (book_in t) t attached ≡ Attach own

  pub takes_it : standing (found t attached from.0) ≡ Some p → answer_of (booked t attached) from.0 p body ≡ Attach own → Taken
  takes_it stands answers =
      ap (live_answer is_full (book_in t) t from.0 body) stands
      ∙ (sym (answer_after (acts_of t attached) (due t attached) t from.0 p sasl channel a payload) ∙ answers)

  terminus_stays : (x : Terminus) → Taken → wants_durable a ≡ true → terminus_of wished (book_in t).termini ≡ Some x → terminus_of wished (book_after_event t attached).termini ≡ Some x
  terminus_stays x answer wants there =
      ap (λ (y : Answer). terminus_of wished (effects b (or_admits (answer_acts b t attached y) admitted)).termini) answer
      ∙ ap (λ (d : Bool). terminus_of wished (effects b (or_admits (settled_acts b ds numbers (if d then Some (terminus.Make new) else None)) admitted)).termini) wants
      ∙ stays_terminus b ds numbers wished (wanted_address a) x admitted there (admitted_keep is_full b t attached)
    where
      b : BookView
      b = book_in t

      new : Terminus
      new = new_terminus b wished (wanted_address a)

      admitted : List Act
      admitted = admitted_acts is_full b t attached

      ds : List Decision
      ds = decided_in b t attached (Attach own)

      numbers : List RowNumber
      numbers = forgotten_at b t attached (Attach own)

  forgets : (x : Terminus) → a.role ≡ Sender → wants_durable a ≡ true → terminus_of wished (book_in t).termini ≡ Some x
      → forgotten_at (book_in t) t attached (Attach own) ≡ forgotten_rows (not a.incomplete_unsettled) (entries_of a.unsettled) (sent_rows (book_in t) x)
  forgets x role wants there =
      by sasl
      ∙ ap (λ (w : Bool). forgotten_for (book_in t) (Some a) (if w then Some wished else None)) wants
      ∙ ap (λ (r : Role). forgotten_of r (not a.incomplete_unsettled) (entries_of a.unsettled) (all_rows (book_in t) (terminus_of wished (book_in t).termini))) role
      ∙ ap (λ (v : Option Terminus). forgotten_rows (not a.incomplete_unsettled) (entries_of a.unsettled) (all_rows (book_in t) v)) there
    where
      by : (q : Bool) → forgotten_at (book_in t) t (event.Item from (item.Frame q channel (perf.Attach a) payload)) (Attach own)
          ≡ forgotten_for (book_in t) (Some a) (if wants_durable a then Some wished else None)
      by true = refl
      by false = refl

  -- a producer's map
  abbrev Entry : UnsettledDelivery → Type 0
  Entry entry = IsOfRow (book_after_event t attached) (acts_of t attached) wished entry

  entry_is : IsOrdered (book_in t) → Taken → a.role ≡ Sender → wants_durable a ≡ true → (x : Terminus) → terminus_of wished (book_in t).termini ≡ Some x → (entry : UnsettledDelivery)
      → Listed (book_in t) x (not a.incomplete_unsettled) (entries_of a.unsettled) entry → Entry entry
  entry_is ordered answer role wants x there entry known =
      let row : ARow = known.row in
      let spared : is_among row.number.0 (forgotten_at (book_in t) t attached (event_answer is_full (book_in t) t attached)) ≡ false =
      ap (λ (y : Answer). is_among row.number.0 (forgotten_at (book_in t) t attached y)) answer
      ∙ ap (is_among row.number.0) (forgets x role wants there)
      ∙ never_among (book_in t) x (not a.incomplete_unsettled) (entries_of a.unsettled) row ordered.rows_rise known.stands known.spared in
      let stays = row_stays is_full t attached row refl ordered (one_there (book_in t).rows row ordered.rows_rise known.stands) known.unforgotten spared in
      let now : ARow = record row { outcome = outcome_or row.outcome (outcome_among (acts_of t attached) row.number) } in
      let place = parts ARow now (book_after_event t attached).rows (row_there row.number.0 (book_after_event t attached).rows now stays) in
      record {
        terminus = x;
        of_key = terminus_stays x answer wants there;
        row = now;
        earlier = place.0;
        later = place.1;
        kept = place.2;
        its_producer = known.came;
        unforgotten = known.unforgotten;
        same_tag = ap (λ (d : UnsettledDelivery). d.tag.items) (sym known.is);
        state = subst (λ (d : UnsettledDelivery). IsToldOf d.state (outcome_among (acts_of t attached) row.number) now.outcome) known.is
            (is_told row.outcome (outcome_among (acts_of t attached) row.number));
      }

  each_of : (P : UnsettledDelivery → Type 0) (ds : List UnsettledDelivery) → ((d : UnsettledDelivery) → StandsIn UnsettledDelivery d ds → P d) → EachEntry P ds
  each_of P [] all = tt
  each_of P (d ∷ ds) all = (all d (inl refl), each_of P ds (λ x is. all x (inr is)))

  pub map_is : IsOrdered (book_in t) → Taken → a.role ≡ Sender → EachEntry Entry (map_told (booked t attached) from.0 a (Attach own))
  map_is ordered answer role = by_wish (wants_durable a) refl
    where
      complete : Bool
      complete = not a.incomplete_unsettled

      theirs : List UnsettledDelivery
      theirs = entries_of a.unsettled

      by_terminus : wants_durable a ≡ true → (v : Option Terminus) → terminus_of wished (book_in t).termini ≡ v → EachEntry Entry (producer_map complete theirs (all_rows (book_in t) v))
      by_terminus wants None there = tt
      by_terminus wants (Some x) there =
          each_of Entry (producer_map complete theirs (sent_rows (book_in t) x)) (λ d is. entry_is ordered answer role wants x there d (listed (book_in t) x complete theirs d is))

      by_wish : (w : Bool) → wants_durable a ≡ w → EachEntry Entry (map_for (book_in t) (Some a) (if w then Some wished else None))
      by_wish false wants = tt
      by_wish true wants =
          subst (λ (r : Role). EachEntry Entry (map_of r complete theirs (book_in t) (terminus_of wished (book_in t).termini))) (sym role)
          (by_terminus wants (terminus_of wished (book_in t).termini) refl)

  -- a consumer's map
  abbrev BoundEntry : UnsettledDelivery → Type 0
  BoundEntry entry = IsOfBoundRow (book_in t) (acts_of t attached) wished entry

  resumes : standing (found t attached from.0) ≡ Some p → answer_of (booked t attached) from.0 p body ≡ Attach own → a.role ≡ Receiver → wants_durable a ≡ true
      → resumed_key (booked t attached) attached (answer_to_event (booked t attached) attached) ≡ Some wished
  resumes stands answers role wants =
      ap (λ (v : Option Conn). resumed_key (booked t attached) attached (answer_by (booked t attached) from.0 body v)) stands
      ∙ ap (resumed_key (booked t attached) attached) answers
      ∙ ap (λ (r : Role). if receives r then (if wants_durable a then Some wished else None) else None) role
      ∙ ap (λ (w : Bool). if w then Some wished else None) wants

  bound_entry_is : Brings t → standing (found t attached from.0) ≡ Some p → answer_of (booked t attached) from.0 p body ≡ Attach own → a.role ≡ Receiver → wants_durable a ≡ true
      → (x : Terminus) → terminus_of wished (book_in t).termini ≡ Some x → (entry : UnsettledDelivery) → StandsIn UnsettledDelivery entry (consumer_map (entries_of a.unsettled) (bound_rows (book_in t) x))
      → BoundEntry entry
  bound_entry_is brings stands answers role wants x there entry is =
      let ordered : IsOrdered (book_in t) = sound_is_ordered (book_in t) brings.book in
      let theirs : List UnsettledDelivery = entries_of a.unsettled in
      let one = stands_in_filter_map ARow UnsettledDelivery (consumer_entry theirs) entry (bound_rows (book_in t) x) is in
      let row : ARow = one.0 in
      let bound = stands_in_filter ARow (is_for x.number.0) row (rows_of (book_in t) x) one.1 in
      let kept = stands_in_filter ARow (is_of x.number.0) row (book_in t).rows bound.0 in
      let place = parts ARow row (book_in t).rows kept.0 in
      let same : map_entry (row_tag row) (outcome_after theirs row) ≡ entry = listed_is (row_tag row) (is_told_of theirs row) (outcome_after theirs row) entry one.2 in
      record {
        terminus = x;
        of_key = there;
        row = row;
        earlier = place.0;
        later = place.1;
        kept = place.2;
        waits = bound.1;
        its_tag = ap (λ (d : UnsettledDelivery). d.tag.items) (sym same);
        outcome = outcome_after theirs row;
        is_outcome = outcome_is row.outcome (outcome_after theirs row) (outcome_given (told_of theirs row)) (outcome_among (acts_of t attached) row.number) refl
            (row_gets t attached wished a x row ordered brings.lasting (resumes stands answers role wants) refl there (one_there (book_in t).rows row ordered.rows_rise kept.0) bound.1);
        state = ap (λ (d : UnsettledDelivery). d.state) (sym same);
      }

  pub bound_map_is : Brings t → standing (found t attached from.0) ≡ Some p → answer_of (booked t attached) from.0 p body ≡ Attach own → a.role ≡ Receiver
      → EachEntry BoundEntry (map_told (booked t attached) from.0 a (Attach own))
  bound_map_is brings stands answers role = by_wish (wants_durable a) refl
    where
      complete : Bool
      complete = not a.incomplete_unsettled

      theirs : List UnsettledDelivery
      theirs = entries_of a.unsettled

      by_terminus : wants_durable a ≡ true → (v : Option Terminus) → terminus_of wished (book_in t).termini ≡ v → EachEntry BoundEntry (consumer_map theirs (rows_at (book_in t) v))
      by_terminus wants None there = tt
      by_terminus wants (Some x) there =
          each_of BoundEntry (consumer_map theirs (bound_rows (book_in t) x)) (λ d is. bound_entry_is brings stands answers role wants x there d is)

      by_wish : (w : Bool) → wants_durable a ≡ w → EachEntry BoundEntry (map_for (book_in t) (Some a) (if w then Some wished else None))
      by_wish false wants = tt
      by_wish true wants =
          subst (λ (r : Role). EachEntry BoundEntry (map_of r complete theirs (book_in t) (terminus_of wished (book_in t).termini))) (sym role)
          (by_terminus wants (terminus_of wished (book_in t).termini) refl)

-- items that contain no attach

abbrev pub Mapped : Trace → Type 0
Mapped t = EachOut MapIsOfBook t

less_perf : (body : Perf) (t : Trace) (c : ℕ) → is_attach_in body ≡ false → EachToldIn (IsEntry t c) (IsBoundEntry t c) body
less_perf (perf.Attach a) t c none = absurd cc
less_perf _ t c none = tt

less_item : (i : Item) (t : Trace) (c : ℕ) → is_attach i ≡ false → MapIsOfBook t c i
less_item (item.Frame sasl own body payload) t c none = less_perf body t c none
less_item _ t c none = tt

goes_mapped : (ps : List Put) (t : Trace) → Attachless ps → Mapped t → Mapped (goes ps t)
goes_mapped [] t less was = was
goes_mapped (p ∷ ps) t less was = goes_mapped ps (Out p.conn p.item ∷ t) less.1 (less_item p.item t p.conn less.0, was)

bound_mapped : (b : Option Binding) (t : Trace) → Mapped t → Mapped (with_bound b t)
bound_mapped None t was = was
bound_mapped (Some b) t was = was

ends_mapped : (id : List ℕ) (cs : List ℕ) (t : Trace) → Mapped t → Mapped (ends id cs t)
ends_mapped id [] t was = was
ends_mapped id (d ∷ ds) t was =
    let items : List Item = closing_of id (conn t d) ResourceLimitExceeded in
    ends_mapped id ds (puts d items t) (goes_mapped (each_to d items) t (less_closing_of id d (conn t d) ResourceLimitExceeded) was)

-- the answers to an attach

-- a refusal has no map
refusal_mapped : (r : Role) (a p : AnAttach) (t : Trace) (c : ℕ) → p.unsettled ≡ None → EachTold (IsEntry t c) (IsBoundEntry t c) r p
refusal_mapped Sender a p t c none = subst (λ (v : Option (List UnsettledDelivery)). EachEntry (IsBoundEntry t c p) (entries_of v)) (sym none) tt
refusal_mapped Receiver a p t c none = subst (λ (v : Option (List UnsettledDelivery)). EachEntry (IsEntry t c p) (entries_of v)) (sym none) tt

refused_mapped : (t : Trace) (largest c own handle : ℕ) (e : Condition) (a : AnAttach) → Mapped t → Mapped (goes (each_to c (refused largest own handle e a)) t)
refused_mapped t largest c own handle e a was = by (fits largest (attach_item own (refusal_of a handle)))
  where
    by : (b : Bool) → Mapped (goes (each_to c (if b then attach_item own (refusal_of a handle) ∷ detach_item own handle true (Some e) ∷ [] else detach_item own handle true (Some e) ∷ [])) t)
    by true = (tt, (refusal_mapped (other a.role) a (refusal_of a handle) t c refl, was))
    by false = (tt, was)

-- an answer that takes the link has the router's map
plain_entries : (q : Bool) (r : Role) (p : AnAttach) → p.unsettled ≡ None → entries_of (if q then lasting_by r p else p).unsettled ≡ []
plain_entries true Sender p none = refl
plain_entries true Receiver p none = refl
plain_entries false r p none = ap entries_of none

mapped_entries : (ours : List UnsettledDelivery) (p : AnAttach) → entries_of p.unsettled ≡ [] → entries_of (with_map ours p).unsettled ≡ ours
mapped_entries [] p none = none
mapped_entries (d ∷ ds) p none = refl

lasting_role : (q : Bool) (r : Role) (p : AnAttach) → (if q then lasting_by r p else p).role ≡ p.role
lasting_role true Sender p = refl
lasting_role true Receiver p = refl
lasting_role false r p = refl

mapped_role : (ours : List UnsettledDelivery) (p : AnAttach) → (with_map ours p).role ≡ p.role
mapped_role [] p = refl
mapped_role (d ∷ ds) p = refl

answer_role : (ours : List UnsettledDelivery) (a : AnAttach) (h : ℕ) → (with_map ours (answer_to a h)).role ≡ other a.role
answer_role ours a h = mapped_role ours (answer_to a h) ∙ lasting_role (is_durable (other a.role) (plain_answer a h)) (other a.role) (plain_answer a h)

answer_entries : (ours : List UnsettledDelivery) (a : AnAttach) (h : ℕ) → entries_of (with_map ours (answer_to a h)).unsettled ≡ ours
answer_entries ours a h =
    mapped_entries ours (answer_to a h) (plain_entries (is_durable (other a.role) (plain_answer a h)) (other a.role) (plain_answer a h) refl)

-- a trace in which it can be put
record StandsFound (t : Trace) (e : Event) (c : ℕ) (w : Trace) : Type 0 where
  stands : Stands t e c w
  found : last_found w ≡ booked t e

record IsMap (t : Trace) (e : Event) (c : ℕ) (a : AnAttach) (ours : List UnsettledDelivery) : Type 0 where
  sent : a.role ≡ Sender → EachEntry (IsOfRow (book_after_event t e) (acts_of t e) (wanted_key t c a)) ours
  bound : a.role ≡ Receiver → EachEntry (IsOfBoundRow (book_in t) (acts_of t e) (wanted_key t c a)) ours

answer_mapped : (t w : Trace) (e : Event) (c h : ℕ) (ours : List UnsettledDelivery) (a : AnAttach) → IsMap t e c a ours → StandsFound t e c w
    → EachTold (IsEntry w c) (IsBoundEntry w c) (with_map ours (answer_to a h)).role (with_map ours (answer_to a h))
answer_mapped t w e c h ours a entries at = by a.role refl
  where
    answer : AnAttach
    answer = with_map ours (answer_to a h)

    key : key_at w c answer ≡ wanted_key t c a
    key = mapped_key ours w c (answer_to a h) ∙ key_there t w c a h at.stands.names

    -- of a producer, and of a consumer
    sent : a.role ≡ Sender → EachEntry (IsEntry w c answer) (entries_of answer.unsettled)
    sent role =
        subst (λ (ds : List UnsettledDelivery). EachEntry (IsEntry w c answer) ds) (sym (answer_entries ours a h))
        (subst (λ (k : LinkKey). EachEntry (IsOfRow (book_in w) (acts_found (last_found w)) k) ours) (sym key)
        (subst (λ (v : Trace). EachEntry (IsOfRow (book_in w) (acts_found v) (wanted_key t c a)) ours) (sym at.found)
        (subst (λ (b : BookView). EachEntry (IsOfRow b (acts_of t e) (wanted_key t c a)) ours) (sym at.stands.book) (entries.sent role))))

    bound : a.role ≡ Receiver → EachEntry (IsBoundEntry w c answer) (entries_of answer.unsettled)
    bound role =
        subst (λ (ds : List UnsettledDelivery). EachEntry (IsBoundEntry w c answer) ds) (sym (answer_entries ours a h))
        (subst (λ (k : LinkKey). EachEntry (IsOfBoundRow (book_found (last_found w)) (acts_found (last_found w)) k) ours) (sym key)
        (subst (λ (v : Trace). EachEntry (IsOfBoundRow (book_found v) (acts_found v) (wanted_key t c a)) ours) (sym at.found) (entries.bound role)))

    by : (r : Role) → a.role ≡ r → EachTold (IsEntry w c) (IsBoundEntry w c) answer.role answer
    by Sender role = subst (λ (r : Role). EachTold (IsEntry w c) (IsBoundEntry w c) r answer) (sym (answer_role ours a h ∙ ap other role)) (sent role)
    by Receiver role = subst (λ (r : Role). EachTold (IsEntry w c) (IsBoundEntry w c) r answer) (sym (answer_role ours a h ∙ ap other role)) (bound role)

answer_there : (t w : Trace) (e : Event) (c own largest : ℕ) (free : Option ℕ) (ours : List UnsettledDelivery) (a : AnAttach) → IsMap t e c a ours → StandsFound t e c w → Mapped w
    → Mapped (goes (each_to c (attach_answer largest own free ours a)) w)
answer_there t w e c own largest None ours a entries at was = was
answer_there t w e c own largest (Some h) ours a entries at was = by (fits largest (attach_item own answer)) (not (is_durable answer.role answer))
  where
    answer : AnAttach
    answer = with_map ours (answer_to a h)

    by : (b closed : Bool) → Mapped (goes (each_to c (if b then attach_item own answer ∷ [] else detach_item own h closed (Some FrameSizeTooSmall) ∷ [])) w)
    by true closed = (answer_mapped t w e c h ours a entries at, was)
    by false closed = (tt, was)

taken_mapped : (t u w : Trace) (e : Event) (c own : ℕ) (ours : List UnsettledDelivery) (a : AnAttach) → IsMap t e c a ours → StandsFound t e c w → Mapped w → Mapped (goes (taken u c own ours a) w)
taken_mapped t u w e c own ours a entries at was = by (holder u (key_at u c (answer_to a 0)))
  where
    by : (x : Option Attachment) → Mapped (goes (taken_after u c own ours a (stolen_by x)) w)
    by None = answer_there t w e c own (largest_frame u c) (free_handle u c own) ours a entries at was
    by (Some x) =
        let out : Item = detach_item x.channel x.handle false (Some Stolen) in
        answer_there t (Out x.conn.0 out ∷ w) e c own (largest_frame u c) (free_handle (Out x.conn.0 out ∷ u) c own) ours a entries
        (record {
          stands = record { names = names_on t w (Out x.conn.0 out ∷ w) c at.stands.names (detach_names w x.conn.0 x.channel x.handle c false (Some Stolen)); book = at.stands.book };
          found = at.found;
        }) (tt, was)

-- an event with all that it put out

more_none : (c : ℕ) (is : List Item) → Attachless (each_to c is) → Attachless (each_to c is ++ [])
more_none c is less = subst (λ (ps : List Put). Attachless ps) (sym (append-nil (each_to c is))) less

attach_row : (id : List ℕ) (t u w : Trace) (from : ConnectionId) (sasl : Bool) (channel : ℕ) (a : AnAttach) (payload : List ℕ) → Brings t
    → ((p : Conn) → standing (found t (event.Item from (item.Frame sasl channel (perf.Attach a) payload)) from.0) ≡ Some p
    → StandsFound t (event.Item from (item.Frame sasl channel (perf.Attach a) payload)) from.0 w) → Mapped w
    → (v : Option Conn) → standing (found t (event.Item from (item.Frame sasl channel (perf.Attach a) payload)) from.0) ≡ v
    → Mapped (goes (item_row id (booked t (event.Item from (item.Frame sasl channel (perf.Attach a) payload))) u from.0 (item.Frame sasl channel (perf.Attach a) payload) v) w)
attach_row id t u w from sasl channel a payload brings stands was None none = was
attach_row id t u w from sasl channel a payload brings stands was (Some p) here = by (answer_of (booked t e) from.0 p i) refl
  where
    i : Item
    i = item.Frame sasl channel (perf.Attach a) payload

    e : Event
    e = event.Item from i

    by : (x : Answer) → answer_of (booked t e) from.0 p i ≡ x → Mapped (goes (item_put id (booked t e) u from.0 p i x) w)
    by (Attach own) answers =
        taken_mapped t u w e from.0 own (map_told (booked t e) from.0 a (Attach own)) a
        (record {
          sent = λ role. map_is t from sasl channel a payload p own (sound_is_ordered (book_in t) brings.book) (takes_it t from sasl channel a payload p own here answers) role;
          bound = λ role. bound_map_is t from sasl channel a payload p own brings here answers role;
        }) (stands p here) was
    by (Refuse own handle x) answers = refused_mapped w (largest_frame u from.0) from.0 own handle x a was
    by x answers = goes_mapped (each_to from.0 (said id p x) ++ []) w (more_none from.0 (said id p x) (less_said id from.0 p x)) was

row_mapped : (id : List ℕ) (t : Trace) (s : Step) (e : Event) → s.event ≡ e → (b : Option Binding) → Brings t
    → Mapped (with_bound b (ends id (due t e) (Did s ∷ booked t e)))
    → Mapped (goes (own_row id (booked t e) (ends id (due t e) (Did s ∷ booked t e)) e) (with_bound b (ends id (due t e) (Did s ∷ booked t e))))
row_mapped id t s (event.Item from (item.Frame sasl channel (perf.Attach a) payload)) is b brings was =
    let e : Event = event.Item from (item.Frame sasl channel (perf.Attach a) payload) in
    let u : Trace = ends id (due t e) (Did s ∷ booked t e) in
    attach_row id t u (with_bound b u) from sasl channel a payload brings
    (λ p here. record { stands = attach_stands id t from sasl channel a payload s b is p here; found = bound_found b u ∙ ends_found id (due t e) (Did s ∷ booked t e) })
    was (standing (found t e from.0)) refl
row_mapped id t s e is b brings was =
    let u : Trace = ends id (due t e) (Did s ∷ booked t e) in
    goes_mapped (own_row id (booked t e) u e) (with_bound b u) (less_row id (booked t e) u e refl) was

passed_mapped : Steps Mapped
passed_mapped = record {
  telling = λ t was. goes_mapped (tells t) t (on_less t (tells t) (tells_on t)) was;
  sending = λ t was. goes_mapped (sends_due t) t (on_less t (sends_due t) (sends_on t)) was;
  draining = λ t was. goes_mapped (drains_due t) t (on_less t (drains_due t) (drains_on t)) was;
  granting = λ t was. goes_mapped (grants_due t) t (on_less t (grants_due t) (grants_on t)) was;
}

pub handled_mapped : (id : List ℕ) (t : Trace) (s : Step) → Brings t → Mapped t → Mapped (handled id t s)
handled_mapped id t s brings was =
    let at : Trace = booked t s.event in
    let u : Trace = heard id at s in
    let b : Option Binding = bound_by at u s.event in
    let rows : Mapped (replied id at s) =
    copied_keeps Mapped (λ x v kept. kept) at u s.event (goes (own_row id at u s.event) (with_bound b u))
    (row_mapped id t s s.event refl b brings (bound_mapped b u (ends_mapped id (due t s.event) (Did s ∷ at) was))) in
    let resumes : Trace = resumed at s.event (replied id at s) in
    let behind : Trace = passed_on resumes in
    goes_mapped (windows behind) behind (less_windows behind)
    (passed_keeps Mapped passed_mapped resumes (resumed_keeps Mapped (λ bound v kept. kept) at s.event (replied id at s) rows))

pub moves_mapped : (id : List ℕ) (ms : List Move) (t u : Trace) → Rows t → Sound t → Brings t → Mapped t → Goes id ms t u → Mapped u
moves_mapped id [] t u rows sound brings was went = subst Mapped (sym went) was
moves_mapped id (handles s ∷ ms) t u rows sound brings was went =
    moves_mapped id ms (handled id t s) u (handled_rows id t s rows) (handled_sound id t s rows sound) (handled_brings id t s (acted_sound t s.event sound) brings)
    (handled_mapped id t s brings was) went.1
moves_mapped id (takes x ∷ ms) t u rows sound brings was went =
    moves_mapped id ms (took_one x t) u (took_rows _ _ t rows) (took_sound _ _ t sound) (took_brings _ _ t brings) was went

pub trace_mapped : (id : List ℕ) (g : Beginning) (u : Trace) → IsTrace id g u → IsSound g.book → Mapped u
trace_mapped id g u trace sound = moves_mapped id trace.0 (beginning g) u (start_rows g) (sound_start g) (start_brings g sound) tt trace.1
