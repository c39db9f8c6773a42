-- The acts of an event make of the book what its changes will make of the deliveries.
use Rattle.std.proofs.Common.{◌≡◌, ◌∙◌, sym, ap, refl, subst, inl, inr, ℕ, ◌≤◌, ◌<◌, Bool, true, false, not, ◌&&◌, ◌||◌, List, [], ◌∷◌, ◌++◌, arith, append_assoc, append-nil, ◌⊎◌}
use Rattle.std.specs.Prelude.{◌==◌, Option, Some, None, map, filter, find, is_some, is_none, option_map, if◌then◌else◌}
use Rattle.std.specs.Option.{option_and_then}
use Rattle.std.proofs.lemmas.Bool.{eqb-true, eq-eqb}
use Rattle.amqp_model.specs.declared.perf.Attach.{Attach as AnAttach}
use Rattle.amqp_model.specs.declared.perf.Perf.{Perf}
use Rattle.amqp_model.specs.declared.perf.Perf.TheVariants as perf
use Rattle.amqp_model.specs.declared.perf.Role.{Role}
use Rattle.amqp_model.specs.declared.perf.Role.TheVariants.{Sender, Receiver}
use Rattle.amqp_model.specs.declared.perf.Transfer.{Transfer as ATransfer}
use Rattle.amqp_model.specs.declared.state.DeliveryState.{DeliveryState}
use Rattle.amqp_model.specs.declared.state.UnsettledDelivery.{UnsettledDelivery}
use Rattle.amqp_model.specs.declared.item.Item.{Item}
use Rattle.amqp_model.specs.declared.item.Item.TheVariants as item
use Rattle.amqp_conn.specs.declared.conn.Conn.{Conn}
use Rattle.book_model.specs.declared.act.Act.{Act}
use Rattle.book_model.specs.declared.act.Admission.{Admission}
use Rattle.book_model.specs.declared.act.Decision.{Decision}
use Rattle.book_model.specs.declared.row.Row.{Row as ARow}
use Rattle.book_model.specs.declared.row.RowNumber.{RowNumber}
use Rattle.book_model.specs.declared.terminus.LinkKey.{LinkKey}
use Rattle.book_model.specs.declared.terminus.LinkRole.{LinkRole}
use Rattle.book_model.specs.declared.terminus.LinkRole.TheVariants.{Producer, Consumer}
use Rattle.book_model.specs.declared.terminus.Terminus.{Terminus}
use Rattle.book_model.specs.declared.terminus.TerminusNumber.{TerminusNumber}
use Rattle.book_model.specs.Book.{BookView, row_at, row_named, has_tag, terminus_at, terminus_of, is_from, is_for, is_for_by, is_of, same_role, same_bytes, is_undecided as is_open_row, decided, forgotten, effects, first_fault}
use Rattle.book_core.specs.Rising.{Rises, AllAbove}
use Rattle.gate_journal.specs.Ordered.{IsOrdered, number_of_row}
use Rattle.journal_store.specs.declared.acting.TerminusAct.{TerminusAct}
use Rattle.journal_store.specs.Acting.{journal_outcome, outcome_for, is_among, settles, decided_to, decided_by, forgotten_by, rows_after, terminus_acts, event_acts as settled_acts}
use Rattle.journal_store.proofs.Makes.{effects_more}
use Rattle.journal_store.proofs.Rowwise.{Leaves as Left}
use Rattle.journal_store.proofs.Settled.{settles_leave}
use Rattle.journal_store.proofs.Started.{start_applies}
use Rattle.router_trace.specs.declared.binding.DeliveryName.TheVariants.{Row}
use Rattle.router_trace.specs.declared.binding.Origin.{Origin}
use Rattle.router_trace.specs.declared.event.ConnectionId.{ConnectionId}
use Rattle.router_trace.specs.declared.event.Event.{Event}
use Rattle.router_trace.specs.declared.event.Event.TheVariants as event
use Rattle.router_trace.specs.Connection.{standing, found, due}
use Rattle.router_trace.specs.DeliveryFrames.{kept_outcome}
use Rattle.router_trace.specs.Deliveries.{Delivery, source, delivery, is_undecided, outcome_or, outcome_among, outcome_named, given}
use Rattle.router_trace.specs.Following.{link_of}
use Rattle.router_trace.specs.LinkFrames.{other}
use Rattle.router_trace.specs.Links.{way_of, link, link_place, holder, durable_key}
use Rattle.router_trace.specs.Settling.{middle_on}
use Rattle.router_trace.specs.declared.handle.Attachment.{Attachment}
use Rattle.router_trace.specs.Trace.{Trace, Booked}
use Rattle.state_deliveries.specs.declared.change.Change.{Change}
use Rattle.state_deliveries.specs.declared.change.Change.TheVariants as change
use Rattle.state_deliveries.specs.declared.change.Gone.TheVariants as gone
use Rattle.state_deliveries.specs.Deciding.{changed_by, decided_rows}
use Rattle.state_deliveries.specs.Hearing.{disposed_change}
use Rattle.state_deliveries.specs.Stepping.{is_gone, changed}
use Rattle.reply_rows.specs.declared.answer.Answer.{Answer}
use Rattle.resume_core.specs.Resuming.{entries_of, is_forgotten_by, forgotten_rows}
use Rattle.reply_rows.specs.declared.answer.Answer.TheVariants.{Attach, Detach, Taken}
use Rattle.reply_rows.specs.Booking.{wanted_key, wants_durable, rows_of}
use Rattle.reply_rows.specs.Acts.{live_answer, event_answer, answer_acts, planned_acts, admitted_acts, or_admits, event_acts, finds_full, journaled, book_in, acts_of}
use Rattle.reply_rows.specs.Admitting.{event_admission, admits}
use Rattle.reply_rows.specs.Asking.{key_taken, receives, resumed_key, attach_in, decided_for, map_decides, forgotten_of, all_rows, forgotten_for, map_forgets}
use Rattle.reply_rows.specs.Deciding.{as_kept, lost, listed, ended_by, stolen_from, session_found, event_changes, decided as decided_in, sent_by, sent_from, closed_terminus, item_forgets, forgotten as forgotten_at, terminus_of_event}
use Rattle.theorems.proofs.Applying.{settled_apply, admission_applies, ordered_after}
use Rattle.theorems.proofs.Changing.{Leaves, leaves_by, undecided_is}
use Rattle.theorems.proofs.Decisions.{decided_of, none_for}
use Rattle.theorems.proofs.Ended.{IsEnded, ended_by_all, event_gives}
use Rattle.theorems.proofs.Facts.{FromTerminus, KeptAs, kept_none, kept_some, IsHeld, Agrees, RowFact, Facts, FactsOf}
use Rattle.theorems.proofs.Forgetting.{IsFrom, is_from_one, resumed_is_done, forgotten_is_done}
use Rattle.theorems.proofs.Giving.{row_given, acts_give, map_form, kept_is_form}
use Rattle.theorems.proofs.Hearing.{gives}
use Rattle.theorems.proofs.KeptForm.{kept_form, kept_twice}
use Rattle.theorems.proofs.Looking.{found_number, found_below, none_above}
use Rattle.theorems.proofs.Owning.{Owned, owned_one}
use Rattle.theorems.proofs.Settling.{settled, settled_row, found_at_number, found_key, Stays, stays_it, terminus_stays, admission_stays}
use Rattle.theorems.proofs.Standing.{Standing, one_place, holds_key}
use Rattle.theorems.proofs.Tests.{some_same, none_not_some}
use Rattle.theorems.proofs.Undecided.{ends_keep}
use Rattle.theorems.proofs.Unshared.{event_unshared}

clash : false ≡ true → ⊥
clash e = cc

-- a row after what is decided and forgotten

-- by the changes of an event
decide_step : (t : Trace) (b : BookView) (ds : List Decision) (r : ℕ) (row : ARow) (d e : Delivery) → Leaves d e → d.presettled ≡ false → row.number.0 ≡ r
    → outcome_for r ds ≡ option_map kept_outcome (if is_undecided d then e.outcome else None) → (d.outcome ≡ None → IsEnded e.outcome) → IsHeld t b row d → Agrees t b (decided_by ds row) e
decide_step t b ds r row d e leaves open_one number outcome ended held = by d.outcome refl
  where
    named : outcome_for row.number.0 ds ≡ option_map kept_outcome (if is_undecided d then e.outcome else None)
    named = ap (λ (n : ℕ). outcome_for n ds) number ∙ outcome

    stays : e.outcome ≡ d.outcome → Agrees t b (Some row) e
    stays same = record {
      outcome = subst (KeptAs row.outcome) (sym same) held.outcome;
      waits = λ q comes. held.waits q (leaves.comes q comes);
      from = λ q comes. held.from q (leaves.comes q comes);
      claimed = λ q comes. held.claimed q (leaves.comes q comes);
    }

    shut : (s : DeliveryState) → d.outcome ≡ Some s → is_open_row row ≡ false
    shut s is = kept_some row.outcome d.outcome s held.outcome is

    open_row : d.outcome ≡ None → is_open_row row ≡ true
    open_row is = ap is_none (kept_none row.outcome d.outcome held.outcome is)

    -- it is decided now
    now : (s : DeliveryState) → d.outcome ≡ None → e.outcome ≡ Some s → Agrees t b (decided (kept_form s) row) e
    now s none is = gone_or_not row.forgotten refl
      where
        gone_or_not : (f : Bool) → row.forgotten ≡ f → Agrees t b (if f then None else Some (record row { outcome = Some (kept_form s) })) e
        gone_or_not true f = λ p from. clash (sym (held.waits p (leaves.comes p from)) ∙ f)
        gone_or_not false f = record {
          outcome = inl (ap (option_map kept_form) (sym is));
          waits = λ q comes. f;
          from = λ q comes. held.from q (leaves.comes q comes);
          claimed = λ q comes. held.claimed q (leaves.comes q comes);
        }

    undecided : d.outcome ≡ None → (u : Bool) → is_undecided d ≡ u → Agrees t b (decided_to (option_map kept_outcome (if u then e.outcome else None)) row) e
    undecided none true is = made e.outcome refl
      where
        made : (o : Option DeliveryState) → e.outcome ≡ o → Agrees t b (decided_to (option_map kept_outcome o) row) e
        made None same = stays (same ∙ sym none)
        made (Some s) same = now s none same
    undecided none false is = asleep d.suspended refl
      where
        asleep : (q : Bool) → d.suspended ≡ q → Agrees t b (Some row) e
        asleep true f = stays ((leaves.sleeps none f).0 ∙ sym none)
        asleep false f = absurd (clash (sym is ∙ (let open_now : is_undecided d ≡ true = rw (none, open_one, f) refl in open_now)))

    by : (o : Option DeliveryState) → d.outcome ≡ o → Agrees t b (decided_by ds row) e
    by (Some s) is =
        subst (λ (q : Bool). Agrees t b (if q then decided_to (outcome_for row.number.0 ds) row else Some row) e) (sym (shut s is))
        (stays (leaves.stays s is ∙ sym is))
    by None is =
        subst (λ (q : Bool). Agrees t b (if q then decided_to (outcome_for row.number.0 ds) row else Some row) e) (sym (open_row is))
        (subst (λ (o : Option DeliveryState). Agrees t b (decided_to o row) e) (sym named) (undecided is (is_undecided d) refl))

forget_step : (t : Trace) (b : BookView) (numbers : List RowNumber) (r : ℕ) (row : ARow) (e : Delivery) → row.number.0 ≡ r
    → (is_among r numbers ≡ true → (p : Origin) → source e ≡ Some p → ⊥) → IsHeld t b row e → Agrees t b (forgotten_by numbers row) e
forget_step t b numbers r row e number done held = by row.forgotten (is_among row.number.0 numbers) refl refl
  where
    among : is_among row.number.0 numbers ≡ true → is_among r numbers ≡ true
    among is = subst (λ (n : ℕ). is_among n numbers ≡ true) number is

    now : ((p : Origin) → source e ≡ Some p → ⊥) → (o : Bool) → Agrees t b (if o then None else Some (record row { forgotten = true })) e
    now none true = none
    now none false = record {
      outcome = held.outcome;
      waits = λ p from. absurd (none p from);
      from = λ p from. absurd (none p from);
      claimed = λ p from. absurd (none p from);
    }

    by : (f m : Bool) → row.forgotten ≡ f → is_among row.number.0 numbers ≡ m → Agrees t b (if not f && m then forgotten row else Some row) e
    by true m e f = held
    by false true e f = now (done (among f)) (is_some row.outcome)
    by false false e f = held

numbered_in : (b : BookView) (r : RowNumber) (row : ARow) → row_at r.0 b.rows ≡ Some row → row.number.0 ≡ r.0
numbered_in b r row is = found_number r.0 b.rows row is

decided_number : (ds : List Decision) (row x : ARow) → decided_by ds row ≡ Some x → x.number.0 ≡ row.number.0
decided_number ds row x is = by (is_open_row row) (outcome_for row.number.0 ds) is
  where
    same : (a : ARow) → Some a ≡ Some x → a.number.0 ≡ row.number.0 → x.number.0 ≡ row.number.0
    same a is number = ap (λ (y : ARow). y.number.0) (sym (some_same is)) ∙ number

    made : (s : DeliveryState) (f : Bool) → (if f then None else Some (record row { outcome = Some (journal_outcome s) })) ≡ Some x → x.number.0 ≡ row.number.0
    made s true is = absurd (none_not_some is)
    made s false is = same (record row { outcome = Some (journal_outcome s) }) is refl

    by : (u : Bool) (o : Option DeliveryState) → (if u then decided_to o row else Some row) ≡ Some x → x.number.0 ≡ row.number.0
    by true None is = same row is refl
    by true (Some s) is = made s row.forgotten is
    by false o is = same row is refl

settle_step : (t : Trace) (b : BookView) (ds : List Decision) (numbers : List RowNumber) (r : ℕ) (v : Option ARow) (d e : Delivery) → ((p : Origin) → source e ≡ Some p → source d ≡ Some p)
    → ((row : ARow) → v ≡ Some row → row.number.0 ≡ r) → ((row : ARow) → v ≡ Some row → IsHeld t b row d → Agrees t b (decided_by ds row) e)
    → (is_among r numbers ≡ true → (p : Origin) → source e ≡ Some p → ⊥) → Agrees t b v d → Agrees t b (settled ds numbers v) e
settle_step t b ds numbers r None d e comes number decides done was = λ p from. was p (comes p from)
settle_step t b ds numbers r (Some row) d e comes number decides done was =
    by (decided_by ds row) refl (decides row refl was)
  where
    by : (o : Option ARow) → decided_by ds row ≡ o → Agrees t b o e → Agrees t b (option_and_then (forgotten_by numbers) o) e
    by None is agrees = agrees
    by (Some x) is agrees = forget_step t b numbers r x e (decided_number ds row x is ∙ number row refl) done agrees

-- over the book after all acts of the event, and the trace after them

book_step : (t : Trace) (acts : List Act) (full : List ℕ) (b c : BookView) (r : ℕ) (v : Option ARow) (e : Delivery) → row_at r b.rows ≡ v → Stays b c → Agrees t b v e → Agrees (Booked acts full ∷ t) c v e
book_step t acts full b c r None e found stays was = was
book_step t acts full b c r (Some row) e found stays was = record {
  outcome = was.outcome;
  waits = was.waits;
  from = λ p from. let at = was.from p from in
      record {
        key = at.key;
        durable = at.durable;
        at = at.at;
        found = stays.termini at.key at.at r row at.found at.role found (was.waits p from) (sym at.number);
        number = at.number;
        role = at.role;
      };
  claimed = λ p from. let has = was.claimed p from in record { claim = has.claim; there = has.there; on_link = has.on_link; tagged = has.tagged; apart = has.apart };
}

-- the same termini
termini_step : (t : Trace) (b c : BookView) (v : Option ARow) (e : Delivery) → c.termini ≡ b.termini → c.next_terminus ≡ b.next_terminus → Agrees t b v e → Agrees t c v e
termini_step t b c None e same next was = was
termini_step t b c (Some row) e same next was = record {
  outcome = was.outcome;
  waits = was.waits;
  from = λ p from. let at = was.from p from in
      record { key = at.key; durable = at.durable; at = at.at; found = ap (terminus_of at.key) same ∙ at.found; number = at.number; role = at.role };
  claimed = was.claimed;
}

-- the book after what is decided and forgotten, and that after all acts

nothing_done : (b : BookView) → effects b [] ≡ b
unfolding effects
nothing_done b = refl

nil_first : (xs ys : List Act) → xs ++ ys ≡ [] → xs ≡ []
nil_first [] ys is = refl
nil_first (x ∷ xs) ys is = absurd cc

admits_stay : (b : BookView) (o : Option Admission) → Stays b (effects b (admits b o))
admits_stay b None = subst (λ (c : BookView). Stays b c) (sym (nothing_done b)) (stays_it b)
admits_stay b (Some x) = admission_stays b x

pub admitted_stay : (full : Bool) (b : BookView) (t : Trace) (e : Event) → Stays b (effects b (admitted_acts full b t e))
admitted_stay true b t e = subst (λ (c : BookView). Stays b c) (sym (nothing_done b)) (stays_it b)
admitted_stay false b t e = admits_stay b (event_admission b t e (event_answer false b t e))

pub all_stay : (b : BookView) (ds : List Decision) (numbers : List RowNumber) (x : Option TerminusAct) (admitted : List Act) → IsOrdered b → Stays b (effects b admitted)
    → Stays (effects b (settles b ds numbers)) (effects b (or_admits (settled_acts b ds numbers x) admitted))
all_stay b ds numbers x admitted ordered stay = by (settled_acts b ds numbers x) refl
  where
    between : BookView
    between = effects b (settles b ds numbers)

    by : (planned : List Act) → settled_acts b ds numbers x ≡ planned → Stays between (effects b (or_admits planned admitted))
    by [] is =
        let same : between ≡ b = ap (effects b) (nil_first (settles b ds numbers) (terminus_acts between x) is) ∙ nothing_done b in
        subst (λ (c : BookView). Stays c (effects b admitted)) (sym same) stay
    by (act ∷ acts) is =
        subst (λ (c : BookView). Stays between c) (sym (effects_more b (settles b ds numbers) (terminus_acts between x)) ∙ ap (effects b) is)
        (terminus_stays between x (ordered_after b (settles b ds numbers) ordered (settles_leave b ds numbers ordered.rows_rise).applies))

-- the facts after the acts of an event that isn't the start

abbrev pub IsPlanned : Bool → Trace → Event → Type 0
IsPlanned full t e = planned_acts full (book_in t) t e ≡ answer_acts (book_in t) t e (event_answer full (book_in t) t e)

-- the change of a delivery before the event's own changes leaves its producer
record Before (d e : Delivery) : Type 0 where
  settled : e.presettled ≡ d.presettled
  comes : (p : Origin) → source e ≡ Some p → source d ≡ Some p

facts_with : (full : Bool) (t : Trace) (e : Event) (g : Delivery → Delivery) → IsPlanned full t e → IsOrdered (book_in t) → ((d : Delivery) → Before d (g d))
    → ((n : ℕ) (d : Delivery) (r : RowNumber) → delivery t n ≡ Some d → d.name ≡ Row r → d.presettled ≡ false → (row : ARow) → row_at r.0 (book_in t).rows ≡ Some row → IsHeld t (book_in t) row d
    → Agrees t (book_in t) (decided_by (decided_in (book_in t) t e (event_answer full (book_in t) t e)) row) (changed_by (event_changes t e (event_answer full (book_in t) t e)) (g d)))
    → ((n : ℕ) (d : Delivery) (r : RowNumber) → delivery t n ≡ Some d → d.name ≡ Row r → IsFrom t (book_in t) (row_at r.0 (book_in t).rows) d
    → is_among r.0 (forgotten_at (book_in t) t e (event_answer full (book_in t) t e)) ≡ true → (p : Origin)
    → source (changed_by (event_changes t e (event_answer full (book_in t) t e)) (g d)) ≡ Some p → ⊥)
    → Facts t [] → FactsOf (Booked (event_acts full (book_in t) t e) (due t e) ∷ t) g (event_changes t e (event_answer full (book_in t) t e))
facts_with full t e g planned ordered before decides done was n d r there name =
    let fact : RowFact t b r d = was n d r there name in
    let leaves : Leaves (g d) after = leaves_by xs (g d) in
    let first : Agrees t b (settled ds numbers (row_at r.0 b.rows)) after =
    settle_step t b ds numbers r.0 (row_at r.0 b.rows) d after (λ p from. (before d).comes p (leaves.comes p from)) (numbered_in b r) (decides n d r there name fact.settled)
    (done n d r there name (is_from_one t b (row_at r.0 b.rows) d fact.agrees)) fact.agrees in
    let next : Agrees t between (settled ds numbers (row_at r.0 b.rows)) after =
    termini_step t b between (settled ds numbers (row_at r.0 b.rows)) after (ap (λ (x : BookView). x.termini) left.is) (ap (λ (x : BookView). x.next_terminus) left.is) first in
    let found : row_at r.0 between.rows ≡ settled ds numbers (row_at r.0 b.rows) = settled_row b ds numbers r.0 ordered in
    let low : r.0 < between.next_row = subst (λ (x : BookView). r.0 < x.next_row) (sym left.is) fact.known in
    record {
      settled = leaves.settled ∙ (before d).settled ∙ fact.settled;
      known = under r.0 between.next_row c.next_row low stays.next;
      agrees = subst (λ (v : Option ARow). Agrees (Booked acts (due t e) ∷ t) c v after) (sym (stays.rows r.0 low ∙ found))
          (book_step t acts (due t e) between c r.0 (settled ds numbers (row_at r.0 b.rows)) after found stays next);
    }
  where
    b : BookView
    b = book_in t

    answer : Answer
    answer = event_answer full b t e

    xs : List Change
    xs = event_changes t e answer

    after : Delivery
    after = changed_by xs (g d)

    ds : List Decision
    ds = decided_in b t e answer

    numbers : List RowNumber
    numbers = forgotten_at b t e answer

    between : BookView
    between = effects b (settles b ds numbers)

    left : Left b (settles b ds numbers) (rows_after ds numbers b.rows)
    left = settles_leave b ds numbers ordered.rows_rise

    acts : List Act
    acts = event_acts full b t e

    c : BookView
    c = effects b acts

    stays : Stays between c
    stays =
        subst (λ (ys : List Act). Stays between (effects b (or_admits ys (admitted_acts full b t e)))) (sym planned)
        (all_stay b ds numbers (terminus_of_event b t e answer) (admitted_acts full b t e) ordered (admitted_stay full b t e))

    under : (r k n : ℕ) → r < k → k ≤ n → r < n
    under r k n low most = omega (arith, low, most)

-- of an event whose item is no attach: its changes decide all that its acts do
facts_after : (full : Bool) (t : Trace) (e : Event) → IsPlanned full t e → map_decides (book_in t) t e (event_answer full (book_in t) t e) ≡ [] → Standing t → Owned t [] → IsOrdered (book_in t) → Facts t []
    → Facts (Booked (event_acts full (book_in t) t e) (due t e) ∷ t) (event_changes t e (event_answer full (book_in t) t e))
facts_after full t e planned unmapped standing owned ordered was =
    facts_with full t e (λ d. d) planned ordered (λ d. record { settled = refl; comes = λ p from. from }) decides
    (λ n d r there name from among. forgotten_is_done t b d r e answer standing (owned_one t owned) (event_unshared full b t e owned) ordered from among) was
  where
    b : BookView
    b = book_in t

    answer : Answer
    answer = event_answer full b t e

    xs : List Change
    xs = event_changes t e answer

    rows : List Decision
    rows = map as_kept (decided_rows t xs)

    decides : (n : ℕ) (d : Delivery) (r : RowNumber) → delivery t n ≡ Some d → d.name ≡ Row r → d.presettled ≡ false → (row : ARow) → row_at r.0 b.rows ≡ Some row → IsHeld t b row d
        → Agrees t b (decided_by (decided_in b t e answer) row) (changed_by xs d)
    decides n d r there name settled row found held =
        subst (λ (ds : List Decision). Agrees t b (decided_by ds row) (changed_by xs d)) (sym (append-nil rows) ∙ ap (λ (ms : List Decision). rows ++ ms) (sym unmapped))
        (decide_step t b rows r.0 row d (changed_by xs d) (leaves_by xs d) settled (numbered_in b r row found) (decided_of t n d r xs there name)
        (λ none. ended_by_all xs d (event_gives t e answer) (subst IsEnded (sym none) tt)) held)

-- Of one with an attach: its entry gives each delivery what its acts give its row, before its changes. So these decide no row any more.

one_given : (acts : List Act) (d : Delivery) (r : RowNumber) (v : Option DeliveryState) → d.name ≡ Row r → d.outcome ≡ None → outcome_among acts r ≡ v → (given acts d).outcome ≡ v
one_given acts d r v name none is =
    ap (λ (o : Option DeliveryState). outcome_or o (outcome_named acts d.name)) none ∙ ap (outcome_named acts) name ∙ is

none_given : (acts : List Act) (d : Delivery) (r : RowNumber) → d.name ≡ Row r → d.outcome ≡ None → outcome_among acts r ≡ None → given acts d ≡ d
none_given acts d r name none is = ap (λ (o : Option DeliveryState). record d { outcome = o }) (one_given acts d r None name none is ∙ sym none)

attach_step : (t : Trace) (b : BookView) (acts : List Act) (ds : List Decision) (xs : List Change) (r : RowNumber) (row : ARow) (d : Delivery) → d.name ≡ Row r → row.number.0 ≡ r.0
    → outcome_among acts r ≡ row_given ds (Some row) → (d.outcome ≡ None → outcome_for r.0 ds ≡ None → (changed_by xs d).outcome ≡ None)
    → IsHeld t b row d → Agrees t b (decided_by ds row) (changed_by xs (given acts d))
attach_step t b acts ds xs r row d name number gives quiet held = decided_row d.outcome refl
  where
    e : Delivery
    e = changed_by xs (given acts d)

    leaves : Leaves (given acts d) e
    leaves = leaves_by xs (given acts d)

    named : outcome_for row.number.0 ds ≡ outcome_for r.0 ds
    named = ap (λ (n : ℕ). outcome_for n ds) number

    stays : e.outcome ≡ d.outcome → Agrees t b (Some row) e
    stays same = record {
      outcome = subst (KeptAs row.outcome) (sym same) held.outcome;
      waits = λ q comes. held.waits q (leaves.comes q comes);
      from = λ q comes. held.from q (leaves.comes q comes);
      claimed = λ q comes. held.claimed q (leaves.comes q comes);
    }

    -- it is decided now
    now : (s : DeliveryState) → e.outcome ≡ Some (journal_outcome s) → Agrees t b (decided (journal_outcome s) row) e
    now s is = gone_or_not row.forgotten refl
      where
        gone_or_not : (f : Bool) → row.forgotten ≡ f → Agrees t b (if f then None else Some (record row { outcome = Some (journal_outcome s) })) e
        gone_or_not true f = λ p from. clash (sym (held.waits p (leaves.comes p from)) ∙ f)
        gone_or_not false f = record {
          outcome = inr (sym is);
          waits = λ q comes. f;
          from = λ q comes. held.from q (leaves.comes q comes);
          claimed = λ q comes. held.claimed q (leaves.comes q comes);
        }

    open_one : d.outcome ≡ None → row.outcome ≡ None → (o : Option DeliveryState) → outcome_for r.0 ds ≡ o → Agrees t b (decided_to o row) e
    open_one none open_row None is =
        let nothing : outcome_among acts r ≡ None =
        gives ∙ ap (λ (q : Bool). if q then option_map journal_outcome (outcome_for row.number.0 ds) else None) (ap is_none open_row) ∙ ap (option_map journal_outcome) (named ∙ is) in
        stays (ap (λ (x : Delivery). (changed_by xs x).outcome) (none_given acts d r name none nothing) ∙ quiet none is ∙ sym none)
    open_one none open_row (Some s) is =
        let something : outcome_among acts r ≡ Some (journal_outcome s) =
        gives ∙ ap (λ (q : Bool). if q then option_map journal_outcome (outcome_for row.number.0 ds) else None) (ap is_none open_row) ∙ ap (option_map journal_outcome) (named ∙ is) in
        now s (leaves.stays (journal_outcome s) (one_given acts d r (Some (journal_outcome s)) name none something))

    decided_row : (o : Option DeliveryState) → d.outcome ≡ o → Agrees t b (decided_by ds row) e
    decided_row (Some s) is =
        subst (λ (q : Bool). Agrees t b (if q then decided_to (outcome_for row.number.0 ds) row else Some row) e) (sym (kept_some row.outcome d.outcome s held.outcome is))
        (stays (leaves.stays s (ap (λ (o : Option DeliveryState). outcome_or o (outcome_named acts d.name)) is) ∙ sym is))
    decided_row None is =
        let open_row : row.outcome ≡ None = kept_none row.outcome d.outcome held.outcome is in
        subst (λ (q : Bool). Agrees t b (if q then decided_to (outcome_for row.number.0 ds) row else Some row) e) (sym (ap is_none open_row))
        (subst (λ (o : Option DeliveryState). Agrees t b (decided_to o row) e) (sym named) (open_one is open_row (outcome_for r.0 ds) refl))

-- changes that decide nothing leave an undecided delivery so
stays_open : (xs : List Change) (d : Delivery) → d.presettled ≡ false → d.outcome ≡ None → option_map kept_outcome (if is_undecided d then (changed_by xs d).outcome else None) ≡ None
    → (changed_by xs d).outcome ≡ None
stays_open xs d settled none is = by (is_undecided d) refl is
  where
    mapped : (o : Option DeliveryState) → option_map kept_outcome o ≡ None → o ≡ None
    mapped None is = refl
    mapped (Some s) is = absurd (none_not_some (sym is))

    asleep : (q : Bool) → d.suspended ≡ q → is_undecided d ≡ false → (changed_by xs d).outcome ≡ None
    asleep true f not_open = ((leaves_by xs d).sleeps none f).0
    asleep false f not_open = absurd (clash (sym not_open ∙ (let open_now : is_undecided d ≡ true = rw (none, settled, f) refl in open_now)))

    by : (u : Bool) → is_undecided d ≡ u → option_map kept_outcome (if u then (changed_by xs d).outcome else None) ≡ None → (changed_by xs d).outcome ≡ None
    by true open_now is = mapped (changed_by xs d).outcome is
    by false not_open is = asleep d.suspended refl not_open

attach_facts : (full : Bool) (t : Trace) (c : ConnectionId) (channel : ℕ) (a : AnAttach) (payload : List ℕ) → Standing t → IsOrdered (book_in t) → Facts t []
    → FactsOf (Booked (event_acts full (book_in t) t (event.Item c (item.Frame false channel (perf.Attach a) payload))) (due t (event.Item c (item.Frame false channel (perf.Attach a) payload))) ∷ t)
    (given (event_acts full (book_in t) t (event.Item c (item.Frame false channel (perf.Attach a) payload))))
    (event_changes t (event.Item c (item.Frame false channel (perf.Attach a) payload)) (event_answer full (book_in t) t (event.Item c (item.Frame false channel (perf.Attach a) payload))))
attach_facts full t c channel a payload standing ordered was =
    facts_with full t e (given acts) refl ordered (λ d. record { settled = refl; comes = λ p from. from }) decides done was
  where
    i : Item
    i = item.Frame false channel (perf.Attach a) payload

    e : Event
    e = event.Item c i

    b : BookView
    b = book_in t

    acts : List Act
    acts = event_acts full b t e

    answer : Answer
    answer = event_answer full b t e

    xs : List Change
    xs = event_changes t e answer

    rows : List Decision
    rows = map as_kept (decided_rows t xs)

    told : List Decision
    told = map_decides b t e answer

    ds : List Decision
    ds = rows ++ told

    numbers : List RowNumber
    numbers = forgotten_at b t e answer

    gives : (r : RowNumber) (row : ARow) → row_at r.0 b.rows ≡ Some row → outcome_among acts r ≡ row_given ds (Some row)
    gives r row found = acts_give full b t e ds numbers (terminus_of_event b t e answer) r refl ordered ∙ ap (row_given ds) found

    decides : (n : ℕ) (d : Delivery) (r : RowNumber) → delivery t n ≡ Some d → d.name ≡ Row r → d.presettled ≡ false → (row : ARow) → row_at r.0 b.rows ≡ Some row → IsHeld t b row d
        → Agrees t b (decided_by ds row) (changed_by xs (given acts d))
    decides n d r there name settled row found held =
        attach_step t b acts ds xs r row d name (numbered_in b r row found) (gives r row found)
        (λ none is. stays_open xs d settled none (sym (decided_of t n d r xs there name) ∙ none_for r.0 rows told is)) held

    done : (n : ℕ) (d : Delivery) (r : RowNumber) → delivery t n ≡ Some d → d.name ≡ Row r → IsFrom t b (row_at r.0 b.rows) d → is_among r.0 numbers ≡ true → (p : Origin)
        → source (changed_by xs (given acts d)) ≡ Some p → ⊥
    done n d r there name from among p comes =
        resumed_is_done t b (given acts d) r c.0 channel false a payload answer (map lost (due t e)) standing ordered (still (row_at r.0 b.rows) from) among p comes
      where
        still : (v : Option ARow) → IsFrom t b v d → IsFrom t b v (given acts d)
        still None is = tt
        still (Some row) is = is

-- what is there of a row after the acts has the outcome that it had, or that they give
row_by : (ds : List Decision) (numbers : List RowNumber) (row now : ARow) → settled ds numbers (Some row) ≡ Some now → now.outcome ≡ outcome_or row.outcome (row_given ds (Some row))
row_by ds numbers row now is = by row.outcome refl
  where
    Is : Option ARow → Option DeliveryState → Type 0
    Is v o = option_and_then (forgotten_by numbers) v ≡ Some now → now.outcome ≡ o

    forgets : (x : ARow) → Is (Some x) x.outcome
    forgets x made = on (not x.forgotten && is_among x.number.0 numbers) (is_some x.outcome) made
      where
        on : (f g : Bool) → (if f then (if g then None else Some (record x { forgotten = true })) else Some x) ≡ Some now → now.outcome ≡ x.outcome
        on true true made = absurd (none_not_some made)
        on true false made = ap (λ (y : ARow). y.outcome) (sym (some_same made))
        on false g made = ap (λ (y : ARow). y.outcome) (sym (some_same made))

    decides : (s : DeliveryState) → Is (decided s row) (Some s)
    decides s made = on row.forgotten made
      where
        on : (f : Bool) → Is (if f then None else Some (record row { outcome = Some s })) (Some s)
        on true made = absurd (none_not_some made)
        on false made = forgets (record row { outcome = Some s }) made

    opened : (o : Option DeliveryState) → row.outcome ≡ None → Is (decided_to o row) (option_map journal_outcome o)
    opened None none made = forgets row made ∙ none
    opened (Some s) none made = decides (journal_outcome s) made

    by : (o : Option DeliveryState) → row.outcome ≡ o → now.outcome ≡ outcome_or row.outcome (row_given ds (Some row))
    by (Some s) had =
        forgets row (ap (λ (q : Bool). option_and_then (forgotten_by numbers) (if q then decided_to (outcome_for row.number.0 ds) row else Some row)) (sym (ap is_none had)) ∙ is)
        ∙ had ∙ ap (λ (o : Option DeliveryState). outcome_or o (row_given ds (Some row))) (sym had)
    by None none =
        opened (outcome_for row.number.0 ds) none
        (ap (λ (q : Bool). option_and_then (forgotten_by numbers) (if q then decided_to (outcome_for row.number.0 ds) row else Some row)) (sym (ap is_none none)) ∙ is)
        ∙ ap (λ (q : Bool). if q then option_map journal_outcome (outcome_for row.number.0 ds) else None) (sym (ap is_none none))
        ∙ ap (λ (o : Option DeliveryState). outcome_or o (row_given ds (Some row))) (sym none)

pub record RowAfter (b c : BookView) (acts : List Act) (r : RowNumber) (row : ARow) : Type 0 where
  pub known : r.0 < c.next_row
  pub outcome : (now : ARow) → row_at r.0 c.rows ≡ Some now → now.outcome ≡ outcome_or row.outcome (outcome_among acts r)

pub row_after : (full : Bool) (t : Trace) (e : Event) (r : RowNumber) (row : ARow) → IsPlanned full t e → IsOrdered (book_in t) → row_at r.0 (book_in t).rows ≡ Some row
    → RowAfter (book_in t) (effects (book_in t) (event_acts full (book_in t) t e)) (event_acts full (book_in t) t e) r row
row_after full t e r row planned ordered there = record {
  known = under r.0 between.next_row c.next_row low stays.next;
  outcome = λ now is.
      row_by ds numbers row now (ap (settled ds numbers) (sym there) ∙ sym (settled_row b ds numbers r.0 ordered) ∙ sym (stays.rows r.0 low) ∙ is)
      ∙ ap (outcome_or row.outcome) (sym (acts_give full b t e ds numbers (terminus_of_event b t e answer) r planned ordered ∙ ap (row_given ds) there));
}
  where
    b : BookView
    b = book_in t

    answer : Answer
    answer = event_answer full b t e

    ds : List Decision
    ds = decided_in b t e answer

    numbers : List RowNumber
    numbers = forgotten_at b t e answer

    between : BookView
    between = effects b (settles b ds numbers)

    left : Left b (settles b ds numbers) (rows_after ds numbers b.rows)
    left = settles_leave b ds numbers ordered.rows_rise

    c : BookView
    c = effects b (event_acts full b t e)

    stays : Stays between c
    stays =
        subst (λ (ys : List Act). Stays between (effects b (or_admits ys (admitted_acts full b t e)))) (sym planned)
        (all_stay b ds numbers (terminus_of_event b t e answer) (admitted_acts full b t e) ordered (admitted_stay full b t e))

    low : r.0 < between.next_row
    low = subst (λ (x : BookView). r.0 < x.next_row) (sym left.is) (found_below r.0 b.next_row b.rows row ordered.rows_below there)

    under : (r k n : ℕ) → r < k → k ≤ n → r < n
    under r k n low most = omega (arith, low, most)

-- the book's numbers go on rising

admits_apply : (b : BookView) (o : Option Admission) → first_fault b (admits b o) ≡ None
unfolding first_fault
admits_apply b None = refl
admits_apply b (Some x) = admission_applies b x

admitted_apply : (full : Bool) (b : BookView) (t : Trace) (e : Event) → first_fault b (admitted_acts full b t e) ≡ None
unfolding first_fault
admitted_apply true b t e = refl
admitted_apply false b t e = admits_apply b (event_admission b t e (event_answer false b t e))

planned_apply : (full : Bool) (b : BookView) (t : Trace) (e : Event) → IsOrdered b → first_fault b (planned_acts full b t e) ≡ None
planned_apply full b t event.Start ordered = start_applies b ordered.rows_rise
planned_apply full b t e ordered =
    settled_apply b (decided_in b t e (event_answer full b t e)) (forgotten_at b t e (event_answer full b t e)) (terminus_of_event b t e (event_answer full b t e)) ordered

pub acts_apply : (t : Trace) (e : Event) → IsOrdered (book_in t) → first_fault (book_in t) (acts_of t e) ≡ None
acts_apply t e ordered = by (planned_acts full (book_in t) t e) (planned_apply full (book_in t) t e ordered)
  where
    full : Bool
    full = finds_full (journaled t) t e

    by : (planned : List Act) → first_fault (book_in t) planned ≡ None → first_fault (book_in t) (or_admits planned (admitted_acts full (book_in t) t e)) ≡ None
    by [] applies = admitted_apply full (book_in t) t e
    by (act ∷ acts) applies = applies

pub ordered_acts : (t : Trace) (e : Event) → IsOrdered (book_in t) → IsOrdered (book_in (Booked (acts_of t e) (due t e) ∷ t))
ordered_acts t e ordered = ordered_after (book_in t) (acts_of t e) ordered (acts_apply t e ordered)

-- the answer that an event gets, and the changes that it brings
abbrev pub answer_for : Trace → Event → Answer
answer_for t e = event_answer (finds_full (journaled t) t e) (book_in t) t e

abbrev pub changes_of : Trace → Event → List Change
changes_of t e = event_changes t e (answer_for t e)

-- a frame of SASL is no attach that is taken
sasl_decides : (full : Bool) (t : Trace) (c : ConnectionId) (channel : ℕ) (body : Perf) (payload : List ℕ)
    → map_decides (book_in t) t (event.Item c (item.Frame true channel body payload)) (event_answer full (book_in t) t (event.Item c (item.Frame true channel body payload))) ≡ []
sasl_decides full t c channel (perf.Attach a) payload = by (standing (found t e c.0))
  where
    e : Event
    e = event.Item c (item.Frame true channel (perf.Attach a) payload)

    nothing : (q : Bool) → decided_for (book_in t) (Some a) (if q then None else None) ≡ []
    nothing true = refl
    nothing false = refl

    by : (v : Option Conn) → map_decides (book_in t) t e (live_answer full (book_in t) t c.0 (item.Frame true channel (perf.Attach a) payload) v) ≡ []
    by None = nothing (receives a.role)
    by (Some p) = nothing (receives a.role)
sasl_decides full t c channel body payload = refl

pub booked_facts : (t : Trace) (e : Event) → Standing t → Owned t [] → IsOrdered (book_in t) → (e ≡ event.Start → (n : ℕ) → delivery t n ≡ None) → Facts t []
    → FactsOf (Booked (acts_of t e) (due t e) ∷ t) (gives e (acts_of t e)) (changes_of t e)
booked_facts t event.Start standing owned ordered none was = λ n d r there name. absurd (none_not_some (sym (none refl n) ∙ there))
booked_facts t (event.Item c (item.Frame true channel body payload)) standing owned ordered none was =
    facts_after (finds_full (journaled t) t (event.Item c (item.Frame true channel body payload))) t (event.Item c (item.Frame true channel body payload)) refl
    (sasl_decides (finds_full (journaled t) t (event.Item c (item.Frame true channel body payload))) t c channel body payload) standing owned ordered was
booked_facts t (event.Item c (item.Frame false channel (perf.Attach a) payload)) standing owned ordered none was =
    attach_facts (finds_full (journaled t) t (event.Item c (item.Frame false channel (perf.Attach a) payload))) t c channel a payload standing ordered was
booked_facts t (event.Item c (item.Frame false channel body payload)) standing owned ordered none was =
    facts_after (finds_full (journaled t) t (event.Item c (item.Frame false channel body payload))) t (event.Item c (item.Frame false channel body payload)) refl refl standing owned ordered was
booked_facts t (event.Item c i) standing owned ordered none was = facts_after (finds_full (journaled t) t (event.Item c i)) t (event.Item c i) refl refl standing owned ordered was
booked_facts t (event.Up c p) standing owned ordered none was = facts_after (finds_full (journaled t) t (event.Up c p)) t (event.Up c p) refl refl standing owned ordered was
booked_facts t (event.Down c) standing owned ordered none was = facts_after (finds_full (journaled t) t (event.Down c)) t (event.Down c) refl refl standing owned ordered was
booked_facts t (event.Tick ms) standing owned ordered none was = facts_after (finds_full (journaled t) t (event.Tick ms)) t (event.Tick ms) refl refl standing owned ordered was
