-- Over every list of runs whose frames were encoded, the row of a delivery has the very outcome that its producer is told.
use Rattle.std.proofs.Common.{◌≡◌, ◌∙◌, sym, ap, refl, subst, ◌⊎◌, inl, inr, ℕ, Bool, true, false, List, [], ◌∷◌, ◌++◌}
use Rattle.std.specs.Prelude.{Option, Some, None, option_map, IsSomeAnd, if◌then◌else◌}
use Rattle.amqp_model.specs.declared.item.Item.{Item}
use Rattle.amqp_model.specs.declared.item.Item.TheVariants as item
use Rattle.amqp_model.specs.declared.perf.Attach.{Attach as AnAttach}
use Rattle.amqp_model.specs.declared.perf.Disposition.{Disposition}
use Rattle.amqp_model.specs.declared.perf.Perf.TheVariants as perf
use Rattle.amqp_model.specs.declared.perf.Role.{Role}
use Rattle.amqp_model.specs.declared.perf.Role.TheVariants.{Sender, Receiver}
use Rattle.amqp_model.specs.declared.state.DeliveryState.{DeliveryState}
use Rattle.amqp_model.specs.declared.state.UnsettledDelivery.{UnsettledDelivery}
use Rattle.book_model.specs.declared.row.Row.{Row as ARow}
use Rattle.book_model.specs.Book.{BookView, row_at, same_bytes}
use Rattle.journal_codec.specs.Batches.{IsTerminal}
use Rattle.journal_store.specs.Acting.{journal_outcome}
use Rattle.router_trace.specs.declared.binding.Binding.{Binding}
use Rattle.router_trace.specs.declared.binding.BindingKind.{BindingKind}
use Rattle.router_trace.specs.declared.binding.BindingKind.TheVariants as kind
use Rattle.router_trace.specs.declared.binding.DeliveryName.{DeliveryName}
use Rattle.router_trace.specs.declared.binding.DeliveryName.TheVariants.{Row, Counter}
use Rattle.router_trace.specs.declared.binding.Holding.{Holding}
use Rattle.router_trace.specs.declared.binding.Holding.TheVariants as holding
use Rattle.router_trace.specs.declared.condition.Condition.TheVariants.{ResourceLimitExceeded}
use Rattle.router_trace.specs.declared.event.Event.{Event}
use Rattle.router_trace.specs.declared.event.Event.TheVariants as event
use Rattle.router_trace.specs.Configuration.{opened}
use Rattle.router_trace.specs.Connection.{conn, due}
use Rattle.router_trace.specs.Deliveries.{Delivery, acts_found, outcome_held, outcome_in, joined_by, joined_to, called, terminal, decision, failed}
use Rattle.router_trace.specs.DeliveryFrames.{kept_outcome}
use Rattle.router_trace.specs.Trace.{Beginning, Entry, Trace, Did, Out, Took, Bound, Booked, Routed, Began, Put, Step, step_of, goes, puts, each_to}
use Rattle.state_messages.specs.Messages.{copy_to, with_bound}
use Rattle.resume_core.specs.Resuming.{entries_of, told_in, told_of, outcome_told, outcome_given, either_outcome, row_tag}
use Rattle.reply_rows.specs.Acts.{acts_of, book_found, book_in, booked}
use Rattle.reply_rows.specs.Asking.{attach_in}
use Rattle.router_reply.specs.Replies.{closing_of, ends, heard, bound_by, own_row, replied}
use Rattle.router_reply.specs.Resuming.{resumed}
use Rattle.core_machine.specs.Moves.{Move, handles, takes, took_one}
use Rattle.router_core.specs.Moves.{Goes}
use Rattle.router_core.specs.Replies.{handled}
use Rattle.router_core.proofs.Booking.{booked_keeps}
use Rattle.router_core.proofs.Copied.{copies_keep}
use Rattle.router_core.proofs.Following.{all_keep}
use Rattle.theorems.specs.AsTold.{HasEntry, IsEncoded, IsKeptAsTold, EventIsEncoded, FramesAreEncoded, RowHas, role_is_in_row, OutcomeIsInRow, RowsHaveWhatIsTold}
use Rattle.theorems.specs.Came.{last_found, HoldsRow, SettlesRow, TakesUp, BindsAs}
use Rattle.theorems.specs.Decided.{given_by_consumer, given_by_attach, link_lost, link_ended, sent_settled, DecidesFound, IsFoundByConsumer, DecidedByConsumer}
use Rattle.theorems.specs.Each.{EachOut}
use Rattle.theorems.specs.Kept.{IsDecidedAs, RowIsDecided, OutcomeIsKept, role_is_decided}
use Rattle.theorems.specs.Lives.{InLives, InSmallLives}
use Rattle.theorems.specs.Told.{TellsOutcome}
use Rattle.theorems.proofs.Accepting.{terminal_is}
use Rattle.theorems.proofs.AcceptedFirst.{row_there}
use Rattle.theorems.proofs.Admitted.{is_taken_up, bound_not_taken}
use Rattle.theorems.proofs.AllSound.{acted_sound, event_binds, handled_sound, moves_sound}
use Rattle.theorems.proofs.Among.{Stands, stands_after}
use Rattle.theorems.proofs.AsTold.{sendable_kept}
use Rattle.theorems.proofs.Forms.{IsForm, form_told, failed_form, DecideForms, acts_form, given_form, AreForms, book_forms}
use Rattle.theorems.proofs.KeptForm.{kept_again}
use Rattle.theorems.proofs.Lives.{lives_keep, lives_outcomes}
use Rattle.theorems.proofs.Locked.{goes as led_by}
use Rattle.theorems.proofs.Resumed.{Brought, resumed_takes, replied_book, replied_found}
use Rattle.theorems.proofs.Rows.{Rows, no_rows, opened_rows, took_rows, handled_rows, moves_rows, cut_rows}
use Rattle.theorems.proofs.Sound.{Sound, none_sound, opened_sound, did_sound, batch_sound, took_sound}
use Rattle.theorems.proofs.Tests.{none_not_some, some_same}

-- What holds over a trace and over each one before it.

abbrev AtAll : (Trace → Type 0) → Trace → Type 0
AtAll P [] = P []
AtAll P (x ∷ t) = P (x ∷ t) × AtAll P t

at_head : (P : Trace → Type 0) (t : Trace) → AtAll P t → P t
at_head P [] all = all
at_head P (x ∷ t) all = all.0

at_end : (P : Trace → Type 0) (later t : Trace) → AtAll P (later ++ t) → AtAll P t
at_end P [] t all = all
at_end P (x ∷ later) t all = at_end P later t all.1

frames_end : (later t : Trace) → FramesAreEncoded (later ++ t) → FramesAreEncoded t
frames_end [] t encoded = encoded
frames_end (Did s ∷ later) t encoded = frames_end later t encoded.1
frames_end (Out c i ∷ later) t encoded = frames_end later t encoded
frames_end (Took c n ∷ later) t encoded = frames_end later t encoded
frames_end (Bound b ∷ later) t encoded = frames_end later t encoded
frames_end (Booked acts full ∷ later) t encoded = frames_end later t encoded
frames_end (Routed passage ∷ later) t encoded = frames_end later t encoded
frames_end (Began g ∷ later) t encoded = frames_end later t encoded

-- What a binding brings, the journal has as it is told.
abbrev BoundTold : Trace → Type 0
BoundTold (Bound b ∷ t) = (s : DeliveryState) → outcome_in b.kind ≡ Some s → IsKeptAsTold s
BoundTold _ = Unit {0}

record Kept (t : Trace) : Type 0 where
  rows : AreForms (book_in t).rows
  acts : DecideForms (acts_found t)
  bound : FramesAreEncoded t → BoundTold t

abbrev AllKept : Trace → Type 0
AllKept t = AtAll Kept t

abbrev rows_kept : (t : Trace) → AllKept t → AreForms (book_in t).rows
rows_kept t was = (at_head Kept t was).rows

did_kept : (s : Step) (t : Trace) → AllKept t → AllKept (Did s ∷ t)
did_kept s t was = (record { rows = rows_kept t was; acts = λ d is. absurd is; bound = λ encoded. tt }, was)

out_kept : (c : ℕ) (i : Item) (t : Trace) → AllKept t → AllKept (Out c i ∷ t)
out_kept c i t was = (record { rows = rows_kept t was; acts = λ d is. absurd is; bound = λ encoded. tt }, was)

took_kept : (c n : ℕ) (t : Trace) → AllKept t → AllKept (Took c n ∷ t)
took_kept c n t was = (record { rows = rows_kept t was; acts = (at_head Kept t was).acts; bound = λ encoded. tt }, was)

booked_kept : (t : Trace) (e : Event) → AllKept t → AllKept (booked t e)
booked_kept t e was = (record { rows = book_forms (acts_of t e) (book_in t) (acts_form t e) (rows_kept t was); acts = acts_form t e; bound = λ encoded. tt }, was)

bound_kept : (b : Binding) (t : Trace) → (FramesAreEncoded t → BoundTold (Bound b ∷ t)) → AllKept t → AllKept (Bound b ∷ t)
bound_kept b t told was = (record { rows = rows_kept t was; acts = λ d is. absurd is; bound = told }, was)

began_kept : (g : Beginning) (below : Trace) → g.book ≡ book_in below → AllKept below → AllKept (opened g below)
began_kept g below book was =
    (record { rows = subst (λ (b : BookView). AreForms b.rows) (sym book) (rows_kept below was); acts = λ d is. absurd is; bound = λ encoded. tt }, was)

-- An event, with what follows it: its frame was encoded.

abbrev During : Step → Trace → Type 0
During s u = AllKept u × (FramesAreEncoded u → EventIsEncoded s.event)

goes_during : (s : Step) (ps : List Put) (u : Trace) → During s u → During s (goes ps u)
goes_during s [] u was = was
goes_during s (p ∷ ps) u was = goes_during s ps (Out p.conn p.item ∷ u) (out_kept p.conn p.item u was.0, was.1)

ends_during : (s : Step) (id : List ℕ) (cs : List ℕ) (u : Trace) → During s u → During s (ends id cs u)
ends_during s id [] u was = was
ends_during s id (c ∷ cs) u was =
    let items : List Item = closing_of id (conn u c) ResourceLimitExceeded in
    ends_during s id cs (puts c items u) (goes_during s (each_to c items) u was)

clash : true ≡ false → ⊥
clash e = cc

-- a row that is joined to its producer's link has its outcome from the book
held_known : (q : Holding) (d : Option Delivery) (o : Option DeliveryState) (s : DeliveryState) → outcome_held q (joined_to d o) ≡ Some s → o ≡ Some s
held_known (holding.Resumed p) None o s is = is
held_known (holding.Resumed p) (Some d) o s is = absurd (none_not_some is)
held_known (holding.Unresumed a) None o s is = is
held_known (holding.Unresumed a) (Some d) o s is = absurd (none_not_some is)
held_known (holding.Settled a) d o s is = absurd (none_not_some is)

joined_told : (u : Trace) (b : Binding) (q : Holding) (row : ARow) (s : DeliveryState) → AreForms (book_in u).rows → (earlier later : List ARow) → (book_in u).rows ≡ earlier ++ row ∷ later
    → b ≡ joined_by u q row.number row.outcome → outcome_in b.kind ≡ Some s → IsKeptAsTold s
joined_told u b q row s forms earlier later kept joins is =
    let there : Stands ARow row (book_in u).rows = subst (λ (rows : List ARow). Stands ARow row rows) (sym kept) (stands_after ARow row earlier later) in
    form_told s (forms row there s (held_known q (called u (Row row.number)) row.outcome s (ap (λ (x : Binding). outcome_in x.kind) (sym joins) ∙ is)))

-- one that is settled there has none
held_told : (u : Trace) (b : Binding) (q : Holding) → AreForms (book_in u).rows → HoldsRow u b q ⊎ SettlesRow u b q → (s : DeliveryState) → outcome_in b.kind ≡ Some s → IsKeptAsTold s
held_told u b q forms (inl holds) s is = joined_told u b q holds.row s forms holds.earlier holds.later holds.kept holds.holds is
held_told u b q forms (inr settles) s is =
    absurd (none_not_some (held_known q (called u (Row settles.row)) None s (ap (λ (x : Binding). outcome_in x.kind) (sym settles.settles) ∙ is)))

fresh_told : (u : Trace) (b : Binding) → AreForms (book_in u).rows → BindsAs b.kind u b → is_taken_up b.kind ≡ false → (s : DeliveryState) → outcome_in b.kind ≡ Some s → IsKeptAsTold s
fresh_told u b forms binds not_taken s is = by b.kind refl binds is
  where
    by : (k : BindingKind) → b.kind ≡ k → BindsAs k u b → outcome_in k ≡ Some s → IsKeptAsTold s
    by (kind.Message origin) at binds is = absurd (none_not_some is)
    by (kind.TakenUp brought) at binds is = absurd (clash (sym (ap is_taken_up at) ∙ not_taken))
    by (kind.Joined (holding.Resumed p) to) at joins is =
        joined_told u b (holding.Resumed p) joins.row s forms joins.earlier joins.later joins.kept joins.joins (ap outcome_in at ∙ is)
    by (kind.Joined (holding.Unresumed a) to) at binds is = held_told u b (holding.Unresumed a) forms binds s (ap outcome_in at ∙ is)
    by (kind.Joined (holding.Settled a) to) at binds is = held_told u b (holding.Settled a) forms binds s (ap outcome_in at ∙ is)

bind_during : (s : Step) (b : Option Binding) (u : Trace) → ((x : Binding) → b ≡ Some x → BindsAs x.kind u x × (is_taken_up x.kind ≡ false)) → During s u → During s (with_bound b u)
bind_during s None u fresh was = was
bind_during s (Some b) u fresh was =
    let new = fresh b refl in
    (bound_kept b u (λ encoded. fresh_told u b (rows_kept u was.0) new.0 new.1) was.0, was.1)

-- what the map of an attach gives a row, its frame has

entry_has : (theirs : List UnsettledDelivery) (tag : List ℕ) (entry : UnsettledDelivery) (s : DeliveryState) → told_in theirs tag ≡ Some entry → entry.state ≡ Some s → HasEntry theirs s
entry_has [] tag entry s found has = absurd (none_not_some found)
entry_has (u ∷ us) tag entry s found has = by (same_bytes u.tag.items tag) found (λ later. entry_has us tag entry s later has)
  where
    by : (q : Bool) → (if q then Some u else told_in us tag) ≡ Some entry → (told_in us tag ≡ Some entry → HasEntry us s) → HasEntry (u ∷ us) s
    by true found more = inl (ap (λ (x : UnsettledDelivery). x.state) (some_same found) ∙ has)
    by false found more = inr (more found)

record OfMap (unsettled : Option (List UnsettledDelivery)) (s : DeliveryState) : Type 0 where
  of : DeliveryState
  is : s ≡ kept_outcome of
  terminal : IsTerminal of
  has : IsSomeAnd unsettled (λ us. HasEntry us of)

map_gives : (unsettled : Option (List UnsettledDelivery)) (row : ARow) (s : DeliveryState) → option_map kept_outcome (outcome_told (told_of (entries_of unsettled) row)) ≡ Some s → OfMap unsettled s
map_gives None row s is = absurd (none_not_some is)
map_gives (Some us) row s is = by (told_of us row) refl is
  where
    by_state : (entry : UnsettledDelivery) → told_of us row ≡ Some entry → (v : Option DeliveryState) → terminal entry.state ≡ v → option_map kept_outcome v ≡ Some s → OfMap (Some us) s
    by_state entry told None e h = absurd (none_not_some h)
    by_state entry told (Some x) e h =
        let ends = terminal_is entry.state x e in
        record { of = x; is = sym (some_same h); terminal = ends.0; has = entry_has us (row_tag row) entry x told ends.1 }

    by : (v : Option UnsettledDelivery) → told_of us row ≡ v → option_map kept_outcome (outcome_told v) ≡ Some s → OfMap (Some us) s
    by None told h = absurd (none_not_some h)
    by (Some entry) told h = by_state entry told (terminal entry.state) refl h

attach_encoded : (e : Event) (a : AnAttach) → attach_in e ≡ Some a → EventIsEncoded e → IsEncoded (perf.Attach a)
attach_encoded (event.Item c (item.Frame sasl channel (perf.Attach x) payload)) a is encoded = subst (λ (y : AnAttach). IsEncoded (perf.Attach y)) (some_same is) encoded
attach_encoded (event.Item c _) a is encoded = absurd (none_not_some is)
attach_encoded _ a is encoded = absurd (none_not_some is)

map_told : (a : AnAttach) (row : ARow) (s : DeliveryState) → IsEncoded (perf.Attach a) → option_map kept_outcome (outcome_told (told_of (entries_of a.unsettled) row)) ≡ Some s → IsKeptAsTold s
map_told a row s encoded is =
    let map = map_gives a.unsettled row s is in
    let kept : IsKeptAsTold map.of = sendable_kept map.of (record { body = perf.Attach a; encoded = encoded; gives = map.has; terminal = map.terminal }) in
    subst IsKeptAsTold (sym map.is) (ap journal_outcome (kept_again map.of) ∙ kept ∙ sym (kept_again map.of))

-- a row that is taken up has its outcome from the book that the attach found, or from the attach's map
taken_told : (a : AnAttach) (row : ARow) (s : DeliveryState) → ((y : DeliveryState) → row.outcome ≡ Some y → IsForm y) → IsEncoded (perf.Attach a)
    → either_outcome row.outcome (outcome_given (told_of (entries_of a.unsettled) row) row.outcome) ≡ Some s → IsKeptAsTold s
taken_told a row s form encoded is = by row.outcome refl is
  where
    by : (o : Option DeliveryState) → row.outcome ≡ o → either_outcome o (outcome_given (told_of (entries_of a.unsettled) row) o) ≡ Some s → IsKeptAsTold s
    by (Some y) at is = form_told s (form s (at ∙ is))
    by None at is = map_told a row s encoded is

takes_told : (id : List ℕ) (t : Trace) (s : Step) (u : Trace) (b : Binding) (up : TakesUp u b) → AreForms (book_in t).rows → Brought (booked t s.event) s.event (replied id (booked t s.event) s) u b up
    → EventIsEncoded s.event → BoundTold (Bound b ∷ u)
takes_told id t s u b up forms known encoded x is =
    let found : book_found (last_found u) ≡ book_in t = ap book_found known.found_at in
    let there : Stands ARow up.row (book_in t).rows =
    subst (λ (rows : List ARow). Stands ARow up.row rows) (sym up.kept ∙ ap (λ (c : BookView). c.rows) found) (stands_after ARow up.row up.earlier up.later) in
    taken_told known.attach up.row x (forms up.row there) (attach_encoded s.event known.attach known.came encoded)
    (sym known.gets ∙ ap outcome_in (sym up.taken) ∙ is)

handled_kept : (id : List ℕ) (t : Trace) (s : Step) → Sound (booked t s.event) → AllKept t → AllKept (handled id t s)
handled_kept id t s sound was = (all_keep (During s) (goes_during s) (resumed at e (replied id at s)) taken).0
  where
    e : Event
    e = s.event

    at : Trace
    at = booked t e

    u : Trace
    u = heard id at s

    came : During s u
    came = ends_during s id (due t e) (Did s ∷ at) (did_kept s at (booked_kept t e was), λ encoded. encoded.0)

    rows : During s (replied id at s)
    rows = copies_keep (During s)
        (λ v format payload a held. (bound_kept (copy_to v format payload a) v (λ encoded o is. absurd (none_not_some is)) held.0, held.1)) at u e
        (goes (own_row id at u e) (with_bound (bound_by at u e) u))
        (goes_during s (own_row id at u e) (with_bound (bound_by at u e) u)
        (bind_during s (bound_by at u e) u (λ x is. (event_binds id at s x sound is, bound_not_taken id t e x is)) came))

    taken : During s (resumed at e (replied id at s))
    taken = resumed_takes (During s) at e (replied id at s)
        (λ v b takes known held. (bound_kept b v (λ encoded. takes_told id t s v b takes (rows_kept t was) known (held.1 encoded)) held.0, held.1))
        (λ v b q to is quiet binds book held. (bound_kept b v (λ encoded. held_told v b q (rows_kept v held.0) binds) held.0, held.1)) (replied_found id at s) (replied_book id at s) rows

moves_kept : (id : List ℕ) (ms : List Move) (t u : Trace) → Rows t → Sound t → AllKept t → Goes id ms t u → AllKept u
moves_kept id [] t u rows sound was went = subst AllKept (sym went) was
moves_kept id (handles s ∷ ms) t u rows sound was went =
    moves_kept id ms (handled id t s) u (handled_rows id t s rows) (handled_sound id t s rows sound) (handled_kept id t s (acted_sound t s.event sound) was) went.1
moves_kept id (takes x ∷ ms) t u rows sound was went = moves_kept id ms (took_one x t) u (took_rows _ _ t rows) (took_sound _ _ t sound) (took_kept _ _ t was) went

-- (what the pass over moves carries)
abbrev Passed : Trace → Type 0
Passed t = Rows t × Sound t × AllKept t

lives_all : InLives Passed
lives_all =
    lives_keep Passed (λ g below book was. (opened_rows g below book was.0, opened_sound g below was.1, began_kept g below book was.2))
    (λ id ms t u was went. let led = led_by id ms t u went in
    (moves_rows id ms t u was.0 led, moves_sound id ms t u was.0 was.1 led, moves_kept id ms t u was.0 was.1 was.2 led))
    (λ t e was. (cut_rows t e was.0, did_sound (step_of e) (booked t e) (booked_keeps Sound t e (λ acts w. batch_sound t acts w) was.1), did_kept (step_of e) (booked t e) (booked_kept t e was.2)))
    (no_rows, none_sound, record { rows = λ r is. absurd is; acts = λ d is. absurd is; bound = λ encoded. tt })

-- What a consumer gave, the journal has as it is told.

given_state : (x : Disposition) (v : Option DeliveryState) (s : DeliveryState) → IsEncoded (perf.Disposition x) → terminal x.state ≡ v → decision x.settled v ≡ Some s → IsKeptAsTold s
given_state x None s encoded ends gives = by x.settled gives
  where
    by : (q : Bool) → decision q None ≡ Some s → IsKeptAsTold s
    by true gives = subst IsKeptAsTold (some_same gives) (form_told failed failed_form)
    by false gives = absurd (none_not_some gives)
given_state x (Some y) s encoded ends gives =
    let is = terminal_is x.state y ends in
    subst IsKeptAsTold (some_same gives) (sendable_kept y (record { body = perf.Disposition x; encoded = encoded; gives = is.1; terminal = is.0 }))

entry_told : (entry : Entry) (t : Trace) (n : ℕ) (found : Option Delivery) (s : DeliveryState) → AllKept (entry ∷ t) → FramesAreEncoded (entry ∷ t)
    → (decides : DecidesFound entry t n found s) → IsFoundByConsumer entry t n found s decides → IsKeptAsTold s
entry_told entry t n None s kept encoded brought by_consumer =
    subst (λ (x : Entry). BoundTold (x ∷ t)) brought.entry_is (kept.0.bound encoded) s brought.brings
entry_told entry t n (Some d) s kept encoded (given_by_consumer g) by_consumer =
    let came : EventIsEncoded g.step.event = (subst (λ (x : Entry). FramesAreEncoded (x ∷ t)) g.entry_is encoded).0 in
    given_state g.disposition (terminal g.disposition.state) s (subst EventIsEncoded g.came came) refl g.gives
entry_told entry t n (Some d) s kept encoded (given_by_attach g) by_consumer = form_told s (given_form (acts_found t) g.row s (at_head Kept t kept.1).acts g.gives)
entry_told entry t n (Some d) s kept encoded (link_lost lost undecided is) by_consumer = subst IsKeptAsTold (sym is) (form_told failed failed_form)
entry_told entry t n (Some d) s kept encoded (link_ended ended undecided is) by_consumer = subst IsKeptAsTold (sym is) (form_told failed failed_form)
entry_told entry t n (Some d) s kept encoded (sent_settled sent is) by_consumer = absurd by_consumer

outcome_kept : (t : Trace) (n : ℕ) (s : DeliveryState) → AllKept t → FramesAreEncoded t → DecidedByConsumer t n s → IsKeptAsTold s
outcome_kept t n s kept encoded by =
    let d = by.decided in
    entry_told d.entry d.before n d.found s
    (at_end Kept d.later (d.entry ∷ d.before) (subst AllKept d.trace kept)) (frames_end d.later (d.entry ∷ d.before) (subst FramesAreEncoded d.trace encoded)) d.decides by.by_consumer

-- what is told

told_in_row : (rows : List ARow) (v : Option ARow) (told : Option DeliveryState) (s : DeliveryState) → ((r : ARow) → v ≡ Some r → (y : DeliveryState) → r.outcome ≡ Some y → IsForm y)
    → told ≡ Some (kept_outcome s) → IsKeptAsTold s → IsDecidedAs v told → IsSomeAnd v (λ row. row.outcome ≡ told)
told_in_row rows None told s forms is kept decided = decided
told_in_row rows (Some r) told s forms is kept decided = by decided
  where
    before : (o : Option DeliveryState) → r.outcome ≡ o → told ≡ option_map kept_outcome o → o ≡ told
    before None at e = absurd (none_not_some (sym e ∙ is))
    before (Some y) at e = ap (λ (x : DeliveryState). Some x) (sym (forms r refl y at).kept) ∙ sym e

    by : (r.outcome ≡ option_map journal_outcome told) ⊎ (told ≡ option_map kept_outcome r.outcome) → r.outcome ≡ told
    by (inl now) = now ∙ ap (option_map journal_outcome) is ∙ ap (λ (x : DeliveryState). Some x) kept ∙ sym is
    by (inr e) = before r.outcome refl e

name_in_row : (t : Trace) (c own : ℕ) (x : Disposition) (report : TellsOutcome t c own x) (name : DeliveryName) → AllKept t → FramesAreEncoded t → RowIsDecided (book_in t) name x.state → RowHas (book_in t) name x.state
name_in_row t c own x report (Counter k) kept encoded decided = tt
name_in_row t c own x report (Row r) kept encoded decided =
    told_in_row (book_in t).rows (row_at r.0 (book_in t).rows) x.state report.outcome
    (λ row at. rows_kept t kept row (row_there r.0 (book_in t).rows row at).0) report.told (outcome_kept t report.number report.outcome kept encoded report.given) decided

role_in_row : (r : Role) (t : Trace) (c own : ℕ) (x : Disposition) → AllKept t → FramesAreEncoded t → role_is_decided r t c own x → role_is_in_row r t c own x
role_in_row Receiver t c own x kept encoded decided = λ report. name_in_row t c own x report report.of.name kept encoded (decided report)
role_in_row Sender t c own x kept encoded decided = tt

item_in_row : (i : Item) (t : Trace) (c : ℕ) → AllKept t → FramesAreEncoded t → OutcomeIsKept t c i → OutcomeIsInRow t c i
item_in_row (item.Frame sasl own (perf.Disposition x) payload) t c kept encoded decided = role_in_row x.role t c own x kept encoded decided
item_in_row (item.Frame sasl own _ payload) t c kept encoded decided = tt
item_in_row _ t c kept encoded decided = tt

each_in_row : (u : Trace) → AllKept u → FramesAreEncoded u → EachOut OutcomeIsKept u → EachOut OutcomeIsInRow u
each_in_row [] kept encoded all = tt
each_in_row (Did s ∷ t) kept encoded all = each_in_row t kept.1 encoded.1 all
each_in_row (Out c i ∷ t) kept encoded all = (item_in_row i t c kept.1 encoded all.0, each_in_row t kept.1 encoded all.1)
each_in_row (Took c n ∷ t) kept encoded all = each_in_row t kept.1 encoded all
each_in_row (Bound b ∷ t) kept encoded all = each_in_row t kept.1 encoded all
each_in_row (Booked acts full ∷ t) kept encoded all = each_in_row t kept.1 encoded all
each_in_row (Routed passage ∷ t) kept encoded all = each_in_row t kept.1 encoded all
each_in_row (Began g ∷ t) kept encoded all = each_in_row t kept.1 encoded all

pub lives_have_told : InSmallLives RowsHaveWhatIsTold
lives_have_told = λ id lives u all small encoded. each_in_row u (lives_all id lives u all).2 encoded (lives_outcomes id lives u all small)
