-- Over every list of runs, what the book has as accepted was accepted by its consumer, and a producer is told accepted only after that.
use Rattle.std.proofs.Common.{◌≡◌, ◌∙◌, sym, ap, refl, subst, ◌⊎◌, inl, inr, ℕ, Bool, true, false, List, [], ◌∷◌, ◌++◌, length}
use Rattle.std.specs.Prelude.{◌==◌, nat_lt, Option, Some, None, option_map, if◌then◌else◌}
use Rattle.amqp_model.specs.PerfSpelling.{state_spelling}
use Rattle.journal_store.specs.Acting.{journal_outcome}
use Rattle.router_trace.specs.DeliveryFrames.{bare, kept_outcome, undescribed}
use Rattle.std.proofs.lemmas.Bool.{eqb-true}
use Rattle.amqp_model.specs.declared.perf.Attach.{Attach}
use Rattle.amqp_model.specs.declared.perf.Disposition.{Disposition}
use Rattle.amqp_model.specs.declared.perf.Perf.{Perf}
use Rattle.amqp_model.specs.declared.perf.Perf.TheVariants as perf
use Rattle.amqp_model.specs.declared.perf.Role.{Role}
use Rattle.amqp_model.specs.declared.perf.Role.TheVariants.{Sender, Receiver}
use Rattle.amqp_model.specs.declared.state.DeliveryState.{DeliveryState}
use Rattle.amqp_model.specs.declared.state.DeliveryState.TheVariants as state
use Rattle.amqp_model.specs.declared.state.UnsettledDelivery.{UnsettledDelivery}
use Rattle.amqp_model.specs.declared.item.Item.{Item}
use Rattle.amqp_model.specs.declared.item.Item.TheVariants as item
use Rattle.book_model.specs.declared.act.Act.{Act}
use Rattle.book_model.specs.Sound.{IsSound}
use Rattle.book_laws.proofs.KeptSound.{empty_sound, acts_keep}
use Rattle.journal_store.proofs.Sound.{sound_is_ordered}
use Rattle.book_model.specs.declared.row.Row.{Row as ARow}
use Rattle.book_model.specs.declared.row.RowNumber.{RowNumber}
use Rattle.book_model.specs.Book.{BookView, row_at}
use Rattle.router_trace.specs.declared.binding.DeliveryName.{DeliveryName}
use Rattle.router_trace.specs.declared.event.Event.{Event}
use Rattle.router_trace.specs.Connection.{due}
use Rattle.router_trace.specs.Deliveries.{acts_found, outcome_among}
use Rattle.router_trace.specs.Trace.{Trace, Entry, Did, Out, Took, Bound, Booked, Routed, Began, step_of}
use Rattle.resume_core.specs.Resuming.{entries_of, brief_outcome}
use Rattle.reply_rows.specs.Acts.{acts_of, book_in, booked}
use Rattle.core_machine.specs.Moves.{Move}
use Rattle.theorems.specs.Accepting.{WasAccepted, RowsAreAcceptedByConsumers, AcceptedIsTrue, role_tells_accepted, perf_tells_accepted}
use Rattle.theorems.specs.Came.{last_found}
use Rattle.theorems.specs.Each.{EachOut}
use Rattle.theorems.specs.Kept.{IsDecidedAs, RowIsDecided, OutcomeIsKept, role_is_decided, perf_is_decided}
use Rattle.theorems.specs.Mapped.{AnyEntry, IsToldOf, IsTrueEntry, EachEntry, EachTold, EachToldIn, MapIsTrue}
use Rattle.theorems.specs.Lives.{GoesInTurn, InLives, InSmallLives}
use Rattle.theorems.proofs.Accepting.{AreOwn, acts_accept}
use Rattle.theorems.proofs.Among.{Stands, stands_after, parts}
use Rattle.theorems.proofs.Booked.{acts_apply}
use Rattle.theorems.proofs.DecidedFirst.{Was, by_acts, decision, same_row}
use Rattle.theorems.proofs.EveryMove.{moves_keep_all}
use Rattle.theorems.proofs.KeptForm.{accepted_itself}
use Rattle.theorems.proofs.Lives.{lives_keep, lives_outcomes}
use Rattle.theorems.proofs.OwnConsumer.{BindingFacts, bound_to_own, facts_before, lives_facts}
use Rattle.theorems.proofs.Tests.{some_same, none_not_some}

-- over runs

abbrev IsAccepted : ARow → Type 0
IsAccepted r = r.outcome ≡ Some state.Accepted

abbrev pub Accepted : Trace → Type 0
Accepted t = (r : ARow) → Stands ARow r (book_in t).rows → IsAccepted r → WasAccepted t r.number

grown : (x : Entry) (t : Trace) (n : RowNumber) → WasAccepted t n → WasAccepted (x ∷ t) n
grown x t n was = record {
  later = x ∷ was.later;
  event = was.event;
  before = was.before;
  trace = ap (λ (u : Trace). x ∷ u) was.trace;
  earlier_acts = was.earlier_acts;
  later_acts = was.later_acts;
  decides = was.decides;
  accepts = was.accepts;
  waiting = was.waiting;
  older = was.older;
  newer = was.newer;
  in_the_book = was.in_the_book;
  its_number = was.its_number;
  undecided = was.undecided;
}

booked_accepted : (t : Trace) (e : Event) → AreOwn t → Accepted t → Accepted (booked t e)
booked_accepted t e own was r is accepted = by (by_acts state.Accepted (acts_of t e) (book_in t) r is accepted)
  where
    by : Was state.Accepted (book_in t).rows r ⊎ Stands Act (decision state.Accepted r.number) (acts_of t e) → WasAccepted (booked t e) r.number
    by (inl old) = grown (Booked (acts_of t e) (due t e)) t r.number (subst (λ (n : RowNumber). WasAccepted t n) old.2 (was old.0 old.1 old.3))
    by (inr act) =
        let place = parts Act (decision state.Accepted r.number) (acts_of t e) act in
        let known = acts_accept t e (record { row = r.number; outcome = state.Accepted }) own act refl in
        let waits = parts ARow known.1.row (book_in t).rows known.1.there in
        record {
          later = [];
          event = e;
          before = t;
          trace = refl;
          earlier_acts = place.0;
          later_acts = place.1;
          decides = place.2;
          accepts = known.0;
          waiting = known.1.row;
          older = waits.0;
          newer = waits.1;
          in_the_book = waits.2;
          its_number = known.1.number;
          undecided = known.1.undecided;
        }

-- what is known of a trace, and of what each item put out finds: the book is sound, and what it has as accepted was accepted
pub record Known (t : Trace) : Type 0 where
  pub sound : IsSound (book_in t)
  pub accepted : BindingFacts t → Accepted t

pub record All (t : Trace) : Type 0 where
  pub now : Known t
  pub each : EachOut (λ u c i. Known u) t

same_known : (x : Entry) (t : Trace) → book_in (x ∷ t) ≡ book_in t → Known t → Known (x ∷ t)
same_known x t same was = record {
  sound = subst IsSound (sym same) was.sound;
  accepted = λ facts r is accepted.
      grown x t r.number (was.accepted (facts_before x t facts) r (subst (λ (b : BookView). Stands ARow r b.rows) same is) accepted);
}

same_all : (x : Entry) (t : Trace) → book_in (x ∷ t) ≡ book_in t → EachOut (λ u c i. Known u) (x ∷ t) → All t → All (x ∷ t)
same_all x t same each was = record { now = same_known x t same was.now; each = each }

booked_all : (t : Trace) (e : Event) → All t → All (booked t e)
booked_all t e was = record {
  now = record {
    sound = acts_keep (book_in t) (acts_of t e) (acts_apply t e (sound_is_ordered (book_in t) was.now.sound)) was.now.sound;
    accepted = λ facts.
        let before : BindingFacts t = facts_before (Booked (acts_of t e) (due t e)) t facts in
        booked_accepted t e (bound_to_own t before) (was.now.accepted before);
  };
  each = was.each;
}

moves_all : (id : List ℕ) (ms : List Move) (t u : Trace) → All t → GoesInTurn id ms t u → All u
moves_all =
    moves_keep_all All (λ s t was. same_all (Did s) t refl was.each was) (λ c i t was. same_all (Out c i) t refl (was.now, was.each) was)
    (λ c n t was. same_all (Took c n) t refl was.each was) (λ b t was. same_all (Bound b) t refl was.each was) booked_all

pub lives_known : InLives All
lives_known =
    lives_keep All (λ g below book was. same_all (Began g) below book was.each was) moves_all
    (λ t e was. same_all (Did (step_of e)) (booked t e) refl was.each (booked_all t e was))
    (record { now = record { sound = empty_sound; accepted = λ facts r is accepted. absurd is }; each = tt })

pub lives_accepted : InLives RowsAreAcceptedByConsumers
lives_accepted = λ id lives u all earlier later row is accepted.
    (lives_known id lives u all).now.accepted (lives_facts id lives u all) row (subst (λ (rows : List ARow). Stands ARow row rows) (sym is) (stands_after ARow row earlier later)) accepted

-- what producers are told

pub row_there : (n : ℕ) (rows : List ARow) (r : ARow) → row_at n rows ≡ Some r → Stands ARow r rows × (r.number.0 ≡ n)
row_there n [] r e = absurd (none_not_some e)
row_there n (x ∷ rows) r e = by (x.number.0 == n) refl e (λ later. let rest = row_there n rows r later in (inr rest.0, rest.1))
  where
    by : (b : Bool) → (x.number.0 == n) ≡ b → (if b then Some x else row_at n rows) ≡ Some r → (row_at n rows ≡ Some r → Stands ARow r (x ∷ rows) × (r.number.0 ≡ n)) → Stands ARow r (x ∷ rows) × (r.number.0 ≡ n)
    by true test e more = (inl (some_same e), ap (λ (y : ARow). y.number.0) (sym (some_same e)) ∙ eqb-true x.number.0 n test)
    by false test e more = more e

-- what is told as accepted is accepted
kept_accepted : (s : DeliveryState) → state.Accepted ≡ kept_outcome s → s ≡ state.Accepted
kept_accepted s is = by s (nat_lt 400 (length (state_spelling (undescribed s)))) is
  where
    by : (s : DeliveryState) (q : Bool) → state.Accepted ≡ (if q then bare (undescribed s) else undescribed s) → s ≡ state.Accepted
    by state.Accepted q is = refl
    by state.Released true is = absurd cc
    by state.Released false is = absurd cc
    by (state.Rejected r) true is = absurd cc
    by (state.Rejected r) false is = absurd cc
    by (state.Modified m) true is = absurd cc
    by (state.Modified m) false is = absurd cc
    by (state.Received r) true is = absurd cc
    by (state.Received r) false is = absurd cc
    by (state.Other v) true is = absurd cc
    by (state.Other v) false is = absurd cc

told_accepted : (o : Option DeliveryState) → Some state.Accepted ≡ option_map kept_outcome o → o ≡ Some state.Accepted
told_accepted None is = absurd (none_not_some (sym is))
told_accepted (Some s) is = ap (λ (x : DeliveryState). Some x) (kept_accepted s (some_same is))

pub told_truly : (t : Trace) (row : RowNumber) (v : Option ARow) → row_at row.0 (book_in t).rows ≡ v → IsDecidedAs v (Some state.Accepted) → Accepted t → WasAccepted t row
told_truly t row None there is all = absurd is
told_truly t row (Some r) there is all =
    let found = row_there row.0 (book_in t).rows r there in
    subst (λ (n : RowNumber). WasAccepted t n) (same_row r.number row found.1)
    (all r found.0 (by is))
  where
    by : (r.outcome ≡ Some (journal_outcome state.Accepted)) ⊎ (Some state.Accepted ≡ option_map kept_outcome r.outcome) → r.outcome ≡ Some state.Accepted
    by (inl kept) = kept ∙ ap (λ (s : DeliveryState). Some s) accepted_itself
    by (inr told) = told_accepted r.outcome told

role_true : (r : Role) (t : Trace) (c own : ℕ) (x : Disposition) → role_is_decided r t c own x → Accepted t → role_tells_accepted r t c own x
role_true Receiver t c own x kept all = λ accepted report row name.
    told_truly t row (row_at row.0 (book_in t).rows) refl
    (subst (λ (o : Option DeliveryState). IsDecidedAs (row_at row.0 (book_in t).rows) o) accepted
    (subst (λ (n : DeliveryName). RowIsDecided (book_in t) n x.state) name (kept report))) all
role_true Sender t c own x kept all = tt

perf_true : (body : Perf) (t : Trace) (c own : ℕ) → perf_is_decided body t c own → Accepted t → perf_tells_accepted body t c own
perf_true (perf.Disposition x) t c own kept all = role_true x.role t c own x kept all
perf_true _ t c own kept all = tt

item_true : (t : Trace) (c : ℕ) (i : Item) → OutcomeIsKept t c i → Accepted t → AcceptedIsTrue t c i
item_true t c (item.Frame sasl own body payload) kept all = perf_true body t c own kept all
item_true t c _ kept all = tt

abbrev always_kept : Trace → ℕ → Item → Type 0
always_kept t c i = Unit {0}

none_kept : (t : Trace) → EachOut always_kept t
none_kept [] = tt
none_kept (Did s ∷ t) = none_kept t
none_kept (Out c i ∷ t) = (tt, none_kept t)
none_kept (Took c n ∷ t) = none_kept t
none_kept (Bound b ∷ t) = none_kept t
none_kept (Booked acts full ∷ t) = none_kept t
none_kept (Routed passage ∷ t) = none_kept t
none_kept (Began g ∷ t) = none_kept t

-- what follows of each item from what it finds
module _ (P Q : Trace → ℕ → Item → Type 0) (each : (t : Trace) (c : ℕ) (i : Item) → P t c i → BindingFacts t → Known t → Q t c i) where
  pub each_true : (t : Trace) → EachOut P t → BindingFacts t → EachOut (λ u c i. Known u) t → EachOut Q t
  each_true [] kept facts all = tt
  each_true (Did s ∷ t) kept facts all = each_true t kept (facts_before (Did s) t facts) all
  each_true (Out c i ∷ t) kept facts all = let before = facts_before (Out c i) t facts in (each t c i kept.0 before all.0, each_true t kept.1 before all.1)
  each_true (Took c n ∷ t) kept facts all = each_true t kept (facts_before (Took c n) t facts) all
  each_true (Bound b ∷ t) kept facts all = each_true t kept (facts_before (Bound b) t facts) all
  each_true (Booked acts full ∷ t) kept facts all = each_true t kept (facts_before (Booked acts full) t facts) all
  each_true (Routed passage ∷ t) kept facts all = each_true t kept (facts_before (Routed passage) t facts) all
  each_true (Began g ∷ t) kept facts all = each_true t kept (facts_before (Began g) t facts) all

pub lives_tell_truly : InSmallLives (EachOut AcceptedIsTrue)
lives_tell_truly = λ id lives u all small.
    each_true OutcomeIsKept AcceptedIsTrue (λ t c i kept facts known. item_true t c i kept (known.accepted facts)) u (lives_outcomes id lives u all small) (lives_facts id lives u all)
    (lives_known id lives u all).each

-- what maps tell them

pub brief_accepted : (o : Option DeliveryState) → option_map brief_outcome o ≡ Some state.Accepted → o ≡ Some state.Accepted
brief_accepted None is = absurd (none_not_some is)
brief_accepted (Some state.Accepted) is = refl
brief_accepted (Some state.Released) is = is
brief_accepted (Some (state.Rejected r)) is = absurd cc
brief_accepted (Some (state.Modified m)) is = absurd cc
brief_accepted (Some (state.Received r)) is = is
brief_accepted (Some (state.Other v)) is = is

entry_true : (t : Trace) (c : ℕ) (a : Attach) (entry : UnsettledDelivery) → Accepted t → IsTrueEntry t c a entry
entry_true t c a entry all = λ accepted of.
    all of.row (subst (λ (rows : List ARow). Stands ARow of.row rows) (sym of.kept) (stands_after ARow of.row of.earlier of.later))
    (brief_accepted of.row.outcome (subst (λ (v : Option DeliveryState). IsToldOf v (outcome_among (acts_found (last_found t)) of.row.number) of.row.outcome) accepted of.state))

entries_true : (t : Trace) (c : ℕ) (a : Attach) (entries : List UnsettledDelivery) → Accepted t → EachEntry (IsTrueEntry t c a) entries
entries_true t c a [] all = tt
entries_true t c a (d ∷ ds) all = (entry_true t c a d all, entries_true t c a ds all)

map_true : (t : Trace) (c : ℕ) (i : Item) → always_kept t c i → Accepted t → MapIsTrue t c i
map_true t c (item.Frame sasl own body payload) kept all = by body
  where
    any : (a : Attach) (entries : List UnsettledDelivery) → EachEntry (AnyEntry a) entries
    any a [] = tt
    any a (d ∷ ds) = (tt, any a ds)

    by_role : (r : Role) (a : Attach) → EachTold (IsTrueEntry t c) AnyEntry r a
    by_role Receiver a = entries_true t c a (entries_of a.unsettled) all
    by_role Sender a = any a (entries_of a.unsettled)

    by : (body : Perf) → EachToldIn (IsTrueEntry t c) AnyEntry body
    by (perf.Attach a) = by_role a.role a
    by _ = tt
map_true t c _ kept all = tt

pub lives_map_truly : InLives (EachOut MapIsTrue)
lives_map_truly = λ id lives u all.
    each_true always_kept MapIsTrue (λ t c i kept facts known. map_true t c i kept (known.accepted facts)) u (none_kept u) (lives_facts id lives u all) (lives_known id lives u all).each
