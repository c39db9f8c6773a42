-- One more move of a router.
use Rattle.std.proofs.Common.{◌≡◌, ◌∙◌, sym, ap, refl, subst, ◌⊎◌, inl, inr, ℕ, Bool, true, false, List, [], ◌∷◌, ◌++◌, length, map, take, Option, Some, None, Result, Ok, Err, OnOk, OnErr, IfOk, IfErr}
use Rattle.std.proofs.Common.{append_assoc, append-nil}
use Rattle.book_model.specs.Book.{BookView}
use Rattle.router_trace.specs.declared.event.Event.{Event}
use Rattle.router_trace.specs.declared.event.ConnectionId.{ConnectionId}
use Rattle.router_trace.specs.Configuration.{opened}
use Rattle.router_trace.specs.Trace.{Beginning, Entry, Step, Took, step_of}
use Rattle.router_trace.specs.Connection.{Connection, conn}
use Rattle.core_machine.specs.declared.answers.Batch.{Batch}
use Rattle.core_machine.specs.declared.answers.Done.{Done}
use Rattle.core_machine.specs.declared.counts.Counts.{Counts}
use Rattle.core_machine.specs.declared.fault.CoreFault.{CoreFault}
use Rattle.core_machine.specs.declared.fault.CoreFault.TheVariants.{Disk, Memory, Failed, NoConnection}
use Rattle.core_machine.specs.Counting.{uncounted, with_event, with_batch}
use Rattle.core_machine.specs.Meaning.{Meaning, BookAt, EitherOf, IsBatchOf}
use Rattle.core_machine.specs.Moves.{Move, handles, takes, GoesInTurnBy, taking, items_of, waiting_of, took_one}
use Rattle.core_machine.specs.Turns.{declines}
use Rattle.core_machine.specs.History.{tally, EndsInEvents, IsBehind, LeavesEither, IsCutOff, HasHistoryOn, HasHistory, HasKeptOn, HasKept, IsGivenOn, IsGiven}
use Rattle.core_machine.specs.Opened.{IsOpened}

-- the counts of moves, then of more moves
tally_more : (ms ns : List Move) (n : Counts) → tally (ms ++ ns) n ≡ tally ns (tally ms n)
tally_more [] ns n = refl
tally_more (handles s ∷ ms) ns n = tally_more ms ns (with_event s.event n)
tally_more (takes x ∷ ms) ns n = tally_more ms ns (with_batch n)

-- moves, then more moves
joined : (next : List Entry → Step → List Entry) (ms ns : List Move) (t u v : List Entry) → GoesInTurnBy next ms t u → GoesInTurnBy next ns u v → GoesInTurnBy next (ms ++ ns) t v
joined next [] ns t u v front back = subst (λ (w : List Entry). GoesInTurnBy next ns w v) front back
joined next (handles s ∷ ms) ns t u v front back = (front.0, joined next ms ns (next t s) u v front.1 back)
joined next (takes x ∷ ms) ns t u v front back = joined next ms ns (took_one x t) u v front back

-- moves, then one event
event_joined : (next : List Entry → Step → List Entry) (ms : List Move) (e : Event) (t u : List Entry) → GoesInTurnBy next ms t u → declines u e ≡ false
    → GoesInTurnBy next (ms ++ handles (step_of e) ∷ []) t (next u (step_of e))
event_joined next ms e t u front taken = joined next ms (handles (step_of e) ∷ []) t u (next u (step_of e)) front (taken, refl)

-- events, then one more
handles_more : (events : List Step) (s : Step) → map handles events ++ handles s ∷ [] ≡ map handles (events ++ s ∷ [])
handles_more [] s = refl
handles_more (e ∷ es) s = ap (λ (ms : List Move). handles e ∷ ms) (handles_more es s)

-- the number of items in a batch
batch_length : (o : Option Connection) (b : Batch) → IsBatchOf o 64 b → length b.items.items ≡ length (take 64 (waiting_of o))
batch_length None b is = elim is [ ]
batch_length (Some v) b is = ap length is.in_order

-- after an answer Ok it hadn't failed before
worked : {A : Type 0} (a : A) (b : Bool) → (b ≡ true → Ok a ≡ Err Failed) → b ≡ false
worked a true is = absurd (let bad = is refl in cc)
worked a false is = refl

-- nor after an answer Disk or Memory
abbrev Fault : Type 0 → Type 0
Fault A = Result A CoreFault

worked_disk : {A : Type 0} (r : Fault A) (b : Bool) → r ≡ Err Disk → (b ≡ true → r ≡ Err Failed) → b ≡ false
worked_disk r true fault is = absurd (let bad : Err Disk ≡ Err Failed = sym fault ∙ is refl in cc)
worked_disk r false fault is = refl

worked_memory : {A : Type 0} (r : Fault A) (b : Bool) → r ≡ Err Memory → (b ≡ true → r ≡ Err Failed) → b ≡ false
worked_memory r true fault is = absurd (let bad : Err Memory ≡ Err Failed = sym fault ∙ is refl in cc)
worked_memory r false fault is = refl

-- nor does it decline an event that it answers so
not_declined : {A : Type 0} (r : Fault A) (b : Bool) → r ≡ Err Disk ⊎ r ≡ Err Memory → (b ≡ true → r ≡ Err NoConnection) → b ≡ false
not_declined r true (inl fault) is = absurd (let bad : Err Disk ≡ Err NoConnection = sym fault ∙ is refl in cc)
not_declined r true (inr fault) is = absurd (let bad : Err Memory ≡ Err NoConnection = sym fault ∙ is refl in cc)
not_declined r false fault is = refl

module _ {M : Type 0} (m : Meaning M) where
  -- nothing is held
  abbrev none_held : (router : M) (from : List Entry) (ms : List Move) (t : List Entry) → GoesInTurnBy (m.next (m.id router)) ms from t → EndsInEvents m router from ms t
  none_held router from ms t all = record { first = ms; events = []; parts = sym (append-nil ms); written = t; goes = all; goes_on = refl }

  -- one event is held
  abbrev one_held : (router : M) (from : List Entry) (ms : List Move) (t : List Entry) (e : Event) → GoesInTurnBy (m.next (m.id router)) ms from t → declines t e ≡ false
      → EndsInEvents m router from (ms ++ handles (step_of e) ∷ []) (m.next (m.id router) t (step_of e))
  one_held router from ms t e all taken = record { first = ms; events = step_of e ∷ []; parts = refl; written = t; goes = all; goes_on = (taken, refl) }

  -- one event more is held
  abbrev more_held : (router : M) (from : List Entry) (ms : List Move) (t : List Entry) (e : Event) → EndsInEvents m router from ms t → declines t e ≡ false
      → EndsInEvents m router from (ms ++ handles (step_of e) ∷ []) (m.next (m.id router) t (step_of e))
  more_held router from ms t e is taken = record {
    first = is.first;
    events = is.events ++ step_of e ∷ [];
    parts = ap (λ (l : List Move). l ++ handles (step_of e) ∷ []) is.parts
        ∙ append_assoc is.first (map handles is.events) (handles (step_of e) ∷ []) ∙ ap (λ (l : List Move). is.first ++ l) (handles_more is.events (step_of e));
    written = is.written;
    goes = is.goes;
    goes_on = subst (λ (l : List Move). GoesInTurnBy (m.next (m.id router)) l is.written (m.next (m.id router) t (step_of e))) (handles_more is.events (step_of e))
        (event_joined (m.next (m.id router)) (map handles is.events) e is.written t is.goes_on taken);
  }

  -- the router has its container-id still
  abbrev renamed : (old new : M) (from : List Entry) (ms : List Move) (t : List Entry) → m.id new ≡ m.id old → EndsInEvents m old from ms t → EndsInEvents m new from ms t
  renamed old new from ms t named is = record {
    first = is.first;
    events = is.events;
    parts = is.parts;
    written = is.written;
    goes = subst (λ (i : List ℕ). GoesInTurnBy (m.next i) is.first from is.written) (sym named) is.goes;
    goes_on = subst (λ (i : List ℕ). GoesInTurnBy (m.next i) (map handles is.events) is.written t) (sym named) is.goes_on;
  }

  -- the journal keeps the book
  kept_all : (router : M) (from : List Entry) (ms : List Move) (t : List Entry) → GoesInTurnBy (m.next (m.id router)) ms from t → m.keeps router (m.book t) → IsBehind m router from ms t
  kept_all router from ms t all keeps = (none_held router from ms t all, m.kept_is_held router (m.book t) keeps)

  -- a crash leaves it then
  leaves_kept : (router : M) (from : List Entry) (ms : List Move) (t : List Entry) → GoesInTurnBy (m.next (m.id router)) ms from t → m.keeps router (m.book t) → LeavesEither m router from ms t
  leaves_kept router from ms t all keeps = (
    none_held router from ms t all,
    m.leaves_weaker router (λ c. c ≡ m.book t) (EitherOf (m.book t) (m.book t)) (λ c is. inl is) (m.held_leaves router (m.book t) (m.kept_is_held router (m.book t) keeps)),
  )

  -- one event more is held, behind those that are held, or after a checkpoint
  held_more : (old new : M) (from : List Entry) (ms : List Move) (t : List Entry) (e : Event) → GoesInTurnBy (m.next (m.id old)) ms from t → declines t e ≡ false → m.id new ≡ m.id old
      → (is : EndsInEvents m old from ms t) → m.holds new (m.book is.written) ⊎ m.holds new (m.book t)
      → IsBehind m new from (ms ++ handles (step_of e) ∷ []) (m.next (m.id old) t (step_of e))
  held_more old new from ms t e all taken named is (inl holds) =
      (renamed old new from (ms ++ handles (step_of e) ∷ []) (m.next (m.id old) t (step_of e)) named (more_held old from ms t e is taken), holds)
  held_more old new from ms t e all taken named is (inr holds) =
      (renamed old new from (ms ++ handles (step_of e) ∷ []) (m.next (m.id old) t (step_of e)) named (one_held old from ms t e all taken), holds)

module _ {M : Type 0} (m : Meaning M) (g : Beginning) (below : List Entry) where
  -- nothing has happened yet
  none_on : (router : M) → IsOpened m g router → HasHistoryOn m g below router
  none_on router was = (
    [],
    opened g below,
    record {
      goes = refl;
      counted = was.counts;
      sound = was.sound;
      works = λ _. (was.fits below, kept_all m router (opened g below) [] (opened g below) refl (was.keeps below));
      failed = λ fails. absurd (let bad : true ≡ false = sym fails ∙ was.works in cc);
    },
  )

  -- one more event
  event_more : (old new : M) (e : Event) (lived : HasHistoryOn m g below old) → m.is_failed old ≡ false → m.is_failed new ≡ false
      → ((t : List Entry) → m.fits old t → m.fits new (m.next (m.id old) t (step_of e)))
      → ((t : List Entry) → m.fits old t → declines t e ≡ false)
      → (m.fits old lived.1 → IsBehind m old (opened g below) lived.0 lived.1
      → IsBehind m new (opened g below) (lived.0 ++ handles (step_of e) ∷ []) (m.next (m.id old) lived.1 (step_of e)))
      → m.counts new ≡ with_event e (m.counts old) → m.id new ≡ m.id old → HasHistoryOn m g below new
  event_more old new e lived worked works fits taken behind counted named =
      let ms = lived.0 in
      let t = lived.1 in
      let h = lived.2 in
      let now = h.works worked in
      let u : List Entry = m.next (m.id old) t (step_of e) in
      let all : GoesInTurnBy (m.next (m.id old)) (ms ++ handles (step_of e) ∷ []) (opened g below) u = event_joined (m.next (m.id old)) ms e (opened g below) t h.goes (taken t now.0) in (
        ms ++ handles (step_of e) ∷ [],
        u,
        record {
          goes = subst (λ (i : List ℕ). GoesInTurnBy (m.next i) (ms ++ handles (step_of e) ∷ []) (opened g below) u) (sym named) all;
          counted = counted ∙ (ap (with_event e) h.counted ∙ sym (tally_more ms (handles (step_of e) ∷ []) uncounted));
          sound = h.sound;
          works = λ _. (fits t now.0, behind now.0 now.1);
          failed = λ fails. absurd (let bad : true ≡ false = sym fails ∙ works in cc);
        },
      )

  -- one more take
  take_more : (old new : M) (c : ConnectionId) (x : Batch) → HasKeptOn m g below old → m.is_failed old ≡ false → m.is_failed new ≡ false
      → ((t : List Entry) → m.fits old t → m.fits new (Took c.0 (length x.items.items) ∷ t))
      → ((t : List Entry) → m.fits old t → IsBatchOf (conn t c.0) 64 x)
      → ((t : List Entry) → m.keeps old (m.book t) → m.keeps new (m.book (Took c.0 (length x.items.items) ∷ t)))
      → m.counts new ≡ with_batch (m.counts old) → m.id new ≡ m.id old → HasHistoryOn m g below new
  take_more old new c x kept worked works fits batch keeps counted named =
      let ms = kept.0.0 in
      let t = kept.0.1 in
      let h = kept.0.2 in
      let now = h.works worked in
      let same : length x.items.items ≡ length (items_of (taking c) t) = batch_length (conn t c.0) x (batch t now.0) in
      let all : GoesInTurnBy (m.next (m.id old)) (ms ++ takes (taking c) ∷ []) (opened g below) (took_one (taking c) t)
      = joined (m.next (m.id old)) ms (takes (taking c) ∷ []) (opened g below) t (took_one (taking c) t) h.goes refl in
      let on : GoesInTurnBy (m.next (m.id new)) (ms ++ takes (taking c) ∷ []) (opened g below) (took_one (taking c) t)
      = subst (λ (i : List ℕ). GoesInTurnBy (m.next i) (ms ++ takes (taking c) ∷ []) (opened g below) (took_one (taking c) t)) (sym named) all in (
        ms ++ takes (taking c) ∷ [],
        took_one (taking c) t,
        record {
          goes = on;
          counted = counted ∙ (ap with_batch h.counted ∙ sym (tally_more ms (takes (taking c) ∷ []) uncounted));
          sound = h.sound;
          works = λ _. (
            subst (λ (n : ℕ). m.fits new (Took c.0 n ∷ t)) same (fits t now.0),
            kept_all m new (opened g below) (ms ++ takes (taking c) ∷ []) (took_one (taking c) t) on (subst (λ (n : ℕ). m.keeps new (m.book (Took c.0 n ∷ t))) same (keeps t kept.1)),
          );
          failed = λ fails. absurd (let bad : true ≡ false = sym fails ∙ works in cc);
        },
      )

  -- it fails now, and its journal stands so
  fails_now : (old new : M) (lived : HasHistoryOn m g below old) → m.is_failed old ≡ false → m.is_failed new ≡ true → m.counts new ≡ m.counts old → m.id new ≡ m.id old
      → (m.fits old lived.1 → IsBehind m old (opened g below) lived.0 lived.1 → IsCutOff m new (opened g below) lived.0 lived.1) → HasHistoryOn m g below new
  fails_now old new lived worked fails uncounted named cut = (
    lived.0,
    lived.1,
    record {
      goes = subst (λ (i : List ℕ). GoesInTurnBy (m.next i) lived.0 (opened g below) lived.1) (sym named) lived.2.goes;
      counted = uncounted ∙ lived.2.counted;
      sound = lived.2.sound;
      works = λ works. absurd (let bad : true ≡ false = sym fails ∙ works in cc);
      failed = λ _. let now = lived.2.works worked in cut now.0 now.1;
    },
  )

  -- the same, where a crash leaves what the files kept, or the router's own book
  fails_either : (old new : M) → HasHistoryOn m g below old → m.is_failed old ≡ false → m.is_failed new ≡ true → m.counts new ≡ m.counts old → m.id new ≡ m.id old
      → ((t : List Entry) (b : BookView) → m.fits old t → m.holds old b → m.leaves new (EitherOf b (m.book t))) → HasHistoryOn m g below new
  fails_either old new lived worked fails uncounted named leaves = fails_now old new lived worked fails uncounted named (λ f behind. inl (
    renamed m old new (opened g below) lived.0 lived.1 named behind.0,
    leaves lived.1 (m.book behind.0.written) f behind.1,
  ))

  -- nothing happened that a trace or the counts show
  still_on : (old new : M) → HasHistoryOn m g below old → m.is_failed old ≡ false → m.is_failed new ≡ m.is_failed old
      → ((t : List Entry) → m.fits old t → m.fits new t) → ((b : BookView) → m.holds old b → m.holds new b)
      → m.counts new ≡ m.counts old → m.id new ≡ m.id old → HasHistoryOn m g below new
  still_on old new lived worked same fits holds counted named = (
    lived.0,
    lived.1,
    record {
      goes = subst (λ (i : List ℕ). GoesInTurnBy (m.next i) lived.0 (opened g below) lived.1) (sym named) lived.2.goes;
      counted = counted ∙ lived.2.counted;
      sound = lived.2.sound;
      works = λ _. let now = lived.2.works worked in (fits lived.1 now.0, (renamed m old new (opened g below) lived.0 lived.1 named now.1.0, holds (m.book now.1.0.written) now.1.1));
      failed = λ fails. absurd (let bad : true ≡ false = sym fails ∙ same ∙ worked in cc);
    },
  )

  -- all that was held is written
  kept_on : (old new : M) → HasHistoryOn m g below old → m.is_failed old ≡ false → m.is_failed new ≡ false
      → ((t : List Entry) → m.fits old t → m.fits new t)
      → ((t : List Entry) (b : BookView) → m.fits old t → m.holds old b → m.keeps new (m.book t))
      → m.counts new ≡ m.counts old → m.id new ≡ m.id old → HasKeptOn m g below new
  kept_on old new lived worked works fits keeps counted named =
      let now = lived.2.works worked in
      let kept : m.keeps new (m.book lived.1) = keeps lived.1 (m.book now.1.0.written) now.0 now.1.1 in
      let on : GoesInTurnBy (m.next (m.id new)) lived.0 (opened g below) lived.1
      = subst (λ (i : List ℕ). GoesInTurnBy (m.next i) lived.0 (opened g below) lived.1) (sym named) lived.2.goes in (
        (
          lived.0,
          lived.1,
          record {
            goes = on;
            counted = counted ∙ lived.2.counted;
            sound = lived.2.sound;
            works = λ _. (fits lived.1 now.0, kept_all m new (opened g below) lived.0 lived.1 on kept);
            failed = λ fails. absurd (let bad : true ≡ false = sym fails ∙ works in cc);
          },
        ),
        kept,
      )

  -- what is held is written, or the disk fails, or memory is refused
  all_kept_on : {A : Type 0} (old new : M) (r : Result A CoreFault) → HasHistoryOn m g below old
      → OnOk r ((t : List Entry) → m.fits old t → m.fits new t)
      → OnOk r (m.is_failed new ≡ false)
      → OnOk r ((t : List Entry) (b : BookView) → m.fits old t → m.holds old b → m.keeps new (m.book t))
      → m.counts new ≡ m.counts old → m.id new ≡ m.id old → (m.is_failed old ≡ true → r ≡ Err Failed) → OnOk r (HasKeptOn m g below new)
  all_kept_on old new (Ok x) lived fits works keeps counts named failed = kept_on old new lived (worked x (m.is_failed old) failed) works fits keeps counts named
  all_kept_on old new (Err f) lived fits works keeps counts named failed = tt

  written_on : {A : Type 0} (old new : M) (r : Result A CoreFault) → HasHistoryOn m g below old
      → OnOk r ((t : List Entry) → m.fits old t → m.fits new t)
      → OnOk r (m.is_failed new ≡ false)
      → OnOk r ((t : List Entry) (b : BookView) → m.fits old t → m.holds old b → m.keeps new (m.book t))
      → ((t : List Entry) (b : BookView) → m.fits old t → m.holds old b → m.leaves new (EitherOf b (m.book t)))
      → m.counts new ≡ m.counts old → m.id new ≡ m.id old
      → IfErr r (λ f. f ≡ NoConnection → ⊥)
      → (m.is_failed old ≡ true → r ≡ Err Failed)
      → IfErr r (λ f. f ≡ Failed → (new ≡ old) × (m.is_failed old ≡ true))
      → IfErr r (λ f. f ≡ Memory → m.is_failed new ≡ true) → IfErr r (λ f. f ≡ Disk → m.is_failed new ≡ true) → HasHistoryOn m g below new
  written_on old new (Ok x) lived fits works keeps leaves counts named taken failed unchanged memory disk =
      (kept_on old new lived (worked x (m.is_failed old) failed) works fits keeps counts named).0
  written_on {A} old new (Err Disk) lived fits works keeps leaves counts named taken failed unchanged memory disk =
      fails_either old new lived (worked_disk {A = A} (Err Disk) (m.is_failed old) refl failed) (disk refl) counts named leaves
  written_on {A} old new (Err Memory) lived fits works keeps leaves counts named taken failed unchanged memory disk =
      fails_either old new lived (worked_memory {A = A} (Err Memory) (m.is_failed old) refl failed) (memory refl) counts named leaves
  written_on old new (Err Failed) lived fits works keeps leaves counts named taken failed unchanged memory disk = subst (HasHistoryOn m g below) (sym (unchanged refl).0) lived
  written_on old new (Err NoConnection) lived fits works keeps leaves counts named taken failed unchanged memory disk = absurd (taken refl)

  -- an event is handled, or declined, or the disk fails, or memory is refused
  handled_on : (old new : M) (e : Event) (r : Result Done CoreFault) → HasKeptOn m g below old
      → OnOk r ((t : List Entry) → m.fits old t → m.fits new (m.next (m.id old) t (step_of e)))
      → OnOk r ((t : List Entry) → m.fits old t → declines t e ≡ false)
      → OnOk r (m.is_failed new ≡ false)
      → OnOk r ((t : List Entry) → m.fits old t → m.keeps old (m.book t) → m.keeps new (m.book (m.next (m.id old) t (step_of e))))
      → ((t : List Entry) → m.fits old t → m.keeps old (m.book t) → m.leaves new (BookAt m t e))
      → OnOk r (m.counts new ≡ with_event e (m.counts old)) → OnErr r (m.counts new ≡ m.counts old) → m.id new ≡ m.id old
      → (m.is_failed old ≡ true → r ≡ Err Failed)
      → IfErr r (λ f. f ≡ NoConnection → (new ≡ old) × ((t : List Entry) → m.fits old t → declines t e ≡ true))
      → ((t : List Entry) → m.fits old t → m.is_failed old ≡ false → declines t e ≡ true → r ≡ Err NoConnection)
      → IfErr r (λ f. f ≡ Failed → (new ≡ old) × (m.is_failed old ≡ true))
      → IfErr r (λ f. f ≡ Memory → m.is_failed new ≡ true) → IfErr r (λ f. f ≡ Disk → m.is_failed new ≡ true) → HasHistoryOn m g below new
  handled_on old new e (Ok d) kept fits taken works keeps leaves counted same named failed refused refuses unchanged memory disk =
      let ms = kept.0.0 in
      let t = kept.0.1 in
      let u : List Entry = m.next (m.id old) t (step_of e) in
      event_more old new e kept.0 (worked d (m.is_failed old) failed) works fits taken (λ f _. (
        renamed m old new (opened g below) (ms ++ handles (step_of e) ∷ []) u named
            (none_held m old (opened g below) (ms ++ handles (step_of e) ∷ []) u (event_joined (m.next (m.id old)) ms e (opened g below) t kept.0.2.goes (taken t f))),
        m.kept_is_held new (m.book u) (keeps t f kept.1),
      )) counted named
  handled_on old new e (Err Disk) kept fits taken works keeps leaves counted same named failed refused refuses unchanged memory disk =
      let worked = worked_disk {A = Done} (Err Disk) (m.is_failed old) refl failed in
      let t = kept.0.1 in
      fails_now old new kept.0 worked (disk refl) same named (λ f _. inr (e, not_declined {A = Done} (Err Disk) (declines t e) (inl refl) (refuses t f worked), leaves t f kept.1))
  handled_on old new e (Err Memory) kept fits taken works keeps leaves counted same named failed refused refuses unchanged memory disk =
      let worked = worked_memory {A = Done} (Err Memory) (m.is_failed old) refl failed in
      let t = kept.0.1 in
      fails_now old new kept.0 worked (memory refl) same named (λ f _. inr (e, not_declined {A = Done} (Err Memory) (declines t e) (inr refl) (refuses t f worked), leaves t f kept.1))
  handled_on old new e (Err Failed) kept fits taken works keeps leaves counted same named failed refused refuses unchanged memory disk = subst (HasHistoryOn m g below) (sym (unchanged refl).0) kept.0
  handled_on old new e (Err NoConnection) kept fits taken works keeps leaves counted same named failed refused refuses unchanged memory disk = subst (HasHistoryOn m g below) (sym (refused refl).0) kept.0

  -- an event is handled and its batch is held, or it is declined, or the disk fails, or memory is refused
  held_on : (old new : M) (e : Event) (r : Result Done CoreFault) → HasHistoryOn m g below old
      → OnOk r ((t : List Entry) → m.fits old t → m.fits new (m.next (m.id old) t (step_of e)))
      → OnOk r ((t : List Entry) → m.fits old t → declines t e ≡ false)
      → OnOk r (m.is_failed new ≡ false)
      → OnOk r ((t : List Entry) (b : BookView) → m.fits old t → m.holds old b → m.holds new b ⊎ m.holds new (m.book t))
      → ((t : List Entry) (b : BookView) → m.fits old t → m.holds old b → m.leaves new (EitherOf b (m.book t)))
      → OnOk r (m.counts new ≡ with_event e (m.counts old)) → OnErr r (m.counts new ≡ m.counts old) → m.id new ≡ m.id old
      → (m.is_failed old ≡ true → r ≡ Err Failed)
      → IfErr r (λ f. f ≡ NoConnection → (new ≡ old) × ((t : List Entry) → m.fits old t → declines t e ≡ true))
      → IfErr r (λ f. f ≡ Failed → (new ≡ old) × (m.is_failed old ≡ true))
      → IfErr r (λ f. f ≡ Memory → m.is_failed new ≡ true) → IfErr r (λ f. f ≡ Disk → m.is_failed new ≡ true) → HasHistoryOn m g below new
  held_on old new e (Ok d) lived fits taken works holds leaves counted same named failed refused unchanged memory disk =
      event_more old new e lived (worked d (m.is_failed old) failed) works fits taken (λ f behind. held_more m old new (opened g below) lived.0 lived.1 e
      lived.2.goes (taken lived.1 f) named behind.0 (holds lived.1 (m.book behind.0.written) f behind.1)) counted named
  held_on old new e (Err Disk) lived fits taken works holds leaves counted same named failed refused unchanged memory disk =
      fails_either old new lived (worked_disk {A = Done} (Err Disk) (m.is_failed old) refl failed) (disk refl) same named leaves
  held_on old new e (Err Memory) lived fits taken works holds leaves counted same named failed refused unchanged memory disk =
      fails_either old new lived (worked_memory {A = Done} (Err Memory) (m.is_failed old) refl failed) (memory refl) same named leaves
  held_on old new e (Err Failed) lived fits taken works holds leaves counted same named failed refused unchanged memory disk = subst (HasHistoryOn m g below) (sym (unchanged refl).0) lived
  held_on old new e (Err NoConnection) lived fits taken works holds leaves counted same named failed refused unchanged memory disk = subst (HasHistoryOn m g below) (sym (refused refl).0) lived

  -- items are taken, or the connection is unknown, or memory is refused
  taken_on : (old new : M) (c : ConnectionId) (r : Result Batch CoreFault) → HasKeptOn m g below old
      → IfOk r (λ batch. (t : List Entry) → m.fits old t → m.fits new (Took c.0 (length batch.items.items) ∷ t))
      → IfOk r (λ batch. (t : List Entry) → m.fits old t → IsBatchOf (conn t c.0) 64 batch)
      → OnOk r (m.is_failed new ≡ false)
      → IfOk r (λ batch. (t : List Entry) → m.keeps old (m.book t) → m.keeps new (m.book (Took c.0 (length batch.items.items) ∷ t)))
      → OnErr r ((b : BookView) → m.keeps old b → m.keeps new b)
      → OnOk r (m.counts new ≡ with_batch (m.counts old)) → OnErr r (m.counts new ≡ m.counts old) → m.id new ≡ m.id old
      → (m.is_failed old ≡ true → r ≡ Err Failed)
      → IfErr r (λ f. f ≡ NoConnection → (new ≡ old) × ((t : List Entry) → m.fits old t → conn t c.0 ≡ None))
      → IfErr r (λ f. f ≡ Failed → (new ≡ old) × (m.is_failed old ≡ true))
      → IfErr r (λ f. f ≡ Memory → m.is_failed new ≡ true) → IfErr r (λ f. f ≡ Disk → ⊥) → HasHistoryOn m g below new
  taken_on old new c (Ok b) kept fits batch works keeps still counted same named failed refused unchanged memory disk =
      take_more old new c b kept (worked b (m.is_failed old) failed) works fits batch keeps counted named
  taken_on old new c (Err Disk) kept fits batch works keeps still counted same named failed refused unchanged memory disk = absurd (disk refl)
  taken_on old new c (Err Memory) kept fits batch works keeps still counted same named failed refused unchanged memory disk =
      let worked = worked_memory {A = Batch} (Err Memory) (m.is_failed old) refl failed in
      let ms = kept.0.0 in
      let t = kept.0.1 in
      fails_now old new kept.0 worked (memory refl) same named (λ f _. inl (leaves_kept m new (opened g below) ms t
      (subst (λ (i : List ℕ). GoesInTurnBy (m.next i) ms (opened g below) t) (sym named) kept.0.2.goes) (still (m.book t) kept.1)))
  taken_on old new c (Err Failed) kept fits batch works keeps still counted same named failed refused unchanged memory disk = subst (HasHistoryOn m g below) (sym (unchanged refl).0) kept.0
  taken_on old new c (Err NoConnection) kept fits batch works keeps still counted same named failed refused unchanged memory disk = subst (HasHistoryOn m g below) (sym (refused refl).0) kept.0

  -- a batch was taken of a router with such a history
  given_on : (old : M) (c : ConnectionId) (b : Batch) → HasHistoryOn m g below old → m.is_failed old ≡ false
      → ((t : List Entry) → m.fits old t → IsBatchOf (conn t c.0) 64 b) → IsGivenOn m g below c b
  given_on old c b lived worked batch = record {
    id = m.id old;
    moves = lived.0;
    at = lived.1;
    goes = lived.2.goes;
    batch = batch lived.1 (lived.2.works worked).0;
  }

module _ {M : Type 0} (m : Meaning M) (g : Beginning) where
  pub given : (old : M) (c : ConnectionId) (b : Batch) → HasHistory m g old → (m.is_failed old ≡ true → Ok b ≡ Err Failed)
      → ((t : List Entry) → m.fits old t → IsBatchOf (conn t c.0) 64 b) → IsGiven m g c b
  given old c b lived failed batch below = given_on m g below old c b (lived below) (worked b (m.is_failed old) failed) batch

  pub none_yet : (router : M) → IsOpened m g router → HasHistory m g router
  none_yet router was below = none_on m g below router was

  -- while its journal keeps the book, it has a history
  pub history_of : (router : M) → HasKept m g router → HasHistory m g router
  history_of router kept below = (kept below).0

  pub all_kept : {A : Type 0} (old new : M) (r : Result A CoreFault) → HasHistory m g old
      → OnOk r ((t : List Entry) → m.fits old t → m.fits new t)
      → OnOk r (m.is_failed new ≡ false)
      → OnOk r ((t : List Entry) (b : BookView) → m.fits old t → m.holds old b → m.keeps new (m.book t))
      → m.counts new ≡ m.counts old → m.id new ≡ m.id old → (m.is_failed old ≡ true → r ≡ Err Failed) → OnOk r (HasKept m g new)
  all_kept old new (Ok x) lived fits works keeps counts named failed = λ below. all_kept_on m g below old new (Ok x) (lived below) fits works keeps counts named failed
  all_kept old new (Err f) lived fits works keeps counts named failed = tt

  pub written : {A : Type 0} (old new : M) (r : Result A CoreFault) → HasHistory m g old
      → OnOk r ((t : List Entry) → m.fits old t → m.fits new t)
      → OnOk r (m.is_failed new ≡ false)
      → OnOk r ((t : List Entry) (b : BookView) → m.fits old t → m.holds old b → m.keeps new (m.book t))
      → ((t : List Entry) (b : BookView) → m.fits old t → m.holds old b → m.leaves new (EitherOf b (m.book t)))
      → m.counts new ≡ m.counts old → m.id new ≡ m.id old
      → IfErr r (λ f. f ≡ NoConnection → ⊥)
      → (m.is_failed old ≡ true → r ≡ Err Failed)
      → IfErr r (λ f. f ≡ Failed → (new ≡ old) × (m.is_failed old ≡ true))
      → IfErr r (λ f. f ≡ Memory → m.is_failed new ≡ true) → IfErr r (λ f. f ≡ Disk → m.is_failed new ≡ true) → HasHistory m g new
  written old new r lived fits works keeps leaves counts named taken failed unchanged memory disk below =
      written_on m g below old new r (lived below) fits works keeps leaves counts named taken failed unchanged memory disk

  pub handled : (old new : M) (e : Event) (r : Result Done CoreFault) → HasKept m g old
      → OnOk r ((t : List Entry) → m.fits old t → m.fits new (m.next (m.id old) t (step_of e)))
      → OnOk r ((t : List Entry) → m.fits old t → declines t e ≡ false)
      → OnOk r (m.is_failed new ≡ false)
      → OnOk r ((t : List Entry) → m.fits old t → m.keeps old (m.book t) → m.keeps new (m.book (m.next (m.id old) t (step_of e))))
      → ((t : List Entry) → m.fits old t → m.keeps old (m.book t) → m.leaves new (BookAt m t e))
      → OnOk r (m.counts new ≡ with_event e (m.counts old)) → OnErr r (m.counts new ≡ m.counts old) → m.id new ≡ m.id old
      → (m.is_failed old ≡ true → r ≡ Err Failed)
      → IfErr r (λ f. f ≡ NoConnection → (new ≡ old) × ((t : List Entry) → m.fits old t → declines t e ≡ true))
      → ((t : List Entry) → m.fits old t → m.is_failed old ≡ false → declines t e ≡ true → r ≡ Err NoConnection)
      → IfErr r (λ f. f ≡ Failed → (new ≡ old) × (m.is_failed old ≡ true))
      → IfErr r (λ f. f ≡ Memory → m.is_failed new ≡ true) → IfErr r (λ f. f ≡ Disk → m.is_failed new ≡ true) → HasHistory m g new
  handled old new e r kept fits taken works keeps leaves counted same named failed refused refuses unchanged memory disk below =
      handled_on m g below old new e r (kept below) fits taken works keeps leaves counted same named failed refused refuses unchanged memory disk

  pub held : (old new : M) (e : Event) (r : Result Done CoreFault) → HasHistory m g old
      → OnOk r ((t : List Entry) → m.fits old t → m.fits new (m.next (m.id old) t (step_of e)))
      → OnOk r ((t : List Entry) → m.fits old t → declines t e ≡ false)
      → OnOk r (m.is_failed new ≡ false)
      → OnOk r ((t : List Entry) (b : BookView) → m.fits old t → m.holds old b → m.holds new b ⊎ m.holds new (m.book t))
      → ((t : List Entry) (b : BookView) → m.fits old t → m.holds old b → m.leaves new (EitherOf b (m.book t)))
      → OnOk r (m.counts new ≡ with_event e (m.counts old)) → OnErr r (m.counts new ≡ m.counts old) → m.id new ≡ m.id old
      → (m.is_failed old ≡ true → r ≡ Err Failed)
      → IfErr r (λ f. f ≡ NoConnection → (new ≡ old) × ((t : List Entry) → m.fits old t → declines t e ≡ true))
      → IfErr r (λ f. f ≡ Failed → (new ≡ old) × (m.is_failed old ≡ true))
      → IfErr r (λ f. f ≡ Memory → m.is_failed new ≡ true) → IfErr r (λ f. f ≡ Disk → m.is_failed new ≡ true) → HasHistory m g new
  held old new e r lived fits taken works holds leaves counted same named failed refused unchanged memory disk below =
      held_on m g below old new e r (lived below) fits taken works holds leaves counted same named failed refused unchanged memory disk

  pub taken : (old new : M) (c : ConnectionId) (r : Result Batch CoreFault) → HasKept m g old
      → IfOk r (λ batch. (t : List Entry) → m.fits old t → m.fits new (Took c.0 (length batch.items.items) ∷ t))
      → IfOk r (λ batch. (t : List Entry) → m.fits old t → IsBatchOf (conn t c.0) 64 batch)
      → OnOk r (m.is_failed new ≡ false)
      → IfOk r (λ batch. (t : List Entry) → m.keeps old (m.book t) → m.keeps new (m.book (Took c.0 (length batch.items.items) ∷ t)))
      → OnErr r ((b : BookView) → m.keeps old b → m.keeps new b)
      → OnOk r (m.counts new ≡ with_batch (m.counts old)) → OnErr r (m.counts new ≡ m.counts old) → m.id new ≡ m.id old
      → (m.is_failed old ≡ true → r ≡ Err Failed)
      → IfErr r (λ f. f ≡ NoConnection → (new ≡ old) × ((t : List Entry) → m.fits old t → conn t c.0 ≡ None))
      → IfErr r (λ f. f ≡ Failed → (new ≡ old) × (m.is_failed old ≡ true))
      → IfErr r (λ f. f ≡ Memory → m.is_failed new ≡ true) → IfErr r (λ f. f ≡ Disk → ⊥) → HasHistory m g new
  taken old new c r kept fits batch works keeps still counted same named failed refused unchanged memory disk below =
      taken_on m g below old new c r (kept below) fits batch works keeps still counted same named failed refused unchanged memory disk

  pub still : (old new : M) → HasHistory m g old → m.is_failed old ≡ false → m.is_failed new ≡ m.is_failed old
      → ((t : List Entry) → m.fits old t → m.fits new t) → ((b : BookView) → m.holds old b → m.holds new b)
      → m.counts new ≡ m.counts old → m.id new ≡ m.id old → HasHistory m g new
  still old new lived worked same fits holds counted named below = still_on m g below old new (lived below) worked same fits holds counted named
