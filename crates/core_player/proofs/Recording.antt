-- What is recorded while a router handles events and items are taken.
use Rattle.std.proofs.Common.{◌≡◌, ◌∙◌, sym, ap, refl, subst, ℕ, ◌-◌, Bool, true, false, List, [], ◌∷◌, ◌++◌, length, drop, take, append_assoc, append-nil, Result, Ok, Err, arith}
use Rattle.std.specs.Prelude.{◌==◌, if◌then◌else◌, map, flat_map, Option, Some, None, option_and_then, unwrap_or, IfSome, IfNone}
use Rattle.std.specs.Ordering.{nat_cmp}
use Rattle.std.specs.BTreeMap.{get}
use Rattle.std.proofs.lemmas.List.{length-drop}
use Rattle.amqp_model.specs.declared.item.Item.{Item}
use Rattle.book_model.specs.declared.act.Act.{Act}
use Rattle.book_model.specs.Book.{BookView}
use Rattle.router_trace.specs.declared.event.ConnectionId.{ConnectionId}
use Rattle.router_trace.specs.declared.event.Event.{Event}
use Rattle.router_trace.specs.Trace.{Beginning, Trace, Step, Took, step_of}
use Rattle.router_trace.specs.Configuration.{opened}
use Rattle.router_trace.specs.Connection.{Connection, conn, took, drained, unless_empty}
use Rattle.core_machine.specs.declared.answers.Batch.{Batch}
use Rattle.core_machine.specs.declared.answers.Done.{Done}
use Rattle.core_machine.specs.declared.fault.CoreFault.{CoreFault}
use Rattle.core_machine.specs.declared.fault.CoreFault.TheVariants.{Disk, Memory, Failed, NoConnection}
use Rattle.core_machine.specs.Meaning.{Meaning, KeptAt, IsBatchOf}
use Rattle.core_machine.specs.Moves.{Move, handles, takes, GoesInTurnBy, taking, items_of, waiting_of, took_one}
use Rattle.core_machine.specs.Turns.{declines}
use Rattle.core_player.specs.declared.entry.Came.{Came}
use Rattle.core_player.specs.declared.entry.Entry.{Entry}
use Rattle.core_player.specs.declared.entry.Entry.TheVariants as entry
use Rattle.core_player.specs.declared.recorder.Cut.{Cut}
use Rattle.core_player.specs.declared.recorder.Recorder.{Recorder}
use Rattle.core_player.specs.Entries.{Shows, PutsBehind, came_of, event_entry, outs_behind, out_entry, took_entry, waits}
use Rattle.core_player.specs.Recording.{IsLeft, Recorded, RecordedOn, Shown, cut_after, lengths_of}

-- the same lengths, the same items behind them
same_outs : (f g : ℕ → ℕ) (u : Trace) (cs : List ℕ) → ((c : ℕ) → f c ≡ g c) → flat_map (outs_behind f u) cs ≡ flat_map (outs_behind g u) cs
same_outs f g u [] same = refl
same_outs f g u (c ∷ cs) same =
    ap (λ (n : ℕ). map (out_entry c) (drop n (waiting_of (conn u c))) ++ flat_map (outs_behind f u) cs) (same c)
    ∙ ap (λ (es : List Entry). outs_behind g u c ++ es) (same_outs f g u cs same)

same_puts : (f g : ℕ → ℕ) (u : Trace) (es : List Entry) → ((c : ℕ) → f c ≡ g c) → PutsBehind f u es → PutsBehind g u es
same_puts f g u es same puts = (puts.0, puts.1, puts.2 ∙ same_outs f g u puts.0 same)

-- how many items wait after a take
taken_length : (n : ℕ) (o : Option Connection) → length (waiting_of (option_and_then (took n) o)) ≡ length (waiting_of o) - n
taken_length n None = omega arith
taken_length n (Some v) = by v.phase.closed ∙ length-drop n v.waiting
  where
    gone : (xs : List Item) → drop n v.waiting ≡ xs → length (waiting_of (unless_empty (drained n v) xs)) ≡ length xs
    gone [] is = refl
    gone (x ∷ xs) is = ap length is

    by : (b : Bool) → length (waiting_of (if b then unless_empty (drained n v) (drop n v.waiting) else Some (drained n v))) ≡ length (drop n v.waiting)
    by true = gone (drop n v.waiting) refl
    by false = refl

took_waits : (t : Trace) (d n c : ℕ) → waits (Took d n ∷ t) c ≡ (if d == c then waits t c - n else waits t c)
took_waits t d n c = by (d == c)
  where
    by : (b : Bool) → length (waiting_of (if b then option_and_then (took n) (conn t c) else conn t c)) ≡ (if b then waits t c - n else waits t c)
    by true = taken_length n (conn t c)
    by false = refl

-- the number of items in a batch
batch_length : (o : Option Connection) (b : Batch) → IsBatchOf o 64 b → length b.items.items ≡ length (take 64 (waiting_of o))
batch_length None b is = elim is [ ]
batch_length (Some v) b is = ap length is.in_order

-- the acts of an answer are those that it should have
pub told_acts : {X : Type 0} (o : Option X) (of : X → List Act) (acts ys : List Act) → IfSome o (λ x. acts ≡ of x) → IfNone o (acts ≡ []) → IfSome o (λ x. of x ≡ ys) → IfNone o (ys ≡ [])
    → acts ≡ ys
told_acts None of acts ys some none written silent = none ∙ sym silent
told_acts (Some x) of acts ys some none written silent = some ∙ written

module _ (next : Trace → Step → Trace) (acts : Trace → Event → List Act) where
  -- what moves show, then more moves
  shows_more : (ms ns : List Move) (t u : Trace) (es fs : List Entry) → GoesInTurnBy next ms t u → Shows next acts ms t es → Shows next acts ns u fs → Shows next acts (ms ++ ns) t (es ++ fs)
  shows_more [] ns t u es fs goes front back =
      subst (λ (xs : List Entry). Shows next acts ns t (xs ++ fs)) (sym front) (subst (λ (v : Trace). Shows next acts ns v fs) goes back)
  shows_more (handles s ∷ ms) ns t u es fs goes front back = (
    front.0,
    front.1 ++ fs,
    front.2,
    shows_more ms ns (next t s) u front.1 fs goes.1 front.3 back,
    ap (λ (xs : List Entry). xs ++ fs) front.4 ∙ ap (λ (xs : List Entry). event_entry s.event (acts t s.event) ∷ xs) (append_assoc front.0 front.1 fs),
  )
  shows_more (takes x ∷ ms) ns t u es fs goes front back = (
    front.0 ++ fs,
    shows_more ms ns (took_one x t) u front.0 fs goes front.1 back,
    ap (λ (xs : List Entry). xs ++ fs) front.2 ∙ append_assoc (took_entry x.conn (length (items_of x t))) front.0 fs,
  )

  -- moves, then more moves
  goes_more : (ms ns : List Move) (t u v : Trace) → GoesInTurnBy next ms t u → GoesInTurnBy next ns u v → GoesInTurnBy next (ms ++ ns) t v
  goes_more [] ns t u v front back = subst (λ (w : Trace). GoesInTurnBy next ns w v) front back
  goes_more (handles s ∷ ms) ns t u v front back = (front.0, goes_more ms ns (next t s) u v front.1 back)
  goes_more (takes x ∷ ms) ns t u v front back = goes_more ms ns (took_one x t) u v front back

-- after such an answer the router hadn't failed before, and didn't decline the event
pub worked : {A : Type 0} (r : Result A CoreFault) (b : Bool) → (b ≡ true → r ≡ Err Failed) → (r ≡ Err Failed → ⊥) → b ≡ false
worked r true failed isnt = absurd (isnt (failed refl))
worked r false failed isnt = refl

not_declined : {A : Type 0} (r : Result A CoreFault) (b : Bool) → (b ≡ true → r ≡ Err NoConnection) → (r ≡ Err NoConnection → ⊥) → b ≡ false
not_declined r true refuses isnt = absurd (isnt (refuses refl))
not_declined r false refuses isnt = refl

-- two faults are two answers
isnt_ok : {A : Type 0} (r : Result A CoreFault) (x : A) (f : CoreFault) → r ≡ Ok x → r ≡ Err f → ⊥
isnt_ok r x f is too = let bad : Ok x ≡ Err f = sym is ∙ too in absurd cc

pub works_before : {A : Type 0} (r : Result A CoreFault) (x : A) (b : Bool) → r ≡ Ok x → (b ≡ true → r ≡ Err Failed) → b ≡ false
works_before r x b is failed = worked r b failed (isnt_ok r x Failed is)

module _ {M : Type 0} (m : Meaning M) where
  -- nothing happened yet
  pub opened_recorded : (first : M) (r : Recorder) → m.is_failed first ≡ false → r.entries.items ≡ [] → ((c : ℕ) → lengths_of r c ≡ 0) → r.cut ≡ None → Recorded m first first r
  opened_recorded first r works none lengths cut = record {
    named = refl;
    on = λ g was below. record {
      moves = [];
      at = opened g below;
      is = record { goes = refl; shows = none };
      works = λ w. record { fits = was.fits below; keeps = was.keeps below; lengths = lengths; uncut = cut };
      fails = λ fails. absurd (let bad : true ≡ false = sym fails ∙ works in cc);
    };
  }

  -- an event was handled
  module _ (old new : M) (p q : Recorder) (e : Event) (came : Came) (is_came : came ≡ came_of e) (acts : List Act) (working : m.is_failed old ≡ false) (works : m.is_failed new ≡ false) (named : m.id new ≡ m.id old)
      (fits : (t : Trace) → m.fits old t → m.fits new (m.next (m.id old) t (step_of e)))
      (taken : (t : Trace) → m.fits old t → declines t e ≡ false)
      (keeps : (t : Trace) → m.fits old t → m.keeps old (m.book t) → m.keeps new (m.book (m.next (m.id old) t (step_of e))))
      (told : (t : Trace) → m.fits old t → acts ≡ m.acts t e)
      (entries : (t : Trace) → m.fits new t → (outs : List Entry) × PutsBehind (lengths_of p) t outs × (q.entries.items ≡ p.entries.items ++ entry.Event came acts ∷ outs))
      (lengths : (t : Trace) → m.fits new t → (c : ℕ) → lengths_of q c ≡ waits t c)
      (cut : q.cut ≡ p.cut) where
    handled_on : (g : Beginning) (below : Trace) → RecordedOn m g below old p → RecordedOn m g below new q
    handled_on g below r =
        let was = r.works working in
        let next = m.next (m.id old) in
        let u : Trace = next r.at (step_of e) in
        let more = entries u (fits r.at was.fits) in
        let one : Shows next m.acts (handles (step_of e) ∷ []) r.at (event_entry e (m.acts r.at e) ∷ more.0) =
        (more.0, [], same_puts (lengths_of p) (waits r.at) u more.0 was.lengths more.1, refl, ap (λ (es : List Entry). event_entry e (m.acts r.at e) ∷ es) (sym (append-nil more.0))) in
        let all : Shows next m.acts (r.moves ++ handles (step_of e) ∷ []) (opened g below) q.entries.items =
        subst (λ (es : List Entry). Shows next m.acts (r.moves ++ handles (step_of e) ∷ []) (opened g below) es)
        (sym (more.2 ∙ ap (λ (x : Came). p.entries.items ++ entry.Event x acts ∷ more.0) is_came
        ∙ ap (λ (xs : List Act). p.entries.items ++ event_entry e xs ∷ more.0) (told r.at was.fits)))
        (shows_more next m.acts r.moves (handles (step_of e) ∷ []) (opened g below) r.at p.entries.items (event_entry e (m.acts r.at e) ∷ more.0) r.is.goes r.is.shows one) in
        let goes : GoesInTurnBy next (r.moves ++ handles (step_of e) ∷ []) (opened g below) u =
        goes_more next m.acts r.moves (handles (step_of e) ∷ []) (opened g below) r.at u r.is.goes (taken r.at was.fits, refl) in record {
          moves = r.moves ++ handles (step_of e) ∷ [];
          at = u;
          is = record {
            goes = subst (λ (i : List ℕ). GoesInTurnBy (m.next i) (r.moves ++ handles (step_of e) ∷ []) (opened g below) u) (sym named) goes;
            shows = subst (λ (i : List ℕ). Shows (m.next i) m.acts (r.moves ++ handles (step_of e) ∷ []) (opened g below) q.entries.items) (sym named) all;
          };
          works = λ w. record { fits = fits r.at was.fits; keeps = keeps r.at was.fits was.keeps; lengths = lengths u (fits r.at was.fits); uncut = cut ∙ was.uncut };
          fails = λ fails. absurd (let bad : true ≡ false = sym fails ∙ works in cc);
        }

    pub handled_recorded : (first : M) → Recorded m first old p → Recorded m first new q
    handled_recorded first r = record { named = named ∙ r.named; on = λ g was below. handled_on g below (r.on g was below) }

  -- items were taken
  module _ (old new : M) (p q : Recorder) (c : ConnectionId) (b : Batch) (working : m.is_failed old ≡ false) (works : m.is_failed new ≡ false) (named : m.id new ≡ m.id old)
      (fits : (t : Trace) → m.fits old t → m.fits new (Took c.0 (length b.items.items) ∷ t))
      (batch : (t : Trace) → m.fits old t → IsBatchOf (conn t c.0) 64 b)
      (keeps : (t : Trace) → m.keeps old (m.book t) → m.keeps new (m.book (Took c.0 (length b.items.items) ∷ t)))
      (entries : q.entries.items ≡ p.entries.items ++ took_entry c (length b.items.items))
      (lengths : (d : ℕ) → lengths_of q d ≡ (if c.0 == d then lengths_of p d - length b.items.items else lengths_of p d))
      (cut : q.cut ≡ p.cut) where
    taken_on : (g : Beginning) (below : Trace) → RecordedOn m g below old p → RecordedOn m g below new q
    taken_on g below r =
        let was = r.works working in
        let next = m.next (m.id old) in
        let n = length b.items.items in
        let same : n ≡ length (items_of (taking c) r.at) = batch_length (conn r.at c.0) b (batch r.at was.fits) in
        let u : Trace = took_one (taking c) r.at in
        let one : Shows next m.acts (takes (taking c) ∷ []) r.at (took_entry c n) =
        ([], refl, ap (took_entry c) same ∙ sym (append-nil (took_entry c (length (items_of (taking c) r.at))))) in
        let all : Shows next m.acts (r.moves ++ takes (taking c) ∷ []) (opened g below) q.entries.items =
        subst (λ (es : List Entry). Shows next m.acts (r.moves ++ takes (taking c) ∷ []) (opened g below) es) (sym entries)
        (shows_more next m.acts r.moves (takes (taking c) ∷ []) (opened g below) r.at p.entries.items (took_entry c n) r.is.goes r.is.shows one) in
        let goes : GoesInTurnBy next (r.moves ++ takes (taking c) ∷ []) (opened g below) u =
        goes_more next m.acts r.moves (takes (taking c) ∷ []) (opened g below) r.at u r.is.goes refl in record {
          moves = r.moves ++ takes (taking c) ∷ [];
          at = u;
          is = record {
            goes = subst (λ (i : List ℕ). GoesInTurnBy (m.next i) (r.moves ++ takes (taking c) ∷ []) (opened g below) u) (sym named) goes;
            shows = subst (λ (i : List ℕ). Shows (m.next i) m.acts (r.moves ++ takes (taking c) ∷ []) (opened g below) q.entries.items) (sym named) all;
          };
          works = λ w. record {
            fits = subst (λ (k : ℕ). m.fits new (Took c.0 k ∷ r.at)) same (fits r.at was.fits);
            keeps = subst (λ (k : ℕ). m.keeps new (m.book (Took c.0 k ∷ r.at))) same (keeps r.at was.keeps);
            lengths = λ d.
                lengths d ∙ ap (λ (k : ℕ). if c.0 == d then k - n else k) (was.lengths d)
                ∙ ap (λ (k : ℕ). if c.0 == d then waits r.at d - k else waits r.at d) same ∙ sym (took_waits r.at c.0 (length (items_of (taking c) r.at)) d);
            uncut = cut ∙ was.uncut;
          };
          fails = λ fails. absurd (let bad : true ≡ false = sym fails ∙ works in cc);
        }

    pub taken_recorded : (first : M) → Recorded m first old p → Recorded m first new q
    taken_recorded first r = record { named = named ∙ r.named; on = λ g was below. taken_on g below (r.on g was below) }

  -- the same is recorded, and what a trace shows of the router is the same
  pub same_recorded : (first old new : M) (p q : Recorder) → q.entries ≡ p.entries → q.lengths ≡ p.lengths → q.cut ≡ p.cut → new ≡ old → Recorded m first old p → Recorded m first new q
  same_recorded first old new p q entries lengths cut same r =
      subst (λ (k : M). Recorded m first k q) (sym same) (record {
        named = r.named;
        on = λ g was below. let h = r.on g was below in record {
          moves = h.moves;
          at = h.at;
          is = record { goes = h.is.goes; shows = subst (λ es. Shows (m.next (m.id old)) m.acts h.moves (opened g below) es.items) (sym entries) h.is.shows };
          works = λ w. let k = h.works w in record {
            fits = k.fits;
            keeps = k.keeps;
            lengths = λ c. subst (λ ls. unwrap_or (get nat_cmp ls c) 0 ≡ waits h.at c) (sym lengths) (k.lengths c);
            uncut = cut ∙ k.uncut;
          };
          fails = λ fails. subst (IsLeft m old h.at) (sym cut) (h.fails fails);
        };
      })

  -- the router fails now, with an event or with a take
  pub fails_recorded : (first old new : M) (p q : Recorder) → q.entries ≡ p.entries → m.is_failed old ≡ false → m.is_failed new ≡ true → m.id new ≡ m.id old
      → ((t : Trace) → m.fits old t → m.keeps old (m.book t) → p.cut ≡ None → IsLeft m new t q.cut) → Recorded m first old p → Recorded m first new q
  fails_recorded first old new p q entries working fails named left r = record {
    named = named ∙ r.named;
    on = λ g was below. let h = r.on g was below in record {
      moves = h.moves;
      at = h.at;
      is = record {
        goes = subst (λ (i : List ℕ). GoesInTurnBy (m.next i) h.moves (opened g below) h.at) (sym named) h.is.goes;
        shows = subst (λ (i : List ℕ). Shows (m.next i) m.acts h.moves (opened g below) q.entries.items) (sym named)
            (subst (λ es. Shows (m.next (m.id old)) m.acts h.moves (opened g below) es.items) (sym entries) h.is.shows);
      };
      works = λ works. absurd (let bad : true ≡ false = sym fails ∙ works in cc);
      fails = λ _. let k = h.works working in left h.at k.fits k.keeps k.uncut;
    };
  }

  -- a router that failed with an event
  module _ (first old new : M) (p q : Recorder) (e : Event) (came : Came) (n : ℕ) (r : Result Done CoreFault) (is_came : came ≡ came_of e) (counts : n ≡ m.batches old) (named : m.id new ≡ m.id old)
      (journal : (t : Trace) → m.fits old t → m.keeps old (m.book t) → m.leaves_journal new (KeptAt m (m.batches old) t e))
      (failed : m.is_failed old ≡ true → r ≡ Err Failed)
      (refuses : (t : Trace) → m.fits old t → m.is_failed old ≡ false → declines t e ≡ true → r ≡ Err NoConnection)
      (entries : q.entries ≡ p.entries) (lengths : q.lengths ≡ p.lengths) where
    by_event : (not_failed : r ≡ Err Failed → ⊥) (not_refused : r ≡ Err NoConnection → ⊥) → m.is_failed new ≡ true → q.cut ≡ Some (record { came = came; batches = n })
        → Recorded m first old p → Recorded m first new q
    by_event not_failed not_refused fails cut h =
        let working = worked r (m.is_failed old) failed not_failed in
        fails_recorded first old new p q entries working fails named
        (λ t fits keeps none. subst (IsLeft m new t) (sym cut) (
          e,
          is_came,
          not_declined r (declines t e) (refuses t fits working) not_refused,
          subst (λ (k : ℕ). m.leaves_journal new (KeptAt m k t e)) (sym counts) (journal t fits keeps),
        ))
        h

    pub fault_recorded : (fault : CoreFault) → r ≡ Err fault
        → (fault ≡ NoConnection → (new ≡ old) × ((t : Trace) → m.fits old t → declines t e ≡ true)) → (fault ≡ Failed → (new ≡ old) × (m.is_failed old ≡ true))
        → (fault ≡ Memory → m.is_failed new ≡ true) → (fault ≡ Disk → m.is_failed new ≡ true)
        → q.cut ≡ cut_after p.cut fault came n → Recorded m first old p → Recorded m first new q
    fault_recorded NoConnection is refused unchanged memory disk cut h = same_recorded first old new p q entries lengths cut (refused refl).0 h
    fault_recorded Failed is refused unchanged memory disk cut h = same_recorded first old new p q entries lengths cut (unchanged refl).0 h
    fault_recorded Memory is refused unchanged memory disk cut h =
        by_event (λ too. let bad : Err Memory ≡ Err Failed = sym is ∙ too in absurd cc) (λ too. let bad : Err Memory ≡ Err NoConnection = sym is ∙ too in absurd cc) (memory refl) cut h
    fault_recorded Disk is refused unchanged memory disk cut h =
        by_event (λ too. let bad : Err Disk ≡ Err Failed = sym is ∙ too in absurd cc) (λ too. let bad : Err Disk ≡ Err NoConnection = sym is ∙ too in absurd cc) (disk refl) cut h

  -- a router that failed with a take
  pub take_recorded : (first old new : M) (p : Recorder) (fault : CoreFault) (r : Result Batch CoreFault) → r ≡ Err fault → m.id new ≡ m.id old
      → ((b : BookView) → m.keeps old b → m.keeps new b) → (m.is_failed old ≡ true → r ≡ Err Failed)
      → (fault ≡ NoConnection → new ≡ old) → (fault ≡ Failed → new ≡ old) → (fault ≡ Memory → m.is_failed new ≡ true) → (fault ≡ Disk → ⊥)
      → Recorded m first old p → Recorded m first new p
  take_recorded first old new p NoConnection r is named still failed refused unchanged memory no_disk h = subst (λ (k : M). Recorded m first k p) (sym (refused refl)) h
  take_recorded first old new p Failed r is named still failed refused unchanged memory no_disk h = subst (λ (k : M). Recorded m first k p) (sym (unchanged refl)) h
  take_recorded first old new p Memory r is named still failed refused unchanged memory no_disk h =
      fails_recorded first old new p p refl (worked r (m.is_failed old) failed (λ too. let bad : Err Memory ≡ Err Failed = sym is ∙ too in absurd cc)) (memory refl) named
      (λ t fits keeps none. subst (IsLeft m new t) (sym none) (still (m.book t) keeps)) h
  take_recorded first old new p Disk r is named still failed refused unchanged memory no_disk h = absurd (no_disk refl)

  -- a router whose disk got a fuse
  pub fused_recorded : (first old new : M) (p : Recorder) → m.is_failed old ≡ false → m.is_failed new ≡ false → m.id new ≡ m.id old
      → ((t : Trace) → m.fits old t → m.fits new t) → ((b : BookView) → m.keeps old b → m.keeps new b) → Recorded m first old p → Recorded m first new p
  fused_recorded first old new p working works named fits keeps r = record {
    named = named ∙ r.named;
    on = λ g was below. let h = r.on g was below in record {
      moves = h.moves;
      at = h.at;
      is = record {
        goes = subst (λ (i : List ℕ). GoesInTurnBy (m.next i) h.moves (opened g below) h.at) (sym named) h.is.goes;
        shows = subst (λ (i : List ℕ). Shows (m.next i) m.acts h.moves (opened g below) p.entries.items) (sym named) h.is.shows;
      };
      works = λ _. let k = h.works working in record { fits = fits h.at k.fits; keeps = keeps (m.book h.at) k.keeps; lengths = k.lengths; uncut = k.uncut };
      fails = λ fails. absurd (let bad : true ≡ false = sym fails ∙ works in cc);
    };
  }

  -- a play that ended
  pub shown : (first now : M) (r : Recorder) (cut : Option Cut) → cut ≡ r.cut → Recorded m first now r → Shown m first now cut r.entries.items
  shown first now r cut same h = record {
    named = h.named;
    on = λ g was below. let k = h.on g was below in record {
      moves = k.moves;
      at = k.at;
      is = k.is;
      left = subst (IsLeft m now k.at) (sym same) (by k (m.is_failed now) refl);
    };
  }
    where
      by : {g : Beginning} {below : Trace} (k : RecordedOn m g below now r) (b : Bool) → m.is_failed now ≡ b → IsLeft m now k.at r.cut
      by k false works = let w = k.works works in subst (IsLeft m now k.at) (sym w.uncut) w.keeps
      by k true fails = k.fails fails
