-- What the acts of an event give rows: those decisions that it asks for; and what the map of an attach decides of the rows of its link.
use Rattle.std.proofs.Common.{◌≡◌, ◌∙◌, sym, ap, refl, subst, ℕ, ◌<◌, Bool, true, false, not, ◌&&◌, ◌||◌, List, [], ◌∷◌, ◌++◌, arith}
use Rattle.std.specs.Prelude.{◌==◌, Option, Some, None, filter, filter_map, is_none, option_map, if◌then◌else◌}
use Rattle.std.specs.List.{cons_option}
use Rattle.std.proofs.lemmas.Bool.{eqb-true}
use Rattle.std.proofs.lemmas.Bool.Decides.{nat_tests}
use Rattle.amqp_model.specs.declared.perf.Attach.{Attach as AnAttach}
use Rattle.amqp_model.specs.declared.state.DeliveryState.{DeliveryState}
use Rattle.amqp_model.specs.declared.state.DeliveryState.TheVariants as state
use Rattle.amqp_model.specs.declared.state.UnsettledDelivery.{UnsettledDelivery}
use Rattle.book_model.specs.declared.act.Act.{Act}
use Rattle.book_model.specs.declared.act.Act.TheVariants.{Make, Admit, Forget, Drop}
use Rattle.book_model.specs.declared.act.Admission.{Admission}
use Rattle.book_model.specs.declared.act.Decision.{Decision}
use Rattle.book_model.specs.declared.row.Row.{Row as ARow}
use Rattle.book_model.specs.declared.row.RowNumber.{RowNumber}
use Rattle.book_model.specs.declared.terminus.LinkKey.{LinkKey}
use Rattle.book_model.specs.declared.terminus.Terminus.{Terminus}
use Rattle.book_model.specs.Book.{BookView, row_at, terminus_at, terminus_of, is_from, is_for, is_of, is_undecided as is_open_row, effects, make_refusal, drop_refusal, admit_refusal}
use Rattle.book_core.specs.Rising.{Rises, AllAbove}
use Rattle.gate_journal.specs.Ordered.{IsOrdered, number_of_row}
use Rattle.journal_codec.specs.Batches.{IsTerminal}
use Rattle.journal_store.specs.declared.acting.TerminusAct.{TerminusAct}
use Rattle.journal_store.specs.declared.acting.TerminusAct.TheVariants as terminus
use Rattle.journal_store.specs.Acting.{journal_outcome, outcome_for, is_among, decision, decide_row, forget_row, decides, forgets, settles, unless_refused, terminus_acts, event_acts as settled_acts}
use Rattle.router_trace.specs.DeliveryFrames.{kept_outcome}
use Rattle.router_trace.specs.Deliveries.{outcome_by, outcome_or, outcome_among, terminal}
use Rattle.router_trace.specs.declared.event.Event.{Event}
use Rattle.router_trace.specs.Trace.{Trace}
use Rattle.resume_core.specs.Resuming.{entries_of, told_of, outcome_told, outcome_given, decided_by, decisions}
use Rattle.reply_rows.specs.Acts.{event_answer, planned_acts, admitted_acts, or_admits, event_acts}
use Rattle.reply_rows.specs.Admitting.{admits, event_admission}
use Rattle.reply_rows.specs.Asking.{rows_at, rows_with, decided_for}
use Rattle.theorems.proofs.Ended.{IsEnded}
use Rattle.theorems.proofs.KeptForm.{kept_form, kept_twice}
use Rattle.theorems.proofs.Looking.{by_case, none_above}
use Rattle.theorems.proofs.Tests.{some_same, none_not_some}

clash : true ≡ false → ⊥
clash e = cc

-- what lists of acts give

or_none : (o : Option DeliveryState) → outcome_or o None ≡ o
or_none None = refl
or_none (Some s) = refl

or_more : (o p q : Option DeliveryState) → outcome_or (outcome_or o p) q ≡ outcome_or o (outcome_or p q)
or_more None p q = refl
or_more (Some s) p q = refl

among_more : (xs ys : List Act) (r : RowNumber) → outcome_among (xs ++ ys) r ≡ outcome_or (outcome_among xs r) (outcome_among ys r)
among_more [] ys r = refl
among_more (x ∷ xs) ys r = ap (outcome_or (outcome_by r x)) (among_more xs ys r) ∙ sym (or_more (outcome_by r x) (outcome_among xs r) (outcome_among ys r))

forgets_give : (numbers : List RowNumber) (rs : List ARow) (r : RowNumber) → outcome_among (filter_map (forget_row numbers) rs) r ≡ None
forgets_give numbers [] r = refl
forgets_give numbers (row ∷ rs) r = by (not row.forgotten && is_among row.number.0 numbers) (forgets_give numbers rs r)
  where
    by : (b : Bool) → outcome_among (filter_map (forget_row numbers) rs) r ≡ None → outcome_among (cons_option (if b then Some (Forget row.number) else None) (filter_map (forget_row numbers) rs)) r ≡ None
    by true rest = rest
    by false rest = rest

terminus_gives : (b : BookView) (x : Option TerminusAct) (r : RowNumber) → outcome_among (terminus_acts b x) r ≡ None
terminus_gives b None r = refl
terminus_gives b (Some (terminus.Make t)) r = by (is_none (make_refusal b t))
  where
    by : (q : Bool) → outcome_among (unless_refused q (Make t)) r ≡ None
    by true = refl
    by false = refl
terminus_gives b (Some (terminus.Drop n)) r = by (is_none (drop_refusal (terminus_at n.0 b.termini) b.rows))
  where
    by : (q : Bool) → outcome_among (unless_refused q (Drop n)) r ≡ None
    by true = refl
    by false = refl

admits_give : (b : BookView) (o : Option Admission) (r : RowNumber) → outcome_among (admits b o) r ≡ None
admits_give b None r = refl
admits_give b (Some x) r = by (is_none (admit_refusal b x))
  where
    by : (q : Bool) → outcome_among (unless_refused q (Admit x)) r ≡ None
    by true = refl
    by false = refl

admitted_give : (full : Bool) (b : BookView) (t : Trace) (e : Event) (r : RowNumber) → outcome_among (admitted_acts full b t e) r ≡ None
admitted_give true b t e r = refl
admitted_give false b t e r = admits_give b (event_admission b t e (event_answer false b t e)) r

-- a row of the book gets what the decisions say of it, if it is undecided
abbrev pub row_given : List Decision → Option ARow → Option DeliveryState
row_given ds None = None
row_given ds (Some row) = if is_open_row row then option_map journal_outcome (outcome_for row.number.0 ds) else None

one_given : (ds : List Decision) (row : ARow) (r : RowNumber) (rest : List Act)
    → outcome_among (cons_option (decide_row ds row) rest) r ≡ (if row.number.0 == r.0 then outcome_or (row_given ds (Some row)) (outcome_among rest r) else outcome_among rest r)
one_given ds row r rest = by (is_open_row row) (outcome_for row.number.0 ds)
  where
    other : (q : Bool) (v : Option DeliveryState) → v ≡ (if q then outcome_or None v else v)
    other true v = refl
    other false v = refl

    test : (q : Bool) (s : DeliveryState) (v : Option DeliveryState) → outcome_or (if q then Some s else None) v ≡ (if q then outcome_or (Some s) v else v)
    test true s v = refl
    test false s v = refl

    by : (u : Bool) (o : Option DeliveryState) → outcome_among (cons_option (if u then decision row o else None) rest) r
        ≡ (if row.number.0 == r.0 then outcome_or (if u then option_map journal_outcome o else None) (outcome_among rest r) else outcome_among rest r)
    by true None = other (row.number.0 == r.0) (outcome_among rest r)
    by true (Some s) = test (row.number.0 == r.0) (journal_outcome s) (outcome_among rest r)
    by false o = other (row.number.0 == r.0) (outcome_among rest r)

decides_give : (ds : List Decision) (r : RowNumber) (rs : List ARow) → Rises number_of_row rs → outcome_among (filter_map (decide_row ds) rs) r ≡ row_given ds (row_at r.0 rs)
decides_give ds r [] up = refl
decides_give ds r (row ∷ rs) up =
    one_given ds row r (filter_map (decide_row ds) rs)
    ∙ by_case (row.number.0 == r.0)
    (λ e. rw e (ap (outcome_or (row_given ds (Some row))) (decides_give ds r rs up.1 ∙ ap (row_given ds) (none_here e)) ∙ or_none (row_given ds (Some row))))
    (λ e. rw e (decides_give ds r rs up.1))
  where
    none_here : (row.number.0 == r.0) ≡ true → row_at r.0 rs ≡ None
    none_here e = none_above r.0 rs (let P : ℕ → Type 0 = λ m. AllAbove number_of_row m rs in subst P (eqb-true row.number.0 r.0 e) up.0)

pub settled_give : (b : BookView) (ds : List Decision) (numbers : List RowNumber) (x : Option TerminusAct) (admitted : List Act) (r : RowNumber) → IsOrdered b
    → ((q : RowNumber) → outcome_among admitted q ≡ None) → outcome_among (or_admits (settled_acts b ds numbers x) admitted) r ≡ row_given ds (row_at r.0 b.rows)
settled_give b ds numbers x admitted r ordered none = by (settled_acts b ds numbers x) (none r) first
  where
    first : outcome_among (settled_acts b ds numbers x) r ≡ row_given ds (row_at r.0 b.rows)
    first =
        among_more (settles b ds numbers) (terminus_acts (effects b (settles b ds numbers)) x) r
        ∙ ap (outcome_or (outcome_among (settles b ds numbers) r)) (terminus_gives (effects b (settles b ds numbers)) x r)
        ∙ or_none (outcome_among (settles b ds numbers) r)
        ∙ among_more (decides b ds) (forgets b numbers) r
        ∙ ap (outcome_or (outcome_among (decides b ds) r)) (forgets_give numbers b.rows r)
        ∙ or_none (outcome_among (decides b ds) r)
        ∙ decides_give ds r b.rows ordered.rows_rise

    by : (planned : List Act) → outcome_among admitted r ≡ None → outcome_among planned r ≡ row_given ds (row_at r.0 b.rows)
        → outcome_among (or_admits planned admitted) r ≡ row_given ds (row_at r.0 b.rows)
    by [] nothing is = nothing ∙ is
    by (act ∷ acts) nothing is = is

pub acts_give : (full : Bool) (b : BookView) (t : Trace) (e : Event) (ds : List Decision) (numbers : List RowNumber) (x : Option TerminusAct) (r : RowNumber)
    → planned_acts full b t e ≡ settled_acts b ds numbers x → IsOrdered b → outcome_among (event_acts full b t e) r ≡ row_given ds (row_at r.0 b.rows)
acts_give full b t e ds numbers x r planned ordered =
    ap (λ (acts : List Act). outcome_among (or_admits acts (admitted_acts full b t e)) r) planned
    ∙ settled_give b ds numbers x (admitted_acts full b t e) r ordered (admitted_give full b t e)

-- what a map decides of rows

above_none : (theirs : List UnsettledDelivery) (n m : ℕ) (rs : List ARow) → AllAbove number_of_row n rs → outcome_for n (decisions theirs (filter (is_for m) (filter (is_of m) rs))) ≡ None
above_none theirs n m [] above = refl
above_none theirs n m (r ∷ rs) above = by (is_of m r) (is_for m r) (above_none theirs n m rs above.1)
  where
    rest : List Decision
    rest = decisions theirs (filter (is_for m) (filter (is_of m) rs))

    differs : (a n : ℕ) → n < a → (a == n) ≡ false
    differs a n l = grind (arith, nat_tests)

    one : (o : Option DeliveryState) → outcome_for n rest ≡ None → outcome_for n (cons_option (option_map (λ (outcome : DeliveryState). record { row = r.number; outcome = outcome }) o) rest) ≡ None
    one None none = none
    one (Some s) none = rw (differs r.number.0 n above.0) none

    by : (p q : Bool) → outcome_for n rest ≡ None
        → outcome_for n (decisions theirs (filter (is_for m) (if p then r ∷ filter (is_of m) rs else filter (is_of m) rs))) ≡ None
    by false q none = none
    by true q none = test (is_for m r)
      where
        test : (q : Bool) → outcome_for n (decisions theirs (if q then r ∷ filter (is_for m) (filter (is_of m) rs) else filter (is_for m) (filter (is_of m) rs))) ≡ None
        test true = one (decided_by theirs r) none
        test false = none

map_gives : (theirs : List UnsettledDelivery) (n m : ℕ) (rs : List ARow) (row : ARow) → Rises number_of_row rs → row_at n rs ≡ Some row → is_for m row ≡ true
    → outcome_for n (decisions theirs (filter (is_for m) (filter (is_of m) rs))) ≡ decided_by theirs row
map_gives theirs n m [] row up there waits = absurd (none_not_some there)
map_gives theirs n m (r ∷ rs) row up there waits = by_case (r.number.0 == n) here (λ e. beside e (map_gives theirs n m rs row up.1 (rw e at there) waits))
  where
    rest : List Decision
    rest = decisions theirs (filter (is_for m) (filter (is_of m) rs))

    among : (a b : Bool) → b ≡ true → (a || b) ≡ true
    among true b is = refl
    among false b is = is

    first : (o : Option DeliveryState) → (r.number.0 == n) ≡ true → outcome_for n rest ≡ None
        → outcome_for n (cons_option (option_map (λ (outcome : DeliveryState). record { row = r.number; outcome = outcome }) o) rest) ≡ o
    first None e none = none
    first (Some s) e none = rw e refl

    here : (r.number.0 == n) ≡ true → outcome_for n (decisions theirs (filter (is_for m) (filter (is_of m) (r ∷ rs)))) ≡ decided_by theirs row
    here e =
        let found : Some r ≡ Some row = rw e at there in
        let same : r ≡ row = some_same found in
        let f : is_for m r ≡ true = ap (is_for m) same ∙ waits in
        let g : is_of m r ≡ true = among (is_from m r) (is_for m r) f in
        rw (g, f)
        (first (decided_by theirs r) e (above_none theirs n m rs (let P : ℕ → Type 0 = λ k. AllAbove number_of_row k rs in subst P (eqb-true r.number.0 n e) up.0)) ∙ ap (decided_by theirs) same)

    other : (o : Option DeliveryState) → (r.number.0 == n) ≡ false
        → outcome_for n (cons_option (option_map (λ (outcome : DeliveryState). record { row = r.number; outcome = outcome }) o) rest) ≡ outcome_for n rest
    other None e = refl
    other (Some s) e = rw e refl

    skipped : (p q : Bool) → is_of m r ≡ p → is_for m r ≡ q → (r.number.0 == n) ≡ false → outcome_for n (decisions theirs (filter (is_for m) (filter (is_of m) (r ∷ rs)))) ≡ outcome_for n rest
    skipped false q g f e = rw g refl
    skipped true false g f e = rw (g, f) refl
    skipped true true g f e = rw (g, f) (other (decided_by theirs r) e)

    beside : (r.number.0 == n) ≡ false → outcome_for n rest ≡ decided_by theirs row → outcome_for n (decisions theirs (filter (is_for m) (filter (is_of m) (r ∷ rs)))) ≡ decided_by theirs row
    beside e later = skipped (is_of m r) (is_for m r) refl refl e ∙ later

-- it decides a row of its link's terminus as its entry says
pub map_decides_row : (b : BookView) (a : AnAttach) (k : LinkKey) (x : Terminus) (row : ARow) → Rises number_of_row b.rows → terminus_of k b.termini ≡ Some x → row_at row.number.0 b.rows ≡ Some row
    → is_for x.number.0 row ≡ true → outcome_for row.number.0 (decided_for b (Some a) (Some k)) ≡ decided_by (entries_of a.unsettled) row
map_decides_row b a k x row up found there waits =
    ap (λ (v : Option Terminus). outcome_for row.number.0 (decisions (entries_of a.unsettled) (rows_at b v))) found
    ∙ map_gives (entries_of a.unsettled) row.number.0 x.number.0 b.rows row up there waits

-- An outcome that it gives is one that the router keeps.

pub record IsKept (s : DeliveryState) : Type 0 where
  pub of : DeliveryState
  pub is : s ≡ kept_outcome of
  pub ended : IsTerminal of

terminal_ended : (o : Option DeliveryState) → IsEnded (terminal o)
terminal_ended None = tt
terminal_ended (Some (state.Received r)) = tt
terminal_ended (Some (state.Other v)) = tt
terminal_ended (Some state.Accepted) = tt
terminal_ended (Some (state.Rejected r)) = tt
terminal_ended (Some state.Released) = tt
terminal_ended (Some (state.Modified m)) = tt

told_ended : (v : Option UnsettledDelivery) → IsEnded (outcome_told v)
told_ended None = tt
told_ended (Some d) = terminal_ended d.state

pub given_kept : (v : Option UnsettledDelivery) (o : Option DeliveryState) (s : DeliveryState) → outcome_given v o ≡ Some s → IsKept s
given_kept v (Some outcome) s is = absurd (none_not_some is)
given_kept v None s is = by (outcome_told v) (told_ended v) is
  where
    by : (w : Option DeliveryState) → IsEnded w → option_map kept_outcome w ≡ Some s → IsKept s
    by None ended is = absurd (none_not_some is)
    by (Some x) ended is = record { of = x; is = sym (some_same is); ended = ended }

pub decided_kept : (theirs : List UnsettledDelivery) (row : ARow) (s : DeliveryState) → decided_by theirs row ≡ Some s → IsKept s
decided_kept theirs row s is = given_kept (told_of theirs row) row.outcome s is

-- the journal keeps it as it is
pub kept_is_form : (s : DeliveryState) → IsKept s → kept_form (journal_outcome s) ≡ journal_outcome s
kept_is_form s kept =
    let form : journal_outcome s ≡ kept_form kept.of = ap journal_outcome kept.is in
    ap kept_form form ∙ kept_twice kept.of kept.ended ∙ sym form

decisions_form : (theirs : List UnsettledDelivery) (rs : List ARow) (n : ℕ) (s : DeliveryState) → outcome_for n (decisions theirs rs) ≡ Some s → IsKept s
decisions_form theirs [] n s is = absurd (none_not_some is)
decisions_form theirs (r ∷ rs) n s is = by (decided_by theirs r) refl is (decisions_form theirs rs n s)
  where
    rest : List Decision
    rest = decisions theirs rs

    test : (o : DeliveryState) (q : Bool) → decided_by theirs r ≡ Some o → (if q then Some o else outcome_for n rest) ≡ Some s → (outcome_for n rest ≡ Some s → IsKept s) → IsKept s
    test o true e is later = subst IsKept (some_same is) (decided_kept theirs r o e)
    test o false e is later = later is

    by : (v : Option DeliveryState) → decided_by theirs r ≡ v
        → outcome_for n (cons_option (option_map (λ (outcome : DeliveryState). record { row = r.number; outcome = outcome }) v) rest) ≡ Some s → (outcome_for n rest ≡ Some s → IsKept s) → IsKept s
    by None e is later = later is
    by (Some o) e is later = test o (r.number.0 == n) e is later

pub map_form : (b : BookView) (a : Option AnAttach) (k : Option LinkKey) (n : ℕ) (s : DeliveryState) → outcome_for n (decided_for b a k) ≡ Some s → IsKept s
map_form b a None n s is = absurd (none_not_some is)
map_form b None (Some k) n s is = absurd (none_not_some is)
map_form b (Some a) (Some k) n s is = decisions_form (entries_of a.unsettled) (rows_with b k) n s is
