-- Over every list of runs, each row of the book was admitted, for the consumer that it has, and each terminus was made.
use Rattle.std.proofs.Common.{◌≡◌, ◌∙◌, sym, ap, refl, subst, ◌⊎◌, inl, inr, ℕ, Bool, true, false, List, [], ◌∷◌, ◌++◌, append_assoc}
use Rattle.std.specs.Prelude.{◌==◌, Option, Some, None, is_some, not, filter, if◌then◌else◌}
use Rattle.amqp_model.specs.declared.state.DeliveryState.{DeliveryState}
use Rattle.book_model.specs.declared.act.Act.{Act}
use Rattle.book_model.specs.declared.act.Act.TheVariants.{Make, Admit, Decide, Forget, Drop}
use Rattle.book_model.specs.declared.act.Admission.{Admission}
use Rattle.book_model.specs.declared.row.Row.{Row as ARow}
use Rattle.book_model.specs.declared.row.RowNumber.{RowNumber}
use Rattle.book_model.specs.declared.terminus.Terminus.{Terminus}
use Rattle.book_model.specs.declared.terminus.TerminusNumber.{TerminusNumber}
use Rattle.book_model.specs.Book.{BookView, admitted, decided, forgotten, with_row, effect, effects}
use Rattle.router_trace.specs.Configuration.{opened}
use Rattle.router_trace.specs.Trace.{Trace, Entry, Did, Out, Took, Bound, Booked, Routed, Began}
use Rattle.reply_rows.specs.Acts.{book_in, booked}
use Rattle.theorems.specs.Lives.{InLives}
use Rattle.theorems.specs.OwnConsumer.{WasDone}
use Rattle.theorems.proofs.EveryMove.{moves_keep_all}
use Rattle.theorems.proofs.Among.{Stands, stands_in_both, stands_in_filter, stands_in_filter_map, parts}
use Rattle.theorems.proofs.Lives.{lives_keep}
use Rattle.theorems.proofs.Tests.{some_same, none_not_some}

-- A trace is the beginning of another.

pub record IsPart (v u : Trace) : Type 0 where
  pub later : Trace
  pub is : u ≡ later ++ v

pub part_itself : (u : Trace) → IsPart u u
part_itself u = record { later = []; is = refl }

pub part_of : (later v : Trace) → IsPart v (later ++ v)
part_of later v = record { later = later; is = refl }

pub part_more : (x : Entry) (v u : Trace) → IsPart v u → IsPart v (x ∷ u)
part_more x v u part = record { later = x ∷ part.later; is = ap (λ (w : Trace). x ∷ w) part.is }

pub part_on : (w v u : Trace) → IsPart w v → IsPart v u → IsPart w u
part_on w v u first rest = record { later = rest.later ++ first.later; is = rest.is ∙ ap (λ (x : Trace). rest.later ++ x) first.is ∙ sym (append_assoc rest.later first.later w) }

-- what was done before, was done
pub was_done : (v u : Trace) (act : Act) → IsPart v u → WasDone v act → WasDone u act
was_done v u act part was =
    let whole = part_on (Booked was.acts was.full ∷ was.before) v u (record { later = was.later; is = was.trace }) part in
    record {
      later = whole.later;
      acts = was.acts;
      full = was.full;
      before = was.before;
      trace = whole.is;
      earlier_acts = was.earlier_acts;
      later_acts = was.later_acts;
      among = was.among;
    }

pub done_now : (t : Trace) (acts : List Act) (full : List ℕ) (act : Act) → Stands Act act acts → WasDone (Booked acts full ∷ t) act
done_now t acts full act stands =
    let place = parts Act act acts stands in
    record { later = []; acts = acts; full = full; before = t; trace = refl; earlier_acts = place.0; later_acts = place.1; among = place.2 }

-- Each opening in a trace is on the book that the entries before it left.

abbrev pub Continues : Trace → Type 0
Continues [] = Unit {0}
Continues (Did s ∷ t) = Continues t
Continues (Out c i ∷ t) = Continues t
Continues (Took c n ∷ t) = Continues t
Continues (Bound b ∷ t) = Continues t
Continues (Booked acts full ∷ t) = Continues t
Continues (Routed passage ∷ t) = Continues t
Continues (Began g ∷ t) = (g.book ≡ book_in t) × Continues t

before_it : (later v : Trace) → Continues (later ++ v) → Continues v
before_it [] v all = all
before_it (Did s ∷ later) v all = before_it later v all
before_it (Out c i ∷ later) v all = before_it later v all
before_it (Took c n ∷ later) v all = before_it later v all
before_it (Bound b ∷ later) v all = before_it later v all
before_it (Booked acts full ∷ later) v all = before_it later v all
before_it (Routed passage ∷ later) v all = before_it later v all
before_it (Began g ∷ later) v all = before_it later v all.1

pub part_continues : (v u : Trace) → IsPart v u → Continues u → Continues v
part_continues v u part all = before_it part.later v (subst (λ (w : Trace). Continues w) part.is all)

pub lives_continue : InLives Continues
lives_continue =
    lives_keep Continues (λ g below book was. (book, was))
    (moves_keep_all Continues (λ s t was. was) (λ c i t was. was) (λ c n t was. was) (λ b t was. was) (λ t e was. was))
    (λ t e was. was) tt

-- What acts leave of rows and termini, and which they bring.

abbrev Same : ARow → ARow → Type 0
Same old r = (old.number ≡ r.number) × (old.consumer ≡ r.consumer)

-- the row was there
record WasRow (rows : List ARow) (r : ARow) : Type 0 where
  old : ARow
  stands : Stands ARow old rows
  same : Same old r

itself : (rows : List ARow) (r : ARow) → Stands ARow r rows → WasRow rows r
itself rows r is = record { old = r; stands = is; same = (refl, refl) }

record IsAdmittedBy (act : Act) (r : ARow) : Type 0 where
  admission : Admission
  is : Admit admission ≡ act
  number : admission.row ≡ r.number
  consumer : admission.consumer ≡ r.consumer

decided_same : (outcome : DeliveryState) (x r : ARow) → decided outcome x ≡ Some r → Same x r
decided_same outcome x r is = by x.forgotten is
  where
    by : (f : Bool) → (if f then None else Some (record x { outcome = Some outcome })) ≡ Some r → Same x r
    by true is = absurd (none_not_some is)
    by false is = (ap (λ (y : ARow). y.number) (some_same is), ap (λ (y : ARow). y.consumer) (some_same is))

forgotten_same : (x r : ARow) → forgotten x ≡ Some r → Same x r
forgotten_same x r is = by (is_some x.outcome) is
  where
    by : (f : Bool) → (if f then None else Some (record x { forgotten = true })) ≡ Some r → Same x r
    by true is = absurd (none_not_some is)
    by false is = (ap (λ (y : ARow). y.number) (some_same is), ap (λ (y : ARow). y.consumer) (some_same is))

one_row : (n : ℕ) (change : ARow → Option ARow) → ((x r : ARow) → change x ≡ Some r → Same x r) → (rows : List ARow) (r : ARow) → Stands ARow r (with_row n change rows) → WasRow rows r
one_row n change same rows r is =
    let one = stands_in_filter_map ARow ARow (λ (x : ARow). if x.number.0 == n then change x else Some x) r rows is in
    record { old = one.0; stands = one.1; same = by one.0 (one.0.number.0 == n) one.2 }
  where
    by : (x : ARow) (b : Bool) → (if b then change x else Some x) ≡ Some r → Same x r
    by x true is = same x r is
    by x false is = (ap (λ (y : ARow). y.number) (some_same is), ap (λ (y : ARow). y.consumer) (some_same is))

row_by : (b : BookView) (act : Act) (r : ARow) → Stands ARow r (effect b act).rows → WasRow b.rows r ⊎ IsAdmittedBy act r
row_by b (Make x) r is = inl (itself b.rows r is)
row_by b (Drop n) r is = inl (itself b.rows r is)
row_by b (Decide d) r is = inl (one_row d.row.0 (decided d.outcome) (decided_same d.outcome) b.rows r is)
row_by b (Forget n) r is = inl (one_row n.0 forgotten forgotten_same b.rows r is)
row_by b (Admit x) r is = by (stands_in_both ARow r b.rows (admitted x ∷ []) is)
  where
    by : Stands ARow r b.rows ⊎ Stands ARow r (admitted x ∷ []) → WasRow b.rows r ⊎ IsAdmittedBy (Admit x) r
    by (inl is) = inl (itself b.rows r is)
    by (inr (inl same)) = inr (record { admission = x; is = refl; number = ap (λ (y : ARow). y.number) same; consumer = ap (λ (y : ARow). y.consumer) same })
    by (inr (inr is)) = absurd is

pub record WasAdmitted (Done : Act → Type 0) (r : ARow) : Type 0 where
  pub admission : Admission
  pub number : admission.row ≡ r.number
  pub consumer : admission.consumer ≡ r.consumer
  pub done : Done (Admit admission)

rows_by : (acts : List Act) (b : BookView) (r : ARow) → Stands ARow r (effects b acts).rows → WasRow b.rows r ⊎ WasAdmitted (λ act. Stands Act act acts) r
unfolding effects
rows_by [] b r is = inl (itself b.rows r is)
rows_by (act ∷ acts) b r is = by (rows_by acts (effect b act) r is)
  where
    first : (old : ARow) → Same old r → WasRow b.rows old ⊎ IsAdmittedBy act old → WasRow b.rows r ⊎ WasAdmitted (λ a. Stands Act a (act ∷ acts)) r
    first old same (inl was) = inl (record { old = was.old; stands = was.stands; same = (was.same.0 ∙ same.0, was.same.1 ∙ same.1) })
    first old same (inr new) = inr (record { admission = new.admission; number = new.number ∙ same.0; consumer = new.consumer ∙ same.1; done = inl (sym new.is) })

    by : WasRow (effect b act).rows r ⊎ WasAdmitted (λ a. Stands Act a acts) r → WasRow b.rows r ⊎ WasAdmitted (λ a. Stands Act a (act ∷ acts)) r
    by (inl was) = first was.old was.same (row_by b act was.old was.stands)
    by (inr new) = inr (record { admission = new.admission; number = new.number; consumer = new.consumer; done = inr new.done })

terminus_by : (b : BookView) (act : Act) (x : Terminus) → Stands Terminus x (effect b act).termini → Stands Terminus x b.termini ⊎ (act ≡ Make x)
terminus_by b (Make y) x is = by (stands_in_both Terminus x b.termini (y ∷ []) is)
  where
    by : Stands Terminus x b.termini ⊎ Stands Terminus x (y ∷ []) → Stands Terminus x b.termini ⊎ (Make y ≡ Make x)
    by (inl is) = inl is
    by (inr (inl same)) = inr (ap (λ (z : Terminus). Make z) same)
    by (inr (inr is)) = absurd is
terminus_by b (Admit a) x is = inl is
terminus_by b (Decide d) x is = inl is
terminus_by b (Forget n) x is = inl is
terminus_by b (Drop n) x is = inl (stands_in_filter Terminus (λ (t : Terminus). not (t.number.0 == n.0)) x b.termini is).0

termini_by : (acts : List Act) (b : BookView) (x : Terminus) → Stands Terminus x (effects b acts).termini → Stands Terminus x b.termini ⊎ Stands Act (Make x) acts
unfolding effects
termini_by [] b x is = inl is
termini_by (act ∷ acts) b x is = by (termini_by acts (effect b act) x is)
  where
    first : Stands Terminus x b.termini ⊎ (act ≡ Make x) → Stands Terminus x b.termini ⊎ Stands Act (Make x) (act ∷ acts)
    first (inl is) = inl is
    first (inr same) = inr (inl same)

    by : Stands Terminus x (effect b act).termini ⊎ Stands Act (Make x) acts → Stands Terminus x b.termini ⊎ Stands Act (Make x) (act ∷ acts)
    by (inl is) = first (terminus_by b act x is)
    by (inr is) = inr (inr is)

-- So the book has only rows that were admitted, and termini that were made.

pub record Origins (t : Trace) : Type 0 where
  pub rows : (r : ARow) → Stands ARow r (book_in t).rows → WasAdmitted (WasDone t) r
  pub termini : (x : Terminus) → Stands Terminus x (book_in t).termini → WasDone t (Make x)

grown : (x : Entry) (t : Trace) (r : ARow) → WasAdmitted (WasDone t) r → WasAdmitted (WasDone (x ∷ t)) r
grown x t r was = record {
  admission = was.admission;
  number = was.number;
  consumer = was.consumer;
  done = was_done t (x ∷ t) (Admit was.admission) (part_more x t t (part_itself t)) was.done;
}

same_origins : (x : Entry) (t : Trace) → book_in (x ∷ t) ≡ book_in t → Origins t → Origins (x ∷ t)
same_origins x t same was = record {
  rows = λ r is. grown x t r (was.rows r (subst (λ (b : BookView). Stands ARow r b.rows) same is));
  termini = λ y is. was_done t (x ∷ t) (Make y) (part_more x t t (part_itself t)) (was.termini y (subst (λ (b : BookView). Stands Terminus y b.termini) same is));
}

booked_origins : (t : Trace) (acts : List Act) (full : List ℕ) → Origins t → Origins (Booked acts full ∷ t)
booked_origins t acts full was = record {
  rows = λ r is. by_row r (rows_by acts (book_in t) r is);
  termini = λ x is. by_terminus x (termini_by acts (book_in t) x is);
}
  where
    u : Trace
    u = Booked acts full ∷ t

    by_row : (r : ARow) → WasRow (book_in t).rows r ⊎ WasAdmitted (λ act. Stands Act act acts) r → WasAdmitted (WasDone u) r
    by_row r (inl old) =
        let had = grown (Booked acts full) t old.old (was.rows old.old old.stands) in
        record { admission = had.admission; number = had.number ∙ old.same.0; consumer = had.consumer ∙ old.same.1; done = had.done }
    by_row r (inr new) = record { admission = new.admission; number = new.number; consumer = new.consumer; done = done_now t acts full (Admit new.admission) new.done }

    by_terminus : (x : Terminus) → Stands Terminus x (book_in t).termini ⊎ Stands Act (Make x) acts → WasDone u (Make x)
    by_terminus x (inl old) = was_done t u (Make x) (part_more (Booked acts full) t t (part_itself t)) (was.termini x old)
    by_terminus x (inr new) = done_now t acts full (Make x) new

pub origins : (t : Trace) → Continues t → Origins t
origins [] all = record { rows = λ r is. absurd is; termini = λ x is. absurd is }
origins (Did s ∷ t) all = same_origins (Did s) t refl (origins t all)
origins (Out c i ∷ t) all = same_origins (Out c i) t refl (origins t all)
origins (Took c n ∷ t) all = same_origins (Took c n) t refl (origins t all)
origins (Bound b ∷ t) all = same_origins (Bound b) t refl (origins t all)
origins (Booked acts full ∷ t) all = booked_origins t acts full (origins t all)
origins (Routed passage ∷ t) all = same_origins (Routed passage) t refl (origins t all)
origins (Began g ∷ t) all = same_origins (Began g) t all.0 (origins t all.1)
