-- A durable link that is taken has its terminus made, or has it already: what its event decides and forgets doesn't stand in the way of that.
use Rattle.std.proofs.Common.{◌≡◌, ◌∙◌, sym, ap, refl, subst, ℕ, Bool, true, false, not, ◌&&◌, ◌||◌, cond, List, [], ◌∷◌, ◌++◌, append-nil, length}
use Rattle.std.specs.Prelude.{◌==◌, nat_lt, if◌then◌else◌, Option, Some, None, is_none, filter_map}
use Rattle.std.specs.List.{list_any, cons_option}
use Rattle.std.specs.Option.{option_or}
use Rattle.std.proofs.lemmas.List.Folds.{find-append}
use Rattle.std.proofs.lemmas.Bool.{eq-eqb}
use Rattle.std.proofs.lemmas.Slice.Eq.{bytes_eq-Decides}
use Rattle.amqp_model.specs.declared.state.DeliveryState.{DeliveryState}
use Rattle.book_model.specs.declared.act.Act.{Act}
use Rattle.book_model.specs.declared.act.Act.TheVariants.{Make, Admit, Decide, Forget, Drop}
use Rattle.book_model.specs.declared.act.Admission.{Admission}
use Rattle.book_model.specs.declared.act.Decision.{Decision}
use Rattle.book_model.specs.declared.row.Row.{Row}
use Rattle.book_model.specs.declared.row.RowNumber.{RowNumber}
use Rattle.book_model.specs.declared.terminus.LinkKey.{LinkKey}
use Rattle.book_model.specs.declared.terminus.LinkRole.{LinkRole}
use Rattle.book_model.specs.declared.terminus.LinkRole.TheVariants.{Producer, Consumer}
use Rattle.book_model.specs.declared.terminus.Terminus.{Terminus}
use Rattle.book_model.specs.declared.fault.BookFault.{BookFault}
use Rattle.book_model.specs.declared.fault.BookFault.TheVariants.{NoTerminus}
use Rattle.book_model.specs.Book.{BookView, same_key, same_role, terminus_of, has_short_texts, is_undecided, unless, make_refusal, admit_refusal, effect, effects}
use Rattle.journal_store.specs.Acting.{outcome_for, is_among, decision, decide_row, forget_row, decides, forgets, settles, unless_refused, event_acts}
use Rattle.journal_store.specs.declared.acting.TerminusAct.TheVariants as terminus
use Rattle.reply_rows.specs.Booking.{new_terminus, has_room}
use Rattle.router_trace.specs.declared.event.Event.{Event}
use Rattle.router_trace.specs.Trace.{Trace}
use Rattle.reply_rows.specs.Acts.{event_answer, admitted_acts, or_admits}
use Rattle.reply_rows.specs.Admitting.{event_admission, admits}
use Rattle.router_core.proofs.Due.{both_true}

-- acts that change rows alone

abbrev pub is_of_row : Act → Bool
is_of_row (Make x) = false
is_of_row (Admit x) = false
is_of_row (Decide x) = true
is_of_row (Forget n) = true
is_of_row (Drop n) = false

abbrev pub AllOfRows : List Act → Type 0
AllOfRows [] = Unit {0}
AllOfRows (act ∷ acts) = (is_of_row act ≡ true) × AllOfRows acts

abbrev OfRow : Option Act → Type 0
OfRow None = Unit {0}
OfRow (Some act) = is_of_row act ≡ true

both_of_rows : (acts more : List Act) → AllOfRows acts → AllOfRows more → AllOfRows (acts ++ more)
both_of_rows [] more first rest = rest
both_of_rows (act ∷ acts) more first rest = (first.0, both_of_rows acts more first.1 rest)

each_of_rows : (f : Row → Option Act) → ((r : Row) → OfRow (f r)) → (rs : List Row) → AllOfRows (filter_map f rs)
each_of_rows f each [] = tt
each_of_rows f each (r ∷ rs) = by (f r) (each r) (each_of_rows f each rs)
  where
    by : (o : Option Act) → OfRow o → AllOfRows (filter_map f rs) → AllOfRows (cons_option o (filter_map f rs))
    by None is rest = rest
    by (Some act) is rest = (is, rest)

decision_of_row : (r : Row) (outcome : Option DeliveryState) → OfRow (decision r outcome)
decision_of_row r None = tt
decision_of_row r (Some s) = refl

decided_of_row : (ds : List Decision) (r : Row) → OfRow (decide_row ds r)
decided_of_row ds r = by (is_undecided r)
  where
    by : (b : Bool) → OfRow (if b then decision r (outcome_for r.number.0 ds) else None)
    by true = decision_of_row r (outcome_for r.number.0 ds)
    by false = tt

forgotten_of_row : (numbers : List RowNumber) (r : Row) → OfRow (forget_row numbers r)
forgotten_of_row numbers r = by (not r.forgotten && is_among r.number.0 numbers)
  where
    by : (b : Bool) → OfRow (if b then Some (Forget r.number) else None)
    by true = refl
    by false = tt

pub settled_of_rows : (b : BookView) (ds : List Decision) (numbers : List RowNumber) → AllOfRows (settles b ds numbers)
settled_of_rows b ds numbers =
    both_of_rows (decides b ds) (forgets b numbers) (each_of_rows (decide_row ds) (decided_of_row ds) b.rows) (each_of_rows (forget_row numbers) (forgotten_of_row numbers) b.rows)

-- they leave the termini

pub record SameTermini (b c : BookView) : Type 0 where
  pub termini : c.termini ≡ b.termini
  pub next : c.next_terminus ≡ b.next_terminus

effect_of_row : (b : BookView) (act : Act) → is_of_row act ≡ true → SameTermini b (effect b act)
effect_of_row b (Make x) is = absurd cc
effect_of_row b (Admit x) is = absurd cc
effect_of_row b (Decide x) is = record { termini = refl; next = refl }
effect_of_row b (Forget n) is = record { termini = refl; next = refl }
effect_of_row b (Drop n) is = absurd cc

effects_of_rows : (acts : List Act) (b : BookView) → AllOfRows acts → SameTermini b (effects b acts)
unfolding effects
effects_of_rows [] b all = record { termini = refl; next = refl }
effects_of_rows (act ∷ acts) b all =
    let one = effect_of_row b act all.0 in
    let more = effects_of_rows acts (effect b act) all.1 in
    record { termini = more.termini ∙ one.termini; next = more.next ∙ one.next }

effects_more : (acts more : List Act) (b : BookView) → effects b (acts ++ more) ≡ effects (effects b acts) more
unfolding effects
effects_more [] more b = refl
effects_more (act ∷ acts) more b = effects_more acts more (effect b act)

-- a terminus that was just made is found

role_itself : (a : LinkRole) → same_role a a ≡ true
role_itself Producer = refl
role_itself Consumer = refl

key_itself : (k : LinkKey) → same_key k k ≡ true
key_itself k =
    rw (role_itself k.role) (rw ((bytes_eq-Decides k.user k.user).1 refl) (rw ((bytes_eq-Decides k.container k.container).1 refl) ((bytes_eq-Decides k.name k.name).1 refl)))

found_made : (b : BookView) (x : Terminus) → terminus_of x.key b.termini ≡ None → terminus_of x.key (effects b (Make x ∷ [])).termini ≡ Some x
unfolding effects
found_made b x none =
    find-append (λ t. same_key t.key x.key) b.termini (x ∷ [])
    ∙ ap (λ (o : Option Terminus). option_or o (cond (same_key x.key x.key) (Some x) None)) none
    ∙ ap (λ (is : Bool). cond is (Some x) None) (key_itself x.key)

-- it may be made

none_any : (key : LinkKey) (ts : List Terminus) → terminus_of key ts ≡ None → list_any (λ u. same_key u.key key) ts ≡ false
none_any key [] none = refl
none_any key (t ∷ ts) none = by (same_key t.key key) none (none_any key ts)
  where
    by : (b : Bool) → cond b (Some t) (terminus_of key ts) ≡ None → (terminus_of key ts ≡ None → list_any (λ u. same_key u.key key) ts ≡ false)
        → (b || list_any (λ u. same_key u.key key) ts) ≡ false
    by true none rest = absurd cc
    by false none rest = rest none

made_where : (c : BookView) (x : Terminus) → x.number.0 ≡ c.next_terminus → list_any (λ u. same_key u.key x.key) c.termini ≡ false → nat_lt (length c.termini) 1024 ≡ true
    → has_short_texts x ≡ true → make_refusal c x ≡ None
made_where c x next new few short =
    let is : (x.number.0 == c.next_terminus) ≡ true = eq-eqb x.number.0 c.next_terminus next in rw (is, new, few, short) refl

may_make : (full : Bool) (b c : BookView) (key : LinkKey) (address : List ℕ) → terminus_of key b.termini ≡ None → has_room full b (new_terminus b key address) ≡ true → SameTermini b c
    → make_refusal c (new_terminus b key address) ≡ None
may_make full b c key address none room same =
    let x : Terminus = new_terminus b key address in
    let fits = both_true (nat_lt (length b.termini) 1024) (has_short_texts x) (both_true (not full) (nat_lt (length b.termini) 1024 && has_short_texts x) room).1 in
    made_where c x (sym same.next)
    (subst (λ (ts : List Terminus). list_any (λ u. same_key u.key key) ts ≡ false) (sym same.termini) (none_any key b.termini none))
    (subst (λ (ts : List Terminus). nat_lt (length ts) 1024 ≡ true) (sym same.termini) fits.0) fits.1

-- the acts of an event whose terminus the book makes: they admit nothing, and leave it in the book

some_acts : (acts : List Act) (act : Act) (admitted : List Act) → or_admits (acts ++ act ∷ []) admitted ≡ acts ++ act ∷ []
some_acts [] act admitted = refl
some_acts (a ∷ acts) act admitted = refl

pub makes_terminus : (full : Bool) (b : BookView) (ds : List Decision) (numbers : List RowNumber) (key : LinkKey) (address : List ℕ) (admitted : List Act)
    → terminus_of key b.termini ≡ None → has_room full b (new_terminus b key address) ≡ true
    → terminus_of key (effects b (or_admits (event_acts b ds numbers (Some (terminus.Make (new_terminus b key address)))) admitted)).termini ≡ Some (new_terminus b key address)
makes_terminus full b ds numbers key address admitted none room =
    let x : Terminus = new_terminus b key address in
    let settled : List Act = settles b ds numbers in
    let same : SameTermini b (effects b settled) = effects_of_rows settled b (settled_of_rows b ds numbers) in
    let made : make_refusal (effects b settled) x ≡ None = may_make full b (effects b settled) key address none room same in
    let acts : or_admits (event_acts b ds numbers (Some (terminus.Make x))) admitted ≡ settled ++ Make x ∷ [] =
    ap (λ (r : Option BookFault). or_admits (settled ++ unless_refused (is_none r) (Make x)) admitted) made ∙ some_acts settled (Make x) admitted in
    ap (λ (acts : List Act). terminus_of key (effects b acts).termini) acts
    ∙ ap (λ (c : BookView). terminus_of key c.termini) (effects_more settled (Make x ∷ []) b)
    ∙ found_made (effects b settled) x (ap (terminus_of key) same.termini ∙ none)

-- A terminus that stands isn't made again.

found_any : (key : LinkKey) (ts : List Terminus) (x : Terminus) → terminus_of key ts ≡ Some x → list_any (λ u. same_key u.key key) ts ≡ true
found_any key [] x found = absurd cc
found_any key (t ∷ ts) x found = by (same_key t.key key) found (found_any key ts x)
  where
    by : (b : Bool) → cond b (Some t) (terminus_of key ts) ≡ Some x → (terminus_of key ts ≡ Some x → list_any (λ u. same_key u.key key) ts ≡ true)
        → (b || list_any (λ u. same_key u.key key) ts) ≡ true
    by true found rest = refl
    by false found rest = rest found

refused_make : (c : BookView) (y : Terminus) → list_any (λ u. same_key u.key y.key) c.termini ≡ true → is_none (make_refusal c y) ≡ false
refused_make c y there = rw there (by (y.number.0 == c.next_terminus))
  where
    by : (q : Bool) → is_none (unless q NoTerminus (Some NoTerminus)) ≡ false
    by true = refl
    by false = refl

-- nor does an admission change the termini
admits_keep : (b : BookView) (o : Option Admission) → SameTermini b (effects b (admits b o))
unfolding effects
admits_keep b None = record { termini = refl; next = refl }
admits_keep b (Some x) = by (is_none (admit_refusal b x))
  where
    by : (q : Bool) → SameTermini b (effects b (unless_refused q (Admit x)))
    by true = record { termini = refl; next = refl }
    by false = record { termini = refl; next = refl }

pub admitted_keep : (full : Bool) (b : BookView) (t : Trace) (e : Event) → SameTermini b (effects b (admitted_acts full b t e))
unfolding effects
admitted_keep true b t e = record { termini = refl; next = refl }
admitted_keep false b t e = admits_keep b (event_admission b t e (event_answer false b t e))

rows_or_admits : (b : BookView) (settled admitted : List Act) → AllOfRows settled → SameTermini b (effects b admitted) → SameTermini b (effects b (or_admits settled admitted))
rows_or_admits b [] admitted all same = same
rows_or_admits b (act ∷ acts) admitted all same = effects_of_rows (act ∷ acts) b all

pub stays_terminus : (b : BookView) (ds : List Decision) (numbers : List RowNumber) (key : LinkKey) (address : List ℕ) (x : Terminus) (admitted : List Act)
    → terminus_of key b.termini ≡ Some x → SameTermini b (effects b admitted)
    → terminus_of key (effects b (or_admits (event_acts b ds numbers (Some (terminus.Make (new_terminus b key address)))) admitted)).termini ≡ Some x
stays_terminus b ds numbers key address x admitted found stays =
    let y : Terminus = new_terminus b key address in
    let settled : List Act = settles b ds numbers in
    let of_rows : AllOfRows settled = settled_of_rows b ds numbers in
    let same : SameTermini b (effects b settled) = effects_of_rows settled b of_rows in
    let refused : is_none (make_refusal (effects b settled) y) ≡ false =
    refused_make (effects b settled) y (subst (λ (ts : List Terminus). list_any (λ u. same_key u.key key) ts ≡ true) (sym same.termini) (found_any key b.termini x found)) in
    let acts : or_admits (event_acts b ds numbers (Some (terminus.Make y))) admitted ≡ or_admits settled admitted =
    ap (λ (q : Bool). or_admits (settled ++ unless_refused q (Make y)) admitted) refused ∙ ap (λ (acts : List Act). or_admits acts admitted) (append-nil settled) in
    ap (λ (acts : List Act). terminus_of key (effects b acts).termini) acts
    ∙ ap (terminus_of key) (rows_or_admits b settled admitted of_rows stays).termini
    ∙ found
