-- In every trace of the router each message with a row stands in the book before it is bound, and each row is bound at most once.
use Rattle.std.proofs.Common.{◌≡◌, ◌∙◌, sym, ap, refl, subst, ℕ, ◌+◌, ◌≤◌, true, false, List, [], ◌∷◌, arith}
use Rattle.std.specs.Prelude.{◌==◌, ◌&&◌, Bool, if◌then◌else◌, Option, Some, None}
use Rattle.std.proofs.lemmas.Bool.{eqb-true}
use Rattle.amqp_model.specs.declared.item.Item.{Item}
use Rattle.book_model.specs.declared.act.Act.{Act}
use Rattle.book_model.specs.declared.act.Act.TheVariants.{Make, Admit, Decide, Forget, Drop}
use Rattle.book_model.specs.declared.act.Admission.{Admission}
use Rattle.book_model.specs.declared.row.RowNumber.{RowNumber}
use Rattle.book_model.specs.Book.{BookView, effect, effects}
use Rattle.router_trace.specs.Configuration.{beginning, opened}
use Rattle.router_trace.specs.Connection.{conn, due}
use Rattle.router_trace.specs.declared.handle.Attachment.{Attachment}
use Rattle.router_trace.specs.Trace.{Beginning, Entry, Did, Out, Took, Bound, Booked, Routed, Began, Put, Step, did, goes, puts, each_to}
use Rattle.router_trace.specs.declared.binding.Binding.{Binding}
use Rattle.router_trace.specs.Deliveries.{is_message}
use Rattle.router_trace.specs.declared.event.Event.{Event}
use Rattle.router_trace.specs.declared.condition.Condition.TheVariants.{ResourceLimitExceeded}
use Rattle.state_messages.specs.Messages.{copy_to, with_bound}
use Rattle.reply_rows.specs.Acts.{book_in, booked}
use Rattle.router_reply.specs.Replies.{closing_of, ends, heard, bound_by, own_row, replied}
use Rattle.router_reply.specs.Resuming.{resumed}
use Rattle.state_connections.proofs.Lists.{by_test}
use Rattle.router_core.specs.Moves.{Goes, IsTrace}
use Rattle.core_machine.specs.Moves.{Move, handles, takes}
use Rattle.router_core.specs.Replies.{handled}
use Rattle.core_machine.specs.Moves.{took_one}
use Rattle.router_core.proofs.Booking.{booked_keeps}
use Rattle.router_core.proofs.Copied.{copies_keep}
use Rattle.router_core.proofs.Following.{all_keep}
use Rattle.theorems.specs.Came.{Handled, just_handled}
use Rattle.theorems.specs.Each.{EachBound}
use Rattle.theorems.specs.Admitted.{is_row, IsAdmitted, IsAdmittedUnder, IsAdmittedIf, RowIsAdmitted, times_bound, IsBoundOnce, EachRowIsBoundOnce}
use Rattle.theorems.proofs.Admitted.{bound_row}
use Rattle.theorems.proofs.Resumed.{replied_book, replied_found, resumed_marked}
use Rattle.theorems.proofs.Tests.{some_same, none_not_some}

-- numbers of rows rise

one_rises : (b : BookView) (act : Act) → b.next_row ≤ (effect b act).next_row
one_rises b (Make x) = omega arith
one_rises b (Admit x) = omega arith
one_rises b (Decide x) = omega arith
one_rises b (Forget n) = omega arith
one_rises b (Drop n) = omega arith

rises : (acts : List Act) (b : BookView) → b.next_row ≤ (effects b acts).next_row
unfolding effects
rises [] b = omega arith
rises (act ∷ acts) b = on (one_rises b act) (rises acts (effect b act))
  where
    on : {j k n : ℕ} → j ≤ k → k ≤ n → j ≤ n
    on h g = omega (arith, h, g)

-- each row at most once: what holds before the acts of an event whose items come

abbrev Before : List Entry → Type 0
Before [] = Unit {0}
Before (Did s ∷ t) = Before t
Before (Out c i ∷ t) = Before t
Before (Took c k ∷ t) = Unit {0}
Before (Bound b ∷ t) = Unit {0}
Before (Booked acts full ∷ t) = EachRowIsBoundOnce t
Before (Routed passage ∷ t) = Before t
Before (Began g ∷ t) = Unit {0}

before_acts : (u : List Entry) (h : Handled) (acts : List Act) (full : List ℕ) (t : List Entry) → just_handled u ≡ Some h → h.found ≡ Booked acts full ∷ t → Before u → EachRowIsBoundOnce t
before_acts [] h acts full t just is before = absurd (none_not_some just)
before_acts (Did s ∷ w) h acts full t just is before = subst (λ (v : List Entry). Before v) (ap (λ (k : Handled). k.found) (some_same just) ∙ is) before
before_acts (Out c i ∷ w) h acts full t just is before = before_acts w h acts full t just is before
before_acts (Took c k ∷ w) h acts full t just is before = absurd (none_not_some just)
before_acts (Bound b ∷ w) h acts full t just is before = absurd (none_not_some just)
before_acts (Booked x more ∷ w) h acts full t just is before = absurd (none_not_some just)
before_acts (Routed passage ∷ w) h acts full t just is before = before_acts w h acts full t just is before
before_acts (Began g ∷ w) h acts full t just is before = absurd (none_not_some just)

-- nothing is bound since then, and nothing done to the book
pub record Since (u v : List Entry) (n : ℕ) : Type 0 where
  pub times : times_bound u n ≡ times_bound v n
  pub book : book_in u ≡ book_in v

pub since : (u : List Entry) (h : Handled) (n : ℕ) → just_handled u ≡ Some h → Since u h.found n
since [] h n just = absurd (none_not_some just)
since (Did s ∷ w) h n just =
    let same = ap (λ (k : Handled). k.found) (some_same just) in
    record { times = ap (λ (v : List Entry). times_bound v n) same; book = ap book_in same }
since (Out c i ∷ w) h n just = let was = since w h n just in record { times = was.times; book = was.book }
since (Took c k ∷ w) h n just = absurd (none_not_some just)
since (Bound b ∷ w) h n just = absurd (none_not_some just)
since (Booked x full ∷ w) h n just = absurd (none_not_some just)
since (Routed passage ∷ w) h n just = let was = since w h n just in record { times = was.times; book = was.book }
since (Began g ∷ w) h n just = absurd (none_not_some just)

next_after : (b : BookView) (x : Admission) → (effects b (Admit x ∷ [])).next_row ≡ b.next_row + 1
unfolding effects
next_after b x = refl

-- a row that is bound just after it was admitted
new_once : (u : List Entry) (b : Binding) (row : RowNumber) → IsAdmitted u b row → Before u → (times_bound u row.0 ≡ 0) × ((book_in u).next_row ≡ row.0 + 1)
new_once u b row is before =
    let acts : List Act = Admit is.admission ∷ [] in
    let all : EachRowIsBoundOnce is.before = before_acts u is.came.handled acts is.full is.before is.came.just is.acts before in
    let sofar : Since u is.came.handled.found row.0 = since u is.came.handled row.0 is.came.just in (
      sofar.times ∙ ap (λ (v : List Entry). times_bound v row.0) is.acts ∙ (all row.0).known (at_most row.0 (book_in is.before).next_row is.is_next),
      ap (λ (c : BookView). c.next_row) (sofar.book ∙ ap book_in is.acts) ∙ next_after (book_in is.before) is.admission ∙ ap (λ (k : ℕ). k + 1) (sym is.is_next),
    )
  where
    at_most : (n k : ℕ) → n ≡ k → k ≤ n
    at_most n k e = omega (arith, e)

-- how often a row is bound after a binding
times_now : (u : List Entry) (b : Binding) (n : ℕ) (q : Bool) (row : Option RowNumber) → is_message b.kind ≡ q → b.row ≡ row
    → times_bound (Bound b ∷ u) n ≡ times_bound u n + (if q && is_row row n then 1 else 0)
times_now u b n q row fresh its =
    ap (λ (p : Bool). times_bound u n + (if p && is_row b.row n then 1 else 0)) fresh ∙ ap (λ (r : Option RowNumber). times_bound u n + (if q && is_row r n then 1 else 0)) its

-- once less, or once more
as_before : (u : List Entry) (b : Binding) (n : ℕ) → times_bound (Bound b ∷ u) n ≡ times_bound u n + 0 → IsBoundOnce u n → IsBoundOnce (Bound b ∷ u) n
as_before u b n same was = record {
  once = subst (λ (k : ℕ). k ≤ 1) (sym same) (plain (times_bound u n) was.once);
  known = λ h. same ∙ none (times_bound u n) (was.known h);
}
  where
    plain : (k : ℕ) → k ≤ 1 → k + 0 ≤ 1
    plain k h = omega (arith, h)

    none : (k : ℕ) → k ≡ 0 → k + 0 ≡ 0
    none k h = omega (arith, h)

bound_once : (u : List Entry) (b : Binding) (row : Option RowNumber) → is_message b.kind ≡ true → b.row ≡ row → IsAdmittedUnder u b row → EachRowIsBoundOnce u → Before u → EachRowIsBoundOnce (Bound b ∷ u)
bound_once u b None fresh its is all before n = as_before u b n (times_now u b n true None fresh its) (all n)
bound_once u b (Some row) fresh its is all before n = by_test (row.0 == n) same apart
  where
    new : (times_bound u row.0 ≡ 0) × ((book_in u).next_row ≡ row.0 + 1)
    new = new_once u b row is before

    now : (q : Bool) → (row.0 == n) ≡ q → times_bound (Bound b ∷ u) n ≡ times_bound u n + (if q then 1 else 0)
    now q e = times_now u b n true (Some row) fresh its ∙ ap (λ (p : Bool). times_bound u n + (if p then 1 else 0)) e

    same : (row.0 == n) ≡ true → IsBoundOnce (Bound b ∷ u) n
    same e =
        let at : row.0 ≡ n = eqb-true row.0 n e in
        let none : times_bound u n ≡ 0 = ap (times_bound u) (sym at) ∙ new.0 in
        record { once = subst (λ (k : ℕ). k ≤ 1) (sym (now true e)) (one (times_bound u n) none); known = λ h. absurd (too_low (book_in u).next_row row.0 n new.1 at h) }
      where
        one : (k : ℕ) → k ≡ 0 → k + 1 ≤ 1
        one k h = omega (arith, h)

        too_low : (next r n : ℕ) → next ≡ r + 1 → r ≡ n → next ≤ n → ⊥
        too_low next r n e f h = omega (arith, e, f, h)

    apart : (row.0 == n) ≡ false → IsBoundOnce (Bound b ∷ u) n
    apart e = as_before u b n (now false e) (all n)

-- a row that is bound again was bound before
again_once : (u : List Entry) (b : Binding) → is_message b.kind ≡ false → EachRowIsBoundOnce u → EachRowIsBoundOnce (Bound b ∷ u)
again_once u b again all n = as_before u b n (times_now u b n false b.row again refl) (all n)

batch_once : (acts : List Act) {full : List ℕ} (t : List Entry) → EachRowIsBoundOnce t → EachRowIsBoundOnce (Booked acts full ∷ t)
batch_once acts t all n = record { once = (all n).once; known = λ h. (all n).known (below (rises acts (book_in t)) h) }
  where
    below : {j k n : ℕ} → j ≤ k → k ≤ n → j ≤ n
    below h g = omega (arith, h, g)

-- both, in every trace of the router

pub record Rows (t : List Entry) : Type 0 where
  pub admitted : EachBound RowIsAdmitted t
  pub once : EachRowIsBoundOnce t
  before : Before t

pub no_rows : Rows []
no_rows = record { admitted = tt; once = λ n. record { once = zero_one; known = λ h. refl }; before = tt }
  where
    zero_one : 0 ≤ 1
    zero_one = omega arith

-- of rows bound before it was opened a router knows what its book knows
pub opened_rows : (g : Beginning) (below : List Entry) → g.book ≡ book_in below → Rows below → Rows (opened g below)
opened_rows g below book was = record {
  admitted = was.admitted;
  once = λ n. record { once = (was.once n).once; known = λ h. (was.once n).known (subst (λ (b : BookView). b.next_row ≤ n) book h) };
  before = tt;
}

pub start_rows : (g : Beginning) → Rows (beginning g)
start_rows g = record { admitted = tt; once = λ n. record { once = zero_one; known = λ h. refl }; before = tt }
  where
    zero_one : 0 ≤ 1
    zero_one = omega arith

-- an event that a stop cut off binds nothing
pub cut_rows : (t : List Entry) (e : Event) → Rows t → Rows (did e ∷ booked t e)
cut_rows t e was = record {
  admitted = was.admitted;
  once = λ n. record { once = (acted n).once; known = λ h. (acted n).known h };
  before = was.once;
}
  where
    acted : EachRowIsBoundOnce (booked t e)
    acted = booked_keeps EachRowIsBoundOnce t e (λ acts w. batch_once acts t w) was.once

did_rows : (s : Step) (t : List Entry) → Rows t → Rows (Did s ∷ t)
did_rows s t was = record { admitted = was.admitted; once = λ n. record { once = (was.once n).once; known = (was.once n).known }; before = was.before }

out_rows : (c : ℕ) (i : Item) (t : List Entry) → Rows t → Rows (Out c i ∷ t)
out_rows c i t was = record { admitted = was.admitted; once = λ n. record { once = (was.once n).once; known = (was.once n).known }; before = was.before }

pub took_rows : (c k : ℕ) (t : List Entry) → Rows t → Rows (Took c k ∷ t)
took_rows c k t was = record { admitted = was.admitted; once = λ n. record { once = (was.once n).once; known = (was.once n).known }; before = tt }

batch_rows : (t : List Entry) (acts : List Act) {full : List ℕ} → Rows t → Rows (Booked acts full ∷ t)
batch_rows t acts was = record { admitted = was.admitted; once = batch_once acts t was.once; before = was.once }

again_rows : (u : List Entry) (b : Binding) → is_message b.kind ≡ false → Rows u → Rows (Bound b ∷ u)
again_rows u b marked was =
    record { admitted = (subst (λ (q : Bool). IsAdmittedIf q u b) (sym marked) tt, was.admitted); once = again_once u b marked was.once; before = tt }

-- a copy has no row
copy_rows : (u : List Entry) (format : ℕ) (payload : List ℕ) (a : Attachment) → Rows u → Rows (Bound (copy_to u format payload a) ∷ u)
copy_rows u format payload a was =
    record { admitted = (tt, was.admitted); once = λ n. as_before u (copy_to u format payload a) n refl (was.once n); before = tt }

bound_rows : (u : List Entry) (b : Option Binding) → ((x : Binding) → b ≡ Some x → is_message x.kind ≡ true → IsAdmittedUnder u x x.row) → Rows u → Rows (with_bound b u)
bound_rows u None is was = was
bound_rows u (Some x) is was =
    by_test (is_message x.kind)
    (λ fresh. let now = is x refl fresh in
    record { admitted = (subst (λ (q : Bool). IsAdmittedIf q u x) (sym fresh) now, was.admitted); once = bound_once u x x.row fresh refl now was.once was.before; before = tt })
    (λ again. again_rows u x again was)

goes_rows : (ps : List Put) (t : List Entry) → Rows t → Rows (goes ps t)
goes_rows [] t was = was
goes_rows (p ∷ ps) t was = goes_rows ps (Out p.conn p.item ∷ t) (out_rows p.conn p.item t was)

ends_rows : (id : List ℕ) (cs : List ℕ) (t : List Entry) → Rows t → Rows (ends id cs t)
ends_rows id [] t was = was
ends_rows id (c ∷ cs) t was =
    let items : List Item = closing_of id (conn t c) ResourceLimitExceeded
    in ends_rows id cs (puts c items t) (goes_rows (each_to c items) t was)

pub resumed_rows : (id : List ℕ) (t : List Entry) (s : Step) → Rows t → Rows (resumed (booked t s.event) s.event (replied id (booked t s.event) s))
resumed_rows id t s was =
    let at : List Entry = booked t s.event in
    let u : List Entry = heard id at s in
    let came : Rows u = ends_rows id (due t s.event) (Did s ∷ at) (did_rows s at (booked_keeps Rows t s.event (λ acts w. batch_rows t acts w) was)) in
    let bound : Rows (with_bound (bound_by at u s.event) u) = bound_rows u (bound_by at u s.event) (λ x is fresh. bound_row id t s.event x is fresh) came in
    resumed_marked Rows again_rows at s.event (replied id at s) (replied_book id at s) (replied_found id at s)
    (copies_keep Rows copy_rows at u s.event (goes (own_row id at u s.event) (with_bound (bound_by at u s.event) u))
    (goes_rows (own_row id at u s.event) (with_bound (bound_by at u s.event) u) bound))

pub handled_rows : (id : List ℕ) (t : List Entry) (s : Step) → Rows t → Rows (handled id t s)
handled_rows id t s was =
    let at : List Entry = booked t s.event in
    all_keep Rows goes_rows (resumed at s.event (replied id at s)) (resumed_rows id t s was)

pub moves_rows : (id : List ℕ) (ms : List Move) (t u : List Entry) → Rows t → Goes id ms t u → Rows u
moves_rows id [] t u was went = subst (λ (w : List Entry). Rows w) (sym went) was
moves_rows id (handles s ∷ ms) t u was went = moves_rows id ms (handled id t s) u (handled_rows id t s was) went.1
moves_rows id (takes x ∷ ms) t u was went = moves_rows id ms (took_one x t) u (took_rows _ _ t was) went

pub trace_rows : (id : List ℕ) (g : Beginning) (u : List Entry) → IsTrace id g u → Rows u
trace_rows id g u trace = moves_rows id trace.0 (beginning g) u (start_rows g) trace.1
