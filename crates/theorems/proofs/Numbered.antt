-- Each row that the book gave since the opening is bound.
use Rattle.std.proofs.Common.{◌≡◌, ◌∙◌, sym, ap, refl, subst, ℕ, ◌+◌, ◌≤◌, ◌<◌, Bool, true, false, ◌&&◌, List, [], ◌∷◌, arith}
use Rattle.std.specs.Prelude.{◌==◌, if◌then◌else◌, Option, Some, None}
use Rattle.std.proofs.lemmas.Bool.{eqb-true, eq-eqb}
use Rattle.amqp_model.specs.declared.item.Item.{Item}
use Rattle.book_model.specs.declared.act.Act.{Act}
use Rattle.book_model.specs.declared.act.Act.TheVariants.{Make, Admit, Decide, Forget, Drop}
use Rattle.book_model.specs.declared.row.RowNumber.{RowNumber}
use Rattle.book_model.specs.Book.{BookView, effect, effects}
use Rattle.router_trace.specs.Configuration.{beginning}
use Rattle.router_trace.specs.Connection.{conn, due}
use Rattle.router_trace.specs.declared.handle.Attachment.{Attachment}
use Rattle.router_trace.specs.Trace.{Beginning, Entry, Did, Out, Bound, Put, Step, goes, puts, each_to}
use Rattle.router_trace.specs.declared.binding.Binding.{Binding}
use Rattle.router_trace.specs.Deliveries.{is_message}
use Rattle.router_trace.specs.declared.condition.Condition.TheVariants.{ResourceLimitExceeded}
use Rattle.state_messages.specs.Messages.{copy_to, with_bound}
use Rattle.reply_rows.specs.Acts.{book_in, acts_of, booked}
use Rattle.reply_rows.specs.Admitting.{row_in}
use Rattle.router_reply.specs.Replies.{closing_of, ends, heard, bound_by, own_row, replied}
use Rattle.router_reply.specs.Resuming.{resumed}
use Rattle.state_connections.proofs.Lists.{by_test}
use Rattle.router_core.specs.Moves.{Goes, IsTrace}
use Rattle.core_machine.specs.Moves.{Move, handles, takes}
use Rattle.router_core.specs.Replies.{handled}
use Rattle.core_machine.specs.Moves.{took_one}
use Rattle.router_core.proofs.Copied.{copies_keep}
use Rattle.router_core.proofs.Following.{all_keep}
use Rattle.theorems.specs.Admitted.{is_row, times_bound, AreBoundSince}
use Rattle.theorems.proofs.Admitted.{row_of_bound, BindsNext, binds_next}
use Rattle.theorems.proofs.Resumed.{replied_book, replied_found, resumed_marked}
use Rattle.theorems.proofs.Rows.{Rows, start_rows, took_rows, handled_rows}
use Rattle.theorems.proofs.Tests.{none_not_some}

-- acts that admit nothing give no number

nothing_given : (acts : List Act) (b : BookView) → row_in acts ≡ None → (effects b acts).next_row ≡ b.next_row
unfolding effects
nothing_given [] b none = refl
nothing_given (Make x ∷ acts) b none = nothing_given acts (effect b (Make x)) none
nothing_given (Admit x ∷ acts) b none = absurd (none_not_some (sym none))
nothing_given (Decide x ∷ acts) b none = nothing_given acts (effect b (Decide x)) none
nothing_given (Forget n ∷ acts) b none = nothing_given acts (effect b (Forget n)) none
nothing_given (Drop n ∷ acts) b none = nothing_given acts (effect b (Drop n)) none

-- items bind nothing, and leave the book

abbrev Stays : ℕ → ℕ → BookView → List Entry → Type 0
Stays n times book u = (times_bound u n ≡ times) × (book_in u ≡ book)

goes_stays : (n times : ℕ) (book : BookView) (ps : List Put) (t : List Entry) → Stays n times book t → Stays n times book (goes ps t)
goes_stays n times book [] t was = was
goes_stays n times book (p ∷ ps) t was = goes_stays n times book ps (Out p.conn p.item ∷ t) was

ends_stays : (n times : ℕ) (book : BookView) (id : List ℕ) (cs : List ℕ) (t : List Entry) → Stays n times book t → Stays n times book (ends id cs t)
ends_stays n times book id [] t was = was
ends_stays n times book id (c ∷ cs) t was =
    let items : List Item = closing_of id (conn t c) ResourceLimitExceeded
    in ends_stays n times book id cs (puts c items t) (goes_stays n times book (each_to c items) t was)

-- how often a binding binds the row of a number
abbrev times_if : Bool → ℕ
times_if b = if b then 1 else 0

abbrev times_of : Option Binding → ℕ → ℕ
times_of None n = 0
times_of (Some x) n = if is_message x.kind && is_row x.row n then 1 else 0

bound_stays : (n times : ℕ) (book : BookView) (b : Option Binding) (u : List Entry) → Stays n times book u → Stays n (times + times_of b n) book (with_bound b u)
bound_stays n times book None u was = (was.0 ∙ nothing times, was.1)
  where
    nothing : (k : ℕ) → k ≡ k + 0
    nothing k = omega arith
bound_stays n times book (Some x) u was = (ap (λ (k : ℕ). k + times_of (Some x) n) was.0, was.1)

-- a row that is bound again was bound before
again_stays : (n times : ℕ) (book : BookView) (u : List Entry) (b : Binding) → is_message b.kind ≡ false → Stays n times book u → Stays n times book (Bound b ∷ u)
again_stays n times book u b again was = (ap (λ (q : Bool). times_bound u n + (if q && is_row b.row n then 1 else 0)) again ∙ nothing (times_bound u n) ∙ was.0, was.1)
  where
    nothing : (k : ℕ) → k + 0 ≡ k
    nothing k = omega arith

-- nor has a copy a row
copy_stays : (n times : ℕ) (book : BookView) (u : List Entry) (format : ℕ) (payload : List ℕ) (a : Attachment)
    → Stays n times book u → Stays n times book (Bound (copy_to u format payload a) ∷ u)
copy_stays n times book u format payload a was = (nothing (times_bound u n) ∙ was.0, was.1)
  where
    nothing : (k : ℕ) → k + 0 ≡ k
    nothing k = omega arith

handled_stays : (id : List ℕ) (t : List Entry) (s : Step) (n : ℕ)
    → Stays n (times_bound t n + times_of (bound_by (booked t s.event) (heard id (booked t s.event) s) s.event) n) (effects (book_in t) (acts_of t s.event)) (handled id t s)
handled_stays id t s n =
    let at : List Entry = booked t s.event in
    let u : List Entry = heard id at s in
    let b : Option Binding = bound_by at u s.event in
    let book : BookView = effects (book_in t) (acts_of t s.event) in
    let came : Stays n (times_bound t n) book u = ends_stays n (times_bound t n) book id (due t s.event) (Did s ∷ at) (refl, refl) in
    let times : ℕ = times_bound t n + times_of b n in
    all_keep (Stays n times book) (goes_stays n times book) (resumed at s.event (replied id at s))
    (resumed_marked (Stays n times book) (again_stays n times book) at s.event (replied id at s) (replied_book id at s) (replied_found id at s)
    (copies_keep (Stays n times book) (λ v format payload a now. copy_stays n times book v format payload a now) at u s.event (goes (own_row id at u s.event) (with_bound b u))
    (goes_stays n times book (own_row id at u s.event) (with_bound b u) (bound_stays n (times_bound t n) book b u came))))

-- a number of a row that was given is that of one bound

no_row_bound : (b : Option Binding) (n : ℕ) → ((x : Binding) → b ≡ Some x → is_message x.kind ≡ true → x.row ≡ None) → times_of b n ≡ 0
no_row_bound None n none = refl
no_row_bound (Some x) n none = by (is_message x.kind) (none x refl)
  where
    by : (fresh : Bool) → (fresh ≡ true → x.row ≡ None) → times_if (fresh && is_row x.row n) ≡ 0
    by true none = ap (λ (r : Option RowNumber). times_if (is_row r n)) (none refl)
    by false none = refl

handled_bound : (first : ℕ) (id : List ℕ) (t : List Entry) (s : Step) → Rows t → AreBoundSince first t → AreBoundSince first (handled id t s)
handled_bound first id t s rows all n low high = by (row_in (acts_of t s.event)) refl
  where
    bound : Option Binding
    bound = bound_by (booked t s.event) (heard id (booked t s.event) s) s.event

    behind : Stays n (times_bound t n + times_of bound n) (effects (book_in t) (acts_of t s.event)) (handled id t s)
    behind = handled_stays id t s n

    below : n < (effects (book_in t) (acts_of t s.event)).next_row
    below = subst (λ (c : BookView). n < c.next_row) behind.1 high

    sums : (j k : ℕ) → j ≡ 1 → k ≡ 0 → j + k ≡ 1
    sums j k e f = omega (arith, e, f)

    sums_late : (j k : ℕ) → j ≡ 0 → k ≡ 1 → j + k ≡ 1
    sums_late j k e f = omega (arith, e, f)

    under : (n next last : ℕ) → n < next → next ≡ last → n < last
    under n next last h e = omega (arith, h, e)

    at_most : (n k m : ℕ) → m ≡ k → m ≡ n → k ≤ n
    at_most n k m e f = omega (arith, e, f)

    lower : (n next last m : ℕ) → n < next → next ≡ last + 1 → m ≡ last → (m == n) ≡ false → n < last
    lower n next last m h e f apart = by_lower (differ m n apart) h e f
      where
        differ : (m n : ℕ) → (m == n) ≡ false → m ≡ n → ⊥
        differ m n apart e = clash (sym (eq-eqb m n e) ∙ apart)
          where
            clash : true ≡ false → ⊥
            clash c = cc

        by_lower : (m ≡ n → ⊥) → n < next → next ≡ last + 1 → m ≡ last → n < last
        by_lower apart h e f = omega (arith, apart, h, e, f)

    by : (r : Option RowNumber) → row_in (acts_of t s.event) ≡ r → times_bound (handled id t s) n ≡ 1
    by None none =
        behind.0
        ∙ sums (times_bound t n) (times_of bound n)
        (all n low (under n (effects (book_in t) (acts_of t s.event)).next_row (book_in t).next_row below (nothing_given (acts_of t s.event) (book_in t) none)))
        (no_row_bound bound n (λ x is fresh. row_of_bound id t s.event x is fresh ∙ none))
    by (Some row) given =
        let next : BindsNext id t s.event row = binds_next id t s.event row given in
        let named : next.binding.row ≡ Some row = row_of_bound id t s.event next.binding next.is next.fresh ∙ given in
        let times : times_of bound n ≡ (if row.0 == n then 1 else 0) = ap (λ (b : Option Binding). times_of b n) next.is
        ∙ ap (λ (q : Bool). if q && is_row next.binding.row n then 1 else 0) next.fresh
        ∙ ap (λ (r : Option RowNumber). if is_row r n then 1 else 0) named in
        behind.0
        ∙ by_test (row.0 == n)
        (λ e. sums_late (times_bound t n) (times_of bound n)
        ((rows.once n).known (at_most n (book_in t).next_row row.0 next.number (eqb-true row.0 n e)))
        (times ∙ ap (λ (b : Bool). if b then 1 else 0) e))
        (λ e. sums (times_bound t n) (times_of bound n)
        (all n low (lower n (effects (book_in t) (acts_of t s.event)).next_row (book_in t).next_row row.0 below next.next next.number e))
        (times ∙ ap (λ (b : Bool). if b then 1 else 0) e))

moves_bound : (first : ℕ) (id : List ℕ) (ms : List Move) (t u : List Entry) → Rows t → AreBoundSince first t → Goes id ms t u → AreBoundSince first u
moves_bound first id [] t u rows all went = subst (λ (w : List Entry). AreBoundSince first w) (sym went) all
moves_bound first id (handles s ∷ ms) t u rows all went = moves_bound first id ms (handled id t s) u (handled_rows id t s rows) (handled_bound first id t s rows all) went.1
moves_bound first id (takes x ∷ ms) t u rows all went = moves_bound first id ms (took_one x t) u (took_rows _ _ t rows) all went

pub trace_bound : (id : List ℕ) (g : Beginning) (u : List Entry) → IsTrace id g u → AreBoundSince g.book.next_row u
trace_bound id g u trace = moves_bound g.book.next_row id trace.0 (beginning g) u (start_rows g) (λ n low high. absurd (not_both g.book.next_row n low high)) trace.1
  where
    not_both : (k n : ℕ) → k ≤ n → n < k → ⊥
    not_both k n low high = omega (arith, low, high)
