-- A row that is bound to a terminus has no delivery but those of durable links, which outlive their consumer's connection.
use Rattle.std.proofs.Common.{◌≡◌, ◌∙◌, sym, ap, refl, subst, ℕ, ◌+◌, ◌<◌, ◌≤◌, Bool, true, false, List, [], ◌∷◌, arith}
use Rattle.std.specs.Prelude.{◌==◌, ◌&&◌, Option, Some, None, is_some, if◌then◌else◌}
use Rattle.std.specs.Option.{option_and_then}
use Rattle.amqp_model.specs.declared.item.Item.{Item}
use Rattle.amqp_model.specs.declared.state.DeliveryState.{DeliveryState}
use Rattle.book_model.specs.declared.act.Act.{Act}
use Rattle.book_model.specs.declared.act.Act.TheVariants.{Make, Admit, Decide, Forget, Drop}
use Rattle.book_model.specs.declared.row.Row.{Row as ARow}
use Rattle.book_model.specs.declared.row.RowNumber.{RowNumber}
use Rattle.book_model.specs.declared.terminus.LinkKey.{LinkKey}
use Rattle.book_model.specs.Book.{BookView, row_at, refusal, effect, effects, first_fault, admitted, decided, forgotten}
use Rattle.book_core.proofs.Steps.{admits_next}
use Rattle.gate_journal.specs.Ordered.{IsOrdered}
use Rattle.gate_journal.proofs.Ordered.{ordered_step}
use Rattle.journal_store.proofs.Conditions.{first_applies, rest_applies}
use Rattle.router_trace.specs.declared.binding.Binding.{Binding}
use Rattle.router_trace.specs.declared.binding.DeliveryName.TheVariants.{Row}
use Rattle.router_trace.specs.declared.event.Event.{Event}
use Rattle.router_trace.specs.Following.{link_of}
use Rattle.router_trace.specs.Links.{durable_key}
use Rattle.router_trace.specs.Trace.{Trace, Did, Out, Bound, Step}
use Rattle.router_trace.specs.Deliveries.{Delivery, bound, counters, holds_standing, has_row, name_in, name_of, delivery, rank_in}
use Rattle.state_messages.specs.Messages.{lasts}
use Rattle.reply_rows.specs.Acts.{book_in, acts_of, booked}
use Rattle.reply_rows.specs.Admitting.{terminus_for}
use Rattle.theorems.specs.Admitted.{IsAdmitted}
use Rattle.theorems.specs.Came.{TakesUp}
use Rattle.theorems.proofs.Answering.{admitted_row}
use Rattle.theorems.proofs.Booked.{acts_apply}
use Rattle.theorems.proofs.Looking.{decided_keeps, forgotten_keeps, found_with, found_before}
use Rattle.theorems.proofs.Rebound.{AfterBound, after_bound, held_lasting, held_name}
use Rattle.theorems.proofs.Rebound.AfterBound.{is_new, is_joined, is_old}
use Rattle.theorems.proofs.Tests.{some_same, none_not_some}
use Rattle.theorems.proofs.Undecided.{was_did, was_out}

pub record RowLasts (b : BookView) (r : RowNumber) (d : Delivery) : Type 0 where
  pub known : r.0 < b.next_row
  pub lasting : (row : ARow) → row_at r.0 b.rows ≡ Some row → is_some row.consumer ≡ true → d.lasting ≡ true

abbrev pub Lasting : Trace → Type 0
Lasting t = (n : ℕ) (d : Delivery) (r : RowNumber) → delivery t n ≡ Some d → d.name ≡ Row r → RowLasts (book_in t) r d

-- acts leave the consumers of the rows that a book has

record Was (b : BookView) (n : ℕ) (now : ARow) : Type 0 where
  row : ARow
  there : row_at n b.rows ≡ Some row
  consumer : now.consumer ≡ row.consumer

record Keeps (b c : BookView) (n : ℕ) : Type 0 where
  next : b.next_row ≤ c.next_row
  rows : n < b.next_row → (now : ARow) → row_at n c.rows ≡ Some now → Was b n now

at_most : (n : ℕ) → n ≤ n
at_most n = omega arith

changed_was : (b : BookView) (n : ℕ) (change : ARow → Option ARow) → ((r s : ARow) → change r ≡ Some s → s.consumer ≡ r.consumer) → (q : Bool) (now : ARow)
    → (if q then option_and_then change (row_at n b.rows) else row_at n b.rows) ≡ Some now → Was b n now
changed_was b n change same q now is = by q (row_at n b.rows) refl is
  where
    by : (q : Bool) (v : Option ARow) → row_at n b.rows ≡ v → (if q then option_and_then change v else v) ≡ Some now → Was b n now
    by true None there is = absurd (none_not_some is)
    by true (Some r) there is = record { row = r; there = there; consumer = same r now is }
    by false v there is = record { row = now; there = there ∙ is; consumer = refl }

decided_same : (outcome : DeliveryState) (r s : ARow) → decided outcome r ≡ Some s → s.consumer ≡ r.consumer
decided_same outcome r s is = by r.forgotten is
  where
    by : (f : Bool) → (if f then None else Some (record r { outcome = Some outcome })) ≡ Some s → s.consumer ≡ r.consumer
    by true is = absurd (none_not_some is)
    by false is = ap (λ (x : ARow). x.consumer) (sym (some_same is))

forgotten_same : (r s : ARow) → forgotten r ≡ Some s → s.consumer ≡ r.consumer
forgotten_same r s is = by (is_some r.outcome) is
  where
    by : (f : Bool) → (if f then None else Some (record r { forgotten = true })) ≡ Some s → s.consumer ≡ r.consumer
    by true is = absurd (none_not_some is)
    by false is = ap (λ (x : ARow). x.consumer) (sym (some_same is))

one_keeps : (b : BookView) (act : Act) (n : ℕ) → IsOrdered b → refusal b act ≡ None → Keeps b (effect b act) n
one_keeps b (Make x) n ordered applies = record { next = at_most b.next_row; rows = λ low now is. record { row = now; there = is; consumer = refl } }
one_keeps b (Drop m) n ordered applies = record { next = at_most b.next_row; rows = λ low now is. record { row = now; there = is; consumer = refl } }
one_keeps b (Admit x) n ordered applies = record {
  next = more b.next_row;
  rows = λ low now is. record { row = now; there = sym (found_before n b.rows (admitted x) (under n b.next_row x.row.0 low (admits_next b x applies))) ∙ is; consumer = refl };
}
  where
    more : (k : ℕ) → k ≤ k + 1
    more k = omega arith

    under : (n k a : ℕ) → n < k → a ≡ k → n < a
    under n k a l e = omega (arith, l, e)
one_keeps b (Decide d) n ordered applies = record {
  next = at_most b.next_row;
  rows = λ low now is. changed_was b n (decided d.outcome) (decided_same d.outcome) (n == d.row.0) now
      (sym (found_with d.row.0 n (decided d.outcome) (decided_keeps d.outcome) b.rows ordered.rows_rise) ∙ is);
}
one_keeps b (Forget m) n ordered applies = record {
  next = at_most b.next_row;
  rows = λ low now is. changed_was b n forgotten forgotten_same (n == m.0) now (sym (found_with m.0 n forgotten forgotten_keeps b.rows ordered.rows_rise) ∙ is);
}

on : (j k n : ℕ) → j ≤ k → k ≤ n → j ≤ n
on j k n h g = omega (arith, h, g)

lower : (n j k : ℕ) → n < j → j ≤ k → n < k
lower n j k h g = omega (arith, h, g)

all_keep : (acts : List Act) (b : BookView) (n : ℕ) → IsOrdered b → first_fault b acts ≡ None → Keeps b (effects b acts) n
unfolding effects first_fault
all_keep [] b n ordered applies = record { next = at_most b.next_row; rows = λ low now is. record { row = now; there = is; consumer = refl } }
all_keep (act ∷ acts) b n ordered applies =
    let here : refusal b act ≡ None = first_applies _ _ applies in
    let one : Keeps b (effect b act) n = one_keeps b act n ordered here in
    let rest : Keeps (effect b act) (effects (effect b act) acts) n = all_keep acts (effect b act) n (ordered_step b act ordered here) (rest_applies (refusal b act) _ applies) in
    record {
      next = on b.next_row (effect b act).next_row (effects (effect b act) acts).next_row one.next rest.next;
      rows = λ low now is.
          let later = rest.rows (lower n b.next_row (effect b act).next_row low one.next) now is in
          let before = one.rows low later.row later.there in
          record { row = before.row; there = before.there; consumer = later.consumer ∙ before.consumer };
    }

pub booked_lasting : (t : Trace) (e : Event) → IsOrdered (book_in t) → Lasting t → Lasting (booked t e)
booked_lasting t e ordered was n d r there name =
    let old = was n d r there name in
    let keeps : Keeps (book_in t) (effects (book_in t) (acts_of t e)) r.0 = all_keep (acts_of t e) (book_in t) r.0 ordered (acts_apply t e ordered) in
    record {
      known = lower r.0 (book_in t).next_row (effects (book_in t) (acts_of t e)).next_row old.known keeps.next;
      lasting = λ now is bound_one. let row = keeps.rows old.known now is in old.lasting row.row row.there (ap is_some (sym row.consumer) ∙ bound_one);
    }

-- nor do the other entries change what a delivery is of

pub did_lasting : (s : Step) (t : Trace) → Lasting t → Lasting (Did s ∷ t)
did_lasting s t was n e r now name =
    let w = was_did s t n e now in
    let old = was n w.before r w.there (sym w.follows.name ∙ name) in
    record { known = old.known; lasting = λ row is bound_one. w.follows.lasting ∙ old.lasting row is bound_one }

pub out_lasting : (c : ℕ) (i : Item) (t : Trace) → Lasting t → Lasting (Out c i ∷ t)
out_lasting c i t was n e r now name =
    let w = was_out c i t n e now in
    let old = was n w.before r w.there (sym w.follows.name ∙ name) in
    record { known = old.known; lasting = λ row is bound_one. w.follows.lasting ∙ old.lasting row is bound_one }

named_row : (row : Option RowNumber) (k : ℕ) (r : RowNumber) → name_of row k ≡ Row r → row ≡ Some r
named_row None k r is = absurd cc
named_row (Some q) k r is = cc

pub bound_lasting : (b : Binding) (u : Trace) → (holds_standing b.kind ≡ None → (r : RowNumber) → b.row ≡ Some r → RowLasts (book_in u) r (bound (name_in u b) (rank_in u b) b)) → Lasting u → Lasting (Bound b ∷ u)
bound_lasting b u new was n d r now name = by (after_bound b u n d now)
  where
    by : AfterBound b u n d → RowLasts (book_in u) r d
    by (is_new made) =
        subst (λ (x : Delivery). RowLasts (book_in u) r x) made.is (new made.numbered r (named_row b.row _ r (ap (λ (x : Delivery). x.name) made.is ∙ name)))
    by (is_joined joins) =
        let old = was n joins.before r joins.there (sym (held_name joins.holding joins.before) ∙ ap (λ (x : Delivery). x.name) joins.is ∙ name) in
        record {
          known = old.known;
          lasting = λ row found bound_one. sym (ap (λ (x : Delivery). x.lasting) joins.is) ∙ held_lasting joins.holding joins.before ∙ old.lasting row found bound_one;
        }
    by (is_old there) = was n d r there name

-- a binding with a row lasts as its consumer's link does
bound_lasts : (u : Trace) (b : Binding) (r : RowNumber) → b.row ≡ Some r → b.lasting ≡ lasts u b.consumer → lasts u b.consumer ≡ true → (bound (name_in u b) (rank_in u b) b).lasting ≡ true
bound_lasts u b r named is durable = by b.row named
  where
    by : (o : Option RowNumber) → o ≡ Some r → (has_row (name_of o (counters u + 1)) && b.lasting) ≡ true
    by None named = absurd (none_not_some named)
    by (Some q) named = is ∙ durable

-- that of a message: the book has admitted its row for the terminus of that link, if it is durable
pub message_lasts : (u : Trace) (b : Binding) (r : RowNumber) → IsAdmitted u b r → IsOrdered (book_in u) → b.lasting ≡ lasts u b.consumer → b.row ≡ Some r → RowLasts (book_in u) r (bound (name_in u b) (rank_in u b) b)
message_lasts u b r adm ordered is named =
    let there = admitted_row u b r adm ordered in
    record { known = there.known; lasting = λ row found bound_one. bound_lasts u b r named is (durable row (some_same (sym there.found ∙ found)) bound_one) }
  where
    for_some : (c : BookView) (v : Option LinkKey) → is_some (terminus_for c v) ≡ true → is_some v ≡ true
    for_some c None is = is
    for_some c (Some k) is = refl

    durable : (row : ARow) → admitted adm.admission ≡ row → is_some row.consumer ≡ true → lasts u b.consumer ≡ true
    durable row same bound_one =
        for_some (book_in adm.before) (durable_key (link_of u b.consumer))
        (ap is_some (sym adm.consumer) ∙ ap (λ (x : ARow). is_some x.consumer) same ∙ bound_one)

-- that of a row that is joined to a producer's link
pub joined_lasts : (u : Trace) (b : Binding) → b.lasting ≡ true → (r : RowNumber) → r.0 < (book_in u).next_row → b.row ≡ Some r → RowLasts (book_in u) r (bound (name_in u b) (rank_in u b) b)
joined_lasts u b lasts r low named = record { known = low; lasting = λ row found bound_one. by b.row named }
  where
    by : (o : Option RowNumber) → o ≡ Some r → (has_row (name_of o (counters u + 1)) && b.lasting) ≡ true
    by None named = absurd (none_not_some named)
    by (Some q) named = lasts

-- and that of a row that is taken up
pub taken_lasts : (u : Trace) (b : Binding) (takes : TakesUp u b) → takes.row.number.0 < (book_in u).next_row → lasts u b.consumer ≡ true → (r : RowNumber) → b.row ≡ Some r
    → RowLasts (book_in u) r (bound (name_in u b) (rank_in u b) b)
taken_lasts u b takes low durable r named =
    record {
      known = subst (λ (n : RowNumber). n.0 < (book_in u).next_row) (some_same (sym takes.number ∙ named)) low;
      lasting = λ row found bound_one. bound_lasts u b r named takes.lasting durable;
    }
