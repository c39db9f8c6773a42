-- A row to which its producer's delivery is joined: what the book has of it holds of the delivery that is the one to be told from now on.
use Rattle.std.proofs.Common.{◌≡◌, ◌∙◌, sym, ap, refl, subst, inl, inr, ℕ, ◌<◌, Bool, true, false, not, ◌&&◌, ◌||◌, List, [], ◌∷◌, ◌++◌}
use Rattle.std.specs.Prelude.{◌==◌, Option, Some, None, is_none}
use Rattle.std.specs.List.{All, AllByRecursion}
use Rattle.std.proofs.lemmas.Bool.{eqb-true, eq-eqb}
use Rattle.std.proofs.lemmas.List.Elements.{recursion_from_All}
use Rattle.amqp_model.specs.declared.state.DeliveryState.{DeliveryState}
use Rattle.book_core.specs.Rising.{Rises, AllBelow}
use Rattle.book_model.specs.declared.row.Row.{Row as ARow}
use Rattle.book_model.specs.declared.row.RowNumber.{RowNumber}
use Rattle.book_model.specs.declared.terminus.LinkRole.TheVariants.{Producer, Consumer}
use Rattle.book_model.specs.declared.terminus.Terminus.{Terminus}
use Rattle.book_model.specs.declared.terminus.TerminusNumber.{TerminusNumber}
use Rattle.book_model.specs.Book.{BookView, row_at, terminus_at, has_role, may_bind, same_role}
use Rattle.book_model.specs.Sound.{IsSound, IsSoundRow}
use Rattle.gate_journal.specs.Ordered.{IsOrdered, number_of_row, number_of_terminus}
use Rattle.router_trace.specs.declared.binding.Holding.TheVariants as holding
use Rattle.router_trace.specs.declared.binding.Holding.{Holding}
use Rattle.router_trace.specs.declared.binding.Binding.{Binding}
use Rattle.router_trace.specs.declared.binding.DeliveryName.TheVariants.{Row}
use Rattle.router_trace.specs.declared.binding.JoinedTo.TheVariants.{Standing as StandingOne, New}
use Rattle.router_trace.specs.declared.binding.Origin.{Origin}
use Rattle.router_trace.specs.declared.handle.Attachment.{Attachment}
use Rattle.router_trace.specs.Trace.{Trace}
use Rattle.router_trace.specs.Claims.{claims}
use Rattle.router_trace.specs.Following.{link_of}
use Rattle.router_trace.specs.Links.{link, durable_key, has_number, is_attached}
use Rattle.router_trace.specs.Deliveries.{Delivery, bound, called, is_undecided, joined_to, joining, name_in, source, with_origin, rank_in, holds_standing, held_by}
use Rattle.state_connections.proofs.Lists.{by_test}
use Rattle.reply_rows.specs.Acts.{book_in}
use Rattle.theorems.specs.Came.{JoinsRow}
use Rattle.theorems.proofs.Claimed.{HasClaim}
use Rattle.theorems.proofs.Middles.{said_of, whole_said}
use Rattle.theorems.proofs.Facts.{FromTerminus, KeptAs, IsHeld, Agrees, RowFact}
use Rattle.theorems.proofs.Looking.{found_in, found_below}
use Rattle.theorems.proofs.Settling.{found_at_number}
use Rattle.theorems.proofs.Standing.{Sends}
use Rattle.theorems.proofs.Tests.{some_same, none_not_some}
use Rattle.theorems.proofs.Volatile.{IsVolatile}

-- the row is the one of its number, and older than the next

joined_there : (u : Trace) (b : Binding) (p : Origin) (joins : JoinsRow u b p) → IsOrdered (book_in u) → row_at joins.row.number.0 (book_in u).rows ≡ Some joins.row
joined_there u b p joins ordered =
    ap (row_at joins.row.number.0) joins.kept
    ∙ found_in joins.earlier joins.later joins.row (let P : List ARow → Type 0 = λ rs. Rises number_of_row rs in subst P joins.kept ordered.rows_rise)

pub joined_below : (u : Trace) (b : Binding) (p : Origin) (joins : JoinsRow u b p) → IsOrdered (book_in u) → joins.row.number.0 < (book_in u).next_row
joined_below u b p joins ordered =
    found_below joins.row.number.0 (book_in u).next_row (book_in u).rows joins.row ordered.rows_below (joined_there u b p joins ordered)

-- what a sound book says of it
pub row_among : (P : ARow → Type 0) (earlier later : List ARow) (row : ARow) → AllByRecursion P (earlier ++ row ∷ later) → P row
row_among P [] later row all = all.0
row_among P (r ∷ rs) later row all = row_among P rs later row all.1

joined_sound : (u : Trace) (b : Binding) (p : Origin) (joins : JoinsRow u b p) → IsSound (book_in u) → IsSoundRow (book_in u).termini (book_in u).next_row joins.row
joined_sound u b p joins sound =
    row_among (IsSoundRow (book_in u).termini (book_in u).next_row) joins.earlier joins.later joins.row
    (recursion_from_All (IsSoundRow (book_in u).termini (book_in u).next_row) (joins.earlier ++ joins.row ∷ joins.later) (subst (λ (rs : List ARow). All (IsSoundRow (book_in u).termini (book_in u).next_row) rs) joins.kept sound.rows))

-- its terminus is a producer's
joined_terminus : (u : Trace) (b : Binding) (p : Origin) (joins : JoinsRow u b p) → IsOrdered (book_in u) → terminus_at joins.row.producer.0 (book_in u).termini ≡ Some joins.terminus
joined_terminus u b p joins ordered =
    ap (λ (n : ℕ). terminus_at n (book_in u).termini) joins.its_producer ∙ found_at_number joins.key (book_in u).termini joins.terminus ordered.termini_rise joins.of_key

pub joined_role : (u : Trace) (b : Binding) (p : Origin) (joins : JoinsRow u b p) → IsOrdered (book_in u) → IsSound (book_in u) → same_role joins.terminus.key.role Producer ≡ true
joined_role u b p joins ordered sound = sym (ap (has_role Producer) (joined_terminus u b p joins ordered)) ∙ (joined_sound u b p joins sound).producer joins.unforgotten

-- it came on the producer's link
joined_from : (u : Trace) (b : Binding) (p : Origin) (joins : JoinsRow u b p) → IsOrdered (book_in u) → IsSound (book_in u) → FromTerminus u (book_in u) p joins.row.producer.0
joined_from u b p joins ordered sound = record {
  key = joins.key;
  durable = ap (λ (a : Attachment). durable_key (link_of u a)) joins.from.0 ∙ ap durable_key joins.attached ∙ joins.durable;
  at = joins.terminus;
  found = joins.of_key;
  number = sym joins.its_producer;
  role = joined_role u b p joins ordered sound;
}

-- what the book has of it, of a delivery with this origin and an outcome that the book has as that of the row
joined_held : (u : Trace) (b : Binding) (p : Origin) (joins : JoinsRow u b p) → IsOrdered (book_in u) → IsSound (book_in u) → (e : Delivery) → KeptAs joins.row.outcome e.outcome
    → ((q : Origin) → source e ≡ Some q → q ≡ p) → IsHeld u (book_in u) joins.row e
joined_held u b p joins ordered sound e kept comes = record {
  outcome = kept;
  waits = λ q from. joins.unforgotten;
  from = λ q from. subst (λ (o : Origin). FromTerminus u (book_in u) o joins.row.producer.0) (sym (comes q from)) (joined_from u b p joins ordered sound);
  claimed = λ q from. subst (λ (o : Origin). HasClaim u o joins.row.tag.items) (sym (comes q from)) its_claim;
}
  where
    its_claim : HasClaim u p joins.row.tag.items
    its_claim = record {
      claim = joins.claim;
      there = ap (λ (a : Attachment). claims u a.conn.0 a.channel p.id) joins.from.0 ∙ joins.claimed;
      on_link = joins.on_link ∙ sym (ap (λ (a : Attachment). a.handle) joins.from.0);
      tagged = joins.same_tag;
      apart = λ said is same.
          none_not_some (sym (ap (λ (a : Attachment). said_of (link u a.conn.0 a.channel a.handle)) joins.from.0 ∙ whole_said u joins.conn joins.own joins.handle joins.message joins.payload joins.came) ∙ is);
    }

joined_fact : (u : Trace) (b : Binding) (p : Origin) (joins : JoinsRow u b p) → IsOrdered (book_in u) → IsSound (book_in u) → (e : Delivery) → e.presettled ≡ false → KeptAs joins.row.outcome e.outcome
    → ((q : Origin) → source e ≡ Some q → q ≡ p) → RowFact u (book_in u) joins.row.number e
joined_fact u b p joins ordered sound e settled kept comes = record {
  settled = settled;
  known = joined_below u b p joins ordered;
  agrees = subst (λ (v : Option ARow). Agrees u (book_in u) v e) (sym (joined_there u b p joins ordered)) (joined_held u b p joins ordered sound e kept comes);
}

-- What a binding needs, so that what holds stays: its consumer has its link, if what is bound is undecided; its producer has its; and what the book has of
-- its row holds of what is bound, and of the delivery that a producer's link has from now on.
pub record CanBind (u : Trace) (b : Binding) : Type 0 where
  pub consumer : is_undecided (bound (name_in u b) (rank_in u b) b) ≡ true → Sends u b.consumer
  pub producer : (q : Origin) → source (bound (name_in u b) (rank_in u b) b) ≡ Some q → is_attached u q.link ≡ true
  pub new : holds_standing b.kind ≡ None → (r : RowNumber) → b.row ≡ Some r → RowFact u (book_in u) r (bound (name_in u b) (rank_in u b) b)
  pub joined : (r : RowNumber) (q : Holding) (d : Delivery) → holds_standing b.kind ≡ Some q → b.row ≡ Some r → RowFact u (book_in u) r d → RowFact u (book_in u) r (held_by q d)
  -- what has no row comes on a link that isn't durable, and joins nothing
  pub volatile : b.row ≡ None → (p : Origin) → source (bound (name_in u b) (rank_in u b) b) ≡ Some p → IsVolatile u p
  pub rowed : (q : Holding) → holds_standing b.kind ≡ Some q → b.row ≡ None → ⊥

clash : false ≡ true → ⊥
clash e = cc

origin_attached : (u : Trace) (b : Binding) (p : Origin) → JoinsRow u b p → (q : Origin) → p ≡ q → is_attached u q.link ≡ true
origin_attached u b p joins q same =
    subst (λ (o : Origin). is_attached u o.link ≡ true) same
    (subst (λ (a : Attachment). is_attached u a ≡ true) (sym joins.from.0)
    (ap (has_number joins.producer.number) joins.attached ∙ eq-eqb joins.producer.number joins.producer.number refl))

pub can_join : (u : Trace) (b : Binding) (p : Origin) → JoinsRow u b p → IsOrdered (book_in u) → IsSound (book_in u) → CanBind u b
can_join u b p joins ordered sound = subst (CanBind u) (sym joins.joins) (by (called u (Row joins.row.number)))
  where
    n : RowNumber
    n = joins.row.number

    fact : (e : Delivery) → e.presettled ≡ false → KeptAs joins.row.outcome e.outcome → ((q : Origin) → source e ≡ Some q → q ≡ p) → (r : RowNumber) → Some n ≡ Some r → RowFact u (book_in u) r e
    fact e settled kept comes r named = subst (λ (m : RowNumber). RowFact u (book_in u) m e) (some_same named) (joined_fact u b p joins ordered sound e settled kept comes)

    -- the outcome that the delivery has which stands
    kept_of : (d : Delivery) (r : RowNumber) → Some n ≡ Some r → RowFact u (book_in u) r d → KeptAs joins.row.outcome d.outcome
    kept_of d r named was =
        let there : row_at r.0 (book_in u).rows ≡ Some joins.row = subst (λ (m : RowNumber). row_at m.0 (book_in u).rows ≡ Some joins.row) (some_same named) (joined_there u b p joins ordered) in
        let held : IsHeld u (book_in u) joins.row d = subst (λ (v : Option ARow). Agrees u (book_in u) v d) there was.agrees in
        held.outcome

    standing : CanBind u (joining (holding.Resumed p) n StandingOne)
    standing = record {
      consumer = λ undecided. absurd (clash undecided);
      producer = λ q from. origin_attached u b p joins q (some_same from);
      new = λ new r named. absurd (none_not_some (sym new));
      joined = λ r q d is named was.
          subst (λ (h : Holding). RowFact u (book_in u) r (held_by h d)) (some_same is)
          (fact (with_origin p d) was.settled (kept_of d r named was) (λ o from. sym (some_same from)) r named);
      volatile = λ none. absurd (none_not_some (sym none));
      rowed = λ q is none. none_not_some (sym none);
    }

    new_one : (o : Option DeliveryState) → joins.row.outcome ≡ o → CanBind u (joining (holding.Resumed p) n (New o))
    new_one o is = record {
      consumer = λ undecided. absurd (clash (sym (never o) ∙ undecided));
      producer = λ q from. origin_attached u b p joins q (some_same from);
      new = λ new r named. fact (bound (name_in u (joining (holding.Resumed p) n (New o))) (rank_in u (joining (holding.Resumed p) n (New o))) (joining (holding.Resumed p) n (New o))) refl (inr is) (λ q from. sym (some_same from)) r named;
      joined = λ r q d is. absurd (none_not_some is);
      volatile = λ none. absurd (none_not_some (sym none));
      rowed = λ q is none. none_not_some is;
    }
      where
        never : (o : Option DeliveryState) → (is_none o && not (false || is_none o)) ≡ false
        never None = refl
        never (Some s) = refl

    by : (v : Option Delivery) → CanBind u (joining (holding.Resumed p) n (joined_to v joins.row.outcome))
    by (Some d) = standing
    by None = new_one joins.row.outcome refl
