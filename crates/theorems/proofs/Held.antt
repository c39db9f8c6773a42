-- A row that a producer's link has without a delivery, from its attach on or once it is settled: nothing that is told of its delivery changes.
use Rattle.std.proofs.Common.{◌≡◌, ◌∙◌, sym, ap, refl, subst, ◌⊎◌, inl, inr, ◌<◌, Bool, true, false, not, ◌&&◌, ◌||◌, List, ◌∷◌, ◌++◌}
use Rattle.std.specs.Prelude.{Option, Some, None, is_none, is_some, if◌then◌else◌}
use Rattle.std.specs.List.{All}
use Rattle.std.proofs.lemmas.List.Elements.{recursion_from_All}
use Rattle.amqp_model.specs.declared.state.DeliveryState.{DeliveryState}
use Rattle.book_core.specs.Rising.{Rises}
use Rattle.book_model.specs.declared.row.Row.{Row as ARow}
use Rattle.book_model.specs.declared.row.RowNumber.{RowNumber}
use Rattle.book_model.specs.Book.{row_at}
use Rattle.book_model.specs.Sound.{IsSound, IsSoundRow}
use Rattle.gate_journal.specs.Ordered.{IsOrdered, number_of_row}
use Rattle.router_trace.specs.declared.binding.Binding.{Binding}
use Rattle.router_trace.specs.declared.binding.DeliveryName.TheVariants.{Row}
use Rattle.router_trace.specs.declared.binding.Holding.{Holding}
use Rattle.router_trace.specs.declared.binding.Holding.TheVariants as holding
use Rattle.router_trace.specs.declared.binding.JoinedTo.TheVariants.{Standing as StandingOne, New}
use Rattle.router_trace.specs.declared.binding.Origin.{Origin}
use Rattle.router_trace.specs.declared.handle.Attachment.{Attachment}
use Rattle.router_trace.specs.Trace.{Trace}
use Rattle.router_trace.specs.Deliveries.{Delivery, bound, called, either_origin, held_by, holds_standing, joined_to, joining, name_in, outcome_held, owned_in, rank_in, resumed_held}
use Rattle.reply_rows.specs.Acts.{book_in}
use Rattle.router_reply.specs.Holding.{as_held}
use Rattle.theorems.specs.Came.{HoldsRow, SettlesRow}
use Rattle.theorems.proofs.Facts.{KeptAs, Agrees, RowFact, fact_moved}
use Rattle.theorems.proofs.Joins.{CanBind, row_among}
use Rattle.theorems.proofs.Looking.{found_in, found_below}
use Rattle.theorems.proofs.Tests.{some_same, none_not_some}

clash : true ≡ false → ⊥
clash e = cc

-- the row is the one of its number, older than the next, and sound

pub held_there : (u : Trace) (b : Binding) (q : Holding) (holds : HoldsRow u b q) → IsOrdered (book_in u) → row_at holds.row.number.0 (book_in u).rows ≡ Some holds.row
held_there u b q holds ordered =
    ap (row_at holds.row.number.0) holds.kept
    ∙ found_in holds.earlier holds.later holds.row (let P : List ARow → Type 0 = λ rs. Rises number_of_row rs in subst P holds.kept ordered.rows_rise)

pub held_below : (u : Trace) (b : Binding) (q : Holding) (holds : HoldsRow u b q) → IsOrdered (book_in u) → holds.row.number.0 < (book_in u).next_row
held_below u b q holds ordered =
    found_below holds.row.number.0 (book_in u).next_row (book_in u).rows holds.row ordered.rows_below (held_there u b q holds ordered)

held_sound : (u : Trace) (b : Binding) (q : Holding) (holds : HoldsRow u b q) → IsSound (book_in u) → IsSoundRow (book_in u).termini (book_in u).next_row holds.row
held_sound u b q holds sound =
    row_among (IsSoundRow (book_in u).termini (book_in u).next_row) holds.earlier holds.later holds.row
    (recursion_from_All (IsSoundRow (book_in u).termini (book_in u).next_row) (holds.earlier ++ holds.row ∷ holds.later)
    (subst (λ (rs : List ARow). All (IsSoundRow (book_in u).termini (book_in u).next_row) rs) holds.kept sound.rows))

-- what is bound has the outcome that the book has of it; one that is forgotten is undecided
none_if : (o : Option DeliveryState) (f : Bool) → f ≡ true → (is_some o && f) ≡ false → o ≡ None
none_if None f e stays = refl
none_if (Some s) f e stays = absurd (clash (sym e ∙ stays))

held_kept : (at : Attachment) (row : ARow) → (is_some row.outcome && row.forgotten) ≡ false → KeptAs row.outcome (outcome_held (as_held at row) (New row.outcome))
held_kept at row stays = by row.forgotten refl
  where
    by : (f : Bool) → row.forgotten ≡ f → KeptAs row.outcome (outcome_held (if f then holding.Settled at else holding.Unresumed at) (New row.outcome))
    by true e = inr (none_if row.outcome row.forgotten e stays)
    by false e = inr refl

-- it isn't undecided there, and has no producer's delivery

never : (o : Option DeliveryState) → (is_none o && not (false || is_none o)) ≡ false
never None = refl
never (Some s) = refl

no_source : (q : Holding) (p : Origin) → resumed_held q ≡ None → either_origin (resumed_held q) None ≡ Some p → ⊥
no_source q p quiet from = none_not_some (sym (ap (λ (o : Option Origin). either_origin o None) quiet) ∙ from)

-- a delivery that stands has the same facts
held_fact : (u : Trace) (r : RowNumber) (q : Holding) (d : Delivery) → resumed_held q ≡ None → RowFact u (book_in u) r d → RowFact u (book_in u) r (held_by q d)
held_fact u r (holding.Resumed p) d quiet was = absurd (none_not_some (sym quiet))
held_fact u r (holding.Unresumed a) d quiet was =
    fact_moved u u (book_in u) r d (held_by (holding.Unresumed a) d) (record { named = refl; settled = refl; outcome = refl; comes = λ p from. from }) (λ p key from durable. durable) (λ p tag from has. has) was
held_fact u r (holding.Settled a) d quiet was =
    fact_moved u u (book_in u) r d (held_by (holding.Settled a) d) (record { named = refl; settled = refl; outcome = refl; comes = λ p from. from }) (λ p key from durable. durable) (λ p tag from has. has) was

standing_can : (u : Trace) (q : Holding) (n : RowNumber) → resumed_held q ≡ None → CanBind u (joining q n StandingOne)
standing_can u q n quiet = record {
  consumer = λ undecided. absurd (clash (sym undecided ∙ never (outcome_held q StandingOne)));
  producer = λ p from. absurd (no_source q p quiet from);
  new = λ new r named. absurd (none_not_some (sym new));
  joined = λ r h d is named was. subst (λ (x : Holding). RowFact u (book_in u) r (held_by x d)) (some_same is) (held_fact u r q d quiet was);
  volatile = λ none. absurd (none_not_some (sym none));
  rowed = λ h is none. none_not_some (sym none);
}

pub can_hold : (u : Trace) (b : Binding) (q : Holding) → resumed_held q ≡ None → HoldsRow u b q → IsOrdered (book_in u) → IsSound (book_in u) → CanBind u b
can_hold u b q quiet holds ordered sound = subst (CanBind u) (sym holds.holds) (by (called u (Row holds.row.number)))
  where
    n : RowNumber
    n = holds.row.number

    made : Binding
    made = joining q n (New holds.row.outcome)

    kept : KeptAs holds.row.outcome (outcome_held q (New holds.row.outcome))
    kept = subst (λ (h : Holding). KeptAs holds.row.outcome (outcome_held h (New holds.row.outcome))) (sym holds.how) (held_kept holds.at holds.row (held_sound u b q holds sound).stays)

    fact : RowFact u (book_in u) n (bound (name_in u made) (rank_in u made) made)
    fact = record {
      settled = refl;
      known = held_below u b q holds ordered;
      agrees = subst (λ (v : Option ARow). Agrees u (book_in u) v (bound (name_in u made) (rank_in u made) made)) (sym (held_there u b q holds ordered)) (record {
        outcome = kept;
        waits = λ p from. absurd (no_source q p quiet from);
        from = λ p from. absurd (no_source q p quiet from);
        claimed = λ p from. absurd (no_source q p quiet from);
      });
    }

    by : (v : Option Delivery) → CanBind u (joining q n (joined_to v holds.row.outcome))
    by (Some d) = standing_can u q n quiet
    by None = record {
      consumer = λ undecided. absurd (clash (sym undecided ∙ never (outcome_held q (New holds.row.outcome))));
      producer = λ p from. absurd (no_source q p quiet from);
      new = λ new r named. subst (λ (m : RowNumber). RowFact u (book_in u) m (bound (name_in u made) (rank_in u made) made)) (some_same named) fact;
      joined = λ r h d is. absurd (none_not_some is);
      volatile = λ none. absurd (none_not_some (sym none));
      rowed = λ h is none. none_not_some is;
    }

-- one that is settled has a delivery that stands

stands : (u : Trace) (b : Binding) (q : Holding) (settles : SettlesRow u b q) → b ≡ joining q settles.row StandingOne
stands u b q settles = settles.settles ∙ by (called u (Row settles.row)) settles.owned
  where
    by : (v : Option Delivery) → owned_in v ≡ Some settles.owner → joining q settles.row (joined_to v None) ≡ joining q settles.row StandingOne
    by None owned = absurd (none_not_some owned)
    by (Some d) owned = refl

pub settles_standing : (u : Trace) (b : Binding) (q : Holding) → SettlesRow u b q → holds_standing b.kind ≡ Some q
settles_standing u b q settles = ap (λ (x : Binding). holds_standing x.kind) (stands u b q settles)

pub can_settle : (u : Trace) (b : Binding) (q : Holding) → resumed_held q ≡ None → SettlesRow u b q → CanBind u b
can_settle u b q quiet settles = subst (CanBind u) (sym (stands u b q settles)) (standing_can u q settles.row quiet)

-- either of them

pub can_have : (u : Trace) (b : Binding) (q : Holding) → resumed_held q ≡ None → HoldsRow u b q ⊎ SettlesRow u b q → IsOrdered (book_in u) → IsSound (book_in u) → CanBind u b
can_have u b q quiet (inl holds) ordered sound = can_hold u b q quiet holds ordered sound
can_have u b q quiet (inr settles) ordered sound = can_settle u b q quiet settles
