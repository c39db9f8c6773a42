-- The outcome that a book has of a row, an act gave it.
use Rattle.std.proofs.Common.{◌≡◌, ◌∙◌, sym, ap, refl, subst, ◌⊎◌, inl, inr, ℕ, Bool, true, false, List, [], ◌∷◌, ◌++◌}
use Rattle.std.specs.Prelude.{◌==◌, Option, Some, None, is_some, filter_map, if◌then◌else◌}
use Rattle.std.proofs.lemmas.Bool.{eqb-true}
use Rattle.amqp_model.specs.declared.state.DeliveryState.{DeliveryState}
use Rattle.book_model.specs.declared.act.Act.{Act}
use Rattle.book_model.specs.declared.act.Act.TheVariants.{Make, Admit, Decide, Forget, Drop}
use Rattle.book_model.specs.declared.act.Decision.{Decision}
use Rattle.book_model.specs.declared.row.Row.{Row as ARow}
use Rattle.book_model.specs.declared.row.RowNumber.{RowNumber}
use Rattle.book_model.specs.Book.{BookView, with_row, decided, forgotten, admitted, effect, effects}
use Rattle.router_trace.specs.Trace.{Trace, Entry, Did, Out, Took, Bound, Booked, Routed, Began}
use Rattle.reply_rows.specs.Acts.{book_in}
use Rattle.theorems.specs.OwnConsumer.{WasDone}
use Rattle.theorems.proofs.Among.{Stands, stands_in_both, stands_in_filter_map}
use Rattle.theorems.proofs.Origins.{Continues, done_now, part_itself, part_more, was_done}
use Rattle.theorems.proofs.Tests.{some_same, none_not_some}

pub same_row : (q r : RowNumber) → q.0 ≡ r.0 → q ≡ r
same_row q r e = let number : ℕ → RowNumber = λ n. record { 0 = n } in ap number e

pub with_one : (n : ℕ) (change : ARow → Option ARow) (rows : List ARow) (r : ARow) → Stands ARow r (with_row n change rows)
    → (old : ARow) × Stands ARow old rows × ((old ≡ r) ⊎ ((old.number.0 ≡ n) × (change old ≡ Some r)))
with_one n change rows r is =
    let one = stands_in_filter_map ARow ARow (λ (x : ARow). if x.number.0 == n then change x else Some x) r rows is in (one.0, one.1, by one.0 (one.0.number.0 == n) refl one.2)
  where
    by : (x : ARow) (b : Bool) → (x.number.0 == n) ≡ b → (if b then change x else Some x) ≡ Some r → (x ≡ r) ⊎ ((x.number.0 ≡ n) × (change x ≡ Some r))
    by x true e is = inr (eqb-true x.number.0 n e, is)
    by x false e is = inl (some_same is)

module _ (s : DeliveryState) where
  abbrev pub Has : ARow → Type 0
  Has r = r.outcome ≡ Some s

  abbrev pub decision : RowNumber → Act
  decision n = Decide (record { row = n; outcome = s })

  -- the row was there, decided already
  abbrev pub Was : List ARow → ARow → Type 0
  Was rows r = (old : ARow) × Stands ARow old rows × (old.number ≡ r.number) × Has old

  by_decision : (d : Decision) (rows : List ARow) (r : ARow) → Stands ARow r (with_row d.row.0 (decided d.outcome) rows) → Has r → Was rows r ⊎ (Decide d ≡ decision r.number)
  by_decision d rows r is accepted = let one = with_one d.row.0 (decided d.outcome) rows r is in by one.0 one.1 one.2
    where
      made : (old : ARow) (b : Bool) → old.number.0 ≡ d.row.0 → (if b then None else Some (record old { outcome = Some d.outcome })) ≡ Some r → Decide d ≡ decision r.number
      made old true number e = absurd (none_not_some e)
      made old false number e =
          let now : record old { outcome = Some d.outcome } ≡ r = some_same e in
          let outcome : d.outcome ≡ s = some_same (ap (λ (x : ARow). x.outcome) now ∙ accepted) in
          let row : d.row ≡ r.number = same_row d.row old.number (sym number) ∙ ap (λ (x : ARow). x.number) now in
          ap (λ (o : DeliveryState). Decide (record { row = d.row; outcome = o })) outcome ∙ ap decision row

      by : (old : ARow) → Stands ARow old rows → (old ≡ r) ⊎ ((old.number.0 ≡ d.row.0) × (decided d.outcome old ≡ Some r)) → Was rows r ⊎ (Decide d ≡ decision r.number)
      by old there (inl same) = inl (old, there, ap (λ (x : ARow). x.number) same, ap (λ (x : ARow). x.outcome) same ∙ accepted)
      by old there (inr changed) = inr (made old old.forgotten changed.0 changed.1)

  by_forgetting : (n : ℕ) (rows : List ARow) (r : ARow) → Stands ARow r (with_row n forgotten rows) → Has r → Was rows r
  by_forgetting n rows r is accepted = let one = with_one n forgotten rows r is in by one.0 one.1 one.2
    where
      left : (old : ARow) (b : Bool) → Stands ARow old rows → (if b then None else Some (record old { forgotten = true })) ≡ Some r → Was rows r
      left old true there e = absurd (none_not_some e)
      left old false there e =
          let now : record old { forgotten = true } ≡ r = some_same e in
          (old, there, ap (λ (x : ARow). x.number) now, ap (λ (x : ARow). x.outcome) now ∙ accepted)

      by : (old : ARow) → Stands ARow old rows → (old ≡ r) ⊎ ((old.number.0 ≡ n) × (forgotten old ≡ Some r)) → Was rows r
      by old there (inl same) = (old, there, ap (λ (x : ARow). x.number) same, ap (λ (x : ARow). x.outcome) same ∙ accepted)
      by old there (inr changed) = left old (is_some old.outcome) there changed.1

  by_act : (b : BookView) (act : Act) (r : ARow) → Stands ARow r (effect b act).rows → Has r → Was b.rows r ⊎ (act ≡ decision r.number)
  by_act b (Make x) r is accepted = inl (r, is, refl, accepted)
  by_act b (Admit x) r is accepted = by (stands_in_both ARow r b.rows (admitted x ∷ []) is)
    where
      new : Stands ARow r (admitted x ∷ []) → Was b.rows r
      new (inl same) = absurd (none_not_some (ap (λ (y : ARow). y.outcome) same ∙ accepted))
      new (inr is) = absurd is

      by : Stands ARow r b.rows ⊎ Stands ARow r (admitted x ∷ []) → Was b.rows r ⊎ (Admit x ≡ decision r.number)
      by (inl is) = inl (r, is, refl, accepted)
      by (inr is) = inl (new is)
  by_act b (Decide d) r is accepted = by_decision d b.rows r is accepted
  by_act b (Forget n) r is accepted = inl (by_forgetting n.0 b.rows r is accepted)
  by_act b (Drop n) r is accepted = inl (r, is, refl, accepted)

  pub by_acts : (acts : List Act) (b : BookView) (r : ARow) → Stands ARow r (effects b acts).rows → Has r → Was b.rows r ⊎ Stands Act (decision r.number) acts
  unfolding effects
  by_acts [] b r is accepted = inl (r, is, refl, accepted)
  by_acts (act ∷ acts) b r is accepted = by (by_acts acts (effect b act) r is accepted)
    where
      first : (old : ARow) → old.number ≡ r.number → Was b.rows old ⊎ (act ≡ decision old.number) → Was b.rows r ⊎ Stands Act (decision r.number) (act ∷ acts)
      first old same (inl was) = inl (was.0, was.1, was.2 ∙ same, was.3)
      first old same (inr is) = inr (inl (is ∙ ap decision same))

      by : Was (effect b act).rows r ⊎ Stands Act (decision r.number) acts → Was b.rows r ⊎ Stands Act (decision r.number) (act ∷ acts)
      by (inl was) = first was.0 was.2 (by_act b act was.0 was.1 was.3)
      by (inr is) = inr (inr is)

  -- in a trace in which each opening is on the book below it

  abbrev pub Decided : Trace → Type 0
  Decided t = (r : ARow) → Stands ARow r (book_in t).rows → Has r → WasDone t (decision r.number)

  same_decided : (x : Entry) (t : Trace) → (book_in (x ∷ t)).rows ≡ (book_in t).rows → Decided t → Decided (x ∷ t)
  same_decided x t same was r is has =
      was_done t (x ∷ t) (decision r.number) (part_more x t t (part_itself t)) (was r (subst (λ (rows : List ARow). Stands ARow r rows) same is) has)

  booked_decided : (t : Trace) (acts : List Act) (full : List ℕ) → Decided t → Decided (Booked acts full ∷ t)
  booked_decided t acts full was r is has = by (by_acts acts (book_in t) r is has)
    where
      by : Was (book_in t).rows r ⊎ Stands Act (decision r.number) acts → WasDone (Booked acts full ∷ t) (decision r.number)
      by (inl old) =
          was_done t (Booked acts full ∷ t) (decision r.number) (part_more (Booked acts full) t t (part_itself t))
          (subst (λ (n : RowNumber). WasDone t (decision n)) old.2 (was old.0 old.1 old.3))
      by (inr act) = done_now t acts full (decision r.number) act

  pub decided_in : (t : Trace) → Continues t → Decided t
  decided_in [] all = λ r is has. absurd is
  decided_in (Did x ∷ t) all = same_decided (Did x) t refl (decided_in t all)
  decided_in (Out c i ∷ t) all = same_decided (Out c i) t refl (decided_in t all)
  decided_in (Took c n ∷ t) all = same_decided (Took c n) t refl (decided_in t all)
  decided_in (Bound b ∷ t) all = same_decided (Bound b) t refl (decided_in t all)
  decided_in (Booked acts full ∷ t) all = booked_decided t acts full (decided_in t all)
  decided_in (Routed passage ∷ t) all = same_decided (Routed passage) t refl (decided_in t all)
  decided_in (Began g ∷ t) all = same_decided (Began g) t (ap (λ (b : BookView). b.rows) all.0) (decided_in t all.1)
