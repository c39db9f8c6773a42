-- The disposition that is due next reports an outcome that was given, for the first time.
use Rattle.std.proofs.Common.{◌≡◌, ◌∙◌, sym, ap, subst, refl, inl, inr, ℕ, ◌+◌, false, List, [], ◌∷◌}
use Rattle.std.specs.Prelude.{Option, Some, None, not, if◌then◌else◌}
use Rattle.amqp_model.specs.declared.state.DeliveryState.{DeliveryState}
use Rattle.book_model.specs.declared.row.RowNumber.{RowNumber}
use Rattle.router_trace.specs.declared.binding.BindingKind.{BindingKind}
use Rattle.router_trace.specs.declared.binding.BindingKind.TheVariants as kind
use Rattle.router_trace.specs.declared.binding.DeliveryName.TheVariants.{Counter}
use Rattle.router_trace.specs.declared.binding.Origin.{Origin}
use Rattle.router_trace.specs.Trace.{Entry, Did, Out, Took, Bound, Booked, Routed, Began}
use Rattle.router_trace.specs.Deliveries.{Delivery, has_row, bindings, counters, name_of, is_message, origin_of, either_origin, joins_standing, presettles, delivery, rank_at}
use Rattle.router_trace.specs.Following.{is_to_be_told, outcome_to, tell, tells_of, tells}
use Rattle.router_core.proofs.Due.{ranked_elim}
use Rattle.reply_rows.specs.Acts.{book_in}
use Rattle.theorems.specs.Admitted.{IsFromTerminus, IsAdmittedUnder, IsAdmittedIf, RowIsAdmitted}
use Rattle.theorems.specs.Each.{EachBound}
use Rattle.theorems.specs.OneConsumer.{IsOrNone, IsOfMessage, is_row_of, joined_in}
use Rattle.theorems.proofs.Outcomes.{outcomes_of_consumers}
use Rattle.theorems.proofs.Bindings.{each_bound, of_messages}
use Rattle.theorems.proofs.Telling.{none_before}
use Rattle.theorems.proofs.Sound.{AllLawful}
use Rattle.theorems.proofs.Tests.{none_not_some}

-- A delivery whose outcome must be reported wasn't presettled: a message that its producer had settled has no row, so no delivery was joined to it.

none_without_row : (later : List Entry) (k : ℕ) → joined_in later (Counter k) ≡ None
none_without_row [] k = refl
none_without_row (Did s ∷ later) k = none_without_row later k
none_without_row (Out c i ∷ later) k = none_without_row later k
none_without_row (Took c j ∷ later) k = none_without_row later k
none_without_row (Booked acts full ∷ later) k = none_without_row later k
none_without_row (Routed passage ∷ later) k = none_without_row later k
none_without_row (Began g ∷ later) k = none_without_row later k
none_without_row (Bound b ∷ later) k = by b.row (none_without_row later k)
  where
    by : (row : Option RowNumber) → joined_in later (Counter k) ≡ None
        → (if is_row_of row (Counter k) then either_origin (joins_standing b.kind) (joined_in later (Counter k)) else joined_in later (Counter k)) ≡ None
    by None rest = rest
    by (Some r) rest = rest

not_presettled : (u : List Entry) (n : ℕ) (d : Delivery) (p : Origin) → EachBound RowIsAdmitted u → delivery u n ≡ Some d → d.origin ≡ Some p → d.presettled ≡ false
not_presettled u n d p admitted there origin = message.is.presettled ∙ by message.binding.kind refl
  where
    message : IsOfMessage u n d
    message = of_messages u n d there

    its_row : IsAdmittedIf (is_message message.binding.kind) message.before message.binding
    its_row = each_bound RowIsAdmitted message.later message.before message.binding (subst (λ (t : List Entry). EachBound RowIsAdmitted t) message.trace admitted)

    joined_one : Option Origin
    joined_one = joined_in message.later d.name

    some_origin : IsOrNone d.origin None → ⊥
    some_origin (inl is) = none_not_some (sym is ∙ origin)
    some_origin (inr is) = none_not_some (sym is ∙ origin)

    no_origin : (row : Option RowNumber) → message.binding.row ≡ row → (origin_of message.binding.kind ≡ None) → IsAdmittedUnder message.before message.binding row → joined_one ≡ None
    no_origin None is settled adm =
        ap (joined_in message.later) (message.name ∙ ap (λ (r : Option RowNumber). name_of r (counters message.before + 1)) is) ∙ none_without_row message.later (counters message.before + 1)
    no_origin (Some row) is settled adm =
        absurd (subst (λ (o : Option Origin). IsFromTerminus o message.before (book_in adm.before) adm.admission.producer) settled adm.producer)

    settled_before : message.binding.kind ≡ kind.Message None → ⊥
    settled_before is =
        let adm : IsAdmittedUnder message.before message.binding message.binding.row = subst (λ (k : BindingKind). IsAdmittedIf (is_message k) message.before message.binding) is its_row in
        let none : joined_one ≡ None = no_origin message.binding.row refl (ap origin_of is) adm in
        some_origin (subst (λ (o : Option Origin). IsOrNone d.origin (either_origin o None)) none
        (subst (λ (k : BindingKind). IsOrNone d.origin (either_origin joined_one (origin_of k))) is message.is.origin))

    by : (k : BindingKind) → message.binding.kind ≡ k → presettles k ≡ false
    by (kind.Message (Some q)) is = refl
    by (kind.Message None) is = absurd (settled_before is)
    by (kind.TakenUp brought) is = refl
    by (kind.Joined q to) is = refl

outcome_lawful : (t : List Entry) (n : ℕ) (d : Delivery) (origin : Option Origin) (outcome : Option DeliveryState) → EachBound RowIsAdmitted t → delivery t n ≡ Some d → d.origin ≡ origin
    → d.outcome ≡ outcome → AllLawful t (outcome_to origin (not (has_row d.name)) outcome)
outcome_lawful t n d None outcome admitted there e f = tt
outcome_lawful t n d (Some p) None admitted there e f = tt
outcome_lawful t n d (Some p) (Some s) admitted there e f = (
  (
    tt,
    record {
      one = refl;
      of = inl (record {
        number = n;
        of = d;
        there = there;
        origin = p;
        producer = e;
        on_connection = refl;
        on_session = refl;
        its_id = refl;
        outcome = s;
        was_decided = f;
        given = outcomes_of_consumers t n d s there f (not_presettled t n d p admitted there e);
        told = refl;
        settled = refl;
        first_time = none_before t n d p there e;
      });
    },
  ),
  tt,
)

tell_lawful : (t : List Entry) (n : ℕ) (v : Option Delivery) → EachBound RowIsAdmitted t → delivery t n ≡ v → AllLawful t (tell v)
tell_lawful t n None admitted there = tt
tell_lawful t n (Some d) admitted there = outcome_lawful t n d d.origin d.outcome admitted there refl refl

pub tells_lawful : (t : List Entry) → EachBound RowIsAdmitted t → AllLawful t (tells t)
tells_lawful t admitted =
    ranked_elim (rank_at t) (bindings t + 1) (λ n. is_to_be_told t (delivery t n)) (λ x. AllLawful t (tells_of t x)) tt (λ n e. tell_lawful t n (delivery t n) admitted refl)
