-- What takes don't change: what follows an event's rows is the same in a trace without its takes.
use Rattle.std.proofs.Common.{◌≡◌, ◌∙◌, ap, refl, ℕ, List, [], ◌∷◌}
use Rattle.std.specs.Prelude.{Option, Some, None}
use Rattle.amqp_model.specs.declared.state.DeliveryState.{DeliveryState}
use Rattle.book_model.specs.Book.{BookView}
use Rattle.book_model.specs.declared.act.Act.{Act}
use Rattle.book_model.specs.declared.act.Act.TheVariants.{Make, Admit, Decide, Forget, Drop}
use Rattle.book_model.specs.declared.row.Row.{Row as ARow}
use Rattle.book_model.specs.declared.row.RowNumber.{RowNumber}
use Rattle.book_model.specs.declared.terminus.LinkKey.{LinkKey}
use Rattle.router_trace.specs.declared.binding.Binding.{Binding}
use Rattle.router_trace.specs.declared.binding.BindingKind.TheVariants as kind
use Rattle.router_trace.specs.declared.binding.Holding.{Holding}
use Rattle.router_trace.specs.declared.binding.Holding.TheVariants as holding
use Rattle.router_trace.specs.declared.binding.Origin.{Origin}
use Rattle.router_trace.specs.declared.binding.Resumed.{Resumed}
use Rattle.router_trace.specs.declared.binding.DeliveryName.TheVariants.{Row}
use Rattle.router_trace.specs.declared.handle.Attachment.{Attachment}
use Rattle.router_trace.specs.Trace.{Entry, Bound, Put, goes}
use Rattle.router_trace.specs.Links.{holder}
use Rattle.router_trace.specs.Deliveries.{Delivery, called, joined_by, joined_to, joining, origin_in, told_in, early_in, owned_in}
use Rattle.router_trace.specs.Following.{tells, sends_due, drains_due}
use Rattle.state_messages.specs.Asking.{consumer_with}
use Rattle.state_messages.specs.Messages.{grants_due, payload_as, taken_up_by, with_bound}
use Rattle.router_after.specs.After.{told, sent, drained}
use Rattle.resume_core.specs.declared.consumer.Sending.{Sending}
use Rattle.router_reply.specs.Holding.{as_held, freed, freed_by, freed_from, held_if, held_to, rows_held, with_held}
use Rattle.router_reply.specs.Resuming.{bound_to, bound_if, with_rows}
use Rattle.theorems.specs.Takes.{untaken}
use Rattle.router_core.proofs.Following.{due_alike, passed_on}
use Rattle.theorems.proofs.Untaken.{untaken_goes}
use Rattle.theorems.proofs.UntakenDeliveries.{same_called, same_tells, same_sends, same_drains}
use Rattle.theorems.proofs.UntakenGrants.{same_grants}
use Rattle.theorems.proofs.UntakenLinks.{same_consumer_with, same_held}
use Rattle.theorems.proofs.UntakenRows.{same_lasts}

pub untaken_bound : (b : Option Binding) (t : List Entry) → untaken (with_bound b t) ≡ with_bound b (untaken t)
untaken_bound None t = refl
untaken_bound (Some b) t = refl

-- the rows that are taken up

same_taken_up : (t : List Entry) (row : RowNumber) (how : Resumed) (format : ℕ) (payload : List ℕ) (at : Attachment) → taken_up_by t row how format payload at ≡ taken_up_by (untaken t) row how format payload at
same_taken_up t row how format payload at = λ j. record {
  consumer = at;
  row = Some row;
  lasting = same_lasts t at j;
  format = format;
  payload = payload_as how payload;
  kind = kind.TakenUp (record { how = how; origin = origin_in (same_called t (Row row) j); told = told_in (same_called t (Row row) j); early = early_in (same_called t (Row row) j); owned = owned_in (same_called t (Row row) j) });
}

untaken_bound_to : (at : Attachment) (rs : List Sending) (t u : List Entry) → untaken t ≡ u → untaken (bound_to at rs t) ≡ bound_to at rs u
untaken_bound_to at [] t u e = e
untaken_bound_to at (r ∷ rs) t u e =
    untaken_bound_to at rs (Bound (taken_up_by t r.row r.how r.format r.payload at) ∷ t) (Bound (taken_up_by u r.row r.how r.format r.payload at) ∷ u)
    (λ j. Bound ((same_taken_up t r.row r.how r.format r.payload at ∙ ap (λ (v : List Entry). taken_up_by v r.row r.how r.format r.payload at) e) j) ∷ e j)

untaken_if : (at : Option Attachment) (rs : List Sending) (t : List Entry) → untaken (bound_if at rs t) ≡ bound_if at rs (untaken t)
untaken_if None rs t = refl
untaken_if (Some at) rs t = untaken_bound_to at rs t (untaken t) refl

pub untaken_rows : (k : Option LinkKey) (rs : List Sending) (t : List Entry) → untaken (with_rows k rs t) ≡ with_rows k rs (untaken t)
untaken_rows None rs t = refl
untaken_rows (Some k) rs t = untaken_if (consumer_with t k) rs t ∙ ap (λ (at : Option Attachment). bound_if at rs (untaken t)) (same_consumer_with t k)

-- the rows that are joined to a producer's link, and those that are settled there

same_joined_by : (t : List Entry) (q : Holding) (row : RowNumber) (outcome : Option DeliveryState) → joined_by t q row outcome ≡ joined_by (untaken t) q row outcome
same_joined_by t q row outcome = λ j. joining q row (joined_to (same_called t (Row row) j) outcome)

untaken_held_to : (at : Attachment) (rs : List ARow) (t u : List Entry) → untaken t ≡ u → untaken (held_to at rs t) ≡ held_to at rs u
untaken_held_to at [] t u e = e
untaken_held_to at (r ∷ rs) t u e =
    untaken_held_to at rs (Bound (joined_by t (as_held at r) r.number r.outcome) ∷ t) (Bound (joined_by u (as_held at r) r.number r.outcome) ∷ u)
    (λ j. Bound ((same_joined_by t (as_held at r) r.number r.outcome ∙ ap (λ (v : List Entry). joined_by v (as_held at r) r.number r.outcome) e) j) ∷ e j)

untaken_held_if : (at : Option Attachment) (rs : List ARow) (t : List Entry) → untaken (held_if at rs t) ≡ held_if at rs (untaken t)
untaken_held_if None rs t = refl
untaken_held_if (Some at) rs t = untaken_held_to at rs t (untaken t) refl

pub untaken_held : (b : BookView) (k : Option LinkKey) (t : List Entry) → untaken (with_held b k t) ≡ with_held b k (untaken t)
untaken_held b None t = refl
untaken_held b (Some k) t = untaken_held_if (holder t k) (rows_held b k) t ∙ ap (λ (at : Option Attachment). held_if at (rows_held b k) (untaken t)) (same_held t k)

untaken_from : (o : Option Origin) (n : RowNumber) (t : List Entry) → untaken (freed_from o n t) ≡ freed_from o n (untaken t)
untaken_from None n t = refl
untaken_from (Some p) n t = λ j. Bound (same_joined_by t (holding.Settled p.link) n None j) ∷ untaken t

untaken_act : (act : Act) (t : List Entry) → untaken (freed_by act t) ≡ freed_by act (untaken t)
untaken_act (Forget n) t =
    untaken_from (owned_in (called t (Row n))) n t ∙ ap (λ (v : Option Delivery). freed_from (owned_in v) n (untaken t)) (same_called t (Row n))
untaken_act (Make x) t = refl
untaken_act (Admit x) t = refl
untaken_act (Decide x) t = refl
untaken_act (Drop n) t = refl

pub untaken_freed : (acts : List Act) (t : List Entry) → untaken (freed acts t) ≡ freed acts (untaken t)
untaken_freed [] t = refl
untaken_freed (act ∷ acts) t = untaken_freed acts (freed_by act t) ∙ ap (freed acts) (untaken_act act t)

abbrev IsUntaken : List Entry → List Entry → Type 0
IsUntaken t u = untaken t ≡ u

same_step : (next : List Entry → List Put) → ((t : List Entry) → next t ≡ next (untaken t)) → (t u : List Entry) → untaken t ≡ u
    → untaken (goes (next t) t) ≡ goes (next u) u
same_step next same t u e = untaken_goes (next t) t ∙ ap (λ (ps : List Put). goes ps (untaken t)) (same t) ∙ ap (λ (x : List Entry). goes (next x) x) e

pub same_passed : (t u : List Entry) → untaken t ≡ u → untaken (passed_on t) ≡ passed_on u
same_passed t u e =
    due_alike grants_due grants_due IsUntaken (same_step grants_due same_grants) (drained (sent (told t))) (drained (sent (told u)))
    (due_alike drains_due drains_due IsUntaken (same_step drains_due same_drains) (sent (told t)) (sent (told u))
    (due_alike sends_due sends_due IsUntaken (same_step sends_due same_sends) (told t) (told u)
    (due_alike tells tells IsUntaken (same_step tells same_tells) t u e)))
