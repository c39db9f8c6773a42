-- What `ToldRightly` refuses by itself, whatever the other laws say: a producer that is told accepted of a row which is
-- undecided, by a disposition or by a map, and one that is told accepted of a delivery without a row.
use Rattle.std.proofs.Common.{◌≡◌, ◌∙◌, sym, refl, subst, ◌⊎◌, inl, inr, ℕ, Bool, true, false, List, [], ◌∷◌}
use Rattle.std.specs.Prelude.{Option, Some, None}
use Rattle.amqp_model.specs.declared.perf.Attach.{Attach}
use Rattle.amqp_model.specs.declared.perf.Disposition.{Disposition}
use Rattle.amqp_model.specs.declared.perf.Perf.TheVariants as perf
use Rattle.amqp_model.specs.declared.perf.Role.{Role}
use Rattle.amqp_model.specs.declared.perf.Role.TheVariants.{Receiver}
use Rattle.amqp_model.specs.declared.state.DeliveryState.{DeliveryState}
use Rattle.amqp_model.specs.declared.state.DeliveryState.TheVariants as state
use Rattle.amqp_model.specs.declared.state.UnsettledDelivery.{UnsettledDelivery}
use Rattle.amqp_model.specs.declared.item.Item.TheVariants as item
use Rattle.book_model.specs.declared.row.Row.{Row as ARow}
use Rattle.book_model.specs.declared.terminus.LinkKey.{LinkKey}
use Rattle.router_trace.specs.Claims.{Claim, claims}
use Rattle.router_trace.specs.Deliveries.{acts_found, outcome_among}
use Rattle.router_trace.specs.Links.{durable_key, key_at, link}
use Rattle.router_trace.specs.Trace.{Trace}
use Rattle.router_state.specs.Copying.{goes_to_all}
use Rattle.resume_core.specs.Resuming.{entries_of}
use Rattle.reply_rows.specs.Acts.{book_in}
use Rattle.reply_transfers.specs.Joining.{row_joined}
use Rattle.theorems.specs.Came.{last_found}
use Rattle.theorems.specs.Told.{ReleasesMessage, unbound_state}
use Rattle.theorems.specs.Mapped.{EachEntry}
use Rattle.theorems.specs.ToldRightly.{EntryIsTold, EntryTells, TellsOfIt, ToldRightly, map_tells_rightly, role_tells_rightly}
use Rattle.theorems.proofs.Tests.{some_same, none_not_some}

-- what lets a message down isn't accepted
not_let_down : (to_all : Bool) → state.Accepted ≡ unbound_state to_all → ⊥
not_let_down false e = absurd cc
not_let_down true e = absurd cc

releases_other : (t : Trace) (c own : ℕ) (x : Disposition) → x.state ≡ Some state.Accepted → ReleasesMessage t c own x → ⊥
releases_other t c own x accepted releases = not_let_down (goes_to_all t (link t c own releases.handle)) (some_same (sym accepted ∙ releases.told))

undecided_untold : (t : Trace) (v : Option ARow) (told : Option DeliveryState) → ((row : ARow) → v ≡ Some row → row.outcome ≡ None) → TellsOfIt t v told → ⊥
undecided_untold t None told undecided tells = tells
undecided_untold t (Some row) told undecided tells = none_not_some (sym (undecided row refl) ∙ tells.was.its_outcome)

-- Where the id's link is durable, and its terminus has no decided row of the delivery's tag.
pub accepted_too_early : (t : Trace) (c own : ℕ) (x : Disposition) (sasl : Bool) (payload : List ℕ) (claim : Claim) (key : LinkKey) → x.role ≡ Receiver → x.state ≡ Some state.Accepted
    → claims t c own x.first ≡ Some claim → durable_key (link t c own claim.handle) ≡ Some key → ((row : ARow) → row_joined (book_in t) (Some key) claim.tag ≡ Some row → row.outcome ≡ None)
    → ToldRightly t c (item.Frame sasl own (perf.Disposition x) payload) → ⊥
accepted_too_early t c own x sasl payload claim key role accepted claimed durable undecided rightly =
    by ((subst (λ (r : Role). role_tells_rightly r t c own x) role rightly).1 claim key claimed durable)
  where
    by : TellsOfIt t (row_joined (book_in t) (Some key) claim.tag) x.state ⊎ ReleasesMessage t c own x → ⊥
    by (inl tells) = undecided_untold t (row_joined (book_in t) (Some key) claim.tag) x.state undecided tells
    by (inr releases) = releases_other t c own x accepted releases

entry_too_early : (t : Trace) (row : ARow) (given : Option DeliveryState) (v : Option DeliveryState) → v ≡ Some state.Accepted → row.outcome ≡ None → EntryTells t row given v → ⊥
entry_too_early t row given None accepted undecided tells = none_not_some accepted
entry_too_early t row given (Some told) accepted undecided tells = none_not_some (sym undecided ∙ tells.0.its_outcome)

-- The first entry of a map.
pub accepted_too_early_by_map : (t : Trace) (c own : ℕ) (a : Attach) (sasl : Bool) (payload : List ℕ) (entry : UnsettledDelivery) (entries : List UnsettledDelivery) → a.role ≡ Receiver
    → entries_of a.unsettled ≡ entry ∷ entries → entry.state ≡ Some state.Accepted
    → ((row : ARow) → row_joined (book_in t) (Some (key_at t c a)) (Some entry.tag.items) ≡ Some row → row.outcome ≡ None)
    → ToldRightly t c (item.Frame sasl own (perf.Attach a) payload) → ⊥
accepted_too_early_by_map t c own a sasl payload entry entries role among accepted undecided rightly =
    let all = subst (λ (r : Role). map_tells_rightly r t c a) role rightly in
    let first = (subst (λ (ds : List UnsettledDelivery). EachEntry (EntryIsTold t c a) ds) among all).0 in
    entry_too_early t first.row (outcome_among (acts_found (last_found t)) first.row.number) entry.state accepted (undecided first.row first.its_row) first.tells
