-- What changes leave of a delivery: its outcome stays, once it has one; and which changes the items are that end links, and what a peer's disposition is.
use Rattle.std.proofs.Common.{◌≡◌, ◌∙◌, sym, ap, refl, subst, ℕ, Bool, true, false, not, ◌&&◌, ◌||◌, List, [], ◌∷◌, length}
use Rattle.std.specs.Prelude.{◌==◌, Option, Some, None, is_none, if◌then◌else◌}
use Rattle.amqp_model.specs.declared.perf.Close.{Close as AClose}
use Rattle.amqp_model.specs.declared.perf.Detach.{Detach as ADetach}
use Rattle.amqp_model.specs.declared.perf.Disposition.{Disposition}
use Rattle.amqp_model.specs.declared.perf.End.{End as AnEnd}
use Rattle.amqp_model.specs.declared.perf.Perf.{Perf}
use Rattle.amqp_model.specs.declared.perf.Perf.TheVariants as perf
use Rattle.amqp_model.specs.declared.perf.Role.{Role}
use Rattle.amqp_model.specs.declared.perf.Role.TheVariants.{Sender, Receiver}
use Rattle.amqp_model.specs.declared.perf.Transfer.{Transfer}
use Rattle.amqp_model.specs.declared.state.DeliveryState.{DeliveryState}
use Rattle.amqp_model.specs.declared.item.Item.{Item}
use Rattle.amqp_model.specs.declared.item.Item.TheVariants as item
use Rattle.router_trace.specs.declared.binding.DeliveryName.{DeliveryName}
use Rattle.router_trace.specs.declared.binding.Origin.{Origin}
use Rattle.router_trace.specs.declared.handle.Attachment.{Attachment}
use Rattle.router_trace.specs.Deliveries.{Delivery, failed, source, untold, unsettled, is_undecided, is_gone_with, after_ends, ended, decided_at_end, suspended_at_end, closes, ended_by, put_in, after_put, after_frame, told, is_meant, origin_id, is_number, carried, tag_in, stands_on, sender, forsaken}
use Rattle.state_deliveries.specs.declared.change.Change.{Change}
use Rattle.state_deliveries.specs.declared.change.Change.TheVariants as change
use Rattle.state_deliveries.specs.declared.change.Gone.TheVariants as gone
use Rattle.state_deliveries.specs.Deciding.{changed_by}
use Rattle.state_deliveries.specs.Stepping.{is_gone, comes_with_id, is_in, changed}
use Rattle.state_deliveries.proofs.Puts.{same_ends}
use Rattle.theorems.proofs.Tests.{none_not_some}

-- what a change leaves

pub record Leaves (d e : Delivery) : Type 0 where
  pub named : e.name ≡ d.name
  pub settled : e.presettled ≡ d.presettled
  pub comes : (p : Origin) → source e ≡ Some p → source d ≡ Some p
  pub stays : (s : DeliveryState) → d.outcome ≡ Some s → e.outcome ≡ Some s
  pub sleeps : d.outcome ≡ None → d.suspended ≡ true → (e.outcome ≡ None) × (e.suspended ≡ true)

pub leaves_it : (d : Delivery) → Leaves d d
leaves_it d = record { named = refl; settled = refl; comes = λ p is. is; stays = λ s is. is; sleeps = λ none is. (none, is) }

pub leaves_on : (d e f : Delivery) → Leaves d e → Leaves e f → Leaves d f
leaves_on d e f first next = record {
  named = next.named ∙ first.named;
  settled = next.settled ∙ first.settled;
  comes = λ p is. first.comes p (next.comes p is);
  stays = λ s is. next.stays s (first.stays s is);
  sleeps = λ none is. let was = first.sleeps none is in next.sleeps was.0 was.1;
}

leaves_if : (b : Bool) (d e f : Delivery) → Leaves d e → Leaves d f → Leaves d (if b then e else f)
leaves_if true d e f first second = first
leaves_if false d e f first second = second

leaves_untold : (d : Delivery) → Leaves d (untold d)
leaves_untold d = record { named = refl; settled = refl; comes = λ p is. absurd (none_not_some is); stays = λ s is. is; sleeps = λ none is. (none, is) }

leaves_forsaken : (d : Delivery) → Leaves d (forsaken d)
leaves_forsaken d = record { named = refl; settled = refl; comes = λ p is. absurd (none_not_some is); stays = λ s is. is; sleeps = λ none is. (none, is) }

leaves_unsettled : (d : Delivery) → Leaves d (unsettled d)
leaves_unsettled d = record { named = refl; settled = refl; comes = λ p is. is; stays = λ s is. is; sleeps = λ none is. (none, is) }

clash : true ≡ false → ⊥
clash e = cc

leaves_ended : (closed : Bool) (d : Delivery) → Leaves d (ended closed d)
leaves_ended closed d = by d.suspended refl
  where
    kept : (o : Option DeliveryState) (s : DeliveryState) → o ≡ Some s → (if is_none o then Some failed else o) ≡ Some s
    kept None s is = absurd (none_not_some is)
    kept (Some r) s is = is

    by : (b : Bool) → d.suspended ≡ b → Leaves d (if b then d else (if d.lasting && not closed then suspended_at_end d else decided_at_end d))
    by true is = leaves_it d
    by false is =
        leaves_if (d.lasting && not closed) d (suspended_at_end d) (decided_at_end d)
        (record { named = refl; settled = refl; comes = λ p from. from; stays = λ s was. was; sleeps = λ none asleep. absurd (clash (sym asleep ∙ is)) })
        (record { named = refl; settled = refl; comes = λ p from. from; stays = λ s was. kept d.outcome s was; sleeps = λ none asleep. absurd (clash (sym asleep ∙ is)) })

pub leaves_ends : (closed : Bool) (gone : Attachment → Bool) (d : Delivery) → Leaves d (after_ends closed gone d)
leaves_ends closed gone d =
    leaves_on d (if gone d.link then ended closed d else d) (after_ends closed gone d) (leaves_if (gone d.link) d (ended closed d) d (leaves_ended closed d) (leaves_it d))
    (leaves_if (is_gone_with gone (sender (if gone d.link then ended closed d else d))) (if gone d.link then ended closed d else d) (forsaken (if gone d.link then ended closed d else d))
    (if gone d.link then ended closed d else d) (leaves_forsaken (if gone d.link then ended closed d else d)) (leaves_it (if gone d.link then ended closed d else d)))

pub undecided_is : (d : Delivery) → is_undecided d ≡ true → (d.outcome ≡ None) × (d.suspended ≡ false)
undecided_is d h = by d.outcome d.presettled d.suspended h
  where
    by : (o : Option DeliveryState) (p s : Bool) → (is_none o && not (p || s)) ≡ true → (o ≡ None) × (s ≡ false)
    by None true s h = absurd cc
    by None false true h = absurd cc
    by None false false h = (refl, refl)
    by (Some x) p s h = absurd cc

pub leaves_decided : (b : Bool) (d : Delivery) (made : DeliveryState) → Leaves d (if is_undecided d && b then record d { outcome = Some made } else d)
leaves_decided b d made = by (is_undecided d) b refl
  where
    by : (u b : Bool) → is_undecided d ≡ u → Leaves d (if u && b then record d { outcome = Some made } else d)
    by true true is =
        let was = undecided_is d is in
        record {
          named = refl;
          settled = refl;
          comes = λ p from. from;
          stays = λ s has. absurd (none_not_some (sym was.0 ∙ has));
          sleeps = λ none asleep. absurd (clash (sym asleep ∙ was.1));
        }
    by true false is = leaves_it d
    by false b is = leaves_it d

pub leaves_changed : (x : Change) (d : Delivery) → Leaves d (changed x d)
leaves_changed (change.Ends g closed) d = leaves_ends closed (is_gone g) d
leaves_changed (change.Untold c o first last) d = leaves_if (comes_with_id (source d) c o first last) d (untold d) d (leaves_untold d) (leaves_it d)
leaves_changed (change.Told c o first last) d = leaves_if (comes_with_id (source d) c o first last) d (unsettled d) d (leaves_unsettled d) (leaves_it d)
leaves_changed (change.Decided c o first last made) d = leaves_decided (stands_on d.link c o && is_in d.id first last) d made

pub leaves_by : (xs : List Change) (d : Delivery) → Leaves d (changed_by xs d)
leaves_by [] d = leaves_it d
leaves_by (x ∷ xs) d = leaves_on d (changed x d) (changed_by xs (changed x d)) (leaves_changed x d) (leaves_by xs (changed x d))

-- the items that end links

always : (b : Bool) → (b && true) ≡ b
always true = refl
always false = refl

pub closed_is : (numbers : DeliveryName → Option ℕ) (sasl : Bool) (own : ℕ) (x : AClose) (payload : List ℕ) (c n : ℕ) (sent : ℕ → ℕ → Option ℕ) (d : Delivery)
    → after_put numbers (item.Frame sasl own (perf.Close x) payload) c n sent d ≡ changed (change.Ends (gone.Connection c) false) d
closed_is numbers sasl own x payload c n sent d =
    same_ends false (ended_by (item.Frame sasl own (perf.Close x) payload) c) (is_gone (gone.Connection c)) (λ a. always (a.conn.0 == c)) d

pub end_is : (numbers : DeliveryName → Option ℕ) (sasl : Bool) (own : ℕ) (x : AnEnd) (payload : List ℕ) (c n : ℕ) (sent : ℕ → ℕ → Option ℕ) (d : Delivery)
    → after_put numbers (item.Frame sasl own (perf.End x) payload) c n sent d ≡ changed (change.Ends (gone.Session c own) false) d
end_is numbers sasl own x payload c n sent d = refl

pub detach_is : (numbers : DeliveryName → Option ℕ) (sasl : Bool) (own : ℕ) (x : ADetach) (payload : List ℕ) (c n : ℕ) (sent : ℕ → ℕ → Option ℕ) (d : Delivery)
    → after_put numbers (item.Frame sasl own (perf.Detach x) payload) c n sent d ≡ changed (change.Ends (gone.Link c own x.handle) x.closed) d
detach_is numbers sasl own x payload c n sent d = refl

-- what stays of a delivery whose outcome is not changed

pub record Alike (d e : Delivery) : Type 0 where
  pub named : e.name ≡ d.name
  pub settled : e.presettled ≡ d.presettled
  pub outcome : e.outcome ≡ d.outcome
  pub comes : (p : Origin) → source e ≡ Some p → source d ≡ Some p

pub alike_it : (d e : Delivery) → e ≡ d → Alike d e
alike_it d e is = subst (λ (f : Delivery). Alike d f) (sym is) (record { named = refl; settled = refl; outcome = refl; comes = λ p from. from })

pub alike_on : (d e f : Delivery) → Alike d e → Alike e f → Alike d f
alike_on d e f first next = record { named = next.named ∙ first.named; settled = next.settled ∙ first.settled; outcome = next.outcome ∙ first.outcome; comes = λ p from. first.comes p (next.comes p from) }

alike_if : (b : Bool) (d e f : Delivery) → Alike d e → Alike d f → Alike d (if b then e else f)
alike_if true d e f first second = first
alike_if false d e f first second = second

alike_untold : (d : Delivery) → Alike d (untold d)
alike_untold d = record { named = refl; settled = refl; outcome = refl; comes = λ p is. absurd (none_not_some is) }

alike_forsaken : (d : Delivery) → Alike d (forsaken d)
alike_forsaken d = record { named = refl; settled = refl; outcome = refl; comes = λ p is. absurd (none_not_some is) }

-- the end of links among which an undecided delivery's isn't
pub alike_ends : (closed : Bool) (gone : Attachment → Bool) (d : Delivery) → d.presettled ≡ false → (is_undecided d ≡ true → gone d.link ≡ false) → Alike d (after_ends closed gone d)
alike_ends closed gone d open_one spared =
    alike_on d (if gone d.link then ended closed d else d) (after_ends closed gone d) (on (gone d.link) refl)
    (alike_if (is_gone_with gone (sender (if gone d.link then ended closed d else d))) (if gone d.link then ended closed d else d) (forsaken (if gone d.link then ended closed d else d))
    (if gone d.link then ended closed d else d) (alike_forsaken (if gone d.link then ended closed d else d)) (alike_it (if gone d.link then ended closed d else d) (if gone d.link then ended closed d else d) refl))
  where
    itself : Alike d d
    itself = alike_it d d refl

    kept : (o : Option DeliveryState) → d.outcome ≡ o → (is_none o ≡ true → ⊥) → (if is_none o then Some failed else o) ≡ o
    kept None is never = absurd (never refl)
    kept (Some s) is never = refl

    decided : (is_undecided d ≡ true → ⊥) → d.suspended ≡ false → is_none d.outcome ≡ true → ⊥
    decided never awake none = never (rw (none, open_one, awake) refl)

    there : (is_undecided d ≡ true → ⊥) → (s : Bool) → d.suspended ≡ s → Alike d (if s then d else (if d.lasting && not closed then suspended_at_end d else decided_at_end d))
    there never true is = itself
    there never false is =
        alike_if (d.lasting && not closed) d (suspended_at_end d) (decided_at_end d)
        (record { named = refl; settled = refl; outcome = refl; comes = λ p from. from })
        (record { named = refl; settled = refl; outcome = kept d.outcome refl (decided never is); comes = λ p from. from })

    on : (b : Bool) → gone d.link ≡ b → Alike d (if b then ended closed d else d)
    on true is = there (λ u. clash (sym is ∙ spared u)) d.suspended refl
    on false is = itself

-- an item that doesn't end the link of an undecided delivery leaves its outcome

alike_told : (r : Role) (x : Disposition) (c o : ℕ) (d : Delivery) → Alike d (told r x c o d)
alike_told Receiver x c o d =
    alike_if (is_meant x (origin_id (source d) c o)) d (if x.settled then untold d else unsettled d) d
    (alike_if x.settled d (untold d) (unsettled d) (alike_untold d) (record { named = refl; settled = refl; outcome = refl; comes = λ p from. from })) (alike_it d d refl)
alike_told Sender x c o d = alike_it d d refl

alike_frame : (x : Transfer) (count : ℕ) (d : Delivery) → d.presettled ≡ false → Alike d (after_frame x count d)
alike_frame x count d open_one = record { named = refl; settled = refl; outcome = rw open_one refl; comes = λ p from. from }

alike_put : (numbers : DeliveryName → Option ℕ) (body : Perf) (c own n : ℕ) (sent : ℕ → ℕ → Option ℕ) (count : ℕ) (d : Delivery) → d.presettled ≡ false → Alike d (put_in numbers body c own n sent count d)
alike_put numbers (perf.Transfer x) c own n sent count d open_one =
    alike_if (is_number (carried numbers (tag_in x) (sent own x.handle)) n) d (after_frame x count d) d (alike_frame x count d open_one) (alike_it d d refl)
alike_put numbers (perf.Disposition x) c own n sent count d open_one = alike_told x.role x c own d
alike_put numbers _ c own n sent count d open_one = alike_it d d refl

-- what an item does before it ends links leaves a delivery as undecided as it was, on its link
same_open : (numbers : DeliveryName → Option ℕ) (body : Perf) (c own n : ℕ) (sent : ℕ → ℕ → Option ℕ) (count : ℕ) (d : Delivery) → d.presettled ≡ false
    → (is_undecided (put_in numbers body c own n sent count d) ≡ is_undecided d) × ((put_in numbers body c own n sent count d).link ≡ d.link)
same_open numbers (perf.Transfer x) c own n sent count d open_one = by (is_number (carried numbers (tag_in x) (sent own x.handle)) n)
  where
    by : (b : Bool) → (is_undecided (if b then after_frame x count d else d) ≡ is_undecided d) × ((if b then after_frame x count d else d).link ≡ d.link)
    by true = (rw open_one refl, refl)
    by false = (refl, refl)
same_open numbers (perf.Disposition x) c own n sent count d open_one = role x.role
  where
    by : (b s : Bool) → (is_undecided (if b then (if s then untold d else unsettled d) else d) ≡ is_undecided d) × ((if b then (if s then untold d else unsettled d) else d).link ≡ d.link)
    by true true = (refl, refl)
    by true false = (refl, refl)
    by false s = (refl, refl)

    role : (r : Role) → (is_undecided (told r x c own d) ≡ is_undecided d) × ((told r x c own d).link ≡ d.link)
    role Receiver = by (is_meant x (origin_id (source d) c own)) x.settled
    role Sender = (refl, refl)
same_open numbers _ c own n sent count d open_one = (refl, refl)

pub alike_item : (numbers : DeliveryName → Option ℕ) (i : Item) (c n : ℕ) (sent : ℕ → ℕ → Option ℕ) (d : Delivery) → d.presettled ≡ false
    → (is_undecided d ≡ true → ended_by i c d.link ≡ false) → Alike d (after_put numbers i c n sent d)
alike_item numbers (item.Frame sasl own body payload) c n sent d open_one spared =
    let put : Delivery = put_in numbers body c own n sent (length payload) d in
    let same = same_open numbers body c own n sent (length payload) d open_one in
    let first : Alike d put = alike_put numbers body c own n sent (length payload) d open_one in
    alike_on d put (after_put numbers (item.Frame sasl own body payload) c n sent d) first
    (alike_ends (closes body) (ended_by (item.Frame sasl own body payload) c) put (first.settled ∙ open_one)
    (λ u. ap (ended_by (item.Frame sasl own body payload) c) same.1 ∙ spared (sym same.0 ∙ u)))
alike_item numbers _ c n sent d open_one spared = alike_it d d refl
