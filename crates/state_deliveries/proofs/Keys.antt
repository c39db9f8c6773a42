-- The deliveries that a change concerns.
use Rattle.std.proofs.Common.{◌≡◌, ◌∙◌, ◌||◌, ℕ, Bool, true, false, refl, sym, ap, Option, None, Some}
use Rattle.std.specs.Prelude.{◌&&◌, not, if◌then◌else◌, is_none}
use Rattle.amqp_model.specs.declared.state.DeliveryState.{DeliveryState}
use Rattle.router_trace.specs.declared.binding.Origin.{Origin}
use Rattle.router_trace.specs.declared.handle.Attachment.{Attachment}
use Rattle.router_trace.specs.Deliveries.{Delivery, source, unless_over, after_ends, after_origin, is_gone_with, ended, decided_at_end, suspended_at_end, untold, unsettled, failed, sender, forsaken}
use Rattle.state_deliveries.specs.declared.change.Change.{Change}
use Rattle.state_deliveries.specs.declared.change.Change.TheVariants as change
use Rattle.state_deliveries.specs.declared.change.Gone.{Gone}
use Rattle.state_deliveries.specs.declared.change.Gone.TheVariants as gone
use Rattle.state_deliveries.specs.declared.spots.Spot.{Spot}
use Rattle.state_deliveries.specs.Indexing.{standing, is_by_place, concerns}
use Rattle.state_deliveries.specs.Placing.{spot_of, on_spot, from_spot, id_spot, is_gone_at, is_gone_there, is_id_there}
use Rattle.state_deliveries.specs.Stepping.{is_gone, comes_with_id, changed, after_change, IsKept}

or_first : (a b : Bool) → (a || b) ≡ false → a ≡ false
or_first true b e = e
or_first false b e = refl

or_second : (a b : Bool) → (a || b) ≡ false → b ≡ false
or_second true b e = absurd cc
or_second false b e = e

-- links that end are found by their places
by_place : (g : Gone) (a : Attachment) → is_gone g a ≡ is_gone_at g (spot_of a)
by_place (gone.Link c o h) a = refl
by_place (gone.Session c o) a = refl
by_place (gone.Connection c) a = refl

origin_stays : (g : Gone) (p : Option Origin) → is_gone_there g (from_spot p) ≡ false → is_gone_with (is_gone g) p ≡ false
origin_stays g None e = refl
origin_stays g (Some p) e = by_place g p.link ∙ e

on_false : (g : Gone) (p : Spot) (holds : Bool) → is_gone_there g (on_spot p holds) ≡ false → holds ≡ true → is_gone_at g p ≡ false
on_false g p true e h = e
on_false g p false e h = absurd cc

-- the end of its link may change it
abbrev can_end : Delivery → Bool
can_end d = d.going_on || (is_none d.outcome && not d.suspended)

-- a decided delivery without more frames
decided_stays : (d : Delivery) (s : DeliveryState) → d.going_on ≡ false → d.outcome ≡ Some s → decided_at_end d ≡ d
decided_stays d s x y =
    ap (λ (v : Option DeliveryState). record d { going_on = false; outcome = (if is_none v then Some failed else v) }) y
    ∙ ap (λ (v : Option DeliveryState). record d { going_on = false; outcome = v }) (sym y) ∙ ap (λ b. record d { going_on = b }) (sym x)

suspends_nothing : (d : Delivery) (s : DeliveryState) → d.going_on ≡ false → d.outcome ≡ Some s → d.suspended ≡ false → suspended_at_end d ≡ d
suspends_nothing d s x y z =
    ap (λ (v : Option DeliveryState). record d { going_on = false; suspended = is_none v }) y
    ∙ ap (λ b. record d { going_on = false; suspended = b }) (sym z) ∙ ap (λ b. record d { going_on = b }) (sym x)

link_stays : (closed : Bool) (g : Gone) (d : Delivery) → is_gone_there g (on_spot (spot_of d.link) (can_end d)) ≡ false → (if is_gone g d.link then ended closed d else d) ≡ d
link_stays closed g d e = by_rest d.going_on d.outcome d.suspended refl refl refl
  where
    not_gone : can_end d ≡ true → (if is_gone g d.link then ended closed d else d) ≡ d
    not_gone h = ap (λ b. if b then ended closed d else d) (by_place g d.link ∙ on_false g (spot_of d.link) (can_end d) e h)

    either : (b : Bool) → ended closed d ≡ d → (if b then ended closed d else d) ≡ d
    either true same = same
    either false same = refl

    is_suspended : d.suspended ≡ true → ended closed d ≡ d
    is_suspended z = ap (λ b. if b then d else (if d.lasting && not closed then suspended_at_end d else decided_at_end d)) z

    decided : (l : Bool) (s : DeliveryState) → d.going_on ≡ false → d.outcome ≡ Some s → d.suspended ≡ false → (if l then suspended_at_end d else decided_at_end d) ≡ d
    decided true s x y z = suspends_nothing d s x y z
    decided false s x y z = decided_stays d s x y

    by_rest : (r : Bool) (o : Option DeliveryState) (s : Bool) → d.going_on ≡ r → d.outcome ≡ o → d.suspended ≡ s → (if is_gone g d.link then ended closed d else d) ≡ d
    by_rest true o s x y z = not_gone (ap (λ b. b || (is_none d.outcome && not d.suspended)) x)
    by_rest false None false x y z = not_gone (ap (λ b. b || (is_none d.outcome && not d.suspended)) x ∙ ap (λ v. is_none v && not d.suspended) y ∙ ap not z)
    by_rest false None true x y z = either (is_gone g d.link) (is_suspended z)
    by_rest false (Some v) true x y z = either (is_gone g d.link) (is_suspended z)
    by_rest false (Some v) false x y z = either (is_gone g d.link)
        (ap (λ b. if b then d else (if d.lasting && not closed then suspended_at_end d else decided_at_end d)) z ∙ decided (d.lasting && not closed) v x y z)

ends_nothing : (closed : Bool) (g : Gone) (d : Delivery) → is_gone_there g (on_spot (spot_of d.link) (can_end d)) ≡ false
    → is_gone_there g (from_spot (sender d)) ≡ false → after_ends closed (is_gone g) d ≡ d
ends_nothing closed g d e f = ap (after_origin (is_gone g)) (link_stays closed g d e) ∙ ap (λ b. if b then forsaken d else d) (origin_stays g (sender d) f)

pub untells_nothing : (p : Option Origin) (c o first last : ℕ) → is_id_there c o first last (id_spot p) ≡ false → comes_with_id p c o first last ≡ false
untells_nothing None c o first last e = refl
untells_nothing (Some p) c o first last e = e

pub changes_nothing : (x : Change) (d : Delivery) → is_by_place x ≡ true → concerns x (standing (Some d)) ≡ false → changed x d ≡ d
changes_nothing (change.Ends g closed) d placed e =
    let on = is_gone_there g (on_spot (spot_of d.link) (can_end d)) in
    let from = is_gone_there g (from_spot (sender d)) in
    ends_nothing closed g d (or_first on from e) (or_second on from e)
changes_nothing (change.Untold c o first last) d placed e = ap (λ b. if b then untold d else d) (untells_nothing (source d) c o first last e)
changes_nothing (change.Told c o first last) d placed e = ap (λ b. if b then unsettled d else d) (untells_nothing (source d) c o first last e)
changes_nothing (change.Decided c o first last made) d placed e = absurd (no_place placed)
  where
    no_place : false ≡ true → ⊥
    no_place h = cc

-- a change applied to the deliveries that it concerns has been applied to all
pub where_stands : (x : Change) → is_by_place x ≡ true → (b : Bool) (old new : Option Delivery) → new ≡ (if b then after_change x old else old)
    → (concerns x (standing old) ≡ true → b ≡ true) → IsKept old → new ≡ after_change x old
where_stands x placed true old new is there keeps = is
where_stands x placed false None new is there keeps = is
where_stands x placed false (Some d) new is there keeps = by_test (concerns x (standing (Some d))) refl
  where
    by_test : (b : Bool) → concerns x (standing (Some d)) ≡ b → new ≡ after_change x (Some d)
    by_test true e = let wrong : false ≡ true = there e in absurd cc
    by_test false e = is ∙ sym keeps ∙ ap unless_over (sym (changes_nothing x d placed e))
