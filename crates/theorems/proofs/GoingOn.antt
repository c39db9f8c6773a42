-- A link on which a delivery has begun, of which more is to come, is one on which the router sends: each transfer goes to such a link.
use Rattle.std.proofs.Common.{◌≡◌, ◌∙◌, sym, ap, refl, subst, ℕ, ◌+◌, Bool, true, false, not, ◌&&◌, ◌||◌, List, [], ◌∷◌}
use Rattle.std.specs.Prelude.{◌==◌, Option, Some, None, option_map, if◌then◌else◌}
use Rattle.std.proofs.lemmas.Bool.{eqb-true}
use Rattle.amqp_model.specs.declared.perf.Attach.{Attach as AnAttach}
use Rattle.amqp_model.specs.declared.perf.Perf.{Perf}
use Rattle.amqp_model.specs.declared.perf.Perf.TheVariants as perf
use Rattle.amqp_model.specs.declared.item.Item.{Item}
use Rattle.amqp_model.specs.declared.item.Item.TheVariants as item
use Rattle.router_trace.specs.declared.channel.PeerChannel.{PeerChannel}
use Rattle.router_trace.specs.declared.event.Event.{Event}
use Rattle.router_trace.specs.declared.event.Event.TheVariants as event
use Rattle.router_trace.specs.declared.handle.PeerHandle.{PeerHandle}
use Rattle.router_trace.specs.Following.{is_sending}
use Rattle.router_trace.specs.Links.{Link, address_by, after_our_flow, after_our_transfer, after_their_flow, after_their_transfer, asked, attached, attachments, ends_handle_in, heard_link, is_handle, key_at, link, link_after, link_at, link_by, link_in, names, names_by, their_handle}
use Rattle.router_trace.specs.Sessions.{maps, theirs}
use Rattle.router_trace.specs.Trace.{Trace, Did, Out, Took, Bound, Booked, Routed, Began}
use Rattle.state_connections.proofs.Lists.{by_test}
use Rattle.theorems.specs.Carried.{CarriesMessage, CarriesWhatWasBound, perf_carries}
use Rattle.theorems.specs.Each.{EachOut}
use Rattle.theorems.proofs.Standing.{our_flow, our_transfer, their_flow, their_transfer}
use Rattle.theorems.proofs.Tests.{some_same, none_not_some}

clash : true ≡ false → ⊥
clash e = cc

abbrev pub GoingSends : Trace → Type 0
GoingSends t = (c o h : ℕ) (m : Link) → link t c o h ≡ Some m → m.going_on ≡ true → is_sending m.happened ≡ true

-- what a link was before an entry that begins no delivery on it
record Goes (v : Option Link) (m : Link) : Type 0 where
  before : Link
  there : v ≡ Some before
  going : m.going_on ≡ before.going_on
  way : is_sending m.happened ≡ is_sending before.happened

abbrev Leaves : (Link → Link) → Type 0
Leaves f = (l : Link) → ((f l).going_on ≡ l.going_on) × (is_sending (f l).happened ≡ is_sending l.happened)

itself : (v : Option Link) (m : Link) → v ≡ Some m → Goes v m
itself v m is = record { before = m; there = is; going = refl; way = refl }

mapped : (f : Link → Link) → Leaves f → (v : Option Link) (m : Link) → option_map f v ≡ Some m → Goes v m
mapped f same None m is = absurd (none_not_some is)
mapped f same (Some l) m is =
    record { before = l; there = refl; going = ap (λ (x : Link). x.going_on) (sym (some_same is)) ∙ (same l).0; way = ap (λ (x : Link). is_sending x.happened) (sym (some_same is)) ∙ (same l).1 }

mapped_if : (q : Bool) (f : Link → Link) → Leaves f → (v : Option Link) (m : Link) → (if q then option_map f v else v) ≡ Some m → Goes v m
mapped_if true f same v m is = mapped f same v m is
mapped_if false f same v m is = itself v m is

unless_over : (q : Bool) (v : Option Link) (m : Link) → (if q then None else v) ≡ Some m → Goes v m
unless_over true v m is = absurd (none_not_some is)
unless_over false v m is = itself v m is

-- an event

heard_goes : (body : Perf) (payload : List ℕ) (h : ℕ) (known : ℕ → Option PeerHandle) (v : Option Link) (m : Link) → heard_link body payload h known v ≡ Some m → Goes v m
heard_goes (perf.Flow f) payload h known v m is = mapped_if (names_by f.handle known h) (after_their_flow f) (λ l. (refl, (their_flow f l).way)) v m is
heard_goes (perf.Transfer x) payload h known v m is =
    mapped_if (names (known x.handle) h) (after_their_transfer x payload) (λ l. (refl, (their_transfer x payload l).way)) v m is
heard_goes _ payload h known v m is = itself v m is

item_goes : (i : Item) (o h : ℕ) (channels : ℕ → Option PeerChannel) (handles : ℕ → Option PeerHandle) (v : Option Link) (m : Link) → link_by i o h channels handles v ≡ Some m → Goes v m
item_goes (item.Frame sasl channel body payload) o h channels handles v m is = by sasl (maps (channels channel) o) is
  where
    by : (s q : Bool) → (if s then v else (if q then heard_link body payload h handles v else v)) ≡ Some m → Goes v m
    by true q is = itself v m is
    by false true is = heard_goes body payload h handles v m is
    by false false is = itself v m is
item_goes _ o h channels handles v m is = itself v m is

event_goes : (e : Event) (c o h : ℕ) (channels : ℕ → Option PeerChannel) (handles : ℕ → Option PeerHandle) (v : Option Link) (m : Link) → link_at e c o h channels handles v ≡ Some m → Goes v m
event_goes (event.Item d i) c o h channels handles v m is = by (d.0 == c) is
  where
    by : (q : Bool) → (if q then link_by i o h channels handles v else v) ≡ Some m → Goes v m
    by true is = item_goes i o h channels handles v m is
    by false is = itself v m is
event_goes (event.Down d) c o h channels handles v m is = unless_over (d.0 == c) v m is
event_goes _ c o h channels handles v m is = itself v m is

-- an item that is put

both : (a b : Bool) → (a && b) ≡ true → (a ≡ true) × (b ≡ true)
both true b e = (refl, e)
both false b e = absurd (clash (sym e))

never_begun : (t : Trace) (c : ℕ) (a : AnAttach) (v : Option (List ℕ)) (m : Link) → attached (attachments t + 1) (key_at t c a) a (asked t c) v ≡ Some m → m.going_on ≡ true → ⊥
never_begun t c a None m is going = none_not_some is
never_begun t c a (Some address) m is going = clash (sym (ap (λ (l : Link). l.going_on) (some_same is) ∙ going))

-- what it leaves of the links of one connection, which it goes to
perf_goes : (body : Perf) (payload : List ℕ) (own : ℕ) (t : Trace) (c o h : ℕ) (m : Link) → perf_carries body t c own payload
    → ((l : Link) → link t c o h ≡ Some l → l.going_on ≡ true → is_sending l.happened ≡ true)
    → link_in body own o h (attachments t + 1) (key_at t c) (asked t c) (link t c o h) ≡ Some m → m.going_on ≡ true → is_sending m.happened ≡ true
perf_goes (perf.Attach a) payload own t c o h m carries was is going = by ((own == o) && (a.handle == h)) is
  where
    by : (q : Bool) → (if q then attached (attachments t + 1) (key_at t c a) a (asked t c) (address_by a.role a) else link t c o h) ≡ Some m → is_sending m.happened ≡ true
    by true is = absurd (never_begun t c a (address_by a.role a) m is going)
    by false is = was m is going
perf_goes (perf.Flow f) payload own t c o h m carries was is going =
    let old = mapped_if ((own == o) && is_handle f.handle h) (after_our_flow f) (λ l. (refl, (our_flow f l).way)) (link t c o h) m is in
    old.way ∙ was old.before old.there (sym old.going ∙ going)
perf_goes (perf.Transfer x) payload own t c o h m carries was is going = by ((own == o) && (x.handle == h)) refl is
  where
    here : own ≡ o → x.handle ≡ h → (v : Option Link) → link t c o h ≡ v → option_map (after_our_transfer x) v ≡ Some m → is_sending m.happened ≡ true
    here e f None there is = absurd (none_not_some is)
    here e f (Some l) there is =
        let same : carries.attached ≡ l = some_same (sym carries.on_link ∙ ap (λ (k : ℕ). link t c k x.handle) e ∙ ap (link t c o) f ∙ there) in
        ap (λ (y : Link). is_sending y.happened) (sym (some_same is)) ∙ (our_transfer x l).way ∙ ap (λ (y : Link). is_sending y.happened) (sym same) ∙ carries.sends

    by : (q : Bool) → ((own == o) && (x.handle == h)) ≡ q → (if q then option_map (after_our_transfer x) (link t c o h) else link t c o h) ≡ Some m → is_sending m.happened ≡ true
    by true e is = let place = both (own == o) (x.handle == h) e in here (eqb-true own o place.0) (eqb-true x.handle h place.1) (link t c o h) refl is
    by false e is = was m is going
perf_goes body payload own t c o h m carries was is going =
    let old = unless_over (ends_handle_in body own o h) (link t c o h) m is in old.way ∙ was old.before old.there (sym old.going ∙ going)

put_goes : (i : Item) (t : Trace) (c o h : ℕ) (m : Link) → CarriesWhatWasBound t c i
    → ((l : Link) → link t c o h ≡ Some l → l.going_on ≡ true → is_sending l.happened ≡ true)
    → link_after i o h (attachments t + 1) (key_at t c) (asked t c) (link t c o h) ≡ Some m → m.going_on ≡ true → is_sending m.happened ≡ true
put_goes (item.Frame sasl own body payload) t c o h m carries was is going = perf_goes body payload own t c o h m carries was is going
put_goes _ t c o h m carries was is going = was m is going

pub going_sends : (t : Trace) → EachOut CarriesWhatWasBound t → GoingSends t
going_sends [] each c o h m is going = absurd (none_not_some is)
going_sends (Did s ∷ t) each c o h m is going =
    let old = event_goes s.event c o h (theirs t c) (their_handle t c o) (link t c o h) m is in
    old.way ∙ going_sends t each c o h old.before old.there (sym old.going ∙ going)
going_sends (Out d i ∷ t) each c o h m is going = by (going_sends t each.1)
  where
    by : GoingSends t → is_sending m.happened ≡ true
    by was =
        by_test (d == c)
        (λ e. put_goes i t c o h m (subst (λ (k : ℕ). CarriesWhatWasBound t k i) (eqb-true d c e) each.0) (was c o h) (rw e at is) going)
        (λ e. was c o h m (rw e at is) going)
going_sends (Took d n ∷ t) each c o h m is going = going_sends t each c o h m is going
going_sends (Bound b ∷ t) each c o h m is going = going_sends t each c o h m is going
going_sends (Booked acts full ∷ t) each c o h m is going = going_sends t each c o h m is going
going_sends (Routed passage ∷ t) each c o h m is going = going_sends t each c o h m is going
going_sends (Began g ∷ t) each c o h m is going = absurd (none_not_some is)
