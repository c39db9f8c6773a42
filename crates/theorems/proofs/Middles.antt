-- The delivery in the middle of a link: its id and its tag, as its first frame says them. An item of the router leaves it, or leaves none; so no delivery is
-- in the middle after the last frame of one.
use Rattle.std.proofs.Common.{◌≡◌, ◌∙◌, sym, ap, refl, subst, ◌⊎◌, inl, inr, ℕ, ◌+◌, Bool, true, false, not, ◌&&◌, List, [], ◌∷◌}
use Rattle.std.specs.Prelude.{◌==◌, nat_eq, Option, Some, None, option_and_then, option_map, if◌then◌else◌}
use Rattle.std.proofs.lemmas.Bool.{eqb-true, eq-eqb}
use Rattle.amqp_model.specs.declared.perf.Attach.{Attach}
use Rattle.amqp_model.specs.declared.perf.Flow.{Flow}
use Rattle.amqp_model.specs.declared.perf.Perf.{Perf}
use Rattle.amqp_model.specs.declared.perf.Perf.TheVariants as perf
use Rattle.amqp_model.specs.declared.perf.Role.{Role}
use Rattle.amqp_model.specs.declared.perf.Role.TheVariants.{Sender, Receiver}
use Rattle.amqp_model.specs.declared.perf.Transfer.{Transfer}
use Rattle.amqp_model.specs.declared.item.Item.{Item}
use Rattle.amqp_model.specs.declared.item.Item.TheVariants as item
use Rattle.amqp_link.specs.declared.part.Delivery.{Delivery as Told}
use Rattle.amqp_link.specs.Deliveries.{Frame, frame, first, goes_on, still}
use Rattle.amqp_link.specs.Receiving as receiving
use Rattle.amqp_link.specs.Receiving.{Received, middle, is_beyond, is_empty, unused, behind}
use Rattle.book_model.specs.declared.terminus.LinkKey.{LinkKey}
use Rattle.router_trace.specs.declared.channel.PeerChannel.{PeerChannel}
use Rattle.router_trace.specs.declared.channel.PeerChannel.TheVariants.{Mapped, Ending}
use Rattle.router_trace.specs.declared.event.ConnectionId.{ConnectionId}
use Rattle.router_trace.specs.declared.event.Event.{Event}
use Rattle.router_trace.specs.declared.event.Event.TheVariants as event
use Rattle.router_trace.specs.declared.handle.Asked.{Asked}
use Rattle.router_trace.specs.declared.handle.PeerHandle.{PeerHandle}
use Rattle.router_trace.specs.declared.handle.PeerHandle.TheVariants as handle
use Rattle.router_trace.specs.Trace.{Entry, Did, Out, Took, Bound, Booked, Routed, Began}
use Rattle.router_trace.specs.Deliveries.{tag_in}
use Rattle.router_trace.specs.Sessions.{maps, theirs}
use Rattle.router_trace.specs.Links.{Link, LinkPlace, nowhere, detaching, on, on_link, Happened, sends, receives, link, link_in, link_after, link_at, link_by, heard_link, link_place, link_place_by, their_handle, names, attached, begins, begun_link, initial_of, came_to, flowed_from, flowed_to, started, after_our_flow, after_our_transfer, after_their_flow, after_their_transfer, key_at, asked, attachments, address_by, ends_handle_in, with_our_grant, with_count}
use Rattle.theorems.specs.Came.{Handled, just_handled, CameWhole}
use Rattle.theorems.proofs.Tests.{some_same, none_not_some}

-- the id and the tag that a first frame says
pub record Said : Type 0 where
  pub id : Option ℕ
  pub tag : Option (List ℕ)

abbrev pub said_in : Transfer → Said
said_in x = record { id = x.delivery_id; tag = tag_in x }

abbrev pub said_first : List Frame → Option Said
said_first [] = None
said_first (f ∷ fs) = Some (said_in (first f fs).transfer)

abbrev pub said_by : Happened → Option Said
said_by (sends list) = None
said_by (receives list) = said_first (middle list)

abbrev pub said_of : Option Link → Option Said
said_of None = None
said_of (Some l) = said_by l.happened

-- items of the router

abbrev Keeps : Option Link → Option Link → Type 0
Keeps v w = (said_of w ≡ None) ⊎ (said_of w ≡ said_of v)

flow_keeps : (f : Flow) (l : Link) → said_by (flowed_from f l.happened) ≡ said_by l.happened
flow_keeps f l = by l.happened
  where
    grant : (n k : Option ℕ) (list : Received) → said_first (middle (with_our_grant n k list)) ≡ said_first (middle list)
    grant (Some n) (Some k) list = refl
    grant (Some n) None list = refl
    grant None k list = refl

    by : (h : Happened) → said_by (flowed_from f h) ≡ said_by h
    by (sends list) = refl
    by (receives list) = grant f.delivery_count f.link_credit list

transfer_keeps : (x : Transfer) (l : Link) → said_by (started l.going_on l.happened) ≡ said_by l.happened
transfer_keeps x l = by l.happened
  where
    by : (h : Happened) → said_by (started l.going_on h) ≡ said_by h
    by (sends list) = refl
    by (receives list) = refl

mapped_keeps : (q : Bool) (f : Link → Link) → ((l : Link) → said_by (f l).happened ≡ said_by l.happened) → (v : Option Link) → Keeps v (if q then option_map f v else v)
mapped_keeps true f same None = inl refl
mapped_keeps true f same (Some l) = inr (same l)
mapped_keeps false f same v = inr refl

over_keeps : (q : Bool) (v : Option Link) → Keeps v (if q then None else v)
over_keeps true v = inl refl
over_keeps false v = inr refl

new_said : (number : ℕ) (key : LinkKey) (a : Attach) (last : Option Asked) (address : Option (List ℕ)) → said_of (attached number key a last address) ≡ None
new_said number key a last None = refl
new_said number key a last (Some address) = by a.role
  where
    by : (r : Role) → said_by (begins r a.initial_delivery_count (initial_of last)) ≡ None
    by Sender = refl
    by Receiver = refl

perf_keeps : (body : Perf) (own o h number : ℕ) (key : Attach → LinkKey) (last : Option Asked) (v : Option Link) → Keeps v (link_in body own o h number key last v)
perf_keeps (perf.Attach a) own o h number key last v = by ((own == o) && (a.handle == h))
  where
    by : (q : Bool) → Keeps v (if q then attached number (key a) a last (address_by a.role a) else v)
    by true = inl (new_said number (key a) a last (address_by a.role a))
    by false = inr refl
perf_keeps (perf.Flow f) own o h number key last v = mapped_keeps _ (after_our_flow f) (flow_keeps f) v
perf_keeps (perf.Transfer x) own o h number key last v = mapped_keeps _ (after_our_transfer x) (transfer_keeps x) v
perf_keeps body own o h number key last v = over_keeps (ends_handle_in body own o h) v

item_keeps : (i : Item) (o h number : ℕ) (key : Attach → LinkKey) (last : Option Asked) (v : Option Link) → Keeps v (link_after i o h number key last v)
item_keeps (item.Frame sasl own body payload) o h number key last v = perf_keeps body own o h number key last v
item_keeps _ o h number key last v = inr refl

pub out_said : (d : ℕ) (i : Item) (t : List Entry) (c o h : ℕ) → (said_of (link (Out d i ∷ t) c o h) ≡ None) ⊎ (said_of (link (Out d i ∷ t) c o h) ≡ said_of (link t c o h))
out_said d i t c o h = by (d == c)
  where
    by : (q : Bool) → Keeps (link t c o h) (if q then link_after i o h (attachments t + 1) (key_at t c) (asked t c) (link t c o h) else link t c o h)
    by true = item_keeps i o h (attachments t + 1) (key_at t c) (asked t c) (link t c o h)
    by false = inr refl

pub out_none : (d : ℕ) (i : Item) (t : List Entry) (c o h : ℕ) → said_of (link t c o h) ≡ None → said_of (link (Out d i ∷ t) c o h) ≡ None
out_none d i t c o h none = by (out_said d i t c o h)
  where
    by : (said_of (link (Out d i ∷ t) c o h) ≡ None) ⊎ (said_of (link (Out d i ∷ t) c o h) ≡ said_of (link t c o h)) → said_of (link (Out d i ∷ t) c o h) ≡ None
    by (inl gone) = gone
    by (inr same) = same ∙ none

-- after the last frame of a delivery

last_said : (f : Frame) (list : Received) → f.transfer.more ≡ false → said_first (middle (behind f list)) ≡ None
last_said f list last = by (is_beyond list) refl
  where
    empty : (fs : List Frame) (q : Bool) → (is_empty fs && q) ≡ true → said_first fs ≡ None
    empty [] q is = refl
    empty (g ∷ fs) q is = absurd cc

    over : (q : Bool) (fs : List Frame) → q ≡ false → said_first (if (q && not f.transfer.aborted) then f ∷ fs else []) ≡ None
    over true fs is = absurd cc
    over false fs is = refl

    by : (q : Bool) → is_beyond list ≡ q → said_first (middle (if q then list else receiving.TheirTransfer f ∷ list)) ≡ None
    by true is = empty (middle list) (nat_eq (unused list) 0) is
    by false is = over f.transfer.more (middle list) last

came_none : (x : Transfer) (carried : List ℕ) (happened : Received) → x.more ≡ false → said_by (came_to x carried (receives happened)) ≡ None
came_none x carried happened last = last_said (frame x carried) happened last

-- the link of a frame's handle
pub on_place : (t : List Entry) (c own h : ℕ) (l : Link) (v : Option PeerHandle) → link_place_by v (link t c own) ≡ on h l → (v ≡ Some (handle.Mapped h)) × (link t c own h ≡ Some l)
on_place t c own h l None is = absurd cc
on_place t c own h l (Some handle.Detaching) is = absurd cc
on_place t c own h l (Some (handle.Mapped k)) is = on_it (link t c own k) refl is
  where
    on_it : (w : Option Link) → link t c own k ≡ w → on_link k w ≡ on h l → (Some (handle.Mapped k) ≡ Some (handle.Mapped h)) × (link t c own h ≡ Some l)
    on_it None there is = absurd cc
    on_it (Some m) there is =
        let same : k ≡ h = cc in
        let one : m ≡ l = cc in
        (ap (λ (j : ℕ). Some (handle.Mapped j)) same, ap (link t c own) (sym same) ∙ there ∙ ap (λ (x : Link). Some x) one)

-- the link on which it came
pub whole_said : (u : List Entry) (c own h : ℕ) (message : Told) (payload : List ℕ) → CameWhole u c own h message payload → said_of (link u c own h) ≡ None
whole_said u c own h message payload came = by u came.just
  where
    t : List Entry
    t = came.handled.found

    names_it : names (their_handle t c own came.transfer.handle) h ≡ true
    names_it = ap (λ (v : Option PeerHandle). names v h) (on_place t c own h came.place (their_handle t c own came.transfer.handle) came.on_handle).0 ∙ eq-eqb h h refl

    here : link_at came.handled.step.event c own h (theirs t c) (their_handle t c own) (link t c own h)
        ≡ option_map (after_their_transfer came.transfer came.carried) (link t c own h) → said_of (link_at came.handled.step.event c own h (theirs t c) (their_handle t c own) (link t c own h)) ≡ None
    here is =
        ap said_of is ∙ ap (λ (v : Option Link). said_of (option_map (after_their_transfer came.transfer came.carried) v)) (on_place t c own h came.place (their_handle t c own came.transfer.handle) came.on_handle).1
        ∙ ap (λ (w : Happened). said_by (came_to came.transfer came.carried w)) came.receiving ∙ came_none came.transfer came.carried came.happened came.last

    heard : link_at (event.Item came.conn (item.Frame false came.channel (perf.Transfer came.transfer) came.carried)) c own h (theirs t c) (their_handle t c own) (link t c own h)
        ≡ option_map (after_their_transfer came.transfer came.carried) (link t c own h)
    heard =
        let mapped : maps (theirs t c came.channel) own ≡ true = ap (λ (v : Option PeerChannel). maps v own) came.on_session ∙ eq-eqb own own refl in
        rw (eq-eqb came.conn.0 c came.on_connection, mapped, names_it) refl

    by : (u : List Entry) → just_handled u ≡ Some came.handled → said_of (link u c own h) ≡ None
    by [] just = absurd (none_not_some just)
    by (Did s ∷ w) just =
        let same = some_same just in
        subst (λ (k : Handled). said_of (link (Did k.step ∷ k.found) c own h) ≡ None) (sym same)
        (here (ap (λ (e : Event). link_at e c own h (theirs t c) (their_handle t c own) (link t c own h)) came.came ∙ heard))
    by (Out d i ∷ w) just = out_none d i w c own h (by w just)
    by (Took d k ∷ w) just = absurd (none_not_some just)
    by (Bound b ∷ w) just = absurd (none_not_some just)
    by (Booked acts full ∷ w) just = absurd (none_not_some just)
    by (Routed passage ∷ w) just = by w just
    by (Began g ∷ w) just = absurd (none_not_some just)
