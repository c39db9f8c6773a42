-- Outcomes are as they were given.
use Rattle.std.proofs.Common.{◌≡◌, ◌∙◌, sym, ap, refl, subst, ◌⊎◌, inl, inr, ℕ, ◌+◌, Bool, true, false, not, ◌&&◌, ◌||◌, List, [], ◌∷◌, ◌++◌, ◌≤◌, arith}
use Rattle.std.specs.Prelude.{◌==◌, Option, Some, None, is_none, if◌then◌else◌, length}
use Rattle.std.proofs.lemmas.Bool.{eqb-true}
use Rattle.amqp_model.specs.declared.perf.Attach.{Attach}
use Rattle.amqp_model.specs.declared.perf.Disposition.{Disposition}
use Rattle.amqp_model.specs.declared.perf.Perf.{Perf}
use Rattle.amqp_model.specs.declared.perf.Perf.TheVariants as perf
use Rattle.amqp_model.specs.declared.perf.Role.{Role}
use Rattle.amqp_model.specs.declared.perf.Role.TheVariants.{Sender, Receiver}
use Rattle.amqp_model.specs.declared.perf.Transfer.{Transfer}
use Rattle.amqp_model.specs.declared.state.DeliveryState.{DeliveryState}
use Rattle.amqp_model.specs.declared.item.Item.{Item}
use Rattle.amqp_model.specs.declared.item.Item.TheVariants as item
use Rattle.amqp_session.specs.Ranges.{in_range}
use Rattle.router_trace.specs.declared.binding.Binding.{Binding}
use Rattle.router_trace.specs.declared.binding.DeliveryName.{DeliveryName}
use Rattle.router_trace.specs.declared.binding.DeliveryName.TheVariants.{Row, Counter}
use Rattle.router_trace.specs.declared.binding.Origin.{Origin}
use Rattle.router_trace.specs.declared.channel.PeerChannel.{PeerChannel}
use Rattle.router_trace.specs.declared.channel.PeerChannel.TheVariants.{Mapped, Ending}
use Rattle.router_trace.specs.declared.event.ConnectionId.{ConnectionId}
use Rattle.router_trace.specs.declared.event.Event.{Event}
use Rattle.router_trace.specs.declared.event.Event.TheVariants as event
use Rattle.router_trace.specs.declared.handle.Attachment.{Attachment}
use Rattle.router_trace.specs.Trace.{Entry, Did, Out, Took, Booked, Routed, Bound, Began, Step, is_opening}
use Rattle.router_trace.specs.Links.{ends_handle}
use Rattle.router_trace.specs.Sessions.{maps}
use Rattle.router_trace.specs.Deliveries.{Delivery, outcome_in, holds_standing, bindings, number_named, delivery, sending, named, failed, after_frame, decided, source, untold, unsettled, told, ended, decided_at_end, suspended_at_end, is_undecided, is_meant, is_named, is_number, last_of, decision, terminal, is_gone_with, after_origin, after_ends, ended_by, put_in, after_put, carried, tag_in, is_on, is_settled_at, disposed, outcome_or, outcome_named, given, heard_in, heard, lost_with, after_event, origin_id, channels_found, acts_found, sender, forsaken}
use Rattle.theorems.specs.Decided.{is_for_good, GivenByConsumer, Decides, DecidesFound, Decided, IsByConsumer, IsFoundByConsumer, DecidedByConsumer}
use Rattle.theorems.specs.Decided.Decides.{given_by_consumer, given_by_attach, link_lost, link_ended, sent_settled}
use Rattle.state_connections.proofs.Lists.{by_test}
use Rattle.router_core.proofs.Due.{both_true}
use Rattle.theorems.proofs.Tests.{never_both, none_is, some_same, none_not_some}
use Rattle.theorems.specs.OneConsumer.{joined_in, WhileThere}
use Rattle.theorems.proofs.Followed.{Follows, AllFollow, then_all, entry_follows, more_bound, later_follows}
use Rattle.theorems.proofs.Bindings.{of_what, there_bound}
use Rattle.theorems.proofs.Rebound.{AfterBound, after_bound, held_outcome}
use Rattle.theorems.proofs.Rebound.AfterBound.{is_new, is_joined, is_old}

-- an outcome was there before, or was given now
abbrev From : (DeliveryState → Type 0) → Delivery → Delivery → Type 0
From D d e = (s : DeliveryState) → e.outcome ≡ Some s → (d.outcome ≡ Some s) ⊎ D s

was_there : (D : DeliveryState → Type 0) (d : Delivery) → From D d d
was_there D d s h = inl h

choice : (D : DeliveryState → Type 0) (b : Bool) (d e f : Delivery) → (b ≡ true → From D d e) → (b ≡ false → From D d f) → From D d (if b then e else f)
choice D true d e f first second = first refl
choice D false d e f first second = second refl

-- ends of links

origin_outcome : (gone : Attachment → Bool) (d : Delivery) → (after_origin gone d).outcome ≡ d.outcome
origin_outcome gone d = by (is_gone_with gone (sender d))
  where
    by : (b : Bool) → (if b then forsaken d else d).outcome ≡ d.outcome
    by true = refl
    by false = refl

decided_from : (D : DeliveryState → Type 0) (d : Delivery) → (d.outcome ≡ None → (s : DeliveryState) → s ≡ failed → D s) → From D d (decided_at_end d)
decided_from D d gives s h =
    by_test (is_none d.outcome)
    (λ e. inr (gives (none_is d.outcome e) s (sym (some_same (rw e at h)))))
    (λ e. inl (rw e at h))

-- what an end gives: unless the delivery is suspended, before it or by it
abbrev EndGives : (DeliveryState → Type 0) → Bool → Delivery → Type 0
EndGives D closed d = d.suspended ≡ false → (d.lasting && not closed) ≡ false → d.outcome ≡ None → (s : DeliveryState) → s ≡ failed → D s

lasts_closed : (lasting closed : Bool) → (lasting && not closed) ≡ false → lasting ≡ true → closed ≡ true
lasts_closed true true e lasts = refl
lasts_closed true false e lasts = absurd cc
lasts_closed false closed e lasts = absurd cc

never_lasts : (lasting : Bool) → (lasting && not false) ≡ false → lasting ≡ false
never_lasts true e = absurd cc
never_lasts false e = refl

-- a link that is suspended decides nothing
ended_from : (D : DeliveryState → Type 0) (closed : Bool) (d : Delivery) → EndGives D closed d → From D d (ended closed d)
ended_from D closed d gives =
    choice D d.suspended d d (if d.lasting && not closed then suspended_at_end d else decided_at_end d) (λ e. was_there D d)
    (λ e. choice D (d.lasting && not closed) d (suspended_at_end d) (decided_at_end d) (λ f s h. inl h) (λ f. decided_from D d (gives e f)))

ends_from : (D : DeliveryState → Type 0) (closed : Bool) (gone : Attachment → Bool) (d : Delivery)
    → (gone d.link ≡ true → EndGives D closed d) → From D d (after_ends closed gone d)
ends_from D closed gone d gives s h =
    choice D (gone d.link) d (ended closed d) d (λ e. ended_from D closed d (gives e)) (λ e. was_there D d) s
    (sym (origin_outcome gone (if gone d.link then ended closed d else d)) ∙ h)

-- items put out

abbrev Now : Entry → List Entry → ℕ → Delivery → DeliveryState → Type 0
Now x t n d s = Decides x t n d s

told_outcome : (role : Role) (x : Disposition) (c o : ℕ) (d : Delivery) → (told role x c o d).outcome ≡ d.outcome
told_outcome Receiver x c o d = by (is_meant x (origin_id (source d) c o)) x.settled
  where
    by : (b settled : Bool) → (if b then (if settled then untold d else unsettled d) else d).outcome ≡ d.outcome
    by true true = refl
    by true false = refl
    by false settled = refl
told_outcome Sender x c o d = refl

pub number_is : (v : Option ℕ) (n : ℕ) → is_number v n ≡ true → v ≡ Some n
number_is None n h = absurd cc
number_is (Some k) n h = ap (λ (m : ℕ). Some m) (eqb-true k n h)

frame_from : (c : ℕ) (sasl : Bool) (own : ℕ) (x : Transfer) (payload : List ℕ) (t : List Entry) (n : ℕ) (d : Delivery)
    → carried (number_named t) (tag_in x) (sending t c own x.handle) ≡ Some n
    → From (Now (Out c (item.Frame sasl own (perf.Transfer x) payload)) t n d) d (after_frame x (length payload) d)
frame_from c sasl own x payload t n d carries s h =
    by_test (d.presettled && not x.more)
    (λ e. let both = both_true d.presettled (not x.more) e
    in inr (sent_settled (record { conn = c; sasl = sasl; own = own; transfer = x; payload = payload; entry_is = refl; carries = carries; last = negated x.more both.1; presettled = both.0 })
    (sym (some_same (rw e at h)))))
    (λ e. inl (rw e at h))
  where
    negated : (b : Bool) → not b ≡ true → b ≡ false
    negated true f = absurd cc
    negated false f = refl

transfer_from : (c : ℕ) (sasl : Bool) (own : ℕ) (x : Transfer) (payload : List ℕ) (t : List Entry) (n : ℕ) (d : Delivery)
    → From (Now (Out c (item.Frame sasl own (perf.Transfer x) payload)) t n d) d (put_in (number_named t) (perf.Transfer x) c own n (sending t c) (length payload) d)
transfer_from c sasl own x payload t n d =
    choice (Now (Out c (item.Frame sasl own (perf.Transfer x) payload)) t n d) (is_number (carried (number_named t) (tag_in x) (sending t c own x.handle)) n) d
    (after_frame x (length payload) d) d
    (λ e. frame_from c sasl own x payload t n d (number_is (carried (number_named t) (tag_in x) (sending t c own x.handle)) n e))
    (λ e. was_there _ d)

-- items that end no link
quiet_from : (D : DeliveryState → Type 0) (c : ℕ) (d e : Delivery) → From D d e → From D d (after_ends false (λ a. (a.conn.0 == c) && false) e)
quiet_from D c d e before s h = by (ends_from (λ s. ⊥) false (λ a. (a.conn.0 == c) && false) e (λ gone. absurd (never_both (e.link.conn.0 == c) gone)) s h)
  where
    by : (e.outcome ≡ Some s) ⊎ ⊥ → (d.outcome ≡ Some s) ⊎ D s
    by (inl was) = before s was
    by (inr never) = absurd never

-- items that may end one
ending_from : (c : ℕ) (i : Item) (t : List Entry) (n : ℕ) (d : Delivery) → From (Now (Out c i) t n d) d (after_ends (is_for_good i) (ended_by i c) d)
ending_from c i t n d =
    ends_from (Now (Out c i) t n d) (is_for_good i) (ended_by i c) d
    (λ gone there stays none s is. let both = both_true (d.link.conn.0 == c) (ends_handle i d.link.channel d.link.handle) gone
    in link_ended (record { conn = c; item = i; entry_is = refl; on_connection = eqb-true d.link.conn.0 c both.0; ends = both.1; not_suspended = there; for_good = lasts_closed d.lasting (is_for_good i) stays }) none is)

frame_put_from : (body : Perf) (c : ℕ) (sasl : Bool) (own : ℕ) (payload : List ℕ) (t : List Entry) (n : ℕ) (d : Delivery)
    → From (Now (Out c (item.Frame sasl own body payload)) t n d) d (after_put (number_named t) (item.Frame sasl own body payload) c n (sending t c) d)
frame_put_from (perf.Transfer x) c sasl own payload t n d =
    quiet_from (Now (Out c (item.Frame sasl own (perf.Transfer x) payload)) t n d) c d (put_in (number_named t) (perf.Transfer x) c own n (sending t c) (length payload) d)
    (transfer_from c sasl own x payload t n d)
frame_put_from (perf.Disposition x) c sasl own payload t n d =
    quiet_from (Now (Out c (item.Frame sasl own (perf.Disposition x) payload)) t n d) c d (told x.role x c own d)
    (λ s h. inl (sym (told_outcome x.role x c own d) ∙ h))
frame_put_from body c sasl own payload t n d = ending_from c (item.Frame sasl own body payload) t n d

put_from : (c : ℕ) (i : Item) (t : List Entry) (n : ℕ) (d : Delivery) → From (Now (Out c i) t n d) d (after_put (number_named t) i c n (sending t c) d)
put_from c (item.Frame sasl own body payload) t n d = frame_put_from body c sasl own payload t n d
put_from c _ t n d = was_there _ d

-- items received

maps_is : (v : Option PeerChannel) (o : ℕ) → maps v o ≡ true → v ≡ Some (Mapped o)
maps_is None o h = absurd cc
maps_is (Some Ending) o h = absurd cc
maps_is (Some (Mapped own)) o h = ap (λ (k : ℕ). Some (Mapped k)) (eqb-true own o h)

meant_is : (x : Disposition) (v : Option ℕ) → is_meant x v ≡ true → (id : ℕ) × (v ≡ Some id) × (in_range x.first (last_of x) id ≡ true)
meant_is x None h = absurd cc
meant_is x (Some id) h = (id, refl, h)

consumer_gives : (s : Step) (t : List Entry) (n : ℕ) (d : Delivery) (conn : ConnectionId) (channel : ℕ) (x : Disposition) (payload : List ℕ) (outcome : DeliveryState)
    → s.event ≡ event.Item conn (item.Frame false channel (perf.Disposition x) payload) → x.role ≡ Receiver
    → is_on d.link conn.0 (channels_found t conn.0 channel) ≡ true
    → (is_undecided d && is_meant x d.id && is_named d.id (named t conn.0 d.link.channel) n) ≡ true
    → decision x.settled (terminal x.state) ≡ Some outcome → GivenByConsumer (Did s) t n d outcome
consumer_gives s t n d conn channel x payload outcome came role here tests gives =
    let place = both_true (d.link.conn.0 == conn.0) (maps (channels_found t conn.0 channel) d.link.channel) here
    in let outer = both_true (is_undecided d && is_meant x d.id) (is_named d.id (named t conn.0 d.link.channel) n) tests
    in let inner = both_true (is_undecided d) (is_meant x d.id) outer.0
    in let meant = meant_is x d.id inner.1
    in let on_connection : conn.0 ≡ d.link.conn.0 = sym (eqb-true d.link.conn.0 conn.0 place.0)
    in let names : is_named (Some meant.0) (named t conn.0 d.link.channel) n ≡ true
    = subst (λ (v : Option ℕ). is_named v (named t conn.0 d.link.channel) n ≡ true) meant.1 outer.1
    in record {
      step = s;
      conn = conn;
      channel = channel;
      disposition = x;
      payload = payload;
      id = meant.0;
      entry_is = refl;
      came = came;
      receiver = role;
      on_connection = on_connection;
      on_session = maps_is (channels_found t conn.0 channel) d.link.channel place.1;
      has_id = meant.1;
      in_its_range = meant.2;
      id_names_it = subst (λ (c : ℕ). named t c d.link.channel meant.0 ≡ Some n) on_connection (number_is (named t conn.0 d.link.channel meant.0) n names);
      gives = gives;
      undecided = none_is d.outcome (both_true (is_none d.outcome) (not (d.presettled || d.suspended)) inner.0).0;
    }

disposed_from : (s : Step) (t : List Entry) (n : ℕ) (d : Delivery) (conn : ConnectionId) (channel : ℕ) (x : Disposition) (payload : List ℕ)
    → s.event ≡ event.Item conn (item.Frame false channel (perf.Disposition x) payload) → (role : Role) → x.role ≡ role
    → From (Now (Did s) t n d) d (disposed role x conn.0 (channels_found t conn.0 channel) (named t conn.0 d.link.channel) n d)
disposed_from s t n d conn channel x payload came Receiver role =
    choice (Now (Did s) t n d) (is_on d.link conn.0 (channels_found t conn.0 channel)) d (decided x (named t conn.0 d.link.channel) n d) d
    (λ here. choice (Now (Did s) t n d) (is_undecided d && is_meant x d.id && is_named d.id (named t conn.0 d.link.channel) n) d
    (record d { outcome = decision x.settled (terminal x.state) }) d
    (λ tests outcome gives. inr (given_by_consumer (consumer_gives s t n d conn channel x payload outcome came role here tests gives)))
    (λ e. was_there _ d))
    (λ e. was_there _ d)
disposed_from s t n d conn channel x payload came Sender role =
    λ outcome h. inl (sym (untold_outcome (is_settled_at x conn.0 (channels_found t conn.0 channel) (source d))) ∙ h)
  where
    untold_outcome : (b : Bool) → (if b then untold d else d).outcome ≡ d.outcome
    untold_outcome true = refl
    untold_outcome false = refl

-- an attach whose acts decide its row
given_from : (s : Step) (t : List Entry) (n : ℕ) (d : Delivery) (conn : ConnectionId) (channel : ℕ) (a : Attach) (payload : List ℕ)
    → s.event ≡ event.Item conn (item.Frame false channel (perf.Attach a) payload) → From (Now (Did s) t n d) d (given (acts_found t) d)
given_from s t n d conn channel a payload came outcome h = by_outcome d.outcome refl h
  where
    by_name : (name : DeliveryName) → d.name ≡ name → d.outcome ≡ None → outcome_named (acts_found t) name ≡ Some outcome → (d.outcome ≡ Some outcome) ⊎ Decides (Did s) t n d outcome
    by_name (Counter k) called none gives = absurd (none_not_some gives)
    by_name (Row r) called none gives =
        inr (given_by_attach (record { step = s; conn = conn; channel = channel; attach = a; payload = payload; row = r; entry_is = refl; came = came; name = called; gives = gives; undecided = none }))

    by_outcome : (o : Option DeliveryState) → d.outcome ≡ o → outcome_or o (outcome_named (acts_found t) d.name) ≡ Some outcome → (d.outcome ≡ Some outcome) ⊎ Decides (Did s) t n d outcome
    by_outcome (Some s) is h = inl (is ∙ h)
    by_outcome None is h = by_name d.name refl is h

heard_perf : (s : Step) (t : List Entry) (n : ℕ) (d : Delivery) (conn : ConnectionId) (channel : ℕ) (body : Perf) (payload : List ℕ)
    → s.event ≡ event.Item conn (item.Frame false channel body payload)
    → From (Now (Did s) t n d) d (heard_in body conn.0 (channels_found t conn.0 channel) (named t conn.0) (acts_found t) n d)
heard_perf s t n d conn channel (perf.Disposition x) payload came = disposed_from s t n d conn channel x payload came x.role refl
heard_perf s t n d conn channel (perf.Attach a) payload came = given_from s t n d conn channel a payload came
heard_perf s t n d conn channel _ payload came = was_there _ d

heard_from : (s : Step) (t : List Entry) (n : ℕ) (d : Delivery) (conn : ConnectionId) (i : Item) → s.event ≡ event.Item conn i
    → From (Now (Did s) t n d) d (heard i conn.0 (channels_found t conn.0) (named t conn.0) (acts_found t) n d)
heard_from s t n d conn (item.Frame true channel body payload) came = was_there _ d
heard_from s t n d conn (item.Frame false channel body payload) came = heard_perf s t n d conn channel body payload came
heard_from s t n d conn _ came = was_there _ d

event_from : (s : Step) (t : List Entry) (n : ℕ) (d : Delivery) (e : Event) → s.event ≡ e → From (Now (Did s) t n d) d (after_event e (channels_found t) (named t) (acts_found t) n d)
event_from s t n d (event.Item c i) is = heard_from s t n d c i is
event_from s t n d (event.Down c) is =
    ends_from (Now (Did s) t n d) false (lost_with c.0) d
    (λ gone there stays none outcome e. link_lost (record {
      step = s;
      conn = c;
      entry_is = refl;
      lost = is;
      on_connection = eqb-true d.link.conn.0 c.0 gone;
      not_suspended = there;
      not_lasting = never_lasts d.lasting stays;
    }) none e)
event_from s t n d _ is = was_there _ d

-- all entries

-- what decides a delivery is no opening
not_opening : (x : Entry) {t : List Entry} {n : ℕ} {d : Delivery} {s : DeliveryState} → Decides x t n d s → is_opening x ≡ false
not_opening x (given_by_consumer given) = subst (λ (y : Entry). is_opening y ≡ false) (sym given.entry_is) refl
not_opening x (given_by_attach given) = subst (λ (y : Entry). is_opening y ≡ false) (sym given.entry_is) refl
not_opening x (link_lost lost none is_failed) = subst (λ (y : Entry). is_opening y ≡ false) (sym lost.entry_is) refl
not_opening x (link_ended ended none is_failed) = subst (λ (y : Entry). is_opening y ≡ false) (sym ended.entry_is) refl
not_opening x (sent_settled sent accepted) = subst (λ (y : Entry). is_opening y ≡ false) (sym sent.entry_is) refl

later_decided : (x : Entry) (t : List Entry) (n : ℕ) (s : DeliveryState) → is_opening x ≡ false → Decided t n s → Decided (x ∷ t) n s
later_decided x t n s one was = record {
  later = x ∷ was.later;
  entry = was.entry;
  before = was.before;
  trace = ap (λ (u : List Entry). x ∷ u) was.trace;
  one_run = (one, was.one_run);
  found = was.found;
  there = was.there;
  decides = was.decides;
}

now_decided : (x : Entry) (t : List Entry) (n : ℕ) (d : Delivery) (s : DeliveryState) → delivery t n ≡ Some d → Decides x t n d s → Decided (x ∷ t) n s
now_decided x t n d s there decides = record { later = []; entry = x; before = t; trace = refl; one_run = tt; found = Some d; there = there; decides = decides }

either_decided : (x : Entry) (t : List Entry) (n : ℕ) (d : Delivery) (s : DeliveryState) → is_opening x ≡ false → delivery t n ≡ Some d
    → (d.outcome ≡ Some s → Decided t n s) → (d.outcome ≡ Some s) ⊎ Decides x t n d s → Decided (x ∷ t) n s
either_decided x t n d s one there was (inl e) = later_decided x t n s one (was e)
either_decided x t n d s one there was (inr now) = now_decided x t n d s there now

-- a binding that brings an outcome: no delivery had its number before
brought_back : (b : Binding) (t : List Entry) (n : ℕ) (s : DeliveryState) → bindings t + 1 ≡ n → holds_standing b.kind ≡ None → outcome_in b.kind ≡ Some s → Decided (Bound b ∷ t) n s
brought_back b t n s is numbered brings = record { later = []; entry = Bound b; before = t; trace = refl; one_run = tt; found = delivery t n; there = refl; decides = by (delivery t n) refl }
  where
    past : n ≤ bindings t → ⊥
    past h = omega arith

    by : (v : Option Delivery) → delivery t n ≡ v → DecidesFound (Bound b) t n v s
    by None e = record { binding = b; entry_is = refl; number = is; numbered = numbered; brings = brings }
    by (Some d) e = absurd (past (there_bound t n d e))

-- after a binding: brought, or as before
bound_given : (b : Binding) (t : List Entry) (n : ℕ) (d : Delivery) (s : DeliveryState) → delivery (Bound b ∷ t) n ≡ Some d → d.outcome ≡ Some s
    → ((x : Delivery) → delivery t n ≡ Some x → x.outcome ≡ Some s → Decided t n s) → Decided (Bound b ∷ t) n s
bound_given b t n d s h e was = by (after_bound b t n d h)
  where
    by : AfterBound b t n d → Decided (Bound b ∷ t) n s
    by (is_new new) = brought_back b t n s new.number new.numbered (ap (λ (x : Delivery). x.outcome) new.is ∙ e)
    by (is_joined joins) = later_decided (Bound b) t n s refl (was joins.before joins.there (sym (held_outcome joins.holding joins.before) ∙ ap (λ (x : Delivery). x.outcome) joins.is ∙ e))
    by (is_old there) = later_decided (Bound b) t n s refl (was d there e)

pub outcomes_given : (u : List Entry) (n : ℕ) (d : Delivery) (s : DeliveryState) → delivery u n ≡ Some d → d.outcome ≡ Some s → Decided u n s
outcomes_given [] n d s h e = absurd cc
outcomes_given (Did x ∷ t) n d s h e =
    let was = of_what (after_event x.event (channels_found t) (named t) (acts_found t) n) (delivery t n) d h
    in either_decided (Did x) t n was.0 s refl was.1 (outcomes_given t n was.0 s was.1)
    (event_from x t n was.0 x.event refl s (sym (ap (λ (f : Delivery). f.outcome) was.2) ∙ e))
outcomes_given (Out c i ∷ t) n d s h e =
    let was = of_what (after_put (number_named t) i c n (sending t c)) (delivery t n) d h
    in either_decided (Out c i) t n was.0 s refl was.1 (outcomes_given t n was.0 s was.1)
    (put_from c i t n was.0 s (sym (ap (λ (f : Delivery). f.outcome) was.2) ∙ e))
outcomes_given (Took c k ∷ t) n d s h e = later_decided (Took c k) t n s refl (outcomes_given t n d s h e)
outcomes_given (Booked acts full ∷ t) n d s h e = later_decided (Booked acts full) t n s refl (outcomes_given t n d s h e)
outcomes_given (Routed passage ∷ t) n d s h e = later_decided (Routed passage) t n s refl (outcomes_given t n d s h e)
outcomes_given (Began g ∷ t) n d s h e = absurd cc
outcomes_given (Bound b ∷ t) n d s h e = bound_given b t n d s h e (λ x there. outcomes_given t n x s there)

-- if its producer hadn't settled it, by its consumer

same_presettled : (o : Option Origin) (d : Delivery) (v : Option Delivery) (e : Delivery) → WhileThere (Follows o d) v → v ≡ Some e → e.presettled ≡ d.presettled
same_presettled o d None e follows is = absurd (none_not_some is)
same_presettled o d (Some f) e follows is = sym (ap (λ (g : Delivery). g.presettled) (some_same is)) ∙ follows.presettled

pub outcomes_of_consumers : (u : List Entry) (n : ℕ) (d : Delivery) (s : DeliveryState) → delivery u n ≡ Some d → d.outcome ≡ Some s → d.presettled ≡ false → DecidedByConsumer u n s
outcomes_of_consumers u n d s there outcome unsettled =
    let is = outcomes_given u n d s there outcome
    in record { decided = is; by_consumer = by_found is is.found is.there is.decides }
  where
    clash : true ≡ false → ⊥
    clash e = cc

    by : (is : Decided u n s) (e : Delivery) → delivery is.before n ≡ Some e → (decides : Decides is.entry is.before n e s) → IsByConsumer is.entry is.before n e s decides
    by is e here (given_by_consumer given) = tt
    by is e here (given_by_attach given) = tt
    by is e here (link_lost lost none is_failed) = tt
    by is e here (link_ended ended none is_failed) = tt
    by is e here (sent_settled sent accepted) =
        let followed : AllFollow (is.later ++ is.entry ∷ []) (delivery is.before n) (delivery (is.later ++ is.entry ∷ is.before) n)
        = then_all (is.entry ∷ []) is.later (delivery is.before n) (delivery (is.entry ∷ is.before) n) (delivery (is.later ++ is.entry ∷ is.before) n)
        (entry_follows is.entry is.before n (there_bound is.before n e here))
        (later_follows is.later (is.entry ∷ is.before) n is.one_run (more_bound is.entry is.before n (not_opening is.entry (sent_settled sent accepted)) (there_bound is.before n e here)))
        in let from : WhileThere (Follows (joined_in (is.later ++ is.entry ∷ []) e.name) e) (delivery (is.later ++ is.entry ∷ is.before) n)
        = subst (λ (v : Option Delivery). AllFollow (is.later ++ is.entry ∷ []) v (delivery (is.later ++ is.entry ∷ is.before) n)) here followed
        in let now : delivery (is.later ++ is.entry ∷ is.before) n ≡ Some d = subst (λ (t : List Entry). delivery t n ≡ Some d) is.trace there
        in absurd (clash (sym sent.presettled ∙ sym (same_presettled (joined_in (is.later ++ is.entry ∷ []) e.name) e (delivery (is.later ++ is.entry ∷ is.before) n) d from now) ∙ unsettled))

    by_found : (is : Decided u n s) (found : Option Delivery) → delivery is.before n ≡ found → (decides : DecidesFound is.entry is.before n found s)
        → IsFoundByConsumer is.entry is.before n found s decides
    by_found is None here decides = tt
    by_found is (Some e) here decides = by is e here decides
