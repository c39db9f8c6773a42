-- The message that an event completes: the claim under its delivery-id has its tag, and stays while its connection isn't closed.
use Rattle.std.proofs.Common.{◌≡◌, ◌∙◌, sym, ap, refl, subst, ◌⊎◌, inl, inr, ℕ, Bool, true, false, ◌&&◌, ◌||◌, List, [], ◌∷◌, ◌++◌}
use Rattle.std.specs.Prelude.{◌==◌, Option, Some, None, is_some, option_map, unwrap_or, map, if◌then◌else◌}
use Rattle.std.proofs.lemmas.Bool.{eqb-true, eq-eqb}
use Rattle.amqp_model.specs.declared.perf.Perf.{Perf}
use Rattle.amqp_model.specs.declared.perf.Perf.TheVariants as perf
use Rattle.amqp_model.specs.declared.perf.Transfer.{Transfer}
use Rattle.amqp_model.specs.declared.item.Item.{Item}
use Rattle.amqp_model.specs.declared.item.Item.TheVariants as item
use Rattle.amqp_conn.specs.declared.conn.Conn.{Conn}
use Rattle.amqp_link.specs.declared.part.Delivery.{Delivery as Told}
use Rattle.amqp_link.specs.Deliveries.{Frame, frame, delivery, first}
use Rattle.amqp_link.specs.Receiving.{Received, middle}
use Rattle.router_trace.specs.declared.binding.Binding.{Binding}
use Rattle.router_trace.specs.declared.binding.Origin.{Origin}
use Rattle.router_trace.specs.declared.channel.PeerChannel.{PeerChannel}
use Rattle.router_trace.specs.declared.channel.PeerChannel.TheVariants.{Mapped, Ending}
use Rattle.router_trace.specs.declared.condition.Condition.TheVariants.{ResourceLimitExceeded}
use Rattle.router_trace.specs.declared.event.ConnectionId.{ConnectionId}
use Rattle.router_trace.specs.declared.event.Event.{Event}
use Rattle.router_trace.specs.declared.event.Event.TheVariants as event
use Rattle.router_trace.specs.declared.handle.Attachment.{Attachment}
use Rattle.router_trace.specs.declared.handle.PeerHandle.TheVariants as handle
use Rattle.router_trace.specs.Trace.{Entry, Trace, Did, Out, Step, puts}
use Rattle.router_trace.specs.Connection.{Connection, conn, has}
use Rattle.router_trace.specs.Claims.{Claim, claims}
use Rattle.router_trace.specs.Deliveries.{ended_by, tag_in}
use Rattle.router_trace.specs.Links.{Link, LinkPlace, nowhere, detaching, on, Happened, sends, receives, link, link_place, their_handle}
use Rattle.router_trace.specs.Sessions.{maps, theirs}
use Rattle.router_trace.specs.Settling.{is_of_link}
use Rattle.router_trace.specs.Frames.{open_item, close_item, closing}
use Rattle.reply_rows.specs.Deciding.{lost}
use Rattle.router_reply.specs.Replies.{closing_of, ends}
use Rattle.state_connections.proofs.Lists.{by_test}
use Rattle.state_deliveries.specs.declared.change.Change.{Change}
use Rattle.theorems.specs.Came.{Handled, just_handled, CameWhole, ComesFrom}
use Rattle.theorems.proofs.AllSound.{ends_handled}
use Rattle.theorems.proofs.Begun.{AreBegun, FirstFrame, ClaimIs, OldClaim, NewClaim, came_claim, one_transfer, none_said}
use Rattle.theorems.proofs.Claimed.{HasClaim}
use Rattle.theorems.proofs.Ending.{AllThere, all_puts}
use Rattle.theorems.proofs.Middles.{Said, said_in, said_first, said_by, said_of, on_place, whole_said}
use Rattle.theorems.proofs.Owning.{Owned, ends_it, is_ending, out_claim_was}
use Rattle.theorems.proofs.Standing.{place, flipped}
use Rattle.theorems.proofs.Tests.{some_same, none_not_some}

clash : true ≡ false → ⊥
clash e = cc

-- one event completes one delivery

abbrev told_at : Transfer → List ℕ → Happened → Option Told
told_at x carried (sends list) = None
told_at x carried (receives list) = Some (delivery (frame x carried) (middle list))

abbrev told_on : Transfer → List ℕ → LinkPlace → Option Told
told_on x carried (on h l) = told_at x carried l.happened
told_on x carried _ = None

abbrev told_by : Transfer → List ℕ → Trace → ℕ → Option PeerChannel → Option Told
told_by x carried t c (Some (Mapped own)) = told_on x carried (link_place t c own x.handle)
told_by x carried t c _ = None

abbrev told_in : Perf → List ℕ → Trace → ℕ → Option PeerChannel → Option Told
told_in (perf.Transfer x) carried t c v = told_by x carried t c v
told_in _ carried t c v = None

abbrev told_of : Event → Trace → Option Told
told_of (event.Item d (item.Frame sasl channel body carried)) t = told_in body carried t d.0 (theirs t d.0 channel)
told_of _ t = None

told_is : (u : Trace) (c own h : ℕ) (m : Told) (payload : List ℕ) → (came : CameWhole u c own h m payload) → told_of came.handled.step.event came.handled.found ≡ Some m
told_is u c own h m payload came =
    let t : Trace = came.handled.found in
    let x : Transfer = came.transfer in
    ap (λ (e : Event). told_of e t) came.came
    ∙ ap (λ (d : ℕ). told_by x came.carried t d (theirs t d came.channel)) came.on_connection
    ∙ ap (told_by x came.carried t c) came.on_session
    ∙ ap (told_on x came.carried) came.on_handle
    ∙ ap (told_at x came.carried) came.receiving
    ∙ ap (λ (d : Told). Some d) (sym came.message_is)

pub same_told : (u : Trace) (c own h d o k : ℕ) (m n : Told) (p q : List ℕ) → CameWhole u c own h m p → CameWhole u d o k n q → m ≡ n
same_told u c own h d o k m n p q came other =
    let same : came.handled ≡ other.handled = some_same (sym came.just ∙ other.just) in
    some_same (sym (told_is u c own h m p came) ∙ ap (λ (z : Handled). told_of z.step.event z.found) same ∙ told_is u d o k n q other)

-- the claim under its id, after the event's entry

abbrev told_tag : Told → Option (List ℕ)
told_tag m = option_map (λ tag. tag.items) m.tag

record TagIs (v : Claim) (m : Told) : Type 0 where
  tag : v.tag ≡ told_tag m
  some : is_some v.tag ≡ true

came_tag : (s : Step) (t : Trace) (ys : List Change) → AreBegun s t ys → Owned t [] → (c own h k : ℕ) (v : Claim) (x : Transfer) (carried : List ℕ) (d : ConnectionId) (channel : ℕ) (l : Link) (list : Received)
    → s.event ≡ event.Item d (item.Frame false channel (perf.Transfer x) carried) → (d.0 == c) ≡ true → maps (theirs t c channel) own ≡ true → their_handle t c own x.handle ≡ Some (handle.Mapped h)
    → link t c own h ≡ Some l → l.happened ≡ receives list → is_ending ys (place c own h) ≡ false → claims (Did s ∷ t) c own k ≡ Some v → v.handle ≡ h
    → (delivery (frame x carried) (middle list)).id ≡ Some k → TagIs v (delivery (frame x carried) (middle list))
came_tag s t ys begun owned c own h k v x carried d channel l list came here session on_handle there receiving free claimed same named = by (middle list) refl named (came_claim s t c own k v claimed)
  where
    by : (fs : List Frame) → middle list ≡ fs → (delivery (frame x carried) fs).id ≡ Some k → ClaimIs s t c own k v → TagIs v (delivery (frame x carried) fs)
    by [] none named is = at is
      where
        first_one : FirstFrame s t c own h x
        first_one = record {
          conn = d;
          channel = channel;
          payload = carried;
          came = came;
          here = here;
          session = session;
          on_handle = on_handle;
          at = l;
          there = there;
          list = list;
          receiving = receiving;
          none = none;
        }

        at : ClaimIs s t c own k v → TagIs v (delivery (frame x carried) [])
        at (inl old) = absurd (none_not_some (sym ((begun c own h x first_one free).fresh k named) ∙ old.there))
        at (inr new) =
            let tagged : v.tag ≡ tag_in x = new.tag ∙ ap tag_in (one_transfer s t c c own own v.handle h new.x x new.first first_one) in
            record { tag = tagged; some = ap (λ (o : Option (List ℕ)). is_some o) tagged ∙ (begun c own h x first_one free).tagged }
    by (f ∷ fs) some named is = at is
      where
        said : Said
        said = said_in (first f fs).transfer

        says : said_of (link t c own h) ≡ Some said
        says = ap said_of there ∙ ap said_by receiving ∙ ap said_first some

        at : ClaimIs s t c own k v → TagIs v (delivery (frame x carried) (f ∷ fs))
        at (inl old) =
            let tagged : v.tag ≡ said.tag = old.tag ∙ owned.tags c own h k said old.before refl says named old.there (sym old.handle ∙ same) in
            record { tag = tagged; some = ap (λ (o : Option (List ℕ)). is_some o) tagged ∙ owned.tagged c own h said refl says }
        at (inr new) =
            absurd (none_not_some (sym (ap (λ (g : ℕ). said_of (link t c own g)) (sym same) ∙ none_said s t c own v.handle new.x new.first) ∙ says))

-- closes because of full outboxes: the connections of the claims that stay aren't closed

open_one : (b : Bool) → (b && true) ≡ false → b ≡ false
open_one true e = e
open_one false e = refl

closed_claim : (d : ℕ) (w : Trace) (c o k : ℕ) (v : Claim) → claims (Out d (close_item (Some ResourceLimitExceeded)) ∷ w) c o k ≡ Some v → (claims w c o k ≡ Some v) × ((c == d) ≡ false)
closed_claim d w c o k v is =
    let was = out_claim_was d (close_item (Some ResourceLimitExceeded)) w c o k v is in
    (was.0, open_one (c == d) was.1)

one_closed : (id : List ℕ) (p : Conn) (d : ℕ) (w : Trace) (c o k : ℕ) (v : Claim) → claims (puts d (closing id p ResourceLimitExceeded) w) c o k ≡ Some v
    → (claims w c o k ≡ Some v) × ((c == d) ≡ false)
one_closed id p d w c o k v is = by p.opened is
  where
    by : (q : Bool) → claims (puts d (if q then close_item (Some ResourceLimitExceeded) ∷ [] else open_item id ∷ close_item (Some ResourceLimitExceeded) ∷ []) w) c o k ≡ Some v
        → (claims w c o k ≡ Some v) × ((c == d) ≡ false)
    by true is = closed_claim d w c o k v is
    by false is =
        let last = closed_claim d (Out d (open_item id) ∷ w) c o k v is in
        ((out_claim_was d (open_item id) w c o k v last.0).0, last.1)

pub ends_claim : (id : List ℕ) (cs : List ℕ) (w : Trace) (c o k : ℕ) (v : Claim) → AllThere w cs → claims (ends id cs w) c o k ≡ Some v → (claims w c o k ≡ Some v) × (has c cs ≡ false)
ends_claim id [] w c o k v all is = (is, refl)
ends_claim id (d ∷ cs) w c o k v all is =
    let rest : (claims (puts d (closing_of id (conn w d) ResourceLimitExceeded) w) c o k ≡ Some v) × (has c cs ≡ false) =
    ends_claim id cs (puts d (closing_of id (conn w d) ResourceLimitExceeded) w) c o k v (all_puts (closing_of id (conn w d) ResourceLimitExceeded) d w cs all.1) is in
    by rest.1 (conn w d) all.0 rest.0
  where
    by : has c cs ≡ false → (q : Option Connection) → is_some q ≡ true → claims (puts d (closing_of id q ResourceLimitExceeded) w) c o k ≡ Some v → (claims w c o k ≡ Some v) × (has c (d ∷ cs) ≡ false)
    by none None there now = absurd (clash (sym there))
    by none (Some q) there now = let was = one_closed id q.phase d w c o k v now in (was.0, rw (flipped c d false was.1) none)

-- which changes end a link: the closes, and the answer's
pub lost_ending : (cs : List ℕ) (ys : List Change) (a : Attachment) → has a.conn.0 cs ≡ true → is_ending (map lost cs ++ ys) a ≡ true
lost_ending [] ys a is = absurd cc
lost_ending (c ∷ cs) ys a is = by (c == a.conn.0) refl is (lost_ending cs ys a)
  where
    by : (q : Bool) → (c == a.conn.0) ≡ q → (q || has a.conn.0 cs) ≡ true → (has a.conn.0 cs ≡ true → is_ending (map lost cs ++ ys) a ≡ true) → is_ending (map lost (c ∷ cs) ++ ys) a ≡ true
    by true e is rest = rw (flipped c a.conn.0 true e) refl
    by false e is rest = rw (flipped c a.conn.0 false e) (rest is)

pub not_ending : (cs : List ℕ) (a : Attachment) → has a.conn.0 cs ≡ false → is_ending (map lost cs ++ []) a ≡ false
not_ending [] a is = refl
not_ending (c ∷ cs) a is = by (c == a.conn.0) refl is (not_ending cs a)
  where
    by : (q : Bool) → (c == a.conn.0) ≡ q → (q || has a.conn.0 cs) ≡ false → (has a.conn.0 cs ≡ false → is_ending (map lost cs ++ []) a ≡ false) → is_ending (map lost (c ∷ cs) ++ []) a ≡ false
    by true e is rest = absurd (clash is)
    by false e is rest = rw (flipped c a.conn.0 false e) (rest is)

-- the bytes of its tag; none if it has none
abbrev pub tag_bytes : Told → List ℕ
tag_bytes m = (unwrap_or m.tag (record { items = [] })).items

some_tag : {A : Type 0} (o : Option A) (bytes : A → List ℕ) (empty : A) (v : Option (List ℕ)) → v ≡ option_map bytes o → is_some v ≡ true → v ≡ Some (bytes (unwrap_or o empty))
some_tag None bytes empty v is some = absurd (clash (sym some ∙ ap (λ (w : Option (List ℕ)). is_some w) is))
some_tag (Some tag) bytes empty v is some = is

pub whole_claim : (id : List ℕ) (s : Step) (t : Trace) (cs : List ℕ) → AreBegun s t (map lost cs ++ []) → Owned t [] → AllThere (Did s ∷ t) cs → (c own h : ℕ) (l : Link) (m : Told) (payload : List ℕ)
    → CameWhole (ends id cs (Did s ∷ t)) c own h m payload → (p : Origin) → ComesFrom (Some p) (ends id cs (Did s ∷ t)) c own h l m → HasClaim (ends id cs (Did s ∷ t)) p (tag_bytes m)
whole_claim id s t cs begun owned all c own h l m payload came p from = by (claims u c own p.id) refl from.2
  where
    u : Trace
    u = ends id cs (Did s ∷ t)

    handled : came.handled ≡ record { step = s; found = t }
    handled = some_same (sym came.just ∙ ends_handled id cs (Did s ∷ t) (Some (record { step = s; found = t })) refl)

    on_it : (their_handle t c own came.transfer.handle ≡ Some (handle.Mapped h)) × (link t c own h ≡ Some came.place)
    on_it =
        on_place t c own h came.place (their_handle t c own came.transfer.handle)
        (ap (λ (z : Handled). link_place z.found c own came.transfer.handle) (sym handled) ∙ came.on_handle)

    by : (w : Option Claim) → claims u c own p.id ≡ w → is_of_link h w ≡ true → HasClaim u p (tag_bytes m)
    by None there of = absurd cc
    by (Some v) there of =
        let on_link : v.handle ≡ h = eqb-true v.handle h of in
        let was = ends_claim id cs (Did s ∷ t) c own p.id v all there in
        let tag : TagIs v (delivery (frame came.transfer came.carried) (middle came.happened)) =
        came_tag s t (map lost cs ++ []) begun owned c own h p.id v came.transfer came.carried came.conn came.channel came.place came.happened
        (ap (λ (z : Handled). z.step.event) (sym handled) ∙ came.came) (eq-eqb came.conn.0 c came.on_connection)
        (ap (λ (o : Option PeerChannel). maps o own) (ap (λ (z : Handled). theirs z.found c came.channel) (sym handled) ∙ came.on_session) ∙ eq-eqb own own refl)
        on_it.0 on_it.1 came.receiving (not_ending cs (place c own h) was.1) was.0 on_link
        (sym (ap (λ (d : Told). d.id) came.message_is) ∙ from.1) in
        record {
          claim = v;
          there = ap (λ (a : Attachment). claims u a.conn.0 a.channel p.id) from.0 ∙ there;
          on_link = on_link ∙ sym (ap (λ (a : Attachment). a.handle) from.0);
          tagged = some_tag m.tag (λ tag. tag.items) (record { items = [] }) v.tag (tag.tag ∙ ap told_tag (sym came.message_is)) tag.some;
          apart = λ said is same.
              none_not_some (sym (ap (λ (a : Attachment). said_of (link u a.conn.0 a.channel a.handle)) from.0 ∙ whole_said u c own h m payload came) ∙ is);
        }
