-- The first frames of the peers' deliveries: what they claim, and that an event leaves what peers claim on their links in order, if each first frame of a link
-- that its answer doesn't end has a tag, and an id and a tag that the link doesn't claim yet.
use Rattle.std.proofs.Common.{◌≡◌, ◌∙◌, sym, ap, refl, subst, ◌⊎◌, inl, inr, ℕ, ◌<◌, ◌^◌, Bool, true, false, not, ◌&&◌, List, [], ◌∷◌}
use Rattle.std.specs.Prelude.{◌==◌, Option, Some, None, is_some, option_map, if◌then◌else◌}
use Rattle.std.proofs.lemmas.Bool.{eqb-true, eq-eqb}
use Rattle.amqp_model.specs.declared.perf.Disposition.{Disposition}
use Rattle.amqp_model.specs.declared.perf.Flow.{Flow}
use Rattle.amqp_model.specs.declared.perf.Perf.{Perf}
use Rattle.amqp_model.specs.declared.perf.Perf.TheVariants as perf
use Rattle.amqp_model.specs.declared.perf.Role.{Role}
use Rattle.amqp_model.specs.declared.perf.Role.TheVariants.{Sender, Receiver}
use Rattle.amqp_model.specs.declared.perf.Transfer.{Transfer}
use Rattle.amqp_model.specs.declared.item.Item.{Item}
use Rattle.amqp_model.specs.declared.item.Item.TheVariants as item
use Rattle.amqp_session.specs.Ranges.{in_range}
use Rattle.amqp_link.specs.Deliveries.{Frame, frame, delivery, first, goes_on}
use Rattle.amqp_link.specs.Receiving as receiving
use Rattle.amqp_link.specs.Receiving.{Received, middle, is_beyond}
use Rattle.book_model.specs.declared.terminus.LinkKey.{LinkKey}
use Rattle.router_trace.specs.declared.channel.PeerChannel.{PeerChannel}
use Rattle.router_trace.specs.declared.event.ConnectionId.{ConnectionId}
use Rattle.router_trace.specs.declared.event.Event.{Event}
use Rattle.router_trace.specs.declared.event.Event.TheVariants as event
use Rattle.router_trace.specs.declared.handle.PeerHandle.{PeerHandle}
use Rattle.router_trace.specs.declared.handle.PeerHandle.TheVariants as handle
use Rattle.router_trace.specs.Trace.{Entry, Did, Step}
use Rattle.router_trace.specs.Deliveries.{last_of, tag_in}
use Rattle.router_trace.specs.Sessions.{maps, theirs}
use Rattle.router_trace.specs.Claims.{Claim, claim, claims, claim_at, claim_by, claim_in, claimed, claimed_by, claimed_first, claimed_in, claimed_later, claimed_on, ends_well, is_named, settled_by, unless_claimed}
use Rattle.router_trace.specs.Links.{Link, Happened, sends, receives, link, link_at, link_by, heard_link, names, names_by, their_handle, durable_key, is_lost, after_their_flow, after_their_transfer, flowed_to, came_to, with_count}
use Rattle.state_connections.proofs.Lists.{by_test}
use Rattle.state_deliveries.specs.declared.change.Change.{Change}
use Rattle.theorems.proofs.Middles.{Said, said_in, said_first, said_by, said_of}
use Rattle.theorems.proofs.Owning.{Owned, is_ending}
use Rattle.theorems.proofs.Standing.{LinkStays, place, did_stays}
use Rattle.theorems.proofs.Tests.{some_same, none_not_some}

pub record FirstFrame (s : Step) (t : List Entry) (c o h : ℕ) (x : Transfer) : Type 0 where
  pub conn : ConnectionId
  pub channel : ℕ
  pub payload : List ℕ
  pub came : s.event ≡ event.Item conn (item.Frame false channel (perf.Transfer x) payload)
  pub here : (conn.0 == c) ≡ true
  pub session : maps (theirs t c channel) o ≡ true
  pub on_handle : their_handle t c o x.handle ≡ Some (handle.Mapped h)
  pub at : Link
  pub there : link t c o h ≡ Some at
  pub list : Received
  pub receiving : at.happened ≡ receives list
  pub none : middle list ≡ []

-- a claim after an event: one that was there, of a connection that isn't lost, or that of a first frame

pub record OldClaim (s : Step) (t : List Entry) (c o k : ℕ) (v : Claim) : Type 0 where
  pub before : Claim
  pub there : claims t c o k ≡ Some before
  pub handle : v.handle ≡ before.handle
  pub tag : v.tag ≡ before.tag
  pub stays : is_lost s.event c ≡ false

pub record NewClaim (s : Step) (t : List Entry) (c o k : ℕ) (v : Claim) : Type 0 where
  pub x : Transfer
  pub first : FirstFrame s t c o v.handle x
  pub id : x.delivery_id ≡ Some k
  pub tag : v.tag ≡ tag_in x

abbrev pub ClaimIs : Step → List Entry → ℕ → ℕ → ℕ → Claim → Type 0
ClaimIs s t c o k v = OldClaim s t c o k v ⊎ NewClaim s t c o k v

is_claim : (h : ℕ) (tag : Option (List ℕ)) (x : Transfer) (v : Claim) → claim h tag x ≡ Some v → (v.handle ≡ h) × (v.tag ≡ tag)
is_claim h tag x v is = by (ends_well x) is
  where
    by : (q : Bool) → (if q then Some (record { handle = h; unbound = not x.more; tag = tag }) else None) ≡ Some v → (v.handle ≡ h) × (v.tag ≡ tag)
    by true is = let same = some_same is in (sym (ap (λ (w : Claim). w.handle) same), sym (ap (λ (w : Claim). w.tag) same))
    by false is = absurd (none_not_some is)

both : (a b : Bool) → (a && b) ≡ true → a ≡ true
both true b e = refl
both false b e = absurd cc

pub named_is : (v : Option ℕ) (k : ℕ) → is_named v k ≡ true → v ≡ Some k
named_is None k e = absurd cc
named_is (Some j) k e = ap (λ (n : ℕ). Some n) (eqb-true j k e)

kept_one : (q : Bool) (old : Option Claim) (v : Claim) → (if q then None else old) ≡ Some v → old ≡ Some v
kept_one true old v is = absurd (none_not_some is)
kept_one false old v is = is

settled_was : (x : Disposition) (k : ℕ) (old : Option Claim) (v : Claim) → settled_by x.role x k old ≡ Some v → old ≡ Some v
settled_was x k old v is = by x.role is
  where
    by : (r : Role) → settled_by r x k old ≡ Some v → old ≡ Some v
    by Sender is = kept_one (x.settled && in_range x.first (last_of x) k) old v is
    by Receiver is = is

transfer_claim : (s : Step) (t : List Entry) (c o k : ℕ) (v : Claim) (d : ConnectionId) (channel : ℕ) (x : Transfer) (payload : List ℕ)
    → s.event ≡ event.Item d (item.Frame false channel (perf.Transfer x) payload) → (d.0 == c) ≡ true → maps (theirs t c channel) o ≡ true
    → claimed x (their_handle t c o x.handle) (link t c o) k (claims t c o k) ≡ Some v → ClaimIs s t c o k v
transfer_claim s t c o k v d channel x payload came here session is = by_handle (their_handle t c o x.handle) refl is
  where
    old : Option Claim
    old = claims t c o k

    same : old ≡ Some v → ClaimIs s t c o k v
    same is = inl (record { before = v; there = is; handle = refl; tag = refl; stays = ap (λ (e : Event). is_lost e c) came })

    new : (h : ℕ) (l : Link) (list : Received) → their_handle t c o x.handle ≡ Some (handle.Mapped h) → link t c o h ≡ Some l → l.happened ≡ receives list → middle list ≡ []
        → is_named x.delivery_id k ≡ true → claim h (tag_in x) x ≡ Some v → ClaimIs s t c o k v
    new h l list on there receiving none named is =
        let its = is_claim h (tag_in x) x v is in
        inr (record {
          x = x;
          first = subst (λ (j : ℕ). FirstFrame s t c o j x) (sym its.0) (record {
            conn = d;
            channel = channel;
            payload = payload;
            came = came;
            here = here;
            session = session;
            on_handle = on;
            at = l;
            there = there;
            list = list;
            receiving = receiving;
            none = none;
          });
          id = named_is x.delivery_id k named;
          tag = its.1;
        })

    by_first : (h : ℕ) (l : Link) (list : Received) → their_handle t c o x.handle ≡ Some (handle.Mapped h) → link t c o h ≡ Some l → l.happened ≡ receives list → middle list ≡ []
        → (q : Bool) → (is_named x.delivery_id k && not (is_beyond list)) ≡ q → (w : Option Claim) → old ≡ w → (if q then unless_claimed w (claim h (tag_in x) x) else w) ≡ Some v → ClaimIs s t c o k v
    by_first h l list on there receiving none true e None was is = new h l list on there receiving none (both (is_named x.delivery_id k) (not (is_beyond list)) e) is
    by_first h l list on there receiving none true e (Some w) was is = same (was ∙ is)
    by_first h l list on there receiving none false e w was is = same (was ∙ is)

    by_later : (h : ℕ) (w : Option Claim) → old ≡ w → (q : Bool) → (if q then claimed_later h x w else w) ≡ Some v → ClaimIs s t c o k v
    by_later h w was false is = same (was ∙ is)
    by_later h None was true is = absurd (none_not_some is)
    by_later h (Some w) was true is = by (w.handle == h) refl is
      where
        by : (q : Bool) → (w.handle == h) ≡ q → (if q then claim h w.tag x else Some w) ≡ Some v → ClaimIs s t c o k v
        by false e is = same (was ∙ is)
        by true e is =
            let its = is_claim h w.tag x v is in
            inl (record { before = w; there = was; handle = its.0 ∙ sym (eqb-true w.handle h e); tag = its.1; stays = ap (λ (e : Event). is_lost e c) came })

    by_frames : (h : ℕ) (l : Link) (list : Received) → their_handle t c o x.handle ≡ Some (handle.Mapped h) → link t c o h ≡ Some l → l.happened ≡ receives list
        → (fs : List Frame) → middle list ≡ fs → claimed_in h x fs (is_beyond list) k old ≡ Some v → ClaimIs s t c o k v
    by_frames h l list on there receiving [] none is = by_first h l list on there receiving none (is_named x.delivery_id k && not (is_beyond list)) refl old refl is
    by_frames h l list on there receiving (f ∷ fs) some is = by_later h old refl (is_named (delivery f fs).id k) is

    by_happened : (h : ℕ) (l : Link) → their_handle t c o x.handle ≡ Some (handle.Mapped h) → link t c o h ≡ Some l → (w : Happened) → l.happened ≡ w → claimed_by h x w k old ≡ Some v → ClaimIs s t c o k v
    by_happened h l on there (sends list) e is = same is
    by_happened h l on there (receives list) e is = by_frames h l list on there e (middle list) refl is

    by_link : (h : ℕ) → their_handle t c o x.handle ≡ Some (handle.Mapped h) → (w : Option Link) → link t c o h ≡ w → claimed_on h x w k old ≡ Some v → ClaimIs s t c o k v
    by_link h on None there is = same is
    by_link h on (Some l) there is = by_happened h l on there l.happened refl is

    by_handle : (p : Option PeerHandle) → their_handle t c o x.handle ≡ p → claimed x p (link t c o) k old ≡ Some v → ClaimIs s t c o k v
    by_handle None on is = same is
    by_handle (Some handle.Detaching) on is = same is
    by_handle (Some (handle.Mapped h)) on is = by_link h on (link t c o h) refl is

pub came_claim : (s : Step) (t : List Entry) (c o k : ℕ) (v : Claim) → claims (Did s ∷ t) c o k ≡ Some v → ClaimIs s t c o k v
came_claim s t c o k v is = by s.event refl is
  where
    old : Option Claim
    old = claims t c o k

    same : is_lost s.event c ≡ false → old ≡ Some v → ClaimIs s t c o k v
    same stays is = inl (record { before = v; there = is; handle = refl; tag = refl; stays = stays })

    heard : (d : ConnectionId) (channel : ℕ) (body : Perf) (payload : List ℕ) → s.event ≡ event.Item d (item.Frame false channel body payload) → (d.0 == c) ≡ true → maps (theirs t c channel) o ≡ true
        → claim_in body (their_handle t c o) (link t c o) k old ≡ Some v → ClaimIs s t c o k v
    heard d channel (perf.Transfer x) payload came here session is = transfer_claim s t c o k v d channel x payload came here session is
    heard d channel (perf.Disposition x) payload came here session is = same (ap (λ (e : Event). is_lost e c) came) (settled_was x k old v is)
    heard d channel body payload came here session is = same (ap (λ (e : Event). is_lost e c) came) is

    item_here : (d : ConnectionId) (i : Item) → s.event ≡ event.Item d i → (d.0 == c) ≡ true → claim_by i o (theirs t c) (their_handle t c o) (link t c o) k old ≡ Some v → ClaimIs s t c o k v
    item_here d (item.Frame true channel body payload) came here is = same (ap (λ (e : Event). is_lost e c) came) is
    item_here d (item.Frame false channel body payload) came here is = test (maps (theirs t c channel) o) refl is
      where
        test : (q : Bool) → maps (theirs t c channel) o ≡ q → (if q then claim_in body (their_handle t c o) (link t c o) k old else old) ≡ Some v → ClaimIs s t c o k v
        test true e is = heard d channel body payload came here e is
        test false e is = same (ap (λ (e : Event). is_lost e c) came) is
    item_here d i came here is = same (ap (λ (e : Event). is_lost e c) came) is

    by : (e : Event) → s.event ≡ e → claim_at e c o (theirs t c) (their_handle t c o) (link t c o) k old ≡ Some v → ClaimIs s t c o k v
    by (event.Item d i) came is = test (d.0 == c) refl is
      where
        test : (q : Bool) → (d.0 == c) ≡ q → (if q then claim_by i o (theirs t c) (their_handle t c o) (link t c o) k old else old) ≡ Some v → ClaimIs s t c o k v
        test true e is = item_here d i came e is
        test false e is = same (ap (λ (e : Event). is_lost e c) came) is
    by (event.Down d) came is = test (d.0 == c) refl is
      where
        test : (q : Bool) → (d.0 == c) ≡ q → (if q then None else old) ≡ Some v → ClaimIs s t c o k v
        test true e is = absurd (none_not_some is)
        test false e is = same (ap (λ (e : Event). is_lost e c) came ∙ e) is
    by (event.Up d p) came is = same (ap (λ (e : Event). is_lost e c) came) is
    by (event.Tick ms) came is = same (ap (λ (e : Event). is_lost e c) came) is
    by event.Start came is = same (ap (λ (e : Event). is_lost e c) came) is

-- what is said of the delivery in the middle of a link after an event: what was, or what a first frame says

pub record NewSaid (s : Step) (t : List Entry) (c o h : ℕ) (said : Said) : Type 0 where
  pub x : Transfer
  pub first : FirstFrame s t c o h x
  pub says : said ≡ said_in x

abbrev pub SaidIs : Step → List Entry → ℕ → ℕ → ℕ → Said → Type 0
SaidIs s t c o h said = (said_of (link t c o h) ≡ Some said) ⊎ NewSaid s t c o h said

either_said : (q : Bool) (n : ℕ) (list : Received) → said_first (middle (if q then receiving.TheirCount n ∷ list else list)) ≡ said_first (middle list)
either_said true n list = refl
either_said false n list = refl

counted_said : (n : Option ℕ) (list : Received) → said_first (middle (with_count n list)) ≡ said_first (middle list)
counted_said None list = refl
counted_said (Some n) list = either_said _ n list

flow_said : (f : Flow) (v : Option Link) → said_of (option_map (after_their_flow f) v) ≡ said_of v
flow_said f None = refl
flow_said f (Some l) = by l.happened
  where
    by : (h : Happened) → said_by (flowed_to f h) ≡ said_by h
    by (sends list) = refl
    by (receives list) = counted_said f.delivery_count list

transfer_said : (s : Step) (t : List Entry) (c o h : ℕ) (said : Said) (d : ConnectionId) (channel : ℕ) (x : Transfer) (payload : List ℕ)
    → s.event ≡ event.Item d (item.Frame false channel (perf.Transfer x) payload) → (d.0 == c) ≡ true → maps (theirs t c channel) o ≡ true
    → their_handle t c o x.handle ≡ Some (handle.Mapped h) → said_of (option_map (after_their_transfer x payload) (link t c o h)) ≡ Some said → SaidIs s t c o h said
transfer_said s t c o h said d channel x payload came here session on is = by_link (link t c o h) refl is
  where
    new : (l : Link) (list : Received) → link t c o h ≡ Some l → l.happened ≡ receives list → middle list ≡ [] → said_in x ≡ said → SaidIs s t c o h said
    new l list there receiving none says =
        inr (record {
          x = x;
          first = record {
            conn = d;
            channel = channel;
            payload = payload;
            came = came;
            here = here;
            session = session;
            on_handle = on;
            at = l;
            there = there;
            list = list;
            receiving = receiving;
            none = none;
          };
          says = sym says;
        })

    was : (l : Link) (w : Happened) → link t c o h ≡ Some l → l.happened ≡ w → said_by w ≡ Some said → SaidIs s t c o h said
    was l w there e is = inl (ap said_of there ∙ ap said_by e ∙ is)

    by_still : (l : Link) (list : Received) → link t c o h ≡ Some l → l.happened ≡ receives list → (fs : List Frame) → middle list ≡ fs → (q : Bool)
        → said_first (if q then frame x payload ∷ fs else []) ≡ Some said → SaidIs s t c o h said
    by_still l list there receiving fs m false is = absurd (none_not_some is)
    by_still l list there receiving [] m true is = new l list there receiving m (some_same is)
    by_still l list there receiving (g ∷ gs) m true is = was l (receives list) there receiving (ap said_first m ∙ is)

    by_beyond : (l : Link) (list : Received) → link t c o h ≡ Some l → l.happened ≡ receives list → (q : Bool)
        → said_first (middle (if q then list else receiving.TheirTransfer (frame x payload) ∷ list)) ≡ Some said → SaidIs s t c o h said
    by_beyond l list there receiving true is = was l (receives list) there receiving is
    by_beyond l list there receiving false is = by_still l list there receiving (middle list) refl (goes_on (frame x payload)) is

    by_happened : (l : Link) → link t c o h ≡ Some l → (w : Happened) → l.happened ≡ w → said_by (came_to x payload w) ≡ Some said → SaidIs s t c o h said
    by_happened l there (sends list) e is = was l (sends list) there e is
    by_happened l there (receives list) e is = by_beyond l list there e (is_beyond list) is

    by_link : (v : Option Link) → link t c o h ≡ v → said_of (option_map (after_their_transfer x payload) v) ≡ Some said → SaidIs s t c o h said
    by_link None there is = absurd (none_not_some is)
    by_link (Some l) there is = by_happened l there l.happened refl is

pub came_said : (s : Step) (t : List Entry) (c o h : ℕ) (said : Said) → said_of (link (Did s ∷ t) c o h) ≡ Some said → SaidIs s t c o h said
came_said s t c o h said is = by s.event refl is
  where
    v : Option Link
    v = link t c o h

    named : (p : Option PeerHandle) → names p h ≡ true → p ≡ Some (handle.Mapped h)
    named None e = absurd cc
    named (Some handle.Detaching) e = absurd cc
    named (Some (handle.Mapped k)) e = ap (λ (n : ℕ). Some (handle.Mapped n)) (eqb-true k h e)

    flowed : (f : Flow) (q : Bool) → said_of (if q then option_map (after_their_flow f) v else v) ≡ Some said → SaidIs s t c o h said
    flowed f true is = inl (sym (flow_said f v) ∙ is)
    flowed f false is = inl is

    heard : (d : ConnectionId) (channel : ℕ) (body : Perf) (payload : List ℕ) → s.event ≡ event.Item d (item.Frame false channel body payload) → (d.0 == c) ≡ true → maps (theirs t c channel) o ≡ true
        → said_of (heard_link body payload h (their_handle t c o) v) ≡ Some said → SaidIs s t c o h said
    heard d channel (perf.Flow f) payload came here session is = flowed f (names_by f.handle (their_handle t c o) h) is
    heard d channel (perf.Transfer x) payload came here session is = test (names (their_handle t c o x.handle) h) refl is
      where
        test : (q : Bool) → names (their_handle t c o x.handle) h ≡ q → said_of (if q then option_map (after_their_transfer x payload) v else v) ≡ Some said → SaidIs s t c o h said
        test true e is = transfer_said s t c o h said d channel x payload came here session (named (their_handle t c o x.handle) e) is
        test false e is = inl is
    heard d channel body payload came here session is = inl is

    item_here : (d : ConnectionId) (i : Item) → s.event ≡ event.Item d i → (d.0 == c) ≡ true → said_of (link_by i o h (theirs t c) (their_handle t c o) v) ≡ Some said → SaidIs s t c o h said
    item_here d (item.Frame true channel body payload) came here is = inl is
    item_here d (item.Frame false channel body payload) came here is = test (maps (theirs t c channel) o) refl is
      where
        test : (q : Bool) → maps (theirs t c channel) o ≡ q → said_of (if q then heard_link body payload h (their_handle t c o) v else v) ≡ Some said → SaidIs s t c o h said
        test true e is = heard d channel body payload came here e is
        test false e is = inl is
    item_here d i came here is = inl is

    by : (e : Event) → s.event ≡ e → said_of (link_at e c o h (theirs t c) (their_handle t c o) v) ≡ Some said → SaidIs s t c o h said
    by (event.Item d i) came is = test (d.0 == c) refl is
      where
        test : (q : Bool) → (d.0 == c) ≡ q → said_of (if q then link_by i o h (theirs t c) (their_handle t c o) v else v) ≡ Some said → SaidIs s t c o h said
        test true e is = item_here d i came e is
        test false e is = inl is
    by (event.Down d) came is = test (d.0 == c) is
      where
        test : (q : Bool) → said_of (if q then None else v) ≡ Some said → SaidIs s t c o h said
        test true is = absurd (none_not_some is)
        test false is = inl is
    by (event.Up d p) came is = inl is
    by (event.Tick ms) came is = inl is
    by event.Start came is = inl is

-- an event leaves it in order

pub record Begun (t : List Entry) (c o h : ℕ) (x : Transfer) : Type 0 where
  pub tagged : is_some (tag_in x) ≡ true
  pub small : (k : ℕ) → x.delivery_id ≡ Some k → k < 2 ^ 32
  pub fresh : (k : ℕ) → x.delivery_id ≡ Some k → claims t c o k ≡ None
  pub unused : (key : LinkKey) (tag : List ℕ) (k : ℕ) (v : Claim) → durable_key (link t c o h) ≡ Some key → tag_in x ≡ Some tag → claims t c o k ≡ Some v → v.handle ≡ h → v.tag ≡ Some tag → ⊥

abbrev pub AreBegun : Step → List Entry → List Change → Type 0
AreBegun s t ys = (c o h : ℕ) (x : Transfer) → FirstFrame s t c o h x → is_ending ys (place c o h) ≡ false → Begun t c o h x

-- an event is one transfer
pub one_transfer : (s : Step) (t : List Entry) (c d o p h g : ℕ) (x y : Transfer) → FirstFrame s t c o h x → FirstFrame s t d p g y → x ≡ y
one_transfer s t c d o p h g x y first other = ap said (sym first.came ∙ other.came)
  where
    carried : Perf → Transfer
    carried (perf.Transfer z) = z
    carried _ = x

    in_item : Item → Transfer
    in_item (item.Frame sasl channel body payload) = carried body
    in_item _ = x

    said : Event → Transfer
    said (event.Item c i) = in_item i
    said _ = x

first_is_lost : (s : Step) (t : List Entry) (c o h : ℕ) (x : Transfer) → FirstFrame s t c o h x → is_lost s.event c ≡ false
first_is_lost s t c o h x first = ap (λ (e : Event). is_lost e c) first.came

first_link : (s : Step) (t : List Entry) (c o h : ℕ) (x : Transfer) → FirstFrame s t c o h x → LinkStays t (Did s ∷ t) c o h
first_link s t c o h x first = did_stays s t c o h (ap is_some first.there) (first_is_lost s t c o h x first)

pub none_said : (s : Step) (t : List Entry) (c o h : ℕ) (x : Transfer) → FirstFrame s t c o h x → said_of (link t c o h) ≡ None
none_said s t c o h x first = ap said_of first.there ∙ ap said_by first.receiving ∙ ap said_first first.none

pub did_owned : (s : Step) (t : List Entry) (ys : List Change) → AreBegun s t ys → Owned t [] → Owned (Did s ∷ t) ys
did_owned s t ys begun was = record {
  links = λ c o k v is. (stays c o k v (came_claim s t c o k v is)).now;
  one = λ c o j k v w key tag free durable first second same has too. by_one c o j k v w key tag free durable same has too first (came_claim s t c o j v first) (came_claim s t c o k w second);
  ids = λ c o k v free is. by_ids c o k v free (came_claim s t c o k v is);
  tagged = λ c o h said free is. by_tagged c o h said free (came_said s t c o h said is);
  tags = λ c o h k said v free is named claimed on. by_tags c o h k said v free named on (came_said s t c o h said is) (came_claim s t c o k v claimed);
  alone = λ c o h k said v key tag free durable is claimed on named has. by_alone c o h k said v key tag free durable on named has (came_said s t c o h said is) (came_claim s t c o k v claimed);
}
  where
    stays : (c o k : ℕ) (v : Claim) → ClaimIs s t c o k v → LinkStays t (Did s ∷ t) c o v.handle
    stays c o k v (inl old) = did_stays s t c o v.handle (ap (λ (h : ℕ). is_some (link t c o h)) old.handle ∙ was.links c o k old.before old.there) old.stays
    stays c o k v (inr new) = first_link s t c o v.handle new.x new.first

    clashes : (c o j k : ℕ) (v w : Claim) (key : LinkKey) (tag : List ℕ) → is_ending ys (place c o w.handle) ≡ false → durable_key (link t c o w.handle) ≡ Some key → v.handle ≡ w.handle
        → v.tag ≡ Some tag → w.tag ≡ Some tag → OldClaim s t c o j v → NewClaim s t c o k w → ⊥
    clashes c o j k v w key tag free durable same has too old new =
        (begun c o w.handle new.x new.first free).unused key tag j old.before durable (sym new.tag ∙ too) old.there (sym old.handle ∙ same) (sym old.tag ∙ has)

    by_one : (c o j k : ℕ) (v w : Claim) (key : LinkKey) (tag : List ℕ) → is_ending ys (place c o v.handle) ≡ false → durable_key (link (Did s ∷ t) c o v.handle) ≡ Some key → v.handle ≡ w.handle
        → v.tag ≡ Some tag → w.tag ≡ Some tag → claims (Did s ∷ t) c o j ≡ Some v → ClaimIs s t c o j v → ClaimIs s t c o k w → j ≡ k
    by_one c o j k v w key tag free durable same has too first is other = by is other
      where
        before : durable_key (link t c o v.handle) ≡ Some key
        before = (stays c o j v is).durable ∙ durable

        by : ClaimIs s t c o j v → ClaimIs s t c o k w → j ≡ k
        by (inl a) (inl b) =
            was.one c o j k a.before b.before key tag refl (ap (λ (h : ℕ). durable_key (link t c o h)) (sym a.handle) ∙ before) a.there b.there (sym a.handle ∙ same ∙ b.handle) (sym a.tag ∙ has) (sym b.tag ∙ too)
        by (inl a) (inr b) =
            absurd (clashes c o j k v w key tag (ap (λ (h : ℕ). is_ending ys (place c o h)) (sym same) ∙ free) (ap (λ (h : ℕ). durable_key (link t c o h)) (sym same) ∙ before) same has too a b)
        by (inr a) (inl b) = absurd (clashes c o k j w v key tag free before (sym same) too has b a)
        by (inr a) (inr b) = some_same (sym a.id ∙ ap (λ (x : Transfer). x.delivery_id) (one_transfer s t c c o o v.handle w.handle a.x b.x a.first b.first) ∙ b.id)

    by_ids : (c o k : ℕ) (v : Claim) → is_ending ys (place c o v.handle) ≡ false → ClaimIs s t c o k v → k < 2 ^ 32
    by_ids c o k v free (inl old) = was.ids c o k old.before refl old.there
    by_ids c o k v free (inr new) = (begun c o v.handle new.x new.first free).small k new.id

    by_tagged : (c o h : ℕ) (said : Said) → is_ending ys (place c o h) ≡ false → SaidIs s t c o h said → is_some said.tag ≡ true
    by_tagged c o h said free (inl old) = was.tagged c o h said refl old
    by_tagged c o h said free (inr new) = ap (λ (x : Said). is_some x.tag) new.says ∙ (begun c o h new.x new.first free).tagged

    by_tags : (c o h k : ℕ) (said : Said) (v : Claim) → is_ending ys (place c o h) ≡ false → said.id ≡ Some k → v.handle ≡ h → SaidIs s t c o h said → ClaimIs s t c o k v → v.tag ≡ said.tag
    by_tags c o h k said v free named on (inl old) (inl claim) = claim.tag ∙ was.tags c o h k said claim.before refl old named claim.there (sym claim.handle ∙ on)
    by_tags c o h k said v free named on (inl old) (inr claim) =
        absurd (none_not_some (sym (ap (λ (g : ℕ). said_of (link t c o g)) (sym on) ∙ none_said s t c o v.handle claim.x claim.first) ∙ old))
    by_tags c o h k said v free named on (inr new) (inl claim) =
        absurd (none_not_some (sym ((begun c o h new.x new.first free).fresh k (sym (ap (λ (x : Said). x.id) new.says) ∙ named)) ∙ claim.there))
    by_tags c o h k said v free named on (inr new) (inr claim) =
        claim.tag ∙ ap tag_in (one_transfer s t c c o o v.handle h claim.x new.x claim.first new.first) ∙ sym (ap (λ (x : Said). x.tag) new.says)

    by_alone : (c o h k : ℕ) (said : Said) (v : Claim) (key : LinkKey) (tag : List ℕ) → is_ending ys (place c o h) ≡ false → durable_key (link (Did s ∷ t) c o h) ≡ Some key → v.handle ≡ h
        → said.tag ≡ Some tag → v.tag ≡ Some tag → SaidIs s t c o h said → ClaimIs s t c o k v → said.id ≡ Some k
    by_alone c o h k said v key tag free durable on named has is claimed = by is claimed
      where
        before : durable_key (link t c o h) ≡ Some key
        before =
            ap (λ (g : ℕ). durable_key (link t c o g)) (sym on) ∙ (stays c o k v claimed).durable ∙ ap (λ (g : ℕ). durable_key (link (Did s ∷ t) c o g)) on ∙ durable

        by : SaidIs s t c o h said → ClaimIs s t c o k v → said.id ≡ Some k
        by (inl old) (inl claim) = was.alone c o h k said claim.before key tag refl before old claim.there (sym claim.handle ∙ on) named (sym claim.tag ∙ has)
        by (inl old) (inr claim) = absurd (none_not_some (sym (ap (λ (g : ℕ). said_of (link t c o g)) (sym on) ∙ none_said s t c o v.handle claim.x claim.first) ∙ old))
        by (inr new) (inl claim) =
            absurd ((begun c o h new.x new.first free).unused key tag k claim.before before (sym (ap (λ (x : Said). x.tag) new.says) ∙ named) claim.there (sym claim.handle ∙ on) (sym claim.tag ∙ has))
        by (inr new) (inr claim) =
            ap (λ (x : Said). x.id) new.says ∙ ap (λ (x : Transfer). x.delivery_id) (one_transfer s t c c o o h v.handle new.x claim.x new.first claim.first) ∙ claim.id
